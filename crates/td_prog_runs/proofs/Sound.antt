-- The theorem for code that the verifier accepts. Cited by other crates.
use Rattle.std.proofs.Common.{◌≡◌, ℕ, Bool, true, ◌&&◌, List}
use Rattle.std.specs.Prelude.{nat_lt, nat_eq}
use Rattle.std.proofs.lemmas.Bool.{lt-ltb}
use Rattle.td_num.proofs.Truths.{is_eq}
use Rattle.td_ir.specs.declared.tables.Parts.{Parts}
use Rattle.td_ir.specs.WellFormed.{IsCode}
use Rattle.td_verify.specs.declared.shape.Shape.TheVariants.{While}
use Rattle.td_verify.specs.Shape.{shapes_of}
use Rattle.td_verify.specs.Brackets.{shape_at}
use Rattle.td_verify.specs.Verify.{IsIn, IsSound}
use Rattle.td_verify.specs.Safe.{IsSafe}
use Rattle.td_verify_runs.specs.Laws.{RunAnswers, TurnTakes}
use Rattle.td_prog_steps.specs.Laid.{IsBusy}
use Rattle.td_prog_runs.specs.Theorem.{CodeInC, CodeInParts, SoundCodeInC, SoundCodeInParts}
use Rattle.td_prog_runs.proofs.Laying.{sound_is_laid}

both_so : (a b : Bool) → a ≡ true → b ≡ true → (a && b) ≡ true
both_so a b e f = (λ i. e i && f i)

pub busy : TurnTakes → (c : Parts) → IsCode c → IsSound c → (message places : List ℕ) (n pc t : ℕ) → IsIn c n pc → shape_at (shapes_of c) pc ≡ While t
    → IsBusy c message places n pc
busy takes c code sound message places n pc q i is s t h l e =
    let r = takes c message places n pc q s t code sound i is h l e in
    both_so (nat_lt s.pos t.pos) (nat_eq t.end s.end) (lt-ltb s.pos t.pos r.0) (is_eq t.end s.end r.1)

pub sound_code_in_c : ((c : Parts) → IsCode c → IsSound c → IsSafe c) → RunAnswers → TurnTakes → CodeInC → SoundCodeInC
sound_code_in_c safe_of answers takes code_in_c c start code sound numbers is =
    code_in_c c start (sound_is_laid c code sound (safe_of c code sound) numbers (busy takes c code sound)) is
    (λ b long bytes. answers c start.routine start.args start.cells b code sound is.there)

pub sound_code_in_parts : ((c : Parts) → IsCode c → IsSound c → IsSafe c) → RunAnswers → TurnTakes → CodeInParts → SoundCodeInParts
sound_code_in_parts safe_of answers takes code_in_parts c start layout same code sound numbers is =
    code_in_parts c start layout same (sound_is_laid c code sound (safe_of c code sound) numbers (busy takes c code sound)) is
    (λ b long bytes. answers c start.routine start.args start.cells b code sound is.there)
