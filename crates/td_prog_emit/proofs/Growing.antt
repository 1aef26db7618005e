-- Routines, one more each time.
use Rattle.std.proofs.Common.{◌≡◌, ℕ, zero, suc, ◌+◌, ◌-◌, List, [], ◌∷◌, ◌++◌, take, drop, flat_map, sym, ap, ◌∙◌, arith}
use Rattle.std.specs.Prelude.{slice_range}
use Rattle.std.proofs.Common.{drop-drop}
use Rattle.std.proofs.lemmas.List.{append-nil}
use Rattle.std.proofs.lemmas.Grind.{flat_map-append}
use Rattle.td_ir.proofs.Begins.{begin_next}
use Rattle.td_ir.specs.declared.instructions.Instr.{Instr}
use Rattle.td_ir.specs.declared.tables.Parts.{Parts}
use Rattle.td_ir.specs.Tables.{end_of, first_of, routine_of}
use Rattle.td_prog.specs.Syntax.{Function}
use Rattle.td_prog_code.specs.Program.{function, functions}
use Rattle.td_prog_text.specs.Expressions.{Pieces, text}

one_more : (c : Parts) (names : ℕ → List ℕ) (first k : ℕ) → functions c names first (suc k) ≡ functions c names first k ++ function c names (first + k) ∷ []
one_more c names first zero = let e : first ≡ first + 0 = omega arith in ap (λ (n : ℕ). function c names n ∷ []) e
one_more c names first (suc k) =
    let e : first + 1 + k ≡ first + suc k = omega arith in
    ap (λ (fs : List Function). function c names first ∷ fs) (one_more c names (first + 1) k) ∙ ap (λ (n : ℕ). functions c names first (suc k) ++ function c names n ∷ []) e

pub functions_more : (c : Parts) (names : ℕ → List ℕ) (write : Function → Pieces) (k : ℕ) → text (flat_map write (functions c names 0 k) ++ write (function c names k)) ≡ text (flat_map write (functions c names 0 (k + 1)))
functions_more c names write k =
    let e : suc k ≡ k + 1 = omega arith in
    let z : 0 + k ≡ k = omega arith in
    ap (λ (ps : Pieces). text (flat_map write (functions c names 0 k) ++ ps)) (sym (append-nil (write (function c names k))))
    ∙ ap text (sym (flat_map-append write (functions c names 0 k) (function c names k ∷ [])))
    ∙ ap (λ (n : ℕ). text (flat_map write (functions c names 0 k ++ function c names n ∷ []))) (sym z)
    ∙ ap (λ (fs : List Function). text (flat_map write fs)) (sym (one_more c names 0 k) ∙ ap (functions c names 0) e)

module _ (c : Parts) (n : ℕ) where
  pub end_is : end_of c n ≡ first_of c n + (routine_of c n).length
  end_is = begin_next c n

  pub own_is : (rest : List Instr) (count : ℕ) → rest ≡ drop (first_of c n) c.instructions → count ≡ (routine_of c n).length → take count rest ≡ slice_range c.instructions (first_of c n) (end_of c n)
  own_is rest count e f =
      let h = end_is in
      let same : count ≡ end_of c n - first_of c n = omega (arith, f, h) in
      ap (take count) e ∙ ap (λ (k : ℕ). take k (drop (first_of c n) c.instructions)) same

  pub rest_is : (rest : List Instr) (count : ℕ) → rest ≡ drop (first_of c n) c.instructions → count ≡ (routine_of c n).length → drop count rest ≡ drop (first_of c (n + 1)) c.instructions
  rest_is rest count e f =
      let h = end_is in
      let same : first_of c n + count ≡ end_of c n = omega (arith, f, h) in
      let more : suc n ≡ n + 1 = omega arith in
      ap (drop count) e ∙ drop-drop count (first_of c n) c.instructions ∙ ap (λ (k : ℕ). drop k c.instructions) (same ∙ ap (first_of c) more)
