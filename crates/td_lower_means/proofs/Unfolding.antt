-- The exit from one instruction on, by that of the instructions to which it leads.
use Rattle.std.proofs.Common.{◌≡◌, ℕ, suc, ◌+◌, ◌-◌, ◌<◌, ◌≤◌, List, ◌∷◌, length, ap, ◌∙◌, arith, take, drop}
use Rattle.std.specs.Prelude.{slice_index_or, slice_range}
use Rattle.std.proofs.Math.Seq.{drop-cons}
use Rattle.td_lower_means.specs.Imports.{Parts, Instr}
use Rattle.td_ir.specs.declared.instructions.Instr.TheVariants as i
use Rattle.td_ir.specs.Tables.{instruction_of, end_of}
use Rattle.td_ir.specs.State.{State}
use Rattle.td_ir.specs.Flow.{effect}
use Rattle.td_ir.specs.Run.{follow, pick, exits, calls_of, block}
use Rattle.td_ir.proofs.Blocks.{jump}

range_first : {X : Type 0} (xs : List X) (a to : ℕ) (d : X) → a < to → to ≤ length xs → slice_range xs a to ≡ slice_index_or xs a d ∷ slice_range xs (a + 1) to
range_first {X} xs a to d l within =
    let e : to - a ≡ suc (to - (a + 1)) = omega arith in
    let n : suc a ≡ a + 1 = omega arith in
    ap (λ m. take m (drop a xs)) e
    ∙ ap (λ ys. take (suc (to - (a + 1))) ys) (drop-cons xs a d (omega (arith, l, within)))
    ∙ ap (λ m. slice_index_or xs a d ∷ take (to - (a + 1)) (drop m xs)) n

pub opened : (c : Parts) (message places : List ℕ) (n pc : ℕ) (s : State) (j : Instr) → instruction_of c pc ≡ j → pc < end_of c n → end_of c n ≤ length c.instructions
    → block c message n places pc s ≡ follow c (calls_of c message n places) pc (jump c message n places pc) (effect c n message places pc j s)
opened c message places n pc s j e l within =
    ap (λ js. pick (exits c n message places (calls_of c message n places) pc js) 0 s) (range_first c.instructions pc (end_of c n) (i.Fail 0 0) l within)
    ∙ ap (λ j. follow c (calls_of c message n places) pc (jump c message n places pc) (effect c n message places pc j s)) e
