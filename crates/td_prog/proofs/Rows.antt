-- Worked rows: what C leaves undefined, or cuts.
use Rattle.std.proofs.Common.{◌≡◌, ℕ, ◌-◌, ◌^◌, [], ◌∷◌, refl}
use Rattle.std.specs.Prelude.{codes}
use Rattle.td_core.specs.declared.module.NameId.{NameId}
use Rattle.td_core.specs.declared.outcome.Spot.{Spot}
use Rattle.td_prog.specs.Tree.{Tree, Done}
use Rattle.td_prog.specs.Syntax.{Reg, Get, Ends, Return, Helper}
use Rattle.td_prog.specs.Values.{Locals}
use Rattle.td_prog.specs.Means.{Out, Gave, Undefined, Continuation, after_routine}
use Rattle.td_prog.specs.Run.{started, helpers_below}

-- a routine that gives TD_FAILED is undefined
failed_value : (ty : NameId) (field : Spot) (s t : Locals) (go : Continuation) → after_routine ty field s go (Gave (2 ^ 64 - 1) t) ≡ Done Undefined
failed_value ty field s t go = refl

-- a helper's register is a variable as any other
abbrev identity : Helper
identity = record { name = codes "f"; params = Reg 2 ∷ []; locals = []; buffers = 0; body = Return (Get (Reg 2)) Ends }

abbrev value_of : Tree Out → ℕ
value_of (Done (Gave v s)) = v
value_of t = 0

register_kept : value_of (helpers_below 1 (identity ∷ []) 1 0 (7 ∷ []) [] (started 0 [] [])) ≡ 7
register_kept = refl
