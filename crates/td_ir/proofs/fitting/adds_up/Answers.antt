use Rattle.std.proofs.Common.{◌≡◌, suc, length, arith, ap}
use Rattle.td_ir.specs.Tables.{lengths_of, routine_of}
use Rattle.td_ir.proofs.Begins.{begin_next, begin_up}
use Rattle.td_ir.proofs.fitting.adds_up.Goals as goal

pub returns-then-length-left : goal.returns-then-length-left
returns-then-length-left c =
    let parts = c.args.parts.now in
    let up = begin_up (lengths_of parts) (suc c.loop-k.k) (length parts.routines) (omega arith) in
    let next = begin_next parts c.loop-k.k in
    let here : c.routine_at.result.now.length ≡ (routine_of parts c.loop-k.k).length = ap (λ r. r.length) c.routine_at.ensures in
    let i = c.loop-k.invariant in
    ((λ e. absurd (cc)), λ w. absurd (omega (arith, up, next, here, i, w)))
