use Rattle.std.proofs.Common.{suc, ◌^◌, ◌≤◌, Some, subst, arith}
use Rattle.td_lower_blocks.specs.Tops.{action_top}
use Rattle.td_lower_emit.proofs.Values.{some_deed}
use Rattle.td_lower_emit.proofs.fields.write_effect.Goals as goal

pub overflow_add-t : goal.overflow_add-t
overflow_add-t c =
    let L = c.args.level in
    let T = c.args.t in
    let r : action_top (suc L) (suc T) (Some c.in-Some.action) ≤ 2 ^ 16 = subst (λ o. action_top (suc L) (suc T) o ≤ 2 ^ 16) c.in-Some.is c.requires.registers in
    let s = some_deed (suc (suc L)) (suc T) c.in-Some.action in
    omega (arith, r, s)
