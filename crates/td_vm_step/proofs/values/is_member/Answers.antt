use Rattle.std.proofs.Common.{sym}
use Rattle.td_vm_step.proofs.Members.{found, missing}
use Rattle.td_vm_step.proofs.values.is_member.Goals as goal

pub returns-in-Ok : goal.returns-in-Ok
returns-in-Ok c = sym (found c.args.number c.args.set.now c.requires _ c.in-Ok.ensures.position)

pub returns-in-Err : goal.returns-in-Err
returns-in-Err c = sym (missing c.args.number c.args.set.now c.requires _ c.in-Err.ensures.position)
