use Rattle.td_sched.proofs.Memory.{next_is}
use Rattle.td_sched.proofs.laws.next_load_is_planned.Goals as goal

pub returns : goal.returns
returns c = next_is
