use Rattle.std.proofs.Common.{◌+◌, ◌*◌}
use Rattle.td_core.specs.Term.{length_of}
use Rattle.td_core.proofs.+copy_action.Given as goal

abbrev pub decreases-actions::Action::copy : goal.decreases-actions::Action::copy
decreases-actions::Action::copy l = 4 * length_of l.self.now

abbrev pub decreases-copying::copy_rest : goal.decreases-copying::copy_rest
decreases-copying::copy_rest l = 4 * length_of l.a.now + 1

abbrev pub decreases-copying::copy_rests : goal.decreases-copying::copy_rests
decreases-copying::copy_rests l = 4 * (length_of l.one.now + (length_of l.other.now + length_of l.then.now)) + 3
