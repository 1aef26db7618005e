use Rattle.std.proofs.Common.{◌≡◌, ◌++◌, drop}
use Rattle.td_elab_rules.specs.Types.{args_buffers}
use Rattle.td_elab_types.proofs.buffers.add_buffers.Given as goal

abbrev pub invariant-loop-i : goal.invariant-loop-i
invariant-loop-i l = l.buffers ++ args_buffers l.known l.scope (drop l.i l.parameters) (drop l.i l.args) ≡ l.fn.buffers ++ args_buffers l.known l.scope l.parameters l.args
