use Rattle.td_prog_emit.proofs.calls.push_called.Goals as goal
use Rattle.std.proofs.Common.{length}
use Rattle.td_prog_emit.proofs.Arguments.{name_there}
use Rattle.td_prog_emit.proofs.Texts.{same_piece}
use Rattle.td_prog_text.specs.Names.{routine_name}

pub returns : goal.returns
returns c = same_piece c.push_routine_name.ensures (name_there c.args.parts.now (routine_name c.args.parts.now) (length c.args.parts.now.routines) c.args.n c.requires.routine)
