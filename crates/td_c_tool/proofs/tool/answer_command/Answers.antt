use Rattle.std.proofs.Common.{refl}
use Rattle.td_c_ends.specs.Passages.{passage}
use Rattle.td_c_tool.proofs.Calls.{name_call, never_read, not_prefix}
use Rattle.td_c_tool.proofs.tool.answer_command.Goals as goal

pub returns-else-is_prefix : goal.returns-else-is_prefix
returns-else-is_prefix g c =
    λ words means.
    name_call words c.args.command.now c.finish_refused.result (passage g.S.Source.state c.args.src.now c.args.src.now) (passage g.O.Sink.state c.args.out.now c.args.out.now) (passage g.E.Sink.state c.args.err.now c.finish_refused.new.err)
    means (not_prefix c.is_prefix.result c.as_slice.result.now c.args.command.now.prefix c.as_slice.ensures c.is_prefix.ensures c.if-is_prefix.false) (never_read g.S.Source.state c.args.src.now) (c.finish_refused.ensures, refl)
