use Rattle.std.proofs.Common.{ap, ◌∙◌}
use Rattle.clap.specs.Words.{app_of, with_subcommand}
use Rattle.td_c_command.proofs.command.with_command.Goals as goal

pub returns : goal.returns
returns c =
    c.in_ok-made.ensures.shape c.in_ok-command.ensures.local ∙ ap (with_subcommand (app_of c.args.tool)) c.in_ok-command.ensures.shape
