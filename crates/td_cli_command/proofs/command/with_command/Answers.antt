use Rattle.std.proofs.Common.{ap, ◌∙◌}
use Rattle.clap.specs.Words.{App, app_of, with_subcommand}
use Rattle.td_cli_command.proofs.command.with_command.Goals as goal

pub returns : goal.returns
returns c =
    c.in_ok-made.ensures.shape c.new-command.ensures.local ∙ ap (λ (a : App). with_subcommand (app_of c.args.tool) a.top) c.new-command.ensures.app
