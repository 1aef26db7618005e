use Rattle.std.proofs.Common.{ap, ◌∙◌, true, codes}
use Rattle.clap.specs.Words.{App, with_subcommand}
use Rattle.clap.specs.Simple.{app_of_fields, on_top}
use Rattle.td_c_command.specs.Command.{command_app, named_shape}
use Rattle.td_c_command.proofs.command.command_app.Goals as goal

pub returns : goal.returns
unfolding command_app
returns c =
    let first = c.in_ok-tool.ensures ∙ ap (λ (a : App). with_subcommand a (named_shape (codes "c"))) c.new-tool.ensures.app in
    let all = c.in_ok-tool-2.ensures ∙ ap (λ (a : App). with_subcommand a (named_shape (codes "header"))) first in
    let whole = c.in_ok-tool-3.ensures ∙ ap (λ (a : App). with_subcommand a (named_shape (codes "parts"))) all in
    ap app_of_fields c.subcommand_required.ensures ∙ ap (on_top (λ s. record s { subcommand_required = true })) whole
