use Rattle.std.proofs.Common.{ap, ap₂, ◌∙◌, true, codes}
use Rattle.clap.specs.Words.{App, with_subcommand}
use Rattle.clap.specs.Simple.{app_of_fields, new_shape, on_top}
use Rattle.td_cli_command.specs.Command.{command_app}
use Rattle.td_cli_command.proofs.command.command_app.Goals as goal

pub returns : goal.returns
unfolding command_app
returns c =
    let first = c.in_ok-tool.ensures ∙ ap (λ (a : App). with_subcommand a (new_shape (codes "check"))) c.new-tool.ensures.app in
    let second = c.in_ok-tool-2.ensures ∙ ap (λ (a : App). with_subcommand a (new_shape (codes "tidy"))) first in
    let third = c.in_ok-tool-3.ensures ∙ ap (λ (a : App). with_subcommand a (new_shape (codes "run"))) second in
    let fourth = c.in_ok-tool-4.ensures ∙ ap (λ (a : App). with_subcommand a (new_shape (codes "host"))) third in
    let fifth = c.in_ok-tool-5.ensures ∙ ap (λ (a : App). with_subcommand a (new_shape (codes "code"))) fourth in
    let sixth = c.in_ok-tool-6.ensures ∙ ap (λ (a : App). with_subcommand a (new_shape (codes "pack"))) fifth in
    let all = c.in_ok-tool-7.ensures.shape c.in_ok-bench.ensures.local ∙ ap₂ with_subcommand sixth c.in_ok-bench.ensures.shape in
    ap app_of_fields c.subcommand_required.ensures ∙ ap (on_top (λ s. record s { subcommand_required = true })) all
