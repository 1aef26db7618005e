use Rattle.std.proofs.Common.{◌≡◌, ap, ◌∙◌, true, false, Some, codes}
use Rattle.clap.specs.Simple.{new_rule}
use Rattle.clap.specs.Walk.{Rule, rule_of}
use Rattle.clap.specs.declared.builder.action.ArgAction.TheVariants.{Set}
use Rattle.clap.specs.declared.builder.arg.Arg.{Arg}
use Rattle.td_cli_command.proofs.Matches.{bench_shape, bench_plain}
use Rattle.td_cli_command.proofs.command.bench_command.Goals as goal

pub returns-clause-shape : goal.returns-clause-shape
returns-clause-shape c =
    let rule : rule_of c.action-number.result ≡ record (new_rule (codes "N")) { required = true; action = Some Set } =
    ap rule_of c.action-number.ensures ∙ ap (λ (r : Rule). record r { action = Some Set }) (ap rule_of c.required.ensures ∙ ap (λ (r : Rule). record r { required = true }) c.new-number.ensures.rule) in
    let own : c.action-number.result.global ≡ false = ap (λ (a : Arg). a.global) c.action-number.ensures ∙ ap (λ (a : Arg). a.global) c.required.ensures ∙ c.new-number.ensures.optional.1 in
    bench_shape c.new-command.result c.in_ok-made.made c.action-number.result c.new-command.ensures.app own rule c.in_ok-made.ensures

pub returns-clause-local : goal.returns-clause-local
returns-clause-local c =
    let own : c.action-number.result.global ≡ false = ap (λ (a : Arg). a.global) c.action-number.ensures ∙ ap (λ (a : Arg). a.global) c.required.ensures ∙ c.new-number.ensures.optional.1 in
    bench_plain c.new-command.result c.in_ok-made.made c.action-number.result c.new-command.ensures.local own c.in_ok-made.ensures
