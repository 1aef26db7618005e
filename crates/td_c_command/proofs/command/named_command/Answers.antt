use Rattle.std.proofs.Common.{◌≡◌, ap, ◌∙◌, true, false, Some, codes}
use Rattle.clap.specs.Simple.{new_rule}
use Rattle.clap.specs.Walk.{Rule, rule_of}
use Rattle.clap.specs.declared.builder.action.ArgAction.TheVariants.{Set}
use Rattle.clap.specs.declared.builder.arg.Arg.{Arg}
use Rattle.td_c_command.proofs.Words.{named_is, named_plain}
use Rattle.td_c_command.proofs.command.named_command.Goals as goal

pub returns-clause-shape : goal.returns-clause-shape
returns-clause-shape c =
    let rule : rule_of c.action-name.result ≡ record (new_rule (codes "NAME")) { required = true; action = Some Set } =
    ap rule_of c.action-name.ensures ∙ ap (λ (r : Rule). record r { action = Some Set }) (ap rule_of c.required.ensures ∙ ap (λ (r : Rule). record r { required = true }) c.new-name.ensures.rule) in
    let own : c.action-name.result.global ≡ false = ap (λ (a : Arg). a.global) c.action-name.ensures ∙ ap (λ (a : Arg). a.global) c.required.ensures ∙ c.new-name.ensures.optional.1 in
    named_is c.args.word.now c.new-command.result c.in_ok-made.made c.action-name.result c.new-command.ensures.app own rule c.in_ok-made.ensures

pub returns-clause-local : goal.returns-clause-local
returns-clause-local c =
    let own : c.action-name.result.global ≡ false = ap (λ (a : Arg). a.global) c.action-name.ensures ∙ ap (λ (a : Arg). a.global) c.required.ensures ∙ c.new-name.ensures.optional.1 in
    named_plain c.new-command.result c.in_ok-made.made c.action-name.result c.new-command.ensures.local own c.in_ok-made.ensures
