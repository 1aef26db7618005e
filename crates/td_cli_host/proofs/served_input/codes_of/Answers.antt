use Rattle.std.proofs.Common.{◌+◌, List, [], ◌∷◌, ◌++◌, get_or, take, sym, subst}
use Rattle.std.proofs.lemmas.List.{take_more, take_all}
use Rattle.td_core.specs.declared.module.Module.{Module}
use Rattle.td_ir.specs.declared.tables.Parts.{Parts}
use Rattle.td_lower_means.specs.CodeRun.{IsCodeOf}
use Rattle.td_cli_host.specs.ServedInput.{AreCodesOf}
use Rattle.td_cli_host.proofs.Compiled.{codes_more}
use Rattle.td_cli_host.proofs.served_input.codes_of.Goals as goal

pub loop-format-init : goal.loop-format-init
loop-format-init c = subst (λ (cs : List Parts). AreCodesOf cs []) (sym c.new-codes.ensures.items) tt

pub loop-format-preserved : goal.loop-format-preserved
loop-format-preserved c =
    let l = c.loop-format in
    let formats : List Module = c.args.formats.now in
    let f : Module = c.format-item.result in
    let code : Parts = c.in_ok-code_of.field-0 in
    let one : IsCodeOf code (get_or formats l.format-index f) = subst (IsCodeOf code) c.format-item.is c.in_ok-code_of.ensures.code in
    let more = codes_more l.codes.items (take l.format-index formats) code (get_or formats l.format-index f) l.invariant one in
    let modules = subst (AreCodesOf (l.codes.items ++ code ∷ [])) (sym (take_more formats l.format-index f c.loop-format-test.true)) more in
    subst (λ (cs : List Parts). AreCodesOf cs (take (l.format-index + 1) formats)) (sym c.in_ok-push.ensures.items) modules

pub returns : goal.returns
returns c =
    let l = c.loop-format in
    subst (AreCodesOf l.codes.items) (take_all l.format-index c.args.formats.now c.loop-format-test.false) l.invariant
