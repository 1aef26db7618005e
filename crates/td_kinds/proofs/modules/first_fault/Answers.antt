use Rattle.std.proofs.Common.{List, length, ◌∙◌, ap, sym, refl}
use Rattle.td_core.specs.declared.module.TypeDef.{TypeDef}
use Rattle.td_kinds.specs.KindRules.{kinds_to}
use Rattle.td_kinds.proofs.Listing.{first_is}
use Rattle.td_kinds.proofs.modules.first_fault.Goals as goal

pub returns : goal.returns
returns c =
    let ds = c.as_slice.result.now in
    let all = c.requires ∙ ap (λ (each : List TypeDef). kinds_to each (length each)) (sym c.as_slice.ensures) in
    first_is c.args.m.now ds c.args.kinds.now c.args.kinds.now c.definitions_fault.result c.as_slice.ensures all refl c.definitions_fault.ensures
