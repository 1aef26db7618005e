use Rattle.std.proofs.Common.{refl}
use Rattle.td_elab_rules.specs.Definitions.{after_define, after_struct, after_casetype}
use Rattle.td_elab_rules.specs.Aliases.{after_alias}
use Rattle.td_elab_rules.specs.Enums.{after_enum}
use Rattle.td_names.proofs.Naming.{on_ok as on_ok_then}
use Rattle.td_elab.proofs.Slots.{stay, enum_keeps}
use Rattle.td_elab.proofs.definitions.definition.Goals as goal

pub returns-in-Define-clause-slots : goal.returns-in-Define-clause-slots
returns-in-Define-clause-slots c =
    let k = c.args.known.now in
    on_ok_then c.define.result (stay c.args.names.now k (after_define k c.in-Define.d) c.define.new.known c.args.slots.now c.requires refl) c.define.ensures.known

pub returns-in-Enum-clause-slots : goal.returns-in-Enum-clause-slots
returns-in-Enum-clause-slots c =
    let k = c.args.known.now in
    on_ok_then c.enumerate.result (stay c.args.names.now k (after_enum k c.in-Enum.d) c.enumerate.new.known c.args.slots.now c.requires (enum_keeps k c.in-Enum.d)) c.enumerate.ensures.known

pub returns-in-Alias-clause-slots : goal.returns-in-Alias-clause-slots
returns-in-Alias-clause-slots c =
    let k = c.args.known.now in
    on_ok_then c.alias.result (stay c.args.names.now k (after_alias k c.in-Alias.d) c.alias.new.known c.args.slots.now c.requires refl) c.alias.ensures.known

pub returns-in-Struct-clause-slots : goal.returns-in-Struct-clause-slots
returns-in-Struct-clause-slots c =
    let k = c.args.known.now in
    on_ok_then c.structure.result (stay c.args.names.now k (after_struct c.args.names.now k c.in-Struct.d) c.structure.new.known c.args.slots.now c.requires refl) c.structure.ensures.known

pub returns-in-Casetype-clause-slots : goal.returns-in-Casetype-clause-slots
returns-in-Casetype-clause-slots c =
    let k = c.args.known.now in
    on_ok_then c.casetype.result (stay c.args.names.now k (after_casetype c.args.names.now k c.in-Casetype.d) c.casetype.new.known c.args.slots.now c.requires refl) c.casetype.ensures.known
