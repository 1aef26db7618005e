use Rattle.std.proofs.Common.{subst, arith, ◌++◌, ◌∷◌, []}
use Rattle.td_names.specs.Places.{entries_of}
use Rattle.td_names.proofs.Tables.{as_before, unseen, HasMore, has_more, stay_placed, grown_placed}
use Rattle.td_names.proofs.table.Table.declare.Goals as goal

pub invariant_of-self-in_err-push : goal.invariant_of-self-in_err-push
invariant_of-self-in_err-push g c =
    let es = c.self.inside.entries.items in
    let old = c.self.inside.places.entries in
    let new = c.insert.new.self.entries in
    let name = c.args.name.now in
    let more = has_more old new c.in_ok-copy.copy name c.len-place.result c.in_ok-copy.ensures.items c.in_ok-insert.ensures.updates.1 c.in_ok-insert.ensures.updates.2 in
    let absent = unseen (entries_of es) c.args.self.now name c.contains.result c.self.view_is c.contains.ensures c.if-contains.false in
    as_before es c.push.new.self.items new c.in_err-push.ensures.items (stay_placed 0 es old new name c.len-place.result more absent c.self.invariant)

pub invariant_of-self-2 : goal.invariant_of-self-2
invariant_of-self-2 g c =
    let es = c.self.inside.entries.items in
    let old = c.self.inside.places.entries in
    let new = c.insert.new.self.entries in
    let name = c.args.name.now in
    let more = has_more old new c.in_ok-copy.copy name c.len-place.result c.in_ok-copy.ensures.items c.in_ok-insert.ensures.updates.1 c.in_ok-insert.ensures.updates.2 in
    let absent = unseen (entries_of es) c.args.self.now name c.contains.result c.self.view_is c.contains.ensures c.if-contains.false in
    as_before (es ++ (c.in_ok-key.key, c.args.value) ∷ []) c.push.new.self.items new c.in_ok-push.ensures.items
    (grown_placed es c.in_ok-key.key c.args.value old new name c.in_ok-key.ensures.items (subst (λ p. HasMore _ old new name p) (omega arith) more) absent c.self.invariant)
