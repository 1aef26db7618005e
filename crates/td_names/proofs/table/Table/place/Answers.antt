use Rattle.std.proofs.Common.{sym, subst, ◌∙◌}
use Rattle.td_names.specs.Places.{ArePlaced}
use Rattle.td_names.proofs.Tables.{place_found, place_other, place_none}
use Rattle.td_names.proofs.table.Table.place.Goals as goal

pub returns-in-None : goal.returns-in-None
returns-in-None g c =
    let placed = subst (λ t. ArePlaced 0 t c.self.inside.places.entries) c.self.view_is c.self.invariant in
    sym (place_none c.args.self.now c.self.inside.places.entries c.args.name.now placed (sym c.in-None.ensures.value))

pub returns-then-is_at : goal.returns-then-is_at
returns-then-is_at g c =
    let placed = subst (λ t. ArePlaced 0 t c.self.inside.places.entries) c.self.view_is c.self.invariant in
    sym (place_found c.args.self.now c.self.inside.places.entries c.args.name.now c.in-Some.place.now placed (sym c.in-Some.ensures.value) (sym c.is_at.ensures ∙ c.if-is_at.true))

pub returns-else-is_at : goal.returns-else-is_at
returns-else-is_at g c =
    let placed = subst (λ t. ArePlaced 0 t c.self.inside.places.entries) c.self.view_is c.self.invariant in
    sym (place_other c.args.self.now c.self.inside.places.entries c.args.name.now c.in-Some.place.now placed (sym c.in-Some.ensures.value) (sym c.is_at.ensures ∙ c.if-is_at.false))
