use Rattle.std.proofs.Common.{◌≡◌, suc, ◌+◌, ◌-◌, ◌*◌, [], drop}
use Rattle.td_meaning.specs.Meaning.{elements}
use Rattle.td_meaning.specs.Words64.{below, fields_meaning, element_meaning}
use Rattle.td_meaning_plain.proofs.types.+types.Given as goal

abbrev pub decreases-named : goal.decreases-named
decreases-named l = 20 * l.walk.now.bound

abbrev pub decreases-one_element : goal.decreases-one_element
decreases-one_element l = 20 * l.walk.now.bound + 1

abbrev pub decreases-all_elements : goal.decreases-all_elements
decreases-all_elements l = 20 * l.walk.now.bound + 2

abbrev pub decreases-filling : goal.decreases-filling
decreases-filling l = 20 * l.walk.now.bound + 3

abbrev pub decreases-once_filling : goal.decreases-once_filling
decreases-once_filling l = 20 * l.walk.now.bound + 3

abbrev pub decreases-shape : goal.decreases-shape
decreases-shape l = 20 * l.walk.now.bound + 4

abbrev pub decreases-content : goal.decreases-content
decreases-content l = 20 * l.walk.now.bound + 5

abbrev pub decreases-one_field : goal.decreases-one_field
decreases-one_field l = 20 * l.walk.now.bound + 6

abbrev pub decreases-fields_in_order : goal.decreases-fields_in_order
decreases-fields_in_order l = 20 * l.walk.now.bound + 7

abbrev pub decreases-defined : goal.decreases-defined
decreases-defined l = 20 * l.walk.now.bound + 8

-- what is left of the fields decides the whole
abbrev pub invariant-fields_in_order-loop-field : goal.invariant-fields_in_order-loop-field
invariant-fields_in_order-loop-field l = record {
  empty_trace : l.slate.trace ≡ [];
  ending : (fields_meaning l.walk.m.now.listed (below l.walk.m.now.listed l.walk.m.now.definitions l.walk.bound) l.ty l.fields l.fn.env.items l.walk.places.now l.walk.message.now l.walk.end l.start l.fn.slate.cells.items).ending ≡ (fields_meaning l.walk.m.now.listed (below l.walk.m.now.listed l.walk.m.now.definitions l.walk.bound) l.ty (drop l.field-index l.fields) l.env.items l.walk.places.now l.walk.message.now l.walk.end l.position l.slate.cells.items).ending;
}

-- what is left of the elements decides the whole
abbrev pub invariant-all_elements-loop-turn : goal.invariant-all_elements-loop-turn
invariant-all_elements-loop-turn l = record {
  empty_trace : l.slate.trace ≡ [];
  ending : (elements (element_meaning l.walk.m.now.listed (below l.walk.m.now.listed l.walk.m.now.definitions l.walk.bound) l.element l.env l.walk.places.now l.walk.message.now l.start l.walk.end) (suc (l.walk.end - l.start)) l.start l.walk.end l.start l.fn.slate.cells.items).ending ≡ (elements (element_meaning l.walk.m.now.listed (below l.walk.m.now.listed l.walk.m.now.definitions l.walk.bound) l.element l.env l.walk.places.now l.walk.message.now l.start l.walk.end) (suc (l.walk.end - l.start) - l.turn) l.start l.walk.end l.position l.slate.cells.items).ending;
}
