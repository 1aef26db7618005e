use Rattle.std.proofs.Common.{◌≡◌, ◌+◌, ◌*◌, ◌≤◌, drop, length}
use Rattle.td_write_values.specs.declared.limits.TheConstants.{MOST_WRITTEN}
use Rattle.td_write_values.specs.Writing.{after_writing, items_written, element_written, fields_written, writers_below, in_machine}
use Rattle.td_write.specs.Writes.{claims_of}
use Rattle.td_write.proofs.+types.Given as goal

abbrev pub decreases-types::named : goal.decreases-types::named
decreases-types::named l = 20 * l.walk.now.bound

abbrev pub decreases-elements::element_bytes : goal.decreases-elements::element_bytes
decreases-elements::element_bytes l = 20 * l.walk.now.bound + 1

abbrev pub decreases-elements::one_element : goal.decreases-elements::one_element
decreases-elements::one_element l = 20 * l.walk.now.bound + 2

abbrev pub decreases-arrays::items : goal.decreases-arrays::items
decreases-arrays::items l = 20 * l.walk.now.bound + 3

abbrev pub decreases-arrays::contents : goal.decreases-arrays::contents
decreases-arrays::contents l = 20 * l.walk.now.bound + 4

abbrev pub decreases-arrays::shape : goal.decreases-arrays::shape
decreases-arrays::shape l = 20 * l.walk.now.bound + 5

abbrev pub decreases-fields::content : goal.decreases-fields::content
decreases-fields::content l = 20 * l.walk.now.bound + 6

abbrev pub decreases-fields::one_field : goal.decreases-fields::one_field
decreases-fields::one_field l = 20 * l.walk.now.bound + 7

abbrev pub decreases-fields::counted : goal.decreases-fields::counted
decreases-fields::counted l = 20 * l.walk.now.bound + 8

abbrev pub decreases-types::defined : goal.decreases-types::defined
decreases-types::defined l = 20 * l.walk.now.bound + 9

-- what is left of the fields decides the whole
abbrev pub invariant-fields::counted-loop-field : goal.invariant-fields::counted-loop-field
invariant-fields::counted-loop-field l = record {
  room : length l.draft.out.items ≤ MOST_WRITTEN;
  back : l.draft.path.items ≡ l.fn.draft.path.items;
  total : after_writing l.fn.draft.out.items (claims_of l.fn.draft.claims.items) (fields_written in_machine l.walk.m.now.listed (writers_below in_machine l.walk.m.now.listed l.walk.m.now.definitions l.walk.bound) l.ty l.fields l.args l.walk.places.now l.fn.draft.path.items 0 (length l.fn.draft.out.items) l.fn.cells l.values)
      ≡ after_writing l.draft.out.items (claims_of l.draft.claims.items) (fields_written in_machine l.walk.m.now.listed (writers_below in_machine l.walk.m.now.listed l.walk.m.now.definitions l.walk.bound) l.ty (drop l.field-index l.fields) l.env.items l.walk.places.now l.fn.draft.path.items l.index (length l.draft.out.items) l.cells (drop l.index l.values));
}

-- what is left of the elements decides the whole
abbrev pub invariant-arrays::items-loop-index : goal.invariant-arrays::items-loop-index
invariant-arrays::items-loop-index l = record {
  room : length l.draft.out.items ≤ MOST_WRITTEN;
  back : l.draft.path.items ≡ l.fn.draft.path.items;
  total : after_writing l.fn.draft.out.items (claims_of l.fn.draft.claims.items) (items_written (element_written in_machine l.walk.m.now.listed (writers_below in_machine l.walk.m.now.listed l.walk.m.now.definitions l.walk.bound) l.element l.env l.walk.places.now) l.fn.draft.path.items 0 (length l.fn.draft.out.items) l.fn.cells l.values)
      ≡ after_writing l.draft.out.items (claims_of l.draft.claims.items) (items_written (element_written in_machine l.walk.m.now.listed (writers_below in_machine l.walk.m.now.listed l.walk.m.now.definitions l.walk.bound) l.element l.env l.walk.places.now) l.fn.draft.path.items l.index (length l.draft.out.items) l.cells (drop l.index l.values));
}
