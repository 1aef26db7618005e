-- The rows, by computation.
use Rattle.std.proofs.Common.{refl}
use Rattle.td_meaning.specs.Meaning.{parts_meaning}
use Rattle.td_write_values.specs.Spelling.{spelled_items, spelled_fields, spells_below}
use Rattle.td_write_values.specs.Writing.{items_written, parts_written, fields_written, writers_below}
use Rattle.td_write_spells.specs.Rows.{RowsHold}

pub rows_hold : RowsHold
unfolding parts_meaning spelled_items spelled_fields spells_below items_written parts_written fields_written writers_below
rows_hold = record {
  written_P = refl;
  spelled_P = refl;
  broken = refl;
  short = refl;
  wide = refl;
  wide_first = refl;
  spelled_broken = refl;
  spelled_short = refl;
  listed = refl;
  unlisted = refl;
  few = refl;
  many = refl;
  nested = refl;
  bytes = refl;
  bytes_size = refl;
  no_unit = refl;
  no_case = refl;
  no_list = refl;
  cells = refl;
  action = refl;
  terminated = refl;
  unterminated = refl;
  two_zeros = refl;
  past_bound = refl;
  no_zero = refl;
  wide_element = refl;
  wide_past_bound = refl;
  single = refl;
  single_unlisted = refl;
  single_small = refl;
  full_unlisted = refl;
  zeros = refl;
  too_long = refl;
  long_first = refl;
  long_unsized = refl;
  unsized = refl;
  unit = refl;
  unit_broken = refl;
  unit_wide = refl;
  copied = refl;
  copied_size = refl;
  copied_again = refl;
  one_buffer = refl;
  left = refl;
  left_wrong = refl;
  left_unspelled = refl;
  left_wide = refl;
  left_inside = refl;
  left_outside = refl;
  left_last = refl;
  left_before = refl;
  left_tested = refl;
  narrowed = refl;
  narrow_told = refl;
  narrow_broken = refl;
  cell_before = refl;
}
