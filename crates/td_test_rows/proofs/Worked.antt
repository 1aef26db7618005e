-- The worked texts, by computation.
use Rattle.std.proofs.Common.{refl}
use Rattle.td_meaning.specs.Meaning.{below, fields_meaning, parts_meaning, elements}
use Rattle.td_kinds.specs.Kinds.{kinds_below}
use Rattle.td_test_rows.specs.Worked.{AreWorked}

pub are_worked : AreWorked
unfolding kinds_below below fields_meaning parts_meaning elements
are_worked = record {
  refined = refl;
  refined_means_1 = refl;
  refined_means_2 = refl;
  refined_means_3 = refl;
  refined_means_4 = refl;
  counted = refl;
  counted_means = refl;
  two_words = refl;
  two_words_means = refl;
  last_word = refl;
  last_word_means = refl;
  gap = refl;
  gap_means = refl;
  long = refl;
  long_means = refl;
  units = refl;
  undivided = refl;
  undivided_means = refl;
  casetype = refl;
  casetype_means = refl;
  terminated = refl;
  terminated_means_1 = refl;
  terminated_means_2 = refl;
  terminated_means_3 = refl;
  checked = refl;
  checked_means = refl;
  one_cell = refl;
  one_cell_means = refl;
  bit_fields = refl;
  bit_fields_means = refl;
  enum_values = refl;
  enum_values_means = refl;
  padding = refl;
  padding_means = refl;
  single = refl;
  single_means_1 = refl;
  single_means_2 = refl;
  copied = refl;
  copied_means_1 = refl;
  copied_means_2 = refl;
  copied_means_3 = refl;
  copied_means_4 = refl;
}
