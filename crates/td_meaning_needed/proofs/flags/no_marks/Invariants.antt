use Rattle.std.proofs.Common.{◌≡◌, ◌+◌, ℕ, false, length, drop}
use Rattle.td_meaning_needed.specs.Needed.{AreMarks, levels_of}
use Rattle.td_meaning_needed.proofs.flags.no_marks.Given as goal

abbrev pub invariant-loop-value : goal.invariant-loop-value
invariant-loop-value l = record {
  long : length l.marks.items ≡ l._value-index;
  clear : AreMarks l.marks.items (λ (i : ℕ). false);
}

abbrev pub invariant-loop-field : goal.invariant-loop-field
invariant-loop-field l = record {
  long : length l.env + levels_of l.fields ≡ length l.marks.items + levels_of (drop l.field-index l.fields);
  clear : AreMarks l.marks.items (λ (i : ℕ). false);
}
