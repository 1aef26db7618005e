use Rattle.std.proofs.Common.{◌≡◌, ◌+◌, ℕ, false, length}
use Rattle.td_meaning_needed.specs.Needed.{AreMarks}
use Rattle.td_meaning_needed.proofs.flags.add_marks.Given as goal

abbrev pub invariant-loop-part : goal.invariant-loop-part
invariant-loop-part l = record {
  long : length l.marks.items ≡ length l.fn.marks.items + l._part-index;
  clear : AreMarks l.marks.items (λ (i : ℕ). false);
}
