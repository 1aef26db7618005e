use Rattle.std.proofs.Common.{◌≡◌, ◌≤◌, ℕ, List, drop, length}
use Rattle.td_write_values.specs.declared.limits.TheConstants.{MOST_WRITTEN}
use Rattle.td_write_values.specs.Writing.{Claim, after_writing, items_written, number_written}
use Rattle.td_write.proofs.leaves.write_numbers.Given as goal

abbrev pub invariant-loop-index : goal.invariant-loop-index
invariant-loop-index l = record {
  room : length l.out.items ≤ MOST_WRITTEN;
  back : l.path.items ≡ l.fn.path.items;
  total : (cells : List ℕ) (claims : List Claim) → after_writing l.fn.out.items claims (items_written (number_written l.number_type) l.fn.path.items 0 (length l.fn.out.items) cells l.values) ≡ after_writing l.out.items claims (items_written (number_written l.number_type) l.fn.path.items l.index (length l.out.items) cells (drop l.index l.values));
}
