-- What one turn of a loop over a list leaves to the rest.
use Rattle.std.proofs.Common.{◌≡◌, ℕ, zero, suc, ◌+◌, ◌<◌, ◌≤◌, List, [], ◌∷◌, length, drop, get_or, sym, subst, ap, arith}
use Rattle.td_ast.specs.Statements.{Statement, End, More, block_of, statement_size, list_size}
use Rattle.td_num.proofs.Truths.{all_dropped as done}
use Rattle.td_num.proofs.Lists.{drop_next as split}

-- the same of a block
pub split_block : (xs : List Statement) (i : ℕ) (x : Statement) → i < length xs → x ≡ get_or xs i x → block_of (drop i xs) ≡ More x (block_of (drop (i + 1) xs))
split_block xs i x h e = ap block_of (split xs i x h e)

pub done_block : (xs : List Statement) (i : ℕ) → length xs ≤ i → block_of (drop i xs) ≡ End
done_block xs i h = ap block_of (done xs i h)

size_at : (xs : List Statement) (i : ℕ) (d : Statement) → i < length xs → statement_size (get_or xs i d) + 1 ≤ list_size xs
size_at [] i d h = absurd (omega arith)
size_at (x ∷ xs) zero d h = omega arith
size_at (x ∷ xs) (suc i) d h = omega (arith, size_at xs i d (omega arith))

-- each statement is smaller than all of them together
pub below : (xs : List Statement) (i : ℕ) (x : Statement) → i < length xs → x ≡ get_or xs i x → statement_size x + 1 ≤ list_size xs
below xs i x h e = subst (λ y. statement_size y + 1 ≤ list_size xs) (sym e) (size_at xs i x h)
