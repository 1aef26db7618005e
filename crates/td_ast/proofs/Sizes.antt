-- Each statement is smaller than all of them together. Cited by other crates.
use Rattle.std.proofs.Common.{◌≡◌, ℕ, zero, suc, ◌<◌, List, [], ◌∷◌, length, get_or, ap, arith}
use Rattle.td_ast.specs.Statements.{Statement, statement_size, list_size}

pub statement_below : (xs : List Statement) (i : ℕ) (x : Statement) → i < length xs → x ≡ get_or xs i x → statement_size x < list_size xs
statement_below [] i x h e = absurd (omega arith)
statement_below (y ∷ ys) zero x h e = let same : statement_size x ≡ statement_size y = ap statement_size e in omega arith
statement_below (y ∷ ys) (suc i) x h e = let ih = statement_below ys i x (omega arith) e in omega arith
