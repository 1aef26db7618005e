-- Greatest numbers and nodes over the elements of a list, one by one.
use Rattle.std.proofs.Common.{◌≡◌, ℕ, zero, suc, ◌+◌, ◌<◌, max, List, [], ◌∷◌, length, map, take, get_or, refl, ap, ◌∙◌, arith}
use Rattle.td_ast.specs.Statements.{Statement, block_of}
use Rattle.td_limits.specs.Excesses.{greatest}
use Rattle.td_limits.specs.Nodes.{statement_nodes, block_nodes}
use Rattle.td_limits.specs.Measures.{Measures}
use Rattle.td_limits.specs.Depths.{statement_depth, block_depth}

greatest_suc : {A : Type 0} (f : A → ℕ) (xs : List A) (i : ℕ) (x : A) → i < length xs → x ≡ get_or xs i x → greatest (map f (take (suc i) xs)) ≡ max (greatest (map f (take i xs))) (f x)
greatest_suc f [] i x h e = absurd (omega arith)
greatest_suc f (y ∷ ys) zero x h e = let same : f x ≡ f y = ap f e in omega arith
greatest_suc f (y ∷ ys) (suc i) x h e = let ih = greatest_suc f ys i x (omega arith) e in omega arith

pub greatest_more : {A : Type 0} (f : A → ℕ) (xs : List A) (i : ℕ) (x : A) → i < length xs → x ≡ get_or xs i x → greatest (map f (take (i + 1) xs)) ≡ max (greatest (map f (take i xs))) (f x)
greatest_more f xs i x h e = let next : i + 1 ≡ suc i = omega arith in ap (λ (n : ℕ). greatest (map f (take n xs))) next ∙ greatest_suc f xs i x h e

block_suc : (xs : List Statement) (i : ℕ) (x : Statement) → i < length xs → x ≡ get_or xs i x → block_nodes (block_of (take (suc i) xs)) ≡ block_nodes (block_of (take i xs)) + statement_nodes x
block_suc [] i x h e = absurd (omega arith)
block_suc (y ∷ ys) zero x h e = let same : statement_nodes x ≡ statement_nodes y = ap statement_nodes e in omega arith
block_suc (y ∷ ys) (suc i) x h e = let ih = block_suc ys i x (omega arith) e in omega arith

-- a block of one statement more
pub block_more : (xs : List Statement) (i : ℕ) (x : Statement) → i < length xs → x ≡ get_or xs i x → block_nodes (block_of (take (i + 1) xs)) ≡ block_nodes (block_of (take i xs)) + statement_nodes x
block_more xs i x h e = let next : i + 1 ≡ suc i = omega arith in ap (λ (n : ℕ). block_nodes (block_of (take n xs))) next ∙ block_suc xs i x h e

-- a block as the list of its statements
pub block_greatest : (known : Measures) (xs : List Statement) → block_depth known (block_of xs) ≡ greatest (map (statement_depth known) xs)
block_greatest known [] = refl
block_greatest known (x ∷ xs) = ap (λ (n : ℕ). max (statement_depth known x) n) (block_greatest known xs)
