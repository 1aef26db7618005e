-- Blocks as the lists of their statements.
use Rattle.std.proofs.Common.{◌≡◌, List, [], ◌∷◌, ◌++◌, flat_map, refl, ap}
use Rattle.td_ast.specs.Statements.{Statement, block_of}
use Rattle.td_front_flat.specs.Uses.{statement_uses, block_uses}

pub block_flat : (xs : List Statement) → flat_map statement_uses xs ≡ block_uses (block_of xs)
block_flat [] = refl
block_flat (x ∷ xs) = ap (λ us. statement_uses x ++ us) (block_flat xs)
