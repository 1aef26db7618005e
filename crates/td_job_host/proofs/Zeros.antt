-- Cited by other crates.
-- Cells that are zero fit any bounds.
use Rattle.std.proofs.Common.{ℕ, List, [], ◌∷◌, length, arith}
use Rattle.td_core.specs.Formed.{Bound, AllFit}
use Rattle.td_posts.specs.Posts.{zeros}

pub zeros_fit : (bounds : List Bound) → AllFit bounds (zeros (length bounds))
zeros_fit [] = tt
zeros_fit (bound ∷ bounds) = (omega arith, zeros_fit bounds)
