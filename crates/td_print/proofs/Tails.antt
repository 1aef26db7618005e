-- What is behind the first elements of a list.
use Rattle.std.proofs.Common.{◌≡◌, ℕ, ◌-◌, List, length, take, drop, length-drop}
use Rattle.std.proofs.Math.Seq.{take-length}

pub tail_whole : {A : Type 0} (n : ℕ) (xs : List A) → take (length xs - n) (drop n xs) ≡ drop n xs
tail_whole n xs = rw (← length-drop n xs) (take-length (drop n xs))
