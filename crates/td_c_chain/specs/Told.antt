-- A walk as C is told of it (own rule; capi/td_chain.h).
use Rattle.std.specs.Prelude.{◌≡◌, ℕ, ◌+◌, ◌*◌, ◌<◌, ◌≤◌, ◌^◌, cond, List, ◌++◌, map, length, take, drop, Result, Ok, Err}
use Rattle.td_stream.specs.declared.load.Load.{Load}
use Rattle.td_chain.specs.declared.region.Region.{Region}
use Rattle.td_chain.specs.declared.queue.Queue.{Queue}
use Rattle.td_chain.specs.declared.piece.Piece.{Piece}
use Rattle.td_chain.specs.declared.refusal.ChainError.{ChainError}
use Rattle.td_chain.specs.declared.refusal.ChainError.TheVariants.{Beyond, Outside, NotAllowed, WithNext, BadTable, OutOfOrder, TooLarge, TooLong}
use Rattle.td_chain.specs.declared.refusal.Refusal.{Refusal}
use Rattle.td_chain.specs.Places.{AreWithin}
use Rattle.td_chain.specs.Walks.{IsWalk, come_to}
use Rattle.td_foreign.specs.declared.noted.TdLoad.{TdLoad}
use Rattle.td_c_chain.specs.declared.rows.TdChainPiece.{TdChainPiece}
use Rattle.td_c_chain.specs.declared.told.TdChainEnd.{TdChainEnd}

-- the queue's table and the regions lie within so many words, of which there are fewer than 2^32
pub record IsInside (count : ℕ) (q : Queue) (rs : List Region) : Type 0 where
  pub few : count < 2 ^ 32
  pub table : q.table + 16 * q.size ≤ 8 * count
  pub regions : AreWithin (8 * count) rs

-- ---- rows
abbrev pub piece_told : Piece → TdChainPiece
piece_told p = record { place = p.place; size = p.size; is_writable = cond p.is_writable 1 0 }

-- the memory is one stretch
abbrev pub load_told : Load → TdLoad
load_told l = record { stretch = 0; word = l.word; value = l.value }

-- rows that were so begin with these, as far as there is room for them, and are as before behind them
abbrev pub AreRows : {A B : Type 0} → (A → B) → List A → List B → List B → Type 0
AreRows f xs was rows = rows ≡ take (length was) (map f xs ++ drop (length xs) was)

-- ---- the end of a walk
-- a number of td_chain_error
abbrev pub error_number : ChainError → ℕ
error_number Beyond = 1
error_number Outside = 2
error_number NotAllowed = 3
error_number WithNext = 4
error_number BadTable = 5
error_number OutOfOrder = 6
error_number TooLarge = 7
error_number TooLong = 8

-- so many pieces and loads, and why the chain was refused, if it was
abbrev pub end_told : ℕ → ℕ → Result (Unit {0}) Refusal → TdChainEnd
end_told n k (Ok u) = record { count = n; load_count = k; error = 0; descriptor = 0; is_indirect = 0 }
end_told n k (Err r) =
    record { count = n; load_count = k; error = error_number r.error; descriptor = r.descriptor; is_indirect = cond r.is_indirect 1 0 }

-- A walk was made, and these are its loads, all that were made of the memory. The rows have its pieces and its loads, and this is its end.
pub record IsToldOf (q : Queue) (regions : List Region) (head : ℕ) (made : List Load) (was rows : List TdChainPiece) (were loads : List TdLoad)
    (end : TdChainEnd) : Type 0 where
  pub pieces : List Piece
  pub result : Result (Unit {0}) Refusal
  pub walk : IsWalk q regions head made (come_to pieces result)
  pub listed : AreRows piece_told pieces was rows
  pub loaded : AreRows load_told made were loads
  pub told : end ≡ end_told (length pieces) (length made) result
