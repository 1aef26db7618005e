-- What a walk along a chain comes to, in memory that others may keep changing (own rule).
use Rattle.std.specs.Prelude.{◌≡◌, ℕ, List, Option, Some, None, Result, Ok, Err}
use Rattle.std.specs.List.{All}
use Rattle.td_stream.specs.declared.load.Load.{Load}
use Rattle.td_chain.specs.declared.region.Region.{Region}
use Rattle.td_chain.specs.declared.queue.Queue.{Queue}
use Rattle.td_chain.specs.declared.piece.Piece.{Piece}
use Rattle.td_chain.specs.declared.refusal.Refusal.{Refusal}
use Rattle.td_chain.specs.Loaded.{Holds, AreApart}
use Rattle.td_chain.specs.Places.{IsOpen}
use Rattle.td_chain.specs.Chain.{Chain, chain}

abbrev pub refusal_of : Result (Unit {0}) Refusal → Option Refusal
refusal_of (Ok u) = None
refusal_of (Err r) = Some r

-- these pieces, and whether they are all
abbrev pub come_to : List Piece → Result (Unit {0}) Refusal → Chain
come_to pieces result = record { pieces = pieces; refusal = refusal_of result }

-- No word of the memory was loaded twice, each that was has a byte of the queue's table or of a region, and in every memory that holds
-- what was loaded this is the chain from the head on. (What was loaded need never have stood there together.)
pub record IsWalk (q : Queue) (regions : List Region) (head : ℕ) (loads : List Load) (c : Chain) : Type 0 where
  pub apart : AreApart loads
  pub inside : All (λ l. IsOpen q regions l.word) loads
  pub means : (m : ℕ → ℕ) → Holds m loads → c ≡ chain q regions m head
