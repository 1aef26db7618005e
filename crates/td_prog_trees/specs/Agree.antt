-- When a tree of the small C agrees with an exit of code (own rule).
use Rattle.std.specs.Prelude.{◌≡◌, ℕ, zero, suc, ◌+◌, ◌*◌, ◌^◌, ◌<◌, ◌≤◌, cond, List, [], ◌∷◌, length, map, take, slice_index, slice_index_or, nat_lt}
use Rattle.td_num.specs.Numbers.{places_from}
use Rattle.td_num.specs.Lists.{Each}
use Rattle.td_core.specs.declared.outcome.Reason.{Reason}
use Rattle.td_core.specs.declared.outcome.TraceFrame.{TraceFrame}
use Rattle.td_ir.specs.State.{State, Way, Returned, Turned, Failed, Stuck, Exit}
use Rattle.td_prog.specs.Tree.{Tree, answer, loaded}
use Rattle.td_prog.specs.Values.{Locals}
use Rattle.td_prog.specs.Means.{Out, Gave, Refused, Undefined, Continuation}
use Rattle.td_prog_trees.specs.Memory.{HasHeld}

-- the number of each place's message word; they rise with the places
pub record Numbering : Type 0 where
  pub word : ℕ → ℕ
  pub rises : (p q : ℕ) → p ≤ q → word p ≤ word q

-- the words of places, from a word on, each once; and the word behind them
abbrev pub fresh : (ℕ → ℕ) → ℕ → List ℕ → List ℕ
fresh word next [] = []
fresh word next (p ∷ ps) = cond (nat_lt (word p) next) (fresh word next ps) (word p ∷ fresh word (word p + 1) ps)

abbrev pub behind : (ℕ → ℕ) → ℕ → List ℕ → ℕ
behind word next [] = next
behind word next (p ∷ ps) = cond (nat_lt (word p) next) (behind word next ps) (behind word (word p + 1) ps)

-- the word behind those of the places before one
abbrev pub reached : (ℕ → ℕ) → ℕ → ℕ
reached word zero = 0
reached word (suc p) = word p + 1

-- words that rise, from one on
abbrev pub RisesFrom : ℕ → List ℕ → Type 0
RisesFrom m [] = Unit {0}
RisesFrom m (w ∷ ws) = (m ≤ w) × RisesFrom (w + 1) ws

-- places before an end that never lead back behind a word that was loaded, but to the last one
abbrev pub IsForward : (ℕ → ℕ) → (to next : ℕ) → List ℕ → Type 0
IsForward word to next [] = Unit {0}
IsForward word to next (p ∷ ps) = (next ≤ word p + 1) × (p < to) × IsForward word to (word p + 1) ps

-- what a run stands on: the message, the lengths of the run's buffers, and how many of its cells stand before those of buffers
pub record Basis : Type 0 where
  pub message : List ℕ
  pub lengths : List ℕ
  pub first : ℕ

-- the part of a run on memory that stays which one function does: it was called at a position, with this end
pub record Extent : Type 0 where
  pub memory : ℕ → ℕ
  pub numbering : Numbering
  pub basis : Basis
  pub open basis use *
  pub from : ℕ
  pub to : ℕ

-- an extent within a message of less than 2^32 bytes
pub record IsWithin (extent : Extent) : Type 0 where
  pub short : length extent.message < 2 ^ 32
  pub inside : extent.to ≤ length extent.message

-- the extent of a function that is called in another one, with these variables
abbrev pub called_at : Extent → Locals → Extent
called_at extent s = record extent { from = s.pos; to = s.end }

-- the first bytes of each buffer, as many as its second cell says, are the message's from where its first says
abbrev pub HoldCopies : Basis → List ℕ → List (List ℕ) → Type 0
HoldCopies basis cells buffers =
    (b : ℕ) → b < length basis.lengths →
    take (slice_index cells (basis.first + 2 * b + 1)) (slice_index_or buffers b [])
    ≡ map (slice_index basis.message) (places_from (slice_index cells (basis.first + 2 * b)) (slice_index cells (basis.first + 2 * b + 1)))

pub record IsKept (basis : Basis) (cells : List ℕ) (buffers : List (List ℕ)) : Type 0 where
  pub lengths : map length buffers ≡ basis.lengths
  pub many : length cells ≡ basis.first + 2 * length basis.lengths
  pub copies : HoldCopies basis cells buffers

-- a routine's state, of the variables
abbrev pub state_of : Locals → State
state_of s = record { regs = s.regs; cells = s.cells; start = s.start; pos = s.pos; end = s.end; outer = s.outer }

-- the invariant of a function's variables: positions are in order and within its extent; no word behind the position's was loaded, but that of the byte
-- before it; what is held is the word that was
-- loaded last; registers and cells have 64 bits; and buffers hold bytes of the message
pub record IsGood (extent : Extent) (s : Locals) : Type 0 where
  pub begun : extent.from ≤ s.start
  pub started : s.start ≤ s.pos
  pub within : s.pos ≤ s.end
  pub window : s.end ≤ s.outer
  pub short : s.outer ≤ extent.to
  pub ahead : s.next ≤ reached extent.numbering.word s.pos
  pub held : HasHeld extent.memory s
  pub regs : Each (λ v. v < 2 ^ 64) s.regs
  pub cells : Each (λ v. v < 2 ^ 64) s.cells
  pub kept : IsKept extent.basis s.cells s.buffers

-- the variables after a function that returned: they are good, at this position, with these cells, and words below `next` were loaded
pub record IsBack (extent : Extent) (next pos : ℕ) (cells : List ℕ) (s : Locals) : Type 0 where
  pub good : IsGood extent s
  pub at : s.pos ≡ pos
  pub same : s.cells ≡ cells
  pub then : s.next ≡ next

abbrev pub IsReturn : Extent → (next pos : ℕ) → List ℕ → Out → Type 0
IsReturn extent next pos cells (Gave value s) = (value ≡ pos) × IsBack extent next pos cells s
IsReturn extent next pos cells (Refused reason at trace s) = ⊥
IsReturn extent next pos cells Undefined = ⊥

abbrev pub IsFailure : Reason → ℕ → List TraceFrame → List ℕ → Out → Type 0
IsFailure reason pos trace cells (Gave value s) = ⊥
IsFailure reason pos trace cells (Refused reason' pos' trace' s) = (reason' ≡ reason) × (pos' ≡ pos) × (trace' ≡ take 32 trace) × (s.cells ≡ cells)
IsFailure reason pos trace cells Undefined = ⊥

-- on memory that stays, after the words below `next`: the same way out, and just the words of the places that the code looks at are loaded; nothing is said
-- where code is stuck
abbrev pub AgreesBy : Extent → (next : ℕ) → Tree Out → List ℕ → Way → Type 0
AgreesBy extent next tree touched (Returned pos cells) =
    IsReturn extent (behind extent.numbering.word next touched) pos cells (answer extent.memory tree) ×
    (loaded extent.memory tree ≡ fresh extent.numbering.word next touched) × IsForward extent.numbering.word extent.to next touched
AgreesBy extent next tree touched (Turned s) = Unit {0}
AgreesBy extent next tree touched (Failed reason pos trace cells) =
    IsFailure reason pos trace cells (answer extent.memory tree) × (loaded extent.memory tree ≡ fresh extent.numbering.word next touched) × IsForward extent.numbering.word extent.to next touched
AgreesBy extent next tree touched Stuck = Unit {0}

abbrev pub Agrees : Extent → (next : ℕ) → Tree Out → Exit → Type 0
Agrees extent next tree exit = AgreesBy extent next tree exit.touched exit.way

-- what comes next agrees
abbrev pub IsOnward : Extent → Continuation → (State → Exit) → Type 0
IsOnward extent go exit = (s : Locals) → IsGood extent s → Agrees extent s.next (go s) (exit (state_of s))
