-- Copies (own rule). A copy buffer stands in the meaning by two cells, behind those of the entry point: the place in the
-- message of the bytes that it holds, and their number. So an ending says what was copied, and the message has the bytes.
use Rattle.std.specs.Prelude.{◌≡◌, ℕ, ◌+◌, ◌*◌, ◌^◌, ◌<◌, List, ◌++◌, length, drop, replicate, Option, Some, None, slice_get, slice_index}
use Rattle.td_num.specs.Lists.{Each, AreBytes}
use Rattle.td_num.specs.Numbers.{places_from}
use Rattle.td_meaning.specs.Imports.{NumberType, One, Number, Filling, CopyOut, TypeDef, Module, Entry, Outcome}
use Rattle.td_core.specs.Term.{Term}
use Rattle.td_core.specs.Entries.{entry_definition}
use Rattle.td_core.specs.Formed.{IsModuleFormed}
use Rattle.td_core.specs.Copies.{IsCopying}
use Rattle.td_core.specs.Outcome.{Ending, Accepted, Rejected, accepted, after_reading, and_then, outcome_of}
use Rattle.td_expr.specs.Sound.{Sound}
use Rattle.td_meaning.specs.Doing.{natural_of}
use Rattle.td_meaning.specs.Meaning.{Sense, shape_meaning, content_meaning, with_copy, meaning}
use Rattle.td_meaning.specs.Throughout.{Throughout}
use Rattle.td_meaning.specs.Deciding.{SameAt}
use Rattle.td_meaning.specs.Forward.{IsAt}

abbrev pub buffers_at : Option TypeDef → ℕ
buffers_at None = 0
buffers_at (Some d) = length d.buffers

-- the cells of an entry point, with those of its copy buffers, which hold nothing at first
abbrev pub opened : Module → Entry → List ℕ → List ℕ
opened m entry cells = cells ++ replicate (2 * buffers_at (entry_definition m entry.number)) 0

-- what a module says of a message from an entry point, with the cells and the copies at its end
abbrev pub outcome : Module → Entry → List ℕ → List ℕ → List ℕ → Outcome
outcome m entry args cells message = outcome_of (length cells) message (meaning m entry args (opened m entry cells) message).ending

-- every expression that the meaning of a message evaluates lies in its type's range, with the copies' rooms
abbrev pub IsSoundOn : Module → Entry → List ℕ → List ℕ → List ℕ → Type 0
IsSoundOn m entry args cells message = Throughout Sound m entry args (opened m entry cells) message

-- on each message
abbrev pub IsSoundFrom : Module → Entry → List ℕ → List ℕ → Type 0
IsSoundFrom m entry args cells = (b : List ℕ) → AreBytes b → length b < 2 ^ 32 → IsSoundOn m entry args cells b

-- where an entry point has no copy buffer there is nothing behind its cells
abbrev pub OpenedAlone : Type 0
OpenedAlone = (m : Module) (entry : Entry) (cells : List ℕ) → buffers_at (entry_definition m entry.number) ≡ 0 → opened m entry cells ≡ cells

-- an array of bytes that is copied is validated as one that isn't, and then its bytes are read and stand in the buffer
abbrev pub CopiedIsFilled : Type 0
CopiedIsFilled =
    (sets : List (List ℕ)) (senses : ℕ → Sense) (type : NumberType) (size : Term) (c : CopyOut) (env places message : List ℕ) (end p : ℕ) (cells : List ℕ) →
    type.width ≡ One →
    content_meaning sets senses (Number type) (Filling size (Some 1)) (Some c) env places message end p cells
    ≡ and_then (shape_meaning sets senses (Number type) (Filling size (Some 1)) env places message end p cells)
    (λ q cells. after_reading (places_from p (natural_of size env)) (accepted q (with_copy c places p (natural_of size env) cells)))

-- What was read decides

abbrev pub cells_of : Ending → List ℕ
cells_of (Accepted position cells) = cells
cells_of (Rejected reason position trace cells) = cells

-- this entry point with so many cells, in a module that keeps the rules of copies
pub record IsOpened (m : Module) (entry : Entry) (cells : List ℕ) : Type 0 where
  pub formed : IsModuleFormed m
  pub copying : IsCopying m
  pub place : ℕ
  pub definition : TypeDef
  pub there : slice_get m.entries entry.number ≡ Some place
  pub is : slice_get m.definitions place ≡ Some definition
  pub count : length cells ≡ length definition.cells

-- each byte that a copy buffer holds at the end was read
abbrev pub CopiesAreRead : Type 0
CopiesAreRead =
    (m : Module) (entry : Entry) (args cells message : List ℕ) (k : ℕ) → IsOpened m entry cells →
    let behavior = meaning m entry args (opened m entry cells) message in
    let copies = drop (length cells) (cells_of behavior.ending) in
    Each (λ q. IsAt q behavior.reads) (places_from (slice_index copies (2 * k)) (slice_index copies (2 * k + 1)))

-- messages of one length that agree on what is read of the first have one outcome, with the same copies
abbrev pub OutcomesAreDecided : Type 0
OutcomesAreDecided =
    (m : Module) (entry : Entry) (args cells b c : List ℕ) → IsOpened m entry cells → length b ≡ length c →
    SameAt (meaning m entry args (opened m entry cells) b).reads b c →
    outcome m entry args cells b ≡ outcome m entry args cells c
