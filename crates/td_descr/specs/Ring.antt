-- Rings in memory that others may keep changing (own rule). Word 0 of a ring is how many descriptors were made so far; after it stand
-- its entries, each a descriptor of two words. Descriptor n, from 0, stands in entry n modulo their number.
use Rattle.std.specs.Prelude.{◌≡◌, ℕ, ◌+◌, ◌*◌, ◌-◌, ◌%◌, ◌<◌, ◌≤◌, ◌^◌, cond, nat_eq, nat_lt, ◌||◌, List, [], ◌∷◌, length, slice_index, Some, None}
use Rattle.td_num.specs.Lists.{AreBytes}
use Rattle.td_descr.specs.Imports.{Module, Outcome, Verdict, Load, Parts}
use Rattle.td_core.specs.declared.module.Entry.{Entry}
use Rattle.td_core.specs.declared.outcome.Verdict.TheVariants.{Accept, Reject}
use Rattle.td_meaning.specs.Meaning.{meaning}
use Rattle.td_core.specs.Entries.{entry_definition}
use Rattle.td_meaning.specs.Copies.{buffers_at, IsSoundOn as IsSound}
use Rattle.td_meaning.specs.Throughout.{OnEnding}
use Rattle.td_stream.specs.Layouts.{plain}
use Rattle.td_fetch.specs.Outcomes.{IsMeant}
use Rattle.td_ir.specs.Entries.{Fits}
use Rattle.td_lower_means.specs.CodeRun.{IsCodeOf}
use Rattle.td_vm.specs.Frames.{FrameView, IsArmed}
use Rattle.td_run.specs.Validation.{IsValidation}
use Rattle.td_descr.specs.declared.next.Standing.{Standing}
use Rattle.td_descr.specs.declared.next.Standing.TheVariants.{Nothing, Lost, Waiting}
use Rattle.td_descr.specs.declared.next.Next.{Next}
use Rattle.td_descr.specs.declared.next.Next.TheVariants.{Idle, Overrun, Bad, Message}
use Rattle.td_descr.specs.declared.next.Look.{Look}
use Rattle.td_descr.specs.Words.{load_of, raised}

-- ---- a ring
-- the words of a ring
abbrev pub ring_words : ℕ → ℕ
ring_words entries = 1 + 2 * entries

-- the ring's word with the first byte of descriptor n
abbrev pub desc_word : ℕ → ℕ → ℕ
desc_word entries n = 1 + 2 * (n % entries)

-- how the count that was made stands to what was taken
abbrev pub standing : ℕ → ℕ → ℕ → Standing
standing entries taken made = cond (nat_eq made taken) Nothing (cond (nat_lt made taken || nat_lt entries (made - taken)) Lost Waiting)

-- ---- descriptors
-- where descriptors are validated from, with which arguments, and the cells that they begin with
abbrev pub desc_entry : Entry
desc_entry = record { number = 0 }

abbrev pub desc_args : ℕ → ℕ → List ℕ
desc_args room most = room ∷ most ∷ []

abbrev pub desc_cells : List ℕ
desc_cells = 0 ∷ 0 ∷ 0 ∷ []

-- a descriptor has sixteen bytes
abbrev pub desc_bytes : ℕ
desc_bytes = 16

-- on this descriptor's bytes, which carry the loads, its outcome is what the module means, and exactly the words with a byte that it reads
-- were loaded
abbrev pub IsDescribed : Module → ℕ → ℕ → List ℕ → List Load → Outcome → Type 0
IsDescribed m room most b loads outcome = IsMeant (plain desc_bytes) m desc_entry (desc_args room most) desc_cells b loads outcome

-- each expression that the module evaluates on these bytes lies in its type's range
abbrev pub IsDescSoundOn : Module → ℕ → ℕ → List ℕ → Type 0
IsDescSoundOn m room most b = IsSound m desc_entry (desc_args room most) desc_cells b

-- cells of a descriptor that was accepted: a place, a size and a number, and the message lies within the room
pub record CellsAreWithin (room most : ℕ) (cells : List ℕ) : Type 0 where
  pub count : length cells ≡ 3
  pub place : slice_index cells 0 ≤ room
  pub size : slice_index cells 0 + slice_index cells 1 ≤ room
  pub few : slice_index cells 1 ≤ most
  pub id : slice_index cells 2 < 2 ^ 16

-- this module is one of descriptors for such a room: each expression that it evaluates lies in its type's range, and what it accepts lies
-- within the room
pub record IsRing (m : Module) (room most : ℕ) : Type 0 where
  pub bare : buffers_at (entry_definition m desc_entry.number) ≡ 0
  pub sound : (b : List ℕ) → AreBytes b → length b < 2 ^ 32 → IsDescSoundOn m room most b
  pub within : (b : List ℕ) → AreBytes b → OnEnding (meaning m desc_entry (desc_args room most) desc_cells b).ending (λ q cells. CellsAreWithin room most cells)

-- this code is of such a module
pub record IsRingCode (c : Parts) (room most : ℕ) : Type 0 where
  pub format : Module
  pub code : IsCodeOf c format
  pub fits : Fits c desc_entry (desc_args room most) desc_cells
  pub ring : IsRing format room most

-- ---- a reader of a ring
-- the code by which descriptors are validated, how many entries the ring has, the bytes of the buffer in which messages lie, how many
-- a message has at most, how many descriptors were taken, the room for validations with what the last one left there, and what the last
-- look rests on
pub record ReaderView : Type 0 where
  pub code : Parts
  pub entries : ℕ
  pub room : ℕ
  pub most : ℕ
  pub taken : ℕ
  pub frame : FrameView
  pub last : Look

-- the ring has entries, the code is of descriptors, and the frame is armed for it
pub record IsReader (r : ReaderView) : Type 0 where
  pub some : 0 < r.entries
  pub code : IsRingCode r.code r.room r.most
  pub armed : IsArmed r.code r.frame

-- a look that found no descriptor
abbrev pub bare : ℕ → Look
bare head = record { head = head; verdict = None; loads = [] }

-- a reader that took nothing
abbrev pub begun : Parts → ℕ → ℕ → ℕ → FrameView → ReaderView
begun c entries room most frame = record { code = c; entries = entries; room = room; most = most; taken = 0; frame = frame; last = bare 0 }

-- the outcome of the validation that left its trace and cells in this frame
abbrev pub frame_outcome : FrameView → Verdict → Outcome
frame_outcome frame verdict = record { verdict = verdict; trace = frame.trace; cells = frame.cells; copies = [] }

-- ---- the next descriptor
-- a descriptor was validated by this code, with these loads and this outcome, which has three cells
pub record IsValidated (c : Parts) (room most : ℕ) (loads : List Load) (outcome : Outcome) : Type 0 where
  pub validated : IsValidation c desc_entry (desc_args room most) desc_cells (plain desc_bytes) loads outcome
  pub cells : length outcome.cells ≡ 3

-- a fact for where it accepts
abbrev pub IfAccepted : Verdict → Type 0 → Type 0
IfAccepted (Accept pos) X = X
IfAccepted (Reject reason pos) X = Unit {0}

-- what is answered to descriptor n with this verdict and these cells
abbrev pub answer : ℕ → Verdict → List ℕ → Next
answer n (Accept pos) cells = Message n (slice_index cells 0) (slice_index cells 1) (slice_index cells 2)
answer n (Reject reason pos) cells = Bad reason pos

-- a message lies within the room
abbrev pub LiesWithin : ℕ → ℕ → Next → Type 0
LiesWithin room most (Idle made) = Unit {0}
LiesWithin room most (Overrun made) = Unit {0}
LiesWithin room most (Bad reason pos) = Unit {0}
LiesWithin room most (Message number place size id) = (place + size ≤ room) × (size ≤ most)

-- what is answered where the count stands so, from a reader's one state to the other: where a descriptor waits, it is taken, whatever its
-- verdict, and else nothing changes but that the ring was looked at
abbrev pub Answers : Standing → ReaderView → ReaderView → Next → Type 0
Answers Nothing r s next = (next ≡ Idle s.last.head) × (s ≡ record r { last = bare s.last.head })
Answers Lost r s next = (next ≡ Overrun s.last.head) × (s ≡ record r { last = bare s.last.head })
Answers Waiting r s next =
    (verdict : Verdict)
    × (s.last.verdict ≡ Some verdict)
    × IsValidated r.code r.room r.most s.last.loads (frame_outcome s.frame verdict)
    × (next ≡ answer r.taken verdict s.frame.cells)
    × (s ≡ record r { taken = r.taken + 1; frame = s.frame; last = s.last })

-- one look at a ring, with all its loads: word 0 comes first and gives the count; then come those of the next descriptor, where one waits
pub record IsLook (r s : ReaderView) (loads : List Load) (next : Next) : Type 0 where
  pub are : loads ≡ load_of 0 s.last.head ∷ raised (desc_word r.entries r.taken) s.last.loads
  pub answers : Answers (standing r.entries r.taken s.last.head) r s next
