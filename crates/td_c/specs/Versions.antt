-- What C is told of codes of which one is published after the other (td_swap), and what a handle then has (own rule; capi/td.h).
use Rattle.std.specs.Prelude.{◌≡◌, ◌⊎◌, ◌↔◌, ℕ, ℤ, pos, ◌+◌, ◌<◌, ◌≤◌, List, [], ◌∷◌, ◌++◌, length, slice_get, IsSomeAnd}
use Rattle.std.specs.declared.option.Option.{Option}
use Rattle.std.specs.declared.option.Option.TheVariants.{None, Some}
use Rattle.std.specs.declared.vec.Vec.{Vec}
use Rattle.std.specs.Arc.{arc_value}
use Rattle.td_ir.specs.declared.tables.Parts.{Parts}
use Rattle.td_image.specs.Answer.{IsImage}
use Rattle.td_swap.specs.declared.version.TheConstants.{MOST_VERSIONS}
use Rattle.td_swap.specs.Views.{new_view, AreVersions}
use Rattle.td_swap.specs.Seats.{SwapState, swap_state, then_published, then_loaded, then_split}
use Rattle.td_swap.specs.Versions.{CodesState}
use Rattle.td_session.specs.declared.session.Session.{Session}
use Rattle.td_session.specs.declared.versions.Publisher.{Publisher}
use Rattle.td_session.specs.declared.versions.Reader.{Reader}
use Rattle.td_c.specs.declared.handle.Slot.{Slot}
use Rattle.td_c.specs.declared.images.TdFault.{TdFault}
use Rattle.td_c.specs.Images.{IsFault}
use Rattle.td_c.specs.Kept.{IsForSession, IsForVersions, IsForSeat}
use Rattle.td_session.specs.Room.{IsFresh}

-- ---- before the first version is published
-- the slot waits for versions, has none yet, and holds nothing else
abbrev pub IsNew : Slot → Type 0
IsNew slot = IsSomeAnd slot.waiting (λ v. v.items ≡ []) × IsForVersions slot

-- a version more: the code of which the bytes are the image; 8 just where there are as many versions as there may be
pub record IsAddition (v w : List Parts) (was fault : TdFault) (image : List ℕ) (code : ℤ) : Type 0 where
  pub full : (code ≡ pos 8) ↔ (MOST_VERSIONS ≤ length v)
  pub cause : ((code ≡ pos 8) × (fault ≡ was)) ⊎ IsFault code was fault image
  pub added : code ≡ pos 0 → (p : Parts) × IsImage p image × (w ≡ v ++ p ∷ [])
  pub kept : (code ≡ pos 0 → ⊥) → w ≡ v

abbrev pub added_by : {A : Type 0} → Option (Vec Parts A) → Option (Vec Parts A) → TdFault → TdFault → List ℕ → ℤ → Type 0
added_by None None was fault image code = (code ≡ pos 3) × (fault ≡ was)
added_by None (Some w) was fault image code = ⊥
added_by (Some v) None was fault image code = ⊥
added_by (Some v) (Some w) was fault image code = IsAddition v.items w.items was fault image code

-- 3 just where the slot waits for no versions; what else it holds stays
abbrev pub IsAdding : Slot → Slot → TdFault → TdFault → List ℕ → ℤ → Type 0
IsAdding a b was fault image code = added_by a.waiting b.waiting was fault image code × (b ≡ record a { waiting = b.waiting })

-- a seat that loaded nothing yet
abbrev pub new_seat : CodesState → SwapState
new_seat codes = swap_state codes.table (new_view (length codes.codes))

-- these are the versions, the first one is published, and nobody has loaded which
pub record HasBegun (codes : List Parts) (p : Publisher) : Type 0 where
  pub versions : (arc_value p.codes).codes ≡ codes
  pub first : p.seat.view.number ≡ 0
  pub unloaded : p.maker ≡ new_seat (arc_value p.codes)

-- 5 just where none waited, and then they are waited for still; 8 just where they are too many. Else they wait no more: 0, the first one is
-- published; 4, there was no memory. They are freed where they aren't published
pub record IsBegun (codes : List Parts) (a b : Slot) (code : ℤ) : Type 0 where
  pub answer : (code ≡ pos 0) ⊎ ((code ≡ pos 4) ⊎ ((code ≡ pos 5) ⊎ (code ≡ pos 8)))
  pub missing : (code ≡ pos 5) ↔ (codes ≡ [])
  pub full : (code ≡ pos 8) ↔ (MOST_VERSIONS < length codes)
  pub begun : code ≡ pos 0 → IsSomeAnd b.publisher (HasBegun codes) × (b ≡ record a { waiting = None; publisher = b.publisher })
  pub freed : (code ≡ pos 4) ⊎ (code ≡ pos 8) → b ≡ record a { waiting = None }
  pub kept : code ≡ pos 5 → b ≡ a

abbrev pub begun_by : {A : Type 0} → Option (Vec Parts A) → Slot → Slot → ℤ → Type 0
begun_by None a b code = (code ≡ pos 3) × (b ≡ a)
begun_by (Some v) a b code = IsBegun v.items a b code

-- 3 just where the slot waits for no versions
abbrev pub IsBeginning : Slot → Slot → ℤ → Type 0
IsBeginning a b code = begun_by a.waiting a b code

-- ---- the one who publishes
-- 0: the next version is published, and this is its number; 5: the last one was published before. Nothing is loaded
pub record IsPublication (p q : Publisher) (number : ℕ) (code : ℤ) : Type 0 where
  pub codes : arc_value q.codes ≡ arc_value p.codes
  pub unloaded : q.maker ≡ p.maker
  pub answer : (code ≡ pos 0) ⊎ (code ≡ pos 5)
  pub next : code ≡ pos 0 → (number ≡ p.seat.view.number + 1) × (number < length (arc_value p.codes).codes) × (q.seat ≡ then_published p.seat)
  pub last : code ≡ pos 5 → (length (arc_value p.codes).codes ≤ p.seat.view.number + 1) × (q.seat ≡ p.seat)

abbrev pub published_by : Option Publisher → Option Publisher → ℕ → ℤ → Type 0
published_by None None number code = code ≡ pos 3
published_by None (Some q) number code = ⊥
published_by (Some p) None number code = ⊥
published_by (Some p) (Some q) number code = IsPublication p q number code

-- 3 just where nothing was begun; what else the slot holds stays
abbrev pub IsPublishing : Slot → Slot → ℕ → ℤ → Type 0
IsPublishing a b number code = published_by a.publisher b.publisher number code × (b ≡ record a { publisher = b.publisher })

-- ---- a seat for another thread, which loaded nothing yet
abbrev pub IsSeatOf : Publisher → Reader → Type 0
IsSeatOf p r = (arc_value r.codes ≡ arc_value p.codes) × (r.seat ≡ new_seat (arc_value p.codes))

-- who publishes has the codes and the number as before, loaded nothing, and made one seat more
abbrev pub publishes_on : Publisher → Publisher → Type 0
publishes_on p q = (arc_value q.codes ≡ arc_value p.codes) × (q.seat ≡ p.seat) × (q.maker ≡ then_split p.maker)

-- so does who publishes in a slot, of which all else stays
abbrev pub MakesSeat : Slot → Slot → Type 0
MakesSeat a b = IsSomeAnd a.publisher (λ p. IsSomeAnd b.publisher (publishes_on p)) × (b ≡ record a { publisher = b.publisher })

-- the other slot holds such a seat, and nothing else
abbrev pub HasSeat : Slot → Slot → Type 0
HasSeat slot other = IsSomeAnd slot.publisher (λ p. IsSomeAnd other.reader (IsSeatOf p)) × IsForSeat other

-- ---- the one who asks which version is published
-- the number is what the seat loaded: the seat has just that number more, its numbers never fall, and each is a version's
pub record IsLoaded (r s : Reader) (number : ℕ) : Type 0 where
  pub codes : arc_value s.codes ≡ arc_value r.codes
  pub seat : s.seat ≡ then_loaded r.seat number
  pub versions : AreVersions s.seat.view
  pub below : number < length (arc_value r.codes).codes

abbrev pub loaded_by : Option Reader → Option Reader → ℕ → ℤ → Type 0
loaded_by None None number code = code ≡ pos 3
loaded_by None (Some s) number code = ⊥
loaded_by (Some r) None number code = ⊥
loaded_by (Some r) (Some s) number code = (code ≡ pos 0) × IsLoaded r s number

-- 3 just where there is no seat; what else the slot holds stays
abbrev pub IsLoading : Slot → Slot → ℕ → ℤ → Type 0
IsLoading a b number code = loaded_by a.reader b.reader number code × (b ≡ record a { reader = b.reader })

-- a new session by the code that stands in the list of codes at this number
abbrev pub IsVersion : Slot → ℕ → Session → Type 0
IsVersion slot number s = IsSomeAnd slot.reader (λ r. slice_get (arc_value r.codes).codes number ≡ Some (arc_value s.code)) × IsFresh (arc_value s.code) s.frame

abbrev pub HasVersion : Slot → ℕ → Slot → Type 0
HasVersion slot number other = IsSomeAnd other.session (IsVersion slot number) × IsForSession other

-- the codes have no such version
abbrev pub LacksVersion : Slot → ℕ → Type 0
LacksVersion slot number = IsSomeAnd slot.reader (λ r. length (arc_value r.codes).codes ≤ number)

abbrev pub asked_by : Option Reader → ℤ → Type 0
asked_by None code = code ≡ pos 3
asked_by (Some r) code = (code ≡ pos 0) ⊎ ((code ≡ pos 4) ⊎ (code ≡ pos 5))

-- the number that answers who asks for a session by a version: 3 just where the slot has no seat; 4 for want of memory
abbrev pub IsVersioning : Slot → ℤ → Type 0
IsVersioning slot code = asked_by slot.reader code

abbrev pub seated_by : Option Publisher → ℤ → Type 0
seated_by None code = code ≡ pos 3
seated_by (Some p) code = (code ≡ pos 0) ⊎ (code ≡ pos 4)

-- the number that answers who asks for a seat: 3 just where nothing was begun there; 4 for want of memory
abbrev pub IsSeating : Slot → ℤ → Type 0
IsSeating slot code = seated_by slot.publisher code
