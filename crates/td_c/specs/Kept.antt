-- What a handle holds, and what is said of it (own rule; capi/td.h).
use Rattle.std.specs.Prelude.{◌≡◌, ◌⊎◌, ◌<◌, ◌≤◌, ℕ, ℤ, pos, List, [], IsSome, IsSomeAnd}
use Rattle.std.specs.declared.option.Option.{Option}
use Rattle.std.specs.declared.option.Option.TheVariants.{None, Some}
use Rattle.std.specs.Arc.{arc_value}
use Rattle.td_image.specs.Answer.{IsImage}
use Rattle.td_stream.specs.declared.load.Load.{Load}
use Rattle.td_stream.specs.declared.stretch.Stretch.{Stretch}
use Rattle.td_stream.specs.Layouts.{AreWithin}
use Rattle.td_stream.specs.Loads.{buffered}
use Rattle.td_foreign.specs.declared.noted.TdLoad.{TdLoad}
use Rattle.td_foreign.specs.declared.pieces.TdPiece.{TdPiece}
use Rattle.td_foreign.specs.Pieces.{AreWhole, HasLoads, layout_of}
use Rattle.td_session.specs.Room.{IsFresh}
use Rattle.td_session.specs.declared.session.Session.{Session}
use Rattle.td_c.specs.declared.handle.Slot.{Slot}
use Rattle.td_c.specs.declared.call.TdCall.{TdCall}
use Rattle.td_c.specs.declared.parts.TdStretch.{TdStretch}
use Rattle.td_c.specs.Asked.{HasAnswered, IsUntouched}
use Rattle.td_c.specs.Numbers.{answer_number}
use Rattle.td_c.specs.Parts.{stretches_told, IsMessage, IsTooMuch}

-- the slot holds a session at most, versions that wait at most, a seat at most
abbrev pub IsForSession : Slot → Type 0
IsForSession slot = (slot.waiting ≡ None) × (slot.publisher ≡ None) × (slot.reader ≡ None)

abbrev pub IsForVersions : Slot → Type 0
IsForVersions slot = (slot.session ≡ None) × (slot.publisher ≡ None) × (slot.reader ≡ None)

abbrev pub IsForSeat : Slot → Type 0
IsForSeat slot = (slot.session ≡ None) × (slot.waiting ≡ None) × (slot.publisher ≡ None)

-- the slot holds nothing
abbrev pub IsClosed : Slot → Type 0
IsClosed slot = (slot.session ≡ None) × IsForSession slot

-- the slot holds a new session by the code of which the bytes are the image, and nothing else
abbrev pub HoldsImage : Slot → List ℕ → Type 0
HoldsImage slot bytes = IsSomeAnd slot.session (λ s. IsImage (arc_value s.code) bytes × IsFresh (arc_value s.code) s.frame) × IsForSession slot

-- a new session by the code of the slot's
abbrev pub IsCopy : Slot → Session → Type 0
IsCopy slot s = IsSomeAnd slot.session (λ t. arc_value s.code ≡ arc_value t.code) × IsFresh (arc_value s.code) s.frame

abbrev pub HoldsCopy : Slot → Slot → Type 0
HoldsCopy slot other = IsSomeAnd other.session (IsCopy slot) × IsForSession other

abbrev pub shared_by : Option Session → ℤ → Type 0
shared_by None code = code ≡ pos 3
shared_by (Some s) code = (code ≡ pos 0) ⊎ (code ≡ pos 4)

-- the number that answers who asks for another session by the slot's code: 3 just where it holds none; else 0, or 4 for want of memory
abbrev pub IsSharing : Slot → ℤ → Type 0
IsSharing slot code = shared_by slot.session code

abbrev pub room_by : Option Session → ℕ → ℤ → Type 0
room_by None count code = code ≡ pos 3
room_by (Some s) count code = ((1024 < count) × (code ≡ pos 8)) ⊎ ((count ≤ 1024) × ((code ≡ pos 0) ⊎ (code ≡ pos 4)))

-- the number that answers who asks for room for so many pieces: 3 just where the slot holds no session, then 8 just where they are more than
-- 1,024; else 0, or 4 for want of memory
abbrev pub IsRoom : Slot → ℕ → ℤ → Type 0
IsRoom slot count code = room_by slot.session count code

-- ---- validations
-- Without a session 3 is answered, and all is as before. Else this answer was found by the session's code, which stays, and of the slot only
-- the session's room, the answer and the loads have changed. What of the memory was loaded is what these loads of message words say.
abbrev pub answered_by : Option Session → Option Session → Slot → Slot → TdCall → TdCall → List Stretch → Type 0 → (List Load → Type 0) → List TdLoad → List TdLoad → ℤ → Type 0
answered_by None t a b asked after layout within loaded was rows number = (number ≡ pos 3) × (b ≡ a) × IsUntouched asked after (loaded []) was rows
answered_by (Some s) None a b asked after layout within loaded was rows number = ⊥
answered_by (Some s) (Some t) a b asked after layout within loaded was rows number =
    (arc_value t.code ≡ arc_value s.code) × HasAnswered (arc_value s.code) s.frame t.frame b.answer b.made was rows asked after layout within × loaded b.made
    × (number ≡ answer_number b.answer) × (b.waiting ≡ a.waiting) × (b.publisher ≡ a.publisher) × (b.reader ≡ a.reader)

-- A validation by the session of the first slot was answered by this number, and left the second slot. The loads of the memory, of so many words, are
-- those of the message, each by its word of the memory.
abbrev pub IsAnswered : Slot → Slot → TdCall → TdCall → List Stretch → ℕ → List Load → List TdLoad → List TdLoad → ℤ → Type 0
IsAnswered a b asked after layout count made was rows number =
    answered_by a.session b.session a b asked after layout (AreWithin count layout) (λ loads. made ≡ buffered (Some layout) loads) was rows number

-- the same of a message that is these stretches: a slot without a session comes first, and then stretches that have no layout, where all is as before
abbrev pub IsAnsweredInParts : Slot → Slot → TdCall → TdCall → List TdStretch → ℕ → List Load → List TdLoad → List TdLoad → ℤ → Type 0
IsAnsweredInParts a b asked after parts count made was rows number =
    (IsSome a.session × IsTooMuch 64 (stretches_told parts) number × (b ≡ a) × IsUntouched asked after (made ≡ []) was rows)
    ⊎ ((IsSome a.session → IsMessage 64 (stretches_told parts)) × IsAnswered a b asked after (stretches_told parts) count made was rows number)

-- the same of a message that is these pieces, which were and are so
abbrev pub IsAnsweredInPieces : Slot → Slot → TdCall → TdCall → List TdPiece → List TdPiece → List TdLoad → List TdLoad → ℤ → Type 0
IsAnsweredInPieces a b asked after before pieces was rows number =
    (IsSome a.session × IsTooMuch 1024 (layout_of before) number × (b ≡ a) × IsUntouched asked after (pieces ≡ before) was rows)
    ⊎ ((IsSome a.session → IsMessage 1024 (layout_of before)) × answered_by a.session b.session a b asked after (layout_of before) (AreWhole before) (λ loads. HasLoads before pieces loads) was rows number)
