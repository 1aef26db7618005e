-- Takes from a ring: what each answers, and what its seat loaded (own rule).
use Rattle.std.specs.Prelude.{◌≡◌, ℕ, ◌+◌, ◌*◌, ◌/◌, ◌<◌, ◌≤◌, ◌^◌, List, [], ◌∷◌, ◌++◌, map, length, vec_capacity, Option, Some, None, IfSome}
use Rattle.std.specs.List.{All}
use Rattle.td_num.specs.Lists.{AreBytes}
use Rattle.td_core.specs.declared.module.Module.{Module}
use Rattle.td_core.specs.declared.module.Entry.{Entry}
use Rattle.td_core.specs.declared.outcome.Verdict.{Verdict}
use Rattle.td_stream.specs.declared.load.Load.{Load}
use Rattle.td_stream.specs.declared.stretch.Stretch.{Stretch}
use Rattle.td_stream.specs.Layouts.{plain}
use Rattle.td_stream.specs.Copies.{empty_with}
use Rattle.td_stream.specs.Loads.{IsFetchedOnce}
use Rattle.td_ir.specs.declared.tables.Parts.{Parts}
use Rattle.td_lower_means.specs.CodeRun.{IsCodeOf}
use Rattle.td_vm.specs.Need.{most_need, level}
use Rattle.td_vm.specs.Frames.{FrameView, IsArmed}
use Rattle.td_words.specs.declared.view.Access.{Access}
use Rattle.td_words.specs.Views.{seat_view}
use Rattle.td_words.specs.Seats.{BufferState, SeatState, seat_state}
use Rattle.td_posts.specs.declared.job.HostJob.{HostJob}
use Rattle.td_posts.specs.declared.ring.RingJob.{RingJob}
use Rattle.td_posts.specs.declared.reply.Reply.{Reply}
use Rattle.td_posts.specs.Posts.{IsVersion, zeros, version_in, outcome_in}
use Rattle.td_posts.specs.declared.limits.TheConstants.{MOST_ENTRIES}
use Rattle.td_live.specs.Live.{steps_for}
use Rattle.td_descr.specs.declared.next.Next.{Next}
use Rattle.td_descr.specs.declared.next.Next.TheVariants.{Idle, Overrun, Bad, Message}
use Rattle.td_descr.specs.declared.next.Standing.{Standing}
use Rattle.td_descr.specs.declared.next.Standing.TheVariants.{Nothing, Lost, Waiting}
use Rattle.td_descr.specs.Words.{load_of, raised}
use Rattle.td_descr.specs.Ring.{ReaderView, standing, ring_words, desc_word, desc_bytes, answer, IsDescribed, IsDescSoundOn}
use Rattle.td_takes.specs.declared.take.Take.{Take}
use Rattle.td_takes.specs.declared.take.TakeRoom.{TakeRoom}
use Rattle.td_takes.specs.Codes.{IsMeantUnder}

-- ---- where things lie
-- a ring's words in the buffer
abbrev pub ring_layout : RingJob → List Stretch
ring_layout ring = (record { place = 8 * ring.base; size = 8 * ring_words ring.entries }) ∷ []

-- a message of a descriptor: one stretch
abbrev pub message_layout : ℕ → ℕ → List Stretch
message_layout place size = (record { place = place; size = size }) ∷ []

-- ---- the descriptors' code
-- this module of descriptors has this code, and each expression that it evaluates in such a room lies in its type's range
pub record Describes (m : Module) (c : Parts) (room most : ℕ) : Type 0 where
  pub code : IsCodeOf c m
  pub sound : (b : List ℕ) → AreBytes b → length b < 2 ^ 32 → IsDescSoundOn m room most b

-- ---- one take
-- a reply of no guest, under version 0, whose message has this list of stretches or none
pub record IsOfNoGuest (r : Reply) (stretches : Option (List Stretch)) : Type 0 where
  pub guest : r.guest ≡ 0
  pub version : version_in r ≡ 0
  pub list : r.layout ≡ stretches

-- the reply to a message of this place and size: it was validated under version 0
pub record IsMessage (job : HostJob) (place size : ℕ) (r : Reply) : Type 0 where
  pub is : IsOfNoGuest r (Some (message_layout place size))
  pub format : Module
  pub entry : Entry
  pub version : IsVersion job 0 format entry
  pub fetched : IsMeantUnder job format entry (message_layout place size) r.loads.list (outcome_in r)

-- the reply of a descriptor, by this module: its outcome is what the module means in the same way, on lists of its sixteen bytes
pub record IsDescriptor (m : Module) (room most : ℕ) (d : Reply) : Type 0 where
  pub is : IsOfNoGuest d None
  pub cells : length d.cells.items ≡ 3
  pub fetched : IsFetchedOnce (plain desc_bytes) d.loads.list (λ b. AreBytes b → IsDescribed m room most b d.loads.list (outcome_in d))

-- a message is there exactly where a take has one, and it is validated at the place and size that were loaded
abbrev pub HasMessage : HostJob → Next → Option Reply → Type 0
HasMessage job (Idle made) message = message ≡ None
HasMessage job (Overrun made) message = message ≡ None
HasMessage job (Bad reason pos) message = message ≡ None
HasMessage job (Message number place size id) None = ⊥
HasMessage job (Message number place size id) (Some r) = IsMessage job place size r

-- how many descriptors were taken after this answer
abbrev pub taken_after : ℕ → Next → ℕ
taken_after taken (Idle made) = taken
taken_after taken (Overrun made) = taken
taken_after taken (Bad reason pos) = taken + 1
taken_after taken (Message number place size id) = taken + 1

-- what is answered where the count stands so: the answer, and the outcome of the next descriptor where one waits
abbrev pub IsAnswer : Standing → Module → ℕ → ℕ → ℕ → Take → Type 0
IsAnswer Nothing m room most taken t = (t.next ≡ Idle t.head) × (t.descr ≡ None)
IsAnswer Lost m room most taken t = (t.next ≡ Overrun t.head) × (t.descr ≡ None)
IsAnswer Waiting m room most taken t =
    (d : Reply) × (t.descr ≡ Some d) × IsDescriptor m room most d × (t.next ≡ answer taken d.verdict d.cells.items)

-- a reply that is there has this number
abbrev pub HasNumber : ℕ → Option Reply → Type 0
HasNumber n r = IfSome r (λ x. x.number ≡ n)

-- a take of a ring of which so many descriptors were taken, by this module of descriptors, in a buffer of `room` bytes; its replies have
-- its number
pub record IsTake (job : HostJob) (m : Module) (room : ℕ) (ring : RingJob) (taken : ℕ) (t : Take) : Type 0 where
  pub answers : IsAnswer (standing ring.entries taken t.head) m room ring.most taken t
  pub message : HasMessage job t.next t.message
  pub numbered : HasNumber t.number t.descr × HasNumber t.number t.message

-- ---- its loads
abbrev pub loads_of : Option Reply → List Load
loads_of None = []
loads_of (Some r) = r.loads.list

-- the steps of the seat for the message, each word named by its word of the buffer
abbrev pub message_steps : Next → Option Reply → List Access
message_steps (Idle made) message = []
message_steps (Overrun made) message = []
message_steps (Bad reason pos) message = []
message_steps (Message number place size id) message = steps_for (message_layout place size) (loads_of message)

-- the steps of the seat for the ring: the head word, then the descriptor's
abbrev pub ring_steps : RingJob → ℕ → ℕ → List Load → List Access
ring_steps ring taken head loads = steps_for (ring_layout ring) (load_of 0 head ∷ raised (desc_word ring.entries taken) loads)

abbrev pub take_steps : RingJob → ℕ → Take → List Access
take_steps ring taken t = ring_steps ring taken t.head (loads_of t.descr) ++ message_steps t.next t.message

-- a seat s that made just these steps more is t
abbrev pub HasDone : SeatState → SeatState → List Access → Type 0
HasDone s t steps = t ≡ seat_state s.table (seat_view s.view.opened s.view.number s.view.guest (s.view.steps ++ steps))

-- ---- all takes of a ring
-- takes of ring k, the first of which has number n and finds so many descriptors taken; each stands by those before it
unfoldable pub AreTakes : HostJob → Module → ℕ → RingJob → ℕ → ℕ → ℕ → List Take → Type 0
AreTakes job m room ring k n taken [] = Unit {0}
AreTakes job m room ring k n taken (t ∷ ts) =
    (t.ring ≡ k) × (t.number ≡ n) × IsTake job m room ring taken t × AreTakes job m room ring k (n + 1) (taken_after taken t.next) ts

-- their steps, one take's after the other's
unfoldable pub all_steps : RingJob → ℕ → List Take → List Access
all_steps ring taken [] = []
all_steps ring taken (t ∷ ts) = take_steps ring taken t ++ all_steps ring (taken_after taken t.next) ts

-- how many descriptors were taken after them
unfoldable pub taken_by : ℕ → List Take → ℕ
taken_by taken [] = taken
taken_by taken (t ∷ ts) = taken_by (taken_after taken t.next) ts

-- ---- room
-- room for a reply: no load, no frame yet, and memory for so many frames and loads
pub record IsReplyRoom (loads frames : ℕ) (r : Reply) : Type 0 where
  pub empty : r.loads.list ≡ []
  pub room : loads ≤ r.loads.room
  pub untold : r.trace.items ≡ []
  pub trace_room : frames ≤ vec_capacity r.trace

-- for a message, with its copies, and for a descriptor, of which there are none
abbrev pub IsMessageRoom : HostJob → ℕ → ℕ → Reply → Type 0
IsMessageRoom job frames most r = IsReplyRoom (most / 8 + 2) frames r × (r.cells.items ≡ zeros job.cells) × (r.copies.buffers.items ≡ map empty_with job.rooms)

abbrev pub IsDescRoom : ℕ → Reply → Type 0
IsDescRoom frames r = IsReplyRoom 2 frames r × (length r.cells.items ≡ 3) × (r.copies.buffers.items ≡ [])

-- a fact for where there is a verdict
abbrev pub IfJudged : Option Verdict → Type 0 → Type 0
IfJudged None X = Unit {0}
IfJudged (Some verdict) X = X

-- how many frames a failure of this code has at most
abbrev pub frames_of : Parts → ℕ
frames_of c = most_need level c

abbrev pub IsRoom : HostJob → ℕ → ℕ → ℕ → TakeRoom → Type 0
IsRoom job frames desc_frames most r = IsDescRoom desc_frames r.descr × IsMessageRoom job frames most r.message

unfoldable pub AreRooms : HostJob → ℕ → ℕ → ℕ → List TakeRoom → Type 0
AreRooms job frames desc_frames most [] = Unit {0}
AreRooms job frames desc_frames most (r ∷ rs) = IsRoom job frames desc_frames most r × AreRooms job frames desc_frames most rs

-- ---- a ring's actor
-- it may look at this ring of the buffer: its seat is at the buffer, its reader has the ring's entries, not too many, and greatest message,
-- the ring and whatever lies in the reader's room are in the buffer, and its frame is armed for the code that validates the messages
pub record MayLook (shared : BufferState) (c : Parts) (ring : RingJob) (descr : ReaderView) (seat : SeatState) (frame : FrameView) : Type 0 where
  pub own : seat.table ≡ shared.table
  pub entries : descr.entries ≡ ring.entries
  pub most : descr.most ≡ ring.most
  pub few : ring.entries ≤ MOST_ENTRIES
  pub inside : ring.base + ring_words ring.entries ≤ shared.count
  pub bytes : descr.room ≤ 8 * shared.count
  pub armed : IsArmed c frame

-- all takes of ring k were made, each names the ring, by a reader that took nothing before, and the seat made their steps and no other
pub record RanRing (job : HostJob) (c : Parts) (room : ℕ) (ring : RingJob) (k : ℕ) (seat seat' : SeatState) (takes : List Take) : Type 0 where
  pub as_many : length takes ≡ ring.takes
  pub named : All (λ (t : Take). t.ring ≡ k) takes
  pub are : (m : Module) → Describes m c room ring.most → AreTakes job m room ring k 1 0 takes
  pub steps : HasDone seat seat' (all_steps ring 0 takes)
