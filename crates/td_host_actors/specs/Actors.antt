-- What runs in a thread, before and afterwards.
use Rattle.std.specs.Prelude.{◌≡◌, ℕ, ◌+◌, ◌*◌, ◌<◌, ◌≤◌, ◌^◌, List, [], length, vec_capacity, Some, slice_get}
use Rattle.td_words.specs.History.{stores}
use Rattle.td_words.specs.Seats.{BufferState}
use Rattle.td_ring.specs.declared.post.Post.{Post}
use Rattle.atomic_table.specs.Seated.{TableId}
use Rattle.td_ring.specs.Ring.{RingState}
use Rattle.td_swap.specs.Versions.{CodesState}
use Rattle.td_swap.specs.Seats.{IsPublishers, IsOwn}
use Rattle.td_ir.specs.declared.tables.Parts.{Parts}
use Rattle.td_vm.specs.Frames.{IsArmed}
use Rattle.td_posts.specs.declared.limits.TheConstants.{MOST_ENTRIES}
use Rattle.td_posts.specs.declared.mail.Mail.{Mail}
use Rattle.td_posts.specs.declared.reply.Reply.{Reply}
use Rattle.td_posts.specs.declared.job.HostJob.{HostJob}
use Rattle.td_posts.specs.Posts.{mails_of}
use Rattle.td_host_actors.specs.declared.actor.Actor.{Actor}
use Rattle.td_host_actors.specs.declared.actor.Actor.TheVariants as kind
use Rattle.td_host_actors.specs.declared.actor.Desk.{Desk}
use Rattle.td_host_actors.specs.declared.actor.Taker.{Taker}
use Rattle.td_descr.specs.Ring.{ring_words}
use Rattle.td_takes.specs.declared.take.Take.{Take}
use Rattle.td_takes.specs.declared.take.TakeRoom.{TakeRoom}
use Rattle.td_takes.specs.Takes.{AreRooms, RanRing, frames_of}
use Rattle.td_host_actors.specs.Acting.{AreArmed, RoomsFor, StoresInside, RanScript, RanPublisher, RanWorker}

-- what workers and takers work by: the tickets, the codes, how many posts there are to answer, and the job
pub record Service : Type 0 where
  pub tickets : TableId
  pub codes : CodesState
  pub posts : ℕ
  pub job : HostJob

abbrev pub service : TableId → CodesState → ℕ → HostJob → Service
service tickets codes posts job = record { tickets = tickets; codes = codes; posts = posts; job = job }

abbrev pub service_at : {J : Type 0} → Desk J → Service
service_at d = service d.tickets d.codes (length d.mails.items) d.job

-- a ring's taker made no take yet: its reader has the ring's entries and greatest message, its messages lie in the buffer as the ring
-- does, and it took nothing; there is room for validations by version 0's code, and for each take
pub record IsTakerReady (shared : BufferState) (cs : List Parts) (job : HostJob) (t : Taker) : Type 0 where
  pub own : t.seat.table ≡ shared.table
  pub entries : t.descr.entries ≡ t.ring.entries
  pub most : t.descr.most ≡ t.ring.most
  pub few : t.ring.entries ≤ MOST_ENTRIES
  pub inside : t.ring.base + ring_words t.ring.entries ≤ shared.count
  pub bytes : t.descr.room ≤ 8 * shared.count
  pub none : t.descr.taken ≡ 0
  pub code : Parts
  pub first : slice_get cs 0 ≡ Some code
  pub armed : IsArmed code t.frame
  pub rooms : AreRooms job (frames_of code) (frames_of t.descr.code) t.ring.most t.rooms.items
  pub as_many : length t.rooms.items ≡ t.ring.takes
  pub empty : t.takes.items ≡ []
  pub space : t.ring.takes ≤ vec_capacity t.takes

-- a worker made no reply yet, and has room for one to each post and for validations by each code; a guest stored nothing yet, its
-- stores lie in the buffer, and it has a room for each post; a ring's taker made no take yet; the publisher published nothing yet
abbrev pub IsActorReady : {G : Type 0} → (Post → Type 0) → BufferState → RingState → Service → Actor G → Type 0
IsActorReady names shared ring s (kind.Worker w) =
    (w.seat.table ≡ shared.table) × (w.pass.queue ≡ ring.queue) × (w.drawer.table ≡ s.tickets) × IsOwn s.codes w.swap × AreArmed s.codes.codes w.frames.items
    × (w.replies.items ≡ []) × (s.posts ≤ vec_capacity w.replies)
IsActorReady names shared ring s (kind.Guest g) =
    (g.seat.table ≡ shared.table) × (g.pass.queue ≡ ring.queue) × StoresInside shared.count g.script × (length g.script < 2 ^ 32)
    × (stores g.seat.view.steps ≡ []) × RoomsFor names (mails_of g.number g.script) g.rooms.items
IsActorReady names shared ring s (kind.Ring t) = IsTakerReady shared s.codes.codes s.job t
IsActorReady names shared ring s (kind.Publisher p) = IsPublishers s.codes p × (p.view.number ≡ 0) × (0 < length s.codes.codes)

-- the replies that the actor made
abbrev pub replies_of : {G : Type 0} → Actor G → List Reply
replies_of (kind.Worker w) = w.replies.items
replies_of (kind.Guest g) = []
replies_of (kind.Ring t) = []
replies_of (kind.Publisher p) = []

-- the rooms of takes that the actor has, and the takes that it made
abbrev pub take_rooms_of : {G : Type 0} → Actor G → List TakeRoom
take_rooms_of (kind.Worker w) = []
take_rooms_of (kind.Guest g) = []
take_rooms_of (kind.Ring t) = t.rooms.items
take_rooms_of (kind.Publisher p) = []

abbrev pub takes_of : {G : Type 0} → Actor G → List Take
takes_of (kind.Worker w) = []
takes_of (kind.Guest g) = []
takes_of (kind.Ring t) = t.takes.items
takes_of (kind.Publisher p) = []

-- what an actor did, from the one state to the other: a worker answered posts, a guest ran its script, a ring's taker made its takes,
-- the publisher published
abbrev pub Did : {G : Type 0} → HostJob → List Mail → Actor G → Actor G → Type 0
Did job mails (kind.Worker w) (kind.Worker v) = RanWorker job (length mails) w.seat v.seat w.pass v.pass w.drawer v.drawer w.swap v.swap v.replies.items
Did job mails (kind.Worker w) (kind.Guest h) = ⊥
Did job mails (kind.Worker w) (kind.Ring u) = ⊥
Did job mails (kind.Worker w) (kind.Publisher q) = ⊥
Did job mails (kind.Guest g) (kind.Worker v) = ⊥
Did job mails (kind.Guest g) (kind.Guest h) = RanScript g.number g.script g.seat h.seat g.pass h.pass
Did job mails (kind.Guest g) (kind.Ring u) = ⊥
Did job mails (kind.Guest g) (kind.Publisher q) = ⊥
Did job mails (kind.Ring t) (kind.Worker v) = ⊥
Did job mails (kind.Ring t) (kind.Guest h) = ⊥
Did job mails (kind.Ring t) (kind.Ring u) = RanRing job t.descr.code t.descr.room t.ring t.number t.seat u.seat u.takes.items
Did job mails (kind.Ring t) (kind.Publisher q) = ⊥
Did job mails (kind.Publisher p) (kind.Worker v) = ⊥
Did job mails (kind.Publisher p) (kind.Guest h) = ⊥
Did job mails (kind.Publisher p) (kind.Ring u) = ⊥
Did job mails (kind.Publisher p) (kind.Publisher q) = RanPublisher p q
