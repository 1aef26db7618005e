-- Takes in the memory of their rooms.
use Rattle.std.proofs.Common.{◌≡◌, ℕ, ◌+◌, ◌-◌, ◌<◌, List, [], ◌∷◌, ◌++◌, Option, Some, None, length, map, sym, ap, ◌∙◌, subst, arith}
use Rattle.std.specs.Prelude.{slice_get, slice_index, slice_index_or, IfSome}
use Rattle.std.specs.List.{All}
use Rattle.std.proofs.lemmas.List.{get_or-map}
use Rattle.std.proofs.lemmas.List.Elements.{All-nil, All-cons, All-head, All-tail, All-append, All-push}
use Rattle.std.proofs.lemmas.Option.{none-some, same_Some}
use Rattle.td_num.proofs.Lists.{all_left}
use Rattle.td_ir.specs.declared.tables.Parts.{Parts}
use Rattle.td_vm.specs.Need.{most_need, level}
use Rattle.td_posts.specs.declared.job.Step.{Step}
use Rattle.td_posts.specs.declared.job.HostJob.{HostJob}
use Rattle.td_posts.specs.declared.mail.Mail.{Mail}
use Rattle.td_posts.specs.declared.reply.Reply.{Reply}
use Rattle.td_ring.specs.declared.post.Post.{Post}
use Rattle.td_ring.specs.Ring.{RingState, PassState}
use Rattle.td_ring.specs.Tickets.{DrawerState}
use Rattle.td_words.specs.Seats.{BufferState, HostState}
use Rattle.td_takes.specs.declared.take.Take.{Take}
use Rattle.td_takes.specs.declared.take.TakeRoom.{TakeRoom}
use Rattle.td_descr.specs.Ring.{ReaderView}
use Rattle.td_takes.specs.Takes.{RanRing}
use Rattle.td_takes.specs.Memory.{KeepsMemory, KeepsRoom, KeepRooms}
use Rattle.td_host_actors.specs.declared.actor.Actor.{Actor}
use Rattle.td_host_actors.specs.declared.actor.Actor.TheVariants as kind
use Rattle.td_host_actors.specs.declared.actor.Guest.{Guest}
use Rattle.td_host_actors.specs.declared.actor.Worker.{Worker}
use Rattle.td_host_actors.specs.Acting.{HasMemory, IsTakeRoom, IsTakeInRoom, first_frames}
use Rattle.td_host_actors.specs.Actors.{Service, Did, take_rooms_of, takes_of}
use Rattle.td_host.specs.Gathered.{takes_of_all, reader_frames, HasTakeRooms, FreshWorkers, FreshGuests, WorkersSeated, GuestsSeated}

-- ---- the first code's frames
pub first_is : (cs : List Parts) (c : Parts) → slice_get cs 0 ≡ Some c → first_frames cs ≡ most_need level c
first_is [] c e = absurd (none-some c e)
first_is (x ∷ cs) c e = ap (most_need level) (same_Some x c e)

-- ---- one take
reply_keeps : (frames cells : ℕ) (rooms : List ℕ) (room r : Reply) → KeepsMemory room r → HasMemory frames cells rooms room → HasMemory frames cells rooms r
reply_keeps frames cells rooms room r k h = record {
  trace_room = k.trace ∙ h.trace_room;
  cell_room = k.cells ∙ h.cell_room;
  buffer_room = k.buffers ∙ h.buffer_room;
  copy_rooms = k.rooms ∙ h.copy_rooms;
}

where_there : (frames cells : ℕ) (rooms : List ℕ) (room : Reply) (o : Option Reply) → IfSome o (KeepsMemory room) → HasMemory frames cells rooms room → IfSome o (HasMemory frames cells rooms)
where_there frames cells rooms room None k h = tt
where_there frames cells rooms room (Some r) k h = reply_keeps frames cells rooms room r k h

take_keeps : (frames n : ℕ) (desc_frames : List ℕ) (job : HostJob) (room : TakeRoom) (t : Take) → slice_index desc_frames (t.ring - 1) ≡ n → KeepsRoom room t → IsTakeRoom frames n job room
    → IsTakeInRoom frames desc_frames job t
take_keeps frames n desc_frames job room t is k h = record {
  descr = where_there (slice_index desc_frames (t.ring - 1)) 3 [] room.descr t.descr k.descr (subst (λ x. HasMemory x 3 [] room.descr) (sym is) h.descr);
  message = where_there frames job.cells job.rooms room.message t.message k.message h.message;
}

-- each take of this ring in the next of the rooms
module _ (frames : ℕ) (desc_frames : List ℕ) (job : HostJob) where
  takes_keep : (ring : ℕ) (rooms : List TakeRoom) (ts : List Take) → KeepRooms rooms ts → All (λ (t : Take). t.ring ≡ ring) ts → All (IsTakeRoom frames (slice_index desc_frames (ring - 1)) job) rooms
      → All (IsTakeInRoom frames desc_frames job) ts
  unfolding KeepRooms
  takes_keep ring rooms [] k named h = All-nil (IsTakeInRoom frames desc_frames job)
  takes_keep ring [] (t ∷ ts) k named h = absurd k
  takes_keep ring (room ∷ rooms) (t ∷ ts) k named h =
      let Room = IsTakeRoom frames (slice_index desc_frames (ring - 1)) job in
      let Of : Take → Type 0 = λ x. x.ring ≡ ring in
      All-cons (IsTakeInRoom frames desc_frames job) t ts
      (take_keeps frames (slice_index desc_frames (ring - 1)) desc_frames job room t (ap (λ r. slice_index desc_frames (r - 1)) (All-head Of t ts named)) k.0 (All-head Room room rooms h))
      (takes_keep ring rooms ts k.1 (All-tail Of t ts named) (All-tail Room room rooms h))

  none_kept : (ts : List Take) → KeepRooms [] ts → All (IsTakeInRoom frames desc_frames job) ts
  unfolding KeepRooms
  none_kept [] k = All-nil (IsTakeInRoom frames desc_frames job)
  none_kept (t ∷ ts) k = absurd k

  -- the takes that one actor made
  actor_keeps : {G : Type 0} (mails : List Mail) (a b : Actor G) → Did job mails a b → KeepRooms (take_rooms_of a) (takes_of b) → HasTakeRooms frames desc_frames job a → All (IsTakeInRoom frames desc_frames job) (takes_of b)
  actor_keeps mails (kind.Worker w) b d k h = none_kept (takes_of b) k
  actor_keeps mails (kind.Guest g) b d k h = none_kept (takes_of b) k
  actor_keeps mails (kind.Publisher p) b d k h = none_kept (takes_of b) k
  actor_keeps mails (kind.Ring t) (kind.Worker w) d k h = All-nil (IsTakeInRoom frames desc_frames job)
  actor_keeps mails (kind.Ring t) (kind.Guest g) d k h = All-nil (IsTakeInRoom frames desc_frames job)
  actor_keeps mails (kind.Ring t) (kind.Publisher p) d k h = All-nil (IsTakeInRoom frames desc_frames job)
  actor_keeps mails (kind.Ring t) (kind.Ring u) d k h =
      let ran : RanRing job t.descr.code t.descr.room t.ring t.number t.seat u.seat u.takes.items = d in
      takes_keep t.number t.rooms.items u.takes.items k ran.named h

-- ---- the takes of all
module _ {G : Type 0} (P : Take → Type 0) where
  of_all : (ds : List (Actor G)) → All (λ (a : Actor G). All P (takes_of a)) ds → All P (takes_of_all ds)
  unfolding takes_of_all
  of_all [] h = All-nil P
  of_all (a ∷ ds) h =
      let Of : Actor G → Type 0 = λ b. All P (takes_of b) in
      All-append P (takes_of a) (takes_of_all ds) (All-head Of a ds h) (of_all ds (All-tail Of a ds h))

-- of all actors but the last, each of which made its takes in its rooms
pub made_in_rooms : {G : Type 0} (frames : ℕ) (desc_frames : List ℕ) (job : HostJob) (mails : List Mail) (olds all news : List (Actor G)) (last : Actor G) (takes : List Take) → length all ≡ length olds
    → ((i : ℕ) (d : Actor G) → i < length olds → Did job mails (slice_index_or olds i d) (slice_index_or all i d))
    → ((i : ℕ) (d : Actor G) → i < length olds → KeepRooms (take_rooms_of (slice_index_or olds i d)) (takes_of (slice_index_or all i d)))
    → All (HasTakeRooms frames desc_frames job) olds → all ≡ news ++ last ∷ [] → takes ≡ takes_of_all news → All (IsTakeInRoom frames desc_frames job) takes
made_in_rooms {G} frames desc_frames job mails olds all news last takes count did each rooms are is =
    let P = IsTakeInRoom frames desc_frames job in
    let Of : Actor G → Type 0 = λ b. All P (takes_of b) in
    let every : All Of all = λ i d lt.
    let less : i < length olds = subst (λ k. i < k) count lt in
    actor_keeps frames desc_frames job mails (slice_index_or olds i d) (slice_index_or all i d) (did i d less) (each i d less) (rooms i d less) in
    let those : All Of news = all_left Of news (last ∷ []) (subst (All Of) are every) in
    subst (All P) (sym is) (of_all P news those)

-- ---- the rooms of each ring
-- the frames of the reader of this number
pub frames_at : (readers : List ReaderView) (n number : ℕ) (d : ReaderView) → n < length readers → slice_index_or readers n d ≡ d → number ≡ n + 1 → slice_index (map reader_frames readers) (number - 1) ≡ reader_frames d
frames_at readers n number d lt is e =
    let place : number - 1 ≡ n = omega (arith, e) in
    ap (slice_index (map reader_frames readers)) place ∙ (get_or-map reader_frames readers n d 0 lt ∙ ap reader_frames is)

module _ {G : Type 0} (frames : ℕ) (desc_frames : List ℕ) (job : HostJob) where
  -- one actor more, whose rooms have this memory
  pub pushed : (ds all : List (Actor G)) (a : Actor G) → all ≡ ds ++ a ∷ [] → All (HasTakeRooms frames desc_frames job) ds → HasTakeRooms frames desc_frames job a → All (HasTakeRooms frames desc_frames job) all
  pushed ds all a e h k = subst (All (HasTakeRooms frames desc_frames job)) (sym e) (All-push (HasTakeRooms frames desc_frames job) ds a h k)

  -- nobody else has such rooms
  workers_have : (shared : BufferState) (ring : RingState) (service : Service) (opened : List ℕ) (ds : List (Actor G)) → FreshWorkers shared ring service opened ds → All (HasTakeRooms frames desc_frames job) ds
  unfolding FreshWorkers
  workers_have shared ring service opened [] f = All-nil (HasTakeRooms frames desc_frames job)
  workers_have shared ring service opened (kind.Worker w ∷ ds) f = All-cons (HasTakeRooms frames desc_frames job) (kind.Worker w) ds tt (workers_have shared ring service opened ds f.1)
  workers_have shared ring service opened (kind.Guest g ∷ ds) f = absurd f
  workers_have shared ring service opened (kind.Ring t ∷ ds) f = absurd f
  workers_have shared ring service opened (kind.Publisher q ∷ ds) f = absurd f

  guests_have : (names : Post → Type 0) (shared : BufferState) (ring : RingState) (opened : List ℕ) (number n k : ℕ) (ss : List (List Step)) (ds : List (Actor G)) → FreshGuests names shared ring opened number n k ss ds
      → All (HasTakeRooms frames desc_frames job) ds
  unfolding FreshGuests
  guests_have names shared ring opened number n k [] [] f = All-nil (HasTakeRooms frames desc_frames job)
  guests_have names shared ring opened number n k [] (a ∷ ds) f = absurd f
  guests_have names shared ring opened number n k (s ∷ ss) [] f = absurd f
  guests_have names shared ring opened number n k (s ∷ ss) (kind.Worker w ∷ ds) f = absurd f
  guests_have names shared ring opened number n k (s ∷ ss) (kind.Ring t ∷ ds) f = absurd f
  guests_have names shared ring opened number n k (s ∷ ss) (kind.Publisher q ∷ ds) f = absurd f
  guests_have names shared ring opened number n k (s ∷ ss) (kind.Guest g ∷ ds) f =
      All-cons (HasTakeRooms frames desc_frames job) (kind.Guest g) ds tt (guests_have names shared ring opened (number + 1) (f.0.seat_number + 1) (f.0.pass_number + 1) ss ds f.1)

  pub before_have : (names : Post → Type 0) (shared : BufferState) (ring : RingState) (service : Service) (opened : List ℕ) (count : ℕ) (seat seat' : HostState) (posts takes : PassState) (drawer : DrawerState)
      (workers before : List (Actor G)) → WorkersSeated shared ring service opened count seat takes drawer workers → GuestsSeated names shared ring job workers seat' posts before
      → All (HasTakeRooms frames desc_frames job) before
  before_have names shared ring service opened count seat seat' posts takes drawer workers before w g =
      subst (All (HasTakeRooms frames desc_frames job)) (sym g.are)
      (All-append (HasTakeRooms frames desc_frames job) workers g.guests (workers_have shared ring service opened workers w.fresh) (guests_have names shared ring job.words 1 0 0 job.guests g.guests g.fresh))
