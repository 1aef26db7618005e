-- What guests and workers are before they run, and what they did.
use Rattle.std.specs.Prelude.{◌≡◌, ◌⊎◌, ℕ, ◌-◌, ◌<◌, ◌≤◌, true, false, List, [], ◌∷◌, ◌++◌, map, max, length, vec_capacity, slice_get, slice_index, slice_index_or, Some, None, IfSome}
use Rattle.std.specs.List.{All}
use Rattle.atomic_table.specs.Seated.{TableId}
use Rattle.td_words.specs.declared.view.Access.{Access}
use Rattle.td_words.specs.declared.view.Access.TheVariants as access
use Rattle.td_words.specs.Views.{seat_view}
use Rattle.td_words.specs.Seats.{SeatState, seat_state}
use Rattle.td_words.specs.History.{loads, stores}
use Rattle.td_ring.specs.Roll.{part_of}
use Rattle.td_ring.specs.declared.post.Post.{Post}
use Rattle.td_ring.specs.Ring.{PassState, pass_state, ring_view}
use Rattle.td_ring.specs.Tickets.{DrawerState, drawer_state, ticket_view}
use Rattle.td_stream.specs.Layouts.{count_in}
use Rattle.td_stream.specs.Copies.{empty_with, rooms_of}
use Rattle.td_posts.specs.declared.job.Step.{Step}
use Rattle.td_posts.specs.declared.job.Step.TheVariants as step
use Rattle.td_posts.specs.declared.mail.Mail.{Mail}
use Rattle.td_posts.specs.declared.reply.Reply.{Reply}
use Rattle.td_posts.specs.declared.job.HostJob.{HostJob}
use Rattle.td_posts.specs.Posts.{mails_of, all_mails, mail_named, list_of, layout_of, zeros, reply_name, version_in}
use Rattle.td_ir.specs.declared.tables.Parts.{Parts}
use Rattle.td_vm.specs.Need.{most_need, level}
use Rattle.td_vm.specs.Frames.{FrameView, IsArmed}
use Rattle.td_takes.specs.declared.take.Take.{Take}
use Rattle.td_takes.specs.declared.take.TakeRoom.{TakeRoom}
use Rattle.td_swap.specs.Views.{publisher_view, swap_view, new_view}
use Rattle.td_swap.specs.Seats.{PublishState, SwapState, publish_state, swap_state}
use Rattle.td_host_actors.specs.Replies.{IsReplyTo, pieces, label, mail_label}

-- ---- what a post promises
-- how many frames a failure of these codes has at most
abbrev pub most_frames : List Parts → ℕ
most_frames [] = 0
most_frames (c ∷ cs) = max (most_need level c) (most_frames cs)

-- a frame for each code, armed for it
pub record AreArmed (cs : List Parts) (frames : List FrameView) : Type 0 where
  pub as_many : length frames ≡ length cs
  pub each : (n : ℕ) (c : Parts) (d : FrameView) → slice_get cs n ≡ Some c → IsArmed c (slice_index_or frames n d)

-- the reply's lists have memory for just so many frames, cells and copy buffers, and these buffers have these rooms, whatever they hold
pub record HasMemory (frames cells : ℕ) (rooms : List ℕ) (r : Reply) : Type 0 where
  pub trace_room : vec_capacity r.trace ≡ frames
  pub cell_room : vec_capacity r.cells ≡ cells
  pub buffer_room : vec_capacity r.copies.buffers ≡ length rooms
  pub copy_rooms : rooms_of r.copies.buffers.items ≡ rooms

-- the reply has the memory of a room for a post of this job, by these codes
abbrev pub IsInRoom : List Parts → HostJob → Reply → Type 0
IsInRoom cs job r = HasMemory (most_frames cs) job.cells job.rooms r

-- how many frames a failure of the first of these codes has at most
abbrev pub first_frames : List Parts → ℕ
first_frames [] = 0
first_frames (c ∷ cs) = most_need level c

-- the room of a take has memory for just so many frames of a descriptor and for its three cells, and for a message for just so many
-- frames, the job's cells and its copy buffers
pub record IsTakeRoom (frames desc_frames : ℕ) (job : HostJob) (room : TakeRoom) : Type 0 where
  pub descr : HasMemory desc_frames 3 [] room.descr
  pub message : HasMemory frames job.cells job.rooms room.message

-- so have the replies of a take, where it has them; for a descriptor of ring k, the first of which is ring 1, the k-th of these counts
-- of frames
pub record IsTakeInRoom (frames : ℕ) (desc_frames : List ℕ) (job : HostJob) (t : Take) : Type 0 where
  pub descr : IfSome t.descr (HasMemory (slice_index desc_frames (t.ring - 1)) 3 [])
  pub message : IfSome t.message (HasMemory frames job.cells job.rooms)

-- the post is one of the job's, by its first of that name, and its room is empty and large enough, with memory for just so many frames,
-- the job's cells and its copy buffers, which hold nothing
pub record PostFits (frames : ℕ) (job : HostJob) (p : Post) : Type 0 where
  pub mail : Mail
  pub is : mail_named p.name (all_mails 1 job.guests) ≡ Some mail
  pub made : p.made ≡ mail.made
  pub name : reply_name p.room ≡ p.name
  pub layout : p.room.layout ≡ list_of mail
  pub empty : p.room.loads.list ≡ []
  pub room : count_in (layout_of mail) ≤ p.room.loads.room
  pub cells : p.room.cells.items ≡ zeros job.cells
  pub untold : p.room.trace.items ≡ []
  pub memory : HasMemory frames job.cells job.rooms p.room
  pub copies : p.room.copies.buffers.items ≡ map empty_with job.rooms

abbrev pub post_of : Mail → Reply → Post
post_of m r = record { name = m.name; made = m.made; room = r }

-- a room for each of these posts
unfoldable pub RoomsFor : (Post → Type 0) → List Mail → List Reply → Type 0
RoomsFor names [] rooms = Unit {0}
RoomsFor names (m ∷ ms) [] = ⊥
RoomsFor names (m ∷ ms) (r ∷ rooms) = names (post_of m r) × RoomsFor names ms rooms

-- ---- guests
-- the steps of a seat that makes the stores of a script
unfoldable pub acts_of : List Step → List Access
acts_of [] = []
acts_of (step.Store word value ∷ steps) = access.Store word value ∷ acts_of steps
acts_of (step.Post base length ∷ steps) = acts_of steps
acts_of (step.Scatter layout ∷ steps) = acts_of steps

-- each word that is stored to is in the buffer
unfoldable pub StoresInside : ℕ → List Step → Type 0
StoresInside count [] = Unit {0}
StoresInside count (step.Store word value ∷ steps) = (word < count) × StoresInside count steps
StoresInside count (step.Post base length ∷ steps) = StoresInside count steps
StoresInside count (step.Scatter layout ∷ steps) = StoresInside count steps

-- the seat has the number n, is a guest's, and made these steps
abbrev pub guest_seat : TableId → List ℕ → ℕ → List Access → SeatState
guest_seat table opened n steps = seat_state table (seat_view opened n true steps)

abbrev pub read_seat : TableId → List ℕ → ℕ → List Access → SeatState
read_seat table opened n steps = seat_state table (seat_view opened n false steps)

abbrev pub post_pass : TableId → ℕ → List Post → PassState
post_pass queue n posts = pass_state queue (ring_view None (Some (part_of n posts)) None None)

abbrev pub take_pass : TableId → ℕ → List Post → PassState
take_pass queue n posts = pass_state queue (ring_view None None None (Some (part_of n posts)))

abbrev pub ticket_seat : TableId → ℕ → List ℕ → DrawerState
ticket_seat table n draws = drawer_state table (ticket_view None (Some (part_of n draws)))

-- the guest made the stores of its script and its posts
pub record RanScript (guest : ℕ) (script : List Step) (seat seat' : SeatState) (pass pass' : PassState) : Type 0 where
  pub posts : List Post
  pub labels : map label posts ≡ map mail_label (mails_of guest script)
  pub is_seat : (opened : List ℕ) (n : ℕ) → seat ≡ guest_seat seat.table opened n [] → seat' ≡ guest_seat seat.table opened n (acts_of script)
  pub is_pass : (n : ℕ) → pass ≡ post_pass pass.queue n [] → pass' ≡ post_pass pass.queue n posts

-- ---- the publisher
-- it published all versions
abbrev pub RanPublisher : PublishState → PublishState → Type 0
RanPublisher seat seat' = seat' ≡ publish_state seat.table (publisher_view seat.view.count (seat.view.count - 1))

-- ---- workers
-- the reply is to the job's post of its name
pub record Answered (job : HostJob) (r : Reply) : Type 0 where
  pub mail : Mail
  pub is : mail_named (reply_name r) (all_mails 1 job.guests) ≡ Some mail
  pub reply : IsReplyTo job mail r

-- the worker drew tickets below the count of posts, and for each of those took one post and answered it, with loads of its own
-- seat, under the version that it then loaded, one load for each, by a seat that made no other; it ended when it had drawn one or more that aren't below the count, or had
-- answered as many posts as there are
pub record RanWorker (job : HostJob) (count : ℕ) (seat seat' : SeatState) (pass pass' : PassState) (drawer drawer' : DrawerState) (swap swap' : SwapState) (replies : List Reply) : Type 0 where
  pub steps : List Access
  pub posts : List Post
  pub below : List ℕ
  pub above : List ℕ
  pub is_seat : (opened : List ℕ) (n : ℕ) → seat ≡ read_seat seat.table opened n [] → seat' ≡ read_seat seat.table opened n steps
  pub is_pass : (n : ℕ) → pass ≡ take_pass pass.queue n [] → pass' ≡ take_pass pass.queue n posts
  pub is_drawer : (n : ℕ) → drawer ≡ ticket_seat drawer.table n [] → drawer' ≡ ticket_seat drawer.table n (below ++ above)
  pub is_swap : (versions : ℕ) → swap ≡ swap_state swap.table (new_view versions) → swap' ≡ swap_state swap.table (swap_view versions 0 (map version_in replies) [])
  pub loaded : loads steps ≡ pieces (all_mails 1 job.guests) replies
  pub stored : stores steps ≡ []
  pub names : map reply_name replies ≡ map (λ p. p.name) posts
  pub answered : All (Answered job) replies
  pub all_below : All (λ k. k < count) below
  pub all_above : All (λ k. count ≤ k) above
  pub as_many : length below ≡ length posts
  pub few : length replies ≤ count
  pub enough : (0 < length above) ⊎ (count ≤ length posts)
