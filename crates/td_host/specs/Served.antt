-- When all posts of a job are served (own rule).
use Rattle.std.specs.Prelude.{◌≡◌, ◌⊎◌, ℕ, ◌+◌, ◌*◌, ◌≤◌, true, false, List, [], ◌∷◌, ◌++◌, map, length, slice_index, Some}
use Rattle.std.specs.List.{All}
use Rattle.std.specs.List.Sorted.{IsPermutation}
use Rattle.td_words.specs.declared.view.SeatView.{SeatView}
use Rattle.td_words.specs.declared.view.HostView.{HostView}
use Rattle.td_words.specs.History.{Entry, loads, stores}
use Rattle.td_words.specs.Gathered.{IsHistoryOf}
use Rattle.td_ring.specs.declared.roll.Part.{Part}
use Rattle.td_ring.specs.declared.roll.Head.{Head}
use Rattle.td_ring.specs.Roll.{part_of, owned}
use Rattle.td_ring.specs.declared.post.Post.{Post}
use Rattle.td_ring.specs.declared.view.RingView.{RingView}
use Rattle.td_ring.specs.Ring.{Settled}
use Rattle.td_posts.specs.declared.job.Step.{Step}
use Rattle.td_posts.specs.declared.mail.Mail.{Mail}
use Rattle.td_posts.specs.declared.reply.Reply.{Reply}
use Rattle.td_posts.specs.declared.job.HostJob.{HostJob}
use Rattle.td_posts.specs.Posts.{mails_of, all_mails, stores_of, reply_name}
use Rattle.td_core.specs.declared.module.Module.{Module}
use Rattle.td_takes.specs.declared.take.Take.{Take}
use Rattle.td_takes.specs.TakesServed.{TakesServed}
use Rattle.td_host_actors.specs.Replies.{IsReplyTo, pieces, label, mail_label}

-- the first replies to the first, the second to the second, and so on; there are as many of the one as of the other
unfoldable pub RepliesTo : HostJob → List Mail → List Reply → Type 0
RepliesTo job [] [] = Unit {0}
RepliesTo job [] (r ∷ rs) = ⊥
RepliesTo job (m ∷ ms) [] = ⊥
RepliesTo job (m ∷ ms) (r ∷ rs) = IsReplyTo job m r × RepliesTo job ms rs

-- ---- the loads
-- the loads of each seat are the pieces of one of these shares of the replies
unfoldable pub ArePieces : List Mail → List SeatView → List (List Reply) → Type 0
ArePieces mails [] [] = Unit {0}
ArePieces mails [] (share ∷ shares) = ⊥
ArePieces mails (v ∷ vs) [] = ⊥
ArePieces mails (v ∷ vs) (share ∷ shares) = (loads v.steps ≡ pieces mails share) × ArePieces mails vs shares

-- these lists, one after the other
unfoldable pub joined : {A : Type 0} → List (List A) → List A
joined [] = []
joined (xs ∷ xss) = xs ++ joined xss

-- the replies are divided among the seats, each to one seat and once, and the loads of each seat are its replies' pieces
pub record Divided (mails : List Mail) (seats : List SeatView) (replies : List Reply) : Type 0 where
  pub shares : List (List Reply)
  pub are_pieces : ArePieces mails seats shares
  pub each_once : IsPermutation (joined shares) replies

-- ---- the seats
-- a seat for each script, in order by rising numbers from n on; its stores are the script's, and it loaded nothing
unfoldable pub AreStored : ℕ → List (List Step) → List SeatView → Type 0
AreStored n [] [] = Unit {0}
AreStored n [] (v ∷ vs) = ⊥
AreStored n (s ∷ ss) [] = ⊥
AreStored n (s ∷ ss) (v ∷ vs) = (v.guest ≡ true) × (n ≤ v.number) × (stores v.steps ≡ stores_of s) × (loads v.steps ≡ []) × AreStored (v.number + 1) ss vs

-- x stands in the list
unfoldable pub In : {A : Type 0} → A → List A → Type 0
In x [] = ⊥
In x (y ∷ ys) = (y ≡ x) ⊎ In x ys

-- of a word and a value: the value stood in the word when the buffer was opened, or some guest's script stores it there
abbrev pub Comes : HostJob → ℕ × ℕ → Type 0
Comes job l = (l.1 ≡ slice_index job.words l.0) ⊎ ((s : List Step) × In s job.guests × In (l.0, l.1) (stores_of s))

-- what the host's seat knows of all that was done to the buffer: it gathered each seat that it made, first the readers, one
-- for each worker, which stored nothing, then a guest for each script, which loaded nothing, and then a taker for each ring, which
-- stored nothing; all their loads and stores stand in one history, and so each load is the opening word, or some guest's script
-- stores it to that word
pub record SeatsServed (job : HostJob) (replies : List Reply) (host : HostView) : Type 0 where
  pub readers : List SeatView
  pub guests : List SeatView
  pub takers : List SeatView
  pub ended : host.ended ≡ readers ++ (guests ++ takers)
  pub all_ended : length host.ended ≡ host.made
  pub opened : host.opened ≡ job.words
  pub history : List Entry
  pub told : IsHistoryOf host history
  pub as_many : length readers ≡ job.workers
  pub reading : All (λ (v : SeatView). (v.guest ≡ false) × (stores v.steps ≡ [])) readers
  pub divided : Divided (all_mails 1 job.guests) readers replies
  pub stored_by : AreStored 0 job.guests guests
  pub as_many_takers : length takers ≡ length job.rings
  pub taking : All (λ (v : SeatView). (v.guest ≡ false) × (stores v.steps ≡ [])) takers
  pub fetched : (v : SeatView) (l : ℕ × ℕ) → In v (readers ++ takers) → In l (loads v.steps) → Comes job l

-- ---- the passes
-- a pass for each script, in order by rising numbers from n on; its posts are the script's, in order, each with the number
-- of stores before it
unfoldable pub ArePosted : ℕ → ℕ → List (List Step) → List (Part Post) → Type 0
ArePosted g n [] [] = Unit {0}
ArePosted g n [] (p ∷ ps) = ⊥
ArePosted g n (s ∷ ss) [] = ⊥
ArePosted g n (s ∷ ss) (p ∷ ps) = (n ≤ p.number) × (map label p.own ≡ map mail_label (mails_of g s)) × ArePosted (g + 1) (p.number + 1) ss ps

-- what the ring's two first passes know, the one that posts and the one that takes: they posted and took nothing themselves,
-- they gathered each pass that was made, one that posts for each script and one that takes for each worker, and what was
-- taken is what was posted, each once; posts and takes stand in one list, each pass's in its own order, so what was posted first was
-- taken first
pub record PassesServed (job : HostJob) (passes : RingView) : Type 0 where
  pub posts : Head Post
  pub takes : Head Post
  pub post_head : passes.put_head ≡ Some posts
  pub take_head : passes.take_head ≡ Some takes
  pub no_post : passes.put ≡ Some (part_of 0 [])
  pub no_take : passes.take ≡ Some (part_of 0 [])
  pub all_posts : length posts.ended + 1 ≡ posts.made
  pub all_takes : length takes.ended + 1 ≡ takes.made
  pub posted : ArePosted 1 0 job.guests posts.ended
  pub as_many : length takes.ended ≡ job.workers
  pub taken : IsPermutation (owned takes.ended) (owned posts.ended)
  pub settled : Settled passes []

-- the replies of each share are to the posts that one of these passes took, in turn
unfoldable pub AnswerTakes : List (Part Post) → List (List Reply) → Type 0
AnswerTakes [] [] = Unit {0}
AnswerTakes [] (share ∷ shares) = ⊥
AnswerTakes (p ∷ ps) [] = ⊥
AnswerTakes (p ∷ ps) (share ∷ shares) = (map reply_name share ≡ map (λ (post : Post). post.name) p.own) × AnswerTakes ps shares

-- All posts of the job are served, and all takes of its rings are made: there is one reply for each post, by guest and number, and no
-- other; this is what the seats of the buffer and the passes of the ring did; each worker answered the posts that it took itself; and
-- the takes, by ring and number, are those of the takers' seats, by this module of descriptors
pub record Served (m : Module) (job : HostJob) (replies : List Reply) (takes : List Take) (host : HostView) (passes : RingView) : Type 0 where
  pub replies_are : RepliesTo job (all_mails 1 job.guests) replies
  pub seats : SeatsServed job replies host
  pub passes_are : PassesServed job passes
  pub answered : AnswerTakes passes_are.takes.ended seats.divided.shares
  pub takes_are : TakesServed job job.rings m (8 * length job.words) takes seats.takers
