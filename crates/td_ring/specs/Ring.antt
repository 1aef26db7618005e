-- The rule of a ring of posts, and what its passes know and tell (own rule).
use Rattle.std.specs.Prelude.{◌≡◌, ℕ, List, [], ◌++◌, Option, None, Some}
use Rattle.td_num.specs.Lists.{Each}
use mathlib.Core.Option as maybe
use mathlib.Core.Option.{some}
use lib.ListN.{get_elem?}
use Rattle.atomic_table.specs.Seated.{TableId}
use Rattle.td_ring.specs.declared.roll.Part.{Part}
use Rattle.td_ring.specs.declared.roll.Head.{Head}
use Rattle.td_ring.specs.Roll.{Entry, all_entries, part_of, head_of, Roll}
use Rattle.td_ring.specs.Heads.{maybe_of, one_more, new_part, with_ended, with_more, AreInLog}
use Rattle.td_ring.specs.declared.post.Post.{Post}
use Rattle.td_ring.specs.declared.view.RingView.{RingView}

-- ---- what a pass knows, and what its calls do to it
abbrev pub ring_view : Option (Head Post) → Option (Part Post) → Option (Head Post) → Option (Part Post) → RingView
ring_view put_head put take_head take = record { put_head = put_head; put = put; take_head = take_head; take = take }

-- whose queue a pass is of, and its view
pub record PassState : Type 0 where
  pub queue : TableId
  pub view : RingView

-- the queue, and how many posts it has room for
pub record RingState : Type 0 where
  pub queue : TableId
  pub capacity : ℕ

abbrev pub pass_state : TableId → RingView → PassState
pass_state q v = record { queue = q; view = v }

-- the pass with another view
abbrev pub pass_with : PassState → RingView → PassState
pass_with s v = record { queue = s.queue; view = v }

-- the first pass of a queue has both heads, and is then cut in two
abbrev pub both_heads : RingView
both_heads = ring_view (Some (head_of 1 [])) (Some (part_of 0 [])) (Some (head_of 1 [])) (Some (part_of 0 []))

abbrev pub only_put : RingView → RingView
only_put v = ring_view v.put_head v.put None None

abbrev pub only_take : RingView → RingView
only_take v = ring_view None None v.take_head v.take

-- the view of a pass that was gathered
abbrev pub no_view : RingView
no_view = ring_view None None None None

-- one post more, or one take more, in the pass's own list
abbrev pub did_post : RingView → Post → RingView
did_post v x = ring_view v.put_head (with_more v.put x) v.take_head v.take

abbrev pub did_take : RingView → Post → RingView
did_take v x = ring_view v.put_head v.put v.take_head (with_more v.take x)

-- the head made one more pass that posts, and that pass
abbrev pub one_more_put : RingView → RingView
one_more_put v = ring_view (one_more v.put_head) v.put v.take_head v.take

abbrev pub new_put : RingView → RingView
new_put v = ring_view None (new_part v.put_head) None None

-- the head made one more pass that takes, and that pass
abbrev pub one_more_take : RingView → RingView
one_more_take v = ring_view v.put_head v.put (one_more v.take_head) v.take

abbrev pub new_take : RingView → RingView
new_take v = ring_view None None None (new_part v.take_head)

-- the head gathered a pass that posts, or one that takes
abbrev pub with_put : RingView → RingView → RingView
with_put v w = ring_view (with_ended v.put_head w.put) v.put v.take_head v.take

abbrev pub with_take : RingView → RingView → RingView
with_take v w = ring_view v.put_head v.put (with_ended v.take_head w.take) v.take

-- the head of the passes that post took that of the passes that take in
abbrev pub with_takes : RingView → RingView → RingView
with_takes v w = ring_view v.put_head v.put w.take_head w.take

-- ---- what the ring tells
-- there is one list of all posts made, and what was taken is a prefix of it; the items are the rest. Each pass's own posts
-- or takes stand there under its number, in its order
pub record Settled (v : RingView) (items : List Post) : Type 0 where
  pub posted : List (Entry Post)
  pub taken : List (Entry Post)
  pub queue : all_entries posted ≡ all_entries taken ++ items
  pub puts : (h : Head Post) (p : Part Post) → v.put_head ≡ Some h → v.put ≡ Some p → AreInLog posted h p
  pub takes : (h : Head Post) (p : Part Post) → v.take_head ≡ Some h → v.take ≡ Some p → AreInLog taken h p

-- ---- the rule of the queue
abbrev pub head_put : RingView → maybe.Option (Head Post)
head_put v = maybe_of v.put_head

abbrev pub part_put : RingView → maybe.Option (Part Post)
part_put v = maybe_of v.put

abbrev pub head_take : RingView → maybe.Option (Head Post)
head_take v = maybe_of v.take_head

abbrev pub part_take : RingView → maybe.Option (Part Post)
part_take v = maybe_of v.take

-- between any two steps: what was taken is a prefix of what was posted, the ring holds the rest, and the named fact holds of
-- each post in it
pub record KeepsPosts (names : Post → Type 0) (items : List Post) (views : List RingView) : Type 0 where
  pub posted : List (Entry Post)
  pub taken : List (Entry Post)
  pub puts : Roll head_put part_put views posted
  pub takes : Roll head_take part_take views taken
  pub queue : all_entries posted ≡ all_entries taken ++ items
  pub named : Each names items

-- ---- what a full or an empty ring tells
-- at one moment the ring held these items, and its rule held of them and of what all passes then knew; this pass's view was
-- among those
pub record Stood (names : Post → Type 0) (v : RingView) (items : List Post) : Type 0 where
  pub views : List RingView
  pub number : ℕ
  pub among : get_elem? views number ≡ some v
  pub rule : KeepsPosts names items views
  pub settled : Settled v items

-- ---- the two kinds of pass
-- a pass that posts; only the head of those may have taken the takes in
abbrev pub CanPost : RingView → Type 0
CanPost v = ((p : Part Post) × (v.put ≡ Some p)) × (v.take_head ≡ None → v.take ≡ None) × (v.put_head ≡ None → v.take_head ≡ None)

-- a pass that takes
abbrev pub CanTake : RingView → Type 0
CanTake v = (p : Part Post) × (v ≡ ring_view None None v.take_head (Some p))
