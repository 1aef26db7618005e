-- What the host collects from its actors, one after the other; of use in td_host alone.
use Rattle.std.specs.Prelude.{◌≡◌, ◌+◌, ◌≤◌, ◌++◌, length, vec_capacity}
use Rattle.td_words.specs.Seats.{with_view}
use Rattle.td_words.specs.Views.{with_ended}
use Rattle.td_ring.specs.Heads.{HasHead}
use Rattle.td_ring.specs.Ring.{pass_with}
use Rattle.td_ring.specs.Tickets.{drawer_with}
use Rattle.td_swap.specs.Views.{AreVersions}
use Rattle.td_swap.specs.Seats.{IsOwn, swap_state}
use Rattle.td_host_actors.specs.declared.actor.Actor.{Actor}
use Rattle.td_host_actors.specs.declared.actor.Desk.{Desk}
use Rattle.td_host_actors.specs.Actors.{replies_of, takes_of}
use Rattle.td_host.specs.declared.gather.Collected.{Collected}
use Rattle.td_host.specs.Gathered.{view_of, put_one, take_one, draw_one, swap_one}

-- the host may collect at this desk: its seat is at the desk's buffer, its first passes at the ring, its first ticket seat at the tickets, and
-- its seat at the version word, whose numbers never fall
pub record MayCollect {J : Type 0} (d : Desk J) (k : Collected) : Type 0 where
  pub seat : k.heads.seat.table ≡ d.shared.table
  pub posts : k.heads.posts.queue ≡ d.ring.queue
  pub takes : k.heads.takes.queue ≡ d.ring.queue
  pub drawer : k.heads.drawer.table ≡ d.tickets
  pub first : HasHead k.heads.posts.view.put_head × HasHead k.heads.takes.view.take_head × HasHead k.heads.drawer.view.head
  pub own : IsOwn d.codes k.swap
  pub versions : AreVersions k.swap.view

module _ {G : Type 0} where
  -- there is room for the actor's replies and takes
  pub record HasRoomFor (k : Collected) (a : Actor G) : Type 0 where
    pub replies : length k.found.items + length (replies_of a) ≤ vec_capacity k.found
    pub takes : length k.takes.items + length (takes_of a) ≤ vec_capacity k.takes

  -- what this actor had is collected, too
  pub record CollectsOne (k l : Collected) (a : Actor G) : Type 0 where
    pub seat : l.heads.seat ≡ with_view k.heads.seat (with_ended k.heads.seat.view (view_of a))
    pub posts : l.heads.posts ≡ pass_with k.heads.posts (put_one k.heads.posts.view a)
    pub takes : l.heads.takes ≡ pass_with k.heads.takes (take_one k.heads.takes.view a)
    pub drawer : l.heads.drawer ≡ drawer_with k.heads.drawer (draw_one k.heads.drawer.view a)
    pub swap : l.swap ≡ swap_state k.swap.table (swap_one k.swap.view a)
    pub versions : AreVersions l.swap.view
    pub found : l.found.items ≡ k.found.items ++ replies_of a
    pub made : l.takes.items ≡ k.takes.items ++ takes_of a
    pub reply_room : vec_capacity k.found ≤ vec_capacity l.found
    pub take_room : vec_capacity k.takes ≤ vec_capacity l.takes
