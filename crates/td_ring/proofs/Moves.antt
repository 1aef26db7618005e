-- Each call keeps the rule of the ring.
use Rattle.std.specs.Prelude.{Result, Ok, Err, MatchResult, MatchOption}
use Rattle.std.proofs.Common.{◌≡◌, ◌≢◌, ℕ, List, [], ◌∷◌, ◌++◌, set, Option, None, Some, refl, sym, ap, ◌∙◌, subst, ⊎_elim, append_assoc}
use Rattle.td_num.specs.Lists.{Each}
use mathlib.Core.Option.{some}
use lib.ListN.{get_elem?}
use Rattle.atomic_table.proofs.Lists.{at_set}
use Rattle.crossbeam_queue.specs.Fifo.{Pushes, Pops, Forks, Merges, Learns}
use Rattle.td_ring.specs.declared.roll.Head.{Head}
use Rattle.td_ring.specs.Roll.{all_entries, part_of, head_of, added}
use Rattle.td_ring.proofs.RollViews.{all_entries-push}
use Rattle.td_ring.proofs.RollAdds.{adds, stays, longer, makes}
use Rattle.td_ring.proofs.RollGathers.{gathers}
use Rattle.td_ring.proofs.RollMoves.{moves, hands}
use Rattle.td_ring.proofs.RollBegins.{begins_own}
use Rattle.td_ring.proofs.RollHeads.{is_none, are_in_log}
use Rattle.td_ring.specs.declared.post.Post.{Post}
use Rattle.td_ring.specs.declared.view.RingView.{RingView}
use Rattle.td_ring.specs.Heads.{maybe_of, one_more, new_part, with_ended, with_more}
use Rattle.td_ring.specs.Ring.{ring_view, head_put, part_put, head_take, part_take, KeepsPosts, CanPost, CanTake, did_post, did_take, both_heads, only_put, only_take, no_view, one_more_put, new_put, one_more_take, new_take, with_put, with_take, with_takes, Settled, Stood}
use Rattle.td_num.proofs.Lists.{each_push as Each-push}

module _ (names : Post → Type 0) where
  pub begins : KeepsPosts names [] (both_heads ∷ [])
  begins = record { posted = []; taken = []; puts = begins_own head_put part_put both_heads refl refl; takes = begins_own head_take part_take both_heads refl refl; queue = refl; named = tt }

  pub posts : (n port : ℕ) (v : RingView) (x : Post) → CanPost v → names x → Pushes (KeepsPosts names) n port v x (λ w. w ≡ did_post v x)
  posts n port v x can ok items views room h at =
      let p = can.0.0 in
      let is = can.0.1 in
      let w : RingView = did_post v x in (
        w,
        record {
          posted = h.posted ++ (p.number, x) ∷ [];
          taken = h.taken;
          puts = adds head_put part_put views h.posted h.puts port v w p x at (ap maybe_of is) refl (ap (λ o. maybe_of (with_more o x)) is);
          takes = stays head_take part_take views h.taken h.takes port v w at refl refl;
          queue = all_entries-push h.posted (p.number, x) ∙ (ap (λ l. l ++ x ∷ []) h.queue ∙ append_assoc (all_entries h.taken) items (x ∷ []));
          named = Each-push names items x h.named ok;
        },
        refl,
      )

  pub takes : (port : ℕ) (v : RingView) → CanTake v → Pops (KeepsPosts names) port v (λ x w. (w ≡ did_take v x) × names x)
  takes port v can x items views h at =
      let p = can.0 in
      let is : v.take ≡ Some p = ap (λ (u : RingView). u.take) can.1 in
      let w : RingView = did_take v x in (
        w,
        record {
          posted = h.posted;
          taken = h.taken ++ (p.number, x) ∷ [];
          puts = stays head_put part_put views h.posted h.puts port v w at refl refl;
          takes = adds head_take part_take views h.taken h.takes port v w p x at (ap maybe_of is) refl (ap (λ o. maybe_of (with_more o x)) is);
          queue = h.queue ∙ (sym (append_assoc (all_entries h.taken) (x ∷ []) items) ∙ ap (λ l. l ++ items) (sym (all_entries-push h.taken (p.number, x))));
          named = h.named.1;
        },
        (refl, h.named.0),
      )

  pub learns : (port : ℕ) (v : RingView) → Learns (KeepsPosts names) port v (Settled v)
  learns port v items views h at = record {
    posted = h.posted;
    taken = h.taken;
    queue = h.queue;
    puts = λ g p e f. are_in_log head_put part_put views h.posted h.puts port v at g p (ap maybe_of e) (ap maybe_of f);
    takes = λ g p e f. are_in_log head_take part_take views h.taken h.takes port v at g p (ap maybe_of e) (ap maybe_of f);
  }

  pub stands : (port : ℕ) (v : RingView) → Learns (KeepsPosts names) port v (Stood names v)
  stands port v items views h at = record { views = views; number = port; among = at; rule = h; settled = learns port v items views h at }

  -- the first pass is cut in two
  pub parts_ends : (port : ℕ) (v : RingView) → v ≡ both_heads → Forks (KeepsPosts names) port v (only_put v) (only_take v)
  parts_ends port v is items views h at =
      let l : RingView = only_put v in
      let r : RingView = only_take v in
      let e : v.take_head ≡ Some (head_of 1 []) = ap (λ (u : RingView). u.take_head) is in
      record {
        posted = h.posted;
        taken = h.taken;
        puts = longer head_put part_put (set views port l) h.posted (stays head_put part_put views h.posted h.puts port v l at refl refl) r refl refl;
        takes = hands head_take part_take views h.taken h.takes port v l r (head_of 1 []) at (ap maybe_of e) refl refl refl refl;
        queue = h.queue;
        named = h.named;
      }

  pub splits_put : (port : ℕ) (v : RingView) → ((h : Head Post) × (v.put_head ≡ Some h)) → Forks (KeepsPosts names) port v (one_more_put v) (new_put v)
  splits_put port v is items views h at =
      let l : RingView = one_more_put v in
      let r : RingView = new_put v in
      record {
        posted = h.posted;
        taken = h.taken;
        puts = makes head_put part_put views h.posted h.puts port v l r is.0 at (ap maybe_of is.1) (ap (λ o. maybe_of (one_more o)) is.1) refl refl (ap (λ o. maybe_of (new_part o)) is.1);
        takes = longer head_take part_take (set views port l) h.taken (stays head_take part_take views h.taken h.takes port v l at refl refl) r refl refl;
        queue = h.queue;
        named = h.named;
      }

  pub splits_take : (port : ℕ) (v : RingView) → ((h : Head Post) × (v.take_head ≡ Some h)) → Forks (KeepsPosts names) port v (one_more_take v) (new_take v)
  splits_take port v is items views h at =
      let l : RingView = one_more_take v in
      let r : RingView = new_take v in
      record {
        posted = h.posted;
        taken = h.taken;
        puts = longer head_put part_put (set views port l) h.posted (stays head_put part_put views h.posted h.puts port v l at refl refl) r refl refl;
        takes = makes head_take part_take views h.taken h.takes port v l r is.0 at (ap maybe_of is.1) (ap (λ o. maybe_of (one_more o)) is.1) refl refl (ap (λ o. maybe_of (new_part o)) is.1);
        queue = h.queue;
        named = h.named;
      }

  was_there : (views : List RingView) (id other : ℕ) (b w : RingView) → (other ≡ id → ⊥) → get_elem? (set views id b) other ≡ some w → get_elem? views other ≡ some w
  was_there views id other b w ne e = ⊎_elim (λ (x : (other ≡ id) × (b ≡ w)). absurd (ne x.0)) (λ (x : (other ≢ id) × (get_elem? views other ≡ some w)). x.1) (at_set views id other b w e)

  pub gathers_put : (port : ℕ) (v : RingView) (other : ℕ) (w : RingView) → ((h : Head Post) × (v.put_head ≡ Some h)) → CanPost w → Merges (KeepsPosts names) port v other w (with_put v w) no_view
  gathers_put port v other w is can items views h at ne there =
      let b : RingView = with_put v w in
      let was = was_there views port other b w ne there in
      let no_head : w.put_head ≡ None = is_none w.put_head (λ g e. ne ((h.puts.each_head other w g was (ap maybe_of e)).0 ∙ sym (h.puts.each_head port v is.0 at (ap maybe_of is.1)).0)) in
      let no_take_head = can.2 no_head in
      let no_take = can.1 no_take_head in
      let p = can.0.0 in
      record {
        posted = h.posted;
        taken = h.taken;
        puts = gathers head_put part_put views h.posted h.puts port other v b w no_view is.0 p at was ne (ap maybe_of is.1) (ap maybe_of can.0.1) (ap maybe_of no_head) (λ i. maybe_of (with_ended (is.1 i) (can.0.1 i))) refl refl refl;
        takes = stays head_take part_take (set views port b) h.taken (stays head_take part_take views h.taken h.takes port v b at refl refl) other w no_view there (sym (ap maybe_of no_take_head)) (sym (ap maybe_of no_take));
        queue = h.queue;
        named = h.named;
      }

  pub gathers_take : (port : ℕ) (v : RingView) (other : ℕ) (w : RingView) → ((h : Head Post) × (v.take_head ≡ Some h)) → CanTake w → Merges (KeepsPosts names) port v other w (with_take v w) no_view
  gathers_take port v other w is can items views h at ne there =
      let b : RingView = with_take v w in
      let was = was_there views port other b w ne there in
      let no_head : w.take_head ≡ None = is_none w.take_head (λ g e. ne ((h.takes.each_head other w g was (ap maybe_of e)).0 ∙ sym (h.takes.each_head port v is.0 at (ap maybe_of is.1)).0)) in
      let is_take : w.take ≡ Some can.0 = ap (λ (u : RingView). u.take) can.1 in
      record {
        posted = h.posted;
        taken = h.taken;
        puts = stays head_put part_put (set views port b) h.posted (stays head_put part_put views h.posted h.puts port v b at refl refl) other w no_view there (sym (ap (λ (u : RingView). maybe_of u.put_head) can.1)) (sym (ap (λ (u : RingView). maybe_of u.put) can.1));
        takes = gathers head_take part_take views h.taken h.takes port other v b w no_view is.0 can.0 at was ne (ap maybe_of is.1) (ap maybe_of is_take) (ap maybe_of no_head) (λ i. maybe_of (with_ended (is.1 i) (is_take i))) refl refl refl;
        queue = h.queue;
        named = h.named;
      }

  pub settles_both : (port : ℕ) (v : RingView) (other : ℕ) (w : RingView) → CanPost v → CanTake w → ((h : Head Post) × (w.take_head ≡ Some h)) → Merges (KeepsPosts names) port v other w (with_takes v w) no_view
  settles_both port v other w can can_take is items views h at ne there =
      let b : RingView = with_takes v w in
      let was = was_there views port other b w ne there in
      let no_head : v.take_head ≡ None = is_none v.take_head (λ g e. ne ((h.takes.each_head other w is.0 was (ap maybe_of is.1)).0 ∙ sym (h.takes.each_head port v g at (ap maybe_of e)).0)) in
      record {
        posted = h.posted;
        taken = h.taken;
        puts = stays head_put part_put (set views port b) h.posted (stays head_put part_put views h.posted h.puts port v b at refl refl) other w no_view there (sym (ap (λ (u : RingView). maybe_of u.put_head) can_take.1)) (sym (ap (λ (u : RingView). maybe_of u.put) can_take.1));
        takes = moves head_take part_take views h.taken h.takes port other v b w no_view is.0 at was ne (ap maybe_of no_head) (ap maybe_of (can.1 no_head)) (ap maybe_of is.1) refl refl refl refl;
        queue = h.queue;
        named = h.named;
      }

-- ---- what a pass is after its calls
did_post_can : (v : RingView) (x : Post) → CanPost v → CanPost (did_post v x)
did_post_can v x can = ((added can.0.0 x, ap (λ o. with_more o x) can.0.1), can.1, can.2)

pub posted_can : (v w : RingView) (x : Post) (F : Post → Type 0) (r : Result (Unit {0}) Post) → CanPost v → MatchResult r (λ _. w ≡ did_post v x) (λ y. (y ≡ x) × (w ≡ v) × F y) → CanPost w
posted_can v w x F (Ok u) can e = subst CanPost (sym e) (did_post_can v x can)
posted_can v w x F (Err y) can e = subst CanPost (sym e.1) can

did_take_can : (v : RingView) (x : Post) → CanTake v → CanTake (did_take v x)
did_take_can v x can = (added can.0 x, λ i. ring_view ((can.1 i).put_head) ((can.1 i).put) v.take_head (with_more ((can.1 i).take) x))

pub took_can : (v w : RingView) (names : Post → Type 0) (F : Type 0) (r : Option Post) → CanTake v → MatchOption r ((w ≡ v) × F) (λ x. (w ≡ did_take v x) × names x) → CanTake w
took_can v w names F None can e = subst CanTake (sym e.0) can
took_can v w names F (Some x) can e = subst CanTake (sym e.0) (did_take_can v x can)

pub first_can : (w : RingView) → w ≡ only_put both_heads → CanPost w
first_can w e = subst CanPost (sym e) ((part_of 0 [], refl), (λ _. refl), (λ _. refl))
