use Rattle.std.proofs.Common.{refl, sym, subst}
use Rattle.td_ring.specs.Heads.{HasHead}
use Rattle.td_test_live.proofs.Heads.{put_head_stays, take_head_stays}
use Rattle.td_test_live.proofs.small.a_full_ring_hands_the_post_back.Goals as goal

pub settle-requires-clause-heads : goal.settle-requires-clause-heads
settle-requires-clause-heads g c =
    let ring = c.in_ok-ring in
    let puts = put_head_stays c.post-first.result ring.posts c.post-first.new.pass c.in_ok-one.one c.post-first.ensures.posted c.post-first.ensures.same
    (subst (λ s. HasHead s.view.put_head) (sym ring.ensures.posts) refl) in
    let takes = take_head_stays c.take-got.result ring.takes c.take-got.new.pass c.take-got.ensures.taken c.take-got.ensures.same
    (subst (λ s. HasHead s.view.take_head) (sym ring.ensures.takes) refl) in (
      put_head_stays c.post-second.result c.post-first.new.pass c.post-second.new.pass c.in_ok-two.two c.post-second.ensures.posted c.post-second.ensures.same puts,
      take_head_stays c.take-none.result c.take-got.new.pass c.take-none.new.pass c.take-none.ensures.taken c.take-none.ensures.same takes,
    )
