-- A pass that posts or takes stays the pass that gathers, if it was.
use Rattle.std.proofs.Common.{◌≡◌, refl, sym, subst, Option, Some, None, Result, Ok, Err, OnOk, OnErr, IfSome}
use Rattle.td_ring.specs.Heads.{HasHead}
use Rattle.td_ring.specs.declared.post.Post.{Post}
use Rattle.td_ring.specs.Ring.{PassState, pass_with, did_post, did_take}

pub put_head_stays : {X Y : Type 0} (r : Result X Y) (old new : PassState) (p : Post) → OnOk r (new ≡ pass_with old (did_post old.view p)) → OnErr r (new ≡ old)
    → HasHead old.view.put_head → HasHead new.view.put_head
put_head_stays (Ok x) old new p posted same h = subst (λ s. HasHead s.view.put_head) (sym posted) h
put_head_stays (Err e) old new p posted same h = subst (λ s. HasHead s.view.put_head) (sym same) h

pub take_head_stays : (r : Option Post) (old new : PassState) → IfSome r (λ x. new ≡ pass_with old (did_take old.view x)) → (r ≡ None → new ≡ old)
    → HasHead old.view.take_head → HasHead new.view.take_head
take_head_stays None old new taken same h = subst (λ s. HasHead s.view.take_head) (sym (same refl)) h
take_head_stays (Some x) old new taken same h = subst (λ s. HasHead s.view.take_head) (sym taken) h
