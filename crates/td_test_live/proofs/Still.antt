-- A pass or seat that makes others goes on to make them.
use Rattle.std.proofs.Common.{Option, None, Some, refl, sym, true≢false}
use Rattle.td_ring.specs.declared.roll.Head.{Head}
use Rattle.td_ring.specs.Heads.{HasHead, one_more}

pub still_head : {A : Type 0} (o : Option (Head A)) → HasHead o → HasHead (one_more o)
still_head (Some h) e = refl
still_head None e = absurd (true≢false (sym e))
