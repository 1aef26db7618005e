use Rattle.std.proofs.Common.{◌≡◌, vec_len}
use Rattle.td_elab_actions.specs.Pieces.{chained, onto}
use Rattle.td_elab_actions.proofs.actions.chained.Given as goal

-- the pieces that are left, before what they are followed by
abbrev pub invariant-loop-piece : goal.invariant-loop-piece
invariant-loop-piece l = onto l.pieces.items l.rest ≡ chained l.fn.pieces.items

abbrev pub decreases-loop-piece : goal.decreases-loop-piece
decreases-loop-piece l = vec_len l.pieces
