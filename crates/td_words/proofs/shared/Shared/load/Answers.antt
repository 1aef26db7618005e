use Rattle.std.proofs.Common.{sym, ap, ◌∙◌, refl, arith}
use Rattle.td_words.specs.Seats.{SeatState, BufferState}
use Rattle.td_words.proofs.Steps.{loads, stays}
use Rattle.td_words.proofs.shared.Shared.load.Goals as goal

pub load-requires : goal.load-requires
load-requires c =
    let b = ap (λ (x : BufferState). x.count) c.self.view_is in
    let w = c.self.invariant.0 in
    let r = c.requires.inside in
    (ap (λ (x : SeatState). x.table) c.seat.view_is ∙ (c.requires.own ∙ sym (ap (λ (x : BufferState). x.table) c.self.view_is)), omega arith, loads _ _ _ _ c.seat.invariant)

pub invariant_of-seat : goal.invariant_of-seat
invariant_of-seat c = stays _ _ (c.load.ensures.2 c.args.i refl)
