use Rattle.std.proofs.Common.{sym, ap, ◌∙◌, arith}
use Rattle.td_ring.specs.Tickets.{DrawerState}
use Rattle.td_ring.proofs.RollHeads.{head_in}
use Rattle.td_ring.proofs.Draws.{splits}
use Rattle.td_ring.proofs.tickets.Tickets.split.Goals as goal

pub split_seat-requires : goal.split_seat-requires
split_seat-requires c =
    let w = c.self.invariant in
    (ap (λ (x : DrawerState). x.table) c.seat.view_is ∙ (c.requires.own ∙ sym c.self.view_is), omega arith, splits _ _ (head_in _ _ (ap (λ (x : DrawerState). x.view.head) c.seat.view_is) c.requires.head))
