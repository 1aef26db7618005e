use Rattle.std.proofs.Common.{sym, ap, ◌∙◌, arith}
use Rattle.td_ring.specs.Tickets.{DrawerState}
use Rattle.td_ring.proofs.RollHeads.{head_in}
use Rattle.td_ring.proofs.Draws.{joins, learns}
use Rattle.td_ring.proofs.tickets.Tickets.gather.Goals as goal

pub join_seat-requires : goal.join_seat-requires
join_seat-requires c =
    let w = c.self.invariant in (
      ap (λ (x : DrawerState). x.table) c.seat.view_is ∙ (c.requires.own.0 ∙ sym c.self.view_is),
      ap (λ (x : DrawerState). x.table) c.other.view_is ∙ (c.requires.own.1 ∙ sym c.self.view_is),
      c.other.invariant.0,
      omega arith,
      joins _ _ _ _ (head_in _ _ (ap (λ (x : DrawerState). x.view.head) c.seat.view_is) c.requires.head) c.other.invariant.1,
    )

pub load-requires : goal.load-requires
load-requires c =
    let w = c.self.invariant in
    (c.join_seat.ensures.0 ∙ (ap (λ (x : DrawerState). x.table) c.seat.view_is ∙ (c.requires.own.0 ∙ sym c.self.view_is)), omega arith, learns _ _ _)
