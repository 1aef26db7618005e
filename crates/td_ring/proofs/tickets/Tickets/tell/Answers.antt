use Rattle.std.proofs.Common.{sym, ap, ◌∙◌, arith}
use Rattle.td_ring.specs.Tickets.{DrawerState}
use Rattle.td_ring.proofs.Draws.{learns}
use Rattle.td_ring.proofs.tickets.Tickets.tell.Goals as goal

pub load-requires : goal.load-requires
load-requires c =
    let w = c.self.invariant in
    (ap (λ (x : DrawerState). x.table) c.seat.view_is ∙ (c.requires ∙ sym c.self.view_is), omega arith, learns _ _ _)
