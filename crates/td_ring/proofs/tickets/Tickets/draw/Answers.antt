use Rattle.std.proofs.Common.{ℕ, sym, ap, ◌∙◌, arith}
use Rattle.td_ring.specs.Tickets.{DrawerState, Holding}
use Rattle.td_ring.proofs.Draws.{draws, drew_can}
use Rattle.td_ring.proofs.tickets.Tickets.draw.Goals as goal

pub fetch_add-requires : goal.fetch_add-requires
fetch_add-requires c =
    let w = c.self.invariant in
    (ap (λ (x : DrawerState). x.table) c.seat.view_is ∙ (c.requires ∙ sym c.self.view_is), omega arith, draws _ _ _ c.seat.invariant.1)

pub invariant_of-seat : goal.invariant_of-seat
invariant_of-seat c = (ap (λ (x : Holding ℕ). x.1) c.fetch_add.ensures.2 ∙ c.seat.invariant.0, drew_can _ _ _ c.seat.invariant.1 c.fetch_add.ensures.2)
