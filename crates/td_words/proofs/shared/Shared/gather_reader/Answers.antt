use Rattle.std.proofs.Common.{ℕ, sym, ap, ◌∙◌}
use Rattle.td_words.specs.Rule.{Holding}
use Rattle.td_words.specs.Seats.{HostState, SeatState, BufferState}
use Rattle.td_words.proofs.Makes.{joins}
use Rattle.td_words.proofs.shared.Shared.gather_reader.Goals as goal

pub join_seat-requires : goal.join_seat-requires
join_seat-requires c =
    let t = sym (ap (λ (x : BufferState). x.table) c.self.view_is) in (
      ap (λ (x : HostState). x.table) c.host.view_is ∙ (c.requires.host ∙ t),
      ap (λ (x : SeatState). x.table) c.seat.view_is ∙ (c.requires.seat ∙ t),
      ap (λ (m : Holding ℕ). m.1) c.seat.invariant,
      c.self.invariant.0,
      joins _ _ _ _ c.host.invariant c.seat.invariant,
    )
