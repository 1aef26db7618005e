use Rattle.std.proofs.Common.{◌≡◌, ℕ, sym, ap, ◌∙◌, arith}
use Rattle.td_swap.specs.Rule.{Holding, swap_in}
use Rattle.td_swap.specs.Seats.{SwapState}
use Rattle.td_swap.specs.Versions.{CodesState}
use Rattle.td_swap.proofs.Steps.{joins, joined}
use Rattle.td_swap.proofs.codes.Codes.gather.Goals as goal

pub join_seat-requires : goal.join_seat-requires
join_seat-requires c =
    let w = c.self.invariant.0 in
    let t = sym (ap (λ (x : CodesState). x.table) c.self.view_is) in (
      ap (λ (x : SwapState). x.table) c.seat.view_is ∙ (c.requires.own.0 ∙ t),
      ap (λ (x : SwapState). x.table) c.other.view_is ∙ (c.requires.other.0 ∙ t),
      ap (λ (m : Holding ℕ). m.1) c.other.invariant.0,
      omega (arith, w),
      joins _ _ _ _ c.seat.invariant.0 c.other.invariant.0,
    )

pub invariant_of-seat : goal.invariant_of-seat
invariant_of-seat c =
    let a = ap (λ (x : SwapState). x.view.count) c.seat.view_is in
    let b = ap (λ (x : SwapState). x.view.count) c.other.view_is in
    let same : (swap_in c.other.inside.seat.me.0).count ≡ (swap_in c.seat.inside.seat.me.0).count = b ∙ (c.requires.other.1 ∙ (sym c.requires.own.1 ∙ sym a)) in
    joined c.seat.inside.seat.me c.other.inside.seat.me c.join_seat.new.seat.me c.seat.invariant.0 same c.seat.invariant.1 c.other.invariant.1 c.join_seat.ensures.2

pub returns-clause-versions : goal.returns-clause-versions
returns-clause-versions c =
    let a = ap (λ (x : SwapState). x.view.count) c.seat.view_is in
    let b = ap (λ (x : SwapState). x.view.count) c.other.view_is in
    let same : (swap_in c.other.inside.seat.me.0).count ≡ (swap_in c.seat.inside.seat.me.0).count = b ∙ (c.requires.other.1 ∙ (sym c.requires.own.1 ∙ sym a)) in
    (joined c.seat.inside.seat.me c.other.inside.seat.me c.join_seat.new.seat.me c.seat.invariant.0 same c.seat.invariant.1 c.other.invariant.1 c.join_seat.ensures.2).1
