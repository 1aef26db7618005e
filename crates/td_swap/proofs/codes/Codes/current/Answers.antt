use Rattle.std.proofs.Common.{rules, ◌≡◌, ℕ, ◌<◌, length, sym, ap, ◌∙◌, arith}
use Rattle.std.specs.Prelude.{slice_index_or}
use Rattle.td_swap.specs.declared.version.Version.{Version}
use Rattle.td_swap.specs.Views.{did_load}
use Rattle.td_swap.specs.Rule.{Holding, swap_in}
use Rattle.td_swap.specs.Seats.{SwapState}
use Rattle.td_swap.specs.Versions.{CodesState}
use Rattle.td_swap.proofs.Steps.{loads, stays, loaded_versions}
use Rattle.td_swap.proofs.Numbers.{lent}
use Rattle.td_swap.proofs.codes.Codes.current.Goals as goal

pub load-number-requires : goal.load-number-requires
load-number-requires c =
    let w = c.self.invariant.0 in
    (ap (λ (x : SwapState). x.table) c.seat.view_is ∙ (c.requires.0 ∙ sym (ap (λ (x : CodesState). x.table) c.self.view_is)), omega (arith, w), loads _ _ _ c.seat.invariant.0)

pub invariant_of-seat : goal.invariant_of-seat
invariant_of-seat c =
    let t = c.load-number.ensures.2 in
    (stays c.load-number.new.seat.me (did_load (swap_in c.seat.inside.seat.me.0) c.load-number.result) t.0, loaded_versions c.seat.inside.seat.me c.load-number.new.seat.me c.load-number.result c.seat.invariant.1 t.0 t.2)

pub returns-clause-versions : goal.returns-clause-versions
returns-clause-versions c = let t = c.load-number.ensures.2 in loaded_versions c.seat.inside.seat.me c.load-number.new.seat.me c.load-number.result c.seat.invariant.1 t.0 t.2

pub returns-clause-code : goal.returns-clause-code
returns-clause-code c =
    let d : Version = c.index.result.now in
    let is : slice_index_or c.self.inside.versions.items c.load-number.result d ≡ d = search rules in
    let k = ap (λ (x : SwapState). x.view.count) c.seat.view_is in
    let less : c.load-number.result < length c.args.self.now.codes = omega (arith, c.load-number.ensures.2.1, c.requires.1, k) in
    (lent _ _ _ d c.self.invariant.1 (ap (λ (x : CodesState). x.codes) c.self.view_is) less is).1

pub returns-clause-seat : goal.returns-clause-seat
returns-clause-seat c =
    let d : Version = c.index.result.now in
    let is : slice_index_or c.self.inside.versions.items c.load-number.result d ≡ d = search rules in
    let k = ap (λ (x : SwapState). x.view.count) c.seat.view_is in
    let less : c.load-number.result < length c.args.self.now.codes = omega (arith, c.load-number.ensures.2.1, c.requires.1, k) in
    let same = (lent _ _ _ d c.self.invariant.1 (ap (λ (x : CodesState). x.codes) c.self.view_is) less is).0 in
    let e = c.load-number.ensures in
    let v : swap_in c.seat.inside.seat.me.0 ≡ c.args.seat.now.view = ap (λ (y : SwapState). y.view) c.seat.view_is in
    let view : swap_in c.load-number.new.seat.me.0 ≡ did_load c.args.seat.now.view d.number = ap (λ (y : Holding ℕ). swap_in y.0) e.2.0 ∙ (λ j. did_load (v j) (same j)) in
    let table = e.0 ∙ ap (λ (y : SwapState). y.table) c.seat.view_is in
    λ j. record { table = table j; view = view j }
