-- Each step on the tickets keeps their rule.
use Rattle.std.proofs.Common.{◌≡◌, ◌≢◌, ℕ, suc, ◌+◌, ◌%◌, ◌^◌, List, [], ◌∷◌, ◌++◌, length, set, get_or, None, Some, refl, sym, ap, ◌∙◌, subst, ⊎_elim, arith}
use Rattle.std.specs.Prelude.{slice_index}
use mathlib.Core.Option.{none, some, some-injective, some-ne-none}
use mathlib.Core.Option as maybe
use lib.ListN.{get_elem?}
use Rattle.atomic_table.specs.Table.{State, step, keeps, Allows, Splits, Joins}
use Rattle.atomic_table.proofs.Lists.{at_set, set_again}
use Rattle.td_ring.specs.declared.roll.Head.{Head}
use Rattle.td_ring.specs.Roll.{Entry, added}
use Rattle.td_ring.proofs.RollViews.{all_entries-push}
use Rattle.td_ring.proofs.RollAdds.{adds, makes}
use Rattle.td_ring.proofs.RollGathers.{gathers}
use Rattle.td_ring.proofs.RollBegins.{begins_own}
use Rattle.td_ring.proofs.RollHeads.{is_none, are_in_log}
use Rattle.td_ring.specs.declared.view.TicketView.{TicketView}
use Rattle.td_ring.specs.Heads as more
use Rattle.td_ring.specs.Heads.{maybe_of, new_part, with_ended, with_more}
use Rattle.td_ring.specs.Tickets.{head_in, part_in, counted, KeepsCount, CanDraw, did_draw, first_view, no_view, one_more, new_seat, with_seat, Holding, Drew, Drawn, Learned}

one_longer : (log : List (Entry ℕ)) (e : Entry ℕ) → length (log ++ e ∷ []) ≡ suc (length log)
one_longer [] e = refl
one_longer (x ∷ log) e = ap suc (one_longer log e)

next : (k : ℕ) → (k % 2 ^ 64 + 1) % 2 ^ 64 ≡ suc k % 2 ^ 64
next k = omega arith

set_same : (l : List ℕ) → set l 0 (get_or l 0 0) ≡ l
set_same [] = refl
set_same (x ∷ xs) = refl

module _ {S : Type 0} where
  pub opens : (hs : List (maybe.Option S)) → KeepsCount {S = S} record { words = 0 ∷ []; homes = hs; views = first_view ∷ [] }
  opens hs = record { log = []; roll = begins_own head_in part_in first_view refl refl; word = refl; numbers = refl }

  pub draws : (slots id : ℕ) (m : Holding S) → CanDraw m.0 → Allows {S = S} KeepsCount slots id m 0 (λ n. (n + 1) % 2 ^ 64) (Drew (step slots 0 1 0 none) m)
  draws slots id m can s k len at small =
      let p = can.0 in
      let n = slice_index s.words 0 in
      let is : n ≡ length k.log % 2 ^ 64 = ap (λ l. slice_index l 0) k.word in
      let w : TicketView = did_draw m.0 n in
      let e : Entry ℕ = (p.number, n) in (
        w,
        keeps,
        tt,
        record {
          log = k.log ++ e ∷ [];
          roll = adds head_in part_in s.views k.log k.roll id m.0 w p n at (ap maybe_of can.1) refl (ap (λ o. maybe_of (with_more o n)) can.1);
          word = ap (λ l. set l 0 ((n + 1) % 2 ^ 64)) k.word ∙ ap (λ (x : ℕ). x ∷ []) (ap (λ x. (x + 1) % 2 ^ 64) is ∙ (next (length k.log) ∙ ap (λ x. x % 2 ^ 64) (sym (one_longer k.log e))));
          numbers = all_entries-push k.log e ∙ (ap (λ l. l ++ n ∷ []) k.numbers ∙ (ap (λ x. counted (length k.log) ++ x ∷ []) is ∙ ap counted (sym (one_longer k.log e))));
        },
        refl,
      )

  pub splits : (id : ℕ) (v : TicketView) → ((h : Head ℕ) × (v.head ≡ Some h)) → Splits {S = S} KeepsCount id v (one_more v) (new_seat v)
  splits id v is s k at = record {
    log = k.log;
    roll = makes head_in part_in s.views k.log k.roll id v (one_more v) (new_seat v) is.0 at (ap maybe_of is.1) (ap (λ o. maybe_of (more.one_more o)) is.1) refl refl (ap (λ o. maybe_of (new_part o)) is.1);
    word = k.word;
    numbers = k.numbers;
  }

  pub joins : (id : ℕ) (v : TicketView) (other : ℕ) (w : TicketView) → ((h : Head ℕ) × (v.head ≡ Some h)) → CanDraw w → Joins {S = S} KeepsCount id v other w (with_seat v w) no_view
  joins id v other w is can s k at ne there =
      let was : get_elem? s.views other ≡ some w = ⊎_elim (λ (x : (other ≡ id) × (with_seat v w ≡ w)). absurd (ne x.0)) (λ (x : (other ≢ id) × (get_elem? s.views other ≡ some w)). x.1) (at_set s.views id other (with_seat v w) w there) in
      let no_head : w.head ≡ None = is_none w.head (λ g e. ne ((k.roll.each_head other w g was (ap maybe_of e)).0 ∙ sym (k.roll.each_head id v is.0 at (ap maybe_of is.1)).0)) in
      record {
        log = k.log;
        roll = gathers head_in part_in s.views k.log k.roll id other v (with_seat v w) w no_view is.0 can.0 at was ne (ap maybe_of is.1) (ap maybe_of can.1) (ap maybe_of no_head) (λ i. maybe_of (with_ended (is.1 i) (can.1 i))) refl refl refl;
        word = k.word;
        numbers = k.numbers;
      }

  told : (s : State S TicketView) (k : KeepsCount s) (id : ℕ) (v : TicketView) → get_elem? s.views id ≡ some v → Drawn v k.log
  told s k id v at = record {
    numbers = k.numbers;
    seats = λ h p e f. are_in_log head_in part_in s.views k.log k.roll id v at h p (ap maybe_of e) (ap maybe_of f);
  }

  pub learns : (slots id : ℕ) (m : Holding S) → Allows {S = S} KeepsCount slots id m 0 (λ n. n) (Learned (step slots 0 0 0 none) m)
  learns slots id m s k len at small = (
    m.0,
    keeps,
    tt,
    subst (λ (x : List ℕ × List TicketView). KeepsCount {S = S} record { words = x.0; homes = s.homes; views = x.1 }) (λ i. (sym (set_same s.words) i, sym (set_again s.views id m.0 at) i)) k,
    (refl, (k.log, told s k id m.0 at)),
  )

  pub drew_can : (m m' : Holding S) (n : ℕ) → CanDraw m.0 → m' ≡ (did_draw m.0 n, m.1) → CanDraw m'.0
  drew_can m m' n can e = (added can.0 n, ap (λ (x : Holding S). x.0.draws) e ∙ ap (λ o. with_more o n) can.1)
