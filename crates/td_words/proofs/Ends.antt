-- The table at its end.
use Rattle.std.proofs.Common.{◌≡◌, ℕ, zero, suc, ◌+◌, List, [], ◌∷◌, drop, get_or, sym, ap, ◌∙◌, subst, add-one}
use Rattle.std.specs.Prelude.{slice_index}
use mathlib.Core.Option.{some, some-injective, some-ne-none}
use lib.ListN.{get_elem?}
use Rattle.atomic_table.specs.Table.{Final, Seen}
use Rattle.td_words.specs.declared.view.HostView.{HostView}
use Rattle.td_words.specs.declared.view.View.{View}
use Rattle.td_words.specs.declared.view.View.TheVariants.{Host}
use Rattle.td_words.specs.History.{Entry, memory_after}
use Rattle.td_words.specs.Rule.{KeepsHistory, host_in, IsHost, Holding}
use Rattle.td_words.specs.Gathered.{IsHistoryOf}
use Rattle.td_words.proofs.Makes.{tells}

at_or : (l : List ℕ) (i r : ℕ) → get_elem? l i ≡ some r → r ≡ get_or l i 0
at_or [] i r e = absurd (some-ne-none r (sym e))
at_or (x ∷ xs) zero r e = sym (some-injective x r e)
at_or (x ∷ xs) (suc i) r e = at_or xs i r e

at_next : (l : List ℕ) (i r : ℕ) → get_elem? l (suc i) ≡ some r → r ≡ get_or (drop 1 l) i 0
at_next [] i r e = absurd (some-ne-none r (sym e))
at_next (x ∷ xs) i r e = at_or xs i r e

pub reads : (l : List ℕ) (i r : ℕ) → get_elem? l (i + 1) ≡ some r → r ≡ slice_index (drop 1 l) i
reads l i r e = at_next l i r (ap (get_elem? l) (sym (add-one i)) ∙ e)

module _ {S : Type 0} where
  closes_at : (id : ℕ) (h : HostView) (ws : List ℕ) (xs : List S) → Final {S = S} (Seen KeepsHistory id (Host h)) ws xs → (log : List Entry) × IsHistoryOf h log × (drop 1 ws ≡ memory_after h.opened log)
  closes_at id h ws xs f =
      let k = f.1.0 in
      let here = k.each id (Host h) f.1.1 in
      (k.log, tells f.0 k id h f.1.1, ap (drop 1) (sym f.2 ∙ k.words) ∙ ap (λ (x : HostView). memory_after x.opened k.log) (sym here.1))

  pub closes : (id : ℕ) (m : Holding S) (ws : List ℕ) (xs : List S) → IsHost m → Final {S = S} (Seen KeepsHistory id m.0) ws xs → (log : List Entry) × IsHistoryOf (host_in m.0) log × (drop 1 ws ≡ memory_after (host_in m.0).opened log)
  closes id m ws xs is f = closes_at id (host_in m.0) ws xs (subst (λ (v : View). Final {S = S} (Seen KeepsHistory id v) ws xs) (ap (λ (y : Holding S). y.0) is) f)
