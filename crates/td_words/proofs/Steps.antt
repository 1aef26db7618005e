-- Each step keeps the rule. Cited by other crates.
use Rattle.std.proofs.Common.{◌≡◌, ◌≢◌, ℕ, zero, suc, ◌+◌, List, [], ◌∷◌, ◌++◌, set, get_or, refl, sym, ap, ◌∙◌, subst, ⊎_elim, arith, add-one}
use Rattle.std.specs.Prelude.{slice_index}
use mathlib.Core.Option.{Option, none, some, some-injective, some-ne-none}
use mathlib.Core.Logic.{dite}
use native.Mathlib.Decide.{ℕ_discrete}
use lib.ListN.{get_elem?}
use Rattle.atomic_table.specs.Table.{State, step, keeps, Allows}
use Rattle.atomic_table.proofs.Lists.{at_set, set_else}
use Rattle.td_num.proofs.Lists.{set_at}
use Rattle.td_words.specs.declared.view.Access.{Access}
use Rattle.td_words.specs.declared.view.Access.TheVariants.{Load, Store}
use Rattle.td_words.specs.declared.view.SeatView.{SeatView}
use Rattle.td_words.specs.declared.view.HostView.{HostView}
use Rattle.td_words.specs.declared.view.View.{View}
use Rattle.td_words.specs.declared.view.View.TheVariants.{Host, Seat, Spent}
use Rattle.td_words.specs.History.{Entry, after, Gives, memory_after}
use Rattle.td_words.specs.Views.{did}
use Rattle.td_words.specs.Rule.{seat_count, seats_out, IsInHistory, IsPlaced, IsHeld, KeepsHistory, seat_in, IsSeat, Holding, Loaded, Stored}
use Rattle.td_words.proofs.Histories.{memory_after-push, IsHistory-push, steps_of-same, steps_of-other}

pub set_same : (l : List ℕ) (i : ℕ) → set l i (get_or l i 0) ≡ l
set_same [] i = refl
set_same (x ∷ xs) zero = refl
set_same (x ∷ xs) (suc i) = ap (λ l. x ∷ l) (set_same xs i)

index_next : (x : ℕ) (l : List ℕ) (i : ℕ) → slice_index (x ∷ l) (i + 1) ≡ slice_index l i
index_next x l i = rw (add-one i) refl

set_next : (x : ℕ) (l : List ℕ) (i v : ℕ) → set (x ∷ l) (i + 1) v ≡ x ∷ set l i v
set_next x l i v = rw (add-one i) refl

pub seats_out_set : (vs : List View) (j : ℕ) (v w : View) → get_elem? vs j ≡ some v → seats_out (set vs j w) + seat_count v ≡ seats_out vs + seat_count w
seats_out_set [] j v w e = absurd (some-ne-none v (sym e))
seats_out_set (x ∷ xs) zero v w e = let q : seat_count x ≡ seat_count v = ap seat_count (some-injective x v e) in omega arith
seats_out_set (x ∷ xs) (suc j) v w e = let r = seats_out_set xs j v w e in omega arith

pub seats_out-push : (vs : List View) (v : View) → seats_out (vs ++ v ∷ []) ≡ seats_out vs + seat_count v
seats_out-push [] v = omega arith
seats_out-push (x ∷ xs) v = let r = seats_out-push xs v in omega arith

pub seat_not_host : (vs : List View) (h j : ℕ) (x : HostView) (v : SeatView) → get_elem? vs h ≡ some (Host x) → get_elem? vs j ≡ some (Seat v) → h ≢ j
seat_not_host vs h j x v a b e =
    let p : some (Host x) ≡ some (Seat v) = sym a ∙ (ap (get_elem? vs) e ∙ b) in
    let q : ◌≡◌ {A = ℕ} 0 1 = ap seat_count (some-injective (Host x) (Seat v) p) in
    absurd (omega arith)

pub seat_is : (v w : SeatView) → some (Seat v) ≡ some (Seat w) → v ≡ w
seat_is v w e = ap seat_in (some-injective (Seat v) (Seat w) e)

-- two seats that are out have two numbers
pub two_numbers : (place_of : ℕ → Option ℕ) (a b : ℕ) (x y : Option ℕ) → place_of a ≡ x → place_of b ≡ y → x ≢ y → a ≢ b
two_numbers place_of a b x y p q ne e = ne (sym p ∙ (ap place_of e ∙ q))

pub some_apart : (i j : ℕ) → i ≢ j → some i ≢ some j
some_apart i j ne e = ne (some-injective i j e)

pub none_apart : (j : ℕ) → some j ≢ none
none_apart j e = some-ne-none j e

held_set : (vs : List View) (ended : List SeatView) (j : ℕ) (v w : SeatView) (n : ℕ) → get_elem? vs j ≡ some (Seat v) → w.number ≡ v.number
    → (x : Option ℕ) → IsHeld vs ended n x → IsHeld (set vs j (Seat w)) ended n x
held_set vs ended j v w n at same none h = h
held_set vs ended j v w n at same (some i) h = dite (ℕ_discrete i j)
    (λ e. (
      w,
      subst (λ k. get_elem? (set vs j (Seat w)) k ≡ some (Seat w)) (sym e) (set_at vs j (Seat v) (Seat w) at),
      same ∙ (ap (λ (u : SeatView). u.number) (seat_is v h.0 (sym at ∙ (ap (get_elem? vs) (sym e) ∙ h.1))) ∙ h.2),
    ))
    (λ ne. (h.0, set_else vs j i (Seat w) ne ∙ h.1, h.2))

module _ {S : Type 0} where
  pub adds : (s : State S View) (ws : List ℕ) (hs : List (Option S)) (j : ℕ) (v : SeatView) (a : Access) (k : KeepsHistory s) → get_elem? s.views j ≡ some (Seat v)
      → Gives (memory_after k.opened k.log) a → ws ≡ 0 ∷ after (memory_after k.opened k.log) a
      → KeepsHistory {S = S} record { words = ws; homes = hs; views = set s.views j (Seat (did v a)) }
  adds s ws hs j v a k at gives is =
      let e : Entry = (v.number, a) in
      let w : SeatView = did v a in
      let more : List Entry = k.log ++ e ∷ [] in
      let mine = k.each j (Seat v) at in
      let other : (u : SeatView) → v.number ≢ u.number → IsInHistory k.opened k.made k.log u → IsInHistory k.opened k.made more u = λ u ne t. (t.0, t.1, steps_of-other u.number k.log e ne ∙ t.2) in
      record {
        log = more;
        opened = k.opened;
        host = k.host;
        made = k.made;
        ended = k.ended;
        place_of = k.place_of;
        words = is ∙ ap (λ l. 0 ∷ l) (sym (memory_after-push k.opened k.log e));
        legal = IsHistory-push k.opened k.log e k.legal gives;
        one_host = set_else s.views j k.host (Seat w) (seat_not_host s.views k.host j _ v k.one_host at) ∙ k.one_host;
        each = λ i u t. ⊎_elim
            (λ (x : (i ≡ j) × (Seat w ≡ u)). subst (λ (y : ℕ × View). IsPlaced k.host k.opened k.made k.ended k.place_of more y.0 y.1) (λ m. (sym x.0 m, x.1 m)) ((mine.0.0, mine.0.1, steps_of-same v.number k.log a ∙ ap (λ l. l ++ a ∷ []) mine.0.2), mine.1))
            (λ (x : (i ≢ j) × (get_elem? s.views i ≡ some u)). others k e i j v u mine.1 x.0 (k.each i u x.1))
            (at_set s.views j i (Seat w) u t);
        each_ended = λ i u t. let b = k.each_ended i u t in (other u (two_numbers k.place_of v.number u.number (some j) none mine.1 b.1 (none_apart j)) b.0, b.1);
        apart = k.apart;
        held = λ n lt. held_set s.views k.ended j v w n at refl (k.place_of n) (k.held n lt);
        none_else = λ n le. let lt = mine.0.1 in steps_of-other n k.log e (λ p. absurd (omega arith)) ∙ k.none_else n le;
        count = let r = seats_out_set s.views j (Seat v) (Seat w) at in let c = k.count in omega arith;
      }
    where
      others : (k : KeepsHistory s) (e : Entry) (i j : ℕ) (v : SeatView) (u : View) → k.place_of v.number ≡ some j → i ≢ j → IsPlaced k.host k.opened k.made k.ended k.place_of k.log i u → IsPlaced k.host k.opened k.made k.ended k.place_of (k.log ++ (v.number, e.1) ∷ []) i u
      others k e i j v (Host h) at ne f = f
      others k e i j v (Seat u) at ne f = ((f.0.0, f.0.1, steps_of-other u.number k.log (v.number, e.1) (two_numbers k.place_of v.number u.number (some j) (some i) at f.1 (some_apart j i (λ p. ne (sym p)))) ∙ f.0.2), f.1)
      others k e i j v Spent at ne f = f

  loads_at : (slots id i : ℕ) (v : SeatView) → Allows {S = S} KeepsHistory slots id (Seat v, []) (i + 1) (λ n. n) (Loaded (step slots (i + 1) 0 0 none) (Seat v, []))
  loads_at slots id i v s k len at small =
      let n = slice_index s.words (i + 1) in (
        Seat (did v (Load i n)),
        keeps,
        tt,
        adds s (set s.words (i + 1) n) s.homes id v (Load i n) k at (ap (λ l. slice_index l (i + 1)) k.words ∙ index_next 0 (memory_after k.opened k.log) i) (set_same s.words (i + 1) ∙ k.words),
        λ i' e. let p : i ≡ i' = omega arith in ap (λ (m : ℕ). (Seat (did v (Load m n)), [])) p,
      )

  stores_at : (slots id i new : ℕ) (v : SeatView) → Allows {S = S} KeepsHistory slots id (Seat v, []) (i + 1) (λ _. new) (λ _. Stored (step slots (i + 1) new 0 none) (Seat v, []) new)
  stores_at slots id i new v s k len at small = (
    Seat (did v (Store i new)),
    keeps,
    tt,
    adds s (set s.words (i + 1) new) s.homes id v (Store i new) k at tt (ap (λ l. set l (i + 1) new) k.words ∙ set_next 0 (memory_after k.opened k.log) i new),
    λ i' e. let p : i ≡ i' = omega arith in ap (λ (m : ℕ). (Seat (did v (Store m new)), [])) p,
  )

  pub loads : (slots id i : ℕ) (m : Holding S) → IsSeat m → Allows {S = S} KeepsHistory slots id m (i + 1) (λ n. n) (Loaded (step slots (i + 1) 0 0 none) m)
  loads slots id i m is = subst (λ (x : Holding S). Allows {S = S} KeepsHistory slots id x (i + 1) (λ n. n) (Loaded (step slots (i + 1) 0 0 none) x)) (sym is) (loads_at slots id i (seat_in m.0))

  pub stores : (slots id i new : ℕ) (m : Holding S) → IsSeat m → Allows {S = S} KeepsHistory slots id m (i + 1) (λ _. new) (λ _. Stored (step slots (i + 1) new 0 none) m new)
  stores slots id i new m is = subst (λ (x : Holding S). Allows {S = S} KeepsHistory slots id x (i + 1) (λ _. new) (λ _. Stored (step slots (i + 1) new 0 none) x new)) (sym is) (stores_at slots id i new (seat_in m.0))

  pub stays : (m : Holding S) (v : SeatView) → m ≡ (Seat v, []) → IsSeat m
  stays m v e = e ∙ ap (λ (x : Holding S). (Seat (seat_in x.0), [])) (sym e)
