-- A roll stays one where a part adds to its list, where a view changes in nothing that the roll sees, and where the head makes a.
-- part.
use Rattle.std.proofs.Common.{◌≡◌, ◌≢◌, ℕ, ◌+◌, List, [], ◌∷◌, ◌++◌, length, set, refl, sym, ap, ◌∙◌, subst, ⊎_elim, arith}
use mathlib.Core.Option.{Option, none, some, some-injective, some-ne-none}
use mathlib.Core.Logic.{dite}
use native.Mathlib.Decide.{ℕ_discrete}
use lib.ListN.{get_elem?}
use Rattle.atomic_table.proofs.Lists.{at_set, set_else, at_longer, at_last}
use Rattle.td_num.proofs.Lists.{set_at}
use Rattle.td_ring.specs.declared.roll.Part.{Part}
use Rattle.td_ring.specs.declared.roll.Head.{Head}
use Rattle.td_ring.specs.Roll.{Entry, part_of, head_of, added, IsInLog, count_of, IsHeld, Roll}
use Rattle.td_ring.proofs.RollViews.{entries_of-same, entries_of-other, out_set, out-push, held_set, held_longer}
use Rattle.td_words.proofs.Steps.{two_numbers, some_apart, none_apart as some_none}
use Rattle.td_words.proofs.Makes.{snoc_at, placed, put_same, put_other}

module _ {A V : Type 0} (head : V → Option (Head A)) (part : V → Option (Part A)) where
  module _ (views : List V) (log : List (Entry A)) (r : Roll head part views log) where
    -- a part adds to its list
    pub adds : (j : ℕ) (v w : V) (p : Part A) (a : A) → get_elem? views j ≡ some v → part v ≡ some p → head w ≡ head v → part w ≡ some (added p a) → Roll head part (set views j w) (log ++ (p.number, a) ∷ [])
    adds j v w p a at is same_head is_more =
        let e : Entry A = (p.number, a) in
        let more : List (Entry A) = log ++ e ∷ [] in
        let mine = r.each_part j v p at is in
        let other : (q : Part A) → p.number ≢ q.number → IsInLog r.made log q → IsInLog r.made more q = λ q ne t. (t.0, entries_of-other q.number log e ne ∙ t.1) in
        let q : Part A = added p a in
        record {
          host = r.host;
          made = r.made;
          ended = r.ended;
          place_of = r.place_of;
          one_head = dite (ℕ_discrete r.host j)
              (λ (x : r.host ≡ j). (w, subst (λ k. get_elem? (set views j w) k ≡ some w) (sym x) (set_at views j v w at), same_head ∙ (ap head (some-injective v r.one_head.0 (sym at ∙ (ap (get_elem? views) (sym x) ∙ r.one_head.1))) ∙ r.one_head.2)))
              (λ ne. (r.one_head.0, set_else views j r.host w ne ∙ r.one_head.1, r.one_head.2));
          each_head = λ i u h t f. ⊎_elim
              (λ (x : (i ≡ j) × (w ≡ u)). let y = r.each_head j v h at (sym same_head ∙ (ap head x.1 ∙ f)) in (x.0 ∙ y.0, y.1))
              (λ (x : (i ≢ j) × (get_elem? views i ≡ some u)). r.each_head i u h x.1 f)
              (at_set views j i w u t);
          each_part = λ i u s t f. ⊎_elim
              (λ (x : (i ≡ j) × (w ≡ u)). subst (λ (y : Part A × ℕ). IsInLog r.made more y.0 × (r.place_of y.0.number ≡ some y.1)) (λ m. (some-injective q s (sym is_more ∙ (ap part x.1 ∙ f)) m, sym x.0 m)) ((mine.0.0, entries_of-same p.number log a ∙ ap (λ l. l ++ a ∷ []) mine.0.1), mine.1))
              (λ (x : (i ≢ j) × (get_elem? views i ≡ some u)). let y = r.each_part i u s x.1 f in (other s (two_numbers r.place_of p.number s.number (some j) (some i) mine.1 y.1 (some_apart j i (λ z. x.0 (sym z)))) y.0, y.1))
              (at_set views j i w u t);
          each_ended = λ i u t. let b = r.each_ended i u t in (other u (two_numbers r.place_of p.number u.number (some j) none mine.1 b.1 (some_none j)) b.0, b.1);
          apart = r.apart;
          held = λ n lt. held_set head part views r.ended j v w n at (λ s f. (q, is_more, ap (λ (y : Part A). y.number) (some-injective p s (sym is ∙ f)))) (r.place_of n) (r.held n lt);
          none_else = λ n le. let lt = mine.0.0 in entries_of-other n log e (λ z. absurd (omega arith)) ∙ r.none_else n le;
          count = let o = out_set head part views j v w at in let c = r.count in let x : count_of (part v) ≡ 1 = ap count_of is in let y : count_of (part w) ≡ 1 = ap count_of is_more in omega arith;
        }

    -- a view changes in what the roll doesn't see
    pub stays : (j : ℕ) (v w : V) → get_elem? views j ≡ some v → head w ≡ head v → part w ≡ part v → Roll head part (set views j w) log
    stays j v w at same_head same_part = record {
      host = r.host;
      made = r.made;
      ended = r.ended;
      place_of = r.place_of;
      one_head = dite (ℕ_discrete r.host j)
          (λ (x : r.host ≡ j). (w, subst (λ k. get_elem? (set views j w) k ≡ some w) (sym x) (set_at views j v w at), same_head ∙ (ap head (some-injective v r.one_head.0 (sym at ∙ (ap (get_elem? views) (sym x) ∙ r.one_head.1))) ∙ r.one_head.2)))
          (λ ne. (r.one_head.0, set_else views j r.host w ne ∙ r.one_head.1, r.one_head.2));
      each_head = λ i u h t f. ⊎_elim
          (λ (x : (i ≡ j) × (w ≡ u)). let y = r.each_head j v h at (sym same_head ∙ (ap head x.1 ∙ f)) in (x.0 ∙ y.0, y.1))
          (λ (x : (i ≢ j) × (get_elem? views i ≡ some u)). r.each_head i u h x.1 f)
          (at_set views j i w u t);
      each_part = λ i u s t f. ⊎_elim
          (λ (x : (i ≡ j) × (w ≡ u)). let y = r.each_part j v s at (sym same_part ∙ (ap part x.1 ∙ f)) in (y.0, y.1 ∙ ap some (sym x.0)))
          (λ (x : (i ≢ j) × (get_elem? views i ≡ some u)). r.each_part i u s x.1 f)
          (at_set views j i w u t);
      each_ended = r.each_ended;
      apart = r.apart;
      held = λ n lt. held_set head part views r.ended j v w n at (λ s f. (s, same_part ∙ f, refl)) (r.place_of n) (r.held n lt);
      none_else = r.none_else;
      count = let o = out_set head part views j v w at in let c = r.count in let x : count_of (part w) ≡ count_of (part v) = ap count_of same_part in omega arith;
    }

    -- a new view that the roll doesn't see
    pub longer : (x : V) → head x ≡ none → part x ≡ none → Roll head part (views ++ x ∷ []) log
    longer x no_head no_part = record {
      host = r.host;
      made = r.made;
      ended = r.ended;
      place_of = r.place_of;
      one_head = (r.one_head.0, at_longer views (x ∷ []) r.host r.one_head.0 r.one_head.1, r.one_head.2);
      each_head = λ i u h t f. ⊎_elim
          (λ (y : get_elem? views i ≡ some u). r.each_head i u h y f)
          (λ (y : (i ≡ length views) × (x ≡ u)). absurd (some-ne-none h (sym f ∙ (ap head (sym y.1) ∙ no_head))))
          (snoc_at views x u i t);
      each_part = λ i u s t f. ⊎_elim
          (λ (y : get_elem? views i ≡ some u). r.each_part i u s y f)
          (λ (y : (i ≡ length views) × (x ≡ u)). absurd (some-ne-none s (sym f ∙ (ap part (sym y.1) ∙ no_part))))
          (snoc_at views x u i t);
      each_ended = r.each_ended;
      apart = r.apart;
      held = λ n lt. held_longer head part views (x ∷ []) r.ended n (r.place_of n) (r.held n lt);
      none_else = r.none_else;
      count = let o = out-push head part views x in let c = r.count in let y : count_of (part x) ≡ 0 = ap count_of no_part in omega arith;
    }

    -- the head makes a part
    pub makes : (j : ℕ) (v w x : V) (h : Head A) → get_elem? views j ≡ some v → head v ≡ some h
        → head w ≡ some (head_of (h.made + 1) h.ended) → part w ≡ part v → head x ≡ none → part x ≡ some (part_of h.made []) → Roll head part (set views j w ++ x ∷ []) log
    makes j v w x h at is is_more same_part no_head is_new =
        let y = r.each_head j v h at is in
        let vs : List V = set views j w in
        let hw : head w ≡ some (head_of (r.made + 1) r.ended) = is_more ∙ ap (λ (z : Head A). some (head_of (z.made + 1) z.ended)) y.1 in
        let fresh : Part A = part_of r.made [] in
        let px : part x ≡ some fresh = is_new ∙ ap (λ (z : Head A). some (part_of z.made [])) y.1 in
        let place : Option ℕ = some (length vs) in
        let who' : ℕ → Option ℕ = placed r.place_of r.made place in
        let old_part : (i : ℕ) (s : Part A) → IsInLog r.made log s × (r.place_of s.number ≡ some i) → IsInLog (r.made + 1) log s × (who' s.number ≡ some i) = λ i s t. let lt = t.0.0 in ((omega arith, t.0.1), put_other r.place_of r.made place s.number (λ e. absurd (omega arith)) ∙ t.1) in
        record {
          host = j;
          made = r.made + 1;
          ended = r.ended;
          place_of = who';
          one_head = (w, at_longer vs (x ∷ []) j w (set_at views j v w at), hw);
          each_head = λ i u g t f. ⊎_elim
              (λ (z : get_elem? vs i ≡ some u). ⊎_elim
              (λ (a : (i ≡ j) × (w ≡ u)). (a.0, some-injective g _ (sym f ∙ (ap head (sym a.1) ∙ hw))))
              (λ (a : (i ≢ j) × (get_elem? views i ≡ some u)). absurd (a.0 ((r.each_head i u g a.1 f).0 ∙ sym y.0)))
              (at_set views j i w u z))
              (λ (z : (i ≡ length vs) × (x ≡ u)). absurd (some-ne-none g (sym f ∙ (ap head (sym z.1) ∙ no_head))))
              (snoc_at vs x u i t);
          each_part = λ i u s t f. ⊎_elim
              (λ (z : get_elem? vs i ≡ some u). ⊎_elim
              (λ (a : (i ≡ j) × (w ≡ u)). old_part i s (let b = r.each_part j v s at (sym same_part ∙ (ap part a.1 ∙ f)) in (b.0, b.1 ∙ ap some (sym a.0))))
              (λ (a : (i ≢ j) × (get_elem? views i ≡ some u)). old_part i s (r.each_part i u s a.1 f))
              (at_set views j i w u z))
              (λ (z : (i ≡ length vs) × (x ≡ u)). subst (λ (b : Part A × ℕ). IsInLog (r.made + 1) log b.0 × (who' b.0.number ≡ some b.1)) (λ m. (some-injective fresh s (sym px ∙ (ap part z.1 ∙ f)) m, sym z.0 m))
              ((omega arith, r.none_else r.made (omega arith)), put_same r.place_of r.made place))
              (snoc_at vs x u i t);
          each_ended = λ i u t. let b = r.each_ended i u t in let lt = b.0.0 in ((omega arith, b.0.1), put_other r.place_of r.made place u.number (λ e. absurd (omega arith)) ∙ b.1);
          apart = r.apart;
          held = λ n lt. dite (ℕ_discrete n r.made)
              (λ e. subst (λ k. IsHeld head part (vs ++ x ∷ []) r.ended k (who' k)) (sym e)
              (subst (IsHeld head part (vs ++ x ∷ []) r.ended r.made) (sym (put_same r.place_of r.made place)) (x, fresh, at_last vs x (length vs) refl, px, refl)))
              (λ ne. subst (IsHeld head part (vs ++ x ∷ []) r.ended n) (sym (put_other r.place_of r.made place n ne))
              (held_longer head part vs (x ∷ []) r.ended n (r.place_of n) (held_set head part views r.ended j v w n at (λ s f. (s, same_part ∙ f, refl)) (r.place_of n) (r.held n (omega arith)))));
          none_else = λ n le. r.none_else n (omega arith);
          count =
              let o = out_set head part views j v w at in
              let q = out-push head part vs x in
              let a : count_of (part w) ≡ count_of (part v) = ap count_of same_part in
              let b : count_of (part x) ≡ 1 = ap count_of px in
              let c = r.count in
              omega arith;
        }
