-- A roll stays one where the head gathers a part, and what it then tells of the log.
use Rattle.std.proofs.Common.{◌≡◌, ◌≢◌, ◌⊎◌, ℕ, ◌+◌, List, [], ◌∷◌, ◌++◌, length, set, refl, sym, ap, ◌∙◌, subst, inl, inr, ⊎_elim, arith, length-append}
use mathlib.Core.Option.{Option, none, some, some-injective, some-ne-none}
use mathlib.Core.Logic.{dite}
use native.Mathlib.Decide.{ℕ_discrete, dec_lt}
use lib.ListN.{get_elem?}
use Rattle.atomic_table.proofs.Lists.{at_set, set_else, at_last}
use Rattle.td_num.proofs.Lists.{set_at}
use Rattle.td_ring.specs.declared.roll.Part.{Part}
use Rattle.td_ring.specs.declared.roll.Head.{Head}
use Rattle.td_ring.specs.Roll.{Entry, entries_of, head_of, Ended, Apart, IsInLog, count_of, parts_out, IsHeld, Roll}
use Rattle.td_ring.proofs.RollViews.{out_set, held_set, held_gone, two_out}
use Rattle.td_words.proofs.Steps.{two_numbers, some_apart, none_apart as some_none}
use Rattle.td_words.proofs.Makes.{snoc_at, placed, put_same, put_other}

module _ {A V : Type 0} (head : V → Option (Head A)) (part : V → Option (Part A)) where
  module _ (views : List V) (log : List (Entry A)) (r : Roll head part views log) where
    -- the head gathers a part
    pub gathers : (j i : ℕ) (v w u x : V) (h : Head A) (p : Part A) → get_elem? views j ≡ some v → get_elem? views i ≡ some u → i ≢ j → head v ≡ some h → part u ≡ some p → head u ≡ none
        → head w ≡ some (head_of h.made (h.ended ++ p ∷ [])) → part w ≡ part v → head x ≡ none → part x ≡ none → Roll head part (set (set views j w) i x) log
    gathers j i v w u x h p at there ne is is_part no_head is_more same_part gone_head gone_part =
        let y = r.each_head j v h at is in
        let vs : List V = set views j w in
        let more : List (Part A) = r.ended ++ p ∷ [] in
        let hw : head w ≡ some (head_of r.made more) = is_more ∙ ap (λ (z : Head A). some (head_of z.made (z.ended ++ p ∷ []))) y.1 in
        let who' : ℕ → Option ℕ = placed r.place_of p.number none in
        let mine = r.each_part i u p there is_part in
        let there' : get_elem? vs i ≡ some u = set_else views j i w ne ∙ there in
        let old_part : (k : ℕ) (s : Part A) → k ≢ i → IsInLog r.made log s × (r.place_of s.number ≡ some k) → IsInLog r.made log s × (who' s.number ≡ some k) = λ k s nk t. (t.0, put_other r.place_of p.number none s.number (two_numbers r.place_of s.number p.number (some k) (some i) t.1 mine.1 (some_apart k i nk)) ∙ t.1) in
        let old : (k : ℕ) (q : Part A) → get_elem? r.ended k ≡ some q → q.number ≢ p.number = λ k q e. two_numbers r.place_of q.number p.number none (some i) (r.each_ended k q e).1 mine.1 (λ z. some_none i (sym z)) in
        record {
          host = j;
          made = r.made;
          ended = more;
          place_of = who';
          one_head = (w, set_else vs i j x (λ e. ne (sym e)) ∙ set_at views j v w at, hw);
          each_head = λ k s g t f. ⊎_elim
              (λ (z : (k ≡ i) × (x ≡ s)). absurd (some-ne-none g (sym f ∙ (ap head (sym z.1) ∙ gone_head))))
              (λ (z : (k ≢ i) × (get_elem? vs k ≡ some s)). ⊎_elim
              (λ (a : (k ≡ j) × (w ≡ s)). (a.0, some-injective g _ (sym f ∙ (ap head (sym a.1) ∙ hw))))
              (λ (a : (k ≢ j) × (get_elem? views k ≡ some s)). absurd (a.0 ((r.each_head k s g a.1 f).0 ∙ sym y.0)))
              (at_set views j k w s z.1))
              (at_set vs i k x s t);
          each_part = λ k s q t f. ⊎_elim
              (λ (z : (k ≡ i) × (x ≡ s)). absurd (some-ne-none q (sym f ∙ (ap part (sym z.1) ∙ gone_part))))
              (λ (z : (k ≢ i) × (get_elem? vs k ≡ some s)). ⊎_elim
              (λ (a : (k ≡ j) × (w ≡ s)). old_part k q z.0 (let b = r.each_part j v q at (sym same_part ∙ (ap part a.1 ∙ f)) in (b.0, b.1 ∙ ap some (sym a.0))))
              (λ (a : (k ≢ j) × (get_elem? views k ≡ some s)). old_part k q z.0 (r.each_part k s q a.1 f))
              (at_set views j k w s z.1))
              (at_set vs i k x s t);
          each_ended = λ k q t. ⊎_elim
              (λ (z : get_elem? r.ended k ≡ some q). let b = r.each_ended k q z in (b.0, put_other r.place_of p.number none q.number (old k q z) ∙ b.1))
              (λ (z : (k ≡ length r.ended) × (p ≡ q)). subst (λ (a : Part A). IsInLog r.made log a × (who' a.number ≡ none)) z.1 (mine.0, put_same r.place_of p.number none))
              (snoc_at r.ended p q k t);
          apart = λ a b s t ea eb e. ⊎_elim
              (λ (z : get_elem? r.ended a ≡ some s). ⊎_elim
              (λ (z' : get_elem? r.ended b ≡ some t). r.apart a b s t z z' e)
              (λ (z' : (b ≡ length r.ended) × (p ≡ t)). absurd (old a s z (e ∙ ap (λ (q : Part A). q.number) (sym z'.1))))
              (snoc_at r.ended p t b eb))
              (λ (z : (a ≡ length r.ended) × (p ≡ s)). ⊎_elim
              (λ (z' : get_elem? r.ended b ≡ some t). absurd (old b t z' (sym e ∙ ap (λ (q : Part A). q.number) (sym z.1))))
              (λ (z' : (b ≡ length r.ended) × (p ≡ t)). z.0 ∙ sym z'.0)
              (snoc_at r.ended p t b eb))
              (snoc_at r.ended p s a ea);
          held = λ n lt. dite (ℕ_discrete n p.number)
              (λ e. subst (λ k. IsHeld head part (set vs i x) more k (who' k)) (sym e) (subst (IsHeld head part (set vs i x) more p.number) (sym (put_same r.place_of p.number none)) (length r.ended, p, at_last r.ended p (length r.ended) refl, refl)))
              (λ nn. subst (IsHeld head part (set vs i x) more n) (sym (put_other r.place_of p.number none n nn))
              (held_gone head part vs r.ended (p ∷ []) i u x n there' (λ q f e. nn (sym e ∙ ap (λ (z : Part A). z.number) (some-injective q p (sym f ∙ is_part)))) (r.place_of n)
              (held_set head part views r.ended j v w n at (λ s f. (s, same_part ∙ f, refl)) (r.place_of n) (r.held n lt))));
          none_else = r.none_else;
          count =
              let o = out_set head part views j v w at in
              let q = out_set head part vs i u x there' in
              let a : count_of (part w) ≡ count_of (part v) = ap count_of same_part in
              let b : count_of (part x) ≡ 0 = ap count_of gone_part in
              let d : count_of (part u) ≡ 1 = ap count_of is_part in
              let c = r.count in
              omega (arith, length-append r.ended (p ∷ []));
        }

    -- what the head's view tells of the log: each ended part has its entries in it, and once all parts that were made have ended, nobody else has any
    pub tells : (j : ℕ) (v : V) (h : Head A) → get_elem? views j ≡ some v → head v ≡ some h
        → ((k : ℕ) (p : Part A) → get_elem? h.ended k ≡ some p → entries_of p.number log ≡ p.own) × Apart h.ended × (parts_out head part views + length h.ended ≡ h.made)
    tells j v h at is =
        let y = r.each_head j v h at is in
        subst (λ (z : Head A). ((k : ℕ) (p : Part A) → get_elem? z.ended k ≡ some p → entries_of p.number log ≡ p.own) × Apart z.ended × (parts_out head part views + length z.ended ≡ z.made)) (sym y.1)
        ((λ k p e. (r.each_ended k p e).0.1), r.apart, r.count)

    -- once no part but the head's own is out, nobody else has an entry
    pub settles : (j : ℕ) (v : V) (h : Head A) → get_elem? views j ≡ some v → head v ≡ some h → length h.ended + count_of (part v) ≡ h.made
        → (n : ℕ) → Ended h.ended n ⊎ (((p : Part A) × (part v ≡ some p) × (p.number ≡ n)) ⊎ (entries_of n log ≡ []))
    settles j v h at is whole n =
        let y = r.each_head j v h at is in
        subst (λ (z : Head A). length z.ended + count_of (part v) ≡ z.made → Ended z.ended n ⊎ (((p : Part A) × (part v ≡ some p) × (p.number ≡ n)) ⊎ (entries_of n log ≡ []))) (sym y.1)
        (λ (all_in : length r.ended + count_of (part v) ≡ r.made). dite (dec_lt n r.made) (λ lt. holder all_in (r.place_of n) (r.held n lt)) (λ ge. inr (inr (r.none_else n (omega arith)))))
        whole
      where
        holder : length r.ended + count_of (part v) ≡ r.made → (o : Option ℕ) → IsHeld head part views r.ended n o → Ended r.ended n ⊎ (((p : Part A) × (part v ≡ some p) × (p.number ≡ n)) ⊎ (entries_of n log ≡ []))
        holder all_in none t = inl t
        holder all_in (some i) t = dite (ℕ_discrete i j)
            (λ e. inr (inl (t.1, ap part (some-injective v t.0 (sym at ∙ (ap (get_elem? views) (sym e) ∙ t.2))) ∙ t.3, t.4)))
            (λ ne. let c = r.count in let o = two_out head part views i j t.0 v t.1 ne t.2 at t.3 in absurd (omega arith))
