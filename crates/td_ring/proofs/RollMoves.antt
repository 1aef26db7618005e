-- A roll stays one where the head goes to another view.
use Rattle.std.proofs.Common.{◌≡◌, ◌≢◌, ℕ, List, [], ◌∷◌, ◌++◌, length, set, refl, sym, ap, ◌∙◌, ⊎_elim, arith}
use mathlib.Core.Option.{Option, none, some, some-injective, some-ne-none}
use lib.ListN.{get_elem?}
use Rattle.atomic_table.proofs.Lists.{at_set, set_else, at_longer, at_last}
use Rattle.td_num.proofs.Lists.{set_at}
use Rattle.td_ring.specs.declared.roll.Part.{Part}
use Rattle.td_ring.specs.declared.roll.Head.{Head}
use Rattle.td_ring.specs.Roll.{Entry, count_of, Roll}
use Rattle.td_ring.proofs.RollViews.{reloc, reloc_here, reloc_else, reloc_none, out_set, out-push, held_moved}
use Rattle.td_words.proofs.Makes.{snoc_at}

module _ {A V : Type 0} (head : V → Option (Head A)) (part : V → Option (Part A)) where
  module _ (views : List V) (log : List (Entry A)) (r : Roll head part views log) where
    -- the head, with its own part, moves to a view that the roll doesn't see
    pub moves : (j i : ℕ) (v w u x : V) (h : Head A) → get_elem? views j ≡ some v → get_elem? views i ≡ some u → i ≢ j → head v ≡ none → part v ≡ none → head u ≡ some h
        → head w ≡ head u → part w ≡ part u → head x ≡ none → part x ≡ none → Roll head part (set (set views j w) i x) log
    moves j i v w u x h at there ne no_head no_part is same_head same_part gone_head gone_part =
        let y = r.each_head i u h there is in
        let vs : List V = set views j w in
        let there' : get_elem? vs i ≡ some u = set_else views j i w ne ∙ there in
        let here : get_elem? (set vs i x) j ≡ some w = set_else vs i j x (λ e. ne (sym e)) ∙ set_at views j v w at in
        record {
          host = j;
          made = r.made;
          ended = r.ended;
          place_of = λ n. reloc i j (r.place_of n);
          one_head = (w, here, same_head ∙ (is ∙ ap some y.1));
          each_head = λ k s g t f. ⊎_elim
              (λ (z : (k ≡ i) × (x ≡ s)). absurd (some-ne-none g (sym f ∙ (ap head (sym z.1) ∙ gone_head))))
              (λ (z : (k ≢ i) × (get_elem? vs k ≡ some s)). ⊎_elim
              (λ (a : (k ≡ j) × (w ≡ s)). (a.0, (r.each_head i u g there (sym same_head ∙ (ap head a.1 ∙ f))).1))
              (λ (a : (k ≢ j) × (get_elem? views k ≡ some s)). absurd (z.0 ((r.each_head k s g a.1 f).0 ∙ sym y.0)))
              (at_set views j k w s z.1))
              (at_set vs i k x s t);
          each_part = λ k s q t f. ⊎_elim
              (λ (z : (k ≡ i) × (x ≡ s)). absurd (some-ne-none q (sym f ∙ (ap part (sym z.1) ∙ gone_part))))
              (λ (z : (k ≢ i) × (get_elem? vs k ≡ some s)). ⊎_elim
              (λ (a : (k ≡ j) × (w ≡ s)). let b = r.each_part i u q there (sym same_part ∙ (ap part a.1 ∙ f)) in (b.0, ap (reloc i j) b.1 ∙ (reloc_here i j ∙ ap some (sym a.0))))
              (λ (a : (k ≢ j) × (get_elem? views k ≡ some s)). let b = r.each_part k s q a.1 f in (b.0, ap (reloc i j) b.1 ∙ reloc_else i j k z.0))
              (at_set views j k w s z.1))
              (at_set vs i k x s t);
          each_ended = λ k q t. let b = r.each_ended k q t in (b.0, ap (reloc i j) b.1 ∙ reloc_none i j);
          apart = r.apart;
          held = λ n lt. held_moved head part views (set vs i x) r.ended i j u w n there here same_part
              (λ k z q nk e f. set_else vs i k x nk ∙ (set_else views j k w (λ e'. some-ne-none q (sym f ∙ (ap part (some-injective z v (sym e ∙ (ap (get_elem? views) e' ∙ at))) ∙ no_part))) ∙ e)) (r.place_of n) (r.held n lt);
          none_else = r.none_else;
          count =
              let o = out_set head part views j v w at in
              let q = out_set head part vs i u x there' in
              let a : count_of (part w) ≡ count_of (part u) = ap count_of same_part in
              let b : count_of (part x) ≡ 0 = ap count_of gone_part in
              let d : count_of (part v) ≡ 0 = ap count_of no_part in
              let c = r.count in
              omega arith;
        }

    -- the head, with its own part, goes to a new view
    pub hands : (j : ℕ) (v w x : V) (h : Head A) → get_elem? views j ≡ some v → head v ≡ some h → head w ≡ none → part w ≡ none → head x ≡ head v → part x ≡ part v → Roll head part (set views j w ++ x ∷ []) log
    hands j v w x h at is no_head no_part same_head same_part =
        let y = r.each_head j v h at is in
        let vs : List V = set views j w in
        let place : ℕ = length vs in
        let here : get_elem? (vs ++ x ∷ []) place ≡ some x = at_last vs x place refl in
        record {
          host = place;
          made = r.made;
          ended = r.ended;
          place_of = λ n. reloc j place (r.place_of n);
          one_head = (x, here, same_head ∙ (is ∙ ap some y.1));
          each_head = λ k s g t f. ⊎_elim
              (λ (z : get_elem? vs k ≡ some s). ⊎_elim
              (λ (a : (k ≡ j) × (w ≡ s)). absurd (some-ne-none g (sym f ∙ (ap head (sym a.1) ∙ no_head))))
              (λ (a : (k ≢ j) × (get_elem? views k ≡ some s)). absurd (a.0 ((r.each_head k s g a.1 f).0 ∙ sym y.0)))
              (at_set views j k w s z))
              (λ (z : (k ≡ length vs) × (x ≡ s)). (z.0, (r.each_head j v g at (sym same_head ∙ (ap head z.1 ∙ f))).1))
              (snoc_at vs x s k t);
          each_part = λ k s q t f. ⊎_elim
              (λ (z : get_elem? vs k ≡ some s). ⊎_elim
              (λ (a : (k ≡ j) × (w ≡ s)). absurd (some-ne-none q (sym f ∙ (ap part (sym a.1) ∙ no_part))))
              (λ (a : (k ≢ j) × (get_elem? views k ≡ some s)). let b = r.each_part k s q a.1 f in (b.0, ap (reloc j place) b.1 ∙ reloc_else j place k a.0))
              (at_set views j k w s z))
              (λ (z : (k ≡ length vs) × (x ≡ s)). let b = r.each_part j v q at (sym same_part ∙ (ap part z.1 ∙ f)) in (b.0, ap (reloc j place) b.1 ∙ (reloc_here j place ∙ ap some (sym z.0))))
              (snoc_at vs x s k t);
          each_ended = λ k q t. let b = r.each_ended k q t in (b.0, ap (reloc j place) b.1 ∙ reloc_none j place);
          apart = r.apart;
          held = λ n lt. held_moved head part views (vs ++ x ∷ []) r.ended j place v x n at here same_part
              (λ k z q nk e f. at_longer vs (x ∷ []) k z (set_else views j k w nk ∙ e)) (r.place_of n) (r.held n lt);
          none_else = r.none_else;
          count =
              let o = out_set head part views j v w at in
              let q = out-push head part vs x in
              let a : count_of (part x) ≡ count_of (part v) = ap count_of same_part in
              let b : count_of (part w) ≡ 0 = ap count_of no_part in
              let c = r.count in
              omega arith;
        }
