-- Each step keeps the rule.
use Rattle.std.proofs.Common.{◌≡◌, ◌≢◌, ℕ, zero, suc, ◌+◌, ◌<◌, ◌≤◌, List, [], ◌∷◌, ◌++◌, length, set, refl, sym, ap, ◌∙◌, subst, ◌⊎◌, inl, inr, ◌-◌, ⊎_elim, arith}
use Rattle.std.specs.Prelude.{slice_index}
use Rattle.std.proofs.lemmas.List.{set-get_or}
use Rattle.std.proofs.lemmas.List.Sorted.{IsNonDecreasingBy-push}
use Rattle.std.proofs.lemmas.List.Elements.{All-nil, All-cons, All-append, All-push, All-weaker, All-get_or}
use mathlib.Core.Option.{none, some, some-injective, some-ne-none}
use lib.ListN.{get_elem?}
use Rattle.atomic_table.specs.Table.{State, step, keeps, Allows, Splits, Joins, opening}
use Rattle.atomic_table.proofs.Lists.{at_set, set_else, set_again, at_snoc, at_longer}
use Rattle.td_num.proofs.Lists.{set_at}
use Rattle.td_swap.specs.declared.view.PublisherView.{PublisherView}
use Rattle.td_swap.specs.declared.view.SwapView.{SwapView}
use Rattle.td_swap.specs.declared.view.View.{View}
use Rattle.td_swap.specs.declared.view.View.TheVariants.{Publisher, Swap, Spent}
use Rattle.td_swap.specs.Views.{publisher_view, swap_view, new_view, did_load, one_more as then_more, with_ended, IsVersionRun, AreVersions}
use Rattle.td_swap.specs.Rule.{IsPlaced, KeepsVersions, Holding, publisher_in, made_in, swap_in, IsPublisher, IsSwap, Published, LoadedVersion}

-- which kind a view is of
kind_of : View → ℕ
kind_of (Publisher v n) = 0
kind_of (Swap v) = 1
kind_of Spent = 2

swap_not_publisher : (vs : List View) (p j : ℕ) (x : PublisherView) (n : ℕ) (v : SwapView) → get_elem? vs p ≡ some (Publisher x n) → get_elem? vs j ≡ some (Swap v) → p ≢ j
unfolding kind_of
swap_not_publisher vs p j x n v a b e =
    let q : ◌≡◌ {A = ℕ} 0 1 = ap kind_of (some-injective (Publisher x n) (Swap v) (sym a ∙ (ap (get_elem? vs) e ∙ b))) in
    absurd (omega arith)

-- ---- lists of numbers
raised : (m n : ℕ) → m ≤ n → (xs : List ℕ) → IsVersionRun m xs → IsVersionRun n xs
raised m n le xs t = (t.0, All-weaker (λ (x : ℕ). x < m) (λ (x : ℕ). x < n) (λ x l. omega (arith, l, le)) xs t.1)

one_more_load : (word : ℕ) (xs : List ℕ) → IsVersionRun (word + 1) xs → IsVersionRun (word + 1) (xs ++ word ∷ [])
one_more_load word xs t = (
  IsNonDecreasingBy-push (λ (n : ℕ). n) xs word t.0 (λ d some. let l = All-get_or (λ (n : ℕ). n < word + 1) xs (length xs - 1) d (omega (arith, some)) t.1 in omega (arith, l)),
  All-push (λ (n : ℕ). n < word + 1) xs word t.1 (omega arith),
)

none_loaded : (count : ℕ) → IsVersionRun count []
none_loaded count = ((λ i j d le lt. absurd (omega (arith, lt))), All-nil (λ (n : ℕ). n < count))

-- what is known of a seat that gathered another
both_versions : (v w : SwapView) → w.count ≡ v.count → AreVersions v → AreVersions w → AreVersions (with_ended v w)
both_versions v w same a b =
    let c : AreVersions (swap_view v.count w.made w.loads w.ended) = subst (λ n. AreVersions (swap_view n w.made w.loads w.ended)) same b in
    (a.0, All-append (IsVersionRun v.count) v.ended (w.loads ∷ w.ended) a.1 (All-cons (IsVersionRun v.count) w.loads w.ended c.0 c.1))

module _ {S : Type 0} where
  -- ---- a publication
  publish_else : (s : State S View) (k : KeepsVersions s) (new j : ℕ) (u : View) → k.word < new → j ≢ k.publisher → IsPlaced k.publisher k.count k.made k.word j u → IsPlaced k.publisher k.count k.made new j u
  publish_else s k new j (Publisher v n) less ne t = absurd (ne t.0)
  publish_else s k new j (Swap v) less ne t =
      let more = raised (k.word + 1) (new + 1) (omega (arith, less)) in
      (t.0, more v.loads t.1, All-weaker (IsVersionRun (k.word + 1)) (IsVersionRun (new + 1)) more v.ended t.2)
  publish_else s k new j Spent less ne t = t

  published : (s : State S View) (k : KeepsVersions s) (new : ℕ) → k.word < new → new < k.count
      → KeepsVersions {S = S} record { words = set s.words 0 new; homes = s.homes; views = set s.views k.publisher (Publisher (publisher_view k.count new) k.made) }
  published s k new less few =
      let P : View = Publisher (publisher_view k.count new) k.made in
      record {
        count = k.count;
        publisher = k.publisher;
        made = k.made;
        word = new;
        words = ap (λ l. set l 0 new) k.words;
        below = few;
        one_publisher = set_at s.views k.publisher (Publisher (publisher_view k.count k.word) k.made) P k.one_publisher;
        each = λ j u t. ⊎_elim
            (λ (x : (j ≡ k.publisher) × (P ≡ u)). subst (IsPlaced k.publisher k.count k.made new j) x.1 (x.0, refl, refl))
            (λ (x : (j ≢ k.publisher) × (get_elem? s.views j ≡ some u)). publish_else s k new j u less x.0 (k.each j u x.1))
            (at_set s.views k.publisher j P u t);
      }

  publishes_at : (slots id new : ℕ) (v : PublisherView) → v.number < new → new < v.count
      → Allows {S = S} KeepsVersions slots id (Publisher v 1, []) 0 (λ _. new) (λ _. Published (step slots 0 new 0 none) (Publisher v 1, []) new)
  publishes_at slots id new v less few s k len at small =
      let f = k.each id (Publisher v 1) at in
      let less' : k.word < new = subst (λ (x : PublisherView). x.number < new) f.1 less in
      let few' : new < k.count = subst (λ (x : PublisherView). new < x.count) f.1 few in (
        Publisher (publisher_view v.count new) 1,
        keeps,
        tt,
        subst (λ (x : PublisherView × ℕ). KeepsVersions {S = S} record { words = set s.words 0 new; homes = s.homes; views = set s.views id (Publisher (publisher_view x.0.count new) x.1) }) (λ i. (sym f.1 i, sym f.2 i))
            (subst (λ i. KeepsVersions {S = S} record { words = set s.words 0 new; homes = s.homes; views = set s.views i (Publisher (publisher_view k.count new) k.made) }) (sym f.0) (published s k new less' few')),
        (refl, less),
      )

  pub publishes : (slots id new : ℕ) (m : Holding S) → IsPublisher m → (publisher_in m.0).number < new → new < (publisher_in m.0).count
      → Allows {S = S} KeepsVersions slots id m 0 (λ _. new) (λ _. Published (step slots 0 new 0 none) m new)
  publishes slots id new m is less few = subst (λ (x : Holding S). Allows {S = S} KeepsVersions slots id x 0 (λ _. new) (λ _. Published (step slots 0 new 0 none) x new)) (sym is) (publishes_at slots id new (publisher_in m.0) less few)

  -- ---- a load
  loads_at : (slots id : ℕ) (v : SwapView) → Allows {S = S} KeepsVersions slots id (Swap v, []) 0 (λ n. n) (LoadedVersion (step slots 0 0 0 none) (Swap v, []))
  loads_at slots id v s k len at small =
      let n = slice_index s.words 0 in
      let is : n ≡ k.word = ap (λ l. slice_index l 0) k.words in
      let f = k.each id (Swap v) at in
      let W : View = Swap (did_load v n) in
      let more : IsVersionRun (k.word + 1) (v.loads ++ n ∷ []) = subst (λ (x : ℕ). IsVersionRun (k.word + 1) (v.loads ++ x ∷ [])) (sym is) (one_more_load k.word v.loads f.1) in
      let less : k.word < v.count = omega (arith, k.below, f.0) in (
        W,
        keeps,
        tt,
        record {
          count = k.count;
          publisher = k.publisher;
          made = k.made;
          word = k.word;
          words = set-get_or s.words 0 0 ∙ k.words;
          below = k.below;
          one_publisher = set_else s.views id k.publisher W (swap_not_publisher s.views k.publisher id (publisher_view k.count k.word) k.made v k.one_publisher at) ∙ k.one_publisher;
          each = λ j u t. ⊎_elim
              (λ (x : (j ≡ id) × (W ≡ u)). subst (IsPlaced k.publisher k.count k.made k.word j) x.1 (f.0, more, f.2))
              (λ (x : (j ≢ id) × (get_elem? s.views j ≡ some u)). k.each j u x.1)
              (at_set s.views id j W u t);
        },
        (refl, omega (arith, is, less), raised (k.word + 1) v.count (omega (arith, less)) (v.loads ++ n ∷ []) more),
      )

  pub loads : (slots id : ℕ) (m : Holding S) → IsSwap m → Allows {S = S} KeepsVersions slots id m 0 (λ n. n) (LoadedVersion (step slots 0 0 0 none) m)
  loads slots id m is = subst (λ (x : Holding S). Allows {S = S} KeepsVersions slots id x 0 (λ n. n) (LoadedVersion (step slots 0 0 0 none) x)) (sym is) (loads_at slots id (swap_in m.0))

  -- ---- a seat more
  -- the publisher's view after it made the first seat that loads
  first_at : (id : ℕ) (v : PublisherView) (n : ℕ) → Splits {S = S} KeepsVersions id (Publisher v n) (Publisher v (n + 1)) (Swap (new_view v.count))
  first_at id v n s k at =
      let f = k.each id (Publisher v n) at in
      let W : View = Publisher v (n + 1) in
      let F : View = Swap (new_view v.count) in
      let vs : List View = set s.views id W in
      let count : v.count ≡ k.count = ap (λ (x : PublisherView). x.count) f.1 in
      let more : n + 1 ≡ k.made + 1 = ap (λ x. x + 1) f.2 in
      let here : get_elem? vs k.publisher ≡ some (Publisher (publisher_view k.count k.word) (k.made + 1)) =
      subst (λ i. get_elem? vs i ≡ some (Publisher (publisher_view k.count k.word) (k.made + 1))) f.0
      (subst (λ (x : PublisherView × ℕ). get_elem? vs id ≡ some (Publisher x.0 x.1)) (λ i. (f.1 i, more i)) (set_at s.views id (Publisher v n) W at)) in
      record {
        count = k.count;
        publisher = k.publisher;
        made = k.made + 1;
        word = k.word;
        words = k.words;
        below = k.below;
        one_publisher = at_longer vs (F ∷ []) k.publisher (Publisher (publisher_view k.count k.word) (k.made + 1)) here;
        each = λ j u t. ⊎_elim
            (λ (x : get_elem? vs j ≡ some u). ⊎_elim
            (λ (y : (j ≡ id) × (W ≡ u)). subst (IsPlaced k.publisher k.count (k.made + 1) k.word j) y.1 (y.0 ∙ f.0, f.1, more))
            (λ (y : (j ≢ id) × (get_elem? s.views j ≡ some u)). one_made s k j u (λ e. y.0 (e ∙ sym f.0)) (k.each j u y.1))
            (at_set s.views id j W u x))
            (λ (x : F ≡ u). subst (IsPlaced k.publisher k.count (k.made + 1) k.word j) x (count, none_loaded (k.word + 1), All-nil (IsVersionRun (k.word + 1))))
            (at_snoc vs F u j t);
      }
    where
      one_made : (s : State S View) (k : KeepsVersions s) (j : ℕ) (u : View) → j ≢ k.publisher → IsPlaced k.publisher k.count k.made k.word j u → IsPlaced k.publisher k.count (k.made + 1) k.word j u
      one_made s k j (Publisher v n) ne t = absurd (ne t.0)
      one_made s k j (Swap v) ne t = t
      one_made s k j Spent ne t = t

  -- the first seat that loads, made by the publisher's
  pub first : (id : ℕ) (m : Holding S) (v : PublisherView) (n : ℕ) → m ≡ (Publisher v n, [])
      → Splits {S = S} KeepsVersions id m.0 (Publisher (publisher_in m.0) (made_in m.0 + 1)) (Swap (new_view (publisher_in m.0).count))
  first id m v n is =
      subst (λ (x : View). Splits {S = S} KeepsVersions id x (Publisher (publisher_in x) (made_in x + 1)) (Swap (new_view (publisher_in x).count))) (sym (ap (λ (y : Holding S). y.0) is)) (first_at id v n)

  another_at : (id : ℕ) (v : SwapView) → Splits {S = S} KeepsVersions id (Swap v) (Swap (then_more v)) (Swap (new_view v.count))
  another_at id v s k at =
      let f = k.each id (Swap v) at in
      let W : View = Swap (then_more v) in
      let F : View = Swap (new_view v.count) in
      let vs : List View = set s.views id W in
      let P = publisher_view k.count k.word in
      record {
        count = k.count;
        publisher = k.publisher;
        made = k.made;
        word = k.word;
        words = k.words;
        below = k.below;
        one_publisher = at_longer vs (F ∷ []) k.publisher (Publisher P k.made) (set_else s.views id k.publisher W (swap_not_publisher s.views k.publisher id P k.made v k.one_publisher at) ∙ k.one_publisher);
        each = λ j u t. ⊎_elim
            (λ (x : get_elem? vs j ≡ some u). ⊎_elim
            (λ (y : (j ≡ id) × (W ≡ u)). subst (IsPlaced k.publisher k.count k.made k.word j) y.1 f)
            (λ (y : (j ≢ id) × (get_elem? s.views j ≡ some u)). k.each j u y.1)
            (at_set s.views id j W u x))
            (λ (x : F ≡ u). subst (IsPlaced k.publisher k.count k.made k.word j) x (f.0, none_loaded (k.word + 1), All-nil (IsVersionRun (k.word + 1))))
            (at_snoc vs F u j t);
      }

  pub another : (id : ℕ) (m : Holding S) → IsSwap m → Splits {S = S} KeepsVersions id m.0 (Swap (then_more (swap_in m.0))) (Swap (new_view (swap_in m.0).count))
  another id m is = subst (λ (x : View). Splits {S = S} KeepsVersions id x (Swap (then_more (swap_in x))) (Swap (new_view (swap_in x).count))) (sym (ap (λ (y : Holding S). y.0) is)) (another_at id (swap_in m.0))

  -- ---- a seat is gathered
  joins_at : (id : ℕ) (v : SwapView) (other : ℕ) (w : SwapView) → Joins {S = S} KeepsVersions id (Swap v) other (Swap w) (Swap (with_ended v w)) Spent
  joins_at id v other w s k at apart there =
      let W : View = Swap (with_ended v w) in
      let vs : List View = set s.views id W in
      let was : get_elem? s.views other ≡ some (Swap w) = ⊎_elim (λ (x : (other ≡ id) × (W ≡ Swap w)). absurd (apart x.0)) (λ (x : (other ≢ id) × (get_elem? s.views other ≡ some (Swap w))). x.1) (at_set s.views id other W (Swap w) there) in
      let P = publisher_view k.count k.word in
      let f = k.each id (Swap v) at in
      let g = k.each other (Swap w) was in
      record {
        count = k.count;
        publisher = k.publisher;
        made = k.made;
        word = k.word;
        words = k.words;
        below = k.below;
        one_publisher = set_else vs other k.publisher Spent (swap_not_publisher s.views k.publisher other P k.made w k.one_publisher was)
            ∙ (set_else s.views id k.publisher W (swap_not_publisher s.views k.publisher id P k.made v k.one_publisher at) ∙ k.one_publisher);
        each = λ j u t. ⊎_elim
            (λ (x : (j ≡ other) × (Spent ≡ u)). subst (IsPlaced k.publisher k.count k.made k.word j) x.1 tt)
            (λ (x : (j ≢ other) × (get_elem? vs j ≡ some u)). ⊎_elim
            (λ (y : (j ≡ id) × (W ≡ u)). subst (IsPlaced k.publisher k.count k.made k.word j) y.1
            (f.0, f.1, All-append (IsVersionRun (k.word + 1)) v.ended (w.loads ∷ w.ended) f.2 (All-cons (IsVersionRun (k.word + 1)) w.loads w.ended g.1 g.2)))
            (λ (y : (j ≢ id) × (get_elem? s.views j ≡ some u)). k.each j u y.1)
            (at_set s.views id j W u x.1))
            (at_set vs other j Spent u t);
      }

  pub joins : (id : ℕ) (m : Holding S) (other : ℕ) (n : Holding S) → IsSwap m → IsSwap n → Joins {S = S} KeepsVersions id m.0 other n.0 (Swap (with_ended (swap_in m.0) (swap_in n.0))) Spent
  joins id m other n is it = subst (λ (x : View × View). Joins {S = S} KeepsVersions id x.0 other x.1 (Swap (with_ended (swap_in x.0) (swap_in x.1))) Spent) (λ i. (sym (ap (λ (y : Holding S). y.0) is) i, sym (ap (λ (y : Holding S). y.0) it) i)) (joins_at id (swap_in m.0) other (swap_in n.0))

  -- ---- the table at the start
  pub opens : (count : ℕ) → 0 < count → KeepsVersions {S = S} (opening (0 ∷ []) [] (Publisher (publisher_view count 0) 0))
  opens count some_version = record {
    count = count;
    publisher = 0;
    made = 0;
    word = 0;
    words = refl;
    below = some_version;
    one_publisher = refl;
    each = λ j u t. ⊎_elim
        (λ (x : get_elem? [] j ≡ some u). absurd (some-ne-none u (sym x)))
        (λ (x : (j ≡ 0) × (Publisher (publisher_view count 0) 0 ≡ u)). subst (IsPlaced 0 count 0 0 j) x.1 (x.0, refl, refl))
        (alone (Publisher (publisher_view count 0) 0) j u t);
  }
    where
      alone : (a : View) (j : ℕ) (b : View) → get_elem? (a ∷ []) j ≡ some b → (get_elem? {A = View} [] j ≡ some b) ⊎ ((j ≡ 0) × (a ≡ b))
      alone a zero b e = inr (refl, some-injective a b e)
      alone a (suc j) b e = inl e

  -- ---- what seats know after a step
  pub stays : (m : Holding S) (v : SwapView) → m ≡ (Swap v, []) → IsSwap m
  stays m v e = e ∙ ap (λ (x : Holding S). (Swap (swap_in x.0), [])) (sym e)

  pub loaded_versions : (m m' : Holding S) (n : ℕ) → AreVersions (swap_in m.0) → m' ≡ (Swap (did_load (swap_in m.0) n), []) → IsVersionRun (swap_in m.0).count ((swap_in m.0).loads ++ n ∷ []) → AreVersions (swap_in m'.0)
  loaded_versions m m' n a e r = subst (λ (x : Holding S). AreVersions (swap_in x.0)) (sym e) (r, a.1)

  pub still : (m m' : Holding S) → m' ≡ (Swap (then_more (swap_in m.0)), m.1) → IsSwap m → AreVersions (swap_in m.0) → IsSwap m' × AreVersions (swap_in m'.0)
  still m m' e is a =
      let none : m.1 ≡ [] = ap (λ (x : Holding S). x.1) is in
      let f : m' ≡ (Swap (then_more (swap_in m.0)), []) = e ∙ (λ i. (Swap (then_more (swap_in m.0)), none i)) in
      (stays m' (then_more (swap_in m.0)) f, subst (λ (x : Holding S). AreVersions (swap_in x.0)) (sym f) a)

  pub joined : (m n m' : Holding S) → IsSwap m → (swap_in n.0).count ≡ (swap_in m.0).count → AreVersions (swap_in m.0) → AreVersions (swap_in n.0)
      → m' ≡ (Swap (with_ended (swap_in m.0) (swap_in n.0)), m.1) → IsSwap m' × AreVersions (swap_in m'.0)
  joined m n m' is same a b e =
      let none : m.1 ≡ [] = ap (λ (x : Holding S). x.1) is in
      let W : SwapView = with_ended (swap_in m.0) (swap_in n.0) in
      let f : m' ≡ (Swap W, []) = e ∙ (λ i. (Swap W, none i)) in
      (stays m' W f, subst (λ (x : Holding S). AreVersions (swap_in x.0)) (sym f) (both_versions (swap_in m.0) (swap_in n.0) same a b))
