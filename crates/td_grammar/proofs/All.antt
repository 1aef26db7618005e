-- Any number of them. Cited by other crates.
use Rattle.std.proofs.Common.{◌≡◌, ℕ, zero, suc, ◌≤◌, ◌<◌, Bool, true, false, cond, List, [], ◌∷◌, ◌++◌, length, refl, sym, ap, subst, ◌∙◌, append_assoc, arith, inl, inr}
use Rattle.std.proofs.lemmas.List.{append-nil, append_cancel_right, length-append}
use Rattle.td_ast.specs.declared.token.Token.{Token}
use Rattle.td_ast.specs.Kinds.{number_of_kind}
use Rattle.td_grammar.specs.Spelling.{Begins}
use Rattle.td_grammar.specs.Sets.{comes}
use Rattle.td_grammar.specs.Reading.{Outcome, Got, Bad, Deep, ◌and_then◌, with_first, read_all}
use Rattle.td_grammar.specs.Grammar.{Grammar, one, all_of}
use Rattle.td_grammar.proofs.Tools.{Stops, join, got_value, got_rest, apart_at, comes_same, stops_left, nothing_left}
use Rattle.td_grammar.proofs.Exact.{IsRead, IsDeep, IsExact, IsApart, keeps_first, passed_begins}
use Rattle.td_grammar.proofs.Led.{led_of, spelled_comes, all_begun, all_seam}

module _ {A : Type 0} (g : Grammar A) (G : IsExact g) (solid : g.reader.may_be_empty ≡ false) where
  pub shorter : (tokens : List Token) (a : A) (rest : List Token) → g.reader.read tokens ≡ Got a rest → length rest < length tokens
  shorter tokens a rest e = by_front (t.0) t.1 t.2
    where
      t : (front : List Token) × (tokens ≡ front ++ rest) × g.Spells a front
      t = G.takes tokens a rest e

      by_front : (front : List Token) → tokens ≡ front ++ rest → g.Spells a front → length rest < length tokens
      by_front [] same s = absurd (cc (G.full a s, solid))
      by_front (x ∷ front) same s = rw same (omega (arith, length-append front rest))

  enough_by : (n m : ℕ) (b : Bool) (tokens : List Token) → ((rest : List Token) → length rest ≤ n → length rest ≤ m → read_all n g.reader.begins g.reader.read rest ≡ read_all m g.reader.begins g.reader.read rest)
      → (o : Outcome A) → g.reader.read tokens ≡ o → length tokens ≤ suc n → length tokens ≤ suc m
      → cond b (o and_then λ x rest. with_first x (read_all n g.reader.begins g.reader.read rest)) (Got [] tokens) ≡ cond b (o and_then λ x rest. with_first x (read_all m g.reader.begins g.reader.read rest)) (Got [] tokens)
  enough_by n m false tokens ih o e le le' = refl
  enough_by n m true tokens ih (Bad rest) e le le' = refl
  enough_by n m true tokens ih (Deep rest) e le le' = refl
  enough_by n m true tokens ih (Got a rest) e le le' = let lt = shorter tokens a rest e in ap (with_first a) (ih rest (omega arith) (omega arith))

  -- so many turns are enough
  enough : (n m : ℕ) (tokens : List Token) → length tokens ≤ n → length tokens ≤ m → read_all n g.reader.begins g.reader.read tokens ≡ read_all m g.reader.begins g.reader.read tokens
  unfolding read_all
  enough zero zero tokens le le' = refl
  enough zero (suc m) [] le le' = refl
  enough zero (suc m) (t ∷ tokens) le le' = absurd (omega arith)
  enough (suc n) zero [] le le' = refl
  enough (suc n) zero (t ∷ tokens) le le' = absurd (omega arith)
  enough (suc n) (suc m) tokens le le' = enough_by n m (comes g.reader.begins tokens) tokens (λ rest. enough n m rest) (g.reader.read tokens) refl le le'

  pub all_done : (tokens : List Token) → comes g.reader.begins tokens ≡ false → (all_of g).reader.read tokens ≡ Got [] tokens
  unfolding read_all
  all_done [] e = refl
  all_done (t ∷ tokens) e = rw e refl

  pub all_more : (tokens : List Token) (x : A) (rest : List Token) → comes g.reader.begins tokens ≡ true → g.reader.read tokens ≡ Got x rest → (all_of g).reader.read tokens ≡ with_first x ((all_of g).reader.read rest)
  unfolding read_all
  all_more [] x rest b e = absurd cc
  all_more (t ∷ tokens) x rest b e =
      let lt = shorter (t ∷ tokens) x rest e in
      rw (b, e) (ap (with_first x) (enough (length tokens) (length rest) rest (omega arith) (omega arith)))

  pub all_bad : (tokens rest : List Token) → comes g.reader.begins tokens ≡ true → g.reader.read tokens ≡ Bad rest → (all_of g).reader.read tokens ≡ Bad rest
  unfolding read_all
  all_bad [] rest b e = absurd cc
  all_bad (t ∷ tokens) rest b e = rw (b, e) refl

  pub all_over : (tokens rest : List Token) → comes g.reader.begins tokens ≡ true → g.reader.read tokens ≡ Deep rest → (all_of g).reader.read tokens ≡ Deep rest
  unfolding read_all
  all_over [] rest b e = absurd cc
  all_over (t ∷ tokens) rest b e = rw (b, e) refl

  abbrev deep_list : List Token → Outcome (List A)
  deep_list l = Deep l

  deep_rest : (l m : List Token) → deep_list l ≡ deep_list m → l ≡ m
  deep_rest l m e = cc

  abbrev bad_list : List Token → Outcome (List A)
  bad_list l = Bad l

  -- by the number of tokens
  data Steps (tokens : List Token) : Type 0 where
    at_end : comes g.reader.begins tokens ≡ false → Steps tokens
    at_more : (x : A) (rest : List Token) → comes g.reader.begins tokens ≡ true → g.reader.read tokens ≡ Got x rest → Steps tokens
    at_bad : (rest : List Token) → comes g.reader.begins tokens ≡ true → g.reader.read tokens ≡ Bad rest → Steps tokens
    at_over : (rest : List Token) → comes g.reader.begins tokens ≡ true → g.reader.read tokens ≡ Deep rest → Steps tokens

  steps_by : (tokens : List Token) (b : Bool) (o : Outcome A) → comes g.reader.begins tokens ≡ b → g.reader.read tokens ≡ o → Steps tokens
  steps_by tokens false o e f = at_end e
  steps_by tokens true (Got x rest) e f = at_more x rest e f
  steps_by tokens true (Bad rest) e f = at_bad rest e f
  steps_by tokens true (Deep rest) e f = at_over rest e f

  steps : (tokens : List Token) → Steps tokens
  steps tokens = steps_by tokens (comes g.reader.begins tokens) (g.reader.read tokens) refl refl

  bad_rest : (l m : List Token) → bad_list l ≡ bad_list m → l ≡ m
  bad_rest l m e = cc

  first_got : (x : A) (o : Outcome (List A)) (xs : List A) (rest : List Token) → with_first x o ≡ Got xs rest → (ys : List A) × (o ≡ Got ys rest) × (xs ≡ x ∷ ys)
  first_got x (Got ys after) xs rest e = let r : after ≡ rest = got_rest (x ∷ ys) xs after rest e in (ys, ap (λ (l : List Token). Got ys l) r, sym (got_value (x ∷ ys) xs after rest e))
  first_got x (Bad after) xs rest e = absurd cc
  first_got x (Deep after) xs rest e = absurd cc

  first_bad : (x : A) (o : Outcome (List A)) (rest : List Token) → with_first x o ≡ Bad rest → o ≡ Bad rest
  first_bad x (Got ys after) rest e = absurd cc
  first_bad x (Bad after) rest e = cc
  first_bad x (Deep after) rest e = absurd cc

  first_deep : (x : A) (o : Outcome (List A)) (rest : List Token) → with_first x o ≡ Deep rest → o ≡ Deep rest
  first_deep x (Got ys after) rest e = absurd cc
  first_deep x (Bad after) rest e = absurd cc
  first_deep x (Deep after) rest e = cc

  all_takes : (n : ℕ) (tokens : List Token) → Steps tokens → length tokens ≤ n → (xs : List A) (rest : List Token) → (all_of g).reader.read tokens ≡ Got xs rest → (front : List Token) × (tokens ≡ front ++ rest) × (all_of g).Spells xs front
  all_takes n tokens (at_end b) le xs rest e =
      let o : Got [] tokens ≡ Got xs rest = sym (all_done tokens b) ∙ e in
      let none : [] ≡ xs = got_value [] xs tokens rest o in
      ([], got_rest [] xs tokens rest o, subst (λ (x : List A). (all_of g).Spells x []) none refl)
  all_takes zero tokens (at_more x mid b f) le xs rest e = let lt = shorter tokens x mid f in absurd (omega arith)
  all_takes (suc n) tokens (at_more x mid b f) le xs rest e =
      let lt = shorter tokens x mid f in
      let p = first_got x ((all_of g).reader.read mid) xs rest (sym (all_more tokens x mid b f) ∙ e) in
      let t = G.takes tokens x mid f in
      let u = all_takes n mid (steps mid) (omega arith) p.0 rest p.1 in
      (t.0 ++ u.0, join tokens t.0 mid u.0 rest t.1 u.1, subst (λ (y : List A). (all_of g).Spells y (t.0 ++ u.0)) (sym p.2) (t.0, u.0, refl, t.2, u.2))
  all_takes n tokens (at_bad mid b f) le xs rest e = absurd (cc (all_bad tokens mid b f))
  all_takes n tokens (at_over mid b f) le xs rest e = absurd (cc (all_over tokens mid b f))

  all_ends : (n : ℕ) (tokens : List Token) → Steps tokens → length tokens ≤ n → (rest : List Token) → (all_of g).reader.read tokens ≡ Bad rest → (front : List Token) × (tokens ≡ front ++ rest) × Begins (all_of g).Spells front
  all_ends n tokens (at_end b) le rest e = absurd (cc (all_done tokens b))
  all_ends zero tokens (at_more x mid b f) le rest e = let lt = shorter tokens x mid f in absurd (omega arith)
  all_ends (suc n) tokens (at_more x mid b f) le rest e =
      let lt = shorter tokens x mid f in
      let p = first_bad x ((all_of g).reader.read mid) rest (sym (all_more tokens x mid b f) ∙ e) in
      let t = G.takes tokens x mid f in
      let u = all_ends n mid (steps mid) (omega arith) rest p in
      (t.0 ++ u.0, join tokens t.0 mid u.0 rest t.1 u.1, (x ∷ u.2.0, u.2.1, (t.0, u.0 ++ u.2.1, append_assoc t.0 u.0 u.2.1, t.2, u.2.2)))
  all_ends n tokens (at_bad mid b f) le rest e =
      let same = bad_rest mid rest (sym (all_bad tokens mid b f) ∙ e) in
      let t = G.ends tokens rest (subst (λ (l : List Token). g.reader.read tokens ≡ Bad l) same f) in
      (t.0, t.1, (t.2.0 ∷ [], t.2.1, (t.0 ++ t.2.1, [], sym (append-nil (t.0 ++ t.2.1)), t.2.2, refl)))
  all_ends n tokens (at_over mid b f) le rest e = absurd (cc (all_over tokens mid b f))

  module _ (apart : IsApart g g) where
    all_again : (xs : List A) (front rest : List Token) → (all_of g).Spells xs front → Stops (all_of g).reader.goes_on rest → IsRead xs rest ((all_of g).reader.read (front ++ rest))
    all_again [] front rest s stops = inl (rw s (all_done rest (stops_left g.reader.begins g.reader.goes_on rest stops)))
    all_again (x ∷ xs) front rest s stops =
        let regrouped : front ++ rest ≡ s.0 ++ (s.1 ++ rest) = rw (s.2) (append_assoc s.0 s.1 rest) in
        subst (λ (l : List Token). IsRead (x ∷ xs) rest ((all_of g).reader.read l)) (sym regrouped)
        (by_first (spelled_comes g (led_of G) solid x s.0 (s.1 ++ rest) s.3) (G.again x s.0 (s.1 ++ rest) s.3 (all_seam g (led_of G) solid apart xs s.1 rest s.4 stops)) (all_again xs s.1 rest s.4 stops))
      where
        by_first : comes g.reader.begins (s.0 ++ (s.1 ++ rest)) ≡ true → IsRead x (s.1 ++ rest) (g.reader.read (s.0 ++ (s.1 ++ rest))) → IsRead xs rest ((all_of g).reader.read (s.1 ++ rest)) → IsRead (x ∷ xs) rest ((all_of g).reader.read (s.0 ++ (s.1 ++ rest)))
        by_first b (inl one) (inl others) = inl (all_more (s.0 ++ (s.1 ++ rest)) x (s.1 ++ rest) b one ∙ ap (with_first x) others)
        by_first b (inl one) (inr over) = inr (over.0, all_more (s.0 ++ (s.1 ++ rest)) x (s.1 ++ rest) b one ∙ ap (with_first x) over.1, over.2)
        by_first b (inr over) others = inr (over.0, all_over (s.0 ++ (s.1 ++ rest)) over.0 b over.1, omega (arith, over.2, length-append s.1 rest))

  all_deep : (n : ℕ) (tokens : List Token) → Steps tokens → length tokens ≤ n → (rest : List Token) → (all_of g).reader.read tokens ≡ Deep rest → (front : List Token) × (t : Token) × (r : List Token) × (tokens ≡ front ++ t ∷ r) × (rest ≡ t ∷ r) × (all_of g).Passes (front ++ t ∷ [])
  all_deep n tokens (at_end b) le rest e = absurd (cc (all_done tokens b))
  all_deep n tokens (at_bad mid b f) le rest e = absurd (cc (all_bad tokens mid b f))
  all_deep n tokens (at_over mid b f) le rest e =
      let same = deep_rest mid rest (sym (all_over tokens mid b f) ∙ e) in
      let p = G.deep tokens rest (subst (λ (l : List Token). g.reader.read tokens ≡ Deep l) same f) in
      (p.0, p.1, p.2, p.3, p.4, ([], [], p.0 ++ p.1 ∷ [], refl, refl, p.5))
  all_deep zero tokens (at_more x mid b f) le rest e = let lt = shorter tokens x mid f in absurd (omega arith)
  all_deep (suc n) tokens (at_more x mid b f) le rest e =
      let lt = shorter tokens x mid f in
      let p = first_deep x ((all_of g).reader.read mid) rest (sym (all_more tokens x mid b f) ∙ e) in
      let t = G.takes tokens x mid f in
      let u = all_deep n mid (steps mid) (omega arith) rest p in
      let q = u.5 in (
        t.0 ++ u.0,
        u.1,
        u.2,
        join tokens t.0 mid u.0 (u.1 ∷ u.2) t.1 u.3,
        u.4,
        (x ∷ q.0, t.0 ++ q.1, q.2, append_assoc t.0 u.0 (u.1 ∷ []) ∙ (ap (λ (l : List Token). t.0 ++ l) q.3 ∙ sym (append_assoc t.0 q.1 q.2)), (t.0, q.1, refl, t.2, q.4), q.5),
      )

  module _ (apart : IsApart g g) where
    passed_comes : (v rest : List Token) → g.Passes v → comes g.reader.begins (v ++ rest) ≡ true
    passed_comes [] rest p = absurd (G.not_nothing p)
    passed_comes (t ∷ v) rest p = passed_begins g G t v p

    -- what stands after one, be it more of them or the beginning of one
    behind_stops : (xs : List A) (u v rest : List Token) → (all_of g).Spells xs u → g.Passes v → Stops g.reader.goes_on (u ++ (v ++ rest))
    behind_stops xs [] [] rest s p = absurd (G.not_nothing p)
    behind_stops xs [] (t ∷ v) rest s p = apart_at g.reader.begins g.reader.goes_on (number_of_kind t.kind) apart (passed_begins g G t v p)
    behind_stops xs (t ∷ u) v rest s p = apart_at g.reader.begins g.reader.goes_on (number_of_kind t.kind) apart (all_begun g (led_of G) solid xs t u s)

    all_passes_by : (xs : List A) (u v rest : List Token) → (all_of g).Spells xs u → g.Passes v → IsDeep rest ((all_of g).reader.read (u ++ (v ++ rest)))
    all_passes_by [] u v rest s p =
        let over = G.passes v rest p in
        rw (s) (over.0, all_over (v ++ rest) over.0 (passed_comes v rest p) over.1, over.2)
    all_passes_by (x ∷ xs) u v rest s p =
        let regrouped : u ++ (v ++ rest) ≡ s.0 ++ (s.1 ++ (v ++ rest)) = rw (s.2) (append_assoc s.0 s.1 (v ++ rest)) in
        subst (λ (l : List Token). IsDeep rest ((all_of g).reader.read l)) (sym regrouped)
        (by_first (spelled_comes g (led_of G) solid x s.0 (s.1 ++ (v ++ rest)) s.3) (G.again x s.0 (s.1 ++ (v ++ rest)) s.3 (behind_stops xs s.1 v rest s.4 p)) (all_passes_by xs s.1 v rest s.4 p))
      where
        by_first : comes g.reader.begins (s.0 ++ (s.1 ++ (v ++ rest))) ≡ true → IsRead x (s.1 ++ (v ++ rest)) (g.reader.read (s.0 ++ (s.1 ++ (v ++ rest)))) → IsDeep rest ((all_of g).reader.read (s.1 ++ (v ++ rest))) → IsDeep rest ((all_of g).reader.read (s.0 ++ (s.1 ++ (v ++ rest))))
        by_first b (inl one) over = (over.0, all_more (s.0 ++ (s.1 ++ (v ++ rest))) x (s.1 ++ (v ++ rest)) b one ∙ ap (with_first x) over.1, over.2)
        by_first b (inr over) others = (over.0, all_over (s.0 ++ (s.1 ++ (v ++ rest))) over.0 b over.1, omega (arith, over.2, length-append s.1 (v ++ rest), length-append v rest))

    all_passes : (front rest : List Token) → (all_of g).Passes front → IsDeep rest ((all_of g).reader.read (front ++ rest))
    all_passes front rest (xs, u, v, e, s, p) = subst (λ (l : List Token). IsDeep rest ((all_of g).reader.read l)) (sym (ap (λ (l : List Token). l ++ rest) e ∙ append_assoc u v rest)) (all_passes_by xs u v rest s p)

  -- more of them after some
  all_more_of : (xs : List A) (u v w : List Token) (y : A) → (all_of g).Spells xs u → g.Spells y (v ++ w) → (all_of g).Spells (xs ++ y ∷ []) ((u ++ v) ++ w)
  all_more_of [] u v w y s t = rw (s) (v ++ w, [], sym (append-nil (v ++ w)), t, refl)
  all_more_of (x ∷ xs) u v w y s t = (s.0, (s.1 ++ v) ++ w, rw (s.2) (simp append_assoc refl), s.3, all_more_of xs s.1 v w y s.4 t)

  all_passed : (front : List Token) → (all_of g).Passes front → Begins (all_of g).Spells front
  all_passed front (xs, u, v, e, s, p) = let b = G.passed v p in (xs ++ b.0 ∷ [], b.1, subst (λ (l : List Token). (all_of g).Spells (xs ++ b.0 ∷ []) (l ++ b.1)) (sym e) (all_more_of xs u v b.1 b.0 s b.2))

  all_not_nothing : (all_of g).Passes [] → ⊥
  all_not_nothing (xs, u, v, e, s, p) = G.not_nothing (subst (λ (l : List Token). g.Passes l) (nothing_left u v e).1 p)

  all_keeps_got : (n : ℕ) (front : List Token) (t : Token) (r s : List Token) → Steps (front ++ t ∷ r) → length (front ++ t ∷ r) ≤ n → (xs : List A) → (all_of g).reader.read (front ++ t ∷ r) ≡ Got xs (t ∷ r) → (all_of g).reader.read (front ++ t ∷ s) ≡ Got xs (t ∷ s)
  all_keeps_got n front t r s (at_end b) le xs e =
      let o : Got [] (front ++ t ∷ r) ≡ Got xs (t ∷ r) = sym (all_done (front ++ t ∷ r) b) ∙ e in
      let none : [] ≡ xs = got_value [] xs (front ++ t ∷ r) (t ∷ r) o in
      let same : front ≡ [] = append_cancel_right front [] (t ∷ r) (got_rest [] xs (front ++ t ∷ r) (t ∷ r) o) in
      let stop : comes g.reader.begins (front ++ t ∷ s) ≡ false = sym (comes_same g.reader.begins front t r s) ∙ b in
      all_done (front ++ t ∷ s) stop ∙ rw (same, none) refl
  all_keeps_got zero front t r s (at_more x mid b f) le xs e = let lt = shorter (front ++ t ∷ r) x mid f in absurd (omega arith)
  all_keeps_got (suc n) front t r s (at_more x mid b f) le xs e =
      let lt = shorter (front ++ t ∷ r) x mid f in
      let p = first_got x ((all_of g).reader.read mid) xs (t ∷ r) (sym (all_more (front ++ t ∷ r) x mid b f) ∙ e) in
      let u = all_takes n mid (steps mid) (omega arith) p.0 (t ∷ r) p.1 in
      let first = keeps_first g G front t r s x mid u.0 f u.1 in
      let inner : (all_of g).reader.read (u.0 ++ t ∷ r) ≡ Got p.0 (t ∷ r) = subst (λ (l : List Token). (all_of g).reader.read l ≡ Got p.0 (t ∷ r)) u.1 p.1 in
      let short : length (u.0 ++ t ∷ r) ≤ n = subst (λ (l : List Token). length l ≤ n) u.1 (omega arith) in
      let again = all_keeps_got n u.0 t r s (steps (u.0 ++ t ∷ r)) short p.0 inner in
      let go : comes g.reader.begins (front ++ t ∷ s) ≡ true = sym (comes_same g.reader.begins front t r s) ∙ b in
      all_more (front ++ t ∷ s) x (u.0 ++ t ∷ s) go first ∙ (ap (with_first x) again ∙ ap (λ (y : List A). Got y (t ∷ s)) (sym p.2))
  all_keeps_got n front t r s (at_bad mid b f) le xs e = absurd (cc (all_bad (front ++ t ∷ r) mid b f))
  all_keeps_got n front t r s (at_over mid b f) le xs e = absurd (cc (all_over (front ++ t ∷ r) mid b f))

  all_keeps_bad : (n : ℕ) (front : List Token) (t : Token) (r s : List Token) → Steps (front ++ t ∷ r) → length (front ++ t ∷ r) ≤ n → (all_of g).reader.read (front ++ t ∷ r) ≡ Bad (t ∷ r) → (all_of g).reader.read (front ++ t ∷ s) ≡ Bad (t ∷ s)
  all_keeps_bad n front t r s (at_end b) le e = absurd (cc (all_done (front ++ t ∷ r) b))
  all_keeps_bad zero front t r s (at_more x mid b f) le e = let lt = shorter (front ++ t ∷ r) x mid f in absurd (omega arith)
  all_keeps_bad (suc n) front t r s (at_more x mid b f) le e =
      let lt = shorter (front ++ t ∷ r) x mid f in
      let p = first_bad x ((all_of g).reader.read mid) (t ∷ r) (sym (all_more (front ++ t ∷ r) x mid b f) ∙ e) in
      let u = all_ends n mid (steps mid) (omega arith) (t ∷ r) p in
      let first = keeps_first g G front t r s x mid u.0 f u.1 in
      let inner : (all_of g).reader.read (u.0 ++ t ∷ r) ≡ Bad (t ∷ r) = subst (λ (l : List Token). (all_of g).reader.read l ≡ Bad (t ∷ r)) u.1 p in
      let short : length (u.0 ++ t ∷ r) ≤ n = subst (λ (l : List Token). length l ≤ n) u.1 (omega arith) in
      let again = all_keeps_bad n u.0 t r s (steps (u.0 ++ t ∷ r)) short inner in
      let go : comes g.reader.begins (front ++ t ∷ s) ≡ true = sym (comes_same g.reader.begins front t r s) ∙ b in
      all_more (front ++ t ∷ s) x (u.0 ++ t ∷ s) go first ∙ ap (with_first x) again
  all_keeps_bad n front t r s (at_bad mid b f) le e =
      let same = bad_rest mid (t ∷ r) (sym (all_bad (front ++ t ∷ r) mid b f) ∙ e) in
      let go : comes g.reader.begins (front ++ t ∷ s) ≡ true = sym (comes_same g.reader.begins front t r s) ∙ b in
      all_bad (front ++ t ∷ s) (t ∷ s) go (G.keeps_bad front t r s (subst (λ (l : List Token). g.reader.read (front ++ t ∷ r) ≡ Bad l) same f))
  all_keeps_bad n front t r s (at_over mid b f) le e = absurd (cc (all_over (front ++ t ∷ r) mid b f))

  pub all_exact : IsApart g g → IsExact (all_of g)
  all_exact apart = record {
    takes = λ tokens xs rest e. all_takes (length tokens) tokens (steps tokens) (omega arith) xs rest e;
    again = all_again apart;
    deep = λ tokens rest e. all_deep (length tokens) tokens (steps tokens) (omega arith) rest e;
    passes = all_passes apart;
    passed = all_passed;
    not_nothing = all_not_nothing;
    begun = all_begun g (led_of G) solid;
    full = λ xs s. refl;
    ends = λ tokens rest e. all_ends (length tokens) tokens (steps tokens) (omega arith) rest e;
    keeps_got = λ front t r s xs e. all_keeps_got (length (front ++ t ∷ r)) front t r s (steps (front ++ t ∷ r)) (omega arith) xs e;
    keeps_bad = λ front t r s e. all_keeps_bad (length (front ++ t ∷ r)) front t r s (steps (front ++ t ∷ r)) (omega arith) e;
    some = ([], [], refl);
  }
