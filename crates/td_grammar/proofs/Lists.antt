-- A list whose elements are parted by one kind of token, which may also stand after the last. Cited by other crates.
use Rattle.std.proofs.Common.{◌≡◌, ℕ, zero, suc, ◌≤◌, ◌<◌, Bool, true, false, cond, List, [], ◌∷◌, ◌++◌, length, refl, sym, ap, subst, ◌∙◌, append_assoc, arith, ◌⊎◌, inl, inr}
use Rattle.std.proofs.lemmas.List.{append-nil, length-append}
use Rattle.td_ast.specs.declared.token.Token.{Token}
use Rattle.td_ast.specs.Kinds.{number_of_kind}
use Rattle.td_grammar.specs.Spelling.{Begins}
use Rattle.td_grammar.specs.Sets.{comes, member}
use Rattle.td_grammar.specs.Reading.{Outcome, Got, Bad, Deep, ◌and_then◌, with_first}
use Rattle.td_grammar.specs.Grammar.{Grammar}
use Rattle.td_grammar.specs.Listed.{SpellsFirst, read_part, read_listed, listed}
use Rattle.td_grammar.proofs.Sets.{disjoint}
use Rattle.td_grammar.proofs.Tools.{Stops, got_value, got_rest, apart_at, comes_same, stops_left, stops_right, nothing_left}
use Rattle.td_grammar.proofs.Exact.{IsRead, IsDeep, IsExact, keeps_first, passed_begins}

module _ {A : Type 0} (parts : List ℕ) (g : Grammar A) (G : IsExact g) (solid : g.reader.may_be_empty ≡ false) (apart : disjoint parts g.reader.goes_on ≡ true) where
  abbrev L : Grammar (List A)
  L = listed parts g

  abbrev read : ℕ → List Token → Outcome (List A)
  read n tokens = read_listed n parts g.reader.begins g.reader.read tokens

  shorter : (tokens : List Token) (a : A) (rest : List Token) → g.reader.read tokens ≡ Got a rest → length rest < length tokens
  shorter tokens a rest e = by_front t.0 t.1 t.2
    where
      t : (front : List Token) × (tokens ≡ front ++ rest) × g.Spells a front
      t = G.takes tokens a rest e

      by_front : (front : List Token) → tokens ≡ front ++ rest → g.Spells a front → length rest < length tokens
      by_front [] same s = absurd (cc (G.full a s, solid))
      by_front (x ∷ front) same s = rw same (omega (arith, length-append front rest))

  enough_part : (n m : ℕ) (x : A) (rest : List Token) → ((tokens : List Token) → length tokens < length rest → read n tokens ≡ read m tokens)
      → read_part parts g.reader.begins x rest (read n) ≡ read_part parts g.reader.begins x rest (read m)
  enough_part n m x [] ih = refl
  enough_part n m x (t ∷ rest) ih = by_tests (member parts (number_of_kind t.kind)) (comes g.reader.begins rest)
    where
      by_tests : (b c : Bool) → cond b (cond c (with_first x (read n rest)) (Got (x ∷ []) rest)) (Got (x ∷ []) (t ∷ rest)) ≡ cond b (cond c (with_first x (read m rest)) (Got (x ∷ []) rest)) (Got (x ∷ []) (t ∷ rest))
      by_tests true true = ap (with_first x) (ih rest (omega arith))
      by_tests true false = refl
      by_tests false c = refl

  enough_by : (n m : ℕ) (tokens : List Token) (o : Outcome A) → g.reader.read tokens ≡ o → ((l : List Token) → length l < length tokens → read n l ≡ read m l)
      → (o and_then λ x rest. read_part parts g.reader.begins x rest (read n)) ≡ (o and_then λ x rest. read_part parts g.reader.begins x rest (read m))
  enough_by n m tokens (Bad rest) e ih = refl
  enough_by n m tokens (Deep rest) e ih = refl
  enough_by n m tokens (Got a rest) e ih = enough_part n m a rest (λ l lt. ih l (omega (arith, lt, shorter tokens a rest e)))

  enough : (n m : ℕ) (tokens : List Token) → length tokens < n → length tokens < m → read n tokens ≡ read m tokens
  unfolding read_listed
  enough zero m tokens lt lt' = absurd (omega arith)
  enough (suc n) zero tokens lt lt' = absurd (omega arith)
  enough (suc n) (suc m) tokens lt lt' = enough_by n m tokens (g.reader.read tokens) refl (λ l less. enough n m l (omega arith) (omega arith))

  -- ---- what reading says, by what it finds first

  pub says_bad : (tokens rest : List Token) → g.reader.read tokens ≡ Bad rest → L.reader.read tokens ≡ Bad rest
  unfolding read_listed
  says_bad tokens rest e = rw e refl

  pub says_deep : (tokens rest : List Token) → g.reader.read tokens ≡ Deep rest → L.reader.read tokens ≡ Deep rest
  unfolding read_listed
  says_deep tokens rest e = rw e refl

  pub says_last : (tokens : List Token) (x : A) (rest : List Token) → g.reader.read tokens ≡ Got x rest → comes parts rest ≡ false → L.reader.read tokens ≡ Got (x ∷ []) rest
  unfolding read_listed
  says_last tokens x [] e c = rw e refl
  says_last tokens x (t ∷ rest) e c = let m : member parts (number_of_kind t.kind) ≡ false = c in rw (e, m) refl

  pub says_part : (tokens : List Token) (x : A) (t : Token) (rest : List Token) → g.reader.read tokens ≡ Got x (t ∷ rest) → member parts (number_of_kind t.kind) ≡ true → comes g.reader.begins rest ≡ false → L.reader.read tokens ≡ Got (x ∷ []) rest
  unfolding read_listed
  says_part tokens x t rest e m c = rw (e, m, c) refl

  pub says_more : (tokens : List Token) (x : A) (t : Token) (rest : List Token) → g.reader.read tokens ≡ Got x (t ∷ rest) → member parts (number_of_kind t.kind) ≡ true → comes g.reader.begins rest ≡ true → L.reader.read tokens ≡ with_first x (L.reader.read rest)
  unfolding read_listed
  says_more tokens x t rest e m c = rw (e, m, c) (ap (with_first x) (enough (length tokens) (suc (length rest)) rest (omega (arith, shorter tokens x (t ∷ rest) e)) (omega arith)))

  data Next (tokens : List Token) : Type 0 where
    is_bad : (rest : List Token) → g.reader.read tokens ≡ Bad rest → Next tokens
    is_deep : (rest : List Token) → g.reader.read tokens ≡ Deep rest → Next tokens
    is_last : (x : A) (rest : List Token) → g.reader.read tokens ≡ Got x rest → comes parts rest ≡ false → Next tokens
    is_part : (x : A) (t : Token) (rest : List Token) → g.reader.read tokens ≡ Got x (t ∷ rest) → member parts (number_of_kind t.kind) ≡ true → comes g.reader.begins rest ≡ false → Next tokens
    is_more : (x : A) (t : Token) (rest : List Token) → g.reader.read tokens ≡ Got x (t ∷ rest) → member parts (number_of_kind t.kind) ≡ true → comes g.reader.begins rest ≡ true → Next tokens

  next_by : (tokens : List Token) (o : Outcome A) → g.reader.read tokens ≡ o → Next tokens
  next_by tokens (Bad rest) e = is_bad rest e
  next_by tokens (Deep rest) e = is_deep rest e
  next_by tokens (Got x []) e = is_last x [] e refl
  next_by tokens (Got x (t ∷ rest)) e = by_tests (member parts (number_of_kind t.kind)) (comes g.reader.begins rest) refl refl
    where
      by_tests : (b c : Bool) → member parts (number_of_kind t.kind) ≡ b → comes g.reader.begins rest ≡ c → Next tokens
      by_tests false c m k = is_last x (t ∷ rest) e m
      by_tests true false m k = is_part x t rest e m k
      by_tests true true m k = is_more x t rest e m k

  next : (tokens : List Token) → Next tokens
  next tokens = next_by tokens (g.reader.read tokens) refl

  first_got : (x : A) (o : Outcome (List A)) (xs : List A) (rest : List Token) → with_first x o ≡ Got xs rest → (ys : List A) × (o ≡ Got ys rest) × (xs ≡ x ∷ ys)
  first_got x (Got ys after) xs rest e = let r : after ≡ rest = got_rest (x ∷ ys) xs after rest e in (ys, ap (λ (l : List Token). Got ys l) r, sym (got_value (x ∷ ys) xs after rest e))
  first_got x (Bad after) xs rest e = absurd cc
  first_got x (Deep after) xs rest e = absurd cc

  first_bad : (x : A) (o : Outcome (List A)) (rest : List Token) → with_first x o ≡ Bad rest → o ≡ Bad rest
  first_bad x (Got ys after) rest e = absurd cc
  first_bad x (Bad after) rest e = cc
  first_bad x (Deep after) rest e = absurd cc

  first_deep : (x : A) (o : Outcome (List A)) (rest : List Token) → with_first x o ≡ Deep rest → o ≡ Deep rest
  first_deep x (Got ys after) rest e = absurd cc
  first_deep x (Bad after) rest e = absurd cc
  first_deep x (Deep after) rest e = cc

  -- one more before a list
  more_spelled : (x : A) (front : List Token) (t : Token) (ys : List A) (back : List Token) → g.Spells x front → member parts (number_of_kind t.kind) ≡ true → L.Spells ys back → L.Spells (x ∷ ys) (front ++ t ∷ back)
  more_spelled x front t [] back s m l = absurd l
  more_spelled x front t (y ∷ ys) back s m l = (front, t, back, refl, s, m, l)

  cons_append : (front : List Token) (t : Token) (mid : List Token) (tokens rest : List Token) → tokens ≡ front ++ t ∷ mid → (u : List Token) → mid ≡ u ++ rest → tokens ≡ (front ++ t ∷ u) ++ rest
  cons_append front t mid tokens rest e u f = e ∙ (ap (λ (l : List Token). front ++ t ∷ l) f ∙ sym (append_assoc front (t ∷ u) rest))

  takes : (n : ℕ) (tokens : List Token) → Next tokens → length tokens ≤ n → (xs : List A) (rest : List Token) → L.reader.read tokens ≡ Got xs rest → (front : List Token) × (tokens ≡ front ++ rest) × L.Spells xs front
  takes n tokens (is_bad mid f) le xs rest e = absurd (cc (says_bad tokens mid f, e))
  takes n tokens (is_deep mid f) le xs rest e = absurd (cc (says_deep tokens mid f, e))
  takes n tokens (is_last x mid f c) le xs rest e =
      let o = sym (says_last tokens x mid f c) ∙ e in
      let t = G.takes tokens x mid f in
      let same : mid ≡ rest = got_rest (x ∷ []) xs mid rest o in
      (t.0, t.1 ∙ ap (λ (l : List Token). t.0 ++ l) same, subst (λ (l : List A). L.Spells l t.0) (got_value (x ∷ []) xs mid rest o) (t.0, [], sym (append-nil t.0), t.2, inl refl))
  takes n tokens (is_part x s mid f m c) le xs rest e =
      let o = sym (says_part tokens x s mid f m c) ∙ e in
      let t = G.takes tokens x (s ∷ mid) f in
      let same : mid ≡ rest = got_rest (x ∷ []) xs mid rest o in
      (t.0 ++ s ∷ [], t.1 ∙ (ap (λ (l : List Token). t.0 ++ s ∷ l) same ∙ sym (append_assoc t.0 (s ∷ []) rest)), subst (λ (l : List A). L.Spells l (t.0 ++ s ∷ [])) (got_value (x ∷ []) xs mid rest o) (t.0, s ∷ [], refl, t.2, inr (s, refl, m)))
  takes zero tokens (is_more x s mid f m c) le xs rest e = absurd (omega (arith, shorter tokens x (s ∷ mid) f))
  takes (suc n) tokens (is_more x s mid f m c) le xs rest e =
      let p = first_got x (L.reader.read mid) xs rest (sym (says_more tokens x s mid f m c) ∙ e) in
      let t = G.takes tokens x (s ∷ mid) f in
      let u = takes n mid (next mid) (omega (arith, shorter tokens x (s ∷ mid) f)) p.0 rest p.1 in
      (t.0 ++ s ∷ u.0, cons_append t.0 s mid tokens rest t.1 u.0 u.1, subst (λ (l : List A). L.Spells l (t.0 ++ s ∷ u.0)) (sym p.2) (more_spelled x t.0 s p.0 u.0 t.2 m u.2))

  ends : (n : ℕ) (tokens : List Token) → Next tokens → length tokens ≤ n → (rest : List Token) → L.reader.read tokens ≡ Bad rest → (front : List Token) × (tokens ≡ front ++ rest) × Begins L.Spells front
  ends n tokens (is_bad mid f) le rest e =
      let same : mid ≡ rest = cc (says_bad tokens mid f, e) in
      let t = G.ends tokens rest (subst (λ (l : List Token). g.reader.read tokens ≡ Bad l) same f) in
      (t.0, t.1, (t.2.0 ∷ [], t.2.1, (t.0 ++ t.2.1, [], sym (append-nil (t.0 ++ t.2.1)), t.2.2, inl refl)))
  ends n tokens (is_deep mid f) le rest e = absurd (cc (says_deep tokens mid f, e))
  ends n tokens (is_last x mid f c) le rest e = absurd (cc (says_last tokens x mid f c, e))
  ends n tokens (is_part x s mid f m c) le rest e = absurd (cc (says_part tokens x s mid f m c, e))
  ends zero tokens (is_more x s mid f m c) le rest e = absurd (omega (arith, shorter tokens x (s ∷ mid) f))
  ends (suc n) tokens (is_more x s mid f m c) le rest e =
      let p = first_bad x (L.reader.read mid) rest (sym (says_more tokens x s mid f m c) ∙ e) in
      let t = G.takes tokens x (s ∷ mid) f in
      let u = ends n mid (next mid) (omega (arith, shorter tokens x (s ∷ mid) f)) rest p in
      (t.0 ++ s ∷ u.0, cons_append t.0 s mid tokens rest t.1 u.0 u.1, (x ∷ u.2.0, u.2.1, subst (λ (l : List Token). L.Spells (x ∷ u.2.0) l) (sym (append_assoc t.0 (s ∷ u.0) u.2.1)) (more_spelled x t.0 s u.2.0 (u.0 ++ u.2.1) t.2 m u.2.2)))

  first_begun : (x : A) (front back : List Token) (t : Token) (more : List Token) → t ∷ more ≡ front ++ back → g.Spells x front → member g.reader.begins (number_of_kind t.kind) ≡ true
  first_begun x [] back t more e s = absurd (cc (G.full x s, solid))
  first_begun x (y ∷ front) back t more e s = let same : t ≡ y = cc in rw same (G.begun x y front s)

  begun : (xs : List A) (t : Token) (more : List Token) → L.Spells xs (t ∷ more) → member g.reader.begins (number_of_kind t.kind) ≡ true
  begun [] t more s = absurd s
  begun (x ∷ []) t more s = first_begun x s.0 s.1 t more s.2 s.3
  begun (x ∷ y ∷ ys) t more s = first_begun x s.0 (s.1 ∷ s.2) t more s.3 s.4

  full : (xs : List A) → L.Spells xs [] → ⊥
  full [] s = s
  full (x ∷ []) s = cc (G.full x (subst (λ (l : List Token). g.Spells x l) (nothing_left s.0 s.1 s.2).0 s.3), solid)
  full (x ∷ y ∷ ys) s = absurd (omega (arith, ap length s.3, length-append s.0 (s.1 ∷ s.2)))

  comes_with : (xs : List A) (u rest : List Token) → L.Spells xs u → comes g.reader.begins (u ++ rest) ≡ true
  comes_with xs [] rest s = absurd (full xs s)
  comes_with xs (t ∷ u) rest s = begun xs t u s

  go_on : (front : List Token) (x : A) (t : Token) (after rest : List Token) → g.Spells x front → member parts (number_of_kind t.kind) ≡ true → comes g.reader.begins after ≡ true → length rest ≤ length after
      → ((o : Outcome (List A)) × (L.reader.read after ≡ o)) → (L.reader.read (front ++ t ∷ after) ≡ with_first x (L.reader.read after)) ⊎ IsDeep rest (L.reader.read (front ++ t ∷ after))
  go_on front x t after rest s m c le o =
      elim (G.again x front (t ∷ after) s (apart_at parts g.reader.goes_on (number_of_kind t.kind) apart m)) [
        | inl got ↦ inl (says_more (front ++ t ∷ after) x t after got m c)
        | inr over ↦ inr (over.0, says_deep (front ++ t ∷ after) over.0 over.1, omega (arith, over.2))
      ]

  again : (xs : List A) (front rest : List Token) → L.Spells xs front → Stops (parts ++ (g.reader.begins ++ g.reader.goes_on)) rest → IsRead xs rest (L.reader.read (front ++ rest))
  again [] front rest s stops = absurd s
  again (x ∷ []) front rest (u, v, e, s, inl z) stops =
      let whole : front ≡ u = e ∙ (ap (λ (l : List Token). u ++ l) z ∙ append-nil u) in
      let others = stops_right parts (g.reader.begins ++ g.reader.goes_on) rest stops in
      rw whole (elim (G.again x u rest s (stops_right g.reader.begins g.reader.goes_on rest others)) [
        | inl got ↦ inl (says_last (u ++ rest) x rest got (stops_left parts (g.reader.begins ++ g.reader.goes_on) rest stops))
        | inr over ↦ inr (over.0, says_deep (u ++ rest) over.0 over.1, over.2)
      ])
  again (x ∷ []) front rest (u, v, e, s, inr (t, z, m)) stops =
      let whole : front ++ rest ≡ u ++ t ∷ rest = ap (λ (l : List Token). l ++ rest) (e ∙ ap (λ (l : List Token). u ++ l) z) ∙ append_assoc u (t ∷ []) rest in
      let others = stops_right parts (g.reader.begins ++ g.reader.goes_on) rest stops in
      subst (λ (l : List Token). IsRead (x ∷ []) rest (L.reader.read l)) (sym whole) (elim (G.again x u (t ∷ rest) s (apart_at parts g.reader.goes_on (number_of_kind t.kind) apart m)) [
        | inl got ↦ inl (says_part (u ++ t ∷ rest) x t rest got m (stops_left g.reader.begins g.reader.goes_on rest others))
        | inr over ↦ inr (over.0, says_deep (u ++ t ∷ rest) over.0 over.1, omega (arith, over.2))
      ])
  again (x ∷ y ∷ ys) front rest (u, t, v, e, s, m, l) stops =
      let whole : front ++ rest ≡ u ++ t ∷ (v ++ rest) = ap (λ (l : List Token). l ++ rest) e ∙ append_assoc u (t ∷ v) rest in
      let inner = again (y ∷ ys) v rest l stops in
      subst (λ (l : List Token). IsRead (x ∷ y ∷ ys) rest (L.reader.read l)) (sym whole)
      (elim (go_on u x t (v ++ rest) rest s m (comes_with (y ∷ ys) v rest l) (omega (arith, length-append v rest)) (L.reader.read (v ++ rest), refl)) [
        | inl one ↦ elim inner [
          | inl got ↦ inl (one ∙ ap (with_first x) got)
          | inr over ↦ inr (over.0, one ∙ ap (with_first x) over.1, over.2)
        ]
        | inr over ↦ inr over
      ])

  keeps_got : (n : ℕ) (front : List Token) (t : Token) (r s : List Token) → Next (front ++ t ∷ r) → length (front ++ t ∷ r) ≤ n → (xs : List A) → L.reader.read (front ++ t ∷ r) ≡ Got xs (t ∷ r) → L.reader.read (front ++ t ∷ s) ≡ Got xs (t ∷ s)
  keeps_got n front t r s (is_bad mid f) le xs e = absurd (cc (says_bad (front ++ t ∷ r) mid f, e))
  keeps_got n front t r s (is_deep mid f) le xs e = absurd (cc (says_deep (front ++ t ∷ r) mid f, e))
  keeps_got n front t r s (is_last x mid f c) le xs e =
      let o = sym (says_last (front ++ t ∷ r) x mid f c) ∙ e in
      let same : mid ≡ t ∷ r = got_rest (x ∷ []) xs mid (t ∷ r) o in
      let none : member parts (number_of_kind t.kind) ≡ false = subst (λ (l : List Token). comes parts l ≡ false) same c in
      let k = G.keeps_got front t r s x (subst (λ (l : List Token). g.reader.read (front ++ t ∷ r) ≡ Got x l) same f) in
      says_last (front ++ t ∷ s) x (t ∷ s) k none ∙ ap (λ (l : List A). Got l (t ∷ s)) (got_value (x ∷ []) xs mid (t ∷ r) o)
  keeps_got n front t r s (is_part x p mid f m c) le xs e =
      let o = sym (says_part (front ++ t ∷ r) x p mid f m c) ∙ e in
      let same : mid ≡ t ∷ r = got_rest (x ∷ []) xs mid (t ∷ r) o in
      let none : member g.reader.begins (number_of_kind t.kind) ≡ false = subst (λ (l : List Token). comes g.reader.begins l ≡ false) same c in
      let k = keeps_first g G front t r s x (p ∷ mid) (p ∷ []) f (ap (λ (l : List Token). p ∷ l) same) in
      says_part (front ++ t ∷ s) x p (t ∷ s) k m none ∙ ap (λ (l : List A). Got l (t ∷ s)) (got_value (x ∷ []) xs mid (t ∷ r) o)
  keeps_got zero front t r s (is_more x p mid f m c) le xs e = absurd (omega (arith, shorter (front ++ t ∷ r) x (p ∷ mid) f))
  keeps_got (suc n) front t r s (is_more x p mid f m c) le xs e =
      let q = first_got x (L.reader.read mid) xs (t ∷ r) (sym (says_more (front ++ t ∷ r) x p mid f m c) ∙ e) in
      let lt = shorter (front ++ t ∷ r) x (p ∷ mid) f in
      let u = takes n mid (next mid) (omega (arith, lt)) q.0 (t ∷ r) q.1 in
      let k = keeps_first g G front t r s x (p ∷ mid) (p ∷ u.0) f (ap (λ (l : List Token). p ∷ l) u.1) in
      let inner = keeps_got n u.0 t r s (next (u.0 ++ t ∷ r)) (subst (λ (l : List Token). length l ≤ n) u.1 (omega (arith, lt))) q.0 (subst (λ (l : List Token). L.reader.read l ≡ Got q.0 (t ∷ r)) u.1 q.1) in
      let go : comes g.reader.begins (u.0 ++ t ∷ s) ≡ true = sym (comes_same g.reader.begins u.0 t r s) ∙ subst (λ (l : List Token). comes g.reader.begins l ≡ true) u.1 c in
      says_more (front ++ t ∷ s) x p (u.0 ++ t ∷ s) k m go ∙ (ap (with_first x) inner ∙ ap (λ (l : List A). Got l (t ∷ s)) (sym q.2))

  keeps_bad : (n : ℕ) (front : List Token) (t : Token) (r s : List Token) → Next (front ++ t ∷ r) → length (front ++ t ∷ r) ≤ n → L.reader.read (front ++ t ∷ r) ≡ Bad (t ∷ r) → L.reader.read (front ++ t ∷ s) ≡ Bad (t ∷ s)
  keeps_bad n front t r s (is_bad mid f) le e =
      let same : mid ≡ t ∷ r = cc (says_bad (front ++ t ∷ r) mid f, e) in
      says_bad (front ++ t ∷ s) (t ∷ s) (G.keeps_bad front t r s (subst (λ (l : List Token). g.reader.read (front ++ t ∷ r) ≡ Bad l) same f))
  keeps_bad n front t r s (is_deep mid f) le e = absurd (cc (says_deep (front ++ t ∷ r) mid f, e))
  keeps_bad n front t r s (is_last x mid f c) le e = absurd (cc (says_last (front ++ t ∷ r) x mid f c, e))
  keeps_bad n front t r s (is_part x p mid f m c) le e = absurd (cc (says_part (front ++ t ∷ r) x p mid f m c, e))
  keeps_bad zero front t r s (is_more x p mid f m c) le e = absurd (omega (arith, shorter (front ++ t ∷ r) x (p ∷ mid) f))
  keeps_bad (suc n) front t r s (is_more x p mid f m c) le e =
      let q = first_bad x (L.reader.read mid) (t ∷ r) (sym (says_more (front ++ t ∷ r) x p mid f m c) ∙ e) in
      let lt = shorter (front ++ t ∷ r) x (p ∷ mid) f in
      let u = ends n mid (next mid) (omega (arith, lt)) (t ∷ r) q in
      let k = keeps_first g G front t r s x (p ∷ mid) (p ∷ u.0) f (ap (λ (l : List Token). p ∷ l) u.1) in
      let inner = keeps_bad n u.0 t r s (next (u.0 ++ t ∷ r)) (subst (λ (l : List Token). length l ≤ n) u.1 (omega (arith, lt))) (subst (λ (l : List Token). L.reader.read l ≡ Bad (t ∷ r)) u.1 q) in
      let go : comes g.reader.begins (u.0 ++ t ∷ s) ≡ true = sym (comes_same g.reader.begins u.0 t r s) ∙ subst (λ (l : List Token). comes g.reader.begins l ≡ true) u.1 c in
      says_more (front ++ t ∷ s) x p (u.0 ++ t ∷ s) k m go ∙ ap (with_first x) inner

  deep : (n : ℕ) (tokens : List Token) → Next tokens → length tokens ≤ n → (rest : List Token) → L.reader.read tokens ≡ Deep rest → (front : List Token) × (t : Token) × (r : List Token) × (tokens ≡ front ++ t ∷ r) × (rest ≡ t ∷ r) × L.Passes (front ++ t ∷ [])
  deep n tokens (is_bad mid f) le rest e = absurd (cc (says_bad tokens mid f, e))
  deep n tokens (is_deep mid f) le rest e =
      let same : mid ≡ rest = cc (says_deep tokens mid f, e) in
      let p = G.deep tokens rest (subst (λ (l : List Token). g.reader.read tokens ≡ Deep l) same f) in
      (p.0, p.1, p.2, p.3, p.4, ([], [], p.0 ++ p.1 ∷ [], refl, refl, p.5))
  deep n tokens (is_last x mid f c) le rest e = absurd (cc (says_last tokens x mid f c, e))
  deep n tokens (is_part x s mid f m c) le rest e = absurd (cc (says_part tokens x s mid f m c, e))
  deep zero tokens (is_more x s mid f m c) le rest e = absurd (omega (arith, shorter tokens x (s ∷ mid) f))
  deep (suc n) tokens (is_more x s mid f m c) le rest e =
      let p = first_deep x (L.reader.read mid) rest (sym (says_more tokens x s mid f m c) ∙ e) in
      let t = G.takes tokens x (s ∷ mid) f in
      let u = deep n mid (next mid) (omega (arith, shorter tokens x (s ∷ mid) f)) rest p in
      let q = u.5 in (
        t.0 ++ s ∷ u.0,
        u.1,
        u.2,
        cons_append t.0 s mid tokens (u.1 ∷ u.2) t.1 u.0 u.3,
        u.4,
        (x ∷ q.0, t.0 ++ s ∷ q.1, q.2, append_assoc t.0 (s ∷ u.0) (u.1 ∷ []) ∙ (ap (λ (l : List Token). t.0 ++ s ∷ l) q.3 ∙ sym (append_assoc t.0 (s ∷ q.1) q.2)), (t.0, s, q.1, refl, t.2, m, q.4), q.5),
      )

  -- elements, and the beginning of one more
  comes_behind : (xs : List A) (u v rest : List Token) → SpellsFirst parts g.Spells xs u → g.Passes v → comes g.reader.begins (u ++ (v ++ rest)) ≡ true
  comes_behind [] u [] rest s p = absurd (G.not_nothing p)
  comes_behind [] u (t ∷ v) rest s p = rw s (passed_begins g G t v p)
  comes_behind (x ∷ xs) [] v rest s p = absurd (omega (arith, ap length s.3, length-append s.0 (s.1 ∷ s.2)))
  comes_behind (x ∷ xs) (t ∷ u) v rest s p = first_begun x s.0 (s.1 ∷ s.2) t u s.3 s.4

  passes_by : (xs : List A) (u v rest : List Token) → SpellsFirst parts g.Spells xs u → g.Passes v → IsDeep rest (L.reader.read (u ++ (v ++ rest)))
  passes_by [] u v rest s p = let over = G.passes v rest p in rw s (over.0, says_deep (v ++ rest) over.0 over.1, over.2)
  passes_by (x ∷ xs) u v rest (w, t, z, e, s, m, l) p =
      let whole : u ++ (v ++ rest) ≡ w ++ t ∷ (z ++ (v ++ rest)) = ap (λ (l : List Token). l ++ (v ++ rest)) e ∙ append_assoc w (t ∷ z) (v ++ rest) in
      let inner = passes_by xs z v rest l p in
      subst (λ (l : List Token). IsDeep rest (L.reader.read l)) (sym whole)
      (elim (go_on w x t (z ++ (v ++ rest)) rest s m (comes_behind xs z v rest l p) (omega (arith, length-append z (v ++ rest), length-append v rest)) (L.reader.read (z ++ (v ++ rest)), refl)) [
        | inl one ↦ (inner.0, one ∙ ap (with_first x) inner.1, inner.2)
        | inr over ↦ over
      ])

  passes : (front rest : List Token) → L.Passes front → IsDeep rest (L.reader.read (front ++ rest))
  passes front rest (xs, u, v, e, s, p) = subst (λ (l : List Token). IsDeep rest (L.reader.read l)) (sym (ap (λ (l : List Token). l ++ rest) e ∙ append_assoc u v rest)) (passes_by xs u v rest s p)

  passed_by : (xs : List A) (u v more : List Token) (y : A) → SpellsFirst parts g.Spells xs u → g.Spells y (v ++ more) → L.Spells (xs ++ y ∷ []) ((u ++ v) ++ more)
  passed_by [] u v more y s t = rw s (v ++ more, [], sym (append-nil (v ++ more)), t, inl refl)
  passed_by (x ∷ xs) u v more y (w, p, z, e, s, m, l) t =
      let whole : (u ++ v) ++ more ≡ w ++ p ∷ ((z ++ v) ++ more) = ap (λ (l : List Token). (l ++ v) ++ more) e ∙ (ap (λ (l : List Token). l ++ more) (append_assoc w (p ∷ z) v) ∙ append_assoc w (p ∷ (z ++ v)) more) in
      subst (λ (l : List Token). L.Spells (x ∷ (xs ++ y ∷ [])) l) (sym whole) (more_spelled x w p (xs ++ y ∷ []) ((z ++ v) ++ more) s m (passed_by xs z v more y l t))

  passed : (front : List Token) → L.Passes front → Begins L.Spells front
  passed front (xs, u, v, e, s, p) = let b = G.passed v p in (xs ++ b.0 ∷ [], b.1, subst (λ (l : List Token). L.Spells (xs ++ b.0 ∷ []) (l ++ b.1)) (sym e) (passed_by xs u v b.1 b.0 s b.2))

  pub listed_exact : IsExact (listed parts g)
  listed_exact = record {
    takes = λ tokens xs rest e. takes (length tokens) tokens (next tokens) (omega arith) xs rest e;
    again = again;
    begun = begun;
    full = λ xs s. absurd (full xs s);
    ends = λ tokens rest e. ends (length tokens) tokens (next tokens) (omega arith) rest e;
    keeps_got = λ front t r s xs e. keeps_got (length (front ++ t ∷ r)) front t r s (next (front ++ t ∷ r)) (omega arith) xs e;
    keeps_bad = λ front t r s e. keeps_bad (length (front ++ t ∷ r)) front t r s (next (front ++ t ∷ r)) (omega arith) e;
    deep = λ tokens rest e. deep (length tokens) tokens (next tokens) (omega arith) rest e;
    passes = passes;
    passed = passed;
    not_nothing = λ (xs, u, v, e, s, p). G.not_nothing (subst (λ (l : List Token). g.Passes l) (nothing_left u v e).1 p);
    some = (G.some.0 ∷ [], G.some.1, (G.some.1, [], sym (append-nil G.some.1), G.some.2, inl refl));
  }
