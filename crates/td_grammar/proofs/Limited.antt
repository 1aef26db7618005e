-- A limit on tokens of some kinds. Cited by other crates.
use Rattle.std.proofs.Common.{◌≡◌, ℕ, ◌≤◌, ◌<◌, Bool, true, false, cond, nat_lt, ltb, List, [], ◌∷◌, ◌++◌, length, refl, sym, ap, subst, ◌∙◌, append_assoc, ◌⊎◌, inl, inr, arith}
use Rattle.std.proofs.lemmas.Bool.{ltb-true, ltb-false}
use Rattle.std.proofs.lemmas.List.{append-nil, length-append}
use Rattle.td_ast.specs.declared.token.Token.{Token}
use Rattle.td_ast.specs.Kinds.{number_of_kind}
use Rattle.td_grammar.specs.Spelling.{Begins}
use Rattle.td_grammar.specs.Limits.{count}
use Rattle.td_grammar.specs.Sets.{member}
use Rattle.td_grammar.specs.Reading.{Outcome, Got, Bad, Deep, judged}
use Rattle.td_grammar.specs.Grammar.{Grammar, limited}
use Rattle.td_grammar.proofs.Tools.{Stops, got_rest}
use Rattle.td_grammar.proofs.Exact.{IsRead, IsDeep, IsExact}

-- where one list ends with more than another does, it has what is before and some more
pub longer_rest : (w rest f r : List Token) → w ++ rest ≡ f ++ r → length rest < length r → (x : Token) × (y : List Token) × (w ≡ f ++ x ∷ y) × (r ≡ x ∷ (y ++ rest))
longer_rest [] rest [] r e lt = absurd (omega (arith, ap length e))
longer_rest [] rest (z ∷ f) r e lt = absurd (omega (arith, ap length e, length-append f r))
longer_rest (x ∷ w) rest [] r e lt = (x, w, refl, sym e)
longer_rest (x ∷ w) rest (z ∷ f) r e lt =
    let head : x ≡ z = cc in
    let tail : w ++ rest ≡ f ++ r = cc in
    let p = longer_rest w rest f r tail lt in
    (p.0, p.1, cc (p.2, head), p.3)

-- equal lists, equal ends
pub same_end : (w rest f r : List Token) → w ++ rest ≡ f ++ r → length rest ≡ length r → (w ≡ f) × (rest ≡ r)
same_end [] rest [] r e l = (refl, e)
same_end [] rest (z ∷ f) r e l = absurd (omega (arith, ap length e, length-append f r))
same_end (x ∷ w) rest [] r e l = absurd (omega (arith, ap length e, length-append w rest))
same_end (x ∷ w) rest (z ∷ f) r e l =
    let head : x ≡ z = cc in
    let tail : w ++ rest ≡ f ++ r = cc in
    let p = same_end w rest f r tail l in
    (cc (p.0, head), p.1)

module _ {A : Type 0} (g : Grammar A) (G : IsExact g) where
  spelled_read : (b : A) (tokens : List Token) → g.Spells b tokens → IsRead b [] (g.reader.read tokens)
  spelled_read b tokens s = subst (λ (l : List Token). IsRead b [] (g.reader.read l)) (append-nil tokens) (G.again b tokens [] s refl)

  got_none : (b a : A) (o : Outcome A) (x : Token) (r : List Token) → IsRead b [] o → o ≡ Got a (x ∷ r) → ⊥
  got_none b a o x r (inl e) h = cc
  got_none b a o x r (inr over) h = cc (over.1, h)

  bad_none : (b : A) (o : Outcome A) (r : List Token) → IsRead b [] o → o ≡ Bad r → ⊥
  bad_none b o r (inl e) h = cc
  bad_none b o r (inr over) h = cc (over.1, h)

  -- reading takes what begins a spelling, where it gets something
  pub taken_got : (w rest : List Token) (a : A) (r : List Token) → Begins g.Spells w → g.reader.read (w ++ rest) ≡ Got a r → length r ≤ length rest
  taken_got w rest a r (b, more, s) e = by_test (ltb (length rest) (length r)) refl
    where
      by_test : (c : Bool) → ltb (length rest) (length r) ≡ c → length r ≤ length rest
      by_test false f = ltb-false (length rest) (length r) f
      by_test true f =
          let t = G.takes (w ++ rest) a r e in
          let p = longer_rest w rest t.0 r t.1 (ltb-true (length rest) (length r) f) in
          let x = p.0 in
          let y = p.1 in
          let was : g.reader.read (t.0 ++ x ∷ (y ++ rest)) ≡ Got a (x ∷ (y ++ rest)) = subst (λ (l : List Token). g.reader.read l ≡ Got a (x ∷ (y ++ rest))) (t.1 ∙ ap (λ (l : List Token). t.0 ++ l) p.3) (subst (λ (l : List Token). g.reader.read (w ++ rest) ≡ Got a l) p.3 e) in
          let same : w ++ more ≡ t.0 ++ x ∷ (y ++ more) = ap (λ (l : List Token). l ++ more) p.2 ∙ append_assoc t.0 (x ∷ y) more in
          absurd (got_none b a (g.reader.read (t.0 ++ x ∷ (y ++ more))) x (y ++ more) (subst (λ (l : List Token). IsRead b [] (g.reader.read l)) same (spelled_read b (w ++ more) s)) (G.keeps_got t.0 x (y ++ rest) (y ++ more) a was))

  pub taken_bad : (w rest : List Token) (r : List Token) → Begins g.Spells w → g.reader.read (w ++ rest) ≡ Bad r → length r ≤ length rest
  taken_bad w rest r (b, more, s) e = by_test (ltb (length rest) (length r)) refl
    where
      by_test : (c : Bool) → ltb (length rest) (length r) ≡ c → length r ≤ length rest
      by_test false f = ltb-false (length rest) (length r) f
      by_test true f =
          let t = G.ends (w ++ rest) r e in
          let p = longer_rest w rest t.0 r t.1 (ltb-true (length rest) (length r) f) in
          let x = p.0 in
          let y = p.1 in
          let was : g.reader.read (t.0 ++ x ∷ (y ++ rest)) ≡ Bad (x ∷ (y ++ rest)) = subst (λ (l : List Token). g.reader.read l ≡ Bad (x ∷ (y ++ rest))) (t.1 ∙ ap (λ (l : List Token). t.0 ++ l) p.3) (subst (λ (l : List Token). g.reader.read (w ++ rest) ≡ Bad l) p.3 e) in
          let same : w ++ more ≡ t.0 ++ x ∷ (y ++ more) = ap (λ (l : List Token). l ++ more) p.2 ∙ append_assoc t.0 (x ∷ y) more in
          absurd (bad_none b (g.reader.read (t.0 ++ x ∷ (y ++ more))) (x ∷ (y ++ more)) (subst (λ (l : List Token). IsRead b [] (g.reader.read l)) same (spelled_read b (w ++ more) s)) (G.keeps_bad t.0 x (y ++ rest) (y ++ more) was))

-- ---- what judging says

judged_got : {A : Type 0} (over : List Token) (o : Outcome A) (a : A) (rest : List Token) → judged over o ≡ Got a rest → (o ≡ Got a rest) × (length over ≤ length rest)
judged_got over (Got b r) a rest e = by_test (nat_lt (length r) (length over)) refl e
  where
    by_test : (c : Bool) → nat_lt (length r) (length over) ≡ c → cond c (Deep over) (Got b r) ≡ Got a rest → (Got b r ≡ Got a rest) × (length over ≤ length rest)
    by_test true f e = absurd cc
    by_test false f e = (e, subst (λ (l : List Token). length over ≤ length l) (got_rest b a r rest e) (ltb-false (length r) (length over) f))
judged_got {A} over (Bad r) a rest e = by_test (nat_lt (length r) (length over)) e
  where
    by_test : (c : Bool) → cond c (Deep over) (Bad r) ≡ Got a rest → (Bad r ≡ Got a rest) × (length over ≤ length rest)
    by_test true e = absurd cc
    by_test false e = absurd cc
judged_got over (Deep r) a rest e = absurd cc

judged_bad : {A : Type 0} (over : List Token) (o : Outcome A) (rest : List Token) → judged over o ≡ Bad rest → (o ≡ Bad rest) × (length over ≤ length rest)
judged_bad {A} over (Got b r) rest e = by_test (nat_lt (length r) (length over)) e
  where
    by_test : (c : Bool) → ◌≡◌ {A = Outcome A} (cond c (Deep over) (Got b r)) (Bad rest) → ◌≡◌ {A = Outcome A} (Got b r) (Bad rest) × (length over ≤ length rest)
    by_test true e = absurd cc
    by_test false e = absurd cc
judged_bad {A} over (Bad r) rest e = by_test (nat_lt (length r) (length over)) refl e
  where
    same_rest : (l m : List Token) → ◌≡◌ {A = Outcome A} (Bad l) (Bad m) → l ≡ m
    same_rest l m e = cc

    by_test : (c : Bool) → nat_lt (length r) (length over) ≡ c → ◌≡◌ {A = Outcome A} (cond c (Deep over) (Bad r)) (Bad rest) → ◌≡◌ {A = Outcome A} (Bad r) (Bad rest) × (length over ≤ length rest)
    by_test true f e = absurd cc
    by_test false f e = (e, subst (λ (l : List Token). length over ≤ length l) (same_rest r rest e) (ltb-false (length r) (length over) f))
judged_bad over (Deep r) rest e = absurd cc

data WhyDeep {A : Type 0} (over : List Token) (o : Outcome A) : Type 0 where
  from_got : (a : A) (r : List Token) → o ≡ Got a r → length r < length over → WhyDeep over o
  from_bad : (r : List Token) → o ≡ Bad r → length r < length over → WhyDeep over o
  from_deep : (r : List Token) → o ≡ Deep r → WhyDeep over o

judged_deep : {A : Type 0} (over : List Token) (o : Outcome A) (rest : List Token) → judged over o ≡ Deep rest → (over ≡ rest) × WhyDeep over o
judged_deep {A} over (Got b r) rest e = by_test (nat_lt (length r) (length over)) refl e
  where
    by_test : (c : Bool) → nat_lt (length r) (length over) ≡ c → cond c (Deep over) (Got b r) ≡ Deep rest → (over ≡ rest) × WhyDeep over (Got b r)
    by_test true f e = (cc, from_got b r refl (ltb-true (length r) (length over) f))
    by_test false f e = absurd cc
judged_deep {A} over (Bad r) rest e = by_test (nat_lt (length r) (length over)) refl e
  where
    by_test : (c : Bool) → nat_lt (length r) (length over) ≡ c → ◌≡◌ {A = Outcome A} (cond c (Deep over) (Bad r)) (Deep rest) → (over ≡ rest) × WhyDeep {A = A} over (Bad r)
    by_test true f e = (cc, from_bad r refl (ltb-true (length r) (length over) f))
    by_test false f e = absurd cc
judged_deep over (Deep r) rest e = (cc, from_deep r refl)

pub judge_shorter : {A : Type 0} (over : List Token) (o : Outcome A) (r : List Token) → ((a : A) × (o ≡ Got a r)) ⊎ (o ≡ Bad r) → length r < length over → judged over o ≡ Deep over
judge_shorter over o r (inl got) lt = let e = got.1 in let test : nat_lt (length r) (length over) ≡ true = lt_true (length r) (length over) lt in rw (e, test) refl
  where
    lt_true : (m n : ℕ) → m < n → ltb m n ≡ true
    lt_true m n lt = grind (arith, ltb-false m n)
judge_shorter over o r (inr e) lt = let test : nat_lt (length r) (length over) ≡ true = lt_true (length r) (length over) lt in rw (e, test) refl
  where
    lt_true : (m n : ℕ) → m < n → ltb m n ≡ true
    lt_true m n lt = grind (arith, ltb-false m n)

module _ {A : Type 0} (kinds : List ℕ) (n : ℕ) (scan : List Token → List Token) (g : Grammar A) (G : IsExact g)
    -- scan finds one before which n stand
    (found : (tokens : List Token) (t : Token) (r : List Token) → scan tokens ≡ t ∷ r → (front : List Token) × (tokens ≡ front ++ t ∷ r) × (member kinds (number_of_kind t.kind) ≡ true) × (count kinds front ≡ n))
    -- and finds it where it is in what begins a spelling
    (finds : (front : List Token) (t : Token) (rest : List Token) → member kinds (number_of_kind t.kind) ≡ true → count kinds front ≡ n → Begins g.Spells (front ++ t ∷ []) → scan (front ++ t ∷ rest) ≡ t ∷ rest)
    -- what passes a limit within has one that passes this limit, or is one
    (inner : (tokens : List Token) → g.Passes tokens → (front : List Token) × (t : Token) × (more : List Token) × (tokens ≡ front ++ t ∷ more) × (member kinds (number_of_kind t.kind) ≡ true) × (count kinds front ≡ n)) where
  abbrev L : Grammar A
  L = limited kinds n scan g

  limited_passes : (front rest : List Token) → L.Passes front → IsDeep rest (L.reader.read (front ++ rest))
  limited_passes w rest (front, t, e, m, c, b) =
      let whole : w ++ rest ≡ front ++ t ∷ rest = ap (λ (l : List Token). l ++ rest) e ∙ append_assoc front (t ∷ []) rest in
      let over : scan (w ++ rest) ≡ t ∷ rest = ap scan whole ∙ finds front t rest m c (subst (λ (l : List Token). Begins g.Spells l) e b) in
      (t ∷ rest, subst (λ (l : List Token). judged l (g.reader.read (w ++ rest)) ≡ Deep (t ∷ rest)) (sym over) (by_read (g.reader.read (w ++ rest)) refl), omega arith)
    where
      by_read : (o : Outcome A) → g.reader.read (w ++ rest) ≡ o → judged (t ∷ rest) (g.reader.read (w ++ rest)) ≡ Deep (t ∷ rest)
      by_read (Got a r) f = judge_shorter (t ∷ rest) (g.reader.read (w ++ rest)) r (inl (a, f)) (omega (arith, taken_got g G w rest a r b f))
      by_read (Bad r) f = judge_shorter (t ∷ rest) (g.reader.read (w ++ rest)) r (inr f) (omega (arith, taken_bad g G w rest r b f))
      by_read (Deep r) f = rw f refl

  -- the token that passes, in what was taken
  passes_in : (tokens f r : List Token) (t : Token) (rest : List Token) → tokens ≡ f ++ r → Begins g.Spells f → scan tokens ≡ t ∷ rest → length r < length (t ∷ rest)
      → (front : List Token) × (s : Token) × (after : List Token) × (tokens ≡ front ++ s ∷ after) × (t ∷ rest ≡ s ∷ after) × L.Passes (front ++ s ∷ [])
  passes_in tokens f r t rest e b over lt =
      let p = found tokens t rest over in
      let q = longer_rest f r p.0 (t ∷ rest) (sym e ∙ p.1) lt in
      let same : t ≡ q.0 = cc (q.3) in
      let sooner : f ≡ (p.0 ++ t ∷ []) ++ q.1 = q.2 ∙ (ap (λ (x : Token). p.0 ++ x ∷ q.1) (sym same) ∙ sym (append_assoc p.0 (t ∷ []) q.1)) in
      (p.0, t, rest, p.1, refl, (p.0, t, refl, p.2, p.3, begins_less (p.0 ++ t ∷ []) q.1 (subst (λ (l : List Token). Begins g.Spells l) sooner b)))
    where
      begins_less : (u v : List Token) → Begins g.Spells (u ++ v) → Begins g.Spells u
      begins_less u v (a, more, s) = (a, v ++ more, subst (λ (l : List Token). g.Spells a l) (append_assoc u v more) s)

  -- what passes a limit within
  passes_inner : (tokens f : List Token) (t' : Token) (r : List Token) → tokens ≡ f ++ t' ∷ r → g.Passes (f ++ t' ∷ [])
      → (front : List Token) × (s : Token) × (after : List Token) × (tokens ≡ front ++ s ∷ after) × (scan tokens ≡ s ∷ after) × (length (t' ∷ r) ≤ length (s ∷ after)) × L.Passes (front ++ s ∷ [])
  passes_inner tokens f t' r e p =
      let q = inner (f ++ t' ∷ []) p in
      let b = G.passed (f ++ t' ∷ []) p in
      let whole : tokens ≡ q.0 ++ q.1 ∷ (q.2 ++ r) = e ∙ (sym (append_assoc f (t' ∷ []) r) ∙ (ap (λ (l : List Token). l ++ r) q.3 ∙ append_assoc q.0 (q.1 ∷ q.2) r)) in
      let here : Begins g.Spells (q.0 ++ q.1 ∷ []) = begins_less (q.0 ++ q.1 ∷ []) q.2 (subst (λ (l : List Token). Begins g.Spells l) (q.3 ∙ sym (append_assoc q.0 (q.1 ∷ []) q.2)) b) in
      (q.0, q.1, q.2 ++ r, whole, ap scan whole ∙ finds q.0 q.1 (q.2 ++ r) q.4 q.5 here, omega (arith, length-append q.2 r), (q.0, q.1, refl, q.4, q.5, here))
    where
      begins_less : (u v : List Token) → Begins g.Spells (u ++ v) → Begins g.Spells u
      begins_less u v (a, more, s) = (a, v ++ more, subst (λ (l : List Token). g.Spells a l) (append_assoc u v more) s)

  limited_deep : (tokens rest : List Token) → L.reader.read tokens ≡ Deep rest → (front : List Token) × (t : Token) × (r : List Token) × (tokens ≡ front ++ t ∷ r) × (rest ≡ t ∷ r) × L.Passes (front ++ t ∷ [])
  limited_deep tokens rest e = let p = judged_deep (scan tokens) (g.reader.read tokens) rest e in by_why rest p.0 p.1
    where
      by_why : (rest : List Token) → scan tokens ≡ rest → WhyDeep (scan tokens) (g.reader.read tokens) → (front : List Token) × (t : Token) × (r : List Token) × (tokens ≡ front ++ t ∷ r) × (rest ≡ t ∷ r) × L.Passes (front ++ t ∷ [])
      by_why [] over (from_got a r f lt) = absurd (omega (arith, ap length over))
      by_why (t ∷ rest) over (from_got a r f lt) = let u = G.takes tokens a r f in passes_in tokens u.0 r t rest u.1 (a, [], subst (λ (l : List Token). g.Spells a l) (sym (append-nil u.0)) u.2) over (subst (λ (l : List Token). length r < length l) over lt)
      by_why [] over (from_bad r f lt) = absurd (omega (arith, ap length over))
      by_why (t ∷ rest) over (from_bad r f lt) = let u = G.ends tokens r f in passes_in tokens u.0 r t rest u.1 u.2 over (subst (λ (l : List Token). length r < length l) over lt)
      by_why rest over (from_deep r f) =
          let d = G.deep tokens r f in
          let p = passes_inner tokens d.0 d.1 d.2 d.3 d.5 in
          (p.0, p.1, p.2, p.3, sym over ∙ p.4, p.6)

  limited_again : (a : A) (front rest : List Token) → g.Spells a front → Stops g.reader.goes_on rest → IsRead a rest (L.reader.read (front ++ rest))
  limited_again a front rest s stops =
      elim (G.again a front rest s stops) [
        | inl got ↦ by_test (nat_lt (length rest) (length (scan (front ++ rest)))) refl got
        | inr over ↦
            let d = G.deep (front ++ rest) over.0 over.1 in
            let p = passes_inner (front ++ rest) d.0 d.1 d.2 d.3 d.5 in
            let one = over.1 in
            let there = p.4 in
            inr (p.1 ∷ p.2, rw (one, there) refl, omega (arith, over.2, ap length d.4, p.5))
      ]
    where
      by_test : (c : Bool) → nat_lt (length rest) (length (scan (front ++ rest))) ≡ c → g.reader.read (front ++ rest) ≡ Got a rest → IsRead a rest (L.reader.read (front ++ rest))
      by_test true f got = inr (scan (front ++ rest), rw (got, f) refl, ltb-true (length rest) (length (scan (front ++ rest))) f)
      by_test false f got = inl (rw (got, f) refl)

  -- reading the same up to the token finds no more that passes
  no_sooner : (front : List Token) (t : Token) (r s : List Token) (over : List Token) → ((rest : List Token) → L.reader.read (front ++ t ∷ r) ≡ Deep rest → ⊥) → L.reader.read (front ++ t ∷ s) ≡ Deep over → length over ≤ length (t ∷ s)
  no_sooner front t r s over not e = by_test (ltb (length (t ∷ s)) (length over)) refl
    where
      by_test : (c : Bool) → ltb (length (t ∷ s)) (length over) ≡ c → length over ≤ length (t ∷ s)
      by_test false f = ltb-false (length (t ∷ s)) (length over) f
      by_test true f =
          let d = limited_deep (front ++ t ∷ s) over e in
          let p = longer_rest front (t ∷ s) d.0 (d.1 ∷ d.2) d.3 (subst (λ (l : List Token). length (t ∷ s) < length l) d.4 (ltb-true (length (t ∷ s)) (length over) f)) in
          let same : d.1 ≡ p.0 = cc (p.3) in
          let whole : front ++ t ∷ r ≡ (d.0 ++ d.1 ∷ []) ++ (p.1 ++ t ∷ r) = ap (λ (l : List Token). l ++ t ∷ r) (p.2 ∙ ap (λ (x : Token). d.0 ++ x ∷ p.1) (sym same)) ∙ (append_assoc d.0 (d.1 ∷ p.1) (t ∷ r) ∙ sym (append_assoc d.0 (d.1 ∷ []) (p.1 ++ t ∷ r))) in
          let deep = limited_passes (d.0 ++ d.1 ∷ []) (p.1 ++ t ∷ r) d.5 in
          absurd (not deep.0 (ap (λ (l : List Token). L.reader.read l) whole ∙ deep.1))

  keeps_by : (o : Outcome A) (over : List Token) (rest : List Token) → ((a : A) × (o ≡ Got a rest)) ⊎ (o ≡ Bad rest) → (judged over o ≡ Deep over → length over ≤ length rest) → judged over o ≡ o
  keeps_by o over rest (inl got) not = let e = got.1 in by_test (nat_lt (length rest) (length over)) refl
    where
      by_test : (c : Bool) → nat_lt (length rest) (length over) ≡ c → judged over o ≡ o
      by_test true f = absurd (omega (arith, not (judge_shorter over o rest (inl got) (ltb-true (length rest) (length over) f)), ltb-true (length rest) (length over) f))
      by_test false f = rw (got.1, f) refl
  keeps_by o over rest (inr e) not = by_test (nat_lt (length rest) (length over)) refl
    where
      by_test : (c : Bool) → nat_lt (length rest) (length over) ≡ c → judged over o ≡ o
      by_test true f = absurd (omega (arith, not (judge_shorter over o rest (inr e) (ltb-true (length rest) (length over) f)), ltb-true (length rest) (length over) f))
      by_test false f = rw (e, f) refl

  limited_keeps_got : (front : List Token) (t : Token) (r s : List Token) (a : A) → L.reader.read (front ++ t ∷ r) ≡ Got a (t ∷ r) → L.reader.read (front ++ t ∷ s) ≡ Got a (t ∷ s)
  limited_keeps_got front t r s a e =
      let p = judged_got (scan (front ++ t ∷ r)) (g.reader.read (front ++ t ∷ r)) a (t ∷ r) e in
      let q = G.keeps_got front t r s a p.0 in
      keeps_by (g.reader.read (front ++ t ∷ s)) (scan (front ++ t ∷ s)) (t ∷ s) (inl (a, q)) (λ h. no_sooner front t r s (scan (front ++ t ∷ s)) (λ rest h'. cc (e, h')) h) ∙ q

  limited_keeps_bad : (front : List Token) (t : Token) (r s : List Token) → L.reader.read (front ++ t ∷ r) ≡ Bad (t ∷ r) → L.reader.read (front ++ t ∷ s) ≡ Bad (t ∷ s)
  limited_keeps_bad front t r s e =
      let p = judged_bad (scan (front ++ t ∷ r)) (g.reader.read (front ++ t ∷ r)) (t ∷ r) e in
      let q = G.keeps_bad front t r s p.0 in
      keeps_by (g.reader.read (front ++ t ∷ s)) (scan (front ++ t ∷ s)) (t ∷ s) (inr q) (λ h. no_sooner front t r s (scan (front ++ t ∷ s)) (λ rest h'. cc (e, h')) h) ∙ q

  limited_not_nothing : L.Passes [] → ⊥
  limited_not_nothing (front, t, e, m, c, b) = absurd (omega (arith, ap length e, length-append front (t ∷ [])))

  pub limited_exact : IsExact L
  limited_exact = record {
    takes = λ tokens a rest e. G.takes tokens a rest (judged_got (scan tokens) (g.reader.read tokens) a rest e).0;
    again = limited_again;
    begun = G.begun;
    full = G.full;
    ends = λ tokens rest e. G.ends tokens rest (judged_bad (scan tokens) (g.reader.read tokens) rest e).0;
    keeps_got = limited_keeps_got;
    keeps_bad = limited_keeps_bad;
    deep = limited_deep;
    passes = limited_passes;
    passed = λ front p. p.5;
    not_nothing = limited_not_nothing;
    some = G.some;
  }
