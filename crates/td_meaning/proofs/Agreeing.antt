-- Expressions and actions give the same where the values that they name are the same.
use Rattle.std.proofs.Common.{◌≡◌, ℕ, ◌<◌, ◌≤◌, ◌+◌, List, [], ◌∷◌, ◌++◌, length, Bool, true, refl, sym, ap, ◌∙◌, arith, subst, inl, inr, get_or, length-append, ℤ}
use Rattle.std.specs.Prelude.{slice_index, slice_set, ◌||◌}
use Rattle.std.proofs.lemmas.Bool.{eq-eqb, cases_eq, cases_lt}
use Rattle.std.proofs.lemmas.List.{get_or_append_left, get_or_push, get_or_past}
use Rattle.td_core.specs.Term.{Term, number, name, complement, negation, compute, compare, both, either, choice, range_okay, Deed, done, set, keep, fork, answer, give_up}
use Rattle.td_core.specs.Types.{type_of}
use Rattle.td_expr.specs.Value.{truth_of, complemented, negated, computed, compared, both_of, either_of, choice_of, range_okay_of, value_of, natural}
use Rattle.td_meaning.specs.Doing.{Effect, On, Returned, Aborted, after, either_way, natural_of, doing}
use Rattle.td_expr.specs.Naming.{names, deed_names}
use Rattle.td_meaning.specs.Naming.{some_name}
use Rattle.td_meaning.specs.Meaning.{values}
use Rattle.td_num.proofs.Truths.{or_right, or_left}

-- two lists of values agree where the test says so
pub record Agree (test : ℕ → Bool) (env other : List ℕ) : Type 0 where
  pub long : length env ≡ length other
  pub at : (i : ℕ) → test i ≡ true → get_or env i 0 ≡ get_or other i 0

pub weaker : (test test' : ℕ → Bool) (env other : List ℕ) → Agree test env other → ((i : ℕ) → test' i ≡ true → test i ≡ true) → Agree test' env other
weaker test test' env other a h = record { long = a.long; at = λ i t. a.at i (h i t) }

pub on_left : (test more : ℕ → Bool) (env other : List ℕ) → Agree (λ i. test i || more i) env other → Agree test env other
on_left test more env other a = weaker (λ i. test i || more i) test env other a (λ i. or_left (test i) (more i))

pub on_right : (test more : ℕ → Bool) (env other : List ℕ) → Agree (λ i. test i || more i) env other → Agree more env other
on_right test more env other a = weaker (λ i. test i || more i) more env other a (λ i. or_right (test i) (more i))

-- one value more on both sides
pub agree_more : (test : ℕ → Bool) (env other : List ℕ) (v w : ℕ) → Agree test env other → (test (length env) ≡ true → v ≡ w) → Agree test (env ++ v ∷ []) (other ++ w ∷ [])
agree_more test env other v w a here = record {
  long = simp length-append (ap (λ n. n + 1) a.long);
  at = λ i t. elim (cases_lt i (length env)) [
    | inl low ↦
        let low' : i < length other = omega (arith, a.long) in
        get_or_append_left env (v ∷ []) 0 i low ∙ a.at i t ∙ sym (get_or_append_left other (w ∷ []) 0 i low')
    | inr high ↦ elim (cases_eq (length env) i) [
      | inl e ↦ get_or_push env v 0 i e ∙ here (subst (λ n. test n ≡ true) (sym e) t) ∙ sym (get_or_push other w 0 i (sym a.long ∙ e))
      | inr apart ↦
          let past : length (env ++ v ∷ []) ≤ i = omega (arith, length-append env (v ∷ [])) in
          let past' : length (other ++ w ∷ []) ≤ i = omega (arith, length-append other (w ∷ []), a.long) in
          get_or_past (env ++ v ∷ []) i 0 past ∙ sym (get_or_past (other ++ w ∷ []) i 0 past')
    ]
  ];
}

two : (f : ℤ → ℤ → ℤ) (a a' b b' : ℤ) → a ≡ a' → b ≡ b' → f a b ≡ f a' b'
two f a a' b b' g h = ap (λ x. f x b) g ∙ ap (f a') h

three : (f : ℤ → ℤ → ℤ → ℤ) (a a' b b' c c' : ℤ) → a ≡ a' → b ≡ b' → c ≡ c' → f a b c ≡ f a' b' c'
three f a a' b b' c c' g h k = ap (λ x. f x b c) g ∙ two (f a') b b' c c' h k

pub value_same : (e : Term) (env other : List ℕ) → Agree (λ i. names i e) env other → value_of e env ≡ value_of e other
value_same (number n w) env other a = refl
value_same (name i w most) env other a = ap (λ v. ℤ.pos v) (a.at i (eq-eqb i i refl))
value_same (complement x) env other a = ap (complemented (type_of x)) (value_same x env other a)
value_same (negation x) env other a = ap negated (value_same x env other a)
value_same (compute op sp x y) env other a =
    two (computed op (type_of x) (type_of y)) (value_of x env) (value_of x other) (value_of y env) (value_of y other)
    (value_same x env other (on_left (λ i. names i x) (λ i. names i y) env other a)) (value_same y env other (on_right (λ i. names i x) (λ i. names i y) env other a))
value_same (compare r x y) env other a =
    two (compared r) (value_of x env) (value_of x other) (value_of y env) (value_of y other)
    (value_same x env other (on_left (λ i. names i x) (λ i. names i y) env other a)) (value_same y env other (on_right (λ i. names i x) (λ i. names i y) env other a))
value_same (both x y) env other a =
    two (both_of) (value_of x env) (value_of x other) (value_of y env) (value_of y other)
    (value_same x env other (on_left (λ i. names i x) (λ i. names i y) env other a)) (value_same y env other (on_right (λ i. names i x) (λ i. names i y) env other a))
value_same (either x y) env other a =
    two (either_of) (value_of x env) (value_of x other) (value_of y env) (value_of y other)
    (value_same x env other (on_left (λ i. names i x) (λ i. names i y) env other a)) (value_same y env other (on_right (λ i. names i x) (λ i. names i y) env other a))
value_same (choice t x y) env other a =
    let rest = on_right (λ i. names i t) (λ i. names i x || names i y) env other a in
    three choice_of (value_of t env) (value_of t other) (value_of x env) (value_of x other) (value_of y env) (value_of y other)
    (value_same t env other (on_left (λ i. names i t) (λ i. names i x || names i y) env other a))
    (value_same x env other (on_left (λ i. names i x) (λ i. names i y) env other rest)) (value_same y env other (on_right (λ i. names i x) (λ i. names i y) env other rest))
value_same (range_okay t x y) env other a =
    let rest = on_right (λ i. names i t) (λ i. names i x || names i y) env other a in
    three range_okay_of (value_of t env) (value_of t other) (value_of x env) (value_of x other) (value_of y env) (value_of y other)
    (value_same t env other (on_left (λ i. names i t) (λ i. names i x || names i y) env other a))
    (value_same x env other (on_left (λ i. names i x) (λ i. names i y) env other rest)) (value_same y env other (on_right (λ i. names i x) (λ i. names i y) env other rest))

pub values_same : (es : List Term) (env other : List ℕ) → Agree (λ i. some_name i es) env other → values es env ≡ values es other
values_same [] env other a = refl
values_same (e ∷ es) env other a =
    ap (λ v. natural v ∷ values es env) (value_same e env other (on_left (λ i. names i e) (λ i. some_name i es) env other a))
    ∙ ap (λ vs. natural_of e other ∷ vs) (values_same es env other (on_right (λ i. names i e) (λ i. some_name i es) env other a))

after_same : (x : Effect) (go go' : List ℕ → Effect) → ((cells : List ℕ) → go cells ≡ go' cells) → after x go ≡ after x go'
after_same (On cells) go go' h = h cells
after_same (Returned value cells) go go' h = refl
after_same (Aborted cells) go go' h = refl

pub doing_same : (x : Deed) (env other places cells : List ℕ) → Agree (λ i. deed_names i x) env other → doing x env places cells ≡ doing x other places cells
doing_same done env other places cells a = refl
doing_same (set cell value then) env other places cells a =
    doing_same then env other places (slice_set cells (slice_index places cell) (natural_of value env)) (on_right (λ i. names i value) (λ i. deed_names i then) env other a)
    ∙ ap (λ v. doing then other places (slice_set cells (slice_index places cell) (natural v))) (value_same value env other (on_left (λ i. names i value) (λ i. deed_names i then) env other a))
doing_same (keep cell then) env other places cells a =
    let v = slice_index cells (slice_index places cell) in
    doing_same then (env ++ v ∷ []) (other ++ v ∷ []) places cells (agree_more (λ i. deed_names i then) env other v v a (λ _. refl))
doing_same (fork test one other_way then) env other places cells a =
    let a1 = on_right (λ i. names i test) (λ i. deed_names i one || (deed_names i other_way || deed_names i then)) env other a in
    let a2 = on_right (λ i. deed_names i one) (λ i. deed_names i other_way || deed_names i then) env other a1 in
    ap (λ v. after (either_way (truth_of v) (doing one env places cells) (doing other_way env places cells)) (doing then env places))
    (value_same test env other (on_left (λ i. names i test) (λ i. deed_names i one || (deed_names i other_way || deed_names i then)) env other a))
    ∙ ap (λ x. after (either_way (truth_of (value_of test other)) x (doing other_way env places cells)) (doing then env places))
    (doing_same one env other places cells (on_left (λ i. deed_names i one) (λ i. deed_names i other_way || deed_names i then) env other a1))
    ∙ ap (λ x. after (either_way (truth_of (value_of test other)) (doing one other places cells) x) (doing then env places))
    (doing_same other_way env other places cells (on_left (λ i. deed_names i other_way) (λ i. deed_names i then) env other a2))
    ∙ after_same (either_way (truth_of (value_of test other)) (doing one other places cells) (doing other_way other places cells)) (doing then env places) (doing then other places)
    (λ cells. doing_same then env other places cells (on_right (λ i. deed_names i other_way) (λ i. deed_names i then) env other a2))
doing_same (answer e) env other places cells a = ap (λ v. Returned (truth_of v) cells) (value_same e env other a)
doing_same give_up env other places cells a = refl
