-- The code of an action does what the action does.
use Rattle.std.proofs.Common.{◌≡◌, ℕ, zero, suc, ◌+◌, ◌<◌, ◌≤◌, Bool, true, false, cond, ◌||◌, List, [], ◌∷◌, ◌++◌, length, refl, sym, ap, ◌∙◌, subst, arith, nat_eq, slice_index, slice_set, pos, inl, inr, ◌⊎◌}
use Rattle.std.proofs.lemmas.List.{get_or-set_same, get_or-set_other, get_or_append_left, get_or_push, length-append}
use Rattle.std.proofs.lemmas.Bool.{or_cases, eqb-true, cases_lt}
use Rattle.std.proofs.Math.ListN.{length-set}
use Rattle.td_core.specs.Term.{Term, number, name, complement, negation, compute, compare, both, either, choice, range_okay, Deed, done, set, keep, fork, answer, give_up}
use Rattle.td_lower_means.specs.Imports.{Action as ActionFails, Relation, Equal, NotEqual, Less, LessEqual, Greater, GreaterEqual, Binary as Operator, Add, Subtract, Multiply, Divide, Remainder, BitAnd, BitOr, BitXor, ShiftLeft as ShiftLeftOp, ShiftRight, Parts}
use Rattle.td_expr.specs.Sound.{Sound, Placed}
use Rattle.td_expr.specs.Value.{truth_of}
use Rattle.td_expr.specs.Naming.{names, deed_names}
use Rattle.td_meaning.specs.Doing.{Effect, On, Returned, Aborted, doing, after as after_effect, either_way, natural_of, is_true}
use Rattle.td_meaning.specs.Throughout.{OnDeed, OnEffect}
use Rattle.td_ir.specs.declared.instructions.Instr.TheVariants as i
use Rattle.td_lower_blocks.specs.Block.{Block, Done, Then, Stop, Leave, Guard}
use Rattle.td_lower_blocks.specs.Constructs.{Expr, value, acts}
use Rattle.td_lower_blocks.specs.Placed.{IsExpr, DeedPlaced}
use Rattle.td_ir.specs.State.{State, reg}
use Rattle.td_lower_means.proofs.BlockRun.{Passage, failed, Calling, ran}
use Rattle.td_lower_blocks.specs.Lowered.{expr_of, action_of, computed_of, compared_of}
use Rattle.td_lower_means.proofs.Puts.{Low, Puts, puts}
use Rattle.td_lower_means.proofs.Valued.{value_is, nonzero, number_of_sound}
use Rattle.td_num.proofs.Truths.{or_right, or_left}

-- names are below the number of values in scope
pub named_low : (e : Term) (L j : ℕ) → Placed L e → names j e ≡ true → j < L
named_low (number n w) L j p h = absurd (no h)
  where
    no : false ≡ true → ⊥
    no h = grind (arith, h)
named_low (name i w most) L j p h = let e = eqb-true j i h in omega (arith, p, e)
named_low (complement a) L j p h = named_low a L j p h
named_low (negation a) L j p h = named_low a L j p h
named_low (compute op s a b) L j p h = elim (or_cases (names j a) (names j b) h) [ inl x ↦ named_low a L j p.0 x | inr x ↦ named_low b L j p.1 x ]
named_low (compare k a b) L j p h = elim (or_cases (names j a) (names j b) h) [ inl x ↦ named_low a L j p.0 x | inr x ↦ named_low b L j p.1 x ]
named_low (both a b) L j p h = elim (or_cases (names j a) (names j b) h) [ inl x ↦ named_low a L j p.0 x | inr x ↦ named_low b L j p.1 x ]
named_low (either a b) L j p h = elim (or_cases (names j a) (names j b) h) [ inl x ↦ named_low a L j p.0 x | inr x ↦ named_low b L j p.1 x ]
named_low (choice c a b) L j p h = elim (or_cases (names j c) (names j a || names j b) h) [
  | inl x ↦ named_low c L j p.0 x
  | inr x ↦ elim (or_cases (names j a) (names j b) x) [ inl y ↦ named_low a L j p.1.0 y | inr y ↦ named_low b L j p.1.1 y ]
]
named_low (range_okay c a b) L j p h = elim (or_cases (names j c) (names j a || names j b) h) [
  | inl x ↦ named_low c L j p.0 x
  | inr x ↦ elim (or_cases (names j a) (names j b) x) [ inl y ↦ named_low a L j p.1.0 y | inr y ↦ named_low b L j p.1.1 y ]
]

low_op : (op : Operator) (mask t : ℕ) (a b : Expr) → Low t a → Low t b → Low t (computed_of op mask a b)
low_op Add mask t a b p q = (p, q)
low_op Subtract mask t a b p q = (p, q)
low_op Multiply mask t a b p q = (p, q)
low_op Divide mask t a b p q = (p, q)
low_op Remainder mask t a b p q = (p, q)
low_op BitAnd mask t a b p q = (p, q)
low_op BitOr mask t a b p q = (p, q)
low_op BitXor mask t a b p q = (p, q)
low_op ShiftLeftOp mask t a b p q = (p, q)
low_op ShiftRight mask t a b p q = (p, q)

low_relation : (k : Relation) (t : ℕ) (a b : Expr) → Low t a → Low t b → Low t (compared_of k a b)
low_relation Equal t a b p q = (p, q)
low_relation NotEqual t a b p q = (p, q)
low_relation Less t a b p q = (p, q)
low_relation LessEqual t a b p q = (p, q)
low_relation Greater t a b p q = (q, p)
low_relation GreaterEqual t a b p q = (q, p)

pub placed_low : (e : Term) (L t : ℕ) → L ≤ t → Placed L e → Low t (expr_of e)
placed_low (number n w) L t h p = tt
placed_low (name i w most) L t h p = omega (arith, h, p)
placed_low (complement a) L t h p = placed_low a L t h p
placed_low (negation a) L t h p = placed_low a L t h p
placed_low (compute op s a b) L t h p = low_op op _ t (expr_of a) (expr_of b) (placed_low a L t h p.0) (placed_low b L t h p.1)
placed_low (compare k a b) L t h p = low_relation k t (expr_of a) (expr_of b) (placed_low a L t h p.0) (placed_low b L t h p.1)
placed_low (both a b) L t h p = (placed_low a L t h p.0, placed_low b L t h p.1)
placed_low (either a b) L t h p = (placed_low a L t h p.0, placed_low b L t h p.1)
placed_low (choice c a b) L t h p = (placed_low c L t h p.0, (placed_low a L t h p.1.0, placed_low b L t h p.1.1))
placed_low (range_okay c a b) L t h p = (placed_low c L t h p.0, (placed_low a L t h p.1.0, placed_low b L t h p.1.1))

-- registers agree with the values in scope that something names
abbrev pub Follows : (ℕ → Bool) → List ℕ → List ℕ → Type 0
Follows test env r = (j : ℕ) → j < length env → test j ≡ true → slice_index r j ≡ slice_index env j

-- what a piece of code keeps: values in scope, and registers from D to t
pub record Kept (L D t : ℕ) (r q : List ℕ) : Type 0 where
  pub count : length q ≡ length r
  pub low : (j : ℕ) → j < L → slice_index q j ≡ slice_index r j
  pub high : (j : ℕ) → D ≤ j → j < t → slice_index q j ≡ slice_index r j

pub kept_all : (L D t : ℕ) (r : List ℕ) → Kept L D t r r
kept_all L D t r = record { count = refl; low = λ j h. refl; high = λ j h k. refl }

pub kept_then : (L M D t u : ℕ) (r q z : List ℕ) → L ≤ M → t ≤ u → Kept L D t r q → Kept M D u q z → Kept L D t r z
kept_then L M D t u r q z h k a b = record {
  count = b.count ∙ a.count;
  low = λ j l. b.low j (omega (arith, h, l)) ∙ a.low j l;
  high = λ j l m. b.high j l (omega (arith, k, m)) ∙ a.high j l m;
}

pub follows_kept : (test : ℕ → Bool) (env r q : List ℕ) → ((j : ℕ) → j < length env → slice_index q j ≡ slice_index r j) → Follows test env r → Follows test env q
follows_kept test env r q k f j l h = k j l ∙ f j l h

pub follows_some : (test more : ℕ → Bool) (env r : List ℕ) → ((j : ℕ) → test j ≡ true → more j ≡ true) → Follows more env r → Follows test env r
follows_some test more env r k f j l h = f j l (k j h)

pub pushed_length : (env : List ℕ) (v : ℕ) → length (env ++ v ∷ []) ≡ suc (length env)
pushed_length env v = length-append env (v ∷ []) ∙ omega arith

-- with one more value in scope, which stands in its register
pub follows_push : (test : ℕ → Bool) (env r : List ℕ) (v : ℕ) → Follows test env r → (test (length env) ≡ true → slice_index r (length env) ≡ v) → Follows test (env ++ v ∷ []) r
follows_push test env r v f here j l h = elim (split j (length env) (omega (arith, l, pushed_length env v))) [
  | inl less ↦ f j less h ∙ sym (get_or_append_left env (v ∷ []) 0 j less)
  | inr e ↦ ap (slice_index r) e ∙ here (subst (λ x. test x ≡ true) e h) ∙ sym (ap (slice_index (env ++ v ∷ [])) e ∙ get_or_push env v 0 (length env) refl)
]
  where
    split : (j n : ℕ) → j < suc n → (j < n) ⊎ (j ≡ n)
    split j n h = elim (cases_lt j n) [ inl x ↦ inl x | inr x ↦ inr (omega (arith, h, x)) ]

-- Actions

abbrev pub act_exit : Effect → (List ℕ → Passage) → (List ℕ → Passage) → (List ℕ → Passage) → Passage
act_exit (On cells) next over bad = next cells
act_exit (Returned true cells) next over bad = over cells
act_exit (Returned false cells) next over bad = bad cells
act_exit (Aborted cells) next over bad = bad cells

act_after : (e : Effect) (f : List ℕ → Effect) (next over bad : List ℕ → Passage) → act_exit (after_effect e f) next over bad ≡ act_exit e (λ c. act_exit (f c) next over bad) over bad
act_after (On cells) f next over bad = refl
act_after (Returned true cells) f next over bad = refl
act_after (Returned false cells) f next over bad = refl
act_after (Aborted cells) f next over bad = refl

abbrev pub not_of : Bool → Bool
not_of true = false
not_of false = true

-- the register of a sound expression tells its truth
pub truth_at : (e : Term) (env : List ℕ) → Sound e env → (b : Bool) → is_true e env ≡ b → nat_eq (natural_of e env) 0 ≡ not_of b
truth_at e env s b h = by (natural_of e env) b (sym (ap truth_of (number_of_sound e env s).is) ∙ h)
  where
    by : (n : ℕ) (b : Bool) → truth_of (pos n) ≡ b → nat_eq n 0 ≡ not_of b
    by zero b h = ap not_of h
    by (suc n) b h = nonzero n ∙ ap not_of h

module _ (T : Parts) (self : ℕ) (message places : List ℕ) (calls : Calling) where
  abbrev goes : Block → (State → Passage) → (State → Passage) → State → Passage
  goes = ran T self message places calls

  abbrev pub Put : (t v : ℕ) (s : State) (code : Block → Block) → Type 0
  Put = Puts T self message places calls

  -- an expression, with the values that it names in their registers
  pub put_value : (e : Term) (env : List ℕ) (L t : ℕ) (s : State) → length env ≡ L → L ≤ t → IsExpr (length s.regs) L t e → Sound e env → Follows (λ j. names j e) env s.regs
      → Put t (natural_of e env) s (value t (expr_of e))
  put_value e env L t s le lt x sound f =
      let p = puts T self message places calls (expr_of e) t s x.1.1 (placed_low e L t lt x.0) in
      record {
        regs = p.regs;
        count = p.count;
        low = p.low;
        at = p.at ∙ value_is e env s.regs x.1.0 sound (λ j h. f j (omega (arith, le, named_low e L j x.0 h)) h);
        by = p.by;
      }

  pub kept_put : (L D t v : ℕ) (s : State) (code : Block → Block) (p : Put t v s code) → L ≤ t → Kept L D t s.regs p.regs
  kept_put L D t v s code p h = record { count = p.count; low = λ j l. p.low j (omega (arith, h, l)); high = λ j l m. p.low j m }

  module _ (site : ℕ) (D : ℕ) where
    abbrev bad_at : State → List ℕ → Passage
    bad_at s c = failed T ActionFails site s.start (record s { cells = c })

    pub acts_run : (d : Deed) (t L : ℕ) (env : List ℕ) (s : State) (k : Block) (leave go : State → Passage) (next over : List ℕ → Passage)
        → length env ≡ L → L ≤ D → D ≤ t → DeedPlaced (length s.regs) D L t d → Follows (λ j. deed_names j d) env s.regs → OnDeed Sound d env places s.cells
        → ((q c : List ℕ) → Kept L D t s.regs q → doing d env places s.cells ≡ On c → goes k leave go (record s { regs = q; cells = c }) ≡ next c)
        → ((q c : List ℕ) → Kept L D t s.regs q → doing d env places s.cells ≡ Returned true c → leave (record s { regs = q; cells = c }) ≡ over c)
        → goes (acts t site (action_of L d) k) leave go s ≡ act_exit (doing d env places s.cells) next over (bad_at s)
    acts_run done t L env s k leave go next over le ld dt x f on h o = h s.regs s.cells (kept_all L D t s.regs) refl
    acts_run (set cell e then) t L env s k leave go next over le ld dt x f on h o =
        let p = put_value e env L t s le (omega (arith, ld, dt)) x.0 on.0 (follows_some (λ j. names j e) (λ j. deed_names j (set cell e then)) env s.regs (λ j m. or_left (names j e) (deed_names j then) m) f) in
        let kp = kept_put L D t (natural_of e env) s (value t (expr_of e)) p (omega (arith, ld, dt)) in
        let at = slice_index places cell in
        let s2 : State = record s { regs = p.regs; cells = slice_set s.cells at (natural_of e env) } in
        let rest = acts t site (action_of L then) k in
        p.by (Then (i.Set t cell) rest) leave go
        ∙ ap (λ v. goes rest leave go (record s { regs = p.regs; cells = slice_set s.cells at v })) p.at
        ∙ acts_run then t L env s2 k leave go next over le ld dt (subst (λ n. DeedPlaced n D L t then) (sym p.count) x.1)
        (follows_kept (λ j. deed_names j then) env s.regs p.regs (λ j l. p.low j (omega (arith, l, le, ld, dt))) (follows_some (λ j. deed_names j then) (λ j. deed_names j (set cell e then)) env s.regs (λ j m. or_right (names j e) (deed_names j then) m) f))
        on.1 (λ q c m z. h q c (kept_then L L D t t s.regs p.regs q (omega arith) (omega arith) kp m) z) (λ q c m z. o q c (kept_then L L D t t s.regs p.regs q (omega arith) (omega arith) kp m) z)
    acts_run (keep cell then) t L env s k leave go next over le ld dt x f on h o =
        let v = slice_index s.cells (slice_index places cell) in
        let r = slice_set s.regs L v in
        let s1 : State = record s { regs = r } in
        let other : (j : ℕ) → (j < L) ⊎ (D ≤ j) → slice_index r j ≡ slice_index s.regs j =
        λ j c. get_or-set_other s.regs L j v 0 (λ z. absurd (elim c [ inl a ↦ omega (arith, a, z) | inr a ↦ omega (arith, a, z, x.0) ])) in
        let back : (q : List ℕ) → Kept (suc L) D t r q → Kept L D t s.regs q = λ q m. record {
          count = m.count ∙ length-set s.regs L v;
          low = λ j l. m.low j (omega (arith, l)) ∙ other j (inl l);
          high = λ j l n. m.high j l n ∙ other j (inr l);
        } in
        acts_run then t (suc L) (env ++ v ∷ []) s1 k leave go next over (pushed_length env v ∙ ap suc le) (omega (arith, x.0)) dt
        (subst (λ n. DeedPlaced n D (suc L) t then) (sym (length-set s.regs L v)) x.1.1)
        (follows_push (λ j. deed_names j then) env r v (follows_kept (λ j. deed_names j then) env s.regs r (λ j l. other j (inl (omega (arith, l, le)))) f)
        (λ m. ap (slice_index r) le ∙ get_or-set_same s.regs L v 0 x.1.0))
        on (λ q c m z. h q c (back q m) z) (λ q c m z. o q c (back q m) z)
    acts_run (fork e one other then) t L env s k leave go next over le ld dt x f on h o =
        let test : ℕ → Bool = λ j. deed_names j (fork e one other then) in
        let p = put_value e env L t s le (omega (arith, ld, dt)) x.0 on.0 (follows_some (λ j. names j e) test env s.regs (λ j m. or_left (names j e) (deed_names j one || (deed_names j other || deed_names j then)) m) f) in
        let kp = kept_put L D t (natural_of e env) s (value t (expr_of e)) p (omega (arith, ld, dt)) in
        let s1 : State = record s { regs = p.regs } in
        let rest = acts t site (action_of L then) k in
        let two = Guard true t (acts (t + 1) site (action_of L other) Done) rest in
        let R = goes rest leave go in
        let G = goes two leave go in
        let kept : (j : ℕ) → j < length env → slice_index p.regs j ≡ slice_index s.regs j = λ j l. p.low j (omega (arith, l, le, ld, dt)) in
        let f1 = follows_kept test env s.regs p.regs kept f in
        let in_then : (j : ℕ) → deed_names j then ≡ true → test j ≡ true =
        λ j m. or_right (names j e) (deed_names j one || (deed_names j other || deed_names j then)) (or_right (deed_names j one) (deed_names j other || deed_names j then) (or_right (deed_names j other) (deed_names j then) m)) in
        let after_one : List ℕ → Passage = λ c. act_exit (doing then env places c) next over (bad_at s) in
        let then_from : (q c : List ℕ) → Kept L D (t + 1) p.regs q → either_way (is_true e env) (doing one env places s.cells) (doing other env places s.cells) ≡ On c
        → R (record s1 { regs = q; cells = c }) ≡ after_one c =
        λ q c m z.
        let all = kept_then L L D t (t + 1) s.regs p.regs q (omega arith) (omega arith) kp m in
        acts_run then t L env (record s { regs = q; cells = c }) k leave go next over le ld dt (subst (λ n. DeedPlaced n D L t then) (sym all.count) x.1.1.1)
        (follows_kept (λ j. deed_names j then) env s.regs q (λ j l. all.low j (omega (arith, l, le))) (follows_some (λ j. deed_names j then) test env s.regs in_then f))
        (subst (λ w. OnEffect w (OnDeed Sound then env places)) z on.1.1)
        (λ q' c' m' z'. h q' c' (kept_then L L D t t s.regs q q' (omega arith) (omega arith) all m') (ap (λ w. after_effect w (doing then env places)) z ∙ z'))
        (λ q' c' m' z'. o q' c' (kept_then L L D t t s.regs q q' (omega arith) (omega arith) all m') (ap (λ w. after_effect w (doing then env places)) z ∙ z')) in
        let over_from : (q c : List ℕ) → Kept L D (t + 1) p.regs q → either_way (is_true e env) (doing one env places s.cells) (doing other env places s.cells) ≡ Returned true c
        → leave (record s1 { regs = q; cells = c }) ≡ over c =
        λ q c m z. o q c (kept_then L L D t (t + 1) s.regs p.regs q (omega arith) (omega arith) kp m) (ap (λ w. after_effect w (doing then env places)) z) in
        let zero_at : (b : Bool) → is_true e env ≡ b → nat_eq (reg s1 t) 0 ≡ not_of b = λ b y. ap (λ n. nat_eq n 0) p.at ∙ truth_at e env on.0 b y in
        let by : (b : Bool) → is_true e env ≡ b → goes (Guard false t (acts (t + 1) site (action_of L one) Done) two) leave go s1
        ≡ act_exit (either_way b (doing one env places s.cells) (doing other env places s.cells)) after_one over (bad_at s) =
        λ b y. elim b as (λ b. is_true e env ≡ b → goes (Guard false t (acts (t + 1) site (action_of L one) Done) two) leave go s1 ≡ act_exit (either_way b (doing one env places s.cells) (doing other env places s.cells)) after_one over (bad_at s)) [
          | true ↦ λ y.
              let e0 : nat_eq (reg s1 t) 0 ≡ false = zero_at true y in
              ap (λ z. cond z (G s1) (goes (acts (t + 1) site (action_of L one) Done) leave G s1)) e0
              ∙ acts_run one (t + 1) L env s1 Done leave G after_one over le ld (omega (arith, dt)) (subst (λ n. DeedPlaced n D L (t + 1) one) (sym p.count) x.1.0)
              (follows_some (λ j. deed_names j one) test env p.regs (λ j m. or_right (names j e) (deed_names j one || (deed_names j other || deed_names j then)) (or_left (deed_names j one) (deed_names j other || deed_names j then) m)) f1)
              (on.1.0.0 y)
              (λ q c m z. ap (λ w. cond w (goes (acts (t + 1) site (action_of L other) Done) leave R (record s1 { regs = q; cells = c })) (R (record s1 { regs = q; cells = c })))
              (ap (λ n. nat_eq n 0) (m.high t dt (omega arith)) ∙ e0)
              ∙ then_from q c m (ap (λ w. either_way w (doing one env places s.cells) (doing other env places s.cells)) y ∙ z))
              (λ q c m z. over_from q c m (ap (λ w. either_way w (doing one env places s.cells) (doing other env places s.cells)) y ∙ z))
          | false ↦ λ y.
              let e0 : nat_eq (reg s1 t) 0 ≡ true = zero_at false y in
              ap (λ z. cond z (G s1) (goes (acts (t + 1) site (action_of L one) Done) leave G s1)) e0
              ∙ ap (λ z. cond z (goes (acts (t + 1) site (action_of L other) Done) leave R s1) (R s1)) e0
              ∙ acts_run other (t + 1) L env s1 Done leave R after_one over le ld (omega (arith, dt)) (subst (λ n. DeedPlaced n D L (t + 1) other) (sym p.count) x.1.1.0)
              (follows_some (λ j. deed_names j other) test env p.regs (λ j m. or_right (names j e) (deed_names j one || (deed_names j other || deed_names j then)) (or_right (deed_names j one) (deed_names j other || deed_names j then) (or_left (deed_names j other) (deed_names j then) m))) f1)
              (on.1.0.1 y)
              (λ q c m z. then_from q c m (ap (λ w. either_way w (doing one env places s.cells) (doing other env places s.cells)) y ∙ z))
              (λ q c m z. over_from q c m (ap (λ w. either_way w (doing one env places s.cells) (doing other env places s.cells)) y ∙ z))
        ] y in
        p.by (Guard false t (acts (t + 1) site (action_of L one) Done) two) leave go
        ∙ by (is_true e env) refl
        ∙ sym (act_after (either_way (is_true e env) (doing one env places s.cells) (doing other env places s.cells)) (doing then env places) next over (bad_at s))
    acts_run (answer e) t L env s k leave go next over le ld dt x f on h o =
        let p = put_value e env L t s le (omega (arith, ld, dt)) x on f in
        let kp = kept_put L D t (natural_of e env) s (value t (expr_of e)) p (omega (arith, ld, dt)) in
        let s1 : State = record s { regs = p.regs } in
        let by : (b : Bool) → is_true e env ≡ b → goes (Guard true t (Stop (i.Fail 3 site)) Leave) leave go s1 ≡ act_exit (Returned b s.cells) next over (bad_at s) =
        λ b y. elim b as (λ b. is_true e env ≡ b → goes (Guard true t (Stop (i.Fail 3 site)) Leave) leave go s1 ≡ act_exit (Returned b s.cells) next over (bad_at s)) [
          | true ↦ λ y. ap (λ z. cond z (bad_at s s.cells) (leave s1)) (ap (λ n. nat_eq n 0) p.at ∙ truth_at e env on true y) ∙ o p.regs s.cells kp (ap (λ b. Returned b s.cells) y)
          | false ↦ λ y. ap (λ z. cond z (bad_at s s.cells) (leave s1)) (ap (λ n. nat_eq n 0) p.at ∙ truth_at e env on false y)
        ] y in
        p.by (Guard true t (Stop (i.Fail 3 site)) Leave) leave go ∙ by (is_true e env) refl
    acts_run give_up t L env s k leave go next over le ld dt x f on h o = refl
