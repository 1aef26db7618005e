-- Loops of sound code, and all that a machine rests on.
use Rattle.std.proofs.Common.{◌≡◌, ℕ, zero, suc, ◌+◌, ◌-◌, ◌<◌, ◌≤◌, ⊎_elim, true, List, [], ◌∷◌, ◌++◌, length, Option, Some, None, slice_index, sym, refl, ap, ◌∙◌, subst, arith}
use Rattle.std.proofs.lemmas.Bool.{cases_lt}
use Rattle.td_ir.specs.declared.tables.Parts.{Parts}
use Rattle.td_verify.specs.declared.shape.Shape.{Shape}
use Rattle.td_verify.specs.declared.shape.Shape.TheVariants.{Straight, Jump, Branch, Call, Return, Fail, While, Again, Open, Close}
use Rattle.td_verify.specs.Shape.{shapes_of}
use Rattle.td_ir.specs.Tables.{lengths_of, begin}
use Rattle.td_verify.specs.Brackets.{shape_at, opened, and_then, opening, closing_window, closing_loop, innermost, in_loop}
use Rattle.td_verify.specs.Flat.{IsFlat}
use Rattle.td_verify.specs.Rules.{LeadsWell, StandsWell, IsLoop, weigh}
use Rattle.td_verify.specs.Verify.{IsIn, IsSound, weights}
use Rattle.td_verify.specs.Findings.{IsDivided}
use Rattle.td_verify.specs.Safe.{IsSafe, AreLoopsSafe, IsWhole, IsWholeAt}
use Rattle.td_verify.proofs.Flat.{next_opened}
use Rattle.td_verify.proofs.Safety.{begins_safe, each_safe, each_weighed}
use Rattle.td_ir.specs.WellFormed.{IsCode}
use Rattle.td_verify.specs.declared.bracket.Bracket.{Bracket}
use Rattle.td_verify.specs.declared.bracket.Bracket.TheVariants.{Window, Loop}
use Rattle.td_verify.specs.declared.bracket.Innermost.TheVariants.{Within}
use Rattle.td_verify.specs.declared.rule.Rule.TheVariants.{Target, Loop as Nesting}
use Rattle.std.proofs.lemmas.List.{length-append}
use Rattle.std.proofs.Math.ListN.{get_or-append}
use Rattle.std.proofs.Math.Seq.{get_or-append_seam}

-- a loop does not stand among those that are open
abbrev Without : ℕ → List Bracket → Type 0
Without a [] = Unit {0}
Without a (Window o k ∷ bs) = Without a bs
Without a (Loop o ∷ bs) = (o ≡ a → ⊥) × Without a bs

abbrev WithoutIn : ℕ → Option (List Bracket) → Type 0
WithoutIn a None = Unit {0}
WithoutIn a (Some bs) = Without a bs

-- all that are open were opened before p, the innermost last
abbrev Before : ℕ → List Bracket → Type 0
Before p [] = Unit {0}
Before p (Window o k ∷ bs) = (o < p) × Before o bs
Before p (Loop o ∷ bs) = (o < p) × Before o bs

abbrev BeforeIn : ℕ → Option (List Bracket) → Type 0
BeforeIn p None = Unit {0}
BeforeIn p (Some bs) = Before p bs

before_more : (p q : ℕ) (bs : List Bracket) → p ≤ q → Before p bs → Before q bs
before_more p q [] h b = tt
before_more p q (Window o k ∷ bs) h b = (omega (arith, h, b.0), b.1)
before_more p q (Loop o ∷ bs) h b = (omega (arith, h, b.0), b.1)

before_in : (p q : ℕ) (o : Option (List Bracket)) → p ≤ q → BeforeIn p o → BeforeIn q o
before_in p q None h b = tt
before_in p q (Some bs) h b = before_more p q bs h b

before_open : (p : ℕ) (o : Option (List Bracket)) (k : ℕ) → BeforeIn p o → BeforeIn (suc p) (opening (Window p k) o)
before_open p None k b = tt
before_open p (Some bs) k b = (omega arith, b)

before_loop : (p : ℕ) (o : Option (List Bracket)) → BeforeIn p o → BeforeIn (suc p) (opening (Loop p) o)
before_loop p None b = tt
before_loop p (Some bs) b = (omega arith, b)

before_close : (p : ℕ) (o : Option (List Bracket)) → BeforeIn p o → BeforeIn (suc p) (closing_window o)
before_close p None b = tt
before_close p (Some []) b = tt
before_close p (Some (Window o k ∷ bs)) b = before_more o (suc p) bs (omega (arith, b.0)) b.1
before_close p (Some (Loop o ∷ bs)) b = tt

before_again : (p : ℕ) (o : Option (List Bracket)) → BeforeIn p o → BeforeIn (suc p) (closing_loop o)
before_again p None b = tt
before_again p (Some []) b = tt
before_again p (Some (Window o k ∷ bs)) b = tt
before_again p (Some (Loop o ∷ bs)) b = before_more o (suc p) bs (omega (arith, b.0)) b.1

before_step : (p : ℕ) (j : Shape) (o : Option (List Bracket)) → BeforeIn p o → BeforeIn (suc p) (and_then p j o)
before_step p (Straight x w) o b = before_in p (suc p) o (omega arith) b
before_step p (Jump t) o b = before_in p (suc p) o (omega arith) b
before_step p (Branch t) o b = before_in p (suc p) o (omega arith) b
before_step p (Call m) o b = before_in p (suc p) o (omega arith) b
before_step p Return o b = before_in p (suc p) o (omega arith) b
before_step p Fail o b = before_in p (suc p) o (omega arith) b
before_step p (While t) o b = before_loop p o b
before_step p (Again t) o b = before_again p o b
before_step p (Open k) o b = before_open p o k b
before_step p Close o b = before_close p o b

all_before : (s : List Shape) (p : ℕ) → BeforeIn p (opened s p)
all_before s zero = tt
all_before s (suc p) = before_step p (shape_at s p) (opened s p) (all_before s p)

-- what was opened before a is not a
without_later : (a p : ℕ) (bs : List Bracket) → p ≤ a → Before p bs → Without a bs
without_later a p [] h b = tt
without_later a p (Window o k ∷ bs) h b = without_later a o bs (omega (arith, h, b.0)) b.1
without_later a p (Loop o ∷ bs) h b = ((λ e. omega (arith, h, b.0, e)), without_later a o bs (omega (arith, h, b.0)) b.1)

without_step : (a p : ℕ) (j : Shape) (o : Option (List Bracket)) → a < p → WithoutIn a o → WithoutIn a (and_then p j o)
without_step a p (Straight x w) o h b = b
without_step a p (Jump t) o h b = b
without_step a p (Branch t) o h b = b
without_step a p (Call m) o h b = b
without_step a p Return o h b = b
without_step a p Fail o h b = b
without_step a p (While t) None h b = tt
without_step a p (While t) (Some bs) h b = ((λ e. omega (arith, h, e)), b)
without_step a p (Again t) None h b = tt
without_step a p (Again t) (Some []) h b = tt
without_step a p (Again t) (Some (Window o k ∷ bs)) h b = tt
without_step a p (Again t) (Some (Loop o ∷ bs)) h b = b.1
without_step a p (Open k) None h b = tt
without_step a p (Open k) (Some bs) h b = b
without_step a p Close None h b = tt
without_step a p Close (Some []) h b = tt
without_step a p Close (Some (Window o k ∷ bs)) h b = b
without_step a p Close (Some (Loop o ∷ bs)) h b = tt

without_on : (s : List Shape) (a q k : ℕ) → a < q → WithoutIn a (opened s q) → WithoutIn a (opened s (q + k))
without_on s a q zero h b = let e : q ≡ q + 0 = omega arith in subst (λ x. WithoutIn a (opened s x)) e b
without_on s a q (suc k) h b =
    let e : suc (q + k) ≡ q + suc k = omega arith in
    subst (λ x. WithoutIn a (opened s x)) e (without_step a (q + k) (shape_at s (q + k)) (opened s (q + k)) (omega (arith, h)) (without_on s a q k h b))

innermost_loop : (o : Option (List Bracket)) (a : ℕ) → innermost o ≡ Within (Loop a) → (bs : List Bracket) × (o ≡ Some (Loop a ∷ bs))
innermost_loop None l e = absurd (cc)
innermost_loop (Some []) l e = absurd (cc)
innermost_loop (Some (Window a k ∷ bs)) l e = absurd (cc)
innermost_loop (Some (Loop a ∷ bs)) l e = (bs, cc)

-- a loop is open at no place behind its Again
loop_ends : (s : List Shape) (a q r t : ℕ) → shape_at s q ≡ Again t → innermost (opened s q) ≡ Within (Loop a) → innermost (opened s r) ≡ Within (Loop a) → r ≤ q
loop_ends s a q r t e h k = ⊎_elim
    (λ (l : q < r).
    let x = innermost_loop (opened s q) a h in
    let y = innermost_loop (opened s r) a k in
    let b : Before q (Loop a ∷ x.0) = subst (BeforeIn q) x.1 (all_before s q) in
    let closed : opened s (suc q) ≡ Some x.0 = ap (λ j. and_then q j (opened s q)) e ∙ ap closing_loop x.1 in
    let w : WithoutIn a (opened s (suc q)) = subst (WithoutIn a) (sym closed) (without_later a a x.0 (omega arith) b.1) in
    let f : suc q + (r - suc q) ≡ r = omega (arith, l) in
    let v : Without a (Loop a ∷ y.0) = subst (WithoutIn a) y.1 (subst (λ x. WithoutIn a (opened s x)) f (without_on s a (suc q) (r - suc q) (omega (arith, b.0)) w)) in
    absurd (v.0 refl))
    (λ l. omega (arith, l))
    (cases_lt q r)

looping : (p : ℕ) (o : Option (List Bracket)) → IsFlat o → innermost (opening (Loop p) o) ≡ Within (Loop p)
looping p None f = absurd f
looping p (Some bs) f = refl

loop_in : (o : Option (List Bracket)) (a : ℕ) → innermost o ≡ Within (Loop a) → in_loop o ≡ true
loop_in None a e = absurd (cc)
loop_in (Some []) a e = absurd (cc)
loop_in (Some (Window o k ∷ bs)) a e = absurd (cc)
loop_in (Some (Loop o ∷ bs)) a e = refl

length_weights : (s : List Shape) (ls : List ℕ) (n : ℕ) → length (weights s ls n) ≡ n
length_weights s ls zero = refl
length_weights s ls (suc n) = let h = length_weights s ls n in length-append (weights s ls n) (weigh s (weights s ls n) (begin ls n) (slice_index ls n) ∷ []) ∙ omega (arith, h)

weight_there : (s : List Shape) (ls : List ℕ) (n m : ℕ) → m < n → slice_index (weights s ls n) m ≡ weigh s (weights s ls m) (begin ls m) (begin ls (suc m) - begin ls m)
weight_there s ls zero m h = absurd (omega arith)
weight_there s ls (suc n) m h =
    let W = weights s ls n in
    let w = weigh s W (begin ls n) (slice_index ls n) in
    let len = length_weights s ls n in
    ⊎_elim
    (λ (l : m < n). get_or-append W (w ∷ []) 0 m (omega (arith, l, len)) ∙ weight_there s ls n m l)
    (λ l.
    let e : m ≡ n = omega (arith, h, l) in
    let d : slice_index ls n ≡ begin ls (suc n) - begin ls n = omega arith in
    ap (slice_index (W ++ w ∷ [])) (e ∙ sym len) ∙ get_or-append_seam W w [] 0
    ∙ ap (weigh s W (begin ls n)) d
    ∙ ap (λ k. weigh s (weights s ls k) (begin ls k) (begin ls (suc k) - begin ls k)) (sym e))
    (cases_lt m n)

loops_safe : (c : Parts) → IsDivided c → IsSound c → AreLoopsSafe c
loops_safe c d s =
    let S = shapes_of c in
    let loop : (n p t : ℕ) → IsIn c n p → shape_at S p ≡ While t → IsLoop S (begin (lengths_of c) (suc n)) p t = λ n p t i e. subst (LeadsWell S (begin (lengths_of c) (suc n)) p) e (s n p i Target).leads in
    let whole : (n p t : ℕ) → IsIn c n p → shape_at S p ≡ While t → IsWhole c n p t = λ n p t i e. subst (IsWholeAt c n p) e (each_safe c d s n p i).whole in
    let body : (n p t q : ℕ) → IsIn c n p → shape_at S p ≡ While t → opened S q ≡ opened S (p + 1) → innermost (opened S q) ≡ Within (Loop p) = λ n p t q i e k.
    ap innermost (k ∙ next_opened S p ∙ ap (λ j. and_then p j (opened S p)) e) ∙ looping p (opened S p) (each_safe c d s n p i).flat in
    let last : (n p t q : ℕ) → IsIn c n p → shape_at S p ≡ While t → opened S q ≡ opened S (p + 1) → q ≤ t - 1 = λ n p t q i e k.
    loop_ends S p (t - 1) q p (whole n p t i e).again (loop n p t i e).own (body n p t q i e k) in
    record {
      again = λ n p t i e. loop_in (opened S p) t (subst (LeadsWell S (begin (lengths_of c) (suc n)) p) e (s n p i Target).leads);
      alone = λ n p t i e. (subst (StandsWell (opened S p)) e (s n p i Nesting).stands).1;
      turning = λ n p t i e. loop_in (opened S (p + 1)) p (body n p t (p + 1) i e refl);
      inside = λ n p t q i e j k. let w = (loop n p t i e).later in let l = last n p t q i e k in omega (arith, w, l);
      one = λ n p t q u i e j k a.
          let l = last n p t q i e k in
          let r = loop_ends S p q (t - 1) u a (body n p t q i e k) (loop n p t i e).own in
          omega (arith, l, r);
    }

pub divided : (c : Parts) → IsCode c → IsDivided c
divided c k = record { whole = k.whole; some = λ n h. (k.routines n h).some; params = λ n h. (k.routines n h).room }

pub safe : (c : Parts) → IsCode c → IsSound c → IsSafe c
safe c k s =
    let d = divided c k in
    record {
      begins = begins_safe c d s;
      each = each_safe c d s;
      weighed = each_weighed c d s;
      loops = loops_safe c d s;
      weight = λ n m h l. weight_there (shapes_of c) (lengths_of c) n m h;
    }
