-- The posts of a job have distinct names, so that each is the first of its name. Cited by other crates.
use Rattle.std.proofs.Common.{◌≡◌, ◌⊎◌, ℕ, ◌+◌, ◌<◌, ◌≤◌, true, false, cond, List, [], ◌∷◌, ◌++◌, Some, refl, sym, ap, ◌∙◌, inl, inr, ⊎_elim, arith}
use Rattle.std.specs.Prelude.{◌==◌, ◌&&◌, slice_index_or}
use Rattle.std.specs.List.{All}
use Rattle.std.proofs.lemmas.Bool.{eq-eqb, ne_eqb}
use Rattle.std.proofs.lemmas.List.Elements.{All-nil, All-cons, All-head, All-tail, All-append, All-weaker}
use Rattle.td_posts.specs.declared.name.PostName.{PostName}
use Rattle.td_posts.specs.declared.job.Step.{Step}
use Rattle.td_posts.specs.declared.job.Step.TheVariants as step
use Rattle.td_posts.specs.declared.mail.Mail.{Mail}
use Rattle.td_posts.specs.Posts.{mail, scattered, post_name, mails_from, mails_of, all_mails, mail_named, same_name}
use Rattle.td_posts.specs.Laws.{EachMailIsNamed}

-- a stands before b
abbrev Before : PostName → PostName → Type 0
Before a b = (a.guest < b.guest) ⊎ ((a.guest ≡ b.guest) × (a.number < b.number))

Rises : List Mail → Type 0
Rises [] = Unit {0}
Rises (m ∷ ms) = All (λ (x : Mail). Before m.name x.name) ms × Rises ms

other_name : (a b : PostName) → Before a b → same_name a b ≡ false
other_name a b p = ⊎_elim
    (λ lt. ap (λ c. c && (a.number == b.number)) (ne_eqb a.guest b.guest (λ e. absurd (omega arith))))
    (λ (x : (a.guest ≡ b.guest) × (a.number < b.number)). let lt = x.1 in ap (λ c. c && (a.number == b.number)) (eq-eqb a.guest b.guest x.0) ∙ ne_eqb a.number b.number (λ e. absurd (omega arith))) p

pub own_name : (a : PostName) → same_name a a ≡ true
own_name a = ap (λ c. c && (a.number == a.number)) (eq-eqb a.guest a.guest refl) ∙ eq-eqb a.number a.number refl

named_all : (l : List Mail) → Rises l → All (λ (m : Mail). mail_named m.name l ≡ Some m) l
unfolding Rises mail_named
named_all [] r = All-nil (λ (m : Mail). mail_named m.name [] ≡ Some m)
named_all (x ∷ l) r =
    All-cons (λ (m : Mail). mail_named m.name (x ∷ l) ≡ Some m) x l
    (ap (λ b. cond b (Some x) (mail_named x.name l)) (own_name x.name))
    (λ k d lt.
    let m = named_all l r.1 k d lt in
    let b = r.0 k d lt in
    let y : Mail = slice_index_or l k d in
    ap (λ c. cond c (Some x) (mail_named y.name l)) (other_name x.name y.name b) ∙ m)

rises-append : (xs ys : List Mail) → Rises xs → Rises ys → All (λ (x : Mail). All (λ (y : Mail). Before x.name y.name) ys) xs → Rises (xs ++ ys)
unfolding Rises
rises-append [] ys r s b = s
rises-append (x ∷ xs) ys r s b =
    let P : Mail → Type 0 = λ (y : Mail). All (λ (z : Mail). Before y.name z.name) ys in (
      All-append (λ (y : Mail). Before x.name y.name) xs ys r.0 (All-head P x xs b),
      rises-append xs ys r.1 s (All-tail P x xs b),
    )

-- the posts of guest g from the number n on
abbrev Of : ℕ → ℕ → Mail → Type 0
Of g n m = (m.name.guest ≡ g) × (n ≤ m.name.number)

of_next : (g n made : ℕ) (steps : List Step) (m : Mail) → m.name ≡ post_name g n → All (Of g (n + 1)) (mails_from g (n + 1) made steps) → All (Of g n) (m ∷ mails_from g (n + 1) made steps)
of_next g n made steps m is later =
    All-cons (Of g n) m (mails_from g (n + 1) made steps) (ap (λ (x : PostName). x.guest) is, (let e = ap (λ (x : PostName). x.number) is in omega arith))
    (All-weaker (Of g (n + 1)) (Of g n) (λ y x. (x.0, (let h = x.1 in omega arith))) (mails_from g (n + 1) made steps) later)

of_guest : (g n made : ℕ) (steps : List Step) → All (Of g n) (mails_from g n made steps)
unfolding mails_from
of_guest g n made [] = All-nil (Of g n)
of_guest g n made (step.Store w v ∷ steps) = of_guest g n (made + 1) steps
of_guest g n made (step.Post b l ∷ steps) = of_next g n made steps (mail (post_name g n) made b l) refl (of_guest g (n + 1) made steps)
of_guest g n made (step.Scatter l ∷ steps) = of_next g n made steps (scattered (post_name g n) made l) refl (of_guest g (n + 1) made steps)

before_later : (g n made : ℕ) (steps : List Step) → All (λ (x : Mail). Before (post_name g n) x.name) (mails_from g (n + 1) made steps)
before_later g n made steps =
    All-weaker (Of g (n + 1)) (λ (x : Mail). Before (post_name g n) x.name) (λ m x. inr (sym x.0, (let h = x.1 in omega arith))) (mails_from g (n + 1) made steps) (of_guest g (n + 1) made steps)

rises_guest : (g n made : ℕ) (steps : List Step) → Rises (mails_from g n made steps)
unfolding mails_from Rises
rises_guest g n made [] = tt
rises_guest g n made (step.Store w v ∷ steps) = rises_guest g n (made + 1) steps
rises_guest g n made (step.Post b l ∷ steps) = (before_later g n made steps, rises_guest g (n + 1) made steps)
rises_guest g n made (step.Scatter l ∷ steps) = (before_later g n made steps, rises_guest g (n + 1) made steps)

abbrev From : ℕ → Mail → Type 0
From g m = g ≤ m.name.guest

from_guest : (g : ℕ) (ss : List (List Step)) → All (From g) (all_mails g ss)
unfolding all_mails
from_guest g [] = All-nil (From g)
from_guest g (s ∷ ss) = All-append (From g) (mails_of g s) (all_mails (g + 1) ss)
    (All-weaker (Of g 1) (From g) (λ m x. (let h = x.0 in omega arith)) (mails_of g s) (of_guest g 1 0 s))
    (All-weaker (From (g + 1)) (From g) (λ m x. omega arith) (all_mails (g + 1) ss) (from_guest (g + 1) ss))

rises_all : (g : ℕ) (ss : List (List Step)) → Rises (all_mails g ss)
unfolding all_mails Rises
rises_all g [] = tt
rises_all g (s ∷ ss) = rises-append (mails_of g s) (all_mails (g + 1) ss) (rises_guest g 1 0 s) (rises_all (g + 1) ss)
    (All-weaker (Of g 1) (λ (x : Mail). All (λ (y : Mail). Before x.name y.name) (all_mails (g + 1) ss))
    (λ m x. All-weaker (From (g + 1)) (λ (y : Mail). Before m.name y.name) (λ y h. inl (let e = x.0 in omega arith)) (all_mails (g + 1) ss) (from_guest (g + 1) ss))
    (mails_of g s) (of_guest g 1 0 s))

-- each post of a job is the first of its name
pub each_first : EachMailIsNamed
each_first ss = named_all (all_mails 1 ss) (rises_all 1 ss)
