-- The first of a list of breaches.
use Rattle.std.proofs.Common.{length, ◌≡◌, ℕ, Bool, true, false, if◌then◌else◌, nat_lt, nat_eq, List, [], ◌∷◌, ◌++◌, Option, Some, None, Contains, All, ◌⊎◌, inl, inr, subst, refl, sym, ap, ◌∙◌, arith}
use Rattle.std.proofs.lemmas.Bool.Decides.{nat_tests}
use Rattle.std.proofs.lemmas.List.Elements.{All-nil, All-cons, All-append, All-contains, Contains-get_or, Contains-append_left, Contains-append_right}
use Rattle.td_elab_rules.specs.declared.breach.Rule.{Rule}
use Rattle.td_elab_rules.specs.declared.breach.Rule.TheVariants.{Unknown, Twice, NotReadable, WrongArgs, Mismatch, Narrowing, NotConstant, BadAction}
use Rattle.td_elab_rules.specs.declared.breach.Breach.{Breach}
use Rattle.td_ast.specs.declared.definitions.Def.{Def}
use Rattle.td_elab_rules.specs.declared.known.Known.{Known}
use Rattle.td_elab_rules.specs.Breach.{rank, is_sooner, first_of, IsFirst}
use Rattle.td_elab_rules.specs.Definitions.{definition_breaches, after, definitions_breaches}
use Rattle.td_elab.specs.Firsts.{breaches_each, first_among, all_of, IsFirstIn, AreRising}

-- one step of the order: the first numbers decide, and where they are equal the rest does
abbrev step : ℕ → ℕ → Bool → Bool
step a x rest = if nat_eq a x then rest else nat_lt a x

lt_after : (a x u : ℕ) → nat_lt x a ≡ true → nat_lt x u ≡ false → nat_lt a u ≡ false
lt_after a x u h k = grind (arith, nat_tests)

lt_level : (a x u : ℕ) → nat_lt x a ≡ false → nat_lt a u ≡ false → nat_lt x u ≡ false
lt_level a x u h k = grind (arith, nat_tests)

step_after : (a x u : ℕ) (p q r : Bool) → (p ≡ true → q ≡ false → r ≡ false) → step x a p ≡ true → step x u q ≡ false → step a u r ≡ false
step_after a x u p q r rest h k = grind (arith, nat_tests)

step_level : (a x u : ℕ) (p q r : Bool) → (p ≡ false → q ≡ false → r ≡ false) → step x a p ≡ false → step a u q ≡ false → step x u r ≡ false
step_level a x u p q r rest h k = grind (arith, nat_tests)

-- what stands before one that doesn't stand behind f
sooner_after : (a b f : Breach) → is_sooner b a ≡ true → is_sooner b f ≡ false → is_sooner a f ≡ false
sooner_after a b f =
    step_after a.span.from b.span.from f.span.from _ _ _
    (step_after (rank a.rule) (rank b.rule) (rank f.rule) _ _ _ (lt_after a.span.to b.span.to f.span.to))

sooner_level : (a b f : Breach) → is_sooner b a ≡ false → is_sooner a f ≡ false → is_sooner b f ≡ false
sooner_level a b f =
    step_level a.span.from b.span.from f.span.from _ _ _
    (step_level (rank a.rule) (rank b.rule) (rank f.rule) _ _ _ (lt_level a.span.to b.span.to f.span.to))

itself : (f : Breach) → is_sooner f f ≡ false
itself f = grind (arith, nat_tests)

-- what is first among one breach and more
record Least (a : Breach) (bs : List Breach) (f : Breach) : Type 0 where
  among : (f ≡ a) ⊎ Contains bs f
  given : is_sooner a f ≡ false
  others : All (λ c. is_sooner c f ≡ false) bs

only : (a f : Breach) → f ≡ a → Least a [] f
only a f e =
    record {
      among = inl e;
      given = ap (λ x. is_sooner x f) (sym e) ∙ itself f;
      others = All-nil (λ c. is_sooner c f ≡ false);
    }

there : (b f : Breach) (bs : List Breach) → (f ≡ b) ⊎ Contains bs f → Contains (b ∷ bs) f
there b f bs (inl e) = subst (Contains (b ∷ bs)) (sym e) (Contains-get_or (b ∷ bs) 0 b (omega arith))
there b f bs (inr h) = Contains-append_right (b ∷ []) bs f h

least : (a : Breach) (bs : List Breach) (f : Breach) → first_of (Some a) bs ≡ Some f → Least a bs f
least a [] f e = only a f (cc)
least a (b ∷ bs) f e = by (least b bs f) (least a bs f) (is_sooner b a) refl e
  where
    by : (first_of (Some b) bs ≡ Some f → Least b bs f) → (first_of (Some a) bs ≡ Some f → Least a bs f) → (t : Bool) → is_sooner b a ≡ t → first_of (if t then Some b else Some a) bs ≡ Some f → Least a (b ∷ bs) f
    by new old true h e =
        let r = new e in
        record {
          among = inr (there b f bs r.among);
          given = sooner_after a b f h r.given;
          others = All-cons (λ c. is_sooner c f ≡ false) b bs r.given r.others;
        }
    by new old false h e =
        let r = old e in
        record {
          among = elim r.among [ inl s ↦ inl s | inr s ↦ inr (there b f bs (inr s)) ];
          given = r.given;
          others = All-cons (λ c. is_sooner c f ≡ false) b bs (sooner_level a b f h r.given) r.others;
        }

pub found_first : (bs : List Breach) (f : Breach) → first_of None bs ≡ Some f → IsFirst f bs
found_first [] f e = cc
found_first (b ∷ bs) f e =
    let r = least b bs f e in
    (there b f bs r.among, All-cons (λ c. is_sooner c f ≡ false) b bs r.given r.others)

some_left : (a : Breach) (bs : List Breach) → first_of (Some a) bs ≡ None → ⊥
some_left a [] e = cc
some_left a (b ∷ bs) e = by (some_left b bs) (some_left a bs) (is_sooner b a) e
  where
    by : (first_of (Some b) bs ≡ None → ⊥) → (first_of (Some a) bs ≡ None → ⊥) → (t : Bool) → first_of (if t then Some b else Some a) bs ≡ None → ⊥
    by new old true e = new e
    by new old false e = old e

pub none_found : (bs : List Breach) → first_of None bs ≡ None → bs ≡ []
none_found [] e = refl
none_found (b ∷ bs) e = absurd (some_left b bs e)

pub none_among : (bs : List Breach) (b : Breach) → bs ≡ [] → Contains bs b → ⊥
none_among bs b e h = let n = ap length e in omega (arith, h.1)

-- no two breaches are level
step_same : (a x : ℕ) (p q : Bool) → step a x p ≡ false → step x a q ≡ false → a ≡ x
step_same a x p q h k = grind (arith, nat_tests)

step_left : (a x : ℕ) (p : Bool) → a ≡ x → step a x p ≡ false → p ≡ false
step_left a x p e h = grind (arith, nat_tests)

rule_at : ℕ → Rule
rule_at n =
    if nat_eq n 0 then Unknown else (if nat_eq n 1 then Twice else (if nat_eq n 2 then NotReadable else (if nat_eq n 3 then WrongArgs else
    (if nat_eq n 4 then Mismatch else (if nat_eq n 5 then Narrowing else (if nat_eq n 6 then NotConstant else BadAction))))))

rule_rank : (c : Rule) → rule_at (rank c) ≡ c
unfolding rule_at
rule_rank Unknown = refl
rule_rank Twice = refl
rule_rank NotReadable = refl
rule_rank WrongArgs = refl
rule_rank Mismatch = refl
rule_rank Narrowing = refl
rule_rank NotConstant = refl
rule_rank BadAction = refl

level_same : (a b : Breach) → is_sooner a b ≡ false → is_sooner b a ≡ false → a ≡ b
level_same a b h k =
    let from = step_same a.span.from b.span.from _ _ h k in
    let h2 = step_left a.span.from b.span.from _ from h in
    let k2 = step_left b.span.from a.span.from _ (sym from) k in
    let ranks = step_same (rank a.rule) (rank b.rule) _ _ h2 k2 in
    let h3 = step_left (rank a.rule) (rank b.rule) _ ranks h2 in
    let k3 = step_left (rank b.rule) (rank a.rule) _ (sym ranks) k2 in
    let to : a.span.to ≡ b.span.to = grind (arith, nat_tests) in
    let rule = sym (rule_rank a.rule) ∙ ap rule_at ranks ∙ rule_rank b.rule in
    ap (λ c. record { rule = c; span = a.span }) rule
    ∙ ap (λ n. record { rule = b.rule; span = record { from = n; to = a.span.to } }) from
    ∙ ap (λ n. record { rule = b.rule; span = record { from = b.span.from; to = n } }) to

pub one_first : (bs : List Breach) (a b : Breach) → IsFirst a bs → IsFirst b bs → a ≡ b
one_first bs a b h k =
    level_same a b
    (All-contains (λ c. is_sooner c b ≡ false) bs a k.1 h.0)
    (All-contains (λ c. is_sooner c a ≡ false) bs b h.1 k.0)

-- there is none, or one is first
pub some_first : (bs : List Breach) → (bs ≡ []) ⊎ ((b : Breach) × IsFirst b bs)
some_first bs = by (first_of None bs) refl
  where
    by : (o : Option Breach) → first_of None bs ≡ o → (bs ≡ []) ⊎ ((b : Breach) × IsFirst b bs)
    by None e = inl (none_found bs e)
    by (Some b) e = inr (b, found_first bs b e)

-- ---- of several definitions

abbrev nothing : Option Breach
nothing = None

pub found_first_in : (bss : List (List Breach)) (o : Option Breach) (f : Breach) → first_among o bss ≡ Some f → (o ≡ Some f) ⊎ ((o ≡ nothing) × IsFirstIn f bss)
found_first_in [] o f e = inl e
found_first_in (bs ∷ bss) (Some a) f e = elim (found_first_in bss (Some a) f e) [ inl h ↦ inl h | inr h ↦ absurd (cc (h.0)) ]
found_first_in (bs ∷ bss) None f e = by (found_first_in bss (first_of None bs) f e)
  where
    by : (first_of None bs ≡ Some f) ⊎ ((first_of None bs ≡ nothing) × IsFirstIn f bss) → (nothing ≡ Some f) ⊎ ((nothing ≡ nothing) × (IsFirst f bs ⊎ ((bs ≡ []) × IsFirstIn f bss)))
    by (inl h) = inr (refl, inl (found_first bs f h))
    by (inr h) = inr (refl, inr (none_found bs h.0, h.1))

pub none_found_in : (bss : List (List Breach)) (o : Option Breach) → first_among o bss ≡ None → (o ≡ None) × (all_of bss ≡ [])
none_found_in [] o e = (e, refl)
none_found_in (bs ∷ bss) (Some a) e = absurd (cc ((none_found_in bss (Some a) e).0))
none_found_in (bs ∷ bss) None e = let h = none_found_in bss (first_of None bs) e in (refl, rw (none_found bs h.0, h.1) refl)

pub first_is_there : (bss : List (List Breach)) (b : Breach) → IsFirstIn b bss → Contains (all_of bss) b
first_is_there [] b h = absurd h
first_is_there (bs ∷ bss) b (inl h) = Contains-append_left bs (all_of bss) b h.0
first_is_there (bs ∷ bss) b (inr h) = Contains-append_right bs (all_of bss) b (first_is_there bss b h.1)

pub one_first_in : (bss : List (List Breach)) (a b : Breach) → IsFirstIn a bss → IsFirstIn b bss → a ≡ b
one_first_in [] a b h k = absurd h
one_first_in (bs ∷ bss) a b (inl h) (inl k) = one_first bs a b h k
one_first_in (bs ∷ bss) a b (inl h) (inr k) = absurd (none_among bs a k.0 h.0)
one_first_in (bs ∷ bss) a b (inr h) (inl k) = absurd (none_among bs b h.0 k.0)
one_first_in (bs ∷ bss) a b (inr h) (inr k) = one_first_in bss a b h.1 k.1

pub some_first_in : (bss : List (List Breach)) → (all_of bss ≡ []) ⊎ ((b : Breach) × IsFirstIn b bss)
some_first_in bss = by (first_among None bss) refl
  where
    by : (o : Option Breach) → first_among None bss ≡ o → (all_of bss ≡ []) ⊎ ((b : Breach) × IsFirstIn b bss)
    by None e = inl (none_found_in bss None e).1
    by (Some b) e = elim (found_first_in bss None b e) [ inl h ↦ absurd (cc h) | inr h ↦ inr (b, h.1) ]

pub each_is_all : (names : List (List ℕ)) (k : Known) (ds : List Def) → all_of (breaches_each names k ds) ≡ definitions_breaches names k ds
each_is_all names k [] = refl
each_is_all names k (d ∷ ds) = ap (λ bs. definition_breaches names k d ++ bs) (each_is_all names (after names k d) ds)

all_from : (P : Breach → Type 0) (bs : List Breach) → ((b : Breach) → Contains bs b → P b) → All P bs
all_from P [] h = All-nil P
all_from P (b ∷ bs) h = All-cons P b bs (h b (Contains-get_or (b ∷ bs) 0 b (omega arith))) (all_from P bs (λ c k. h c (Contains-append_right (b ∷ []) bs c k)))

pub first_of_all : (bss : List (List Breach)) (b : Breach) → AreRising bss → IsFirstIn b bss → IsFirst b (all_of bss)
first_of_all [] b r h = absurd h
first_of_all (bs ∷ bss) b r (inl h) =
    (Contains-append_left bs (all_of bss) b h.0, All-append (λ c. is_sooner c b ≡ false) bs (all_of bss) h.1 (all_from (λ c. is_sooner c b ≡ false) (all_of bss) (λ c k. r.0 b c h.0 k)))
first_of_all (bs ∷ bss) b r (inr h) =
    let rest = first_of_all bss b r.1 h.1 in
    rw (h.0) rest
