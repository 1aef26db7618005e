-- Parts of what is within the limits are within the limits.
use Rattle.std.proofs.Common.{◌≡◌, List, [], ◌∷◌, ◌++◌, Option, Some, None, refl, sym, ap, subst, ◌∙◌, append_assoc, inl, inr}
use Rattle.td_num.specs.Lists.{Each}
use Rattle.td_ast.specs.declared.token.Token.{Token}
use Rattle.td_grammar.specs.Spelling.{SpellsAll}
use Rattle.td_grammar.specs.Limits.{PassesBoth, PassesAll, PassesEither}
use Rattle.td_grammar.specs.Grammar.{Grammar, maybe}
use Rattle.td_grammar.specs.Sequences.{some_of}
use Rattle.td_print_layout.proofs.Kept.{IfAny}
use Rattle.td_print_layout.proofs.Sources.{NoPass}

module _ {A : Type 0} {S : A → List Token → Type 0} {P Q : List Token → Type 0} where
  -- what stands before
  pub head_of : (tokens u v : List Token) → tokens ≡ u ++ v → NoPass (PassesBoth S P Q) tokens → NoPass P u
  head_of tokens u v e w front back f p = w front (back ++ v) (e ∙ (ap (λ (l : List Token). l ++ v) f ∙ append_assoc front back v)) (inl p)

  -- what stands after
  pub tail_of : (a : A) (tokens u v : List Token) → tokens ≡ u ++ v → S a u → NoPass (PassesBoth S P Q) tokens → NoPass Q v
  tail_of a tokens u v e s w front back f p = w (u ++ front) back (e ∙ (ap (λ (l : List Token). u ++ l) f ∙ sym (append_assoc u front back))) (inr (a, u, front, refl, s, p))

pub one_side : (P Q : List Token → Type 0) (tokens : List Token) → NoPass (PassesEither P Q) tokens → NoPass P tokens
one_side P Q tokens w front back f p = w front back f (inl p)

pub other_side : (P Q : List Token → Type 0) (tokens : List Token) → NoPass (PassesEither P Q) tokens → NoPass Q tokens
other_side P Q tokens w front back f p = w front back f (inr p)

-- the first of all
all_first : {A : Type 0} (S : A → List Token → Type 0) (P : List Token → Type 0) (tokens u v : List Token) → tokens ≡ u ++ v → NoPass (PassesAll S P) tokens → NoPass P u
all_first S P tokens u v e w front back f p = w front (back ++ v) (e ∙ (ap (λ (l : List Token). l ++ v) f ∙ append_assoc front back v)) ([], [], front, refl, refl, p)

-- the others
all_others : {A : Type 0} (S : A → List Token → Type 0) (P : List Token → Type 0) (x : A) (tokens u v : List Token) → tokens ≡ u ++ v → S x u → NoPass (PassesAll S P) tokens → NoPass (PassesAll S P) v
all_others S P x tokens u v e s w front back f (xs, m, n, g, t, p) =
    w (u ++ front) back (e ∙ (ap (λ (l : List Token). u ++ l) f ∙ sym (append_assoc u front back)))
    (x ∷ xs, u ++ m, n, ap (λ (l : List Token). u ++ l) g ∙ sym (append_assoc u m n), (u, m, refl, s, t), p)

-- all of some values, where one is so that is spelled within the limits
pub each_within : {A : Type 0} (S : A → List Token → Type 0) (P : List Token → Type 0) (F : A → Type 0) → ((x : A) (tokens : List Token) → S x tokens → NoPass P tokens → F x)
    → (xs : List A) (tokens : List Token) → SpellsAll S xs tokens → NoPass (PassesAll S P) tokens → Each F xs
each_within S P F fits [] tokens s w = tt
each_within S P F fits (x ∷ xs) tokens (u, v, e, s, t) w =
    (fits x u s (all_first S P tokens u v e w), each_within S P F fits xs v t (all_others S P x tokens u v e s w))

-- one or none
pub any_within : {A : Type 0} (g : Grammar A) (F : A → Type 0) → ((x : A) (tokens : List Token) → g.Spells x tokens → NoPass g.Passes tokens → F x)
    → (o : Option A) (tokens : List Token) → (maybe g).Spells o tokens → NoPass g.Passes tokens → IfAny F o
any_within g F fits None tokens s w = tt
any_within g F fits (Some x) tokens s w = fits x tokens s w

-- g { g }
pub some_within : {A : Type 0} (g : Grammar A) (F : A → Type 0) → ((x : A) (tokens : List Token) → g.Spells x tokens → NoPass g.Passes tokens → F x)
    → (xs : List A) (tokens : List Token) → (some_of g).Spells xs tokens → NoPass (some_of g).Passes tokens → Each F xs
some_within g F fits xs tokens (x, e, s) w =
    subst (Each F) e (fits x.0 s.0 s.3 (head_of tokens s.0 s.1 s.2 w), each_within g.Spells g.Passes F fits x.1 s.1 s.4 (tail_of x.0 tokens s.0 s.1 s.2 s.3 w))
