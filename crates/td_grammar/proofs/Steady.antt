-- Productions that name themselves: what they say of one nested to some depth is what is said of them. Cited by other crates.
use Rattle.std.proofs.Common.{◌≡◌, ℕ, zero, suc, ◌+◌, ◌-◌, max, ◌≤◌, List, [], ◌∷◌, Option, Some, None, subst, inl, inr, arith}
use Rattle.td_ast.specs.declared.token.Token.{Token}
use Rattle.td_grammar.specs.Spelling.{SpellsBoth, SpellsMade, SpellsMaybe, SpellsAll, SpellsEither, NestedBelow, SpellsNested}

abbrev pub Relation : Type 0 → Type 1
Relation A = A → List Token → Type 0

abbrev pub Implies : {A : Type 0} → Relation A → Relation A → Type 0
Implies {A} P Q = (a : A) (tokens : List Token) → P a tokens → Q a tokens

-- relations, each within those after it
abbrev pub IsRising : {A : Type 0} → (ℕ → Relation A) → Type 0
IsRising {A} S = (n k : ℕ) (a : A) (tokens : List Token) → S n a tokens → S (n + k) a tokens

abbrev pub Some_of : {A : Type 0} → (ℕ → Relation A) → Relation A
Some_of S a tokens = (n : ℕ) × S n a tokens

pub record IsSteady {A B : Type 0} (F : Relation A → Relation B) : Type 1 where
  pub mono : (P Q : Relation A) → Implies P Q → Implies (F P) (F Q)
  pub finite : (S : ℕ → Relation A) → IsRising S → (b : B) (tokens : List Token) → F (Some_of S) b tokens → (n : ℕ) × F (S n) b tokens

pub steady_self : {A : Type 0} → IsSteady {A = A} {B = A} (λ P. P)
steady_self = record { mono = λ P Q i. i; finite = λ S up b tokens s. s }

pub steady_other : {A B : Type 0} (R : Relation B) → IsSteady {A = A} {B = B} (λ P. R)
steady_other R = record { mono = λ P Q i b tokens s. s; finite = λ S up b tokens s. (0, s) }

module _ {A B C : Type 0} (F : Relation A → Relation B) (G : Relation A → Relation C) (f : IsSteady F) (g : IsSteady G) where
  -- what holds at n holds further on
  pub later : {D : Type 0} (H : Relation A → Relation D) → IsSteady H → (S : ℕ → Relation A) → IsRising S → (n m : ℕ) → n ≤ m → (d : D) (tokens : List Token) → H (S n) d tokens → H (S m) d tokens
  later H h S up n m le d tokens s = h.mono (S n) (S m) (λ a t p. by_gap a t (up n (m - n) a t p)) d tokens s
    where
      by_gap : (a : A) (t : List Token) → S (n + (m - n)) a t → S m a t
      by_gap a t p = let same : n + (m - n) ≡ m = omega arith in subst (λ (k : ℕ). S k a t) same p

  both_by : IsSteady (λ P. SpellsBoth (F P) (G P))
  both_by = record {
    mono = λ P Q i x tokens s. (s.0, s.1, s.2, f.mono P Q i x.0 s.0 s.3, g.mono P Q i x.1 s.1 s.4);
    finite = λ S up x tokens s.
        let p = f.finite S up x.0 s.0 s.3 in
        let q = g.finite S up x.1 s.1 s.4 in
        (max p.0 q.0, (s.0, s.1, s.2, later F f S up p.0 (max p.0 q.0) (omega arith) x.0 s.0 p.1, later G g S up q.0 (max p.0 q.0) (omega arith) x.1 s.1 q.1));
  }

module _ {A B C : Type 0} (F : Relation A → Relation B) (f : IsSteady F) where
  made_by : (made_of : B → C) → IsSteady (λ P. SpellsMade made_of (F P))
  made_by made_of = record {
    mono = λ P Q i c tokens s. (s.0, s.1, f.mono P Q i s.0 tokens s.2);
    finite = λ S up c tokens s. let p = f.finite S up s.0 tokens s.2 in (p.0, (s.0, s.1, p.1));
  }

module _ {A B : Type 0} (F : Relation A → Relation B) (f : IsSteady F) where
  maybe_mono : (P Q : Relation A) → Implies P Q → Implies (SpellsMaybe (F P)) (SpellsMaybe (F Q))
  maybe_mono P Q i None tokens s = s
  maybe_mono P Q i (Some b) tokens s = f.mono P Q i b tokens s

  maybe_finite : (S : ℕ → Relation A) → IsRising S → (o : Option B) (tokens : List Token) → SpellsMaybe (F (Some_of S)) o tokens → (n : ℕ) × SpellsMaybe (F (S n)) o tokens
  maybe_finite S up None tokens s = (0, s)
  maybe_finite S up (Some b) tokens s = f.finite S up b tokens s

  maybe_by : IsSteady (λ P. SpellsMaybe (F P))
  maybe_by = record { mono = maybe_mono; finite = maybe_finite }

  all_mono : (P Q : Relation A) → Implies P Q → Implies (SpellsAll (F P)) (SpellsAll (F Q))
  all_mono P Q i [] tokens s = s
  all_mono P Q i (b ∷ bs) tokens s = (s.0, s.1, s.2, f.mono P Q i b s.0 s.3, all_mono P Q i bs s.1 s.4)

  all_finite : (S : ℕ → Relation A) → IsRising S → (bs : List B) (tokens : List Token) → SpellsAll (F (Some_of S)) bs tokens → (n : ℕ) × SpellsAll (F (S n)) bs tokens
  all_finite S up [] tokens s = (0, s)
  all_finite S up (b ∷ bs) tokens s =
      let p = f.finite S up b s.0 s.3 in
      let q = all_finite S up bs s.1 s.4 in
      let m = max p.0 q.0 in
      (m, (s.0, s.1, s.2, later F F f f F f S up p.0 m (omega arith) b s.0 p.1, all_mono (S q.0) (S m) (λ a t r. by_gap q.0 m (omega arith) a t r) bs s.1 q.1))
    where
      by_gap : (n m : ℕ) → n ≤ m → (a : A) (t : List Token) → S n a t → S m a t
      by_gap n m le a t r = let same : n + (m - n) ≡ m = omega arith in subst (λ (k : ℕ). S k a t) same (up n (m - n) a t r)

  all_by : IsSteady (λ P. SpellsAll (F P))
  all_by = record { mono = all_mono; finite = all_finite }

module _ {A B : Type 0} (F G : Relation A → Relation B) (f : IsSteady F) (g : IsSteady G) where
  either_mono : (P Q : Relation A) → Implies P Q → Implies (SpellsEither (F P) (G P)) (SpellsEither (F Q) (G Q))
  either_mono P Q i b tokens (inl s) = inl (f.mono P Q i b tokens s)
  either_mono P Q i b tokens (inr s) = inr (g.mono P Q i b tokens s)

  either_finite : (S : ℕ → Relation A) → IsRising S → (b : B) (tokens : List Token) → SpellsEither (F (Some_of S)) (G (Some_of S)) b tokens → (n : ℕ) × SpellsEither (F (S n)) (G (S n)) b tokens
  either_finite S up b tokens (inl s) = let p = f.finite S up b tokens s in (p.0, inl p.1)
  either_finite S up b tokens (inr s) = let p = g.finite S up b tokens s in (p.0, inr p.1)

  either_by : IsSteady (λ P. SpellsEither (F P) (G P))
  either_by = record { mono = either_mono; finite = either_finite }

pub steady_both : {A B C : Type 0} {F : Relation A → Relation B} {G : Relation A → Relation C} → IsSteady F → IsSteady G → IsSteady (λ P. SpellsBoth (F P) (G P))
steady_both {F = F} {G = G} f g = both_by F G f g

pub steady_made : {A B C : Type 0} {F : Relation A → Relation B} (made_of : B → C) → IsSteady F → IsSteady (λ P. SpellsMade made_of (F P))
steady_made {F = F} made_of f = made_by F f made_of

pub steady_maybe : {A B : Type 0} {F : Relation A → Relation B} → IsSteady F → IsSteady (λ P. SpellsMaybe (F P))
steady_maybe {F = F} f = maybe_by F f

pub steady_all : {A B : Type 0} {F : Relation A → Relation B} → IsSteady F → IsSteady (λ P. SpellsAll (F P))
steady_all {F = F} f = all_by F f

pub steady_either : {A B : Type 0} {F G : Relation A → Relation B} → IsSteady F → IsSteady G → IsSteady (λ P. SpellsEither (F P) (G P))
steady_either {F = F} {G = G} f g = either_by F G f g

module _ {A : Type 0} (F : Relation A → Relation A) (f : IsSteady F) where
  deeper : (n : ℕ) → Implies (NestedBelow F n) (NestedBelow F (suc n))
  unfolding NestedBelow
  deeper zero a tokens s = absurd s
  deeper (suc n) a tokens s = f.mono (NestedBelow F n) (NestedBelow F (suc n)) (deeper n) a tokens s

  pub rising : IsRising (NestedBelow F)
  rising n zero a tokens s = let same : n + 0 ≡ n = omega arith in rw same s
  rising n (suc k) a tokens s = let same : n + suc k ≡ suc (n + k) = omega arith in rw same (deeper (n + k) a tokens (rising n k a tokens s))

  pub nested_out : Implies (SpellsNested F) (F (SpellsNested F))
  unfolding NestedBelow
  nested_out a tokens (zero, s) = absurd s
  nested_out a tokens (suc n, s) = f.mono (NestedBelow F n) (SpellsNested F) (λ b t p. (n, p)) a tokens s

  pub nested_in : Implies (F (SpellsNested F)) (SpellsNested F)
  unfolding NestedBelow
  nested_in a tokens s = let p = f.finite (NestedBelow F) rising a tokens s in (suc p.0, p.1)
