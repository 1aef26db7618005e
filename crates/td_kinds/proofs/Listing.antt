-- The list of the kinds of the first so many definitions. Cited by other crates.
use Rattle.std.proofs.Common.{◌≡◌, ℕ, zero, suc, ◌+◌, ◌<◌, ◌≤◌, Bool, true, false, nat_eq, nat_le, List, [], ◌∷◌, ◌++◌, map, length, get_or, refl, sym, ap, ◌∙◌, arith, Option, Some, None, slice_get}
use Rattle.std.proofs.Math.Path.{fun_ext}
use Rattle.std.proofs.lemmas.Bool.{eqb-true, eqb-false, leb-true, leb-false}
use Rattle.std.proofs.lemmas.Option.{none-some}
use Rattle.td_num.specs.Numbers.{places_from}
use Rattle.td_core.specs.declared.kind.Kind.{Kind}
use Rattle.td_core.specs.declared.module.TypeDef.{TypeDef}
use Rattle.td_core.specs.declared.module.Module.{Module}
use Rattle.td_kinds.specs.Kinds.{exactly, body_kind, definition_kind, kinds_below, kind_at, pick_kind}
use Rattle.td_kinds.specs.declared.error.KindFault.{KindFault}
use Rattle.td_kinds.specs.KindRules.{kinds_to, definitions_faults, kind_faults, first_fault}

-- the kinds of those below n are as before
pub below_as_before : (ds : List TypeDef) (n j : ℕ) → j < n → kinds_below ds (suc n) j ≡ kinds_below ds n j
unfolding kinds_below
below_as_before ds n j less = by (nat_eq j n) refl
  where
    by : (b : Bool) → nat_eq j n ≡ b → pick_kind b (definition_kind (kinds_below ds n) (slice_get ds n)) (kinds_below ds n j) ≡ kinds_below ds n j
    by true e = let same : j ≡ n = eqb-true j n e in absurd (omega (arith, same, less))
    by false e = refl

-- and by more definitions too
pub below_more : (ds : List TypeDef) (n k j : ℕ) → j < n → kinds_below ds (n + k) j ≡ kinds_below ds n j
below_more ds n zero j lt = let e : n + 0 ≡ n = omega arith in ap (λ m. kinds_below ds m j) e
below_more ds n (suc k) j lt =
    let e : n + suc k ≡ suc (n + k) = omega arith in
    let less : j < n + k = omega (arith, lt) in
    ap (λ m. kinds_below ds m j) e ∙ below_as_before ds (n + k) j less ∙ below_more ds n k j lt

pub below_last : (ds : List TypeDef) (n : ℕ) → kinds_below ds (suc n) n ≡ definition_kind (kinds_below ds n) (slice_get ds n)
unfolding kinds_below
below_last ds n = by (nat_eq n n) refl
  where
    by : (b : Bool) → nat_eq n n ≡ b → pick_kind b (definition_kind (kinds_below ds n) (slice_get ds n)) (kinds_below ds n n) ≡ definition_kind (kinds_below ds n) (slice_get ds n)
    by true e = refl
    by false e = let apart = eqb-false n n e in absurd (apart refl)

below_past : (ds : List TypeDef) (n j : ℕ) → n ≤ j → kinds_below ds n j ≡ exactly 0
unfolding kinds_below
below_past ds zero j le = refl
below_past ds (suc n) j le = by (nat_eq j n) refl (below_past ds n j (omega (arith, le)))
  where
    by : (b : Bool) → nat_eq j n ≡ b → kinds_below ds n j ≡ exactly 0 → pick_kind b (definition_kind (kinds_below ds n) (slice_get ds n)) (kinds_below ds n j) ≡ exactly 0
    by true e earlier = let same : j ≡ n = eqb-true j n e in absurd (omega (arith, same, le))
    by false e earlier = earlier

places_last : (p n : ℕ) → places_from p (suc n) ≡ places_from p n ++ (p + n) ∷ []
places_last p zero = ap (λ k. k ∷ []) (omega arith)
places_last p (suc n) =
    ap (λ xs. p ∷ xs) (places_last (p + 1) n ∙ ap (λ k. places_from (p + 1) n ++ k ∷ []) (omega arith))

map_last : (f : ℕ → Kind) (xs : List ℕ) (y : ℕ) → map f (xs ++ y ∷ []) ≡ map f xs ++ f y ∷ []
map_last f [] y = refl
map_last f (x ∷ xs) y = ap (λ ks. f x ∷ ks) (map_last f xs y)

map_before : (ds : List TypeDef) (n p m : ℕ) → p + m ≤ n → map (kinds_below ds (suc n)) (places_from p m) ≡ map (kinds_below ds n) (places_from p m)
map_before ds n p zero le = refl
map_before ds n p (suc m) le =
    ap (λ k. k ∷ map (kinds_below ds (suc n)) (places_from (p + 1) m)) (below_as_before ds n p (omega (arith, le)))
    ∙ ap (λ ks. kinds_below ds n p ∷ ks) (map_before ds n (p + 1) m (omega (arith, le)))

-- one more definition
pub kinds_to_next : (ds : List TypeDef) (n : ℕ) (d : TypeDef) → slice_get ds n ≡ Some d → kinds_to ds (suc n) ≡ kinds_to ds n ++ body_kind (kinds_below ds n) d.body ∷ []
kinds_to_next ds n d is =
    ap (map (kinds_below ds (suc n))) (places_last 0 n)
    ∙ map_last (kinds_below ds (suc n)) (places_from 0 n) (0 + n)
    ∙ ap (λ ks. ks ++ kinds_below ds (suc n) (0 + n) ∷ []) (map_before ds n 0 n (omega arith))
    ∙ ap (λ j. kinds_to ds n ++ kinds_below ds (suc n) j ∷ []) (omega arith)
    ∙ ap (λ k. kinds_to ds n ++ k ∷ []) (below_last ds n ∙ ap (definition_kind (kinds_below ds n)) is)

at_place : (f : ℕ → Kind) (p m j : ℕ) → j < m → kind_at (map f (places_from p m)) j ≡ f (p + j)
at_place f p zero j less = absurd (omega (arith, less))
at_place f p (suc m) zero less = ap f (omega arith)
at_place f p (suc m) (suc j) less = at_place f (p + 1) m j (omega (arith, less)) ∙ ap f (omega arith)

at_none : (f : ℕ → Kind) (p m j : ℕ) → m ≤ j → kind_at (map f (places_from p m)) j ≡ exactly 0
at_none f p zero j le = refl
at_none f p (suc m) zero le = absurd (omega (arith, le))
at_none f p (suc m) (suc j) le = at_none f (p + 1) m j (omega (arith, le))

-- the list has at each place the kind of that definition
pub kind_at_kinds_to : (ds : List TypeDef) (n : ℕ) → kind_at (kinds_to ds n) ≡ kinds_below ds n
kind_at_kinds_to ds n = fun_ext each
  where
    each : (j : ℕ) → kind_at (kinds_to ds n) j ≡ kinds_below ds n j
    each j = by (nat_le n j) refl
      where
        by : (b : Bool) → nat_le n j ≡ b → kind_at (kinds_to ds n) j ≡ kinds_below ds n j
        by true e = let le : n ≤ j = leb-true n j e in at_none (kinds_below ds n) 0 n j le ∙ sym (below_past ds n j le)
        by false e = let less : j < n = leb-false n j e in at_place (kinds_below ds n) 0 n j less ∙ ap (kinds_below ds n) (omega arith)

pub got : {A : Type 0} (xs : List A) (i : ℕ) (x : A) → i < length xs → x ≡ get_or xs i x → slice_get xs i ≡ Some x
got [] i x low is = absurd (omega (arith, low))
got (y ∷ xs) zero x low is = ap Some (sym is)
got (y ∷ xs) (suc i) x low is = got xs i x (omega (arith, low)) is

pub no_faults : (fs : List KindFault) → first_fault fs ≡ None → fs ≡ []
no_faults [] h = refl
no_faults (f ∷ fs) h = absurd (none-some f (sym h))

-- the first fault by the list of all kinds is the module's
pub first_is : (m : Module) (ds : List TypeDef) (kinds seen : List Kind) (found : Option KindFault) → ds ≡ m.definitions → kinds ≡ kinds_to ds (length ds) → seen ≡ kinds
    → found ≡ first_fault (definitions_faults (kind_at seen) ds) → found ≡ first_fault (kind_faults m)
first_is m ds kinds seen found same all seen_is is =
    is
    ∙ ap (λ ks. first_fault (definitions_faults (kind_at ks) ds)) (seen_is ∙ all)
    ∙ ap (λ f. first_fault (definitions_faults f ds)) (kind_at_kinds_to ds (length ds))
    ∙ ap (λ xs. first_fault (definitions_faults (kinds_below xs (length xs)) xs)) same
