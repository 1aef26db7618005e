-- Two lists of parameters, cells or copy buffers are the same, or they aren't.
use Rattle.std.proofs.Common.{◌≡◌, ℕ, List, [], ◌∷◌, Bool, true, false, Option, Some, None, ◌⊎◌, inl, inr, refl, ap}
use Rattle.std.proofs.lemmas.Bool.{cases_eq}
use Rattle.std.proofs.lemmas.Slice.Eq.{bytes_eq-Decides}
use Rattle.std.specs.Prelude.{bytes_eq}
use Rattle.td_num.specs.declared.number.Width.{Width}
use Rattle.td_num.specs.declared.number.Width.TheVariants.{One, Two, Four, Eight}
use Rattle.td_job_host.specs.Imports.{CellKind, Number, Pointer}
use Rattle.td_job_host.specs.Swaps.{Named, NamedRoom}

abbrev pub Decided : Type 0 → Type 0
Decided P = P ⊎ (P → ⊥)

name_decided : (a b : List ℕ) → Decided (a ≡ b)
name_decided a b = by_test (bytes_eq a b) refl
  where
    by_test : (test : Bool) → bytes_eq a b ≡ test → Decided (a ≡ b)
    by_test true e = inl ((bytes_eq-Decides a b).0 e)
    by_test false e = inr (λ same. let yes = (bytes_eq-Decides a b).1 same in cc)

field_decided : (a b : Option (List ℕ)) → Decided (a ≡ b)
field_decided None None = inl refl
field_decided None (Some y) = inr (λ e. cc)
field_decided (Some x) None = inr (λ e. cc)
field_decided (Some x) (Some y) =
    elim (name_decided x y) [
      | inl same ↦ inl (ap Some same)
      | inr other ↦ inr (λ e. let same : x ≡ y = cc in other same)
    ]

width_decided : (v w : Width) → Decided (v ≡ w)
width_decided One One = inl refl
width_decided One Two = inr (λ e. cc)
width_decided One Four = inr (λ e. cc)
width_decided One Eight = inr (λ e. cc)
width_decided Two One = inr (λ e. cc)
width_decided Two Two = inl refl
width_decided Two Four = inr (λ e. cc)
width_decided Two Eight = inr (λ e. cc)
width_decided Four One = inr (λ e. cc)
width_decided Four Two = inr (λ e. cc)
width_decided Four Four = inl refl
width_decided Four Eight = inr (λ e. cc)
width_decided Eight One = inr (λ e. cc)
width_decided Eight Two = inr (λ e. cc)
width_decided Eight Four = inr (λ e. cc)
width_decided Eight Eight = inl refl

kind_decided : (a b : CellKind) → Decided (a ≡ b)
kind_decided Pointer Pointer = inl refl
kind_decided Pointer (Number w) = inr (λ e. cc)
kind_decided (Number v) Pointer = inr (λ e. cc)
kind_decided (Number v) (Number w) =
    elim (width_decided v w) [
      | inl same ↦ inl (ap Number same)
      | inr other ↦ inr (λ e. let same : v ≡ w = cc in other same)
    ]

pub named_decided : (a b : Named) → Decided (a ≡ b)
named_decided a b =
    elim (name_decided a.name b.name) [
      | inr other ↦ inr (λ e. other (ap (λ (n : Named). n.name) e))
      | inl name ↦ elim (field_decided a.field b.field) [
        | inr other ↦ inr (λ e. other (ap (λ (n : Named). n.field) e))
        | inl field ↦ elim (kind_decided a.kind b.kind) [
          | inr other ↦ inr (λ e. other (ap (λ (n : Named). n.kind) e))
          | inl kind ↦ inl (λ i. record { name = name i; field = field i; kind = kind i })
        ]
      ]
    ]

pub room_decided : (a b : NamedRoom) → Decided (a ≡ b)
room_decided a b =
    elim (name_decided a.name b.name) [
      | inr other ↦ inr (λ e. other (ap (λ (n : NamedRoom). n.name) e))
      | inl name ↦ elim (cases_eq a.room b.room) [
        | inr other ↦ inr (λ e. other (ap (λ (n : NamedRoom). n.room) e))
        | inl room ↦ inl (λ i. record { name = name i; room = room i })
      ]
    ]

-- lists of what is decided
pub list_decided : {A : Type 0} → ((a b : A) → Decided (a ≡ b)) → (xs ys : List A) → Decided (xs ≡ ys)
list_decided each [] [] = inl refl
list_decided each [] (y ∷ ys) = inr (λ e. cc)
list_decided each (x ∷ xs) [] = inr (λ e. cc)
list_decided each (x ∷ xs) (y ∷ ys) =
    elim (each x y) [
      | inr other ↦ inr (λ e. let same : x ≡ y = cc in other same)
      | inl first ↦ elim (list_decided each xs ys) [
        | inr other ↦ inr (λ e. let same : xs ≡ ys = cc in other same)
        | inl rest ↦ inl (λ i. first i ∷ rest i)
      ]
    ]
