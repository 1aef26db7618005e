-- The first marker of an input is there, or none is. Cited by other crates.
use Rattle.std.proofs.Common.{◌≡◌, ◌⊎◌, inl, inr, ℕ, zero, suc, ◌+◌, ◌-◌, ◌<◌, List, length, slice_index, refl, ap, subst, arith}
use Rattle.std.proofs.lemmas.Bool.{cases_lt, cases_eq}
use Rattle.td_cli_input.specs.Marker.{BeginsLine, EndsLine, IsMarker, IsFirstMarker}

Decided : Type 0 → Type 0
Decided P = P ⊎ (P → ⊥)

either_decided : (P Q : Type 0) → Decided P → Decided Q → Decided (P ⊎ Q)
unfolding Decided
either_decided P Q (inl p) q = inl (inl p)
either_decided P Q (inr p) (inl q) = inl (inr q)
either_decided P Q (inr p) (inr q) = inr (λ h. elim h [ inl x ↦ p x | inr x ↦ q x ])

less_decided : (a b : ℕ) → Decided (a < b)
unfolding Decided
less_decided a b = elim (cases_lt a b) [ inl h ↦ inl h | inr h ↦ inr (λ g. omega (arith, h, g)) ]

marker_decided : (input : List ℕ) (n : ℕ) → Decided (IsMarker input n)
unfolding Decided
marker_decided input n =
    by (less_decided n (length input)) (cases_eq (slice_index input n) 37) (cases_eq (slice_index input (n + 1)) 37)
    (either_decided (n ≡ 0) (slice_index input (n - 1) ≡ 10) (cases_eq n 0) (cases_eq (slice_index input (n - 1)) 10)) (either_decided (n + 2 ≡ length input) (slice_index input (n + 2) ≡ 10) (cases_eq (n + 2) (length input)) (cases_eq (slice_index input (n + 2)) 10))
  where
    by : Decided (n < length input) → Decided (slice_index input n ≡ 37) → Decided (slice_index input (n + 1) ≡ 37) → Decided (BeginsLine input n) → Decided (EndsLine input (n + 2)) → Decided (IsMarker input n)
    by (inr bad) b c d e = inr (λ h. bad h.within)
    by (inl a) (inr bad) c d e = inr (λ h. bad h.first)
    by (inl a) (inl b) (inr bad) d e = inr (λ h. bad h.second)
    by (inl a) (inl b) (inl c) (inr bad) e = inr (λ h. bad h.begins)
    by (inl a) (inl b) (inl c) (inl d) (inr bad) = inr (λ h. bad h.ends)
    by (inl a) (inl b) (inl c) (inl d) (inl e) = inl (record { within = a; first = b; second = c; begins = d; ends = e })

-- the first marker below a place, or none
pub marker_below : (input : List ℕ) (k : ℕ) → ((n : ℕ) × IsFirstMarker input n) ⊎ ((n : ℕ) → n < k → IsMarker input n → ⊥)
unfolding Decided
marker_below input zero = inr (λ n lt h. omega (arith, lt))
marker_below input (suc k) = by (marker_below input k) (marker_decided input k)
  where
    by : ((n : ℕ) × IsFirstMarker input n) ⊎ ((n : ℕ) → n < k → IsMarker input n → ⊥) → Decided (IsMarker input k) → ((n : ℕ) × IsFirstMarker input n) ⊎ ((n : ℕ) → n < suc k → IsMarker input n → ⊥)
    by (inl found) d = inl found
    by (inr none) (inl here) = inl (k, record { marker = here; before = none })
    by (inr none) (inr never) = inr (λ n lt h. elim (cases_eq n k) [ inl e ↦ never (subst (IsMarker input) e h) | inr apart ↦ none n (omega (arith, lt, order n k lt apart)) h ])
      where
        order : (n k : ℕ) → n < suc k → (n ≡ k → ⊥) → n < k
        order zero zero lt ne = absurd (ne refl)
        order zero (suc k) lt ne = omega arith
        order (suc n) zero lt ne = absurd (omega (arith, lt))
        order (suc n) (suc k) lt ne = let less = order n k (omega (arith, lt)) (λ e. ne (ap suc e)) in omega (arith, less)

-- an input has a first marker, where it isn't so that none is there
pub marker_there : (input : List ℕ) → (((n : ℕ) → IsMarker input n → ⊥) → ⊥) → (n : ℕ) × IsFirstMarker input n
marker_there input some = elim (marker_below input (length input)) [ inl found ↦ found | inr none ↦ absurd (some (λ n h. none n h.within h)) ]
