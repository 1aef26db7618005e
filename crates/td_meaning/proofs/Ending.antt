-- Facts of endings that accept. Cited by other crates.
use Rattle.std.proofs.Common.{◌≡◌, ℕ, ◌+◌, ◌≤◌, Bool, true, false, List, refl, nat_le}
use Rattle.std.proofs.lemmas.Bool.{leb-true}
use Rattle.td_meaning.specs.Imports.{Reason, NotEnough}
use Rattle.td_core.specs.Outcome.{Behavior, Ending, Accepted, Rejected, FramePlace, onward, ending_within}
use Rattle.td_core.specs.Formed.{Bound, AllFit}
use Rattle.td_meaning.specs.Meaning.{demanded, taken}
use Rattle.td_meaning.specs.Throughout.{OnEnding}

-- it ends between two places, and the cells are within their bounds
abbrev pub Between : List Bound → ℕ → ℕ → ℕ → List ℕ → Type 0
Between all low high q cells = ((low ≤ q) × (q ≤ high)) × AllFit all cells

pub on_then : (o : Ending) (reads : List ℕ) (go : ℕ → List ℕ → Behavior) (P Q : ℕ → List ℕ → Type 0) → OnEnding o P
    → ((q : ℕ) (cells : List ℕ) → P q cells → OnEnding (go q cells).ending Q) → OnEnding (onward o reads go).ending Q
on_then (Accepted q cells) reads go P Q h k = k q cells h
on_then (Rejected reason position trace cells) reads go P Q h k = tt

pub on_map : (o : Ending) (P Q : ℕ → List ℕ → Type 0) → OnEnding o P → ((q : ℕ) (cells : List ℕ) → P q cells → Q q cells) → OnEnding o Q
on_map (Accepted q cells) P Q h k = k q cells h
on_map (Rejected reason position trace cells) P Q h k = tt

pub on_within : (site : FramePlace) (o : Ending) (P : ℕ → List ℕ → Type 0) → OnEnding o P → OnEnding (ending_within site o) P
on_within site (Accepted q cells) P h = h
on_within site (Rejected reason position trace cells) P h = tt

pub on_demanded : (reason : Reason) (b : Bool) (start q : ℕ) (cells : List ℕ) (P : ℕ → List ℕ → Type 0) → (b ≡ true → P q cells) → OnEnding (demanded reason b start q cells).ending P
on_demanded reason true start q cells P h = h refl
on_demanded reason false start q cells P h = tt

-- so many bytes before the end
pub on_taken : (all : List Bound) (n start end p : ℕ) (cells : List ℕ) → AllFit all cells
    → OnEnding (taken n start end p cells).ending (λ q more. (q ≡ p + n) × ((q ≤ end) × AllFit all more))
on_taken all n start end p cells f =
    on_demanded NotEnough (nat_le (p + n) end) start (p + n) cells (λ q more. (q ≡ p + n) × ((q ≤ end) × AllFit all more)) (λ e. (refl, (leb-true (p + n) end e, f)))
