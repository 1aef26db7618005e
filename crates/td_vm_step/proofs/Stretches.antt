-- A stretch of a run. Cited by other crates.
use Rattle.std.proofs.Common.{◌≡◌, ℕ, ◌+◌, List, [], refl, ◌∙◌, arith}
use Rattle.td_stream.specs.declared.load.Load.{Load}
use Rattle.td_stream.specs.Loads.{Carries}
use Rattle.td_stream.specs.StreamInvariant.{Later, Looked, loads_of, layout_of}
use Rattle.td_stream.specs.declared.stream.Stream.{Stream}
use Rattle.td_stream.proofs.Places.{look_nowhere}
use Rattle.td_stream.proofs.Stages.{carried}
use Rattle.td_vm_step.specs.declared.slate.Slate.{Slate}
use Rattle.td_vm_step.specs.Stepping.{Ran, IsLent, Hold}

-- what buffers hold, over two stretches
pub hold_on : {W : Type 0} {loads : W → List Load} {reaches : W → W → Type 0} (r s t : Stream W) (first : ℕ) (u v w : Slate) → Later loads reaches r s → Later loads reaches s t → Hold loads r s first u v → Hold loads s t first v w → Hold loads r t first u w
hold_on r s t first u v w h k f g = λ b c a. let d = carried r s t b h k c in g b d.1 (f b d.0 a)

pub lent_self : (s : Slate) → IsLent s s
lent_self s = record { same_cells = refl; same_copies = refl; same_trace = refl; cells = refl; copies = refl; rooms = refl; frames = refl; memory = refl }

pub lent_trans : (r s t : Slate) → IsLent r s → IsLent s t → IsLent r t
lent_trans r s t h k = record {
  same_cells = k.same_cells ∙ h.same_cells;
  same_copies = k.same_copies ∙ h.same_copies;
  same_trace = k.same_trace ∙ h.same_trace;
  cells = k.cells ∙ h.cells;
  copies = k.copies ∙ h.copies;
  rooms = k.rooms ∙ h.rooms;
  frames = k.frames ∙ h.frames;
  memory = k.memory ∙ h.memory;
}

-- a stretch without a step, in which nothing is looked at
pub ran_self : {W : Type 0} {loads : W → List Load} (s : Stream W) (n : ℕ) (P : List ℕ → List ℕ → ℕ → Type 0) → ((b : List ℕ) → P b [] 0) → Ran loads s s n n P
ran_self s n P h = record { touched = []; taken = 0; counted = omega arith; looked = look_nowhere s s refl refl; holds = λ b c. h b }

-- a stretch of so many steps that looks at these places
pub ran_here : {W : Type 0} {loads : W → List Load} (s t : Stream W) (from to : ℕ) (places : List ℕ) (k : ℕ) (P : List ℕ → List ℕ → ℕ → Type 0) → to ≡ from + k → Looked loads s t places → ((b : List ℕ) → Carries (layout_of s) b (loads_of loads t) → P b places k) → Ran loads s t from to P
ran_here s t from to places k P e l f = record { touched = places; taken = k; counted = e; looked = l; holds = f }

pub ran_weaker : {W : Type 0} {loads : W → List Load} (s t : Stream W) (a b : ℕ) (P R : List ℕ → List ℕ → ℕ → Type 0) → Ran loads s t a b P → ((m x : List ℕ) (j : ℕ) → P m x j → R m x j) → Ran loads s t a b R
ran_weaker s t a b P R p f = record { touched = p.touched; taken = p.taken; counted = p.counted; looked = p.looked; holds = λ m c. f m p.touched p.taken (p.holds m c) }
