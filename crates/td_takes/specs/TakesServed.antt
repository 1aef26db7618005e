-- When all takes of a job's rings are made (own rule): what the served sentence gains.
use Rattle.std.specs.Prelude.{◌≡◌, ℕ, ◌+◌, false, List, [], ◌∷◌, ◌++◌, length}
use Rattle.td_core.specs.declared.module.Module.{Module}
use Rattle.td_words.specs.declared.view.SeatView.{SeatView}
use Rattle.td_posts.specs.declared.job.HostJob.{HostJob}
use Rattle.td_posts.specs.declared.ring.RingJob.{RingJob}
use Rattle.td_takes.specs.declared.take.Take.{Take}
use Rattle.td_takes.specs.Takes.{AreTakes, all_steps}

-- a reader's seat for each ring, the first of which is ring k: its takes are as many as the ring has, each stands by those before it, and
-- the seat's steps are their loads, each named by its word of the buffer, one take's directly after the other's, and no other
unfoldable pub AreTaken : HostJob → Module → ℕ → ℕ → List RingJob → List SeatView → List (List Take) → Type 0
AreTaken job m room k [] [] [] = Unit {0}
AreTaken job m room k [] [] (ts ∷ tss) = ⊥
AreTaken job m room k [] (v ∷ vs) tss = ⊥
AreTaken job m room k (ring ∷ rings) [] tss = ⊥
AreTaken job m room k (ring ∷ rings) (v ∷ vs) [] = ⊥
AreTaken job m room k (ring ∷ rings) (v ∷ vs) (ts ∷ tss) =
    (v.guest ≡ false) × (v.steps ≡ all_steps ring 0 ts) × (length ts ≡ ring.takes) × AreTakes job m room ring k 1 0 ts
    × AreTaken job m room (k + 1) rings vs tss

-- these lists, one after the other
unfoldable pub all_takes : List (List Take) → List Take
all_takes [] = []
all_takes (ts ∷ tss) = ts ++ all_takes tss

-- the takes, by ring and number, are those of these seats, by this module of descriptors, in a buffer of `room` bytes
pub record TakesServed (job : HostJob) (rings : List RingJob) (m : Module) (room : ℕ) (takes : List Take) (takers : List SeatView) : Type 0 where
  pub shares : List (List Take)
  pub are : AreTaken job m room 1 rings takers shares
  pub takes_are : takes ≡ all_takes shares

-- without rings there is no such seat and no take, and so the ended seats are those of the workers and guests alone
abbrev pub NothingTaken : Type 0
NothingTaken =
    (job : HostJob) (m : Module) (room : ℕ) (takes : List Take) (takers : List SeatView) → TakesServed job [] m room takes takers →
    (takers ≡ []) × (takes ≡ []) × ((ended readers guests : List SeatView) → ended ≡ readers ++ (guests ++ takers) → ended ≡ readers ++ guests)
