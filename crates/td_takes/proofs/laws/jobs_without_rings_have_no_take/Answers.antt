use Rattle.std.proofs.Common.{◌≡◌, ℕ, List, [], ◌∷◌, ◌++◌, refl, ap, ◌∙◌}
use Rattle.td_core.specs.declared.module.Module.{Module}
use Rattle.td_words.specs.declared.view.SeatView.{SeatView}
use Rattle.td_posts.specs.declared.job.HostJob.{HostJob}
use Rattle.td_takes.specs.declared.take.Take.{Take}
use Rattle.td_takes.specs.TakesServed.{AreTaken, all_takes, NothingTaken}
use Rattle.std.proofs.Common.{append-nil as append_nil}
use Rattle.td_takes.proofs.laws.jobs_without_rings_have_no_take.Goals as goal

none : (job : HostJob) (m : Module) (room : ℕ) (takers : List SeatView) (shares : List (List Take)) → AreTaken job m room 1 [] takers shares → (takers ≡ []) × (all_takes shares ≡ [])
unfolding AreTaken all_takes
none job m room [] [] a = (refl, refl)
none job m room [] (ts ∷ tss) a = absurd a
none job m room (v ∷ vs) tss a = absurd a

nothing : NothingTaken
nothing job m room takes takers s =
    let n = none job m room takers s.shares s.are in
    (n.0, s.takes_are ∙ n.1, λ ended readers guests e. e ∙ ap (λ l. readers ++ l) (ap (λ l. guests ++ l) n.0 ∙ append_nil guests))

pub returns : goal.returns
returns c = nothing
