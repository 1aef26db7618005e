use Rattle.std.proofs.Common.{ℕ, ◌*◌, List, [], ◌∷◌, length, sym, subst}
use Rattle.td_core.specs.declared.module.Module.{Module}
use Rattle.td_words.specs.declared.view.SeatView.{SeatView}
use Rattle.td_posts.specs.declared.job.HostJob.{HostJob}
use Rattle.td_posts.specs.declared.ring.RingJob.{RingJob}
use Rattle.td_takes.specs.declared.take.Take.{Take}
use Rattle.td_takes.specs.TakesServed.{AreTaken, TakesServed}
use Rattle.td_host.proofs.laws.jobs_without_rings_are_served_by_workers_and_guests.Goals as goal

-- without rings no module of descriptors plays a part
no_module : (m other : Module) (job : HostJob) (room : ℕ) (takers : List SeatView) (shares : List (List Take)) → AreTaken job m room 1 [] takers shares → AreTaken job other room 1 [] takers shares
unfolding AreTaken
no_module m other job room [] [] a = tt
no_module m other job room [] (ts ∷ tss) a = absurd a
no_module m other job room (v ∷ vs) tss a = absurd a

pub returns : goal.returns
returns c m job replies takes host passes none s =
    let shares : List (List Take) = s.takes_are.shares in
    let are : AreTaken job m (8 * length job.words) 1 [] s.seats.takers shares = subst (λ (rs : List RingJob). AreTaken job m (8 * length job.words) 1 rs s.seats.takers shares) none s.takes_are.are in
    let t : TakesServed job [] m (8 * length job.words) takes s.seats.takers = record { shares = shares; are = are; takes_are = s.takes_are.takes_are } in
    let n = c.jobs_without_rings_have_no_take.ensures job m (8 * length job.words) takes s.seats.takers t in (
      n.1,
      n.2 host.ended s.seats.readers s.seats.guests s.seats.ended,
      λ other. record {
        replies_are = s.replies_are;
        seats = s.seats;
        passes_are = s.passes_are;
        answered = s.answered;
        takes_are = record {
          shares = shares;
          are = subst (λ (rs : List RingJob). AreTaken job other (8 * length job.words) 1 rs s.seats.takers shares) (sym none) (no_module m other job (8 * length job.words) s.seats.takers shares are);
          takes_are = s.takes_are.takes_are;
        };
      },
    )
