-- What holds of the generator's messages.
use Rattle.std.specs.Prelude.{◌≡◌, ℕ}
use Rattle.td_job.specs.declared.named.NamedJob.{NamedJob}
use Rattle.td_gen.specs.Message.{IsMessage}

-- one job is message n
abbrev pub OneMessageEach : Type 0
OneMessageEach = (n : ℕ) (a b : NamedJob) → IsMessage n a → IsMessage n b → a ≡ b

-- some job is message n
abbrev pub SomeMessageEach : Type 0
SomeMessageEach = (n : ℕ) → (job : NamedJob) × IsMessage n job
