-- Where memory may be lacking: an input has a marker, and one of its parts is no white space.
use Rattle.std.proofs.Common.{◌≡◌, refl}
use Rattle.td_cli_input.specs.Imports.{FrontError, JobError}
use Rattle.td_front.specs.declared.error.FrontError.TheVariants as front
use Rattle.td_job.specs.declared.error.JobError.TheVariants as jobs
use Rattle.td_cli_input.specs.declared.refusal.InputError.{InputError}
use Rattle.td_cli_input.specs.declared.refusal.InputError.TheVariants.{NoMemory}
use Rattle.td_cli_input.specs.Causes.{of_module, of_job}

-- that there was no memory was told of the module text
pub module_memory : (e : FrontError) (r : InputError) → r ≡ of_module e → r ≡ NoMemory → e ≡ front.NoMemory
module_memory front.NoMemory r is same = refl
module_memory (front.BadByte at) r is same = absurd (cc (is, same))
module_memory (front.OpenComment at) r is same = absurd (cc (is, same))
module_memory (front.BigNumber at) r is same = absurd (cc (is, same))
module_memory (front.Unexpected token at) r is same = absurd (cc (is, same))
module_memory (front.Deep token at) r is same = absurd (cc (is, same))
module_memory (front.Limit limit span) r is same = absurd (cc (is, same))
module_memory (front.Broken rule span) r is same = absurd (cc (is, same))
module_memory (front.Cycle span) r is same = absurd (cc (is, same))
module_memory (front.ZeroElement span) r is same = absurd (cc (is, same))
module_memory (front.RestNotLast span) r is same = absurd (cc (is, same))
module_memory (front.Unsafe span op) r is same = absurd (cc (is, same))
module_memory (front.Room span) r is same = absurd (cc (is, same))
module_memory (front.Value span) r is same = absurd (cc (is, same))

-- or of the job
pub job_memory : (e : JobError) (r : InputError) → r ≡ of_job e → r ≡ NoMemory → e ≡ jobs.NoMemory
job_memory jobs.NoMemory r is same = refl
job_memory (jobs.Fault rule path) r is same = absurd (cc (is, same))
