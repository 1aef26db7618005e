-- Types of the crates below, by one path. Other crates don't see this file's names: a library passes on its own definitions alone.
pub use Rattle.td_core.specs.declared.module.Module.{Module}
pub use Rattle.td_front.specs.declared.error.FrontError.{FrontError}
pub use Rattle.td_job.specs.declared.error.JobError.{JobError}
pub use Rattle.td_job.specs.declared.run_job.RunJob.{RunJob}
pub use Rattle.td_posts.specs.declared.job.HostJob.{HostJob}
