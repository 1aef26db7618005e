-- Types of the crates below, by one path. Other crates don't see this file's names: a library passes on its own definitions alone.
pub use Rattle.td_core.specs.declared.module.Buffer.{Buffer}
pub use Rattle.td_core.specs.declared.module.Cell.{Cell}
pub use Rattle.td_core.specs.declared.module.CellKind.{CellKind}
pub use Rattle.td_core.specs.declared.module.CellKind.TheVariants.{Number, Pointer}
pub use Rattle.td_core.specs.declared.module.Entry.{Entry}
pub use Rattle.td_core.specs.declared.module.Module.{Module}
pub use Rattle.td_core.specs.declared.module.Param.{Param}
pub use Rattle.td_core.specs.declared.module.TypeDef.{TypeDef}
pub use Rattle.td_front.specs.declared.error.FrontError.{FrontError}
pub use Rattle.td_job.specs.declared.error.JobError.{JobError}
pub use Rattle.td_job.specs.declared.error.JobError.TheVariants.{Fault, NoMemory}
pub use Rattle.td_job.specs.declared.error.Key.{Key}
pub use Rattle.td_job.specs.declared.error.Path.{Path}
pub use Rattle.td_posts.specs.declared.job.HostJob.{HostJob}
pub use Rattle.td_posts.specs.declared.job.Step.{Step}
pub use Rattle.td_posts.specs.declared.job.Step.TheVariants.{Post, Scatter, Store}
pub use Rattle.td_posts.specs.declared.mail.Mail.{Mail}
pub use Rattle.td_posts.specs.declared.ring.RingJob.{RingJob}
pub use Rattle.td_stream.specs.declared.stretch.Stretch.{Stretch}
