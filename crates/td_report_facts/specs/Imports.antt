-- Types of the crates below, by one path. Other crates don't see this file's names: a library passes on its own definitions alone.
pub use Rattle.td_core.specs.declared.module.Buffer.{Buffer}
pub use Rattle.td_core.specs.declared.module.Cell.{Cell}
pub use Rattle.td_core.specs.declared.module.Entry.{Entry}
pub use Rattle.td_core.specs.declared.module.Module.{Module}
pub use Rattle.td_core.specs.declared.module.TypeDef.{TypeDef}
pub use Rattle.td_core.specs.declared.outcome.Outcome.{Outcome}
pub use Rattle.td_core.specs.declared.outcome.TraceFrame.{TraceFrame}
pub use Rattle.td_job.specs.declared.error.Key.{Key}
pub use Rattle.td_job.specs.declared.run_job.RunJob.{RunJob}
pub use Rattle.td_posts.specs.declared.job.Step.{Step}
pub use Rattle.td_posts.specs.declared.job.Step.TheVariants.{Post, Scatter, Store}
pub use Rattle.td_posts.specs.declared.mail.Mail.{Mail}
pub use Rattle.td_sched.specs.declared.store.PlannedStore.{PlannedStore}
pub use Rattle.td_stream.specs.declared.load.Load.{Load}
pub use Rattle.td_stream.specs.declared.stretch.Stretch.{Stretch}
