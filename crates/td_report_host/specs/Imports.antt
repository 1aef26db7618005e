-- Types of the crates below, by one path. Other crates don't see this file's names: a library passes on its own definitions alone.
pub use Rattle.td_core.specs.declared.module.Entry.{Entry}
pub use Rattle.td_core.specs.declared.module.Module.{Module}
pub use Rattle.td_core.specs.declared.outcome.Outcome.{Outcome}
pub use Rattle.td_core.specs.declared.outcome.TraceFrame.{TraceFrame}
pub use Rattle.td_core.specs.declared.outcome.Verdict.{Verdict}
pub use Rattle.td_core.specs.declared.outcome.Verdict.TheVariants.{Accept, Reject}
pub use Rattle.td_descr.specs.declared.next.Next.{Next}
pub use Rattle.td_descr.specs.declared.next.Next.TheVariants.{Bad, Idle, Message, Overrun}
pub use Rattle.td_posts.specs.declared.reply.Reply.{Reply}
pub use Rattle.td_stream.specs.declared.load.Load.{Load}
pub use Rattle.td_stream.specs.declared.stretch.Stretch.{Stretch}
pub use Rattle.td_takes.specs.declared.take.Take.{Take}
