-- Types of the crates below, by one path. Other crates don't see this file's names: a library passes on its own definitions alone.
pub use Rattle.td_core.specs.declared.module.Buffer.{Buffer}
pub use Rattle.td_core.specs.declared.module.Cell.{Cell}
pub use Rattle.td_core.specs.declared.module.Entry.{Entry}
pub use Rattle.td_core.specs.declared.module.Module.{Module}
pub use Rattle.td_core.specs.declared.module.NameId.{NameId}
pub use Rattle.td_core.specs.declared.outcome.Outcome.{Outcome}
pub use Rattle.td_core.specs.declared.outcome.Reason.{Reason}
pub use Rattle.td_core.specs.declared.outcome.Reason.TheVariants.{Action, Constraint, Impossible, ListSize, NotEnough, Padding}
pub use Rattle.td_core.specs.declared.outcome.Spot.{Spot}
pub use Rattle.td_core.specs.declared.outcome.Spot.TheVariants.{Field, Switch, Where}
pub use Rattle.td_core.specs.declared.outcome.TraceFrame.{TraceFrame}
pub use Rattle.td_core.specs.declared.outcome.Verdict.{Verdict}
pub use Rattle.td_core.specs.declared.outcome.Verdict.TheVariants.{Accept, Reject}
pub use Rattle.td_io.specs.declared.writing.WriteFault.{WriteFault}
pub use Rattle.td_stream.specs.declared.load.Load.{Load}
pub use Rattle.td_stream.specs.declared.stretch.Stretch.{Stretch}
