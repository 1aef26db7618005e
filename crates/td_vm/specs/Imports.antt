-- Types of the crates below, by one path. Other crates don't see this file's names: a library passes on its own definitions alone.
pub use Rattle.td_core.specs.declared.module.Entry.{Entry}
pub use Rattle.td_core.specs.declared.outcome.Outcome.{Outcome}
pub use Rattle.td_core.specs.declared.outcome.Reason.{Reason}
pub use Rattle.td_core.specs.declared.outcome.TraceFrame.{TraceFrame}
pub use Rattle.td_core.specs.declared.outcome.Verdict.{Verdict}
pub use Rattle.td_core.specs.declared.outcome.Verdict.TheVariants.{Accept, Reject}
pub use Rattle.td_ir.specs.declared.instructions.Instr.{Instr}
pub use Rattle.td_ir.specs.declared.tables.Parts.{Parts}
pub use Rattle.td_stream.specs.declared.load.Load.{Load}
pub use Rattle.td_stream.specs.declared.stream.Stream.{Stream}
pub use Rattle.td_stream.specs.declared.stretch.Stretch.{Stretch}
pub use Rattle.td_verify.specs.declared.shape.Shape.{Shape}
pub use Rattle.td_verify.specs.declared.shape.Shape.TheVariants.{Again, Branch, Call, Close, Fail, Jump, Open, Return, Straight, While}
pub use Rattle.td_vm_step.specs.declared.activation.BlockExit.{BlockExit}
pub use Rattle.td_vm_step.specs.declared.activation.CodeView.{CodeView}
pub use Rattle.td_vm_step.specs.declared.activation.Level.{Level}
pub use Rattle.td_vm_step.specs.declared.activation.TraceRoom.{TraceRoom}
pub use Rattle.td_vm_step.specs.declared.slate.Slate.{Slate}
