-- Types of the crates below, by one path. Other crates don't see this file's names: a library passes on its own definitions alone.
pub use Rattle.td_core.specs.declared.module.Cell.{Cell}
pub use Rattle.td_core.specs.declared.module.CellKind.{CellKind}
pub use Rattle.td_core.specs.declared.module.CellKind.TheVariants.{Number, Pointer}
pub use Rattle.td_core.specs.declared.module.NameId.{NameId}
pub use Rattle.td_core.specs.declared.module.Param.{Param}
pub use Rattle.td_ir.specs.declared.fields.Fields.{Fields}
pub use Rattle.td_ir.specs.declared.instructions.Instr.{Instr}
pub use Rattle.td_ir.specs.declared.tables.EntryPoint.{EntryPoint}
pub use Rattle.td_ir.specs.declared.tables.Parts.{Parts}
pub use Rattle.td_ir.specs.declared.tables.Routine.{Routine}
pub use Rattle.td_ir.specs.declared.tables.Site.{Site}
pub use Rattle.td_num.specs.declared.number.Width.{Width}
pub use Rattle.td_num.specs.declared.number.Width.TheVariants.{Eight, Four, One, Two}
pub use Rattle.td_verify.specs.declared.rule.VerifyError.{VerifyError}
