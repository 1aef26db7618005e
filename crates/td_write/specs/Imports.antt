-- Types of the crates below, by one path. Other crates don't see this file's names: a library passes on its own definitions alone.
pub use Rattle.td_core.specs.declared.module.Entry.{Entry}
pub use Rattle.td_core.specs.declared.module.Field.{Field}
pub use Rattle.td_core.specs.declared.module.Module.{Module}
pub use Rattle.td_core.specs.declared.module.Part.{Part}
pub use Rattle.td_core.specs.declared.module.TypeDef.{TypeDef}
pub use Rattle.td_core.specs.declared.outcome.Outcome.{Outcome}
pub use Rattle.td_core.specs.declared.outcome.Reason.{Reason}
pub use Rattle.td_core.specs.declared.outcome.Reason.TheVariants.{Constraint, Impossible}
pub use Rattle.td_core.specs.declared.outcome.Verdict.TheVariants.{Accept}
pub use Rattle.td_num.specs.declared.number.NumberType.{NumberType}
pub use Rattle.td_write_values.specs.declared.error.WriteError.{WriteError}
pub use Rattle.td_write_values.specs.declared.error.WriteRule.{WriteRule}
pub use Rattle.td_write_values.specs.declared.error.WriteRule.TheVariants.{Broken, Long, Range, Shape, Size}
