-- Types of the crates below, by one path. Other crates don't see this file's names: a library passes on its own definitions alone.
pub use Rattle.td_core.specs.declared.module.Entry.{Entry}
pub use Rattle.td_core.specs.declared.module.Module.{Module}
pub use Rattle.td_core.specs.declared.module.TypeDef.{TypeDef}
pub use Rattle.td_sched.specs.declared.store.PlannedStore.{PlannedStore}
pub use Rattle.td_stream.specs.declared.stretch.Stretch.{Stretch}
pub use Rattle.td_write_values.specs.declared.error.WriteRule.{WriteRule}
