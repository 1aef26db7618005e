-- Types of the crates below, by one path. Other crates don't see this file's names: a library passes on its own definitions alone.
pub use Rattle.td_c_command.specs.declared.command.CFile.{CFile}
pub use Rattle.td_c_command.specs.declared.command.CFile.TheVariants.{Header, Parts, Source}
pub use Rattle.td_c_command.specs.declared.command.Command.{Command}
pub use Rattle.td_c_ends.specs.declared.refusal.InputError.{InputError}
pub use Rattle.td_c_ends.specs.declared.refusal.InputError.TheVariants.{NoMemory, Refused}
pub use Rattle.td_c_ends.specs.declared.refusal.Refusal.{Refusal}
pub use Rattle.td_c_ends.specs.declared.refusal.Refusal.TheVariants.{BadModule, BadName, NoEntry, TooLong}
pub use Rattle.td_c_ends.specs.declared.status.Status.{Status}
pub use Rattle.td_core.specs.declared.module.Module.{Module}
