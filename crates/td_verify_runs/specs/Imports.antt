-- Types of the crates below, by one path. Other crates don't see this file's names: a library passes on its own definitions alone.
pub use Rattle.td_ir.specs.declared.instructions.Instr.{Instr}
pub use Rattle.td_ir.specs.declared.tables.Parts.{Parts}
pub use Rattle.td_verify.specs.declared.bracket.Bracket.{Bracket}
pub use Rattle.td_verify.specs.declared.bracket.Bracket.TheVariants.{Loop, Window}
pub use Rattle.td_verify.specs.declared.shape.Shape.{Shape}
pub use Rattle.td_verify.specs.declared.shape.Shape.TheVariants.{Again, Branch, Call, Close, Fail, Jump, Open, Return, Straight, While}
