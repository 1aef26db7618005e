-- Types of the crates below, by one path. Other crates don't see this file's names: a library passes on its own definitions alone.
pub use Rattle.td_core.specs.declared.kind.Kind.{Kind}
pub use Rattle.td_core.specs.declared.module.Bits.{Bits}
pub use Rattle.td_core.specs.declared.module.Body.{Body}
pub use Rattle.td_core.specs.declared.module.Body.TheVariants.{Casetype, Struct}
pub use Rattle.td_core.specs.declared.module.Case.{Case}
pub use Rattle.td_core.specs.declared.module.CopyOut.{CopyOut}
pub use Rattle.td_core.specs.declared.module.Element.{Element}
pub use Rattle.td_core.specs.declared.module.Element.TheVariants.{Listed, Named, Number, Rest, Unit, Zeros}
pub use Rattle.td_core.specs.declared.module.Extent.{Extent}
pub use Rattle.td_core.specs.declared.module.Extent.TheVariants.{Filling, Given, Once, OnceFilling, UpToZero}
pub use Rattle.td_core.specs.declared.module.Field.{Field}
pub use Rattle.td_core.specs.declared.module.Module.{Module}
pub use Rattle.td_core.specs.declared.module.Part.{Part}
pub use Rattle.td_core.specs.declared.module.Source.{Source}
pub use Rattle.td_core.specs.declared.module.Source.TheVariants.{Cell as FromCell, Expression, Left}
pub use Rattle.td_core.specs.declared.module.TypeDef.{TypeDef}
pub use Rattle.td_ir.specs.declared.instructions.Instr.{Instr}
pub use Rattle.td_ir.specs.declared.tables.Parts.{Parts}
pub use Rattle.td_num.specs.declared.number.Width.{Width}
pub use Rattle.td_num.specs.declared.number.Width.TheVariants.{Eight, Four, One, Two}
pub use Rattle.td_verify.specs.declared.bracket.Bracket.{Bracket}
pub use Rattle.td_verify.specs.declared.bracket.Bracket.TheVariants.{Loop, Window}
pub use Rattle.td_verify.specs.declared.shape.Shape.{Shape}
