-- Types of the crates below, by one path. Other crates don't see this file's names: a library passes on its own definitions alone.
pub use Rattle.td_ast.specs.declared.token.Span.{Span}
pub use Rattle.td_core.specs.declared.expressions.Binary.TheVariants.{Add, BitAnd, BitOr, BitXor, Divide, Multiply, Remainder, ShiftLeft, ShiftRight, Subtract}
pub use Rattle.td_core.specs.declared.expressions.Relation.TheVariants.{Equal, Greater, GreaterEqual, Less, LessEqual, NotEqual}
pub use Rattle.td_core.specs.declared.module.Bits.{Bits}
pub use Rattle.td_core.specs.declared.module.Body.{Body}
pub use Rattle.td_core.specs.declared.module.Body.TheVariants.{Casetype, Struct}
pub use Rattle.td_core.specs.declared.module.Buffer.{Buffer}
pub use Rattle.td_core.specs.declared.module.Cell.{Cell}
pub use Rattle.td_core.specs.declared.module.CellKind.TheVariants.{Number, Pointer}
pub use Rattle.td_core.specs.declared.module.CopyOut.{CopyOut}
pub use Rattle.td_core.specs.declared.module.Element.{Element}
pub use Rattle.td_core.specs.declared.module.Extent.{Extent}
pub use Rattle.td_core.specs.declared.module.Extent.TheVariants.{Filling, Given, Once, OnceFilling, UpToZero}
pub use Rattle.td_core.specs.declared.module.Field.{Field}
pub use Rattle.td_core.specs.declared.module.Module.{Module}
pub use Rattle.td_core.specs.declared.module.NameId.{NameId}
pub use Rattle.td_core.specs.declared.module.Param.{Param}
pub use Rattle.td_core.specs.declared.module.Part.{Part}
pub use Rattle.td_core.specs.declared.module.TypeDef.{TypeDef}
pub use Rattle.td_core.specs.declared.outcome.Outcome.{Outcome}
pub use Rattle.td_core.specs.declared.outcome.Reason.TheVariants.{Constraint, NotEnough}
pub use Rattle.td_core.specs.declared.outcome.Verdict.{Verdict}
pub use Rattle.td_ir.specs.declared.tables.Parts.{Parts}
pub use Rattle.td_num.specs.declared.number.ByteOrder.{ByteOrder}
pub use Rattle.td_num.specs.declared.number.ByteOrder.TheVariants.{BigEndian, LittleEndian}
pub use Rattle.td_num.specs.declared.number.NumberType.{NumberType}
pub use Rattle.td_num.specs.declared.number.Width.{Width}
pub use Rattle.td_num.specs.declared.number.Width.TheVariants.{Eight, Four, One, Two}
pub use Rattle.td_stream.specs.declared.load.Load.{Load}
pub use Rattle.td_stream.specs.declared.stretch.Stretch.{Stretch}
