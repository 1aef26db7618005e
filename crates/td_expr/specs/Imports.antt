-- Types of the crates below, by one path. Other crates don't see this file's names: a library passes on its own definitions alone.
pub use Rattle.td_ast.specs.declared.token.Span.{Span}
pub use Rattle.td_core.specs.declared.expressions.Binary.{Binary}
pub use Rattle.td_core.specs.declared.expressions.Binary.TheVariants.{Add, BitAnd, BitOr, BitXor, Divide, Multiply, Remainder, ShiftLeft, ShiftRight, Subtract}
pub use Rattle.td_core.specs.declared.expressions.Relation.{Relation}
pub use Rattle.td_core.specs.declared.expressions.Relation.TheVariants.{Equal, Greater, GreaterEqual, Less, LessEqual, NotEqual}
pub use Rattle.td_core.specs.declared.expressions.Scalar.{Scalar}
pub use Rattle.td_core.specs.declared.expressions.Scalar.TheVariants.{Eight, Sixteen, SixtyFour, ThirtyTwo, Truth}
