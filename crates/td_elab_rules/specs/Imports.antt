-- Types of the crates below, by one path. Other crates don't see this file's names: a library passes on its own definitions alone.
pub use Rattle.td_ast.specs.declared.actions.ActionTree.{ActionTree}
pub use Rattle.td_ast.specs.declared.actions.ActionTree.TheVariants.{Copied, Done}
pub use Rattle.td_ast.specs.declared.actions.Assigned.{Assigned}
pub use Rattle.td_ast.specs.declared.actions.Assigned.TheVariants.{FieldPtr, Value}
pub use Rattle.td_ast.specs.declared.definitions.CaseTree.{CaseTree}
pub use Rattle.td_ast.specs.declared.definitions.CasetypeTree.{CasetypeTree}
pub use Rattle.td_ast.specs.declared.definitions.Def.{Def}
pub use Rattle.td_ast.specs.declared.definitions.Def.TheVariants.{Alias, Casetype, Define, Enum, Output, Struct}
pub use Rattle.td_ast.specs.declared.definitions.EnumTree.{EnumTree}
pub use Rattle.td_ast.specs.declared.definitions.ItemTree.{ItemTree}
pub use Rattle.td_ast.specs.declared.definitions.ModuleTree.{ModuleTree}
pub use Rattle.td_ast.specs.declared.definitions.SlotTree.{SlotTree}
pub use Rattle.td_ast.specs.declared.definitions.StructTree.{StructTree}
pub use Rattle.td_ast.specs.declared.expressions.SizeofOperand.{SizeofOperand}
pub use Rattle.td_ast.specs.declared.expressions.UnaryOperator.{UnaryOperator}
pub use Rattle.td_ast.specs.declared.expressions.UnaryOperator.TheVariants.{Complement, Not}
pub use Rattle.td_ast.specs.declared.fields.ExtentTree.{ExtentTree}
pub use Rattle.td_ast.specs.declared.fields.FieldTree.{FieldTree}
pub use Rattle.td_ast.specs.declared.fields.TypeKind.{TypeKind}
pub use Rattle.td_ast.specs.declared.fields.TypeTree.{TypeTree}
pub use Rattle.td_ast.specs.declared.names.ConstTree.{ConstTree}
pub use Rattle.td_ast.specs.declared.names.Name.{Name}
pub use Rattle.td_ast.specs.declared.names.PlainTree.{PlainTree}
pub use Rattle.td_ast.specs.declared.parameters.ParamTree.{ParamTree}
pub use Rattle.td_ast.specs.declared.token.Span.{Span}
pub use Rattle.td_core.specs.declared.expressions.Binary.{Binary}
pub use Rattle.td_core.specs.declared.expressions.Scalar.{Scalar}
pub use Rattle.td_core.specs.declared.expressions.Scalar.TheVariants.{Eight, Sixteen, SixtyFour, ThirtyTwo, Truth}
pub use Rattle.td_core.specs.declared.module.Bits.{Bits}
pub use Rattle.td_core.specs.declared.module.Buffer.{Buffer}
pub use Rattle.td_core.specs.declared.module.Cell.{Cell}
pub use Rattle.td_core.specs.declared.module.CellKind.{CellKind}
pub use Rattle.td_core.specs.declared.module.CellKind.TheVariants.{Number, Pointer}
pub use Rattle.td_core.specs.declared.module.CopyOut.{CopyOut}
pub use Rattle.td_core.specs.declared.module.Element.{Element}
pub use Rattle.td_core.specs.declared.module.Extent.{Extent}
pub use Rattle.td_core.specs.declared.module.Extent.TheVariants.{Filling, Given, Once, OnceFilling, UpToZero}
pub use Rattle.td_core.specs.declared.module.Field.{Field}
pub use Rattle.td_core.specs.declared.module.Module.{Module}
pub use Rattle.td_core.specs.declared.module.NameId.{NameId}
pub use Rattle.td_core.specs.declared.module.Param.{Param}
pub use Rattle.td_core.specs.declared.module.Part.{Part}
pub use Rattle.td_core.specs.declared.module.Source.{Source}
pub use Rattle.td_core.specs.declared.module.TypeDef.{TypeDef}
pub use Rattle.td_num.specs.declared.number.ByteOrder.{ByteOrder}
pub use Rattle.td_num.specs.declared.number.ByteOrder.TheVariants.{BigEndian, LittleEndian}
pub use Rattle.td_num.specs.declared.number.NumberType.{NumberType}
pub use Rattle.td_num.specs.declared.number.Width.{Width}
