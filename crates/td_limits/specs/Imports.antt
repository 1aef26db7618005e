-- Types of the crates below, by one path. Other crates don't see this file's names: a library passes on its own definitions alone.
pub use Rattle.td_ast.specs.declared.actions.ActionTree.{ActionTree}
pub use Rattle.td_ast.specs.declared.actions.ActionTree.TheVariants.{Copied, Done}
pub use Rattle.td_ast.specs.declared.actions.Assigned.{Assigned}
pub use Rattle.td_ast.specs.declared.actions.Assigned.TheVariants.{FieldPtr, Value}
pub use Rattle.td_ast.specs.declared.definitions.CaseTree.{CaseTree}
pub use Rattle.td_ast.specs.declared.definitions.Def.{Def}
pub use Rattle.td_ast.specs.declared.definitions.Def.TheVariants.{Alias, Casetype, Define, Enum, Output, Struct}
pub use Rattle.td_ast.specs.declared.definitions.ItemTree.{ItemTree}
pub use Rattle.td_ast.specs.declared.definitions.ModuleTree.{ModuleTree}
pub use Rattle.td_ast.specs.declared.fields.ExtentTree.{ExtentTree}
pub use Rattle.td_ast.specs.declared.fields.ExtentTree.TheVariants.{Bits, ByteSize, Bytes, Given, OfCell, SingleElement, Zeroterm}
pub use Rattle.td_ast.specs.declared.fields.FieldTree.{FieldTree}
pub use Rattle.td_ast.specs.declared.fields.TypeKind.{TypeKind}
pub use Rattle.td_ast.specs.declared.names.PlainTree.{PlainTree}
pub use Rattle.td_ast.specs.declared.parameters.HeadTree.{HeadTree}
pub use Rattle.td_ast.specs.declared.parameters.ParamTree.{ParamTree}
pub use Rattle.td_ast.specs.declared.parameters.TargetTree.{TargetTree}
pub use Rattle.td_ast.specs.declared.token.Span.{Span}
