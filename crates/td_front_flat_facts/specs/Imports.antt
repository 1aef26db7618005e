-- Types of the crates below, by one path. Other crates don't see this file's names: a library passes on its own definitions alone.
pub use Rattle.td_ast.specs.declared.definitions.CaseTree.{CaseTree}
pub use Rattle.td_ast.specs.declared.definitions.Def.{Def}
pub use Rattle.td_ast.specs.declared.definitions.Def.TheVariants.{Alias, Casetype, Define, Enum, Output, Struct}
pub use Rattle.td_ast.specs.declared.fields.FieldTree.{FieldTree}
pub use Rattle.td_ast.specs.declared.names.Name.{Name}
pub use Rattle.td_ast.specs.declared.parameters.ParamTree.{ParamTree}
pub use Rattle.td_ast.specs.declared.parts.InputTree.TheVariants.{Module, Parts}
pub use Rattle.td_ast.specs.declared.parts.PartTree.{PartTree}
pub use Rattle.td_ast.specs.declared.token.Span.{Span}
pub use Rattle.td_front_flat.specs.declared.own.Own.{Own}
