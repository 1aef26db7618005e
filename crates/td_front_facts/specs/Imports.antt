-- Types of the crates below, by one path. Other crates don't see this file's names: a library passes on its own definitions alone.
pub use Rattle.td_ast.specs.declared.definitions.CaseTree.{CaseTree}
pub use Rattle.td_ast.specs.declared.definitions.Def.{Def}
pub use Rattle.td_ast.specs.declared.definitions.Def.TheVariants.{Alias, Casetype, Define, Enum, Output, Struct}
pub use Rattle.td_ast.specs.declared.definitions.ItemTree.{ItemTree}
pub use Rattle.td_ast.specs.declared.definitions.ModuleTree.{ModuleTree}
pub use Rattle.td_ast.specs.declared.fields.ExtentTree.{ExtentTree}
pub use Rattle.td_ast.specs.declared.fields.ExtentTree.TheVariants.{Bits, ByteSize, Bytes, Given, OfCell, SingleElement, Zeroterm}
pub use Rattle.td_ast.specs.declared.fields.FieldTree.{FieldTree}
pub use Rattle.td_ast.specs.declared.fields.TypeKind.{TypeKind}
pub use Rattle.td_ast.specs.declared.parameters.ParamTree.{ParamTree}
pub use Rattle.td_ast.specs.declared.parts.InputTree.{InputTree}
pub use Rattle.td_ast.specs.declared.parts.PartTree.{PartTree}
pub use Rattle.td_ast.specs.declared.token.Span.{Span}
pub use Rattle.td_ast.specs.declared.token.Token.{Token}
pub use Rattle.td_ast.specs.declared.token.TokenKind.{TokenKind}
pub use Rattle.td_core.specs.declared.module.Element.{Element}
pub use Rattle.td_core.specs.declared.module.Field.{Field}
pub use Rattle.td_core.specs.declared.module.Module.{Module}
pub use Rattle.td_core.specs.declared.module.NameId.{NameId}
pub use Rattle.td_core.specs.declared.module.TypeDef.{TypeDef}
pub use Rattle.td_elab_rules.specs.declared.fields.FlatField.{FlatField}
pub use Rattle.td_elab_rules.specs.declared.fields.OpenUnit.{OpenUnit}
pub use Rattle.td_elab_rules.specs.declared.known.Found.{Found}
pub use Rattle.td_elab_rules.specs.declared.known.Known.{Known}
pub use Rattle.td_elab_rules.specs.declared.known.Local.{Local}
pub use Rattle.td_elab_rules.specs.declared.known.Meaning.{Meaning}
pub use Rattle.td_elab_rules.specs.declared.known.Parameter.{Parameter}
pub use Rattle.td_elab_rules.specs.declared.known.Scope.{Scope}
pub use Rattle.td_limits.specs.declared.measures.Measure.{Measure}
pub use Rattle.td_num.specs.declared.number.NumberType.{NumberType}
pub use Rattle.td_num.specs.declared.number.Width.{Width}
