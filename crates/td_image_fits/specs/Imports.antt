-- Types of the crates below, by one path. Other crates don't see this file's names: a library passes on its own definitions alone.
pub use Rattle.td_ast.specs.declared.definitions.CaseTree.{CaseTree}
pub use Rattle.td_ast.specs.declared.definitions.Def.{Def}
pub use Rattle.td_ast.specs.declared.definitions.ModuleTree.{ModuleTree}
pub use Rattle.td_ast.specs.declared.fields.FieldTree.{FieldTree}
pub use Rattle.td_ast.specs.declared.token.Span.{Span}
pub use Rattle.td_ast.specs.declared.token.Token.{Token}
pub use Rattle.td_ast.specs.declared.token.TokenKind.{TokenKind}
pub use Rattle.td_core.specs.declared.expressions.Binary.{Binary}
pub use Rattle.td_core.specs.declared.expressions.Scalar.{Scalar}
pub use Rattle.td_core.specs.declared.module.Bits.{Bits}
pub use Rattle.td_core.specs.declared.module.Body.{Body}
pub use Rattle.td_core.specs.declared.module.Body.TheVariants.{Casetype, Struct}
pub use Rattle.td_core.specs.declared.module.Case.{Case}
pub use Rattle.td_core.specs.declared.module.CopyOut.{CopyOut}
pub use Rattle.td_core.specs.declared.module.Element.{Element}
pub use Rattle.td_core.specs.declared.module.Element.TheVariants.{Listed, Named, Number, Rest, Unit, Zeros}
pub use Rattle.td_core.specs.declared.module.Extent.{Extent}
pub use Rattle.td_core.specs.declared.module.Extent.TheVariants.{Filling, Given, Once, OnceFilling, UpToZero}
pub use Rattle.td_core.specs.declared.module.Field.{Field}
pub use Rattle.td_core.specs.declared.module.Module.{Module}
pub use Rattle.td_core.specs.declared.module.Part.{Part}
pub use Rattle.td_core.specs.declared.module.Source.{Source}
pub use Rattle.td_core.specs.declared.module.Source.TheVariants.{Cell as FromCell, Expression, Left}
pub use Rattle.td_core.specs.declared.module.TypeDef.{TypeDef}
pub use Rattle.td_elab_rules.specs.declared.breach.Rule.TheVariants.{BadAction, Mismatch, Narrowing, Twice}
pub use Rattle.td_elab_rules.specs.declared.known.Known.{Known}
pub use Rattle.td_elab_rules.specs.declared.known.Scope.{Scope}
pub use Rattle.td_ir.specs.declared.instructions.Instr.{Instr}
pub use Rattle.td_ir.specs.declared.tables.Parts.{Parts}
