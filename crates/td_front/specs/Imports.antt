-- Types of the crates below, by one path. Other crates don't see this file's names: a library passes on its own definitions alone.
pub use Rattle.td_arith.specs.declared.error.ArithError.{ArithError}
pub use Rattle.td_ast.specs.declared.definitions.ModuleTree.{ModuleTree}
pub use Rattle.td_ast.specs.declared.parts.InputTree.{InputTree}
pub use Rattle.td_ast.specs.declared.token.Token.{Token}
pub use Rattle.td_core.specs.declared.module.Module.{Module}
pub use Rattle.td_elab.specs.declared.elaborate.ElabError.{ElabError}
pub use Rattle.td_elab_rules.specs.declared.breach.Rule.TheVariants.{Twice}
pub use Rattle.td_front_flat.specs.declared.error.FlatError.{FlatError}
pub use Rattle.td_kinds.specs.declared.error.KindError.{KindError}
pub use Rattle.td_lexer.specs.declared.error.LexError.{LexError}
pub use Rattle.td_lexer.specs.declared.error.LexError.TheVariants.{BadByte, BigNumber, NoMemory, OpenComment}
pub use Rattle.td_limits.specs.declared.limits.Excess.{Excess}
pub use Rattle.td_parser.specs.declared.error.ParseError.{ParseError}
