-- Types of the crates below, by one path. Other crates don't see this file's names: a library passes on its own definitions alone.
pub use Rattle.td_ast.specs.declared.actions.ActionKind.TheVariants.{Act, Check, OnSuccess}
pub use Rattle.td_ast.specs.declared.actions.ActionTree.TheVariants.{Copied, Done}
pub use Rattle.td_ast.specs.declared.actions.Assigned.TheVariants.{FieldPtr, Value}
pub use Rattle.td_ast.specs.declared.definitions.Def.{Def}
pub use Rattle.td_ast.specs.declared.definitions.Def.TheVariants.{Alias, Casetype, Define, Enum, Output, Struct}
pub use Rattle.td_ast.specs.declared.definitions.ModuleTree.{ModuleTree}
pub use Rattle.td_ast.specs.declared.expressions.UnaryOperator.TheVariants.{Complement, Not}
pub use Rattle.td_ast.specs.declared.names.Name.{Name}
pub use Rattle.td_ast.specs.declared.token.Base.TheVariants.{Decimal, Hexadecimal}
pub use Rattle.td_ast.specs.declared.token.Span.{Span}
pub use Rattle.td_core.specs.declared.module.Module.{Module}
pub use Rattle.td_core.specs.declared.outcome.Reason.{Reason}
pub use Rattle.td_core.specs.declared.outcome.Reason.TheVariants.{Action, Constraint, Impossible, ListSize, NotEnough, Padding}
pub use Rattle.td_core.specs.declared.outcome.Spot.TheVariants.{Field, Switch, Where}
pub use Rattle.td_core.specs.declared.outcome.TraceFrame.{TraceFrame}
pub use Rattle.td_elab_rules.specs.declared.breach.Rule.TheVariants.{BadAction, Mismatch, Narrowing, NotConstant, NotReadable, Twice, Unknown, WrongArgs}
pub use Rattle.td_num.specs.declared.number.ByteOrder.{ByteOrder}
pub use Rattle.td_num.specs.declared.number.ByteOrder.TheVariants.{BigEndian, LittleEndian}
pub use Rattle.td_num.specs.declared.number.Width.{Width}
pub use Rattle.td_num.specs.declared.number.Width.TheVariants.{Eight, Four, One, Two}
