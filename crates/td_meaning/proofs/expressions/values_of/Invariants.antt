use Rattle.std.proofs.Common.{◌≡◌, ◌++◌, drop}
use Rattle.td_meaning.specs.Words64.{values}
use Rattle.td_meaning.proofs.expressions.values_of.Given as goal

-- the values found, and those of what is left
abbrev pub invariant-loop-expr : goal.invariant-loop-expr
invariant-loop-expr l = l.numbers.items ++ values (drop l.expr-index l.exprs) l.env ≡ values l.exprs l.env
