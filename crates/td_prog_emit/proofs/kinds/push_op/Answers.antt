use Rattle.td_prog_emit.proofs.kinds.push_op.Goals as goal
use Rattle.std.proofs.Common.{ℕ, List, ◌++◌, ◌*◌, replicate, codes, ap}
use Rattle.td_prog.specs.Syntax as syntax
use Rattle.td_prog_code.specs.Instructions.{operated}
use Rattle.td_prog_emit.proofs.Texts.{joined, line_end, recut}
use Rattle.td_prog_text.specs.Expressions.{expression, variable}

pub returns : goal.returns
returns c parts n whole =
    recut (joined (c.in_ok-push_into.ensures {u = tt}) (joined (c.in_ok-push_operated.ensures {u = tt}) c.push.ensures))
    (ap (λ (l : List ℕ). replicate {A = ℕ} (4 * c.args.depth) 32 ++ (variable (syntax.Reg c.args.into) ++ (codes " = " ++ l))) (line_end (expression (operated c.args.operator c.args.left c.args.right))))
