use Rattle.td_ast.specs.declared.parts.InputTree.TheVariants.{Parts}
use Rattle.td_front.proofs.Passing.{fault_told}
use Rattle.td_front.proofs.passes.flat.Goals as goal

pub returns-in-Err-clause-err : goal.returns-in-Err-clause-err
returns-in-Err-clause-err c = fault_told (Parts c.args.parts.now) c.in-Err.error c.from.result c.from.ensures c.in-Err.ensures.err
