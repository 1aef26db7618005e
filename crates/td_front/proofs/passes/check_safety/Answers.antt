use Rattle.std.proofs.Common.{◌<◌, length, ap, Err, subst}
use Rattle.td_front.specs.Imports.{Module}
use Rattle.td_front.proofs.Memory.{arith_memory, has_definition}
use Rattle.td_front.proofs.passes.check_safety.Goals as goal
use Rattle.td_num.proofs.Equals.{same_error}

pub returns-in-Err-clause-memory : goal.returns-in-Err-clause-memory
returns-in-Err-clause-memory c =
    λ same.
    let P : Module → Type 0 = λ x. 0 < length x.definitions in
    has_definition c.args.tree.now (subst P c.requires.m (c.in-Err.ensures.memory (ap Err (arith_memory c.in-Err.error c.from.result c.from.ensures (same_error _ _ same)))))
