use Rattle.std.proofs.Common.{arith}
use Rattle.td_descr.proofs.Renumbered.{rises_by}
use Rattle.td_descr.proofs.descr.Descr.next.Goals as goal

pub returns-after-verdict-clause-rising : goal.returns-after-verdict-clause-rising
returns-after-verdict-clause-rising g c =
    rises_by _ _ _ _ _ _ _ _ c.validate_desc-verdict.ensures.are c.validate_desc-verdict.ensures.validated (omega arith)
