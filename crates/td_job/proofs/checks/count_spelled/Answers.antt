use Rattle.std.proofs.Common.{rules, sym}
use Rattle.td_job.proofs.Digits.{digits_count, digits_wrong}
use Rattle.td_job.proofs.checks.count_spelled.Goals as goal

pub returns-then-not-spells_bytes-clause-err : goal.returns-then-not-spells_bytes-clause-err
returns-then-not-spells_bytes-clause-err c =
    let first = digits_wrong c.args.key c.args.text.now (sym c.if-not-spells_bytes.ensures) in
    search (rules, first)

pub returns-clause-ok : goal.returns-clause-ok
returns-clause-ok c =
    let count = digits_count c.args.key c.args.text.now (sym c.if-not-spells_bytes.ensures) in
    search (rules, count.0, count.1)
