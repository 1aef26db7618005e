use Rattle.std.proofs.Common.{◌≡◌, ◌≢◌, length, sym, arith}
use Rattle.std.proofs.lemmas.Bool.Decides.{nat_tests}
use Rattle.td_report.proofs.Parts.{spaced_parts, spaced_none, some_bytes}
use Rattle.td_report.proofs.written.space_before.Goals as goal

pub returns-then-is_empty : goal.returns-then-is_empty
returns-then-is_empty c =
    let empty = c.if-is_empty.true in
    let tested = c.is_empty.ensures in
    let none : length c.args.bytes.now ≡ 0 = grind (arith, nat_tests) in
    spaced_none c.args.bytes.now none

pub returns-else-is_empty : goal.returns-else-is_empty
returns-else-is_empty c =
    let some = c.if-is_empty.false in
    let tested = c.is_empty.ensures in
    let many : length c.args.bytes.now ≢ 0 = grind (arith, nat_tests) in
    sym (spaced_parts c.args.bytes.now (some_bytes c.args.bytes.now many))
