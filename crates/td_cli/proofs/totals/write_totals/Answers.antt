use Rattle.std.proofs.Common.{List, ℕ, ◌++◌, codes}
use Rattle.td_cli.specs.Totals.{count_line}
use Rattle.td_report.proofs.Composing.{writes_both, writes_stopped}
use Rattle.td_cli.proofs.totals.write_totals.Goals as goal

pub returns-in_err-write_count : goal.returns-in_err-write_count
returns-in_err-write_count g c =
    let t = c.args.totals in
    let rest : List ℕ = count_line (codes "accepted ") t.accepted ++ (count_line (codes "rejected ") t.rejected ++ (count_line (codes "bytes ") t.bytes ++ count_line (codes "loads ") t.loads)) in
    writes_stopped rest c.from_residual.result c.from_residual.ensures.0 c.in_err-write_count.ensures

pub returns-in_err-write_count-2 : goal.returns-in_err-write_count-2
returns-in_err-write_count-2 g c =
    let t = c.args.totals in
    let rest : List ℕ = count_line (codes "rejected ") t.rejected ++ (count_line (codes "bytes ") t.bytes ++ count_line (codes "loads ") t.loads) in
    writes_both c.in_ok-write_count.ensures (writes_stopped rest c.from_residual-in_err-write_count-2.result c.from_residual-in_err-write_count-2.ensures.0 c.in_err-write_count-2.ensures)

pub returns-in_err-write_count-3 : goal.returns-in_err-write_count-3
returns-in_err-write_count-3 g c =
    let t = c.args.totals in
    let rest : List ℕ = count_line (codes "bytes ") t.bytes ++ count_line (codes "loads ") t.loads in
    writes_both c.in_ok-write_count.ensures (writes_both c.in_ok-write_count-2.ensures (writes_stopped rest c.from_residual-in_err-write_count-3.result c.from_residual-in_err-write_count-3.ensures.0 c.in_err-write_count-3.ensures))

pub returns-in_err-write_count-4 : goal.returns-in_err-write_count-4
returns-in_err-write_count-4 g c =
    let rest : List ℕ = count_line (codes "loads ") c.args.totals.loads in
    writes_both c.in_ok-write_count.ensures (writes_both c.in_ok-write_count-2.ensures (writes_both c.in_ok-write_count-3.ensures (writes_stopped rest c.from_residual-in_err-write_count-4.result c.from_residual-in_err-write_count-4.ensures.0 c.in_err-write_count-4.ensures)))

pub returns : goal.returns
returns g c =
    writes_both c.in_ok-write_count.ensures (writes_both c.in_ok-write_count-2.ensures (writes_both c.in_ok-write_count-3.ensures (writes_both c.in_ok-write_count-4.ensures c.write_count-5.ensures)))
