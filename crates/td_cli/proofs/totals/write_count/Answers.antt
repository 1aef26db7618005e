use Rattle.std.proofs.Common.{◌≡◌, List, ℕ, ◌++◌, codes, sym, ◌∙◌}
use Rattle.std.specs.Fmt.{decimal}
use Rattle.td_report.proofs.Composing.{writes_both, writes_stopped, writes_as}
use Rattle.td_cli.specs.Totals.{count_line}
use Rattle.td_cli.proofs.totals.write_count.Goals as goal

pub returns-in_err-write_all : goal.returns-in_err-write_all
unfolding count_line
returns-in_err-write_all g c =
    let rest : List ℕ = decimal c.args.count ++ codes "\n" in
    writes_stopped rest c.from_residual.result c.from_residual.ensures.0 c.in_err-write_all.ensures

pub returns-in_err-write_all-2 : goal.returns-in_err-write_all-2
unfolding count_line
returns-in_err-write_all-2 g c =
    let text : c.as_bytes.result.now ≡ decimal c.args.count = c.as_bytes.ensures.value ∙ c.format.ensures.text in
    writes_both c.in_ok-write_all.ensures (writes_stopped (codes "\n") c.from_residual-in_err-write_all-2.result c.from_residual-in_err-write_all-2.ensures.0 (writes_as (sym text) c.in_err-write_all-2.ensures))

pub returns : goal.returns
unfolding count_line
returns g c =
    let text : c.as_bytes.result.now ≡ decimal c.args.count = c.as_bytes.ensures.value ∙ c.format.ensures.text in
    writes_both c.in_ok-write_all.ensures (writes_both (writes_as (sym text) c.in_ok-write_all-2.ensures) c.write_all-3.ensures)
