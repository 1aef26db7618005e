use Rattle.std.proofs.Common.{◌<◌, ◌≤◌, None, length, flat_map, ap, sym, arith}
use Rattle.std.proofs.lemmas.Bool.Decides.{nat_tests}
use Rattle.td_report.specs.Imports.{Cell}
use Rattle.td_core.specs.declared.module.CellKind.TheVariants.{Number as NumberCell}
use Rattle.td_num.specs.declared.number.Width.TheVariants.{One}
use Rattle.td_report.specs.Report.{cell_value, cell_line, with_values}
use Rattle.td_report.proofs.Composing.{each_written, each_stopped, writes_as}
use Rattle.td_report.proofs.Zipped.{pair_here, pair_within, few_first, few_second, take_whole}
use Rattle.td_report.proofs.report.write_cells.Goals as goal

abbrev no_cell : Cell
no_cell = record { name = record { number = 0 }; field = None; kind = NumberCell One }

pub returns-in_err-write_cell : goal.returns-in_err-write_cell
returns-in_err-write_cell g c =
    let i = c.loop-index.index in
    let cells = c.args.cells.now in
    let values = c.args.values.now in
    let value = c.in-Some.value.now in
    let there = c.in-Some.ensures.lookup.0 in
    let valued : i < length values = grind (arith, nat_tests, there) in
    let here = pair_here cell_value cells values i no_cell value c.loop-index-test.true valued c.in-Some.ensures.lookup.1 in
    each_stopped (cell_line c.args.m.now) (with_values cells values) i (cell_value no_cell value) c.from_residual.result (pair_within cell_value cells values i c.loop-index-test.true valued)
    c.from_residual.ensures.0 c.loop-index.invariant (writes_as (ap (cell_line c.args.m.now) here) c.in_err-write_cell.ensures)

pub loop-index-preserved : goal.loop-index-preserved
loop-index-preserved g c =
    let i = c.loop-index.index in
    let cells = c.args.cells.now in
    let values = c.args.values.now in
    let value = c.in-Some.value.now in
    let there = c.in-Some.ensures.lookup.0 in
    let valued : i < length values = grind (arith, nat_tests, there) in
    let here = pair_here cell_value cells values i no_cell value c.loop-index-test.true valued c.in-Some.ensures.lookup.1 in
    each_written (cell_line c.args.m.now) (with_values cells values) i (cell_value no_cell value) (pair_within cell_value cells values i c.loop-index-test.true valued)
    c.loop-index.invariant (writes_as (ap (cell_line c.args.m.now) here) c.in_ok-write_cell.ensures)

pub returns-after-loop-index : goal.returns-after-loop-index
returns-after-loop-index g c =
    let i = c.loop-index.index in
    let zipped = with_values c.args.cells.now c.args.values.now in
    let few = few_first cell_value c.args.cells.now c.args.values.now in
    let past = c.loop-index-test.false in
    let all = take_whole zipped i (omega (arith, few, past)) in
    writes_as (ap (flat_map (cell_line c.args.m.now)) (sym all)) c.loop-index.invariant

pub returns-in_default : goal.returns-in_default
returns-in_default g c =
    let i = c.loop-index.index in
    let zipped = with_values c.args.cells.now c.args.values.now in
    let few = few_second cell_value c.args.cells.now c.args.values.now in
    let none = c.in_default.ensures.lookup.0 in
    let past : length c.args.values.now ≤ i = grind (arith, nat_tests, none) in
    let all = take_whole zipped i (omega (arith, few, past)) in
    writes_as (ap (flat_map (cell_line c.args.m.now)) (sym all)) c.loop-index.invariant
