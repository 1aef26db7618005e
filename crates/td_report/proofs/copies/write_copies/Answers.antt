use Rattle.std.proofs.Common.{◌<◌, ◌≤◌, length, get_or, flat_map, map, ap, sym, ◌∙◌, arith}
use Rattle.std.proofs.lemmas.Bool.Decides.{nat_tests}
use Rattle.std.proofs.lemmas.List.{length-map}
use Rattle.td_report.specs.Imports.{Buffer}
use Rattle.td_report.specs.Report.{copy_value, copy_line, with_bytes}
use Rattle.td_report.proofs.Composing.{each_written, each_stopped, writes_as}
use Rattle.td_report.proofs.Zipped.{pair_here, pair_within, few_first, few_second, take_whole, mapped_at}
use Rattle.td_report.proofs.copies.write_copies.Goals as goal

abbrev no_buffer : Buffer
no_buffer = record { name = record { number = 0 }; room = 0 }

pub returns-in_err-write_copy : goal.returns-in_err-write_copy
returns-in_err-write_copy g c =
    let i = c.loop-index.index in
    let held = g.B.CopyBuffer.held in
    let buffers = c.args.buffers.now in
    let copies = map held c.args.copies.now in
    let value = held c.in-Some.held.now in
    let there = c.in-Some.ensures.lookup.0 in
    let many = length-map c.args.copies.now held in
    let valued : i < length copies = grind (arith, nat_tests, there, many) in
    let is = ap held c.in-Some.ensures.lookup.1 ∙ sym (mapped_at held c.args.copies.now i c.in-Some.held.now) in
    let here =
    pair_here copy_value buffers copies i no_buffer value c.loop-index-test.true valued is
    ∙ ap (copy_value (get_or buffers i no_buffer)) (sym c.bytes.ensures) in
    each_stopped (copy_line c.args.m.now) (with_bytes buffers copies) i (copy_value no_buffer value) c.from_residual.result (pair_within copy_value buffers copies i c.loop-index-test.true valued)
    c.from_residual.ensures.0 c.loop-index.invariant (writes_as (ap (copy_line c.args.m.now) here) c.in_err-write_copy.ensures)

pub loop-index-preserved : goal.loop-index-preserved
loop-index-preserved g c =
    let i = c.loop-index.index in
    let held = g.B.CopyBuffer.held in
    let buffers = c.args.buffers.now in
    let copies = map held c.args.copies.now in
    let value = held c.in-Some.held.now in
    let there = c.in-Some.ensures.lookup.0 in
    let many = length-map c.args.copies.now held in
    let valued : i < length copies = grind (arith, nat_tests, there, many) in
    let is = ap held c.in-Some.ensures.lookup.1 ∙ sym (mapped_at held c.args.copies.now i c.in-Some.held.now) in
    let here =
    pair_here copy_value buffers copies i no_buffer value c.loop-index-test.true valued is
    ∙ ap (copy_value (get_or buffers i no_buffer)) (sym c.bytes.ensures) in
    each_written (copy_line c.args.m.now) (with_bytes buffers copies) i (copy_value no_buffer value) (pair_within copy_value buffers copies i c.loop-index-test.true valued)
    c.loop-index.invariant (writes_as (ap (copy_line c.args.m.now) here) c.in_ok-write_copy.ensures)

pub returns-after-loop-index : goal.returns-after-loop-index
returns-after-loop-index g c =
    let i = c.loop-index.index in
    let copies = map g.B.CopyBuffer.held c.args.copies.now in
    let zipped = with_bytes c.args.buffers.now copies in
    let few = few_first copy_value c.args.buffers.now copies in
    let past = c.loop-index-test.false in
    let all = take_whole zipped i (omega (arith, few, past)) in
    writes_as (ap (flat_map (copy_line c.args.m.now)) (sym all)) c.loop-index.invariant

pub returns-in_default : goal.returns-in_default
returns-in_default g c =
    let i = c.loop-index.index in
    let held = g.B.CopyBuffer.held in
    let copies = map held c.args.copies.now in
    let zipped = with_bytes c.args.buffers.now copies in
    let few = few_second copy_value c.args.buffers.now copies in
    let many = length-map c.args.copies.now held in
    let none = c.in_default.ensures.lookup.0 in
    let past : length copies ≤ i = grind (arith, nat_tests, none, many) in
    let all = take_whole zipped i (omega (arith, few, past)) in
    writes_as (ap (flat_map (copy_line c.args.m.now)) (sym all)) c.loop-index.invariant
