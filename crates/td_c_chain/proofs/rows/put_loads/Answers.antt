use Rattle.std.proofs.Common.{rules, ◌<◌, length, slice_set, ap, ◌∙◌, arith}
use Rattle.td_c_chain.specs.Told.{load_told}
use Rattle.td_c_chain.proofs.Written.{written_one, written_all}
use Rattle.td_c_chain.proofs.rows.put_loads.Goals as goal

pub loop-i-preserved : goal.loop-i-preserved
loop-i-preserved c =
    let xs = c.args.loads.now in
    let was = c.args.rows.now in
    let i = c.loop-i.i in
    let end = c.min-i-end.ensures in
    let below = c.loop-i-test.true in
    let some : i < length xs = omega (arith, below, end) in
    let room : i < length was = omega (arith, below, end) in
    record {
      size = search rules;
      written = ap (λ r. slice_set c.loop-i.rows i r) c.load_row.ensures ∙ written_one load_told xs was c.loop-i.rows i _ some room c.loop-i.invariant.written;
    }

pub returns : goal.returns
returns c =
    let end = c.min-i-end.ensures in
    let most = c.loop-i.auto.i-end in
    let all = c.loop-i-test.false in
    written_all load_told c.args.loads.now c.args.rows.now c.loop-i.rows c.loop-i.i (omega (arith, end, most)) (omega (arith, end, most)) (omega (arith, end, all))
    c.loop-i.invariant.written
