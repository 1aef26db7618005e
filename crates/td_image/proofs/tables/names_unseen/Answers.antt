use Rattle.std.proofs.Common.{inr, arith, []}
use Rattle.td_names.specs.Names.{with_name}
use Rattle.td_image.specs.Image as format
use Rattle.std.proofs.lemmas.Result.{err_from_is_err_and}
use Rattle.td_image.proofs.Loop.{goes_on, ends, is_done}
use Rattle.td_image.proofs.Kept.{first_row, memory_where}
use Rattle.td_image.proofs.tables.names_unseen.Goals as goal

pub returns-in_err-row-clause-read : goal.returns-in_err-row-clause-read
returns-in_err-row-clause-read c =
    let p = err_from_is_err_and c.from_residual.result c.from_residual.ensures.1 in
    rw (p.1, p.2) (ends (format.name c.args.version) with_name c.in_err-row.field-0.0 c.loop.rows c.args.count c.loop.counter c.loop.seen c.loop.rest.now ((format.names c.args.version c.args.count).read c.args.bytes.now) c.loop-test.true c.in_err-row.ensures.read c.loop.invariant.0)

pub returns-in_err-push-clause-memory : goal.returns-in_err-push-clause-memory
returns-in_err-push-clause-memory c = memory_where _ _ (omega arith, inr (first_row (format.name c.args.version) [] c.loop.seen c.args.bytes.now c.loop.rest.now c.loop.invariant.1 (c.in_ok-row.row, c.in_ok-row.after.now, c.in_ok-row.ensures.read)))

pub returns-in_err-see-clause-memory : goal.returns-in_err-see-clause-memory
returns-in_err-see-clause-memory c = memory_where _ _ (omega arith, inr (first_row (format.name c.args.version) [] c.loop.seen c.args.bytes.now c.loop.rest.now c.loop.invariant.1 (c.in_ok-row.row, c.in_ok-row.after.now, c.in_ok-row.ensures.read)))

pub returns-in_err-row-clause-memory : goal.returns-in_err-row-clause-memory
returns-in_err-row-clause-memory c =
    let p = err_from_is_err_and c.from_residual.result c.from_residual.ensures.1 in
    rw (p.1, p.2) (λ ran. (omega arith, inr (first_row (format.name c.args.version) [] c.loop.seen c.args.bytes.now c.loop.rest.now c.loop.invariant.1 (c.in_err-row.ensures.memory ran))))

pub loop-preserved : goal.loop-preserved
loop-preserved c = (
  rw (c.in_ok-push.ensures.ok, c.alone.ensures, c.in_ok-see.ensures.ok, c.as_slice.ensures) (goes_on (format.name c.args.version) with_name c.loop.rows c.args.count c.loop.counter c.loop.seen c.loop.rest.now c.in_ok-row.row c.in_ok-row.after.now ((format.names c.args.version c.args.count).read c.args.bytes.now) c.loop-test.true c.in_ok-row.ensures.read c.loop.invariant.0),
  inr (first_row (format.name c.args.version) [] c.loop.seen c.args.bytes.now c.loop.rest.now c.loop.invariant.1 (c.in_ok-row.row, c.in_ok-row.after.now, c.in_ok-row.ensures.read)),
)

pub returns-clause-read : goal.returns-clause-read
returns-clause-read c = is_done (format.name c.args.version) with_name c.loop.rows c.args.count c.loop.counter c.loop.seen c.loop.rest.now ((format.names c.args.version c.args.count).read c.args.bytes.now) c.loop-test.false c.loop.invariant.0
