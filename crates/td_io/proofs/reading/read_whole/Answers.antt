use Rattle.std.proofs.Common.{◌+◌, arith}
use Rattle.td_io.proofs.Growth.{taken_more, taken_some}
use Rattle.td_io.proofs.reading.read_whole.Goals as goal

pub returns-then-count-limit-clause-taken : goal.returns-then-count-limit-clause-taken
returns-then-count-limit-clause-taken g c =
    taken_more _ _ _ c.pieces.bytes.items c.read.new.buf c.in-Ok.count (c.args.limit + 4096) c.pieces.invariant.read c.in-Ok.ensures.bytes.0 (omega (arith, c.in-Ok.ensures.bound))

pub returns-then-is_err-clause-taken : goal.returns-then-is_err-clause-taken
returns-then-is_err-clause-taken g c =
    taken_more _ _ _ c.pieces.bytes.items c.read.new.buf c.in-Ok.count (c.args.limit + 4096) c.pieces.invariant.read c.in-Ok.ensures.bytes.0 (omega (arith, c.in-Ok.ensures.bound))

pub returns-then-is_err-clause-within : goal.returns-then-is_err-clause-within
returns-then-is_err-clause-within g c =
    λ _.
    taken_more _ _ _ c.pieces.bytes.items c.read.new.buf c.in-Ok.count c.args.limit c.pieces.invariant.read c.in-Ok.ensures.bytes.0 (omega arith)

pub returns-then-is_err-clause-memory : goal.returns-then-is_err-clause-memory
returns-then-is_err-clause-memory g c =
    λ _.
    taken_some _ _ _ c.pieces.bytes.items c.read.new.buf c.in-Ok.count c.args.limit c.pieces.invariant.read c.in-Ok.ensures.bytes.0 (omega (arith, c.if-count-eq0.false)) (omega (arith, c.in-Ok.ensures.bound)) (omega arith)
