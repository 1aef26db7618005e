use Rattle.std.proofs.Common.{◌++◌, ◌<◌, length, take, sym, ap, ◌∙◌, arith}
use Rattle.td_ir.specs.declared.instructions.Instr.TheVariants as i
use Rattle.td_ir.specs.Listing.{line, lines}
use Rattle.td_ir.proofs.Listed.{lines_next}
use Rattle.td_ir.proofs.listing.listing.Goals as goal

pub loop-number-preserved : goal.loop-number-preserved
loop-number-preserved c =
    let js = c.as_slice-instructions.result.now in
    let k = c.loop-number.number in
    let test = c.loop-number-test.true in
    let within : k < length js = omega (arith, test) in
    c.in_ok-push_line.ensures
    ∙ ap (λ t. t ++ line k c.instruction_at.result) c.loop-number.invariant
    ∙ ap (λ j. lines 0 (take k js) ++ line k j) c.instruction_at.ensures
    ∙ sym (lines_next js k (i.Fail 0 0) within)
