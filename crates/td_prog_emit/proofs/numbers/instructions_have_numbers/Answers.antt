use Rattle.std.proofs.Common.{◌<◌, length, subst, sym, arith}
use Rattle.std.proofs.lemmas.List.{take_more}
use Rattle.td_num.proofs.Lists.{each_push}
use Rattle.td_prog_emit.proofs.Indexed.{taken_all}
use Rattle.td_prog_code.specs.Sentence.{HasNumber}
use Rattle.td_num.specs.Lists.{Each}
use Rattle.td_prog_emit.proofs.numbers.instructions_have_numbers.Goals as goal

pub loop-k-preserved : goal.loop-k-preserved
loop-k-preserved c =
    let h : c.loop-k.k < length c.args.parts.now.instructions = omega (arith, c.loop-k-test.true, c.len-k-end.ensures) in
    subst (Each (HasNumber c.args.parts.now)) (sym (take_more c.args.parts.now.instructions c.loop-k.k _ h)) (each_push (HasNumber c.args.parts.now) _ _ c.loop-k.invariant (subst (HasNumber c.args.parts.now) c.instruction_at.ensures c.has_number.ensures))

pub returns : goal.returns
returns c = subst (Each (HasNumber c.args.parts.now)) (taken_all c.args.parts.now.instructions c.loop-k.k (omega (arith, c.loop-k.auto.k-end, c.loop-k-test.false, c.len-k-end.ensures))) c.loop-k.invariant
