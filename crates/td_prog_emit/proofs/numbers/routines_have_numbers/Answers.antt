use Rattle.std.proofs.Common.{◌<◌, ◌^◌, length, subst, sym, arith}
use Rattle.std.proofs.lemmas.List.{take_more}
use Rattle.td_num.proofs.Lists.{each_push}
use Rattle.td_prog_emit.proofs.Indexed.{taken_all}
use Rattle.td_num.specs.Lists.{Each}
use Rattle.td_ir.specs.declared.tables.Routine.{Routine}
use Rattle.td_prog_emit.proofs.numbers.routines_have_numbers.Goals as goal

pub loop-n-preserved : goal.loop-n-preserved
loop-n-preserved c =
    let h : c.loop-n.n < length c.args.parts.now.routines = omega (arith, c.loop-n-test.true, c.len-n-end.ensures) in
    subst (Each (λ (r : Routine). Each (λ v. v < 2 ^ 32) r.buffers)) (sym (take_more c.args.parts.now.routines c.loop-n.n _ h)) (each_push (λ (r : Routine). Each (λ v. v < 2 ^ 32) r.buffers) _ _ c.loop-n.invariant (c.rooms_are_narrow.ensures))

pub returns : goal.returns
returns c = subst (Each (λ (r : Routine). Each (λ v. v < 2 ^ 32) r.buffers)) (taken_all c.args.parts.now.routines c.loop-n.n (omega (arith, c.loop-n.auto.n-end, c.loop-n-test.false, c.len-n-end.ensures))) c.loop-n.invariant
