use Rattle.std.proofs.Common.{◌≡◌, ◌^◌, Bool, true, cond, nat_lt, sym, ap, ◌∙◌, arith}
use Rattle.std.proofs.lemmas.Bool.Decides.{nat_tests}
use Rattle.td_ir.specs.declared.instructions.Instr.TheVariants as i
use Rattle.td_meaning.specs.Meaning.{equals}
use Rattle.td_lower_blocks.specs.Block.{Window}
use Rattle.td_lower_blocks.specs.Constructs.{inner, steps, ByConstant, Never, Uneven}
use Rattle.td_lower_blocks.specs.Lowered.{one_inner}
use Rattle.td_lower_emit.specs.Emission.{laid, FinishesInner}
use Rattle.td_lower_emit.proofs.Writing.{window_written}
use Rattle.td_lower_emit.proofs.arrays.write_once_filling_constant.Goals as goal

pub returns : goal.returns
returns c = λ x k.
    let a0 = c.args.code.now in
    let n = c.args.size in
    let y1 = c.write-2.new.self in
    let y2 = c.write_one_if.new.code in
    let y3 = c.write-3.new.self in
    let one = one_inner c.args.t c.args.element.now c.args.u c.args.site in
    let own = λ (b : Bool). cond b one (Uneven c.args.site) in
    let w : FinishesInner y1 y2 (own c.equals.result) = c.in_ok-write_one_if.ensures in
    let lt : nat_lt n (2 ^ 32) ≡ true = grind (arith, nat_tests) in
    window_written a0 y1 y2 y3 (i.NarrowK n c.args.site) c.args.site x (inner (own c.equals.result)) (steps k) c.in_ok-write-2.ensures (w x) c.in_ok-write-3.ensures
    ∙ (ap (λ b. laid a0 x (Window (i.NarrowK n c.args.site) c.args.site (inner (own b)) (steps k))) c.equals.ensures
    ∙ ap (λ b. laid a0 x (steps (cond b (ByConstant n c.args.site (own (equals c.args.step n)) k) (Never c.args.site)))) (sym lt))
