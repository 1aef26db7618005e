use Rattle.std.proofs.Common.{◌≡◌, suc, ◌+◌, ◌^◌, true, cond, nat_lt, sym, ap, ◌∙◌, arith}
use Rattle.std.proofs.lemmas.Bool.Decides.{nat_tests}
use Rattle.td_ir.specs.declared.instructions.Instr.TheVariants as i
use Rattle.td_lower_blocks.specs.Block.{Done, Then, Window}
use Rattle.td_lower_blocks.specs.Constructs.{inner, steps, ByConstant, Never, CopyAll}
use Rattle.td_lower_emit.specs.Emission.{laid}
use Rattle.td_lower_emit.proofs.Writing.{one_written, window_written}
use Rattle.td_lower_emit.proofs.copies.write_copied_constant.Goals as goal

pub returns : goal.returns
returns c = λ x k.
    let a0 = c.args.code.now in
    let n = c.args.size in
    let site = c.args.site in
    let b = c.args.buffer in
    let y1 = c.write-2.new.self in
    let y2 = c.write-3.new.self in
    let y3 = c.write-4.new.self in
    let y4 = c.write-5.new.self in
    let next : c.args.t + 1 ≡ suc c.args.t = omega arith in
    let lt : nat_lt n (2 ^ 32) ≡ true = grind (arith, nat_tests) in
    window_written a0 y1 y3 y4 (i.NarrowK n site) site x (Then (i.Const (c.args.t + 1) n) (Then (i.Copy (c.args.t + 1) b site) Done)) (steps k) c.in_ok-write-2.ensures
    (one_written y2 y3 (i.Copy (c.args.t + 1) b site) x Done c.in_ok-write-4.ensures ∙ one_written y1 y2 (i.Const (c.args.t + 1) n) x (Then (i.Copy (c.args.t + 1) b site) Done) c.in_ok-write-3.ensures)
    c.in_ok-write-5.ensures
    ∙ (ap (λ u. laid a0 x (Window (i.NarrowK n site) site (inner (CopyAll u b n site)) (steps k))) next
    ∙ ap (λ b'. laid a0 x (steps (cond b' (ByConstant n site (CopyAll (suc c.args.t) b n site) k) (Never site)))) (sym lt))
