use Rattle.std.proofs.Common.{◌≡◌, suc, ◌+◌, List, [], length, take, get_or, sym, ap, ◌∙◌, arith, ℕ}
use Rattle.std.proofs.Math.Seq.{take-suc}
use Rattle.td_ir.specs.declared.instructions.Instr.{Instr}
use Rattle.td_ir.specs.Fields.{named}
use Rattle.td_image_upgrade.specs.Upgrade.{with_used, used_in}
use Rattle.td_image_upgrade.proofs.Places.{used_more}
use Rattle.td_image_upgrade.proofs.upgrade.use_sites.Goals as goal

pub loop-instruction-preserved : goal.loop-instruction-preserved
loop-instruction-preserved c =
    let old = length c.args.parts.now.sites in
    let code = c.args.code.now in
    let i = c.loop-instruction.instruction-index in
    let next : i + 1 ≡ suc i = omega arith in
    let more : (d : Instr) → used_in old [] (take (i + 1) code) ≡ with_used old (used_in old [] (take i code)) (named (get_or code i d)) =
    λ d. ap (λ (m : ℕ). used_in old [] (take m code)) next ∙ ap (used_in old []) (take-suc code i d c.loop-instruction-test.true) ∙ used_more old [] (take i code) (get_or code i d) in (
      c.in_ok-use_site.ensures.used ∙ ap (λ (u : List ℕ). with_used old u c.named.result) c.loop-instruction.invariant.0 ∙ ap (with_used old (used_in old [] (take i code))) c.named.ensures ∙ sym (more _),
      c.in_ok-use_site.ensures.sites c.args.sites.now c.loop-instruction.invariant.1,
    )
