use Rattle.std.proofs.Common.{◌+◌, ◌∙◌, ◌++◌, ap, drop}
use Rattle.td_expr.specs.Safe.{first}
use Rattle.td_arith.specs.Known.{facts_in}
use Rattle.td_arith.specs.SafeModule.{known_after, part_facts, part_unsafe, known_after_part, parts_unsafe, known_after_parts}
use Rattle.td_arith.proofs.Cutting.{all_known}
use Rattle.td_arith.proofs.Finding.{found_more, parts_left, known_left}
use Rattle.td_arith.proofs.fields.parts_unsafe.Goals as goal

pub loop-part-preserved : goal.loop-part-preserved
loop-part-preserved c =
    let facts = facts_in c.loop-part.known.items in
    let here = c.loop-part.here in
    let range = c.args.range in
    let ps = c.args.parts.now in
    let i = c.loop-part.part-index in
    let p = c.part-item in
    let more = c.first_of-found.result in
    let so_far = c.loop-part.invariant in
    let told = all_known _ _ _ c.in_ok-learn_part.ensures in
    let learned = c.in_ok-own.ensures.learned ∙ ap (λ fs. known_after fs p.result.refinement) told in
    let after = known_after_part here facts range p.result in
    record {
      left =
          ap (λ fs. first more (parts_unsafe c.in_ok-here.here fs range (drop (i + 1) ps))) learned
          ∙ ap (λ k. first more (parts_unsafe k after range (drop (i + 1) ps))) c.in_ok-here.ensures
          ∙ found_more c.loop-part.found c.in_ok-own.own more (part_unsafe (facts ++ part_facts here range p.result.bits) p.result) (parts_unsafe (here + 1) after range (drop (i + 1) ps)) _
          c.first_of-found.ensures (c.in_ok-own.ensures.first ∙ ap (λ fs. part_unsafe fs p.result) told) (parts_left here facts range ps i p.result c.loop-part.found _ c.loop-part-test.true p.is so_far.left);
      known =
          ap (λ fs. known_after_parts c.in_ok-here.here fs range (drop (i + 1) ps)) learned
          ∙ ap (λ k. known_after_parts k after range (drop (i + 1) ps)) c.in_ok-here.ensures
          ∙ known_left here facts range ps i p.result _ c.loop-part-test.true p.is so_far.known;
    }
