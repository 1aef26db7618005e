use Rattle.std.proofs.Common.{◌+◌, ◌∙◌, ap, drop}
use Rattle.td_expr.specs.Safe.{first_unsafe}
use Rattle.td_arith.specs.Known.{facts_in}
use Rattle.td_arith.specs.SafeModule.{list_unsafe}
use Rattle.td_arith.proofs.Finding.{found_more, args_left}
use Rattle.td_arith.proofs.fields.args_unsafe.Goals as goal

pub loop-e-preserved : goal.loop-e-preserved
loop-e-preserved c =
    let facts = facts_in c.args.known.now.items in
    let es = c.args.args.now in
    let i = c.loop-e.e-index in
    let e = c.e-item in
    let so_far = c.loop-e.invariant in
    record {
      left =
          found_more c.loop-e.found c.in_ok-own.own c.first_of-found.result (first_unsafe facts e.result) (list_unsafe facts (drop (i + 1) es)) _ c.first_of-found.ensures
          (c.in_ok-own.ensures.first ∙ ap (λ ks. first_unsafe (facts_in ks) e.result) so_far.known) (args_left facts es i e.result c.loop-e.found _ c.loop-e-test.true e.is so_far.left);
      known = c.in_ok-own.ensures.same ∙ so_far.known;
    }
