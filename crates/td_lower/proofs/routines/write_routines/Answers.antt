use Rattle.std.proofs.Common.{◌≡◌, suc, ◌+◌, ◌<◌, length, Some, sym, ap, subst, ◌∙◌, arith}
use Rattle.td_lower_blocks.specs.Lowered.{body_parts, sites_in, first_site}
use Rattle.td_lower.specs.Code.{HasRoomFor}
use Rattle.td_lower.proofs.Places.{found, next_code, next_routine}
use Rattle.td_lower.proofs.routines.write_routines.Goals as goal
use Rattle.td_verify_lowered.proofs.Modules.{last_site}

pub write_routine-requires : goal.write_routine-requires
write_routine-requires c =
    let ds = c.args.definitions.now in
    let n = c.loop-n.n in
    let d = c.index-definitions-n.result in
    let lt : n < length ds = c.loop-n-test.true in
    let e = found ds n d lt c.index-definitions-n.is in
    subst (λ f. HasRoomFor f d) (sym c.loop-n.invariant.first) (c.requires.room n d e)

pub count_sites-first-requires : goal.count_sites-first-requires
count_sites-first-requires c =
    let ds = c.args.definitions.now in
    let n = c.loop-n.n in
    let d = c.index-definitions-n.result in
    let lt : n < length ds = c.loop-n-test.true in
    let r = (c.requires.room n d (found ds n d lt c.index-definitions-n.is)).sites in
    omega (arith, r)

pub overflow_add-first : goal.overflow_add-first
overflow_add-first c =
    let ds = c.args.definitions.now in
    let n = c.loop-n.n in
    let d = c.index-definitions-n.result in
    let lt : n < length ds = c.loop-n-test.true in
    let s = last_site ds n d lt (found ds n d lt c.index-definitions-n.is) in
    let f : c.loop-n.first ≡ first_site ds n = c.loop-n.invariant.first in
    let k : c.count_sites-first.result ≡ 2 + body_parts d.body = c.count_sites-first.ensures in
    let all = c.requires.sites in
    omega (arith, s, f, k, all)

pub loop-n-preserved : goal.loop-n-preserved
loop-n-preserved c =
    let ds = c.args.definitions.now in
    let n = c.loop-n.n in
    let d = c.index-definitions-n.result in
    let lt : n < length ds = c.loop-n-test.true in
    let e = found ds n d lt c.index-definitions-n.is in
    let f : c.loop-n.first ≡ first_site ds n = c.loop-n.invariant.first in
    let next : suc n ≡ n + 1 = omega arith in
    let k : c.count_sites-first.result ≡ sites_in (Some d) = c.count_sites-first.ensures in
    record {
      code = next_code ds n d c.loop-n.code c.write_routine.new.code c.loop-n.first e f c.loop-n.invariant.code c.in_ok-write_routine.ensures.code;
      routines = next_routine ds n d c.loop-n.routines c.write_routine.new.routines c.loop-n.first e f c.loop-n.invariant.routines c.in_ok-write_routine.ensures.routine;
      first = ap (λ x. x + c.count_sites-first.result) f ∙ (ap (λ x. first_site ds n + x) k ∙ (ap (λ o. first_site ds n + sites_in o) (sym e) ∙ ap (first_site ds) next));
    }
