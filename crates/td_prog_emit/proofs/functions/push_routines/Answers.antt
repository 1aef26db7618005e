use Rattle.td_prog_emit.proofs.functions.push_routines.Goals as goal
use Rattle.std.proofs.Common.{◌<◌, ◌≡◌, ◌-◌, length, ap, ◌∙◌, arith, length-drop}
use Rattle.td_ir.specs.Tables.{first_of}
use Rattle.td_ir.specs.declared.tables.Routine.{Routine}
use Rattle.td_prog_emit.proofs.Growing.{end_is, functions_more, rest_is}
use Rattle.td_prog_emit.proofs.Standing.{fits}
use Rattle.td_prog_emit.proofs.Texts.{joined, recut}
use Rattle.td_prog_emit.specs.Written.{helper_names, routine_names}
use Rattle.td_prog_text.specs.Functions as texts
use Rattle.td_prog_text.specs.Names.{routine_name}

pub split_at-requires : goal.split_at-requires
split_at-requires c =
    let there : c.loop-n.n < length c.args.parts.now.routines = omega (arith, c.loop-n-test.true, c.len-n-end.ensures) in
    let h = end_is c.args.parts.now c.loop-n.n in
    let f = fits c.args.parts.now c.requires.sound c.requires.safe c.loop-n.n c.requires.code there in
    let r = ap (λ (r : Routine). r.length) c.routine_at.ensures in
    let e : length c.loop-n.rest.now ≡ length c.args.parts.now.instructions - first_of c.args.parts.now c.loop-n.n = ap length c.loop-n.invariant.left ∙ length-drop (first_of c.args.parts.now c.loop-n.n) c.args.parts.now.instructions in
    omega (arith, h, f, r, e)

pub loop-n-preserved : goal.loop-n-preserved
loop-n-preserved c = record {
  left = c.split_at.ensures.back ∙ rest_is c.args.parts.now c.loop-n.n c.loop-n.rest.now c.routine_at.result.now.length c.loop-n.invariant.left (ap (λ (r : Routine). r.length) c.routine_at.ensures);
  written =
      recut (joined c.loop-n.invariant.written (c.in_ok-push_routine.ensures {u = tt}))
      (functions_more c.args.parts.now (routine_name c.args.parts.now) (texts.routine c.args.parts.now.names helper_names (routine_names c.args.parts.now)) c.loop-n.n);
}
