use Rattle.std.proofs.Common.{arith, sym, subst}
use Rattle.td_takes.specs.Takes.{Describes}
use Rattle.td_host.specs.Gathered.{IsReaderBy}
use Rattle.td_cli_host.proofs.Ringed.{Below, ring_sound, ring_code, if_ok_map}
use Rattle.td_cli_host.proofs.rings.reader_of.Goals as goal

pub arm-requires-clause-code : goal.arm-requires-clause-code
arm-requires-clause-code c =
    let below : Below = record { sound = c.evaluated_is_sound.ensures; arguments = c.arguments_fit.ensures; fits = c.shape_fits.ensures; within = c.shape_lies_within.ensures; none = c.shape_has_no_buffers.ensures } in
    ring_code below c.args.m.now c.requires.«module».1 c.args.room c.args.ring.most (omega (arith)) (omega (arith)) c.requires.checked c.in_ok-code.code c.in_ok-code.ensures.code

pub returns-clause-by : goal.returns-clause-by
returns-clause-by c =
    let below : Below = record { sound = c.evaluated_is_sound.ensures; arguments = c.arguments_fit.ensures; fits = c.shape_fits.ensures; within = c.shape_lies_within.ensures; none = c.shape_has_no_buffers.ensures } in
    let m = c.args.m.now in
    let own : Describes m c.in_ok-code.code c.args.room c.args.ring.most = record {
      code = c.in_ok-code.ensures.code;
      sound = ring_sound below m c.requires.«module».1 c.args.room c.args.ring.most (omega arith) (omega arith) c.requires.checked;
    } in
    if_ok_map c.arm.result _ (IsReaderBy m) (λ d e. subst (IsReaderBy m) (sym e) own) c.arm.ensures
