use Rattle.std.proofs.Common.{subst}
use Rattle.td_verify.specs.Verify.{IsFirst, IsRightError}
use Rattle.td_verify.proofs.verify.verify_sound.Goals as goal

pub unreachable-requires : goal.unreachable-requires
unreachable-requires c =
    let e = c.in-Err-default-Breaks.field-0-1-0 in
    let f : IsFirst c.args.code e.rule e.at = subst (IsRightError c.args.code) c.in-Err-default-Breaks.field-0-1-is c.in-Err-default-Breaks.ensures.refused.1 in
    f.breaks.here (c.requires f.routine e.at f.is_in e.rule)
