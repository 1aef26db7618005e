use Rattle.td_prog_emit.proofs.functions.parts_of.Goals as goal
use Rattle.std.proofs.Common.{sym, subst, ◌∙◌}
use Rattle.td_ir.specs.WellFormed.{IsCode}
use Rattle.td_verify.specs.Verify.{IsSound}

pub returns-clause-safe : goal.returns-clause-safe
returns-clause-safe c =
    let same = c.parts.ensures.same in
    let code = subst IsCode (sym same) c.parts.ensures.fits in
    let sound : IsSound c.args.code.now = c.code.ensures.sound in
    c.sound_code_is_safe.ensures c.parts.result.now code (subst IsSound (sym (same ∙ c.code.ensures.same)) sound)

pub returns-clause-sound : goal.returns-clause-sound
returns-clause-sound c =
    let sound : IsSound c.args.code.now = c.code.ensures.sound in
    subst IsSound (sym (c.parts.ensures.same ∙ c.code.ensures.same)) sound
