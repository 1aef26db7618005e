use Rattle.std.proofs.Common.{sym, subst, ◌∙◌}
use Rattle.td_ir.specs.WellFormed.{IsCode}
use Rattle.td_verify.specs.Verify.{IsSound}
use Rattle.td_prog_stack.proofs.depth.parts_of.Goals as goal

pub returns-clause-runnable : goal.returns-clause-runnable
returns-clause-runnable c =
    let same = c.parts.ensures.same in
    let code = subst IsCode (sym same) c.parts.ensures.fits in
    let sound : IsSound c.args.code.now = c.code.ensures.sound in
    record { code = code; safe = c.sound_code_is_safe.ensures c.parts.result.now code (subst IsSound (sym (same ∙ c.code.ensures.same)) sound) }
