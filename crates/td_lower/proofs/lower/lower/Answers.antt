use Rattle.std.proofs.Common.{◌≡◌, sym, subst, ◌∙◌}
use Rattle.std.proofs.lemmas.Result.{IfOk-weaker}
use Rattle.td_lower.specs.Imports.{Parts}
use Rattle.td_verify.specs.Verify.{IsSound}
use Rattle.td_lower_means.specs.CodeRun.{IsCodeOf}
use Rattle.td_lower.specs.Code.{MeansModule}
use Rattle.td_verify_lowered.specs.Modules.{IsNoHeavier}
use Rattle.td_lower.proofs.Lowers.{code_fits, sound, no_heavier, code_of, means}
use Rattle.td_lower.proofs.lower.lower.Goals as goal

pub verify_sound-requires : goal.verify_sound-requires
verify_sound-requires c = subst IsSound (sym c.in-Ok.ensures.same) (sound c.laws.ensures c.in_ok-parts.parts c.args.m.now c.in_ok-parts.ensures c.requires)

pub unreachable-requires : goal.unreachable-requires
unreachable-requires c = c.in-Err.ensures.refused.1 (code_fits c.laws.ensures c.in_ok-parts.parts c.args.m.now c.in_ok-parts.ensures c.requires)

pub returns-clause-code : goal.returns-clause-code
returns-clause-code c =
    IfOk-weaker c.verify_sound.result (λ code. code ≡ c.in-Ok.code) (λ code. IsCodeOf code c.args.m.now)
    (λ code h. subst (λ (x : Parts). IsCodeOf x c.args.m.now) (sym (h ∙ c.in-Ok.ensures.same)) (code_of c.laws.ensures c.in_ok-parts.parts c.args.m.now c.in_ok-parts.ensures c.requires)) c.verify_sound.ensures

pub returns-clause-means : goal.returns-clause-means
returns-clause-means c =
    IfOk-weaker c.verify_sound.result (λ code. code ≡ c.in-Ok.code) (λ code. MeansModule code c.args.m.now)
    (λ code h. subst (λ (x : Parts). MeansModule x c.args.m.now) (sym (h ∙ c.in-Ok.ensures.same)) (means c.laws.ensures c.in_ok-parts.parts c.args.m.now c.in_ok-parts.ensures c.requires)) c.verify_sound.ensures

pub returns-clause-weight : goal.returns-clause-weight
returns-clause-weight c =
    IfOk-weaker c.verify_sound.result (λ code. code ≡ c.in-Ok.code) (λ code. IsNoHeavier code c.args.m.now)
    (λ code h. subst (λ (x : Parts). IsNoHeavier x c.args.m.now) (sym (h ∙ c.in-Ok.ensures.same)) (no_heavier c.laws.ensures c.in_ok-parts.parts c.args.m.now c.in_ok-parts.ensures c.requires)) c.verify_sound.ensures
