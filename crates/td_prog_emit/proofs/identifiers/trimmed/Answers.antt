use Rattle.std.proofs.Common.{◌≡◌, ◌++◌, [], ◌∷◌, length, Some, None, ap, sym, ◌∙◌, arith}
use Rattle.std.proofs.lemmas.Slice.Eq.{strip_suffix_is}
use Rattle.std.proofs.lemmas.Bool.Decides.{Decides-eqb}
use Rattle.std.proofs.lemmas.List.{length_push}
use Rattle.td_prog_emit.proofs.Trimming.{kept, trimmed_push}
use Rattle.td_prog_text.specs.Names.{trimmed}
use Rattle.td_prog_emit.proofs.identifiers.trimmed.Goals as goal

pub loop-front-preserved : goal.loop-front-preserved
loop-front-preserved c =
    let e : c.loop-front.rest.now ≡ c.in-Some.front.now ++ 95 ∷ [] = strip_suffix_is Decides-eqb c.loop-front.rest.now (95 ∷ []) (Some c.in-Some.front) (c.in-Some.ensures {u = tt}).cases in
    sym (trimmed_push c.in-Some.front.now) ∙ ap trimmed (sym e) ∙ c.loop-front.invariant

pub loop-front-smaller : goal.loop-front-smaller
loop-front-smaller c =
    let e : c.loop-front.rest.now ≡ c.in-Some.front.now ++ 95 ∷ [] = strip_suffix_is Decides-eqb c.loop-front.rest.now (95 ∷ []) (Some c.in-Some.front) (c.in-Some.ensures {u = tt}).cases in
    omega (arith, ap length e ∙ length_push c.in-Some.front.now 95)

pub returns : goal.returns
returns c =
    sym (kept c.loop-front.rest.now (strip_suffix_is Decides-eqb c.loop-front.rest.now (95 ∷ []) None (c.in_default.ensures {u = tt}).cases)) ∙ c.loop-front.invariant
