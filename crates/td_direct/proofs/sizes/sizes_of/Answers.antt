use Rattle.std.proofs.Common.{rules, ◌≡◌, ℕ, List, [], ◌∷◌, ◌++◌, Some, length, length-append, arith, refl, subst, sym, ap, ◌∙◌}
use Rattle.std.specs.Prelude.{Option, slice_get}
use Rattle.std.proofs.lemmas.Option.{slice_get_read}
use Rattle.td_direct.specs.Imports.{TypeDef}
use Rattle.td_direct.specs.Passing.{AreSizes}
use Rattle.td_direct.proofs.PassingLemmas.{sizes_more}
use Rattle.td_direct.proofs.sizes.sizes_of.Goals as goal

pub loop-place-preserved : goal.loop-place-preserved
loop-place-preserved c =
    let m = c.args.m.now in
    let l = c.loop-place in
    let d : TypeDef = c.index-definitions-place.result in
    let definitions : List TypeDef = c.as_slice-definitions.result.now in
    let old : List (Option ℕ) = l.sizes.items in
    let o = c.passed_definition-size.result in
    let pushed : c.push.new.self.items ≡ old ++ o ∷ [] = search rules in
    let it : slice_get m.definitions l.place ≡ Some d = (λ k. slice_get (sym c.as_slice-definitions.ensures k) l.place) ∙ slice_get_read definitions (length definitions) l.place d refl c.loop-place-test.true c.index-definitions-place.is in
    record {
      long = ap (λ (xs : List (Option ℕ)). length xs) pushed ∙ omega (arith, l.invariant.long, length-append old (o ∷ []));
      right = subst (AreSizes m) (sym pushed) (sizes_more m old o d l.place l.invariant.long l.invariant.right it c.passed_definition-size.ensures);
    }
