use Rattle.std.proofs.Common.{◌≡◌, ◌+◌, [], ◌∷◌, ◌++◌, ap, sym, refl, subst, ◌∙◌, arith}
use Rattle.td_stream.specs.declared.load.Load.{Load}
use Rattle.td_chain.specs.Loaded.{Holds, IsFresh, Grown}
use Rattle.td_chain.proofs.Finding.{value_holds, none_fresh}
use Rattle.td_chain.proofs.Growing.{grown_by}
use Rattle.td_chain.proofs.loaded.fetch.Goals as goal

pub returns-in-Some-clause-value : goal.returns-in-Some-clause-value
returns-in-Some-clause-value g c = λ m h.
    value_holds c.args.i c.in-Some.value c.as_slice.result.now m (sym c.in-Some.is ∙ c.found.ensures) (subst (Holds m) (sym c.as_slice.ensures) h)

pub load-value-requires-clause-fresh : goal.load-value-requires-clause-fresh
load-value-requires-clause-fresh g c =
    subst (IsFresh c.args.i) (c.as_slice.ensures ∙ c.requires.same) (none_fresh c.args.i c.as_slice.result.now (sym c.in_default.is ∙ c.found.ensures))

pub returns-clause-looked : goal.returns-clause-looked
returns-clause-looked g c =
    let l : Load = record { word = c.args.i; value = c.load-value.result } in
    let old = c.args.loads.now.list in
    let fresh : IsFresh c.args.i old = subst (IsFresh c.args.i) c.as_slice.ensures (none_fresh c.args.i c.as_slice.result.now (sym c.in_default.is ∙ c.found.ensures)) in
    let room = c.push.ensures.room in
    record {
      same = c.push.ensures.list ∙ ap (λ xs. xs ++ l ∷ []) c.requires.same ∙ sym c.load-value.ensures.logged;
      reaches = c.load-value.ensures.reaches;
      room = omega (arith, room);
      grown = subst (Grown (λ j. j ≡ c.args.i) old) (sym c.push.ensures.list) (grown_by (λ j. j ≡ c.args.i) old l refl fresh);
    }
