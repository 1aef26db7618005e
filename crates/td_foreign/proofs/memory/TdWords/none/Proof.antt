-- No words: a null pointer and the count 0, which own nothing.
use Rattle.std.proofs.Common.{◌<◌, ◌^◌, List, [], ◌∷◌, refl, w64, arith}
use Rattle.std.proofs.raw_atomic.Walks.{proved}
use base.Fml.{ftrue}
use mir.Val.{Val, vint, vnull, vstruct, vcons, vnil}
use contract.Running.{tables}
use types.Kit.{‵, ◌⊛◌, ◌$◌, ◌∵◌, !, qed, drop, split, fjoin, feq_i, flt_i, fpack, suffices, done}
use types.Run.{enter, lit, no_more, and_then, returns}
use types.Part.{agg}
use types.ByLocal.{alloc_all, pass_all, free_all, look_at, sets}
use denote.Builtin.{usize, RawPtr}
use denote.RattleType.{Valss, owns}
use denote.RawPtr.{null_ptr}
use denote.Signature.{types_at}
use denote.Steps.{nothing}
use denote.Struct.Struct.{within}
use denote.Struct.Owning.{shape}
use denote.Triple.Walked.{Stays, walk_of, says, ends_at}
use Rattle.td_foreign.specs.declared.memory.TdWords.{TdWords}
use Rattle.td_foreign.specs.contracts.memory.TdWords as words
use Rattle.td_foreign.specs.contracts.memory.TdWords.none as f
use Rattle.td_foreign.proofs.memory.TdWords.none.Statement.{statement}
use Rattle.td_foreign.proofs.memory.TdWords.none.Code as code

abbrev stayed : Stays f.ended.signature.params f.ended.kept
stayed = tt

zero_fits : 0 < 2 ^ 64
zero_fits = omega (arith)

pub none_spec : {M : Type 1} → statement M
none_spec 𝓤 𝓛 𝓜 𝓡 wired =
    let c = f.clauses 𝓛 𝓜.mem 𝓡.returns in let W = walk_of 𝓛 f.ended stayed c in let 𝓣 = tables 𝓤 𝓛.H 𝓜 𝓡 𝓡.env in
    proved 𝓛 f.ended stayed c 𝓜 𝓡 tt
    f.Key.name code.function (code.unfolded 𝓤 𝓛.H 𝓜 𝓡 wired)
    (λ κs. tt) (λ κs. tt) (λ κs qs bounds a gh are.
    let w : TdWords = record { at = null_ptr; count = 0; made = [] } in let wv : Val = vstruct (vcons vnull (vcons (vint w64 0) vnil)) in
    let y : W.Ghost = ((κs, qs, bounds, tt, tt), tt) in
    qed 𝓛 ((‵ ftrue ⊛ ‵ (owns (types_at f.signature.params κs) a y.0.4)) ∷ ‵ ftrue ∷ []) ∵ split ! $ drop ! $ drop ! $ drop ! $
    enter ! _ _ _ _ _ $ alloc_all ! (λ l. pass_all ! refl tt $
    sets ! (agg ! (and_then ! (lit ! tt) (and_then ! (lit ! tt) (no_more !)))) refl (tt, (record { fits = zero_fits }, (record { fits = zero_fits }, tt))) $
    returns ! (look_at ! 0 refl) $ free_all ! refl $
    nothing ! $ nothing ! $ flt_i ! 0 (2 ^ 64) zero_fits $ feq_i ! (List Val) (vint w64 0 ∷ []) (vint w64 0 ∷ []) refl $ fjoin ! $ fjoin ! $
    feq_i ! (List Val) (vnull ∷ []) (vnull ∷ []) refl $ fjoin ! $ feq_i ! (List Val) (wv ∷ []) (wv ∷ []) refl $ fjoin ! $
    fpack ! (Valss (RawPtr ∷ usize ∷ [])) (within (shape words.the_type) (null_ptr, (0, tt)) (wv ∷ [])) (vnull ∷ [], (vint w64 0 ∷ [], tt)) $ fjoin ! $
    suffices ! _ (ends_at 𝓛 f.ended stayed c y wv w tt tt) $ says ! (refl, refl) $
    nothing ! $ nothing ! $ done !))
