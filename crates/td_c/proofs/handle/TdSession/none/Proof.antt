-- No slot: a null pointer and no mark, which own nothing.
use Rattle.std.proofs.Common.{◌<◌, ◌^◌, List, [], ◌∷◌, refl, arith, Err}
use mathlib.Core.Bool.{false}
use Rattle.std.specs.declared.option.Option.TheVariants.{None}
use Rattle.std.proofs.raw_atomic.Walks.{proved}
use base.Fml.{ftrue}
use mir.Val.{Val, vnull, vbool, vstruct, vcons, vnil}
use contract.Running.{tables}
use types.Kit.{‵, ◌⊛◌, ◌$◌, ◌∵◌, !, qed, drop, split, fjoin, feq_i, fpack, suffices, done}
use types.Run.{enter, lit, false_lit, no_more, and_then, returns}
use types.Part.{agg}
use types.ByLocal.{alloc_all, pass_all, free_all, look_at, sets}
use denote.Builtin.{bool, RawPtr}
use denote.RattleType.{Valss, owns}
use denote.RawPtr.{null_ptr}
use denote.Signature.{types_at}
use denote.Steps.{nothing}
use denote.Struct.Struct.{within}
use denote.Struct.Owning.{shape}
use denote.Triple.Walked.{Stays, walk_of, says, ends_at}
use Rattle.td_c.specs.declared.answers.Refusal.TheVariants.{Unfit}
use Rattle.td_c.specs.declared.handle.Slot.{Slot}
use Rattle.td_c.specs.declared.handle.TdSession.{TdSession}
use Rattle.td_c.specs.contracts.handle.TdSession as handle
use Rattle.td_c.specs.contracts.handle.TdSession.none as f
use Rattle.td_c.proofs.handle.TdSession.none.Statement.{statement}
use Rattle.td_c.proofs.handle.TdSession.none.Code as code

abbrev stayed : Stays f.ended.signature.params f.ended.kept
stayed = tt

zero_fits : 0 < 2 ^ 64
zero_fits = omega (arith)

-- what an empty handle is said to hold, of which nothing is known
abbrev empty : Slot
empty = record { session = None; answer = Err Unfit; made = []; waiting = None; publisher = None; reader = None; room = tt }

pub none_spec : {M : Type 1} → statement M
none_spec 𝓤 𝓛 𝓜 𝓡 wired =
    let c = f.clauses 𝓛 𝓜.mem 𝓡.returns in let W = walk_of 𝓛 f.ended stayed c in let 𝓣 = tables 𝓤 𝓛.H 𝓜 𝓡 𝓡.env in
    proved 𝓛 f.ended stayed c 𝓜 𝓡 tt
    f.Key.name code.function (code.unfolded 𝓤 𝓛.H 𝓜 𝓡 wired)
    (λ κs. tt) (λ κs. tt) (λ κs qs bounds a gh are.
    let h : TdSession = record { at = null_ptr; full = false; value = empty } in let hv : Val = vstruct (vcons vnull (vcons (vbool false) vnil)) in
    let y : W.Ghost = ((κs, qs, bounds, tt, tt), tt) in
    qed 𝓛 ((‵ ftrue ⊛ ‵ (owns (types_at f.signature.params κs) a y.0.4)) ∷ ‵ ftrue ∷ []) ∵ split ! $ drop ! $ drop ! $ drop ! $
    enter ! _ _ _ _ _ $ alloc_all ! (λ l. pass_all ! refl tt $
    sets ! (agg ! (and_then ! (lit ! tt) (and_then ! (false_lit !) (no_more !)))) refl (tt, (record { fits = zero_fits }, (tt, tt))) $
    returns ! (look_at ! 0 refl) $ free_all ! refl $
    nothing ! $ nothing ! $ feq_i ! (List Val) (vbool false ∷ []) (vbool false ∷ []) refl $ fjoin ! $
    feq_i ! (List Val) (vnull ∷ []) (vnull ∷ []) refl $ fjoin ! $ feq_i ! (List Val) (hv ∷ []) (hv ∷ []) refl $ fjoin ! $
    fpack ! (Valss (RawPtr ∷ bool ∷ [])) (within (shape handle.the_type) (null_ptr, (false, tt)) (hv ∷ [])) (vnull ∷ [], (vbool false ∷ [], tt)) $ fjoin ! $
    suffices ! _ (ends_at 𝓛 f.ended stayed c y hv h tt tt) $ says ! refl $
    nothing ! $ nothing ! $ done !))
