-- `some` keeps a reference as the pointer that it is.
use Rattle.std.proofs.Common.{ℕ, List, [], ◌∷◌, refl, MutBor}
use mathlib.Core.Bool.{true}
use Rattle.std.proofs.raw_atomic.Walks.{proved}
use base.Fml.{ftrue}
use mir.Syntax.{static}
use mir.Val.{Val, vptr, vbool, vstruct, vcons, vnil}
use contract.Running.{tables}
use types.Kit.{‵, ◌⊛◌, ◌$◌, ◌∵◌, !, qed, move, drop, split, join, fsplit, fjoin, feq_i, fpack, suffices, done}
use types.Run.{enter, of_opd, addr, true_lit, no_more, and_then, returns, stop}
use types.Part.{agg}
use types.ByLocal.{alloc_all, pass_all, free_all, look_at, get, through, sets}
use denote.Builtin.{bool, RawPtr}
use denote.Exit.{no}
use denote.RattleType.{Valss, owns}
use denote.RawPtr.{block_ptr}
use denote.Ref.{mut_vals, mut_Tells}
use denote.Signature.{types_at}
use denote.Steps.{nothing}
use denote.Struct.Struct.{within}
use denote.Struct.Owning.{shape}
use denote.Triple.Walked.{Stays, walk_of, says, stay_dropped, Goes-dropped, ends_at}
use Rattle.td_c.specs.Handle.{slot_place, slot_is}
use Rattle.td_c.specs.declared.handle.Slot.{Slot}
use Rattle.td_c.specs.declared.handle.TdSession.{TdSession}
use Rattle.td_c.specs.contracts.handle.Slot as slot
use Rattle.td_c.specs.contracts.handle.TdSession as handle
use Rattle.td_c.specs.contracts.handle.TdSession.some as f
use Rattle.td_c.proofs.handle.TdSession.some.Statement.{statement}
use Rattle.td_c.proofs.handle.TdSession.some.Code as code

abbrev stayed : Stays f.ended.signature.params f.ended.kept
stayed = (stay_dropped slot_place no, tt)

pub some_spec : {M : Type 1} → statement M
some_spec 𝓤 𝓛 𝓜 𝓡 wired =
    let c = f.clauses 𝓛 𝓜.mem 𝓡.returns in let W = walk_of 𝓛 f.ended stayed c in let 𝓣 = tables 𝓤 𝓛.H 𝓜 𝓡 𝓡.env in
    proved 𝓛 f.ended stayed c 𝓜 𝓡 (Goes-dropped 𝓛 0 slot_place no (λ κs x w. refl), tt)
    f.Key.name code.function (code.unfolded 𝓤 𝓛.H 𝓜 𝓡 wired)
    (λ κs. (mut_vals, tt)) (λ κs. (mut_Tells static [] slot.the_row, tt)) (λ κs qs bounds a gh are.
    let r : MutBor Slot = a.0 in let b : ℕ = r.ref_ptr.0 in let o : ℕ = r.ref_ptr.1 in
    let h : TdSession = record { at = block_ptr b o; full = true; value = r.now } in let hv : Val = vstruct (vcons (vptr b o) (vcons (vbool true) vnil)) in
    let y : W.Ghost = ((κs, qs, bounds, a, (vptr b o ∷ [], tt)), tt) in
    qed 𝓛 ((‵ ftrue ⊛ ‵ (owns (types_at f.signature.params κs) a y.0.4)) ∷ ‵ ftrue ∷ []) ∵ split ! $ drop ! $ move ! (1 ∷ []) $ drop ! $ fsplit ! $ move ! (1 ∷ []) $ drop ! $
    enter ! _ _ _ _ _ $ alloc_all ! (λ l. pass_all ! refl ((tt, tt), tt) $
    sets ! (addr ! (through ! refl (stop !))) refl (tt, tt) $
    sets ! (of_opd ! (get ! refl)) refl (tt, tt) $
    sets ! (agg ! (and_then ! (get ! refl) (and_then ! (true_lit !) (no_more !)))) refl (tt, (tt, (tt, tt))) $
    returns ! (look_at ! 0 refl) $ free_all ! refl $
    feq_i ! Slot r.now r.now refl $ fjoin ! $ fpack ! (MutBor Slot) (slot_is b o r.now) r $
    nothing ! $ feq_i ! (List Val) (vbool true ∷ []) (vbool true ∷ []) refl $ fjoin ! $
    feq_i ! (List Val) (vptr b o ∷ []) (vptr b o ∷ []) refl $ fjoin ! $ feq_i ! (List Val) (hv ∷ []) (hv ∷ []) refl $ fjoin ! $
    fpack ! (Valss (RawPtr ∷ bool ∷ [])) (within (shape handle.the_type) (block_ptr b o, (true, tt)) (hv ∷ [])) (vptr b o ∷ [], (vbool true ∷ [], tt)) $ fjoin ! $
    suffices ! _ (ends_at 𝓛 f.ended stayed c y hv h (tt, tt) (tt, tt)) $ says ! (refl, refl) $
    nothing ! $ nothing ! $ join ! $ nothing ! $ done !))
