-- `reach` gives back the reference that the handle holds.
use Rattle.std.proofs.Common.{◌≡◌, [], ◌∷◌, refl}
use mathlib.Core.Bool.{Bool, true}
use Rattle.std.proofs.raw_atomic.Walks.{proved}
use base.Logic.{id⊢}
use base.Fml.{ftrue}
use mir.Val.{vptr}
use prog.Wp.{WpFn}
use contract.Monad.{fact}
use contract.Running.{tables}
use types.Kit.{‵, raw, ◌⊛◌, prop, ◌$◌, ◌∵◌, !, qed, move, drop, split, join, fsplit, fpick, rewrite, feq_l, regoal, suffices, done}
use types.Run.{enter, of_opd, addr, returns, stop, fld}
use types.Part.{sub, whole}
use types.ByLocal.{alloc_all, pass_all, free_all, look_at, get, get_in, through, sets}
use denote.Exit.{yes}
use denote.RattleType.{owns}
use denote.RawPtr.{Ptr, block_ptr, in_a_block}
use denote.Signature.{plain, types_at}
use denote.Steps.{nothing, heard}
use denote.Triple.Walked.{Stays, walk_of, says, stay_dropped, Goes-dropped, ends_at}
use Rattle.td_c.specs.Handle.{handle_owns}
use Rattle.td_c.specs.declared.handle.TdSession.{TdSession}
use Rattle.td_c.specs.contracts.handle.TdSession as handle
use Rattle.td_c.proofs.handle.TdSession.TheLaws as laws
use Rattle.td_c.specs.contracts.handle.TdSession.reach as f
use Rattle.td_c.proofs.handle.TdSession.reach.Statement.{statement}
use Rattle.td_c.proofs.handle.TdSession.reach.Code as code

abbrev stayed : Stays f.ended.signature.params f.ended.kept
stayed = (stay_dropped _ yes, tt)

pub reach_spec : {M : Type 1} → statement M
reach_spec 𝓤 𝓛 𝓜 𝓡 wired =
    let c = f.clauses 𝓛 𝓜.mem 𝓡.returns in let W = walk_of 𝓛 f.ended stayed c in let 𝓣 = tables 𝓤 𝓛.H 𝓜 𝓡 𝓡.env in let T = laws.the_told in
    proved 𝓛 f.ended stayed c 𝓜 𝓡 (Goes-dropped 𝓛 0 (plain (λ _. handle.the_row)) yes (λ κs x w. refl), tt)
    f.Key.name code.function (code.unfolded 𝓤 𝓛.H 𝓜 𝓡 wired)
    (λ κs. ((λ h. T.val h ∷ []), tt)) (λ κs. (T.tells, tt)) (λ κs qs bounds a gh are.
    let t : Bool = a.0.full in let p₀ : Ptr = a.0.at in
    let at_p : Ptr → TdSession = λ p. record { at = p; full = t; value = a.0.value } in
    let y : Ptr → W.Ghost = λ p. ((κs, qs, bounds, (at_p p, tt), (T.val (at_p p) ∷ [], tt)), tt) in
    qed 𝓛 ((‵ ftrue ⊛ ‵ (owns (types_at f.signature.params κs) a (y p₀).0.4)) ∷ raw (fact 𝓤 (t ≡ true)) ∷ []) ∵ split ! $ drop ! $ move ! (1 ∷ []) $ heard ! (t ≡ true) (λ is. fsplit ! $ move ! (1 ∷ []) $ drop ! $
    fsplit ! $ drop ! $ rewrite ! 0 (λ (u : Bool). ‵ (handle_owns p₀ u a.0.value)) is refl $
    in_a_block ! p₀ (λ p. handle_owns p true a.0.value) (id⊢ 𝓤 _) (λ b o e.
    regoal ! (λ p. prop (WpFn 𝓤 𝓛.H 𝓣.C 𝓣.Λ code.function (T.val (at_p p) ∷ []) (W.post (y p)))) e refl $
    fpick ! (λ r. fsplit ! $ feq_l ! (λ same.
    enter ! _ _ _ _ _ $ alloc_all ! (λ l. pass_all ! refl ((tt, (tt, (tt, tt))), tt) $
    sets ! (of_opd ! (get_in ! (fld ! refl (stop !)) (sub ! 0 refl (whole !)))) refl (tt, tt) $
    sets ! (of_opd ! (get ! refl)) refl (tt, tt) $
    sets ! (addr ! (through ! refl (stop !))) refl (tt, tt) $
    returns ! (look_at ! 0 refl) $ free_all ! refl $
    suffices ! _ (ends_at 𝓛 f.ended stayed c (y (block_ptr b o)) (vptr b o) r (tt, tt) (tt, tt)) $ says ! same $
    nothing ! $ nothing ! $ join ! $ nothing ! $ done !))))))
