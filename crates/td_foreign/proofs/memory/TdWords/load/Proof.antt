-- One atomic load: `load` lends the words for one atomic load, and keeps a copy of what it lends.
use Rattle.std.proofs.Common.{◌≡◌, ℕ, zero, suc, pred, ◌<◌, ◌^◌, List, [], ◌∷◌, ◌++◌, length, refl, sym, ap, subst, w64, Bor, arith}
use Rattle.std.proofs.raw_atomic.Walks.{proved}
use base.Logic.{id⊢, emp}
use base.Fml.{Lft, Share, ftrue, flft}
use mir.Syntax.{named}
use mir.Val.{Val, vint, vptr, vstruct, vcons, vnil}
use prog.Wp.{WpFn}
use contract.Monad.{fact, fact_i}
use contract.Running.{tables}
use types.Kit.{‵, raw, ◌⊛◌, some, later, prop, ◌$◌, ◌∵◌, !, qed, move, keep, drop, use0, use1, split, join, fsplit, fsplit3, fjoin, feq_i, feq_l, flt_i, flt_l, fpick, fpack, pick, await, regoal, rewrite, suffices, done}
use types.Run.{enter, of_opd, no_more, and_then, returns, stop, fld}
use types.Part.{agg, sub, whole}
use types.ByLocal.{alloc_all, pass_all, free_all, look_at, get, get_in, sets, lands_as}
use denote.Builtin.{u64, usize, RawPtr}
use denote.Exit.{yes}
use denote.RattleType.{RattleType, Valss, owns}
use denote.RawPtr.{Ptr, block_ptr, in_a_block}
use denote.Signature.{plain, types_at}
use denote.Slice.{ShrSlice, slice_val, shr_slice_copy}
use denote.Steps.{nothing, heard, only}
use denote.Plain.{uint_vals, uint_Tells}
use denote.Struct.Struct.{within}
use denote.Struct.Owning.{shape}
use denote.Triple.Call.{calls_at}
use denote.Triple.Clauses.{ensured}
use denote.Triple.Spec.{triple_of}
use denote.Triple.Table.{framed}
use denote.Triple.Walked.{Stays, walk_of, says, stay_dropped, Goes-dropped, ends_at}
use Rattle.std.specs.contracts.sync.atomic.AtomicU64.{the_row as atomic}
use Rattle.std.proofs.sync.atomic.AtomicU64.TheLaws as atomic_laws
use Rattle.td_foreign.specs.Memory.{Lent, lent, atomics_at, words_own}
use Rattle.td_foreign.specs.declared.memory.TdWords.{TdWords}
use Rattle.td_foreign.specs.contracts.memory.TdWords as words
use Rattle.td_foreign.proofs.memory.TdWords.TheLaws as words_laws
use Rattle.td_foreign.specs.contracts.memory.TdWords.load as f
use Rattle.td_foreign.proofs.memory.TdWords.load.Statement.{statement}
use Rattle.td_foreign.proofs.memory.TdWords.load.Code as code
use Rattle.td_foreign.specs.contracts.memory.load_at as g
use Rattle.td_foreign.proofs.memory.load_at.Met.{met}

abbrev stayed : Stays f.ended.signature.params f.ended.kept
stayed = (stay_dropped _ yes, (stay_dropped _ yes, tt))

above_none : (i n : ℕ) → i < n → n ≡ suc (pred n)
above_none i zero h = absurd (omega (arith, h))
above_none i (suc n) h = refl

abbrev two : Val → Val → Val
two v w = vstruct (vcons v (vcons w vnil))

pub load_spec : {M : Type 1} → statement M
load_spec 𝓤 𝓛 𝓜 𝓡 wired =
    let c = f.clauses 𝓛 𝓜.mem 𝓡.returns in let W = walk_of 𝓛 f.ended stayed c in let 𝓣 = tables 𝓤 𝓛.H 𝓜 𝓡 𝓡.env in
    let T = words_laws.the_told in
    proved 𝓛 f.ended stayed c 𝓜 𝓡 (Goes-dropped 𝓛 0 (plain (λ _. words.the_row)) yes (λ κs x w. refl), (Goes-dropped 𝓛 0 (plain (λ _. usize)) yes (λ κs x w. refl), tt))
    f.Key.name code.function (code.unfolded 𝓤 𝓛.H 𝓜 𝓡 wired)
    (λ κs. ((λ w. T.val w ∷ []), (uint_vals w64, tt))) (λ κs. (T.tells, (uint_Tells w64, tt))) (λ κs qs bounds a gh are.
    let w = a.0 in let n : ℕ = w.count in let i : ℕ = a.1.0 in
    let at_p : Ptr → TdWords = λ p. record { at = p; count = n; made = w.made } in
    let after : ℕ → ℕ → ℕ → TdWords = λ b o r. record { at = block_ptr b o; count = n; made = w.made ++ (record { word = i; value = r }) ∷ [] } in
    let y : Ptr → W.Ghost = λ p. ((κs, qs, bounds, (at_p p, (i, tt)), (T.val (at_p p) ∷ [], (vint w64 i ∷ [], tt))), tt) in
    qed 𝓛 ((‵ ftrue ⊛ ‵ (owns (types_at f.signature.params κs) a (y w.at).0.4)) ∷ raw (fact 𝓤 (i < n)) ∷ []) ∵ split ! $ drop ! $ move ! (1 ∷ []) $ heard ! (i < n) (λ inside. let some_words : n ≡ suc (pred n) = above_none i n inside in fsplit ! $ move ! (1 ∷ []) $ drop ! $
    fsplit ! $ fpick ! (λ vss. fsplit ! $ feq_l ! (λ ev. fsplit ! $ feq_l ! (λ ep. fsplit ! $ fsplit ! $ feq_l ! (λ en. flt_l ! (λ nfits. drop ! $
    rewrite ! 0 (λ (u : ℕ). ‵ (words_own w.at u)) some_words refl $ rewrite ! 0 (λ (u : ℕ). ‵ (atomics_at w.at u)) (sym some_words) refl $
    in_a_block ! w.at (λ p. atomics_at p n) (id⊢ 𝓤 _) (λ b o e.
    regoal ! (λ p. prop (WpFn 𝓤 𝓛.H 𝓣.C 𝓣.Λ code.function (T.val (at_p p) ∷ vint w64 i ∷ []) (W.post (y p)))) e refl $
    fpick ! (λ x. let κ : Lft = x.0 in let q : Share = x.1.0 in let s : Bor (List atomic.Denot) = record { ref_ptr = (b, o); now = x.1.1 } in
    let S : RattleType = ShrSlice (named 0) κ atomic in let sv : List Val = slice_val (b, o) n ∷ [] in
    fsplit3 ! $ feq_l ! (λ len. move ! (1 ∷ []) $
    use1 𝓛 (‵ (S.own_val s sv) ⊛ ‵ (S.own_val s sv)) ((shr_slice_copy 𝓛 (named 0) κ atomic atomic_laws.the_row_laws.shr_laws).twice s sv) $ split ! $
    -- [the slice; the slice; the token]
    enter ! _ _ _ _ _ $ alloc_all ! (λ l. pass_all ! refl ((tt, (tt, (record { fits = nfits }, tt))), ((tt, record { fits = are.1.0.1 }), tt)) $
    sets ! (of_opd ! (get_in ! (fld ! refl (stop !)) (sub ! 0 refl (whole !)))) refl (tt, tt) $
    sets ! (of_opd ! (get_in ! (fld ! refl (stop !)) (sub ! 1 refl (whole !)))) refl (tt, record { fits = nfits }) $
    sets ! (of_opd ! (get ! refl)) refl (tt, tt) $
    sets ! (agg ! (and_then ! (get ! refl) (and_then ! (get ! refl) (no_more !)))) refl (tt, (tt, (record { fits = nfits }, tt))) $
    let G = triple_of 𝓛 g.signature (g.spec 𝓛 𝓜.mem 𝓡.returns) in
    let z : G.Ghost = (((κ, tt), (q, tt), tt, (s, (i, tt)), (sv, (vint w64 i ∷ [], tt))), tt) in
    nothing ! $ flt_i ! i (2 ^ 64) are.1.0.1 $ feq_i ! (List Val) (vint w64 i ∷ []) (vint w64 i ∷ []) refl $ fjoin ! $ fjoin ! $ move ! (1 ∷ 0 ∷ []) $ fjoin ! $
    nothing ! $ move ! (3 ∷ 0 ∷ []) $ join ! $ join ! $
    use0 𝓛 (raw (fact 𝓤 (i < length x.1.1))) (fact_i 𝓤 (i < length x.1.1) (emp 𝓤) (subst (λ (m : ℕ). i < m) (sym len) inside)) $ move ! (1 ∷ 0 ∷ []) $ join ! $
    use1 𝓛 (raw (G.pre z)) (id⊢ 𝓤 _) $
    calls_at ! (framed 𝓤 𝓛.H 𝓜 𝓣) G (met 𝓤 𝓛 𝓜 𝓡 (code.calls-td_foreign::memory::load_at 𝓡.env wired)) z (and_then ! (get ! refl) (and_then ! (get ! refl) (no_more !))) (λ v.
    use1 𝓛 (later (some (λ (r : ℕ). ((‵ (flft κ q) ⊛ ‵ ftrue) ⊛ ‵ (u64.own_val r (v ∷ []))) ⊛ raw (ensured 𝓛 g.ended (g.clauses 𝓛 𝓜.mem 𝓡.returns) (κ, tt) (s, (i, tt)) tt r)))) (id⊢ 𝓤 _) $
    await ! tt $ pick ! (λ r. split ! $ split ! $ split ! $ move ! (2 ∷ []) $ fsplit ! $ feq_l ! (λ ev'. flt_l ! (λ rfits.
    lands_as ! (ap only ev') refl (tt, record { fits = rfits }) $
    sets ! (agg ! (and_then ! (get ! refl) (and_then ! (get ! refl) (no_more !)))) refl (tt, (tt, (record { fits = nfits }, tt))) $
    sets ! (agg ! (and_then ! (get ! refl) (and_then ! (get ! refl) (no_more !)))) refl (tt, ((tt, (record { fits = nfits }, tt)), (record { fits = rfits }, tt))) $
    returns ! (look_at ! 0 refl) $ free_all ! refl $
    -- [the token; nothing; what the call ensures; the slice]
    keep ! (0 ∷ 3 ∷ []) $ fjoin ! $ feq_i ! ℕ (length x.1.1) n len $ fjoin ! $ fpack ! Lent (lent b o n) x $
    rewrite ! 0 (λ (u : ℕ). ‵ (atomics_at (block_ptr b o) u)) some_words refl $ rewrite ! 0 (λ (u : ℕ). ‵ (words_own (block_ptr b o) u)) (sym some_words) refl $
    let wv : Val = two (vptr b o) (vint w64 n) in let rv : Val = two wv (vint w64 r) in
    nothing ! $ flt_i ! n (2 ^ 64) nfits $ feq_i ! (List Val) (vint w64 n ∷ []) (vint w64 n ∷ []) refl $ fjoin ! $ fjoin ! $
    feq_i ! (List Val) (vptr b o ∷ []) (vptr b o ∷ []) refl $ fjoin ! $ feq_i ! (List Val) (wv ∷ []) (wv ∷ []) refl $ fjoin ! $
    fpack ! (Valss (RawPtr ∷ usize ∷ [])) (within (shape words.the_type) (block_ptr b o, (n, tt)) (wv ∷ [])) (vptr b o ∷ [], (vint w64 n ∷ [], tt)) $ fjoin ! $
    -- [the words]
    nothing ! $ flt_i ! r (2 ^ 64) rfits $ feq_i ! (List Val) (vint w64 r ∷ []) (vint w64 r ∷ []) refl $ fjoin ! $ fjoin ! $ move ! (1 ∷ 0 ∷ []) $ fjoin ! $
    feq_i ! (List Val) (rv ∷ []) (rv ∷ []) refl $ fjoin ! $
    fpack ! (Valss (words.the_row ∷ u64 ∷ [])) (within (record { name = []; args = []; types = []; fields = words.the_row ∷ u64 ∷ [] }) (after b o r, (r, tt)) (rv ∷ [])) (wv ∷ [], (vint w64 r ∷ [], tt)) $
    suffices ! _ (ends_at 𝓛 f.ended stayed c (y (block_ptr b o)) rv (after b o r, r) (tt, (tt, tt)) (tt, (tt, tt))) $ says ! (refl, refl) $
    nothing ! $ nothing ! $ join ! $ nothing ! $ join ! $ nothing ! $ done !)))))))))))))))
