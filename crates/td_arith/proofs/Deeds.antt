-- Each expression that an action evaluates is sound, and the cells stay within their bounds.
use Rattle.std.proofs.Common.{◌≡◌, ℕ, zero, suc, ◌<◌, ◌≤◌, Bool, true, false, List, [], ◌∷◌, ◌++◌, length, refl, subst, arith, Option, Some, None, slice_get, slice_index, slice_set}
use Rattle.td_core.specs.Term.{Deed, done, set, keep, fork, answer, give_up}
use Rattle.td_core.specs.declared.expressions.Scalar.{Scalar}
use Rattle.td_core.specs.Types.{limit, type_of}
use Rattle.td_expr.specs.Facts.{Fact, facts_of}
use Rattle.td_expr.specs.Safe.{first, first_unsafe}
use Rattle.td_expr.specs.Sound.{Sound}
use Rattle.td_expr.proofs.Admitting.{neither}
use Rattle.td_meaning.specs.Doing.{Effect, On, Returned, Aborted, after, either_way, doing, natural_of, is_true}
use Rattle.td_arith.specs.SafeModule.{deed_unsafe}
use Rattle.td_core.specs.Formed.{Bound, AllFit, Takes, given, IsDeedFormed}
use Rattle.td_meaning.specs.Throughout.{OnEffect, OnDeed}
use Rattle.td_arith.proofs.Fitting.{get_fits, fit_set, Stand, stand_at}
use Rattle.td_arith.proofs.States.{State, pushed, sound, told, number_fits}

abbrev pub EffectFits : List Bound → Effect → Type 0
EffectFits all (On cells) = AllFit all cells
EffectFits all (Returned value cells) = AllFit all cells
EffectFits all (Aborted cells) = AllFit all cells

on_effect : (all : List Bound) (o : Effect) (P : List ℕ → Type 0) → EffectFits all o → ((cells : List ℕ) → AllFit all cells → P cells) → OnEffect o P
on_effect all (On cells) P h k = k cells h
on_effect all (Returned value cells) P h k = tt
on_effect all (Aborted cells) P h k = tt

after_fits : (all : List Bound) (o : Effect) (go : List ℕ → Effect) → EffectFits all o → ((cells : List ℕ) → AllFit all cells → EffectFits all (go cells)) → EffectFits all (after o go)
after_fits all (On cells) go h k = k cells h
after_fits all (Returned value cells) go h k = h
after_fits all (Aborted cells) go h k = h

branch_fits : (all : List Bound) (b : Bool) (one other : Effect) → (b ≡ true → EffectFits all one) → (b ≡ false → EffectFits all other) → EffectFits all (either_way b one other)
branch_fits all true one other h k = h refl
branch_fits all false one other h k = k refl

record Taker (o : Option Bound) (w : Scalar) : Type 0 where
  bound : Bound
  is : o ≡ Some bound
  wide : limit w ≤ suc bound.most

taker : (o : Option Bound) (w : Scalar) → Takes o w → Taker o w
taker None w h = absurd h
taker (Some b) w h = record { bound = b; is = refl; wide = h }

record There (o : Option Bound) : Type 0 where
  bound : Bound
  is : o ≡ Some bound

there : (bs : List Bound) (i : ℕ) → i < length bs → There (slice_get bs i)
there [] i h = absurd (omega arith)
there (b ∷ bs) zero h = record { bound = b; is = refl }
there (b ∷ bs) (suc i) h = there bs i (omega (arith, h))

pub deed_sound : (all bounds : List Bound) (places : List ℕ) (d : Deed) (scope : List Bound) (facts : List Fact) (env cells : List ℕ)
    → Stand all bounds places → IsDeedFormed bounds scope d → State scope facts env → deed_unsafe facts d ≡ None → AllFit all cells
    → OnDeed Sound d env places cells × EffectFits all (doing d env places cells)
deed_sound all bounds places done scope facts env cells st form s h f = (tt, f)
deed_sound all bounds places (set cell e then) scope facts env cells st form s h f =
    let u = neither (first_unsafe facts e) (deed_unsafe facts then) h in
    let g = sound scope facts env e s form.0 u.0 in
    let t = taker (slice_get bounds cell) (type_of e) form.1.0 in
    let next = slice_set cells (slice_index places cell) (natural_of e env) in
    let fits = fit_set all cells (slice_index places cell) t.bound (natural_of e env) (stand_at all bounds places cell t.bound t.is st) f (number_fits env e t.bound.most g t.wide) in
    let rest = deed_sound all bounds places then scope facts env next st form.1.1 s u.1 fits in
    ((g, rest.0), rest.1)
deed_sound all bounds places (keep cell then) scope facts env cells st form s h f =
    let t = there bounds cell form.0 in
    let rest : IsDeedFormed bounds (scope ++ t.bound ∷ []) then = subst (λ o. IsDeedFormed bounds (given scope o) then) t.is form.1 in
    let v = slice_index cells (slice_index places cell) in
    let le : v ≤ t.bound.most = get_fits all cells (slice_index places cell) t.bound (stand_at all bounds places cell t.bound t.is st) f in
    deed_sound all bounds places then (scope ++ t.bound ∷ []) facts (env ++ v ∷ []) cells st rest (pushed scope facts env t.bound v s le) h f
deed_sound all bounds places (fork e one other then) scope facts env cells st form s h f =
    let u = neither (first_unsafe facts e) (first (deed_unsafe (facts ++ facts_of true e) one) (first (deed_unsafe (facts ++ facts_of false e) other) (deed_unsafe facts then))) h in
    let v = neither (deed_unsafe (facts ++ facts_of true e) one) (first (deed_unsafe (facts ++ facts_of false e) other) (deed_unsafe facts then)) u.1 in
    let w = neither (deed_unsafe (facts ++ facts_of false e) other) (deed_unsafe facts then) v.1 in
    let g = sound scope facts env e s form.0 u.0 in
    let yes_way : is_true e env ≡ true → OnDeed Sound one env places cells × EffectFits all (doing one env places cells) =
    λ t. deed_sound all bounds places one scope (facts ++ facts_of true e) env cells st form.1.0 (told scope facts env e true s form.0 g t) v.0 f in
    let no_way : is_true e env ≡ false → OnDeed Sound other env places cells × EffectFits all (doing other env places cells) =
    λ t. deed_sound all bounds places other scope (facts ++ facts_of false e) env cells st form.1.1.0 (told scope facts env e false s form.0 g t) w.0 f in
    let rest : (more : List ℕ) → AllFit all more → OnDeed Sound then env places more × EffectFits all (doing then env places more) =
    λ more k. deed_sound all bounds places then scope facts env more st form.1.1.1 s w.1 k in
    let way = either_way (is_true e env) (doing one env places cells) (doing other env places cells) in
    let fits : EffectFits all way = branch_fits all (is_true e env) (doing one env places cells) (doing other env places cells) (λ t. (yes_way t).1) (λ t. (no_way t).1) in (
      (g, (((λ t. (yes_way t).0), (λ t. (no_way t).0)), on_effect all way (OnDeed Sound then env places) fits (λ more k. (rest more k).0))),
      after_fits all way (doing then env places) fits (λ more k. (rest more k).1),
    )
deed_sound all bounds places (answer e) scope facts env cells st form s h f = (sound scope facts env e s form h, f)
deed_sound all bounds places give_up scope facts env cells st form s h f = (tt, f)
