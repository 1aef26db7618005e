-- What holds of a type that stands once, and of a number that is given, holds of what a field without bytes is; and what gives
-- a value is formed, and is no cell of a copy buffer.
use Rattle.std.proofs.Common.{◌≡◌, ℕ, suc, ◌*◌, ◌^◌, ◌≤◌, Bool, true, false, cond, List, length, refl, sym, subst, arith, Option, Some, None, nat_lt}
use Rattle.std.proofs.Math.Nat.{pow-le-pow_right}
use Rattle.std.proofs.lemmas.Bool.{ltb-false, false≢true}
use Rattle.std.proofs.lemmas.Option.{none-some, same_Some, slice_get_within}
use Rattle.td_num.specs.Numbers.{bytes_in}
use Rattle.td_num.specs.declared.number.Width.TheVariants.{One, Two, Four, Eight}
use Rattle.td_elab_rules.specs.Imports.{Width, NumberType, ThirtyTwo, Element, Extent, Once, Given, Source}
use Rattle.td_ast.specs.Trees.{Tree, span_of}
use Rattle.td_core.specs.declared.module.Element.TheVariants as element
use Rattle.td_core.specs.declared.module.Source.TheVariants.{Expression, Cell as FromCell, Left}
use Rattle.td_core.specs.Types.{limit}
use Rattle.td_core.specs.Formed.{Bound, scalar_of, whole, IsHeldIn, IsSourceFormed}
use Rattle.td_core.specs.Copies.{IsSourceOwn}
use Rattle.td_elab_rules.specs.declared.actions.Target.{Target}
use Rattle.td_elab_rules.specs.declared.actions.Target.TheVariants as target
use Rattle.td_elab_rules.specs.declared.known.Known.{Known}
use Rattle.td_elab_rules.specs.declared.known.Scope.{Scope}
use Rattle.td_elab_rules.specs.Sorts.{core_of}
use Rattle.td_elab_rules.specs.Given.{is_left, is_shorter, element_number, tree_source, held_source, given_extent}
use Rattle.td_elab_rules.proofs.Scopes.{IsScope, core_scoped}
use Rattle.td_elab_rules.proofs.DeedsFormed.{IsTargetThere}
use Rattle.td_expr.proofs.Widths.{limit_of_bytes as limit_is, limit_pos, wide_enough}

-- only a number is given
pub given_case : (P : Element → Extent → Type 0) (source : Option NumberType → Option Source) → source None ≡ None
    → ((t : NumberType) (x : Source) → source (Some t) ≡ Some x → P (element.Number t) Once → P (element.Number t) (Given x))
    → (e : Element) → P e Once → P e (given_extent (source (element_number e)))
given_case P source none number (element.Number t) once = by (source (Some t)) refl
  where
    by : (o : Option Source) → source (Some t) ≡ o → P (element.Number t) (given_extent o)
    by None e = once
    by (Some x) e = number t x e once
given_case P source none number (element.Listed t v) once = subst (λ o. P (element.Listed t v) (given_extent o)) (sym none) once
given_case P source none number (element.Named j es cells) once = subst (λ o. P (element.Named j es cells) (given_extent o)) (sym none) once
given_case P source none number element.Unit once = subst (λ o. P element.Unit (given_extent o)) (sym none) once
given_case P source none number element.Rest once = subst (λ o. P element.Rest (given_extent o)) (sym none) once
given_case P source none number element.Zeros once = subst (λ o. P element.Zeros (given_extent o)) (sym none) once

-- a number of four bytes or more counts bytes
left_fits : (w : Width) → nat_lt (bytes_in w) 4 ≡ false → limit ThirtyTwo ≤ suc (whole (scalar_of w)).most
left_fits One e = absurd (false≢true (sym e))
left_fits Two e = absurd (false≢true (sym e))
left_fits Four e = omega (arith, limit_pos ThirtyTwo)
left_fits Eight e = let le = wide_enough ThirtyTwo (scalar_of Eight) refl in omega (arith, le, limit_pos (scalar_of Eight))

-- a number of no more bytes than another fits there
held_fits : (v w : Width) → nat_lt (bytes_in w) (bytes_in v) ≡ false → (whole (scalar_of v)).most ≤ (whole (scalar_of w)).most
held_fits v w e =
    let le : bytes_in v ≤ bytes_in w = ltb-false (bytes_in w) (bytes_in v) e in
    let q : 2 ^ (8 * bytes_in v) ≤ 2 ^ (8 * bytes_in w) = pow-le-pow_right (omega arith) (omega (arith, le)) in
    omega (arith, q, limit_is v, limit_is w)

pub tree_formed : (k : Known) (cells bounds : List Bound) (s : Scope) (e : Tree) → IsScope k bounds s → (t : NumberType) (x : Source)
    → tree_source k s (Some t) e ≡ Some x → IsSourceFormed cells bounds (whole (scalar_of t.width)) x
tree_formed k cells bounds s e h t x = by (is_left e) (is_shorter (Some t) 4) refl
  where
    by : (b c : Bool) → is_shorter (Some t) 4 ≡ c → cond b (cond c None (Some Left)) (Some (Expression (span_of e) (core_of k s e))) ≡ Some x
        → IsSourceFormed cells bounds (whole (scalar_of t.width)) x
    by true true q r = absurd (none-some x r)
    by true false q r = subst (IsSourceFormed cells bounds (whole (scalar_of t.width))) (same_Some Left x r) (left_fits t.width q)
    by false c q r = subst (IsSourceFormed cells bounds (whole (scalar_of t.width))) (same_Some (Expression (span_of e) (core_of k s e)) x r) (core_scoped k bounds s e h)

pub held_formed : (cells bounds : List Bound) (c : Target) → IsTargetThere cells c → (t : NumberType) (x : Source)
    → held_source (Some t) c ≡ Some x → IsSourceFormed cells bounds (whole (scalar_of t.width)) x
held_formed cells bounds target.Unknown h t x e = absurd (none-some x e)
held_formed cells bounds target.NoCell h t x e = absurd (none-some x e)
held_formed cells bounds (target.Pointer c) h t x e = absurd (none-some x e)
held_formed cells bounds (target.Number c u) h t x e = by (is_shorter (Some t) (bytes_in u.width)) refl e
  where
    by : (b : Bool) → is_shorter (Some t) (bytes_in u.width) ≡ b → cond b None (Some (FromCell c)) ≡ Some x → IsSourceFormed cells bounds (whole (scalar_of t.width)) x
    by true q r = absurd (none-some x r)
    by false q r =
        subst (IsSourceFormed cells bounds (whole (scalar_of t.width))) (same_Some (FromCell c) x r)
        (subst (λ o. IsHeldIn o (whole (scalar_of t.width))) (sym h) (held_fits u.width t.width q))

pub tree_own : (n : ℕ) (k : Known) (s : Scope) (e : Tree) (t : NumberType) (x : Source) → tree_source k s (Some t) e ≡ Some x → IsSourceOwn n x
tree_own n k s e t x = by (is_left e) (is_shorter (Some t) 4)
  where
    by : (b c : Bool) → cond b (cond c None (Some Left)) (Some (Expression (span_of e) (core_of k s e))) ≡ Some x → IsSourceOwn n x
    by true true r = absurd (none-some x r)
    by true false r = subst (IsSourceOwn n) (same_Some Left x r) tt
    by false c r = subst (IsSourceOwn n) (same_Some (Expression (span_of e) (core_of k s e)) x r) tt

pub held_own : (cells : List Bound) (c : Target) → IsTargetThere cells c → (t : NumberType) (x : Source) → held_source (Some t) c ≡ Some x → IsSourceOwn (length cells) x
held_own cells target.Unknown h t x e = absurd (none-some x e)
held_own cells target.NoCell h t x e = absurd (none-some x e)
held_own cells (target.Pointer c) h t x e = absurd (none-some x e)
held_own cells (target.Number c u) h t x e = by (is_shorter (Some t) (bytes_in u.width)) e
  where
    by : (b : Bool) → cond b None (Some (FromCell c)) ≡ Some x → IsSourceOwn (length cells) x
    by true r = absurd (none-some x r)
    by false r = subst (IsSourceOwn (length cells)) (same_Some (FromCell c) x r) (slice_get_within cells c (whole (scalar_of u.width)) h)
