-- Where no operator is named, each is safe. Cited by other crates.
use Rattle.std.proofs.Common.{◌≡◌, Bool, true, false, refl, sym, List, ◌++◌, Option, Some, None}
use Rattle.std.proofs.lemmas.Option.{none-some}
use Rattle.td_expr.specs.declared.safety.Unsafe.{Unsafe}
use Rattle.td_expr.specs.declared.safety.Unsafe.TheVariants.{Operator}
use Rattle.td_core.specs.Term.{Term, number, name, complement, negation, compute, compare, both, either, choice, range_okay}
use Rattle.td_expr.specs.Facts.{Fact, facts_of}
use Rattle.td_expr.specs.Safe.{is_safe, AllSafe, first, unless_safe, first_unsafe}
use Rattle.td_expr.specs.Laws.{AdmittedIsSound}
use Rattle.td_expr.proofs.Ranging.{values_in_range}

pub neither : (a b : Option Unsafe) → first a b ≡ None → (a ≡ None) × (b ≡ None)
neither None b h = (refl, h)
neither (Some u) b h = absurd (none-some u (sym h))

safe_where : (b : Bool) (u : Unsafe) → unless_safe b u ≡ None → b ≡ true
safe_where true u h = refl
safe_where false u h = absurd (none-some u (sym h))

pub all_safe : (e : Term) (fs : List Fact) → first_unsafe fs e ≡ None → AllSafe fs e
all_safe (number n w) fs h = tt
all_safe (name i w most) fs h = tt
all_safe (complement a) fs h = all_safe a fs h
all_safe (negation a) fs h = all_safe a fs h
all_safe (compute op span a b) fs h =
    let u : Unsafe = Operator span op in
    let here = unless_safe (is_safe fs op a b) u in
    let l = neither (first_unsafe fs a) (first here (first_unsafe fs b)) h in
    let m = neither here (first_unsafe fs b) l.1 in
    (safe_where (is_safe fs op a b) u m.0, (all_safe a fs l.0, all_safe b fs m.1))
all_safe (compare r a b) fs h = let l = neither (first_unsafe fs a) (first_unsafe fs b) h in (all_safe a fs l.0, all_safe b fs l.1)
all_safe (both a b) fs h =
    let l = neither (first_unsafe fs a) (first_unsafe (fs ++ facts_of true a) b) h in (all_safe a fs l.0, all_safe b (fs ++ facts_of true a) l.1)
all_safe (either a b) fs h =
    let l = neither (first_unsafe fs a) (first_unsafe (fs ++ facts_of false a) b) h in (all_safe a fs l.0, all_safe b (fs ++ facts_of false a) l.1)
all_safe (choice c a b) fs h =
    let one = fs ++ facts_of true c in
    let other = fs ++ facts_of false c in
    let l = neither (first_unsafe fs c) (first (first_unsafe one a) (first_unsafe other b)) h in
    let m = neither (first_unsafe one a) (first_unsafe other b) l.1 in
    (all_safe c fs l.0, (all_safe a one m.0, all_safe b other m.1))
all_safe (range_okay s o a) fs h =
    let l = neither (first_unsafe fs s) (first (first_unsafe fs o) (first_unsafe fs a)) h in
    let m = neither (first_unsafe fs o) (first_unsafe fs a) l.1 in
    (all_safe s fs l.0, (all_safe o fs m.0, all_safe a fs m.1))

pub admitted_is_sound : AdmittedIsSound
admitted_is_sound e env fs h k a = values_in_range e env fs k a (all_safe e fs h)
