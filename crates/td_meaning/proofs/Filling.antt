-- What bytes that are taken, arrays and definitions come to, case by case. Cited by other crates.
use Rattle.std.proofs.Common.{◌≡◌, ℕ, zero, suc, ◌+◌, ◌-◌, ◌*◌, ◌/◌, ◌<◌, ◌≤◌, min, Bool, cond, Option, None, List, [], length, refl, sym, ap, ◌∙◌, subst, arith}
use Rattle.std.specs.Prelude.{slice_get}
use Rattle.std.proofs.lemmas.Bool.{le-leb, lt-leb, eq-eqb}
use Rattle.std.proofs.Math.Nat.{div-mul-le_self, min-le_right, mul-le-mul_right, le_trans}
use Rattle.td_num.specs.Numbers.{bytes_in, places_from}
use Rattle.td_meaning.specs.Imports.{NumberType, NameId, TypeDef, Module, Entry, NotEnough, Impossible, ListSize, TraceFrame, Verdict, Accept}
use Rattle.td_core.specs.Outcome.{Ending, Accepted, Rejected, Behavior, and_then, accepted, rejected}
use Rattle.td_meaning.specs.Meaning.{Sense, taken, demanded, elements, divides, filled, entry_place, numbers_at}
use Rattle.td_meaning.specs.Words64.{definition_meaning, below, fields_meaning}
use Rattle.td_meaning.specs.Throughout.{OnEnding}
use Rattle.td_meaning.specs.Verdicts.{IsAt}
use Rattle.td_meaning.proofs.Meaning64.{meaning}
use Rattle.td_meaning.proofs.Below.{below_self, below_at, below_past}

pub taken_long : (n start end p : ℕ) (cells : List ℕ) → p + n ≤ end → taken n start end p cells ≡ accepted (p + n) cells
taken_long n start end p cells h = ap (λ v. demanded NotEnough v start (p + n) cells) (le-leb (p + n) end h)

pub taken_short : (n start end p : ℕ) (cells : List ℕ) → end < p + n → taken n start end p cells ≡ rejected NotEnough start cells
taken_short n start end p cells h = ap (λ v. demanded NotEnough v start (p + n) cells) (lt-leb (p + n) end h)

pub filled_short : (each : ℕ → ℕ → List ℕ → Behavior) (step : Option ℕ) (size end p : ℕ) (cells : List ℕ) → end < p + size → filled each step size end p cells ≡ rejected NotEnough p cells
filled_short each step size end p cells h = ap (λ t. and_then t (λ q cells. and_then (demanded ListSize (divides step size) p p cells) (elements (each q) (suc size) p q))) (taken_short size p end p cells h)

pub filled_long : (each : ℕ → ℕ → List ℕ → Behavior) (step : Option ℕ) (size end p : ℕ) (cells : List ℕ) (v : Bool) → p + size ≤ end → divides step size ≡ v → filled each step size end p cells ≡ and_then (demanded ListSize v p p cells) (elements (each (p + size)) (suc size) p (p + size))
filled_long each step size end p cells v h d =
    ap (λ t. and_then t (λ q cells. and_then (demanded ListSize (divides step size) p p cells) (elements (each q) (suc size) p q))) (taken_long size p end p cells h)
    ∙ ap (λ v. and_then (demanded ListSize v p p cells) (elements (each (p + size)) (suc size) p (p + size))) d

-- turns are left, but nothing to read
pub elements_done : (each : ℕ → List ℕ → Behavior) (turns more start end p : ℕ) (cells : List ℕ) → turns ≡ suc more → p ≡ end → (elements each turns start end p cells).ending ≡ Accepted p cells
unfolding elements
elements_done each turns more start end p cells e at =
    ap (λ n. (elements each n start end p cells).ending) e
    ∙ ap (λ v. (cond v (accepted p cells) (and_then (each p cells) (elements each more start end))).ending) (eq-eqb p end at)

-- no field is left
pub fields_none : (sets : List (List ℕ)) (senses : ℕ → Sense) (ty : NameId) (env places b : List ℕ) (end p : ℕ) (cells : List ℕ) → fields_meaning sets senses ty [] env places b end p cells ≡ accepted p cells
unfolding fields_meaning
fields_none sets senses ty env places b end p cells = refl

-- the definition of a number that is below another's
pub named_by : (sets : List (List ℕ)) (definitions : List TypeDef) (n j : ℕ) (o : Option TypeDef) (args places cells b : List ℕ) (p end : ℕ) → j < n → slice_get definitions j ≡ o → below sets definitions n j args places cells b p end ≡ definition_meaning sets (below sets definitions j) o args places cells b p end
named_by sets definitions n j o args places cells b p end lt e =
    ap (λ f. f args places cells b p end) (below_at sets definitions n j lt)
    ∙ ap (λ f. f args places cells b p end) (below_self sets definitions j)
    ∙ ap (λ x. definition_meaning sets (below sets definitions j) x args places cells b p end) e

-- an entry point that isn't there
pub no_entry : (m : Module) (entry : Entry) (args cells b : List ℕ) → slice_get m.entries entry.number ≡ None → meaning m entry args cells b ≡ rejected Impossible 0 cells
no_entry m entry args cells b get =
    (λ k. below m.listed m.definitions (length m.definitions) (entry_place (get k) (length m.definitions)) args (places_from 0 (length cells)) cells b 0 (length b))
    ∙ below_past m.listed m.definitions (length m.definitions) (length m.definitions) args (places_from 0 (length cells)) cells b 0 (length b) (omega arith)

-- turns that are left have room
pub room_for : (bound n w : ℕ) → (min bound (n / w) - 0) * w ≤ n
room_for bound n w =
    let few : min bound (n / w) ≤ n / w = min-le_right bound (n / w) in
    let same : min bound (n / w) - 0 ≡ min bound (n / w) = omega arith in
    subst (λ k. k * w ≤ n) (sym same) (le_trans (mul-le-mul_right w few) (div-mul-le_self n w))

pub one_fewer : (m turn n w : ℕ) → turn < m → (m - turn) * w ≤ n → (w ≤ n) × ((m - (turn + 1)) * w ≤ n - w)
one_fewer m turn n w lt h =
    let k = m - (turn + 1) in
    let e : m - turn ≡ suc k = omega (arith, lt) in
    let h' : suc k * w ≤ n = subst (λ x. x * w ≤ n) e h in
    let grown : suc k * w ≡ w + k * w = omega arith in
    (omega (arith, h', grown), omega (arith, h', grown))

pub count_of : (type : NumberType) (message : List ℕ) (p m : ℕ) → length (numbers_at type message p m) ≡ m
count_of type message p zero = refl
count_of type message p (suc m) = ap suc (count_of type message (p + bytes_in type.width) m)

pub on_accepted : (o : Ending) (q : ℕ) (more : List ℕ) (P : ℕ → List ℕ → Type 0) → OnEnding o P → o ≡ Accepted q more → P q more
on_accepted o q more P h is = let H : OnEnding (Accepted q more) P = subst (λ x. OnEnding x P) is h in H

-- nothing is asked of an end
pub anywhere : (o : Ending) → OnEnding o (λ q more. Unit {0})
anywhere (Accepted q cells) = tt
anywhere (Rejected reason q trace cells) = tt

-- the place of a verdict that accepts
pub accepted_at : (v : Verdict) (pos p : ℕ) (trace : List TraceFrame) → v ≡ Accept pos → IsAt v p trace → (pos ≡ p) × (trace ≡ [])
accepted_at v pos p trace is at = subst (λ v. IsAt v p trace) is at
