-- The chains of a program's routines are those of the code's.
use Rattle.std.proofs.Common.{◌≡◌, ℕ, zero, suc, ◌+◌, ◌-◌, ◌<◌, ◌≤◌, inl, inr, max, Bool, true, false, cond, List, [], ◌∷◌, length, Option, Some, refl, sym, ap, ◌∙◌, subst, arith}
use Rattle.std.specs.Prelude.{nat_eq, slice_get, slice_index, slice_index_or}
use Rattle.std.proofs.lemmas.Bool.{cases_lt}
use Rattle.td_ir.specs.declared.tables.Parts.{Parts}
use Rattle.td_ir.specs.declared.tables.Routine.{Routine}
use Rattle.td_ir.specs.Tables.{routine_of, lengths_of, begin, first_of, end_of}
use Rattle.td_ir.specs.WellFormed.{IsCode}
use Rattle.td_ir.proofs.Begins.{begin_up}
use Rattle.td_verify.specs.declared.shape.Shape.{Shape}
use Rattle.td_verify.specs.declared.shape.Shape.TheVariants.{Straight, Jump, Branch, Call, Return, Fail, While, Again, Open, Close}
use Rattle.td_verify.specs.Shape.{shapes_of}
use Rattle.td_verify.specs.Brackets.{shape_at, in_loop}
use Rattle.td_verify.specs.Verify.{IsSound}
use Rattle.td_verify.specs.Safe.{IsSafe, looped}
use Rattle.td_verify.proofs.Safety.{opens}
use Rattle.td_vm.specs.Need.{called, greatest, need, room_below, most, most_need, level}
use Rattle.td_prog_stack.proofs.Rooms.{own_need}
use Rattle.td_prog.specs.Syntax.{Var, Function, Program, registers, routine_params, routine_locals}
use Rattle.td_prog_code.specs.Prelude.{prelude}
use Rattle.td_prog_code.specs.Program.{function, functions, program}
use Rattle.td_prog_steps.proofs.Whole.{function_at}
use Rattle.td_prog_stack.specs.Chains.{Count, functions_open, variables_open, of_routines, greatest_call, routine_and_calls, helper_chain, routine_chain, chain}
use Rattle.td_prog_stack.specs.Depth.{need_from, variables, functions_deep, variables_deep}
use Rattle.td_prog_stack.specs.Laws.{IsFrom, IsNeed, StackIsNeed}
use Rattle.td_prog_stack.proofs.Helpers.{three_functions, seven_variables, nothing_counted}
use Rattle.td_prog_stack.proofs.Statements.{AreNear}
use Rattle.td_prog_stack.proofs.Blocks.{body_near}

function_count : (c : Parts) (names : ℕ → List ℕ) (count first : ℕ) → length (functions c names first count) ≡ count
function_count c names zero first = refl
function_count c names (suc count) first = ap suc (function_count c names count (first + 1))

abbrev IsNear : (d x y : ℕ) → Type 0
IsNear d x y = (x ≤ y) × (y ≤ x + d)

either : (d : ℕ) (b : Bool) (x y u v : ℕ) → IsNear d x u → IsNear d y v → IsNear d (cond b x y) (cond b u v)
either d true x y u v h k = h
either d false x y u v h k = k

module _ (c : Parts) (names : ℕ → List ℕ) (code : IsCode c) (sound : IsSound c) (safe : IsSafe c) (count : Count) (d : ℕ)
    (helpers : (n : ℕ) → helper_chain count prelude 9 n ≤ d) where
  abbrev own : ℕ → ℕ
  own m = count.routine (function c names m)

  abbrev needs : ℕ → ℕ → ℕ
  needs k m = need own (shapes_of c) (lengths_of c) k m

  abbrev chains : ℕ → ℕ → ℕ
  chains k m = routine_chain count (program c names) k m

  free : (n : ℕ) → n ≤ length c.routines → looped c (begin (lengths_of c) n) ≡ false
  free n l = ap in_loop (opens c (record { whole = code.whole; some = λ n h. (code.routines n h).some; params = λ n h. (code.routines n h).room }) sound n l)

  fits : (n : ℕ) → n < length c.routines → end_of c n ≤ length c.instructions
  fits n l = let up = begin_up (lengths_of c) (suc n) (length c.routines) l in let w = code.whole in omega (arith, up, w)

  -- one routine, with the calls of those below it
  one : (k : ℕ) → k < length c.routines → ((m : ℕ) → IsNear d (needs k m) (chains k m))
      → IsNear d (own k + greatest (shapes_of c) (needs k) (begin (lengths_of c) k) (slice_index (lengths_of c) k))
      (own k + greatest_call (helper_chain count prelude 9) (chains k) (function c names k).body)
  one k l lower =
      let near : AreNear (needs k) (helper_chain count prelude 9) (chains k) d = record { helpers = helpers; least = λ m. (lower m).0; most = λ m. (lower m).1 } in
      let b = body_near c safe k (needs k) (helper_chain count prelude 9) (chains k) d near l (fits k l) (free (suc k) l) (free k (omega (arith, l))) in
      let x = b.0 in
      let y = b.1 in
      (omega (arith, x), omega (arith, y))

  pub near : (k : ℕ) → k ≤ length c.routines → (m : ℕ) → IsNear d (needs k m) (chains k m)
  near zero l m = (omega arith, omega arith)
  near (suc k) l m =
      either d (nat_eq m k) (own k + greatest (shapes_of c) (needs k) (begin (lengths_of c) k) (slice_index (lengths_of c) k)) (needs k m) (taken (slice_get (program c names).routines k)) (chains k m)
      (subst (λ o. IsNear d (own k + greatest (shapes_of c) (needs k) (begin (lengths_of c) k) (slice_index (lengths_of c) k)) (taken o)) (sym there)
      (one k l (near k (omega (arith, l)))))
      (near k (omega (arith, l)) m)
    where
      taken : Option Function → ℕ
      taken o = routine_and_calls count (helper_chain count prelude 9) (chains k) o

      there : slice_get (program c names).routines k ≡ Some (function c names k)
      there = function_at c names (length c.routines) 0 k l ∙ (let e : 0 + k ≡ k = omega arith in ap (λ n. Some (function c names n)) e)

  -- the need of a routine and the chain of its function
  pub chain_near : (n : ℕ) → n < length c.routines → IsNear d (need_from own c n) (chain count (program c names) n)
  chain_near n l =
      let h = near (length c.routines) (omega arith) n in
      let a = own_need own c (length c.routines) n l in
      let b : chain count (program c names) n ≡ chains (length c.routines) n = ap (λ k. chains k n) (function_count c names (length c.routines) 0) in
      let x = h.0 in
      let y = h.1 in
      (omega (arith, a, b, x), omega (arith, a, b, y))

-- routines that take the same need the same
called_same : (f g : ℕ → ℕ) → ((m : ℕ) → f m ≡ g m) → (j : Shape) → called f j ≡ called g j
called_same f g h (Call m) = h m
called_same f g h (Straight b w) = refl
called_same f g h (Jump t) = refl
called_same f g h (Branch t) = refl
called_same f g h Return = refl
called_same f g h Fail = refl
called_same f g h (While t) = refl
called_same f g h (Again t) = refl
called_same f g h (Open k) = refl
called_same f g h Close = refl

greatest_same : (s : List Shape) (f g : ℕ → ℕ) → ((m : ℕ) → f m ≡ g m) → (from k : ℕ) → greatest s f from k ≡ greatest s g from k
greatest_same s f g h from zero = refl
greatest_same s f g h from (suc k) =
    let a = greatest_same s f g h from k in
    let b = called_same f g h (shape_at s (from + k)) in
    omega (arith, a, b)

either_same : (b : Bool) (x y u v : ℕ) → x ≡ u → y ≡ v → cond b x y ≡ cond b u v
either_same true x y u v h k = h
either_same false x y u v h k = k

need_same : (s : List Shape) (ls : List ℕ) (f g : ℕ → ℕ) → ((m : ℕ) → f m ≡ g m) → (k m : ℕ) → need f s ls k m ≡ need g s ls k m
need_same s ls f g h zero m = refl
need_same s ls f g h (suc k) m =
    let a = greatest_same s (need f s ls k) (need g s ls k) (need_same s ls f g h k) (begin ls k) (slice_index ls k) in
    let b = h k in
    either_same (nat_eq m k) (f k + greatest s (need f s ls k) (begin ls k) (slice_index ls k)) (need f s ls k m) (g k + greatest s (need g s ls k) (begin ls k) (slice_index ls k)) (need g s ls k m)
    (omega (arith, a, b)) (need_same s ls f g h k m)

from_same : (c : Parts) (f g : ℕ → ℕ) → ((m : ℕ) → f m ≡ g m) → (n : ℕ) → need_from f c n ≡ need_from g c n
from_same c f g h n =
    let a = greatest_same (shapes_of c) (need f (shapes_of c) (lengths_of c) n) (need g (shapes_of c) (lengths_of c) n) (need_same (shapes_of c) (lengths_of c) f g h n) (begin (lengths_of c) n) (slice_index (lengths_of c) n) in
    let b = h n in
    omega (arith, a, b)

-- a routine's variables
register_count : (first count : ℕ) → length (registers first count) ≡ count
register_count first zero = refl
register_count first (suc n) = ap suc (register_count (first + 1) n)

has_params : (rs : List Routine) (n : ℕ) (none : Routine) → none.params ≤ none.registers
    → ((k : ℕ) → k < length rs → (slice_index_or rs k none).params ≤ (slice_index_or rs k none).registers) → (slice_index_or rs n none).params ≤ (slice_index_or rs n none).registers
has_params [] n none h each = h
has_params (r ∷ rs) zero none h each = each 0 (omega arith)
has_params (r ∷ rs) (suc n) none h each = has_params rs n none h (λ k l. each (suc k) (omega (arith, l)))

counted : (c : Parts) (names : ℕ → List ℕ) → IsCode c → (m : ℕ) → variables_open.routine (function c names m) ≡ variables c m
counted c names code m =
    let p = register_count 0 (routine_of c m).params in
    let r = register_count (routine_of c m).params ((routine_of c m).registers - (routine_of c m).params) in
    let h : (routine_of c m).params ≤ (routine_of c m).registers = has_params c.routines m _ (omega arith) (λ k l. (code.routines k l).room) in
    omega (arith, p, r, h)

-- no need is above the greatest
most_at : (f : ℕ → ℕ) (c : Parts) (n k : ℕ) → k < n → need_from f c k ≤ most f c n
most_at f c zero k h = absurd (omega (arith, h))
most_at f c (suc n) k h = elim (cases_lt k n) [
  | inl lt ↦ let a = most_at f c n k lt in omega (arith, a)
  | inr le ↦ let z : k ≡ n = omega (arith, h, le) in let a = ap (need_from f c) z in omega (arith, a)
]

pub stack_is_need : ((c : Parts) → IsCode c → IsSound c → IsSafe c) → StackIsNeed
stack_is_need safe_of c names n code sound l = record {
  routines = exact;
  variables_alone = exact variables_open.routine ∙ same;
  functions = record { least = called_near.0; most = called_near.1 };
  variables = record { least = omega (arith, kept_near.0, same); most = omega (arith, kept_near.1, same) };
  functions_most = (let m = most_at level c (length c.routines) n l in omega (arith, called_near.1, m));
  variables_most = (let m = most_at (variables c) c (length c.routines) n l in omega (arith, kept_near.1, same, m));
}
  where
    safe : IsSafe c
    safe = safe_of c code sound

    called_near : IsNear 3 (need_from level c n) (chain functions_open (program c names) n)
    called_near = chain_near c names code sound safe functions_open 3 three_functions n l

    own : ℕ → ℕ
    own m = variables_open.routine (function c names m)

    kept_near : IsNear 7 (need_from own c n) (chain variables_open (program c names) n)
    kept_near = chain_near c names code sound safe variables_open 7 seven_variables n l

    exact : (own : Function → ℕ) → chain (of_routines own) (program c names) n ≡ need_from (λ m. own (function c names m)) c n
    exact own = let h = chain_near c names code sound safe (of_routines own) 0 (nothing_counted own) n l in let x = h.0 in let y = h.1 in omega (arith, x, y)

    same : need_from own c n ≡ need_from (variables c) c n
    same = from_same c own (variables c) (counted c names code) n
