-- The helpers call each other at most three deep, with seven variables.
use Rattle.std.proofs.Common.{ℕ, zero, suc, ◌+◌, ◌≤◌, Bool, true, false, cond, arith}
use Rattle.std.specs.Prelude.{nat_eq, slice_get}
use Rattle.td_prog.specs.Syntax.{Function}
use Rattle.td_prog_code.specs.Prelude.{prelude}
use Rattle.td_prog_stack.specs.Chains.{Count, functions_open, variables_open, of_routines, helper_and_calls, helper_chain}

either : (d : ℕ) (b : Bool) (x y : ℕ) → x ≤ d → y ≤ d → cond b x y ≤ d
either d true x y h k = h
either d false x y h k = k

module _ (count : Count) (d : ℕ) (n : ℕ) where
  -- what helper k takes
  abbrev takes : ℕ → ℕ
  takes k = helper_and_calls count (helper_chain count prelude k) (slice_get prelude k)

  next : (k : ℕ) → takes k ≤ d → helper_chain count prelude k n ≤ d → helper_chain count prelude (suc k) n ≤ d
  next k h rest = either d (nat_eq n k) (takes k) (helper_chain count prelude k n) h rest

  all_nine : takes 0 ≤ d → takes 1 ≤ d → takes 2 ≤ d → takes 3 ≤ d → takes 4 ≤ d → takes 5 ≤ d → takes 6 ≤ d → takes 7 ≤ d → takes 8 ≤ d → helper_chain count prelude 9 n ≤ d
  all_nine a b c e f g h i j = next 8 j (next 7 i (next 6 h (next 5 g (next 4 f (next 3 e (next 2 c (next 1 b (next 0 a (omega arith)))))))))

pub three_functions : (n : ℕ) → helper_chain functions_open prelude 9 n ≤ 3
three_functions n =
    all_nine functions_open 3 n (omega arith) (omega arith) (omega arith) (omega arith) (omega arith) (omega arith) (omega arith) (omega arith) (omega arith)

pub seven_variables : (n : ℕ) → helper_chain variables_open prelude 9 n ≤ 7
seven_variables n =
    all_nine variables_open 7 n (omega arith) (omega arith) (omega arith) (omega arith) (omega arith) (omega arith) (omega arith) (omega arith) (omega arith)

pub nothing_counted : (own : Function → ℕ) (n : ℕ) → helper_chain (of_routines own) prelude 9 n ≤ 0
nothing_counted own n =
    all_nine (of_routines own) 0 n (omega arith) (omega arith) (omega arith) (omega arith) (omega arith) (omega arith) (omega arith) (omega arith) (omega arith)
