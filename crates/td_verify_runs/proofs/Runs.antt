-- A run of verified code comes to an answer within its weight, and each turn of a loop takes a byte. Cited by other crates.
use Rattle.std.proofs.Common.{◌≡◌, ℕ, suc, ◌+◌, ◌<◌, ◌≤◌, List, length, ap, ◌∙◌, subst, arith}
use Rattle.td_num.specs.Numbers.{places_from}
use Rattle.td_verify_runs.specs.Imports.{Parts, While}
use Rattle.td_ir.specs.Tables.{routine_of, entry_of, first_of, end_of}
use Rattle.td_ir.specs.State.{State, Way, Returned, Turned, Failed, Stuck}
use Rattle.td_ir.specs.Run.{entered, started, block, run_routine, run}
use Rattle.td_ir.specs.WellFormed.{IsCode}
use Rattle.td_verify.specs.Shape.{shapes_of}
use Rattle.td_verify.specs.Brackets.{shape_at, in_loop}
use Rattle.td_verify.specs.Verify.{IsIn, IsSound}
use Rattle.td_verify.specs.Safe.{IsSafe}
use Rattle.td_verify_runs.specs.Stretches.{IsRunnable}
use Rattle.td_verify_runs.specs.Laws.{weight, RunIsBounded, IsAnswer}
use Rattle.td_verify_runs.proofs.Effects.{InOrder}
use Rattle.td_verify_runs.proofs.Stretches.{body_stretch, turn_busy, grown, within_length}
use Rattle.td_verify_runs.proofs.Bounds.{LeftBy, Bounded, callee_steps, starts, on_from, light_below}

-- how a run of a routine is left
bounded : (c : Parts) → IsCode c → IsSafe c → (n : ℕ) → n < length c.routines → (args cells message : List ℕ) → Bounded c n (first_of c n) (end_of c n) (entered (routine_of c n) args (started cells message)) 0 (run_routine c n args cells message)
bounded c code safe n l args cells message =
    light_below c (record { code = code; safe = safe }) message (suc n) n (omega arith) l (places_from 0 (length cells)) (entered (routine_of c n) args (started cells message)) (record { within = omega arith; around = omega arith })

-- no more steps than what runs weighs, for each byte and once more
pub run_is_bounded : ((c : Parts) → IsCode c → IsSound c → IsSafe c) → RunIsBounded
run_is_bounded safe c entry args cells message code sound there =
    let safe = safe c code sound in
    let n = (entry_of c entry.number).routine in
    let l : n < length c.routines = (code.entries entry.number there).there in
    let e = run c entry args cells message in
    let q = bounded c code safe n l args cells message in
    let a = callee_steps c n (entered (routine_of c n) args (started cells message)) e (record { code = code; safe = safe }) l q in
    let all = within_length 0 e.steps (weight c n) 0 q.at (length message) (omega (arith, a)) q.within in
    omega (arith, all)

-- code comes to an answer
pub run_answers : (c : Parts) → IsCode c → IsSafe c → (n : ℕ) → n < length c.routines → (args cells message : List ℕ) → IsAnswer (run_routine c n args cells message).way
run_answers c code safe n l args cells message =
    let q = bounded c code safe n l args cells message in
    by q.at (run_routine c n args cells message).way q.leaves
  where
    by : (at : ℕ) (w : Way) → LeftBy c n (first_of c n) (entered (routine_of c n) args (started cells message)) at w → IsAnswer w
    by at (Returned pos cells) h = tt
    by at (Turned t) h = let e = ap in_loop (safe.begins n l).1 in let f = h.1 in absurd (cc)
    by at (Failed reason pos trace cells) h = tt
    by at Stuck h = h

-- it returns at a position of the message, or at its end
pub run_stays_within : (c : Parts) → IsCode c → IsSafe c → (n : ℕ) → n < length c.routines → (args cells message : List ℕ) (pos : ℕ) (out : List ℕ) → (run_routine c n args cells message).way ≡ Returned pos out → pos ≤ length message
run_stays_within c code safe n l args cells message pos out e =
    let q = bounded c code safe n l args cells message in
    let left = subst (LeftBy c n (first_of c n) (entered (routine_of c n) args (started cells message)) q.at) e q.leaves in
    let is : pos ≡ q.at = left.0 in
    let within : q.at ≤ length message = q.within in
    omega (arith, is, within)

-- a turn of a loop that ends takes a byte, and leaves the end
pub turn_takes : (c : Parts) → IsCode c → IsSafe c → (message places : List ℕ) (n pc q : ℕ) → IsIn c n pc → shape_at (shapes_of c) pc ≡ While q → (s t : State) → s.pos ≤ s.end → s.end ≤ s.outer → (block c message n places (pc + 1) s).way ≡ Turned t
    → (s.pos < t.pos) × (t.end ≡ s.end)
turn_takes c code safe message places n pc q i is s t h l e =
    let body = body_stretch c n pc q r i is in
    let turn : Bounded c n (pc + 1) q s 0 (block c message n places (pc + 1) s) =
    on_from c r message n (λ m lower. light_below c r message n m lower (omega (arith, lower, i.routine))) (end_of c n) places (pc + 1) q (pc + 1) s s 0 body (starts c n (pc + 1) q s body order) (omega arith) in
    let left : LeftBy c n (pc + 1) s turn.at (Turned t) = subst (LeftBy c n (pc + 1) s turn.at) e turn.leaves in
    (let up = grown s.pos t.pos (let f = turn.from in let p = left.0 in omega (arith, f, p)) (λ z. turn_busy c n pc q r i is (left.2 (z ∙ left.0))) in omega (arith, up), left.3)
  where
    r : IsRunnable c
    r = record { code = code; safe = safe }

    order : InOrder s
    order = record { within = h; around = l }
