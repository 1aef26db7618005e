-- The exit from one instruction on, by that of the instructions to which it leads. Cited by other crates.
use Rattle.std.proofs.Common.{◌≡◌, ℕ, zero, suc, ◌+◌, ◌-◌, ◌<◌, ◌≤◌, Bool, true, false, cond, List, [], ◌∷◌, ◌++◌, Some, sym, refl, ap, ◌∙◌, arith, take, drop, append_assoc}
use Rattle.std.specs.Prelude.{slice_get, slice_range, nat_eq}
use Rattle.std.proofs.lemmas.Option.{slice_get_within, get_or_from_slice_get}
use Rattle.std.proofs.Math.Seq.{drop-cons}
use Rattle.std.proofs.lemmas.Bool.{eqb-true, lt-ltb}
use Rattle.td_num.proofs.Lists.{drop_range}
use Rattle.td_num.proofs.Equals.{below_other}
use Rattle.td_ir.specs.declared.tables.Parts.{Parts}
use Rattle.td_ir.specs.declared.instructions.Instr.{Instr}
use Rattle.td_ir.specs.Tables.{routine_of, cells_by, first_of, end_of}
use Rattle.td_ir.specs.State.{State, left, registers_from, Way, Returned, Turned, Failed, Stuck, Exit, at_once, after}
use Rattle.td_ir.specs.Flow.{Flow, Goes, Fails, Calls, Returns, Loops, Turns}
use Rattle.td_ir.specs.Run.{Callees, back, back_by, again, again_by, turns, led, follow, pick, goes, exits, places_by, entered, below, calls_of, block}
use Rattle.td_ir.specs.RunLaws.{HasEffect, RunGoes, RunFails, RunReturns, RunTurns, RunCalls, RunLoops, AfterAfter}

pub pick_at : (c : Parts) (n : ℕ) (message places : List ℕ) (calls : Callees) (pc : ℕ) (js : List Instr) (k : ℕ) (s : State) → pick (exits c n message places calls pc js) k s ≡ pick (exits c n message places calls (pc + k) (drop k js)) 0 s
pick_at c n message places calls pc [] zero s = refl
pick_at c n message places calls pc [] (suc k) s = refl
pick_at c n message places calls pc (j ∷ js) zero s =
    let e : pc ≡ pc + 0 = omega arith in ap (λ p. pick (exits c n message places calls p (j ∷ js)) 0 s) e
pick_at c n message places calls pc (j ∷ js) (suc k) s =
    let e : pc + 1 + k ≡ pc + suc k = omega arith in
    pick_at c n message places calls (pc + 1) js k s ∙ ap (λ p. pick (exits c n message places calls p (drop k js)) 0 s) e

range_first : {X : Type 0} (xs : List X) (a to : ℕ) (x : X) → slice_get xs a ≡ Some x → a < to → slice_range xs a to ≡ x ∷ slice_range xs (a + 1) to
range_first {X} xs a to x h l =
    let e : to - a ≡ suc (to - (a + 1)) = omega arith in
    let n : suc a ≡ a + 1 = omega arith in
    ap (λ m. take m (drop a xs)) e
    ∙ ap (λ ys. take (suc (to - (a + 1))) ys) (drop-cons xs a x (slice_get_within xs a x h) ∙ ap (λ y. y ∷ drop (suc a) xs) (get_or_from_slice_get xs a x x h))
    ∙ ap (λ m. x ∷ take (to - (a + 1)) (drop m xs)) n

-- where a jump from pc leads
abbrev pub jump : Parts → List ℕ → ℕ → List ℕ → ℕ → ℕ → State → Exit
jump c message n places pc t s = goes pc (exits c n message places (calls_of c message n places) (pc + 1) (slice_range c.instructions (pc + 1) (end_of c n))) t s

pub jump_to : (c : Parts) (message : List ℕ) (n : ℕ) (places : List ℕ) (pc t : ℕ) (s : State) → pc < t → t < end_of c n → jump c message n places pc t s ≡ block c message n places t s
jump_to c message n places pc t s h l =
    let to = end_of c n in
    let js = c.instructions in
    let e : pc + 1 + (t - (pc + 1)) ≡ t = omega arith in
    let m : pc + 1 + (t - (pc + 1)) ≤ to = omega arith in
    ap (λ v. cond v (pick (exits c n message places (calls_of c message n places) (pc + 1) (slice_range js (pc + 1) to)) (t - (pc + 1)) s) (at_once Stuck)) (lt-ltb pc t h)
    ∙ pick_at c n message places (calls_of c message n places) (pc + 1) (slice_range js (pc + 1) to) (t - (pc + 1)) s
    ∙ ap (λ l. pick (exits c n message places (calls_of c message n places) (pc + 1 + (t - (pc + 1))) l) 0 s) (drop_range js (pc + 1) (t - (pc + 1)) to m)
    ∙ ap (λ p. pick (exits c n message places (calls_of c message n places) p (slice_range js p to)) 0 s) e

unfolded : (c : Parts) (message places : List ℕ) (n pc : ℕ) (s : State) (flow : Flow) (touched : List ℕ) (steps : ℕ) → HasEffect c message places n pc s flow touched steps → block c message n places pc s ≡ after touched steps (led c (calls_of c message n places) pc (jump c message n places pc) flow)
unfolded c message places n pc s flow touched steps h =
    ap (λ js. pick (exits c n message places (calls_of c message n places) pc js) 0 s) (range_first c.instructions pc (end_of c n) h.instruction h.there h.within)
    ∙ ap (follow c (calls_of c message n places) pc (jump c message n places pc)) h.is

pub run_goes : RunGoes
run_goes c message places n pc target s t touched steps h f l =
    unfolded c message places n pc s (Goes target t) touched steps h ∙ ap (after touched steps) (jump_to c message n places pc target t f l)

pub run_fails : RunFails
run_fails c message places n pc reason site pos s t touched steps h = unfolded c message places n pc s (Fails reason site pos t) touched steps h

pub run_returns : RunReturns
run_returns c message places n pc s t touched steps h = unfolded c message places n pc s (Returns t) touched steps h

pub run_turns : RunTurns
run_turns c message places n pc s t touched steps h = unfolded c message places n pc s (Turns t) touched steps h

-- exits that agree everywhere are equal
back_same : (c : Parts) (site : ℕ) (s : State) (f g : State → Exit) → ((t : State) → f t ≡ g t) → (touched : List ℕ) (steps : ℕ) (w : Way) → back_by c site s f touched steps w ≡ back_by c site s g touched steps w
back_same c site s f g h touched steps (Returned pos cells) = ap (after touched steps) (h (record s { cells = cells; pos = pos }))
back_same c site s f g h touched steps (Turned t) = refl
back_same c site s f g h touched steps (Failed reason pos trace cells) = refl
back_same c site s f g h touched steps Stuck = refl

pub again_same : (f g : State → Exit) → ((t : State) → f t ≡ g t) → (touched : List ℕ) (steps : ℕ) (w : Way) → again_by f touched steps w ≡ again_by g touched steps w
again_same f g h touched steps (Returned pos cells) = refl
again_same f g h touched steps (Turned t) = ap (after touched (steps + 1)) (h t)
again_same f g h touched steps (Failed reason pos trace cells) = refl
again_same f g h touched steps Stuck = refl

pub branch_same : (v : Bool) (x y x' y' : Exit) → x ≡ x' → y ≡ y' → cond v x y ≡ cond v x' y'
branch_same true x y x' y' e f = e
branch_same false x y x' y' e f = f

pub turns_same : (k : ℕ) (f g behind behind' : State → Exit) → ((t : State) → f t ≡ g t) → ((t : State) → behind t ≡ behind' t) → (s : State) → turns k f behind s ≡ turns k g behind' s
turns_same zero f g behind behind' h h' s = h' s
turns_same (suc k) f g behind behind' h h' s =
    branch_same _ (behind s) (again (turns k f behind) (f s)) (behind' s) (again (turns k g behind') (g s)) (h' s)
    (ap (again (turns k f behind)) (h s) ∙ again_same (turns k f behind) (turns k g behind') (λ t. turns_same k f g behind behind' h h' t) (g s).touched (g s).steps (g s).way)

at_test : (c : Parts) (message : List ℕ) (k n : ℕ) (places : List ℕ) (s : State) → n < suc k → (n < k → below c message k n places s ≡ block c message n places (first_of c n) s) → (v : Bool) → nat_eq n k ≡ v → cond v (block c message k places (first_of c k) s) (below c message k n places s) ≡ block c message n places (first_of c n) s
at_test c message k n places s h rest true e = let q : k ≡ n = sym (eqb-true n k e) in ap (λ m. block c message m places (first_of c m) s) q
at_test c message k n places s h rest false e = rest (below_other n k h e)

-- a below_other routine, from its first instruction on
below_is : (c : Parts) (message : List ℕ) (k n : ℕ) (places : List ℕ) (s : State) → n < k → below c message k n places s ≡ block c message n places (first_of c n) s
below_is c message zero n places s h = absurd (omega arith)
below_is c message (suc k) n places s h = at_test c message k n places s h (λ q. below_is c message k n places s q) (nat_eq n k) refl

pub run_calls : RunCalls
run_calls c message places n pc first m cells site s t touched steps h l less =
    let args = registers_from t.regs first (routine_of c m).params in
    let callee = below c message n m (places_by places (cells_by c n m cells)) (entered (routine_of c m) args t) in
    unfolded c message places n pc s (Calls first m cells site t) touched steps h
    ∙ ap (after touched steps)
    (back_same c site t (jump c message n places pc (pc + 1)) (block c message n places (pc + 1)) (λ u. jump_to c message n places pc (pc + 1) u (omega arith) l) callee.touched callee.steps callee.way
    ∙ ap (back c site t (block c message n places (pc + 1))) (below_is c message n m _ _ less))

pub run_loops : RunLoops
run_loops c message places n pc target s t touched steps h l m =
    unfolded c message places n pc s (Loops target t) touched steps h
    ∙ ap (after touched steps)
    (turns_same (suc (left t)) (jump c message n places pc (pc + 1)) (block c message n places (pc + 1)) (jump c message n places pc target) (block c message n places target)
    (λ u. jump_to c message n places pc (pc + 1) u (omega arith) (omega arith)) (λ u. jump_to c message n places pc target u (omega arith) m) t)

plus_assoc : (a b k : ℕ) → a + (b + k) ≡ a + b + k
plus_assoc a b k = omega arith

same_exit : (w : Way) (t u : List ℕ) (k m : ℕ) → t ≡ u → k ≡ m → ◌≡◌ {A = Exit} (record { way = w; touched = t; steps = k }) (record { way = w; touched = u; steps = m })
same_exit w t u k m e f = ap (λ x. record { way = w; touched = x; steps = k }) e ∙ ap (λ x. record { way = w; touched = u; steps = x }) f

pub after_after : AfterAfter
after_after places more steps further e = same_exit e.way (places ++ (more ++ e.touched)) ((places ++ more) ++ e.touched) (steps + (further + e.steps)) (steps + further + e.steps) (sym (append_assoc places more e.touched)) (plus_assoc steps further e.steps)
