-- What statements of the small C mean (own rule): each by what comes behind it, so there is no program counter and no stack.
use Rattle.std.specs.Prelude.{ℕ, zero, suc, ◌+◌, ◌-◌, ◌%◌, ◌^◌, cond, List, [], ◌∷◌, ◌++◌, Option, Some, None, map, take, nat_eq, slice_index, slice_set}
use Rattle.td_num.specs.Lists.{is_among}
use Rattle.td_core.specs.declared.module.NameId.{NameId}
use Rattle.td_core.specs.declared.outcome.Reason.{Reason}
use Rattle.td_core.specs.declared.outcome.Spot.{Spot}
use Rattle.td_core.specs.declared.outcome.TraceFrame.{TraceFrame}
use Rattle.td_core.specs.Outcome.{frame_at}
use Rattle.td_ir.specs.State.{registers_from}
use Rattle.td_ir.specs.Values.{bit}
use Rattle.td_prog.specs.Tree.{Tree, Done, Loads, bind}
use Rattle.td_prog.specs.Syntax.{Var, Block, Ends, Assign, Store, Byte, Member, Load, If, While, Label, Goto, Fail, Return, CallHelper, Call}
use Rattle.td_prog.specs.Values.{Locals, read, written, value, values, with_byte}

-- How a function is left: by `return e;`; by `return td_fail(..);` or `return td_frame(..);`, with the outcome that these have written; or it does what C leaves undefined.
pub data Out : Type 0 where
  Gave : (value : ℕ) → Locals → Out
  Refused : (reason : Reason) (pos : ℕ) (trace : List TraceFrame) → Locals → Out
  Undefined : Out

-- what comes next, from these variables on
abbrev pub Continuation : Type 0
Continuation = Locals → Tree Out

-- behind a function's last statement: C's caller would use a value that no `return` gave
abbrev pub nowhere : Continuation
nowhere s = Done Undefined

-- what stands behind each label
abbrev pub Labels : Type 0
Labels = List (ℕ × Continuation)

-- `goto l7;`
abbrev pub jump : ℕ → Labels → Continuation
jump l [] s = Done Undefined
jump l (e ∷ es) s = cond (nat_eq l e.0) (e.1 s) (jump l es s)

-- on with a value that C defines
abbrev pub given : {X : Type 0} → Option X → (X → Tree Out) → Tree Out
given None f = Done Undefined
given (Some v) f = f v

-- `while (test) { body }`, of at most so many tests; of a loop that takes more nothing is known
abbrev pub turns : ℕ → (Locals → Option ℕ) → (Continuation → Continuation) → Continuation → Continuation
turns zero test body behind s = Done Undefined
turns (suc n) test body behind s = given (test s) (λ v. cond (nat_eq v 0) (behind s) (body (turns n test body behind) s))

-- the caller's own variables, with what its callee left in those that all functions share
abbrev pub shared : Locals → Locals → Locals
shared s t = record s { next = t.next; held = t.held; cells = t.cells; buffers = t.buffers }

-- what td_frame adds behind the frames that are there: an outcome has room for 32, and a frame for the lower 32 bits of a place
abbrev pub framed : List TraceFrame → NameId → Spot → Reason → ℕ → List TraceFrame
framed trace ty field reason start = take 32 (trace ++ frame_at (record { ty = ty; field = field; start = start % 2 ^ 32 }) reason ∷ [])

-- `x = helper(..);` goes on with the helper's value; a helper that fails is undefined, since its caller doesn't test that
abbrev pub after_helper : Var → Locals → Continuation → Out → Tree Out
after_helper x s go (Gave v t) = go (written x v (shared s t))
after_helper x s go (Refused reason pos trace t) = Done Undefined
after_helper x s go Undefined = Done Undefined

-- `pos = routine(..); if (pos == TD_FAILED) { return td_frame(..); }` goes on from the routine's position, or fails with one frame more. A routine that returns the
-- number TD_FAILED is undefined, since its caller takes that for a failure.
abbrev pub after_routine : NameId → Spot → Locals → Continuation → Out → Tree Out
after_routine ty field s go (Gave v t) = cond (nat_eq v (2 ^ 64 - 1)) (Done Undefined) (go (record (shared s t) { pos = v }))
after_routine ty field s go (Refused reason pos trace t) = Done (Refused reason pos (framed trace ty field reason s.start) (shared s t))
after_routine ty field s go Undefined = Done Undefined

-- helpers by number, with arguments and the buffers to which their pointers lead; and routines, with the cells, too
abbrev pub Helpers : Type 0
Helpers = ℕ → (values buffers : List ℕ) → Continuation

abbrev pub Routines : Type 0
Routines = ℕ → (args places buffers : List ℕ) → Continuation

-- in a function whose pointers `c0`, .. and `b0`, .. lead to these cells and buffers of the run, where a loop has at most so many tests
module _ (most : ℕ) (helpers : Helpers) (routines : Routines) (places own : List ℕ) where
  -- What statements do from the first on, by what comes behind the last; and what stands behind their labels and those around them. A goto leads to a label behind it, in
  -- its own block or in one around it up to a loop.
  abbrev pub block_means : Block → Continuation → Labels → Continuation × Labels
  block_means Ends go around = (go, around)
  block_means (Assign x e rest) go around = let r = block_means rest go around in (λ s. given (value places e s) (λ v. r.0 (written x v s)), r.1)
  block_means (Store k e rest) go around =
      let r = block_means rest go around in (λ s. given (value places e s) (λ v. r.0 (record s { cells = slice_set s.cells (slice_index places k) v })), r.1)
  block_means (Byte b e f rest) go around =
      let r = block_means rest go around in
      (λ s. given (value places e s) (λ k. given (value places f s) (λ n. given (with_byte s.buffers (slice_index own b) k n) (λ bytes. r.0 (record s { buffers = bytes })))), r.1)
  block_means (Member x y numbers rest) go around = let r = block_means rest go around in (λ s. r.0 (written x (bit (is_among numbers (read y s))) s), r.1)
  block_means (Load rest) go around = let r = block_means rest go around in (λ s. Loads s.word (λ v. r.0 (record s { next = s.word + 1; held = v })), r.1)
  block_means (If e inner rest) go around = let r = block_means rest go around in (λ s. given (value places e s) (λ v. cond (nat_eq v 0) (r.0 s) ((block_means inner r.0 r.1).0 s)), r.1)
  block_means (While e inner rest) go around = let r = block_means rest go around in (turns most (value places e) (λ again. (block_means inner again []).0) r.0, r.1)
  block_means (Label l rest) go around = let r = block_means rest go around in (r.0, (l, r.0) ∷ r.1)
  block_means (Goto l rest) go around = let r = block_means rest go around in (jump l r.1, r.1)
  block_means (Fail reason e ty field rest) go around =
      let r = block_means rest go around in (λ s. given (value places e s) (λ pos. Done (Refused reason (pos % 2 ^ 32) (framed [] ty field reason s.start) s)), r.1)
  block_means (Return e rest) go around = let r = block_means rest go around in (λ s. given (value places e s) (λ v. Done (Gave v s)), r.1)
  block_means (CallHelper x helper es buffers rest) go around =
      let r = block_means rest go around in (λ s. given (values places es s) (λ vs. bind (helpers helper vs (map (slice_index own) buffers) s) (after_helper x s r.0)), r.1)
  block_means (Call first params routine cells buffers ty field rest) go around =
      let r = block_means rest go around in
      (λ s. bind (routines routine (registers_from s.regs first params) (map (slice_index places) cells) (map (slice_index own) buffers) s) (after_routine ty field s r.0), r.1)
