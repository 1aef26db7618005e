-- What a block does (own rule): the run of code, but for the places of instructions and the count of steps.
use Rattle.std.specs.Prelude.{ℕ, zero, suc, Bool, true, false, cond, nat_eq, List, [], ◌∷◌, ◌++◌}
use Rattle.td_lower_means.specs.Imports.{Reason, Instr, Parts}
use Rattle.td_core.specs.Outcome.{Behavior, Ending, Accepted, Rejected}
use Rattle.td_ir.specs.declared.instructions.Instr.TheVariants as i
use Rattle.td_ir.specs.State.{State, reg, left, Way, Returned, Turned, Failed, Stuck, Exit}
use Rattle.td_ir.specs.Flow.{Flow, Goes, Fails, Calls, Returns, Loops, Turns, effect}
use Rattle.td_ir.specs.Run.{frame}
use Rattle.td_lower_blocks.specs.Block.{Block, Done, Then, Stop, Leave, Guard, Scope, Window, Loop}
use Rattle.td_lower_means.specs.CodeRun.{way_of}

-- how code is passed: how it is left, and what it looks at
pub record Passage : Type 0 where
  pub way : Way
  pub touched : List ℕ

abbrev pub passage : Exit → Passage
passage e = record { way = e.way; touched = e.touched }

abbrev pub plainly : Way → Passage
plainly way = record { way = way; touched = [] }

-- the same after these places were looked at
abbrev pub touching : List ℕ → Passage → Passage
touching places e = record { way = e.way; touched = places ++ e.touched }

abbrev pub passage_of : Behavior → Passage
passage_of behavior = record { way = way_of behavior.ending; touched = behavior.reads }

-- goes on where it accepts
abbrev pub onto_ending : Ending → List ℕ → (ℕ → List ℕ → Passage) → Passage
onto_ending (Accepted position cells) reads go = touching reads (go position cells)
onto_ending (Rejected reason position trace cells) reads go = record { way = Failed reason position trace cells; touched = reads }

abbrev pub onto : Behavior → (ℕ → List ℕ → Passage) → Passage
onto behavior go = onto_ending behavior.ending behavior.reads go

-- a failure with its frame alone
abbrev pub failed : Parts → Reason → (site pos : ℕ) → State → Passage
failed c reason site pos s = plainly (Failed reason pos (frame c site s reason ∷ []) s.cells)

-- a callee's passage, in its caller: back to it, or with one frame more
abbrev pub backward : Parts → ℕ → State → (State → Passage) → List ℕ → Way → Passage
backward c site s go touched (Returned pos cells) = touching touched (go (record s { cells = cells; pos = pos }))
backward c site s go touched (Turned t) = plainly Stuck
backward c site s go touched (Failed reason pos trace cells) =
    record { way = Failed reason pos (trace ++ frame c site s reason ∷ []) cells; touched = touched }
backward c site s go touched Stuck = plainly Stuck

abbrev pub back : Parts → ℕ → State → (State → Passage) → Passage → Passage
back c site s go e = backward c site s go e.touched e.way

-- goes on after a turn of a loop
abbrev pub turned : (State → Passage) → List ℕ → Way → Passage
turned go touched (Turned t) = touching touched (go t)
turned go touched (Returned pos cells) = record { way = Returned pos cells; touched = touched }
turned go touched (Failed reason pos trace cells) = record { way = Failed reason pos trace cells; touched = touched }
turned go touched Stuck = plainly Stuck

abbrev pub again : (State → Passage) → Passage → Passage
again go e = turned go e.touched e.way

-- turns up to the end
abbrev pub turns : ℕ → (State → Passage) → (State → Passage) → State → Passage
turns zero body behind s = behind s
turns (suc n) body behind s = cond (nat_eq s.pos s.end) (behind s) (again (turns n body behind) (body s))

-- a call: from its first register, routine, cell map and caller
abbrev pub Calling : Type 0
Calling = ℕ → ℕ → ℕ → State → Passage

-- goes on where a test holds, else fails
abbrev pub if_so : Bool → State → Reason → (site pos : ℕ) → State → Flow
if_so test t reason site pos s = cond test (Goes 1 t) (Fails reason site pos s)

-- go is the passage from the next instruction on
abbrev pub onwards : Parts → Calling → Flow → (State → Passage) → Passage
onwards c calls (Goes target s) go = go s
onwards c calls (Fails reason site pos s) go = failed c reason site pos s
onwards c calls (Calls first routine map site s) go = back c site s go (calls first routine map s)
onwards c calls (Returns s) go = plainly (Returned s.pos s.cells)
onwards c calls (Loops target s) go = plainly Stuck
onwards c calls (Turns s) go = plainly (Turned s)

abbrev pub nowhere : State → Passage
nowhere s = plainly Stuck

module _ (c : Parts) (self : ℕ) (message places : List ℕ) (calls : Calling) where
  -- one instruction, and then go
  abbrev pub passes : Instr → (State → Passage) → State → Passage
  passes j go s = touching (effect c self message places 0 j s).touched (onwards c calls (effect c self message places 0 j s).flow go)

  -- passed over where a register isn't 0 (true) or is 0 (false)
  abbrev pub guarded : Bool → ℕ → Passage → Passage → Passage
  guarded true n one rest = cond (nat_eq n 0) one rest
  guarded false n one rest = cond (nat_eq n 0) rest one

  -- leave is the passage from where it is left, and go from where it ends
  abbrev pub ran : Block → (leave go : State → Passage) → State → Passage
  ran Done leave go s = go s
  ran (Then j b) leave go s = passes j (ran b leave go) s
  ran (Stop j) leave go s = passes j nowhere s
  ran Leave leave go s = leave s
  ran (Guard g r one rest) leave go s = guarded g (reg s r) (ran one leave (ran rest leave go) s) (ran rest leave go s)
  ran (Scope body rest) leave go s = ran body (ran rest leave go) (ran rest leave go) s
  ran (Window j site body rest) leave go s = passes j (ran body leave (passes (i.Widen site) (ran rest leave go))) s
  ran (Loop body rest) leave go s = turns (suc (left s)) (ran body leave (λ t. plainly (Turned t))) (ran rest leave go) s
