-- A routine's activation: what the proofs of its instructions stand on.
use Rattle.std.proofs.Common.{◌≡◌, ℕ, ◌^◌, ◌<◌, List, Some, slice_get, length, ◌+◌}
use Rattle.td_num.specs.Lists.{Each}
use Rattle.td_ir.specs.declared.instructions.Instr.{Instr}
use Rattle.td_ir.specs.declared.tables.Parts.{Parts}
use Rattle.td_ir.specs.Tables.{routine_of, first_of, end_of}
use Rattle.td_ir.specs.State.{State, Exit}
use Rattle.td_ir.specs.Run.{again, entered, block}
use Rattle.td_prog.specs.Syntax.{Block}
use Rattle.td_prog.specs.Values.{Locals}
use Rattle.td_prog.specs.Means.{Continuation, Labels, Helpers, Routines, block_means}
use Rattle.td_prog_trees.specs.Agree.{Extent, IsWithin, called_at, state_of, IsGood, Agrees}
use Rattle.td_prog_trees.specs.Readers.{IsReader}
use Rattle.td_prog_steps.specs.Laid.{OwnFits}

-- A routine that runs: its extent, the code, the routine's number there, the run's cells and buffers to which its own lead, how many turns a loop may take,
-- and what the program's helpers and routines mean.
pub record Activation : Type 0 where
  pub extent : Extent
  pub code : Parts
  pub number : ℕ
  pub places : List ℕ
  pub own : List ℕ
  pub limit : ℕ
  pub helpers : Helpers
  pub routines : Routines

module _ (activation : Activation) where
  open activation use {extent, code as c, number as n, places, own, limit, helpers, routines}
  open extent use {basis}
  open basis use {message}

  -- what a block means there, and what its labels do, by what comes behind it and the labels around it
  abbrev pub meaning : Block → Continuation → Labels → Continuation × Labels
  meaning b go around = block_means limit helpers routines places own b go around

  -- the exit of the code from a place on, where a turn's end goes on so
  abbrev pub exit : (State → Exit) → ℕ → State → Exit
  exit f pc s = again f (block c message n places pc s)

  -- the routine has this instruction at a place
  pub record IsHere (pc : ℕ) (j : Instr) : Type 0 where
    pub there : slice_get c.instructions pc ≡ Some j
    pub within : pc < end_of c n

  -- the functions of routines below it do what the routines do
  abbrev pub AreRoutines : Type 0
  AreRoutines =
      (m : ℕ) → m < n → (args places own : List ℕ) (s : Locals) → OwnFits c basis m places own → IsGood extent s → Each (λ v. v < 2 ^ 64) args →
      Agrees (called_at extent s) s.next (routines m args places own s)
      (block c message m places (first_of c m) (entered (routine_of c m) args (state_of s)))

-- what holds of an activation in a run of a message of less than 2^32 bytes, with more turns than it has bytes
pub record IsActive (activation : Activation) : Type 0 where
  pub within : IsWithin activation.extent
  pub reads : IsReader activation.extent.numbering activation.extent.memory activation.extent.basis activation.limit activation.helpers
  pub enough : length activation.extent.message + 1 < activation.limit
  pub fits : OwnFits activation.code activation.extent.basis activation.number activation.places activation.own
  pub below : AreRoutines activation
