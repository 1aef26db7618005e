-- What a validation by code comes to, whatever others store to the message's words meanwhile (own rule).
use Rattle.std.specs.Prelude.{ℕ, List, length}
use Rattle.td_core.specs.declared.module.Module.{Module}
use Rattle.td_run.specs.Imports.{Entry, Outcome, Load, Stretch, Parts}
use Rattle.td_meaning.specs.Copies.{IsSoundOn}
use Rattle.td_stream.specs.Loads.{IsFetchedOnce}
use Rattle.td_fetch.specs.Outcomes.{IsMeant}
use Rattle.td_ir.specs.Entries.{opened_by}
use Rattle.td_ir.specs.Run.{run}
use Rattle.td_lower_means.specs.CodeRun.{IsCodeOf}
use Rattle.td_vm.specs.Outcomes.{IsCodeRun}

-- On this message the outcome is that of the code's run, and exactly the words with a byte that it looks at were loaded. Where the code is
-- a module's, and each expression that the module's meaning evaluates on the message lies in its type's range, the outcome is the
-- meaning's, and these are the words with a byte in its reads.
pub record IsOutcomeBy (c : Parts) (entry : Entry) (args cells : List ℕ) (layout : List Stretch) (loads : List Load) (outcome : Outcome) (b : List ℕ) : Type 0 where
  pub ran : IsCodeRun layout (length cells) b loads (run c entry args (opened_by c entry cells) b) outcome 0 (run c entry args (opened_by c entry cells) b).steps
  pub meant : (m : Module) → IsCodeOf c m → IsSoundOn m entry args cells b → IsMeant layout m entry args cells b loads outcome

-- from this entry point of the code on, with these arguments and cells: each word was loaded at most once, in rising order, and the
-- outcome is this on every list of bytes that carries the loads
abbrev pub IsValidation : Parts → Entry → List ℕ → List ℕ → List Stretch → List Load → Outcome → Type 0
IsValidation c entry args cells layout loads outcome = IsFetchedOnce layout loads (IsOutcomeBy c entry args cells layout loads outcome)
