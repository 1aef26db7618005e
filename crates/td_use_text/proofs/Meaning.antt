-- What the code of a module says of a message is what the module means.
use Rattle.std.proofs.Common.{◌≡◌, ℕ, ◌<◌, ◌^◌, List, [], length, subst, arith}
use Rattle.td_num.specs.Lists.{AreBytes}
use Rattle.td_core.specs.declared.module.Module.{Module}
use Rattle.td_core.specs.declared.module.Entry.{Entry}
use Rattle.td_core.specs.declared.outcome.Outcome.{Outcome}
use Rattle.td_stream.specs.declared.load.Load.{Load}
use Rattle.td_stream.specs.declared.stretch.Stretch.{Stretch}
use Rattle.td_stream.specs.Layouts.{plain}
use Rattle.td_stream.specs.Loads.{Carries}
use Rattle.td_meaning.specs.Copies.{opened}
use Rattle.td_meaning.specs.Meaning.{meaning}
use Rattle.td_fetch.specs.Outcomes.{IsMeant}
use Rattle.td_ir.specs.declared.tables.Parts.{Parts}
use Rattle.td_ir.specs.Run as code
use Rattle.td_ir.specs.Entries.{opened_by}
use Rattle.td_run.specs.Validation.{IsValidation}
use Rattle.td_code.specs.Compile.{DoesWhatItMeans}
use Rattle.td_use_text.specs.Reports.{Begins}
use Rattle.td_run.proofs.Behaving.{behaves}

-- on each message that carries the loads; the cells were set, and the layout is a plain one
pub means : (c : Parts) (m : Module) (entry : Entry) (n : ℕ) (loads : List Load) (cells cells' : List ℕ) (layout : List Stretch) (outcome : Outcome)
    → cells' ≡ cells → layout ≡ plain n → n < 2 ^ 32 → DoesWhatItMeans c m → entry.number < length m.entries → Begins m entry cells
    → IsValidation c entry [] cells' layout loads outcome → (b : List ℕ) → AreBytes b → Carries (plain n) b loads → IsMeant (plain n) m entry [] cells b loads outcome
means c m entry n loads cells cells' layout outcome same at short does inside begins validated b bytes carried =
    let v = subst (λ (x : List ℕ × List Stretch). IsValidation c entry [] x.0 x.1 loads outcome) (λ i. (same i, at i)) validated in
    let size = carried.size in
    let meant = does entry [] cells b inside begins.no_arguments begins.cells_fit bytes (omega arith) in
    behaves (plain n) (length cells) b loads (code.run c entry [] (opened_by c entry cells) b) (meaning m entry [] (opened m entry cells) b) outcome 0 (code.run c entry [] (opened_by c entry cells) b).steps (v.holds b carried).ran meant
