-- What was written of a value, and then validated.
use Rattle.std.specs.Prelude.{◌≡◌, ℕ, List, length}
use Rattle.td_num.specs.Lists.{AreBytes}
use Rattle.td_core.specs.declared.module.Module.{Module}
use Rattle.td_core.specs.declared.module.Entry.{Entry}
use Rattle.td_core.specs.declared.outcome.Outcome.{Outcome}
use Rattle.td_core.specs.declared.outcome.Verdict.TheVariants.{Accept}
use Rattle.td_stream.specs.declared.load.Load.{Load}
use Rattle.td_stream.specs.declared.stretch.Stretch.{Stretch}
use Rattle.td_stream.specs.Loads.{Carries}
use Rattle.td_meaning.specs.Copies.{outcome}
use Rattle.td_fetch.specs.Outcomes.{IsMeant}
use Rattle.td_write_values.specs.Datum.{Datum}
use Rattle.td_write_spells.specs.Laws.{HoldsBytes}
use Rattle.td_write.specs.Answers.{IsAccepted}

-- Where each load gave what the written bytes have there, whatever the memory holds elsewhere, a validation accepts at the end of these
-- bytes, and its outcome is that which the module has on them: the one that the writer answered. The last premise is what each
-- validator promises, that of code, that of live memory and the one without code.
abbrev pub WrittenIsAccepted : Type 0
WrittenIsAccepted =
    (m : Module) (entry : Entry) (args cells : List ℕ) (v : Datum) (bytes : List ℕ) (layout : List Stretch) (loads : List Load) (answer : Outcome)
    → HoldsBytes v → IsAccepted m entry args cells v bytes → Carries layout bytes loads
    → ((b : List ℕ) → AreBytes b → Carries layout b loads → IsMeant layout m entry args cells b loads answer)
    → (answer.verdict ≡ Accept (length bytes)) × (answer ≡ outcome m entry args cells bytes)
