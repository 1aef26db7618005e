-- An answer on a message that is inside of its words.
use Rattle.std.proofs.Common.{◌≡◌, List, Result, Ok, Err, IfErr, sym, subst}
use Rattle.td_core.specs.declared.outcome.Verdict.{Verdict}
use Rattle.td_stream.specs.declared.load.Load.{Load}
use Rattle.td_stream.specs.declared.stretch.Stretch.{Stretch}
use Rattle.td_ir.specs.declared.tables.Parts.{Parts}
use Rattle.td_foreign.specs.declared.noted.TdLoad.{TdLoad}
use Rattle.td_vm.specs.Frames.{FrameView}
use Rattle.td_c.specs.declared.answers.Refusal.{Refusal}
use Rattle.td_c.specs.declared.answers.Refusal.TheVariants.{Past, NoEntry, Unfit}
use Rattle.td_c.specs.declared.call.TdCall.{TdCall}
use Rattle.td_c.specs.Asked.{IsAsked, IsCause, HasAnswered}

-- what was asked and answered of a message that is inside of its words is so whatever that says
asked_as : (c : Parts) (asked : TdCall) (p q : Type 0) → q → IsAsked c asked p → IsAsked c asked q
asked_as c asked p q b h = record { inside = b; args = h.args; cells = h.cells; fits = h.fits }

cause_as : (c : Parts) (asked : TdCall) (within : Type 0) → within → (r : Refusal) → IsCause c asked (Unit {0}) r → IsCause c asked within r
cause_as c asked within x Past h = absurd (h tt)
cause_as c asked within x NoEntry h = (x, h.1)
cause_as c asked within x Unfit h = (x, h.1, λ a. h.2 (asked_as c asked within (Unit {0}) tt a))

refused_as : (c : Parts) (asked : TdCall) (within : Type 0) → within → (answer : Result Verdict Refusal)
    → IfErr answer (λ r. IsCause c asked (Unit {0}) r) → IfErr answer (λ r. IsCause c asked within r)
refused_as c asked within x (Ok v) h = h
refused_as c asked within x (Err r) h = cause_as c asked within x r h

pub answered_inside : {c : Parts} {before frame : FrameView} {answer : Result Verdict Refusal} {loads : List Load} {was rows : List TdLoad}
    {asked after : TdCall} {layout : List Stretch} (told : List Load) (within : Type 0) → told ≡ loads → within
    → HasAnswered c before frame answer loads was rows asked after layout (Unit {0}) → HasAnswered c before frame answer told was rows asked after layout within
answered_inside {c} {before} {frame} {answer} {loads} {was} {rows} {asked} {after} {layout} told within same x h =
    subst (λ (l : List Load). HasAnswered c before frame answer l was rows asked after layout within) (sym same) (record {
      asked_well = (λ ok. asked_as c asked (Unit {0}) within x (h.asked_well.0 ok), λ a. h.asked_well.1 (asked_as c asked within (Unit {0}) tt a));
      validated = h.validated;
      rest = h.rest;
      told = h.told;
      same = h.same;
      refused = refused_as c asked within x answer h.refused;
      unloaded = h.unloaded;
      call_stays = h.call_stays;
      room_stays = h.room_stays;
      noted = h.noted;
    })
