-- Endings, one after the other.
use Rattle.std.proofs.Common.{◌≡◌, ℕ, suc, ◌-◌, cond, Some, List, [], ◌∷◌, length, refl, sym, ap, ◌∙◌}
use Rattle.std.specs.Prelude.{slice_get, nat_eq}
use Rattle.std.proofs.lemmas.Bool.{ne_eqb}
use Rattle.td_num.specs.Numbers.{places_from}
use Rattle.td_num.specs.Lists.{first_where, looked_at}
use Rattle.td_core.specs.declared.outcome.Reason.TheVariants.{ListSize}
use Rattle.td_core.specs.declared.module.NameId.{NameId}
use Rattle.td_core.specs.declared.module.Field.{Field}
use Rattle.td_core.specs.declared.module.Module.{Module}
use Rattle.td_core.specs.declared.module.Entry.{Entry}
use Rattle.td_core.specs.declared.outcome.TraceFrame.{TraceFrame}
use Rattle.td_core.specs.declared.outcome.Verdict.{Verdict}
use Rattle.td_core.specs.declared.outcome.Verdict.TheVariants.{Accept, Reject}
use Rattle.td_core.specs.Outcome.{Ending, Accepted, Rejected, Behavior, plain, accepted, after_reading, onward, and_then, ending_within, within}
use Rattle.td_meaning.specs.Naming.{is_needed}
use Rattle.td_meaning.specs.Meaning.{Sense, demanded, elements, field_place, number_places, first_name, extended, entry_place, numbers_at, run_of, is_nonzero, byte_type, zeros_end, zeros_meaning}
use Rattle.td_meaning.specs.Words64.{below, fields_meaning, content_meaning, parts_meaning, field_number}
use Rattle.td_meaning.proofs.Meaning64.{meaning}
use Rattle.td_meaning.specs.Verdicts.{ending_of, IsAt}

-- what follows an ending doesn't rest on what was read
pub then_by : (t : Behavior) (o : Ending) (go : ℕ → List ℕ → Behavior) → t.ending ≡ o → (and_then t go).ending ≡ (and_then (plain o) go).ending
then_by t o go e = ap (λ x. (onward x t.reads go).ending) e ∙ unread o t.reads go
  where
    unread : (o : Ending) (reads : List ℕ) (go : ℕ → List ℕ → Behavior) → (onward o reads go).ending ≡ (onward o [] go).ending
    unread (Accepted q cells) reads go = refl
    unread (Rejected reason position trace cells) reads go = refl

-- Types

pub empty_at : (v : Verdict) (trace : List TraceFrame) → ((q : ℕ) → v ≡ Accept q → trace ≡ []) → (p : ℕ) × IsAt v p trace
empty_at (Accept q) trace h = (q, (refl, h q refl))
empty_at (Reject reason q) trace h = (0, tt)

-- what follows is the same where it is accepted
pub then_same : (v : Verdict) (trace : List TraceFrame) (cells : List ℕ) (go next : ℕ → List ℕ → Behavior) → ((q : ℕ) → v ≡ Accept q → go q cells ≡ next q cells) → and_then (plain (ending_of v trace cells)) go ≡ and_then (plain (ending_of v trace cells)) next
then_same (Accept pos) trace cells go next h = ap (after_reading []) (h pos refl)
then_same (Reject reason pos) trace cells go next h = refl

-- a field, by how its bytes end
pub field_by : (sets : List (List ℕ)) (senses : ℕ → Sense) (ty : NameId) (f : Field) (later : List Field) (env places b : List ℕ) (end p : ℕ) (cells : List ℕ) (o : Ending) → ending_within (field_place ty (first_name f.parts) p) (content_meaning sets senses f.element f.extent f.copy env places b end p cells).ending ≡ o → (fields_meaning sets senses ty (f ∷ later) env places b end p cells).ending ≡ (and_then (plain o) (λ q more. and_then (parts_meaning ty p (field_number f.element f.extent env places b end p cells) f.parts env places q more) (fields_meaning sets senses ty later (extended env (field_number f.element f.extent env places b end p cells) f.parts) places b end))).ending
unfolding fields_meaning
field_by sets senses ty f later env places b end p cells o e =
    let rest = λ (q : ℕ) (more : List ℕ). and_then (parts_meaning ty p (field_number f.element f.extent env places b end p cells) f.parts env places q more) (fields_meaning sets senses ty later (extended env (field_number f.element f.extent env places b end p cells) f.parts) places b end) in
    let reads = number_places (is_needed (length env) f.parts later) f.element f.extent p in
    then_by (within (field_place ty (first_name f.parts) p) (content_meaning sets senses f.element f.extent f.copy env places b end p cells)) o (λ q cells. after_reading reads (rest q cells)) e
    ∙ unread o reads rest
  where
    unread : (o : Ending) (reads : List ℕ) (rest : ℕ → List ℕ → Behavior) → (and_then (plain o) (λ q cells. after_reading reads (rest q cells))).ending ≡ (and_then (plain o) rest).ending
    unread (Accepted q cells) reads rest = refl
    unread (Rejected reason position trace cells) reads rest = refl

-- Arrays

pub elements_over : (each : ℕ → List ℕ → Behavior) (turns start end p : ℕ) (cells : List ℕ) → turns ≡ 0 → (elements each turns start end p cells).ending ≡ (demanded ListSize (nat_eq p end) start p cells).ending
unfolding elements
elements_over each turns start end p cells e = ap (λ n. (elements each n start end p cells).ending) e

pub elements_on : (each : ℕ → List ℕ → Behavior) (turns more start end p : ℕ) (cells : List ℕ) (o : Ending) → turns ≡ suc more → (p ≡ end → ⊥) → (each p cells).ending ≡ o → (elements each turns start end p cells).ending ≡ (and_then (plain o) (elements each more start end)).ending
unfolding elements
elements_on each turns more start end p cells o e apart is =
    ap (λ n. (elements each n start end p cells).ending) e
    ∙ ap (λ v. (cond v (accepted p cells) (and_then (each p cells) (elements each more start end))).ending) (ne_eqb p end apart)
    ∙ then_by (each p cells) o (elements each more start end) is

-- an entry point's definition, over the whole of a message
pub entry_is : (m : Module) (entry : Entry) (args cells b : List ℕ) (place bound : ℕ) (places : List ℕ) (end : ℕ) → slice_get m.entries entry.number ≡ Some place → bound ≡ length m.definitions → places ≡ places_from 0 (length cells) → end ≡ length b → below m.listed m.definitions bound place args places cells b 0 end ≡ meaning m entry args cells b
entry_is m entry args cells b place bound places end get same at ends =
    (λ k. below m.listed m.definitions (same k) place args (at k) cells b 0 (ends k))
    ∙ (λ k. below m.listed m.definitions (length m.definitions) (entry_place (sym get k) (length m.definitions)) args (places_from 0 (length cells)) cells b 0 (length b))

-- no byte is left
pub zeros_over : (b : List ℕ) (end p : ℕ) (cells : List ℕ) → end - p ≡ 0 → zeros_meaning b end p cells ≡ accepted end cells
zeros_over b end p cells e = ap (λ n. after_reading (run_of byte_type p (looked_at (first_where is_nonzero (numbers_at byte_type b p n)) n)) (zeros_end (first_where is_nonzero (numbers_at byte_type b p n)) end p cells)) e
