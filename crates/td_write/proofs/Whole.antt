-- Writing in 64 bits, put in whole numbers: what was written is spelled and accepted, and what is refused isn't. Cited by other crates.
use Rattle.std.proofs.Common.{◌≡◌, ℕ, zero, suc, ◌≤◌, ◌<◌, List, [], ◌∷◌, ◌++◌, length, take, drop, refl, sym, ap, ◌∙◌, subst, arith, Option, Some, None}
use Rattle.std.specs.Prelude.{slice_get}
use Rattle.std.proofs.lemmas.Option.{none-some}
use Rattle.td_num.specs.Numbers.{places_from}
use Rattle.td_write.specs.Imports.{Module, Entry, TypeDef, Reason, Impossible, Outcome, Accept, WriteRule, Shape, Range, Broken, Size, Long, WriteError}
use Rattle.td_core.specs.Outcome.{Ending, Accepted, Rejected, outcome_of, copies_by}
use Rattle.td_core.specs.Entries.{entry_definition, definition_at}
use Rattle.td_core.specs.Formed.{AllFit, params_at, cells_at}
use Rattle.td_meaning.specs.Meaning.{meaning, entry_place}
use Rattle.td_meaning.specs.Copies.{opened, outcome}
use Rattle.td_write_values.specs.declared.error.WriteError.TheVariants as error
use Rattle.td_write_values.specs.declared.limits.TheConstants.{MOST_WRITTEN}
use Rattle.td_write_values.specs.Datum.{Datum}
use Rattle.td_write_values.specs.Spelling.{spelling}
use Rattle.td_write_values.specs.Writing.{Tests, Written, Done, Refused, settled, writers_below, writing, in_machine, whole}
use Rattle.td_write_spells.specs.Laws.{IsExact, FailsFor, WritingIsExact, KindsAreAdmitted}
use Rattle.td_write_fits.specs.Laws.{WritingIsInRange}
use Rattle.td_write.specs.Answers.{IsWritable, IsAppended, IsCause, IsNowhere, Unless}
use Rattle.td_write.proofs.Definitions.{writers_past}

module _ (m : Module) (entry : Entry) (args cells : List ℕ) (v : Datum) where
  abbrev at_place : Tests → ℕ → Written
  at_place tests place = settled 0 (writers_below tests m.listed m.definitions (length m.definitions) place args (places_from 0 (length cells)) cells [] 0 v)

  -- an entry point's definition, by its place
  pub writing_at : (tests : Tests) (place : ℕ) → slice_get m.entries entry.number ≡ Some place → writing tests m entry args cells v ≡ at_place tests place
  writing_at tests place e = ap (λ o. at_place tests (entry_place o (length m.definitions))) e

  pub no_entry : (tests : Tests) → slice_get m.entries entry.number ≡ None → writing tests m entry args cells v ≡ Refused (Broken Impossible) []
  no_entry tests e =
      let same : length m.definitions ≤ length m.definitions = omega arith in
      ap (λ o. at_place tests (entry_place o (length m.definitions))) e
      ∙ ap (settled 0) (writers_past tests m.listed m.definitions (length m.definitions) (length m.definitions) args (places_from 0 (length cells)) cells [] 0 v same)

  no_definition : (tests : Tests) (place : ℕ) → slice_get m.entries entry.number ≡ Some place → slice_get m.definitions place ≡ None → writing tests m entry args cells v ≡ Refused (Broken Impossible) []
  no_definition tests place e none =
      writing_at tests place e
      ∙ ap (settled 0) (writers_past tests m.listed m.definitions (length m.definitions) place args (places_from 0 (length cells)) cells [] 0 v (past m.definitions place none))
    where
      past : (ds : List TypeDef) (n : ℕ) → slice_get ds n ≡ None → length ds ≤ n
      past [] n e = omega arith
      past (d ∷ ds) zero e = absurd (none-some d (sym e))
      past (d ∷ ds) (suc n) e = omega (arith, past ds n e)

-- from an entry point's cells, with those of its copy buffers behind them
module _ (m : Module) (entry : Entry) (args cells : List ℕ) (v : Datum) where
  -- both arithmetics write the same
  pub same_writing : WritingIsInRange → IsWritable m → AllFit (params_at (entry_definition m entry.number)) args → AllFit (cells_at (entry_definition m entry.number)) cells
      → writing in_machine m entry args (opened m entry cells) v ≡ writing whole m entry args (opened m entry cells) v
  same_writing law h fits room = by (slice_get m.entries entry.number) refl
    where
      by : (o : Option ℕ) → slice_get m.entries entry.number ≡ o → writing in_machine m entry args (opened m entry cells) v ≡ writing whole m entry args (opened m entry cells) v
      by None e = no_entry m entry args (opened m entry cells) v in_machine e ∙ sym (no_entry m entry args (opened m entry cells) v whole e)
      by (Some place) e = then (slice_get m.definitions place) refl
        where
          then : (o : Option TypeDef) → slice_get m.definitions place ≡ o → writing in_machine m entry args (opened m entry cells) v ≡ writing whole m entry args (opened m entry cells) v
          then None f = no_definition m entry args (opened m entry cells) v in_machine place e f ∙ sym (no_definition m entry args (opened m entry cells) v whole place e f)
          then (Some d) f =
              let is : entry_definition m entry.number ≡ Some d = ap (definition_at m) e ∙ f in
              law m entry place d args cells v h.formed h.copying h.safe e f (subst (λ o. AllFit (params_at o) args) is fits) (subst (λ o. AllFit (cells_at o) cells) is room)

  abbrev ending : List ℕ → Ending
  ending bytes = (meaning m entry args (opened m entry cells) bytes).ending

  exact : WritingIsExact → KindsAreAdmitted → IsWritable m → IsExact (writing whole m entry args (opened m entry cells) v) (spelling m entry args (opened m entry cells) v) ending
  exact law kinds h = law m entry args (opened m entry cells) v h.copying (kinds m h.formed h.kinds)

  -- what was written
  pub appended : WritingIsExact → KindsAreAdmitted → IsWritable m → (bytes last old new : List ℕ) (answer : Outcome) → writing whole m entry args (opened m entry cells) v ≡ Done bytes last [] → new ≡ old ++ bytes
      → answer ≡ record { verdict = Accept (length bytes); trace = []; cells = take (length cells) last; copies = copies_by bytes (drop (length cells) last) } → IsAppended m entry args cells v old new answer
  appended law kinds h bytes last old new answer e grown is =
      let x = subst (λ w. IsExact w (spelling m entry args (opened m entry cells) v) ending) e (exact law kinds h) in
      let says : outcome m entry args cells bytes ≡ outcome_of (length cells) bytes (Accepted (length bytes) last) = ap (outcome_of (length cells) bytes) x.1.1 in
      (bytes, (record { spelled = x.0; short = x.1.0; accepted = ap (λ (o : Outcome). o.verdict) says }, (grown, is ∙ sym says)))

  -- what was refused
  pub nowhere : WritingIsExact → KindsAreAdmitted → IsWritable m → (rule : WriteRule) (path : List ℕ) → writing whole m entry args (opened m entry cells) v ≡ Refused rule path → IsNowhere m entry args cells v
  nowhere law kinds h rule path e bytes a = by rule (subst (λ w. IsExact w (spelling m entry args (opened m entry cells) v) ending) e (exact law kinds h))
    where
      fails : (reason : Reason) (o : Ending) → FailsFor reason o → (outcome_of (length cells) bytes o).verdict ≡ Accept (length bytes) → ⊥
      fails reason (Accepted q last) f e = f
      fails reason (Rejected other q trace last) f e = absurd (cc)

      by : (rule : WriteRule) → IsExact (Refused rule path) (spelling m entry args (opened m entry cells) v) ending → ⊥
      by Shape x = none-some bytes (sym x ∙ a.spelled)
      by Range x = none-some bytes (sym x ∙ a.spelled)
      by (Broken reason) x = fails reason (ending bytes) (x bytes a.spelled) a.accepted
      by Size x = none-some bytes (sym x ∙ a.spelled)
      by Long x = let past : MOST_WRITTEN < length bytes = x bytes a.spelled in omega (arith, past, a.short)

  -- an error by a refusal is one without bytes
  pub unless : WritingIsExact → KindsAreAdmitted → IsWritable m → (e : WriteError) → IsCause m entry args cells v e → Unless e (IsNowhere m entry args cells v)
  unless law kinds h (error.Shape path) c = nowhere law kinds h Shape path c
  unless law kinds h (error.Range path) c = nowhere law kinds h Range path c
  unless law kinds h (error.Broken path reason) c = nowhere law kinds h (Broken reason) path c
  unless law kinds h (error.Size path) c = nowhere law kinds h Size path c
  unless law kinds h error.Long c = nowhere law kinds h Long c.0 c.1
  unless law kinds h error.NoMemory c = tt
