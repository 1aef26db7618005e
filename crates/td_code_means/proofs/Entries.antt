-- An entry point of a module's code is the module's.
use Rattle.std.proofs.Common.{◌≡◌, ℕ, zero, suc, ◌<◌, List, [], ◌∷◌, length, Some, refl, ap, ◌∙◌, arith}
use Rattle.std.specs.Prelude.{slice_get, slice_index_or}
use Rattle.td_num.proofs.Lists.{got}
use Rattle.td_core.specs.declared.module.Module.{Module}
use Rattle.td_core.specs.declared.module.TypeDef.{TypeDef}
use Rattle.td_core.specs.Entries.{entry_definition, definition_at}
use Rattle.td_ir.specs.declared.tables.Parts.{Parts}
use Rattle.td_ir.specs.declared.tables.EntryPoint.{EntryPoint}
use Rattle.td_ir.specs.Tables.{entry_of}
use Rattle.td_ir.specs.WellFormed.{IsCode}
use Rattle.td_lower.specs.Tables.{entry_for, entries_for, params_or_none, cells_or_none}
use Rattle.td_lower.specs.Code.{IsWritten, units_of}
use Rattle.td_lower.proofs.Codes.{entries_count}
use Rattle.td_lower.proofs.Places.{routines_count}

-- entry point n of code is that of a module: of this definition, with its parameters and cells
pub record IsEntryOf (c : Parts) (m : Module) (n : ℕ) : Type 0 where
  pub there : n < length m.entries
  pub definition : TypeDef
  pub is : entry_definition m n ≡ Some definition
  pub params : (entry_of c n).params ≡ definition.params
  pub cells : (entry_of c n).cells ≡ definition.cells

abbrev none : EntryPoint
none = record { routine = 0; params = []; cells = []; buffers = [] }

-- entry point n is that of place n
record IsFor (ds : List TypeDef) (places : List ℕ) (n : ℕ) : Type 0 where
  place : ℕ
  there : slice_get places n ≡ Some place
  is : slice_index_or (entries_for ds places) n none ≡ entry_for ds place

for_place : (ds : List TypeDef) (places : List ℕ) (n : ℕ) → n < length places → IsFor ds places n
for_place ds [] n h = absurd (omega (arith, h))
for_place ds (p ∷ ps) zero h = record { place = p; there = refl; is = refl }
for_place ds (p ∷ ps) (suc n) h = let r = for_place ds ps n (omega (arith, h)) in record { place = r.place; there = r.there; is = r.is }

pub entry_is : (c : Parts) (m : Module) → IsCode c → IsWritten c m → (n : ℕ) → n < length c.entries → IsEntryOf c m n
entry_is c m code w n h =
    let there : n < length m.entries = (let e = ap length w.entries in let k = entries_count m.definitions m.entries in omega (arith, h, e, k)) in
    let r = for_place m.definitions m.entries n there in
    let entry : entry_of c n ≡ entry_for m.definitions r.place = ap (λ es. slice_index_or es n none) w.entries ∙ r.is in
    let inside : r.place < length m.definitions = (
    let at = (code.entries n h).there in
    let routine = ap (λ (e : EntryPoint). e.routine) entry in
    let count = ap length w.routines ∙ routines_count (units_of m) m.definitions (length m.definitions) in
    omega (arith, at, routine, count)) in
    let d = got m.definitions r.place inside in
    record {
      there = there;
      definition = d.0;
      is = ap (definition_at m) r.there ∙ d.1;
      params = ap (λ (e : EntryPoint). e.params) entry ∙ ap params_or_none d.1;
      cells = ap (λ (e : EntryPoint). e.cells) entry ∙ ap cells_or_none d.1;
    }
