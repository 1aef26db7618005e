-- Cited by other crates.
-- Upgraded tables fit together.
use Rattle.std.proofs.Common.{◌≡◌, ℕ, zero, suc, ◌<◌, ◌≤◌, Bool, true, false, cond, List, [], ◌∷◌, ◌++◌, length, map, Option, Some, None, refl, sym, arith}
use Rattle.std.specs.Prelude.{nat_lt, if◌then◌else◌}
use Rattle.std.proofs.lemmas.Bool.{ltb-true}
use Rattle.td_num.specs.Lists.{Each}
use Rattle.td_names.specs.Numbers.{is_among}
use Rattle.td_ir.specs.declared.instructions.Instr.{Instr}
use Rattle.td_ir.specs.declared.tables.Site.{Site}
use Rattle.td_ir.specs.declared.tables.Parts.{Parts}
use Rattle.td_ir.specs.declared.tables.EntryPoint.{EntryPoint}
use Rattle.td_ir.specs.Tables.{entry_of}
use Rattle.td_ir.specs.WellFormed.{IsSite, IsEntry}
use Rattle.td_ir.specs.Fields.{named}
use Rattle.td_image_upgrade.specs.Upgrade.{with_used, used_in, used_by, routine_code, own_site, own_sites, sites_below, upgraded}
use Rattle.td_image_upgrade.specs.Laws.{IsOldCode, UpgradedIsCode}
use Rattle.td_image_upgrade.proofs.Sites.{code_long}
use Rattle.td_num.proofs.Lists.{each_append, each_index}

module _ (old : ℕ) where
  abbrev AreOld : List ℕ → Type 0
  AreOld used = Each (λ k. k < old) used

  old_by : (b d : Bool) (used : List ℕ) (m : ℕ) → nat_lt m old ≡ b → AreOld used → AreOld (cond b (if d then used else used ++ m ∷ []) used)
  old_by false d used m e h = h
  old_by true true used m e h = h
  old_by true false used m e h = each_append (λ k. k < old) used (m ∷ []) h (ltb-true m old e, tt)

  old_with : (used : List ℕ) (o : Option ℕ) → AreOld used → AreOld (with_used old used o)
  old_with used None h = h
  old_with used (Some m) h = old_by (nat_lt m old) (is_among used m) used m refl h

  old_used : (js : List Instr) (used : List ℕ) → AreOld used → AreOld (used_in old used js)
  old_used [] used h = h
  old_used (j ∷ js) used h = old_used js (with_used old used (named j)) (old_with used (named j) h)

module _ (c : Parts) (O : IsOldCode c) where
  abbrev IsNew : Site → Type 0
  IsNew s = IsSite (length c.names) (length c.routines) s

  own_new : (n : ℕ) → n < length c.routines → (used : List ℕ) → Each (λ k. k < length c.sites) used → Each IsNew (map (own_site c n) used)
  own_new n lt [] h = tt
  own_new n lt (k ∷ used) h = let s = O.sites k h.0 in (record { ty_named = s.0; field_named = s.1; of_routine = lt }, own_new n lt used h.1)

  all_new : (r : ℕ) → r ≤ length c.routines → Each IsNew (sites_below c r)
  all_new zero le = tt
  all_new (suc r) le =
      each_append IsNew (sites_below c r) (own_sites c r) (all_new r (omega (arith, le)))
      (own_new r (omega (arith, le)) (used_by c r) (old_used (length c.sites) (routine_code c r) [] tt))

  entry_new : (e : EntryPoint) → IsEntry c e → IsEntry (upgraded c) e
  entry_new e h = record {
    there = h.there;
    param_count = h.param_count;
    cell_count = h.cell_count;
    buffer_count = h.buffer_count;
    params_named = h.params_named;
    cells_named = h.cells_named;
    buffers_named = h.buffers_named;
  }

pub upgraded_is_code : UpgradedIsCode
upgraded_is_code c D O = record {
  sites = λ k lt. each_index (IsNew c O) (sites_below c (length c.routines)) _ k (all_new c O (length c.routines) (omega arith)) lt;
  routines = O.routines;
  whole = sym (code_long c D (length c.routines) (omega arith));
  entries = λ k lt. entry_new c O (entry_of c k) (O.entries k lt);
  sets = O.sets;
}
