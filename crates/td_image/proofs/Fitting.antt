-- Parts that have an image fit together.
use Rattle.std.proofs.Common.{◌≡◌, ℕ, zero, suc, ◌+◌, ◌-◌, ◌^◌, ◌≤◌, ◌<◌, inl, inr, Bool, true, false, ◌&&◌, ◌||◌, not, List, [], ◌∷◌, length, map, Option, Some, None, refl, sym, ap, subst, ◌∙◌, arith, slice_index_or}
use Rattle.std.specs.Prelude.{nat_le, nat_lt, ◌==◌}
use Rattle.std.proofs.lemmas.Bool.{eqb-true, leb-true, ltb-true}
use Rattle.td_image.specs.Imports.{NameId, Param, Cell, Parts, Site, Routine, EntryPoint}
use Rattle.td_ir.specs.Tables.{routine_of, site_of, entry_of, set_of, param_of, cell_of, buffer_of, begin}
use Rattle.td_ir.specs.WellFormed.{IsName, IsField, IsRoutine, IsCellNamed, IsEntry, Rises, IsCode}
use Rattle.td_ir.specs.Tables.{lengths_of}
use Rattle.td_image.specs.declared.routines.Room.{Room}
use Rattle.td_image.specs.declared.limits.TheConstants.{NO_FIELD}
use Rattle.td_image.specs.declared.version.ImageVersion.{ImageVersion}
use Rattle.td_image.specs.declared.version.ImageVersion.TheVariants.{First, Second, Third, Fourth}
use Rattle.td_image.specs.declared.version.Spelled.{Spelled}
use Rattle.td_image.specs.Versions.{most_numbers, most_instructions, has_owners}
use Rattle.td_image.specs.Answer.{code_in, code_of}
use Rattle.td_image_upgrade.specs.Laws.{IsDivided, IsOldCode}
use Rattle.td_image_upgrade.proofs.Codes.{upgraded_is_code}
use Rattle.td_image.specs.Format.{Format, all_fit}
use Rattle.td_image.specs.Image as format
use Rattle.td_num.proofs.Truths.{or_cases as either, both_true as both}

-- each of a list fits, in the state that those before it made
module _ {S A : Type 0} (f : S → Format A) (next : S → A → S) where
  pub fit_at : (s : S) (xs : List A) (other : A) (k : ℕ) → all_fit f next s xs → k < length xs → (t : S) × (f t).Fits (slice_index_or xs k other)
  unfolding all_fit
  fit_at s [] other k fits lt = absurd (omega (arith, lt))
  fit_at s (x ∷ xs) other zero fits lt = (s, fits.0)
  fit_at s (x ∷ xs) other (suc k) fits lt = fit_at (next s x) xs other k fits.1 (omega (arith, lt))

not_or : (a b : Bool) → a ≡ true → (not a || b) ≡ true → b ≡ true
not_or true b e f = f
not_or false b e f = absurd cc

-- ---- sites, parameters, cells

site_fits : (v : ImageVersion) (names routines : ℕ) (s : Site) → (format.site v names routines).Fits s → IsName names s.ty × IsName names s.field
unfolding format.site
site_fits v names routines s (ty, (field, routine)) = (ltb-true _ _ ty.1, ltb-true _ _ field.1)

owner_fits : (v : ImageVersion) (names routines : ℕ) (s : Site) → has_owners v ≡ true → (format.site v names routines).Fits s → s.routine < routines
unfolding format.site
owner_fits First names routines s own fits = absurd (cc own)
owner_fits Second names routines s own (ty, (field, routine)) = ltb-true _ _ routine.1
owner_fits Third names routines s own (ty, (field, routine)) = ltb-true _ _ routine.1
owner_fits Fourth names routines s own (ty, (field, routine)) = ltb-true _ _ routine.1

param_fits : (names : ℕ) (p : Param) → (format.param names).Fits p → IsName names p.name
unfolding format.param
param_fits names p (name, width) = ltb-true _ _ name.1

name_fits : (names : ℕ) (name : NameId) → (format.name_place names).Fits name → IsName names name
name_fits names name fits = ltb-true _ _ fits.1

no_name : (name : NameId) → format.field_of NO_FIELD ≡ Some name → ⊥
no_name name e = absurd cc

field_fits : (names : ℕ) (field : Option NameId) → (format.cell_field names).Fits field → IsField names field
field_fits names None fits = tt
field_fits names (Some name) fits = elim (either _ _ fits.0.1) [
  | inl lt ↦ ltb-true _ _ lt
  | inr none ↦ absurd (no_name name (subst (λ (n : ℕ). format.field_of n ≡ Some name) (eqb-true _ _ none) fits.1))
]

cell_fits : (names : ℕ) (c : Cell) → (format.cell names).Fits c → IsCellNamed names c
unfolding format.cell
cell_fits names c (name, (field, kind)) = record { named = ltb-true _ _ name.1; field_named = field_fits names c.field field }

-- ---- routines

has_length : (room : Room) (n : ℕ) → format.is_length room n ≡ true → (1 ≤ n) × (n ≤ room.left) × (room.more ≡ 1 → n ≡ room.left)
has_length room n e =
    let p = both (nat_le 1 n && nat_le n room.left) (not (room.more == 1) || (n == room.left)) e in
    let q = both (nat_le 1 n) (nat_le n room.left) p.0 in
    (leb-true _ _ q.0, leb-true _ _ q.1, λ one. eqb-true _ _ (not_or (room.more == 1) (n == room.left) (subst (λ (m : ℕ). (m == 1) ≡ true) (sym one) refl) p.1))

few_buffers : (v : ImageVersion) (rooms : List ℕ) → (format.buffers v).Fits rooms → length rooms < 2 ^ 16
unfolding format.rooms
few_buffers First rooms fits = let none : length rooms ≡ 0 = ap length fits in omega (arith, none)
few_buffers Second rooms fits = let none : length rooms ≡ 0 = ap length fits in omega (arith, none)
few_buffers Third rooms (count, fits) = let few = leb-true _ _ count.1 in omega (arith, few)
few_buffers Fourth rooms (count, fits) = let few = leb-true _ _ count.1 in omega (arith, few)

length_fits : (v : ImageVersion) (names : ℕ) (room : Room) (r : Routine) → (format.routine v names room).Fits r → format.is_length room r.length ≡ true
unfolding format.routine
length_fits v names room r (name, (params, (cells, (registers, (l, buffers))))) = l.1

routine_fits : (v : ImageVersion) (names : ℕ) (room : Room) (r : Routine) → (format.routine v names room).Fits r → IsRoutine names r
unfolding format.routine
routine_fits v names room r (name, (params, (cells, (registers, (l, buffers))))) = record {
  named = ltb-true _ _ name.1;
  some = (has_length room r.length l.1).0;
  room = leb-true _ _ (both _ _ registers.1).0;
  few = few_buffers v r.buffers buffers;
}

-- the sum of the routines' lengths
abbrev pub sum_of : List Routine → ℕ
sum_of [] = 0
sum_of (r ∷ rs) = r.length + sum_of rs

sums : (v : ImageVersion) (names : ℕ) (room : Room) (r : Routine) (rs : List Routine) → room.more ≡ suc (length rs) → all_fit (format.routine v names) format.after_routine room (r ∷ rs) → sum_of (r ∷ rs) ≡ room.left
unfolding all_fit
sums v names room r [] more fits =
    let l = has_length room r.length (length_fits v names room r fits.0) in
    let e = l.2 more in
    omega (arith, e)
sums v names room r (x ∷ rs) more fits =
    let l = has_length room r.length (length_fits v names room r fits.0) in
    let e = sums v names (format.after_routine room r) x rs (omega (arith, more)) fits.1 in
    omega (arith, e, l.1)

divided : (v : ImageVersion) (names : ℕ) (rs : List Routine) (n : ℕ) → all_fit (format.routine v names) format.after_routine (record { left = n; more = length rs }) rs → (nat_lt 0 (length rs) || (n == 0)) ≡ true → sum_of rs ≡ n
divided v names [] n fits e = sym (eqb-true _ _ e)
divided v names (r ∷ rs) n fits e = sums v names (record { left = n; more = length (r ∷ rs) }) r rs refl fits

begin_cons : (l : ℕ) (ls : List ℕ) (n : ℕ) → begin (l ∷ ls) (suc n) ≡ l + begin ls n
begin_cons l ls zero = omega arith
begin_cons l ls (suc n) = let h = begin_cons l ls n in omega (arith, h)

pub begin_whole : (rs : List Routine) → begin (map (λ r. r.length) rs) (length rs) ≡ sum_of rs
begin_whole [] = refl
begin_whole (r ∷ rs) = begin_cons r.length (map (λ x. x.length) rs) (length rs) ∙ ap (λ n. r.length + n) (begin_whole rs)

-- ---- entry points

entry_fits : (c : Parts) (e : EntryPoint) → (format.entry (length c.names) c.routines).Fits e → IsEntry c e
unfolding format.entry
entry_fits c e (routine, (params, (cells, buffers))) = record {
  there = ltb-true _ _ routine.1;
  param_count = params.0;
  cell_count = cells.0;
  buffer_count = buffers.0;
  params_named = λ k lt. let f = fit_at (λ (s : Unit {0}). format.param (length c.names)) (λ s x. s) tt e.params _ k params.1 lt in param_fits (length c.names) (param_of e.params k) f.1;
  cells_named = λ k lt. let f = fit_at (λ (s : Unit {0}). format.cell (length c.names)) (λ s x. s) tt e.cells _ k cells.1 lt in cell_fits (length c.names) (cell_of e.cells k) f.1;
  buffers_named = λ k lt. let f = fit_at (λ (s : Unit {0}). format.name_place (length c.names)) (λ s x. s) tt e.buffers _ k buffers.1 lt in name_fits (length c.names) (buffer_of e.buffers k) f.1;
}

-- ---- sets

rising : (last : Option ℕ) (xs : List ℕ) → all_fit format.element (λ s x. Some x) last xs → Rises xs
unfolding all_fit
rising last [] fits j lt = absurd (omega (arith, lt))
rising last (x ∷ []) fits j lt = absurd (omega (arith, lt))
rising last (x ∷ y ∷ xs) fits zero lt = ltb-true _ _ fits.1.0.1
rising last (x ∷ y ∷ xs) fits (suc j) lt = rising (Some x) (y ∷ xs) fits.1 j (omega (arith, lt))

set_fits : (left : ℕ) (xs : List ℕ) → (format.set left).Fits xs → Rises xs
unfolding format.set
set_fits left xs (count, fits) = rising None xs fits.1

-- ---- all tables

abbrev pub FitsAs : ImageVersion → Parts → Type 0
FitsAs v p = format.image.Fits (record { version = v; parts = p })

old_code : (v : ImageVersion) (p : Parts) → FitsAs v p → IsOldCode p
unfolding format.image format.header
old_code v p ((m, (o, (z, (n, (s, (a, (t, (r, (e, i))))))))), (names, (sites, (maps, (sets, (routines, (entries, instructions))))))) =
    let ns = length p.names in
    let rs = length p.routines in
    record {
      sites = λ k lt. let f = fit_at (λ (s : Unit {0}). format.site v ns rs) (λ s x. s) tt p.sites _ k sites.1 lt in site_fits v ns rs (site_of p k) f.1;
      routines = λ k lt. let f = fit_at (format.routine v ns) format.after_routine _ p.routines _ k routines.1 lt in routine_fits v ns f.0 (routine_of p k) f.1;
      entries = λ k lt. let f = fit_at (λ (s : Unit {0}). format.entry ns p.routines) (λ s x. s) tt p.entries _ k entries.1 lt in entry_fits p (entry_of p k) f.1;
      sets = λ k lt. let f = fit_at format.set (λ left x. left - length x) (most_numbers v) p.sets _ k sets.1 lt in set_fits f.0 (set_of p k) f.1;
    }

owned : (v : ImageVersion) (p : Parts) → has_owners v ≡ true → FitsAs v p → (k : ℕ) → k < length p.sites → (site_of p k).routine < length p.routines
unfolding format.image format.header
owned v p own ((m, (o, (z, (n, (s, (a, (t, (r, (e, i))))))))), (names, (sites, (maps, (sets, (routines, (entries, instructions))))))) k lt =
    let ns = length p.names in
    let rs = length p.routines in
    let f = fit_at (λ (s : Unit {0}). format.site v ns rs) (λ s x. s) tt p.sites _ k sites.1 lt in owner_fits v ns rs (site_of p k) own f.1

counted : (v : ImageVersion) (p : Parts) → FitsAs v p → (length p.instructions ≤ most_instructions v) × (begin (lengths_of p) (length p.routines) ≡ length p.instructions)
unfolding format.image format.header
counted v p ((m, (o, (z, (n, (s, (a, (t, (r, (e, i))))))))), (names, (sites, (maps, (sets, (routines, (entries, instructions))))))) =
    let b = both (nat_le (length p.instructions) (most_instructions v)) (nat_lt 0 (length p.routines) || (length p.instructions == 0)) i.1 in
    (leb-true _ _ b.0, begin_whole p.routines ∙ divided v (length p.names) p.routines (length p.instructions) routines.1 b.1)

pub is_divided : (p : Parts) → FitsAs First p → IsDivided p
is_divided p fits = let c = counted First p fits in record { whole = c.1; few = omega (arith, c.0) }

pub few_routines : (p : Parts) → FitsAs First p → length p.routines ≤ 4294967295
unfolding format.image format.header
few_routines p ((m, (o, (z, (n, (s, (a, (t, (r, (e, i))))))))), rest) = let f = leb-true _ _ r.1 in omega (arith, f)

with_owners : (v : ImageVersion) (p : Parts) → has_owners v ≡ true → FitsAs v p → IsCode p
with_owners v p own fits =
    let o = old_code v p fits in
    record {
      sites = λ k lt. let s = o.sites k lt in record { ty_named = s.0; field_named = s.1; of_routine = owned v p own fits k lt };
      routines = o.routines;
      whole = (counted v p fits).1;
      entries = o.entries;
      sets = o.sets;
    }

pub fit_in : (v : ImageVersion) (p : Parts) → FitsAs v p → IsCode (code_in v p)
fit_in First p fits = upgraded_is_code p (is_divided p fits) (old_code First p fits)
fit_in Second p fits = with_owners Second p refl fits
fit_in Third p fits = with_owners Third p refl fits
fit_in Fourth p fits = with_owners Fourth p refl fits

pub tables_fit : (s : Spelled) → format.image.Fits s → IsCode (code_of s)
tables_fit s fits = fit_in s.version s.parts fits
