-- The tables of a module's code fit together, and stand for what they should. Cited by other crates.
use Rattle.std.proofs.Common.{◌≡◌, ℕ, zero, suc, ◌+◌, ◌<◌, ◌≤◌, List, [], ◌∷◌, length, slice_index_or, slice_get, codes, Option, Some, None, refl, sym, ap, subst, ◌∙◌, arith, length-append, ◌-◌}
use Rattle.std.proofs.lemmas.List.{length-map}
use Rattle.td_num.specs.declared.number.Width.TheVariants.{One}
use Rattle.td_num.specs.Lists.{Each, is_among}
use Rattle.td_lower.specs.Imports.{NameId, Param, Cell, Buffer, Part, Field, Case, Body, Struct, Casetype, TypeDef, Module, EntryPoint, Parts, Site}
use Rattle.td_core.specs.declared.module.CellKind.TheVariants.{Pointer}
use Rattle.td_core.specs.Formed.{own_bounds, param_bounds}
use Rattle.td_core.specs.Copies.{IsDefinitionCopying}
use Rattle.td_core.specs.WellFormed.{OfSome, EachField, HasParts, IsNameThere, IsDefinitionNamed, DefinitionWithin}
use Rattle.td_meaning.specs.Meaning as meaning
use Rattle.td_ir.specs.Tables.{routine_of, site_of, entry_of, param_of, cell_of, lengths_of, begin}
use Rattle.td_ir.specs.WellFormed.{IsName as IsNameIn, IsField, IsSite, IsRoutine, IsCellNamed, AreBuffers, IsEntry, IsCode}
use Rattle.td_lower_blocks.specs.Block.{size, LayingOut}
use Rattle.td_lower_blocks.specs.Constructs.{body}
use Rattle.td_lower_blocks.specs.Lowered.{definition_body, definition_block, block_of, first_site, sites_in}
use Rattle.td_lower_blocks.specs.Laid.{IsLaid}
use Rattle.td_lower_blocks.specs.Placed.{count_of}
use Rattle.td_lower_blocks.specs.Tabled.{IsTabled, DefinitionSited}
use Rattle.td_lower_blocks.specs.Tops.{fields_levels, cases_levels, body_levels}
use Rattle.td_verify_lowered.specs.Laws.{BlocksHaveCode}
use Rattle.td_verify_lowered.specs.Modules.{IsSupplied}
use Rattle.td_verify_lowered.specs.Good.{IsSiteOf}
use Rattle.td_lower.specs.Tables.{where_name, switch_name, parts_sites, fields_sites, default_sites, cases_sites, body_sites, definition_sites, definitions_sites, definition_maps, params_or_none, cells_or_none, buffer_names, buffers_or_none, entry_for, entries_for}
use Rattle.td_lower.specs.Code.{units_of, routine_for, IsLowerable, IsWritten}
use Rattle.td_lower.proofs.Standing.{From, all_from, sites_from, maps_from, all_sites, all_maps, definition_count}
use Rattle.td_lower.proofs.Owning.{body_owned}
use Rattle.td_lower.proofs.Tabling.{definition_sited, no_site}
use Rattle.td_lower.proofs.Places.{routines_count, routine_is, length_is, begins, stands_at}
use Rattle.td_num.proofs.Lists.{got, each_at, each_append, each_index}
use Rattle.td_verify_lowered.proofs.Modules.{sites_up}

pub there : {A : Type 0} (xs : List A) (n : ℕ) (x : A) → slice_get xs n ≡ Some x → n < length xs
there [] n x h = absurd (cc)
there (y ∷ ys) zero x h = omega arith
there (y ∷ ys) (suc n) x h = (let k = there ys n x h in omega (arith, k))

pub index_of : {A : Type 0} (xs : List A) (n : ℕ) (x d : A) → slice_get xs n ≡ Some x → slice_index_or xs n d ≡ x
index_of [] n x d h = absurd (cc)
index_of (y ∷ ys) zero x d h = cc
index_of (y ∷ ys) (suc n) x d h = index_of ys n x d h

-- what stands from a place on, by its place
from_at : {A : Type 0} (all : List A) (d : A) (k : ℕ) (xs : List A) (j : ℕ) → From all d k xs → j < length xs → slice_index_or all (k + j) d ≡ slice_index_or xs j d
from_at all d k [] j h lt = absurd (omega (arith, lt))
from_at all d k (x ∷ xs) zero h lt = let e : k + 0 ≡ k = omega arith in ap (λ m. slice_index_or all m d) e ∙ h.0
from_at all d k (x ∷ xs) (suc j) h lt = let e : k + suc j ≡ suc k + j = omega arith in ap (λ m. slice_index_or all m d) e ∙ from_at all d (suc k) xs j h.1 (omega (arith, lt))

-- all sites of a definition are one routine's
module _ (r : ℕ) where
  abbrev IsOwn : Site → Type 0
  IsOwn s = s.routine ≡ r

  parts_own : (ty : NameId) (ps : List Part) → Each IsOwn (parts_sites r ty ps)
  parts_own ty [] = tt
  parts_own ty (p ∷ ps) = (refl, parts_own ty ps)

  fields_own : (ty : NameId) (fs : List Field) → Each IsOwn (fields_sites r ty fs)
  fields_own ty [] = tt
  fields_own ty (f ∷ fs) = each_append IsOwn (parts_sites r ty f.parts) (fields_sites r ty fs) (parts_own ty f.parts) (fields_own ty fs)

  default_own : (ty : NameId) (o : Option (List Field)) → Each IsOwn (default_sites r ty o)
  default_own ty None = tt
  default_own ty (Some fs) = fields_own ty fs

  cases_own : (ty : NameId) (cs : List Case) (o : Option (List Field)) → Each IsOwn (cases_sites r ty cs o)
  cases_own ty [] o = default_own ty o
  cases_own ty (x ∷ cs) o = each_append IsOwn (fields_sites r ty x.fields) (cases_sites r ty cs o) (fields_own ty x.fields) (cases_own ty cs o)

  body_own : (ty : NameId) (b : Body) → Each IsOwn (body_sites r ty b)
  body_own ty (Struct fs) = fields_own ty fs
  body_own ty (Casetype e cases o) = cases_own ty cases o

  definition_own : (w s : NameId) (d : TypeDef) → Each IsOwn (definition_sites w s r d)
  definition_own w s d = (refl, (refl, body_own d.name d.body))

-- names
module _ (count names routines : ℕ) (more : count ≤ names) where
  parts_named : (r : ℕ) (own : r < routines) (ty : NameId) (ps : List Part) → IsNameThere count ty → Each (λ p. IsNameThere count p.name) ps → Each (IsSite names routines) (parts_sites r ty ps)
  parts_named r own ty [] t h = tt
  parts_named r own ty (p ∷ ps) t h = (record { ty_named = omega (arith, t, more); field_named = (let x = h.0 in omega (arith, x, more)); of_routine = own }, parts_named r own ty ps t h.1)

  fields_named : (r : ℕ) (own : r < routines) (ty : NameId) (fs : List Field) → IsNameThere count ty → Each (λ f. Each (λ p. IsNameThere count p.name) f.parts) fs → Each (IsSite names routines) (fields_sites r ty fs)
  fields_named r own ty [] t h = tt
  fields_named r own ty (f ∷ fs) t h = each_append (IsSite names routines) (parts_sites r ty f.parts) (fields_sites r ty fs) (parts_named r own ty f.parts t h.0) (fields_named r own ty fs t h.1)

  default_named : (r : ℕ) (own : r < routines) (ty : NameId) (o : Option (List Field)) → IsNameThere count ty → OfSome (Each (λ f. Each (λ p. IsNameThere count p.name) f.parts)) o → Each (IsSite names routines) (default_sites r ty o)
  default_named r own ty None t h = tt
  default_named r own ty (Some fs) t h = fields_named r own ty fs t h

  cases_named : (r : ℕ) (own : r < routines) (ty : NameId) (cs : List Case) (o : Option (List Field)) → IsNameThere count ty → Each (λ x. Each (λ f. Each (λ p. IsNameThere count p.name) f.parts) x.fields) cs → OfSome (Each (λ f. Each (λ p. IsNameThere count p.name) f.parts)) o
      → Each (IsSite names routines) (cases_sites r ty cs o)
  cases_named r own ty [] o t h k = default_named r own ty o t k
  cases_named r own ty (x ∷ cs) o t h k = each_append (IsSite names routines) (fields_sites r ty x.fields) (cases_sites r ty cs o) (fields_named r own ty x.fields t h.0) (cases_named r own ty cs o t h.1 k)

  body_named : (r : ℕ) (own : r < routines) (ty : NameId) (b : Body) → IsNameThere count ty → EachField (λ f. Each (λ p. IsNameThere count p.name) f.parts) b → Each (IsSite names routines) (body_sites r ty b)
  body_named r own ty (Struct fs) t h = fields_named r own ty fs t h
  body_named r own ty (Casetype e cases o) t h = cases_named r own ty cases o t h.0 h.1

  definitions_named : (w s : NameId) → w.number < names → s.number < names → (r : ℕ) (ds : List TypeDef) → r + length ds ≤ routines → Each (IsDefinitionNamed count) ds → Each (IsSite names routines) (definitions_sites w s r ds)
  definitions_named w s a b r [] few h = tt
  definitions_named w s a b r (d ∷ ds) few h =
      let t = h.0.own in
      let own : r < routines = omega (arith, few) in (
        record { ty_named = omega (arith, t, more); field_named = a; of_routine = own },
        (
          record { ty_named = omega (arith, t, more); field_named = b; of_routine = own },
          each_append (IsSite names routines) (body_sites r d.name d.body) (definitions_sites w s (r + 1) ds) (body_named r own d.name d.body t h.0.fields) (definitions_named w s a b (r + 1) ds (omega (arith, few)) h.1),
        ),
      )

  params_named : (ps : List Param) (k : ℕ) → Each (λ p. IsNameThere count p.name) ps → k < length ps → IsNameIn names (param_of ps k).name
  params_named ps k h l = (let x = each_index (λ p. IsNameThere count p.name) ps (record { name = record { number = 0 }; width = One }) k h l in omega (arith, x, more))

  field_in : (o : Option NameId) → OfSome (IsNameThere count) o → IsField names o
  field_in None h = tt
  field_in (Some name) h = omega (arith, h, more)

  cells_named : (cs : List Cell) (k : ℕ) → Each (λ x. IsNameThere count x.name × OfSome (IsNameThere count) x.field) cs → k < length cs → IsCellNamed names (cell_of cs k)
  cells_named cs k h l =
      let x = each_index (λ x. IsNameThere count x.name × OfSome (IsNameThere count) x.field) cs (record { name = record { number = 0 }; field = None; kind = Pointer }) k h l in
      record { named = (let y = x.0 in omega (arith, y, more)); field_named = field_in _ x.1 }

  buffers_named : (bs : List Buffer) → Each (λ b. IsNameThere count b.name) bs → AreBuffers names (buffer_names bs) (length (buffer_names bs))
  buffers_named [] h k l = absurd (omega (arith, l))
  buffers_named (b ∷ bs) h zero l = (let x = h.0 in omega (arith, x, more))
  buffers_named (b ∷ bs) h (suc k) l = buffers_named bs h.1 k (omega (arith, l))

-- levels begin with those that are given
fields_up : (L : ℕ) (fs : List Field) → L ≤ fields_levels L fs
fields_up L [] = omega arith
fields_up L (f ∷ fs) = (let x = fields_up (length f.parts + L) fs in omega (arith, x))

cases_up : (L : ℕ) (cs : List Case) → L ≤ cases_levels L cs
cases_up L [] = omega arith
cases_up L (c ∷ cs) = (let x = cases_up L cs in omega (arith, x))

body_up : (L : ℕ) (b : Body) → L ≤ body_levels L b
body_up L (Struct fs) = fields_up L fs
body_up L (Casetype e cases o) = (let x = cases_up L cases in omega (arith, x))

-- values of enums
values_same : (all : List (List ℕ)) (v : ℕ) → slice_index_or all v [] ≡ meaning.values_of all v
values_same [] v = refl
values_same (x ∷ xs) zero = refl
values_same (x ∷ xs) (suc v) = values_same xs v

-- entry points
pub entries_count : (ds : List TypeDef) (places : List ℕ) → length (entries_for ds places) ≡ length places
entries_count ds [] = refl
entries_count ds (p ∷ ps) = ap suc (entries_count ds ps)

abbrev no_entry : EntryPoint
no_entry = record { routine = 0; params = []; cells = []; buffers = [] }

entry_at : (ds : List TypeDef) (places : List ℕ) (n place : ℕ) → slice_get places n ≡ Some place → slice_index_or (entries_for ds places) n no_entry ≡ entry_for ds place
entry_at ds [] n place h = absurd (cc)
entry_at ds (p ∷ ps) zero place h = (let same : p ≡ place = cc in ap (entry_for ds) same)
entry_at ds (p ∷ ps) (suc n) place h = entry_at ds ps n place h

module _ (c : Parts) (m : Module) (w : IsWritten c m) (l : IsLowerable m) (law : LayingOut) (some : BlocksHaveCode) where
  names_are : length c.names ≡ length m.names + 2
  names_are = (let x = ap length w.names in let y = length-append m.names (codes "where" ∷ codes "switch" ∷ []) in omega (arith, x, y))

  count_is : length c.routines ≡ length m.definitions
  count_is = ap length w.routines ∙ routines_count (units_of m) m.definitions (length m.definitions)

  sites_named : Each (IsSite (length c.names) (length c.routines)) c.sites
  sites_named =
      let k = names_are in
      let e = count_is in
      subst (Each (IsSite (length c.names) (length c.routines))) (sym w.sites)
      (definitions_named (length m.names) (length c.names) (length c.routines) (omega (arith, k)) (where_name m) (switch_name m) (omega (arith, k)) (omega (arith, k)) 0 m.definitions (omega (arith, e)) l.named)

  pub routine_at : (n : ℕ) (d : TypeDef) → slice_get m.definitions n ≡ Some d → routine_of c n ≡ routine_for (size (block_of (units_of m) m.definitions n)) (Some d)
  routine_at n d e =
      routine_is c (units_of m) m.definitions w.routines w.instructions n (there m.definitions n d e) ∙ ap (routine_for (size (block_of (units_of m) m.definitions n))) e

  routine_good : (n : ℕ) → n < length m.definitions → IsRoutine (length c.names) (routine_of c n)
  routine_good n h =
      let x = got m.definitions n h in
      let d = x.0 in
      let r = routine_at n d x.1 in
      let own = (each_at (IsDefinitionNamed (length m.names)) m.definitions n d l.named x.1).own in
      let k = names_are in
      let block : block_of (units_of m) m.definitions n ≡ body (definition_body (first_site m.definitions n) (units_of m n) d) = ap (definition_block (first_site m.definitions n) (units_of m n)) x.1 in
      let z = some (definition_body (first_site m.definitions n) (units_of m n) d) in
      let b = ap size block in
      let up = body_up (length d.params) d.body in
      let few = (each_at DefinitionWithin m.definitions n d l.within.each x.1).buffers in
      let count = length-map d.buffers (λ b. b.room) in
      subst (IsRoutine (length c.names)) (sym r) (record { named = omega (arith, own, k); some = omega (arith, z, b); room = omega (arith, up); few = omega (arith, few, count) })

  entry_good : (n : ℕ) → n < length c.entries → IsEntry c (entry_of c n)
  entry_good n h =
      let many = ap length w.entries ∙ entries_count m.definitions m.entries in
      let p = got m.entries n (omega (arith, h, many)) in
      let inside = each_at (λ place. place < length m.definitions) m.entries n p.0 l.whole.entries p.1 in
      let x = got m.definitions p.0 inside in
      let d = x.0 in
      let e : entry_of c n ≡ record { routine = p.0; params = d.params; cells = d.cells; buffers = buffer_names d.buffers } =
      ap (λ y. slice_index_or y n no_entry) w.entries
      ∙ (entry_at m.definitions m.entries n p.0 p.1 ∙ ap (λ o. record { routine = p.0; params = params_or_none o; cells = cells_or_none o; buffers = buffers_or_none o }) x.1) in
      let r = routine_at p.0 d x.1 in
      let k = names_are in
      let count = count_is in
      let own = each_at (IsDefinitionNamed (length m.names)) m.definitions p.0 d l.named x.1 in
      let rp : length d.params ≡ (routine_of c p.0).params = sym (ap (λ y. y.params) r) in
      let rc : length d.cells ≡ (routine_of c p.0).cells = sym (ap (λ y. y.cells) r) in
      let rb : length (buffer_names d.buffers) ≡ length (routine_of c p.0).buffers =
      length-map d.buffers (λ b. b.name) ∙ (sym (length-map d.buffers (λ b. b.room)) ∙ sym (ap (λ y. length y.buffers) r)) in
      subst (IsEntry c) (sym e) (record {
        there = omega (arith, inside, count);
        param_count = rp;
        cell_count = rc;
        buffer_count = rb;
        params_named = λ j l'. params_named (length m.names) (length c.names) (length c.routines) (omega (arith, k)) d.params j own.params l';
        cells_named = λ j l'. cells_named (length m.names) (length c.names) (length c.routines) (omega (arith, k)) d.cells j own.cells l';
        buffers_named = buffers_named (length m.names) (length c.names) (length c.routines) (omega (arith, k)) d.buffers own.buffers;
      })

  pub is_code : IsCode c
  is_code = record {
    sites = λ k h. each_index (IsSite (length c.names) (length c.routines)) c.sites _ k sites_named h;
    routines = λ k h. (let e = count_is in routine_good k (omega (arith, h, e)));
    whole = (let e = count_is in ap (begin (lengths_of c)) e ∙ (begins c (units_of m) m.definitions w.routines w.instructions (length m.definitions) (omega arith) ∙ sym (ap length w.instructions)));
    entries = λ k h. entry_good k h;
    sets = λ k h. (w.sets.each k).rises;
  }

  pub is_laid : IsLaid c (units_of m) m
  is_laid = record {
    count = count_is;
    stands = λ n h. stands_at c (units_of m) m.definitions w.routines w.instructions law n h;
    sizes = λ n h. length_is c (units_of m) m.definitions w.routines w.instructions n h;
    params = λ n h. (let x = got m.definitions n h in ap (λ y. y.params) (routine_at n x.0 x.1) ∙ sym (ap count_of x.1));
    cells = λ n d e. ap (λ y. y.cells) (routine_at n d e);
    buffers = λ n d e. ap (λ y. y.buffers) (routine_at n d e);
    entries = λ n place h. ap (λ y. (slice_index_or y n no_entry).routine) w.entries ∙ ap (λ y. y.routine) (entry_at m.definitions m.entries n place h);
    entry_count = ap length w.entries ∙ entries_count m.definitions m.entries;
    entry_params = λ n place d h e. ap (λ y. (slice_index_or y n no_entry).params) w.entries ∙ (ap (λ y. y.params) (entry_at m.definitions m.entries n place h) ∙ ap params_or_none e);
    entry_cells = λ n place d h e. ap (λ y. (slice_index_or y n no_entry).cells) w.entries ∙ (ap (λ y. y.cells) (entry_at m.definitions m.entries n place h) ∙ ap cells_or_none e);
  }

  sites_at : (n : ℕ) (d : TypeDef) → slice_get m.definitions n ≡ Some d → From c.sites no_site (first_site m.definitions n) (definition_sites (where_name m) (switch_name m) n d)
  sites_at n d e =
      let z : first_site m.definitions n + 0 ≡ first_site m.definitions n = omega arith in
      let own : 0 + n ≡ n = omega arith in
      subst (λ r. From c.sites no_site (first_site m.definitions n) (definition_sites (where_name m) (switch_name m) r d)) own
      (subst (λ k. From c.sites no_site k (definition_sites (where_name m) (switch_name m) (0 + n) d)) z
      (sites_from c.sites no_site (where_name m) (switch_name m) 0 m.definitions 0 n d (subst (λ y. From c.sites no_site 0 y) w.sites (all_from c.sites no_site)) e))

  theirs : (n j : ℕ) → n < length m.definitions → j < n → (e : TypeDef) × ((slice_get m.definitions j ≡ Some e) × ((routine_of c j).cells ≡ length e.cells))
  theirs n j h k = (let x = got m.definitions j (omega (arith, h, k)) in (x.0, (x.1, ap (λ y. y.cells) (routine_at j x.0 x.1))))

  sited : (n : ℕ) → n < length m.definitions → DefinitionSited c n (first_site m.definitions n) (slice_get m.definitions n)
  sited n h =
      let x = got m.definitions n h in
      let d = x.0 in
      let z : first_site m.definitions n + 0 ≡ first_site m.definitions n = omega arith in
      let g = maps_from c.maps [] m.definitions 0 n d (subst (λ y. From c.maps [] 0 y) w.maps (all_from c.maps [])) x.1 in
      let r = routine_at n d x.1 in
      subst (DefinitionSited c n (first_site m.definitions n)) (sym x.1)
      (definition_sited c m w.names l.words n d (ap (λ y. y.cells) r) (ap (λ y. y.buffers) r) (λ j k. theirs n j h k)
      (first_site m.definitions n) (each_at (λ y. EachField (λ f. HasParts f.parts) y.body) m.definitions n d l.whole.parts x.1)
      (each_at (IsDefinitionNamed (length m.names)) m.definitions n d l.named x.1).fields
      (body_owned m.definitions n (own_bounds d) (param_bounds d.params) d.body (l.ready.formed n d x.1).1)
      (each_at (IsDefinitionCopying m.definitions) m.definitions n d l.copying x.1).fields
      (sites_at n d x.1)
      (subst (λ k. From c.maps [] k (definition_maps d)) z g))

  -- the sites of a definition are its routine's
  sites_own : (n k : ℕ) → n < length m.definitions → first_site m.definitions n ≤ k → k < first_site m.definitions (suc n) → IsSiteOf c n k
  sites_own n k h low high =
      let x = got m.definitions n h in
      let d = x.0 in
      let j = k - first_site m.definitions n in
      let next : first_site m.definitions (suc n) ≡ first_site m.definitions n + sites_in (Some d) = ap (λ o. first_site m.definitions n + sites_in o) x.1 in
      let count = definition_count (where_name m) (switch_name m) n d in
      let few : j < length (definition_sites (where_name m) (switch_name m) n d) = omega (arith, low, high, next, count) in
      let is = from_at c.sites no_site (first_site m.definitions n) (definition_sites (where_name m) (switch_name m) n d) j (sites_at n d x.1) few in
      let at : first_site m.definitions n + j ≡ k = omega (arith, low) in
      let own = each_index (λ s. s.routine ≡ n) (definition_sites (where_name m) (switch_name m) n d) no_site j (definition_own n (where_name m) (switch_name m) d) few in
      let a = ap length w.sites in
      let b = all_sites (where_name m) (switch_name m) 0 m.definitions in
      let u = sites_up m.definitions (suc n) (length m.definitions - suc n) in
      let all : suc n + (length m.definitions - suc n) ≡ length m.definitions = omega (arith, h) in
      let last : first_site m.definitions (suc n) ≤ first_site m.definitions (length m.definitions) = subst (λ x. first_site m.definitions (suc n) ≤ first_site m.definitions x) all u in
      (omega (arith, high, last, a, b), subst (λ y. (site_of c y).routine ≡ n) at (ap (λ s. s.routine) is ∙ own))

  pub is_tabled : IsTabled c m
  is_tabled = record {
    sited = sited;
    listed = λ v n. (w.sets.each v).same n ∙ ap (λ y. is_among y n) (values_same m.listed v);
  }

  pub is_supplied : IsSupplied c m
  is_supplied = record {
    sites = sites_own;
    maps = (let a = ap length w.sites in let b = all_sites (where_name m) (switch_name m) 0 m.definitions in let x = ap length w.maps in let y = all_maps m.definitions in omega (arith, a, b, x, y));
    sets = (let x = w.sets.count in omega (arith, x));
  }
