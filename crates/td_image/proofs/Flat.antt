-- The bytes of a list are those of its rows.
use Rattle.std.proofs.Common.{◌≡◌, ℕ, ◌-◌, Bool, true, false, List, [], ◌∷◌, ◌++◌, length, Some, None, refl, ap}
use Rattle.std.specs.Prelude.{if◌then◌else◌}
use Rattle.std.specs.List.{flat_map, list_any}
use Rattle.std.specs.Int.{w8, w16, w32, w64, to_le_bytes}
use Rattle.std.proofs.lemmas.List.Concat.{flat_map-cons}
use Rattle.td_image.specs.Imports.{Parts, Fields, Instr, Site, Routine, NameId, Param, Cell, EntryPoint}
use Rattle.td_image.specs.declared.limits.TheConstants.{MAGIC}
use Rattle.td_names.specs.Names.{with_name}
use Rattle.td_image.specs.declared.version.ImageVersion.{ImageVersion}
use Rattle.td_image.specs.declared.version.ImageVersion.TheVariants.{First, Second, Third, Fourth}
use Rattle.td_image.specs.Versions.{number_of, most_numbers, has_owners, has_buffers, is_newer, version_for}
use Rattle.td_image.specs.Answer.{written}
use Rattle.td_image.specs.declared.routines.Room.{Room}
use Rattle.td_image.specs.Format.{Format, all_bytes, number, times}
use Rattle.td_image.specs.Image as format
use Rattle.td_image.specs.Rows as rows

joined : {a b c d : List ℕ} → a ≡ b → c ≡ d → a ++ c ≡ b ++ d
joined e f = rw (e, f) refl

pub flat : {S A : Type 0} (f : S → Format A) (next : S → A → S) (g : A → List ℕ) → ((s : S) (x : A) → (f s).bytes x ≡ g x) → (s : S) (xs : List A) → all_bytes f next s xs ≡ flat_map g xs
unfolding all_bytes
flat f next g same s [] = refl
flat f next g same s (x ∷ xs) = rw (flat_map-cons, same s x, flat f next g same (next s x) xs) refl

pub flat_times : {A : Type 0} (n : ℕ) (f : Format A) (xs : List A) → (times n f).bytes xs ≡ flat_map f.bytes xs
flat_times n f xs = flat (λ (s : Unit {0}). f) (λ s x. s) f.bytes (λ s x. refl) tt xs

site_same : (v : ImageVersion) → has_owners v ≡ true → (n r : ℕ) (x : Site) → (format.site v n r).bytes x ≡ rows.site x
unfolding format.site
site_same First own n r x = absurd (cc own)
site_same Second own n r x = refl
site_same Third own n r x = refl
site_same Fourth own n r x = refl

pub name_flat : (x : List ℕ) → rows.name x ≡ to_le_bytes w32 (length x) ++ x
unfolding format.name
name_flat x = refl

name_same : (v : ImageVersion) (s : List (List ℕ)) (x : List ℕ) → (format.name v s).bytes x ≡ rows.name x
unfolding format.name
name_same v s x = refl

map_same : (v : ImageVersion) (x : List ℕ) → (format.map_format v).bytes x ≡ rows.map x
unfolding format.map_format
map_same v x = refl

instruction_same : (v : ImageVersion) (x : Instr) → (format.instruction v).bytes x ≡ rows.instruction x
unfolding format.fields
instruction_same v x = refl

pub set_same : (s : ℕ) (x : List ℕ) → (format.set s).bytes x ≡ rows.set x
unfolding format.set
set_same s x = refl

routine_same : (v : ImageVersion) → has_buffers v ≡ true → (n : ℕ) (s : Room) (x : Routine) → (format.routine v n s).bytes x ≡ rows.routine x
unfolding format.routine
routine_same First own n s x = absurd (cc own)
routine_same Second own n s x = absurd (cc own)
routine_same Third own n s x = refl
routine_same Fourth own n s x = refl

pub rooms_flat : (xs : List ℕ) → rows.rooms xs ≡ to_le_bytes w32 (length xs) ++ flat_map rows.number xs
unfolding format.rooms
rooms_flat xs = ap (λ (l : List ℕ). to_le_bytes w32 (length xs) ++ l) (flat_times (length xs) format.buffer_room xs)

pub cell_flat : (x : Cell) → rows.cell x ≡ to_le_bytes w32 x.name.number ++ (to_le_bytes w32 (format.field_number x.field) ++ to_le_bytes w32 (format.kind_bits x.kind))
unfolding format.cell
cell_flat x = refl

pub routine_flat : (r : Routine) → rows.routine r ≡ to_le_bytes w32 r.name.number ++ (to_le_bytes w32 r.params ++ (to_le_bytes w32 r.cells ++ (to_le_bytes w32 r.registers ++ (to_le_bytes w32 r.length ++ rows.rooms r.buffers))))
unfolding format.routine
routine_flat r = refl

pub param_same : (n : ℕ) (x : Param) → (format.param n).bytes x ≡ rows.param x
unfolding format.param
param_same n x = refl

pub cell_same : (n : ℕ) (x : Cell) → (format.cell n).bytes x ≡ rows.cell x
unfolding format.cell
cell_same n x = refl

params_same : (n k : ℕ) (xs : List Param) → (times k (format.param n)).bytes xs ≡ flat_map rows.param xs
params_same n k xs = flat (λ (s : Unit {0}). format.param n) (λ s x. s) rows.param (λ s x. param_same n x) tt xs

cells_same : (n k : ℕ) (xs : List Cell) → (times k (format.cell n)).bytes xs ≡ flat_map rows.cell xs
cells_same n k xs = flat (λ (s : Unit {0}). format.cell n) (λ s x. s) rows.cell (λ s x. cell_same n x) tt xs

places_same : (n k : ℕ) (xs : List NameId) → (times k (format.name_place n)).bytes xs ≡ flat_map rows.name_place xs
places_same n k xs = flat (λ (s : Unit {0}). format.name_place n) (λ s x. s) rows.name_place (λ s x. refl) tt xs

pub entry_same : (n : ℕ) (rs : List Routine) (x : EntryPoint) → (format.entry n rs).bytes x ≡ rows.entry x
unfolding format.entry
entry_same n rs x =
    let r = x.routine in
    rw (
      params_same n ((format.routine_of rs r).params) x.params,
      cells_same n ((format.routine_of rs r).cells) x.cells,
      places_same n (length (format.routine_of rs r).buffers) x.buffers,
      params_same 0 ((format.routine_of [] r).params) x.params,
      cells_same 0 ((format.routine_of [] r).cells) x.cells,
      places_same 0 (length (format.routine_of [] r).buffers) x.buffers,
    ) refl

pub map_flat : (xs : List ℕ) → rows.map xs ≡ to_le_bytes w32 (length xs) ++ flat_map rows.number xs
unfolding format.map_format
map_flat xs = ap (λ (l : List ℕ). to_le_bytes w32 (length xs) ++ l) (flat_times (length xs) (number w32) xs)

pub set_flat : (xs : List ℕ) → rows.set xs ≡ to_le_bytes w32 (length xs) ++ flat_map rows.element xs
unfolding format.set
set_flat xs = ap (λ (l : List ℕ). to_le_bytes w32 (length xs) ++ l) (flat format.element (λ last x. Some x) rows.element (λ s x. refl) None xs)

pub entry_flat : (x : EntryPoint) → rows.entry x ≡ to_le_bytes w32 x.routine ++ (flat_map rows.param x.params ++ (flat_map rows.cell x.cells ++ flat_map rows.name_place x.buffers))
unfolding format.entry
entry_flat x =
    let r = x.routine in
    rw (params_same 0 ((format.routine_of [] r).params) x.params, cells_same 0 ((format.routine_of [] r).cells) x.cells, places_same 0 (length (format.routine_of [] r).buffers) x.buffers) refl

pub fields_flat : (f : Fields) → (format.fields Third).bytes f ≡ to_le_bytes w8 f.number ++ (to_le_bytes w8 f.x ++ (to_le_bytes w16 f.a ++ (to_le_bytes w16 f.b ++ (to_le_bytes w16 f.c
    ++ (to_le_bytes w32 f.t ++ (to_le_bytes w32 f.site ++ to_le_bytes w64 f.k))))))
unfolding format.fields
fields_flat f = refl

pub header_flat : (v : ImageVersion) (p : Parts) → format.header.bytes (format.counts_of v p) ≡ to_le_bytes w32 MAGIC ++ (to_le_bytes w16 (number_of v) ++ (to_le_bytes w16 0 ++ (to_le_bytes w32 (length p.names) ++ (to_le_bytes w32 (length p.sites)
    ++ (to_le_bytes w32 (length p.maps) ++ (to_le_bytes w32 (length p.sets) ++ (to_le_bytes w32 (length p.routines) ++ (to_le_bytes w32 (length p.entries) ++ to_le_bytes w32 (length p.instructions)))))))))
unfolding format.header
header_flat v p = refl

image_in : (v : ImageVersion) → has_owners v ≡ true → has_buffers v ≡ true → (p : Parts) → format.image.bytes (record { version = v; parts = p }) ≡ format.header.bytes (format.counts_of v p) ++ rows.tables p
unfolding format.image
image_in v owners buffers p =
    let n = flat (format.name v) with_name rows.name (name_same v) [] p.names in
    let s = flat (λ (s : Unit {0}). format.site v (length p.names) (length p.routines)) (λ s x. s) rows.site (λ s x. site_same v owners (length p.names) (length p.routines) x) tt p.sites in
    let m = flat (λ (s : Unit {0}). format.map_format v) (λ s x. s) rows.map (λ s x. map_same v x) tt p.maps in
    let t = flat format.set (λ left x. left - length x) rows.set set_same (most_numbers v) p.sets in
    let r = flat (format.routine v (length p.names)) format.after_routine rows.routine (routine_same v buffers (length p.names)) (record { left = length p.instructions; more = length p.routines }) p.routines in
    let e = flat (λ (s : Unit {0}). format.entry (length p.names) p.routines) (λ s x. s) rows.entry (λ s x. entry_same (length p.names) p.routines x) tt p.entries in
    let i = flat (λ (s : Unit {0}). format.instruction v) (λ s x. s) rows.instruction (λ s x. instruction_same v x) tt p.instructions in
    ap (λ (l : List ℕ). format.header.bytes (format.counts_of v p) ++ l) (joined n (joined s (joined m (joined t (joined r (joined e i))))))

pub image_flat : (p : Parts) → format.image.bytes (written p) ≡ format.header.bytes (format.counts_of (version_for p.instructions) p) ++ rows.tables p
image_flat p = by (list_any is_newer p.instructions)
  where
    by : (b : Bool) → format.image.bytes (record { version = if b then Fourth else Third; parts = p }) ≡ format.header.bytes (format.counts_of (if b then Fourth else Third) p) ++ rows.tables p
    by true = image_in Fourth refl refl p
    by false = image_in Third refl refl p
