-- The format of images is exact.
use Rattle.std.proofs.Common.{◌≡◌, ℕ, ◌-◌, ◌≤◌, inl, inr, Bool, true, false, ◌&&◌, ◌||◌, not, if◌then◌else◌, List, [], length, Some, None, refl, sym, ap, subst, ◌∙◌, arith}
use Rattle.std.specs.Prelude.{nat_le, nat_lt, ◌==◌}
use Rattle.std.specs.Int.{Width as Size, w8, w16, w32, w64}
use Rattle.std.proofs.lemmas.Bool.{eqb-true, leb-true}
use Rattle.td_image.specs.Imports.{Width, One, Two, Four, Eight, CellKind, Number, Pointer, Routine, Parts, Fields}
use Rattle.td_names.specs.Names.{is_seen, with_name}
use Rattle.td_image.specs.declared.fault.Cause.{Cause}
use Rattle.td_image.specs.declared.fault.Cause.TheVariants.{Magic, Version, Field}
use Rattle.td_image.specs.declared.limits.TheConstants.{MAGIC, VERSION, THIRD_VERSION, SECOND_VERSION, FIRST_VERSION, MOST_CELLS, MOST_BUFFERS, MOST_ROOM, MOST_PARAMETERS, MOST_REGISTERS, NO_FIELD}
use Rattle.td_image.specs.declared.counts.Counts.{Counts}
use Rattle.td_image.specs.declared.version.ImageVersion.{ImageVersion}
use Rattle.td_image.specs.declared.version.ImageVersion.TheVariants.{First, Second, Third, Fourth}
use Rattle.td_image.specs.Versions.{number_of, is_version, version_of, most_rows, most_numbers, most_instructions, most_mapped, last_kind, has_owners, has_buffers}
use Rattle.td_image.specs.declared.routines.Room.{Room}
use Rattle.td_image.specs.Format.{Format, number, text, allowed, ◌then◌, times}
use Rattle.td_ir.specs.declared.opcodes.OperandField.TheVariants as field
use Rattle.td_ir.specs.Opcodes.{has}
use Rattle.td_ir.specs.Fields.{instruction_of, fields_of}
use Rattle.td_image.specs.Names.{is_image_name}
use Rattle.td_image.specs.Image.{constant, up_to, place, counted, version, count, site_routine, header, name, names, name_place, site, map_format, rises, element, elements, set, sets, is_length, after_routine, buffer_room, rooms, buffers, routine, routines, is_width, bits_of, width_of, width, param, field_of, field_number, cell_field, kind_of, kind_bits, cell_kind, cell, routine_of, entry, operand, fields, instruction, counts_of, image}
use Rattle.td_image.proofs.Exact.{IsExact, IsWide, wide8, wide16, wide32, wide64, number_exact, since_exact, text_exact, allowed_exact, then_exact, made_exact, within_exact, each_exact}
use Rattle.td_image.proofs.GivenBack.{given_back, keep, kept_by}
use Rattle.td_num.proofs.Truths.{or_cases as either}

pub constant_exact : (w : Size) (wide : IsWide w) (cause : Cause) (n : ℕ) → IsExact (constant w cause n)
constant_exact w wide cause n = made_exact (λ k. tt) (λ u. n) (allowed cause (λ k. k == n) (number w)) (allowed_exact cause (λ k. k == n) (number w) (number_exact w wide)) (λ k fits. sym (eqb-true _ _ fits.1)) (λ u. refl)

pub choice_exact : (w : Size) (wide : IsWide w) (ok : ℕ → Bool) → IsExact (allowed Field ok (number w))
choice_exact w wide ok = allowed_exact Field ok (number w) (number_exact w wide)

pub place_exact : (n : ℕ) → IsExact (place n)
place_exact n = choice_exact w32 wide32 (λ k. nat_lt k n)

pub up_to_exact : (n : ℕ) → IsExact (up_to n)
up_to_exact n = choice_exact w32 wide32 (λ k. nat_le k n)

pub counted_exact : {A : Type 0} (count : Format ℕ) (items : ℕ → Format (List A)) → IsExact count → ((n : ℕ) → IsExact (items n)) → ((n : ℕ) (xs : List A) → (items n).Fits xs → length xs ≡ n) → IsExact (counted count items)
counted_exact {A} count items C I len =
    made_exact (λ x. x.1) (λ xs. (length xs, xs)) (count then items) (then_exact count items C I) (λ x fits. ap (λ (k : ℕ). (k, x.1)) (len x.0 x.1 fits.1)) (λ xs. refl)

pub times_exact : {A : Type 0} (n : ℕ) (g : Format A) → IsExact g → IsExact (times n g)
times_exact n g G = each_exact (λ (s : Unit {0}). g) (λ s x. s) (λ s. G) n tt

pub name_exact : (v : ImageVersion) (seen : List (List ℕ)) → IsExact (name v seen)
unfolding name
name_exact v seen =
    counted_exact (allowed Field (λ n. nat_le 1 n) (number w32)) (λ n. allowed Field (λ t. is_image_name v t && not (is_seen seen t)) (text n))
    (choice_exact w32 wide32 (λ n. nat_le 1 n)) (λ n. allowed_exact Field (λ t. is_image_name v t && not (is_seen seen t)) (text n) (text_exact n)) (λ n xs fits. fits.0.0)

pub names_exact : (v : ImageVersion) (n : ℕ) → IsExact (names v n)
names_exact v n = each_exact (name v) with_name (name_exact v) n []

pub name_place_exact : (n : ℕ) → IsExact (name_place n)
name_place_exact n = made_exact _ _ _ (place_exact n) (λ a fits. refl) (λ b. refl)

pub site_routine_exact : (v : ImageVersion) (routines : ℕ) → IsExact (site_routine v routines)
site_routine_exact v routines = since_exact (has_owners v) 0 (place routines) (place_exact routines)

pub site_exact : (v : ImageVersion) (n routines : ℕ) → IsExact (site v n routines)
unfolding site
site_exact v n routines =
    made_exact _ _ _ (then_exact _ _ (name_place_exact n) (λ t. then_exact _ _ (name_place_exact n) (λ f. site_routine_exact v routines))) (λ a fits. refl) (λ b. refl)

pub map_exact : (v : ImageVersion) → IsExact (map_format v)
unfolding map_format
map_exact v = counted_exact (up_to (most_mapped v)) (λ n. times n (number w32)) (up_to_exact (most_mapped v)) (λ n. times_exact n (number w32) (number_exact w32 wide32)) (λ n xs fits. fits.0)

pub elements_exact : (n : ℕ) → IsExact (elements n)
elements_exact n = each_exact element (λ last x. Some x) (λ last. choice_exact w64 wide64 (rises last)) n None

pub set_exact : (left : ℕ) → IsExact (set left)
unfolding set
set_exact left = counted_exact (up_to left) elements (up_to_exact left) elements_exact (λ n xs fits. fits.0)

pub sets_exact : (v : ImageVersion) (n : ℕ) → IsExact (sets v n)
sets_exact v n = each_exact set (λ left x. left - length x) set_exact n (most_numbers v)

pub rooms_exact : IsExact rooms
unfolding rooms
rooms_exact =
    counted_exact (up_to MOST_BUFFERS) (λ n. times n buffer_room) (up_to_exact MOST_BUFFERS) (λ n. times_exact n buffer_room (choice_exact w32 wide32 (λ k. nat_le 1 k && nat_le k MOST_ROOM))) (λ n xs fits. fits.0)

pub buffers_exact : (v : ImageVersion) → IsExact (buffers v)
buffers_exact v = since_exact (has_buffers v) [] rooms rooms_exact

pub routine_exact : (v : ImageVersion) (names : ℕ) (room : Room) → IsExact (routine v names room)
unfolding routine
routine_exact v names room =
    made_exact _ _ _ (then_exact _ _ (name_place_exact names) (λ name. then_exact _ _ (up_to_exact MOST_PARAMETERS) (λ params. then_exact _ _ (up_to_exact MOST_CELLS) (λ cells.
    then_exact _ _ (choice_exact w32 wide32 (λ n. nat_le params n && nat_le n MOST_REGISTERS)) (λ registers. then_exact _ _ (choice_exact w32 wide32 (is_length room)) (λ length. buffers_exact v))))))
    (λ a fits. refl) (λ b. refl)

pub routines_exact : (v : ImageVersion) (names n instructions : ℕ) → IsExact (routines v names n instructions)
routines_exact v names n instructions = each_exact (routine v names) after_routine (routine_exact v names) n (record { left = instructions; more = n })

-- what holds of each width holds of a number that is one
each_width : (P : ℕ → Type 0) (n : ℕ) → is_width n ≡ true → P 8 → P 16 → P 32 → P 64 → P n
each_width P n e p8 p16 p32 p64 =
    elim (either _ _ e) [
      | inl small ↦ elim (either _ _ small) [
        | inl smaller ↦ elim (either _ _ smaller) [
          | inl is8 ↦ subst P (sym (eqb-true _ _ is8)) p8
          | inr is16 ↦ subst P (sym (eqb-true _ _ is16)) p16
        ]
        | inr is32 ↦ subst P (sym (eqb-true _ _ is32)) p32
      ]
      | inr is64 ↦ subst P (sym (eqb-true _ _ is64)) p64
    ]

width_back : (n : ℕ) → is_width n ≡ true → bits_of (width_of n) ≡ n
width_back n e = each_width (λ (m : ℕ). bits_of (width_of m) ≡ m) n e refl refl refl refl

width_there : (w : Width) → width_of (bits_of w) ≡ w
width_there One = refl
width_there Two = refl
width_there Four = refl
width_there Eight = refl

pub width_exact : IsExact width
width_exact = made_exact width_of bits_of _ (choice_exact w32 wide32 is_width) (λ n fits. width_back n fits.1) width_there

pub param_exact : (names : ℕ) → IsExact (param names)
unfolding param
param_exact names = made_exact _ _ _ (then_exact _ _ (name_place_exact names) (λ name. width_exact)) (λ a fits. refl) (λ b. refl)

field_by : (n : ℕ) (none : Bool) → (n == NO_FIELD) ≡ none → field_number (if none then None else Some (record { number = n })) ≡ n
field_by n true e = sym (eqb-true _ _ e)
field_by n false e = refl

field_back : (n : ℕ) → field_number (field_of n) ≡ n
field_back n = field_by n (n == NO_FIELD) refl

pub field_exact : (names : ℕ) → IsExact (cell_field names)
field_exact names = within_exact field_of field_number _ (choice_exact w32 wide32 (λ f. nat_lt f names || (f == NO_FIELD))) (λ n fits. field_back n)

pointer_back : (n : ℕ) → n ≡ 0 → kind_bits (kind_of n) ≡ n
pointer_back n e = rw e refl

kind_back : (n : ℕ) → ((n == 0) || is_width n) ≡ true → kind_bits (kind_of n) ≡ n
kind_back n e = elim (either _ _ e) [
  | inl none ↦ pointer_back n (eqb-true _ _ none)
  | inr wide ↦ each_width (λ (m : ℕ). kind_bits (kind_of m) ≡ m) n wide refl refl refl refl
]

kind_there : (k : CellKind) → kind_of (kind_bits k) ≡ k
kind_there Pointer = refl
kind_there (Number One) = refl
kind_there (Number Two) = refl
kind_there (Number Four) = refl
kind_there (Number Eight) = refl

pub kind_exact : IsExact cell_kind
kind_exact = made_exact kind_of kind_bits _ (choice_exact w32 wide32 (λ n. (n == 0) || is_width n)) (λ n fits. kind_back n fits.1) kind_there

pub cell_exact : (names : ℕ) → IsExact (cell names)
unfolding cell
cell_exact names = made_exact _ _ _ (then_exact _ _ (name_place_exact names) (λ name. then_exact _ _ (field_exact names) (λ f. kind_exact))) (λ a fits. refl) (λ b. refl)

pub entry_exact : (names : ℕ) (routines : List Routine) → IsExact (entry names routines)
unfolding entry
entry_exact names routines =
    made_exact _ _ _ (then_exact _ _ (place_exact (length routines)) (λ n. then_exact _ _ (times_exact ((routine_of routines n).params) (param names) (param_exact names)) (λ params.
    then_exact _ _ (times_exact ((routine_of routines n).cells) (cell names) (cell_exact names)) (λ cells. times_exact (length (routine_of routines n).buffers) (name_place names) (name_place_exact names)))))
    (λ a fits. refl) (λ b. refl)

pub operand_exact : (w : Size) (wide : IsWide w) (used : Bool) → IsExact (operand w used)
operand_exact w wide used = choice_exact w wide (λ n. used || (n == 0))

pub fields_exact : (v : ImageVersion) → IsExact (fields v)
unfolding fields
fields_exact v =
    made_exact _ _ _ (then_exact _ _ (choice_exact w8 wide8 (λ n. nat_le n (last_kind v))) (λ n. then_exact _ _ (operand_exact w8 wide8 (has n field.X)) (λ x. then_exact _ _ (operand_exact w16 wide16 (has n field.A)) (λ a.
    then_exact _ _ (operand_exact w16 wide16 (has n field.B)) (λ b. then_exact _ _ (operand_exact w16 wide16 (has n field.C)) (λ c. then_exact _ _ (operand_exact w32 wide32 (has n field.T)) (λ t.
    then_exact _ _ (operand_exact w32 wide32 (has n field.Site)) (λ site. operand_exact w64 wide64 (has n field.K)))))))))
    (λ a fits. refl) (λ b. refl)

keeps : (used : Bool) (n : ℕ) → (used || (n == 0)) ≡ true → keep used n ≡ n
keeps true n e = refl
keeps false n e = sym (eqb-true _ _ e)

-- no version has a kind of a greater number
no_greater : (v : ImageVersion) (n : ℕ) → n ≤ last_kind v → n ≤ 27
no_greater First n le = omega (arith, le)
no_greater Second n le = omega (arith, le)
no_greater Third n le = omega (arith, le)
no_greater Fourth n le = omega (arith, le)

fields_back : (v : ImageVersion) (f : Fields) → (fields v).Fits f → fields_of (instruction_of f) ≡ f
unfolding fields
fields_back v f (number, (x, (a, (b, (c, (t, (s, k))))))) =
    let n = f.number in
    kept_by n f (no_greater v n (leb-true _ _ number.1))
    ∙ rw (keeps (has n field.X) f.x x.1, keeps (has n field.A) f.a a.1, keeps (has n field.B) f.b b.1, keeps (has n field.C) f.c c.1, keeps (has n field.T) f.t t.1, keeps (has n field.Site) f.site s.1, keeps (has n field.K) f.k k.1) refl

pub instruction_exact : (v : ImageVersion) → IsExact (instruction v)
instruction_exact v = made_exact instruction_of fields_of (fields v) (fields_exact v) (fields_back v) given_back

version_by : (n : ℕ) (a b d : Bool) → (n == FIRST_VERSION) ≡ a → (n == SECOND_VERSION) ≡ b → (n == THIRD_VERSION) ≡ d → (a || b || d || (n == VERSION)) ≡ true → number_of (if a then First else (if b then Second else (if d then Third else Fourth))) ≡ n
version_by n true b d e f g h = sym (eqb-true _ _ e)
version_by n false true d e f g h = sym (eqb-true _ _ f)
version_by n false false true e f g h = sym (eqb-true _ _ g)
version_by n false false false e f g h = sym (eqb-true _ _ h)

version_back : (n : ℕ) → is_version n ≡ true → number_of (version_of n) ≡ n
version_back n h = version_by n (n == FIRST_VERSION) (n == SECOND_VERSION) (n == THIRD_VERSION) refl refl refl h

version_there : (v : ImageVersion) → version_of (number_of v) ≡ v
version_there First = refl
version_there Second = refl
version_there Third = refl
version_there Fourth = refl

pub version_exact : IsExact version
version_exact = made_exact version_of number_of (allowed Version is_version (number w16)) (allowed_exact Version is_version (number w16) (number_exact w16 wide16)) (λ n fits. version_back n fits.1) version_there

pub header_exact : IsExact header
unfolding header
header_exact =
    made_exact _ _ _ (then_exact _ _ (constant_exact w32 wide32 Magic MAGIC) (λ magic. then_exact _ _ version_exact (λ v. then_exact _ _ (constant_exact w16 wide16 Field 0) (λ zeros.
    then_exact _ _ (up_to_exact (most_rows v)) (λ names. then_exact _ _ (up_to_exact (most_rows v)) (λ sites. then_exact _ _ (up_to_exact (most_rows v)) (λ maps. then_exact _ _ (up_to_exact (most_rows v)) (λ sets.
    then_exact _ _ (up_to_exact (most_rows v)) (λ routines. then_exact _ _ (up_to_exact (most_rows v)) (λ entries. choice_exact w32 wide32 (λ n. nat_le n (most_instructions v) && (nat_lt 0 routines || (n == 0)))))))))))))
    (λ a fits. refl) (λ b. refl)

pub same_counts : (c : Counts) (p : Parts) → length p.names ≡ c.names → length p.sites ≡ c.sites → length p.maps ≡ c.maps → length p.sets ≡ c.sets → length p.routines ≡ c.routines → length p.entries ≡ c.entries
    → length p.instructions ≡ c.instructions → counts_of c.version p ≡ c
same_counts c p n s m t r e i = rw (n, s, m, t, r, e, i) refl

pub image_exact : IsExact image
unfolding image
image_exact =
    made_exact _ _ _ (then_exact _ _ header_exact (λ c. then_exact _ _ (names_exact c.version c.names) (λ names. then_exact _ _ (times_exact c.sites (site c.version c.names c.routines) (site_exact c.version c.names c.routines)) (λ sites.
    then_exact _ _ (times_exact c.maps (map_format c.version) (map_exact c.version)) (λ maps. then_exact _ _ (sets_exact c.version c.sets) (λ sets. then_exact _ _ (routines_exact c.version c.names c.routines c.instructions) (λ routines.
    then_exact _ _ (times_exact c.entries (entry c.names routines) (entry_exact c.names routines)) (λ entries. times_exact c.instructions (instruction c.version) (instruction_exact c.version)))))))))
    (λ (c, (names, (sites, (maps, (sets, (routines, (entries, instructions))))))) (h, (n, (s, (m, (t, (r, (e, i))))))).
    let p : Parts = record { names = names; sites = sites; maps = maps; sets = sets; routines = routines; entries = entries; instructions = instructions } in
    ap (λ (c : Counts). (c, (names, (sites, (maps, (sets, (routines, (entries, instructions)))))))) (same_counts c p n.0 s.0 m.0 t.0 r.0 e.0 i.0)) (λ b. refl)
