-- Tables that fit together and are within the limits have an image of version 4.
use Rattle.std.proofs.Common.{◌≡◌, ℕ, suc, ◌-◌, ◌^◌, ◌≤◌, ◌<◌, Bool, true, false, ◌&&◌, ◌||◌, not, List, [], ◌∷◌, length, Option, Some, None, refl, sym, ap, ◌∙◌, arith}
use Rattle.std.specs.Prelude.{nat_le, nat_lt, ◌==◌, slice_get}
use Rattle.std.specs.Int.{w32}
use Rattle.std.specs.Str.{bytes_eq}
use Rattle.std.proofs.lemmas.Bool.{le-leb, lt-ltb}
use Rattle.std.proofs.lemmas.Bool.Decides.{Decides-eqb}
use Rattle.std.proofs.lemmas.List.Folds.{list_any-append}
use Rattle.std.proofs.lemmas.Slice.Eq.{bytes_eq-Decides}
use Rattle.td_image.specs.Imports.{Width, One, Two, Four, Eight, NameId, Param, Cell, CellKind, Number, Pointer, Instr, Parts, Site, Routine, EntryPoint, Fields}
use Rattle.td_num.specs.Lists.{Each, AreApart}
use Rattle.td_names.specs.Names.{is_seen, with_name}
use Rattle.td_ir.specs.declared.instructions.Instr.TheVariants as i
use Rattle.td_ir.specs.Tables.{site_of, entry_of, param_of, cell_of, buffer_of}
use Rattle.td_ir.specs.WellFormed.{IsName, IsField, IsSite, IsRoutine, IsCellNamed, IsEntry, Rises, IsCode}
use Rattle.td_image.specs.declared.routines.Room.{Room}
use Rattle.td_image.specs.declared.limits.TheConstants.{MOST_ROWS, MOST_INSTRUCTIONS, MOST_CELLS, MOST_BUFFERS, MOST_ROOM, MOST_MAPPED, MOST_NUMBERS, MOST_PARAMETERS, MOST_REGISTERS, NO_FIELD}
use Rattle.td_image.specs.Format.{Format, number, all_fit}
use Rattle.td_ir.specs.declared.opcodes.OperandField.TheVariants as field
use Rattle.td_ir.specs.Opcodes.{has}
use Rattle.td_ir.specs.Fields.{fields_of}
use Rattle.td_image.specs.Names.{is_image_name}
use Rattle.td_image.specs.declared.version.ImageVersion.TheVariants.{Third, Fourth}
use Rattle.td_image.specs.Image as format
use Rattle.td_image.specs.Within.{IsSpelled, IsSmallMap, total, IsRoom, IsSmallRoutine, HasSmallOperands, IsWithinFormat}
use Rattle.td_image.proofs.Fitting.{FitsAs, sum_of, begin_whole}
use Rattle.td_num.proofs.Truths.{or_right, or_left, false_by}
use Rattle.td_num.proofs.Lists.{each_by as each_at, each_map}

-- ---- truth values

and_both : (a b : Bool) → a ≡ true → b ≡ true → (a && b) ≡ true
and_both true b e f = f
and_both false b e f = absurd cc

not_equal : (a b : ℕ) → (a ≡ b → ⊥) → (a == b) ≡ false
not_equal a b never = false_by (a == b) (λ e. never ((Decides-eqb a b).0 e))

is_equal : (a b : ℕ) → a ≡ b → (a == b) ≡ true
is_equal a b e = (Decides-eqb a b).1 e

-- ---- all of a list

pub each_fits : {A : Type 0} (g : Format A) (xs : List A) → Each g.Fits xs → all_fit (λ (s : Unit {0}). g) (λ s x. s) tt xs
unfolding all_fit
each_fits g [] fits = tt
each_fits g (x ∷ xs) fits = (fits.0, each_fits g xs fits.1)

-- ---- names

some_bytes : (name : List ℕ) → is_image_name Third name ≡ true → 1 ≤ length name
some_bytes [] e = absurd cc
some_bytes (b ∷ bs) e = omega arith

name_fits : (seen : List (List ℕ)) (name : List ℕ) → IsSpelled name → is_seen seen name ≡ false → (format.name Fourth seen).Fits name
unfolding format.name
name_fits seen name spelled unseen =
    let some : nat_le 1 (length name) ≡ true = le-leb 1 (length name) (some_bytes name spelled.word) in
    let few : length name < 2 ^ 32 = spelled.few in
    let allowed : (is_image_name Third name && not (is_seen seen name)) ≡ true = and_both (is_image_name Third name) (not (is_seen seen name)) spelled.word (ap not unseen) in
    ((few, some), ((refl, spelled.bytes), allowed))

unseen_after : (seen : List (List ℕ)) (x y : List ℕ) → is_seen seen x ≡ false → is_seen seen y ≡ false → (y ≡ x → ⊥) → is_seen (with_name seen x) y ≡ false
unseen_after seen x y ex ey never =
    let apart : bytes_eq y x ≡ false = false_by (bytes_eq y x) (λ e. never ((bytes_eq-Decides y x).0 e)) in
    rw ex (list_any-append (bytes_eq y) seen (x ∷ []) ∙ rw (ey, apart) refl)

names_fit : (seen xs : List (List ℕ)) → Each IsSpelled xs → ((k : ℕ) (name : List ℕ) → slice_get xs k ≡ Some name → is_seen seen name ≡ false) → AreApart xs → all_fit (format.name Fourth) with_name seen xs
unfolding all_fit
names_fit seen [] spelled unseen apart = tt
names_fit seen (x ∷ xs) spelled unseen apart =
    let here : is_seen seen x ≡ false = unseen 0 x refl in (
      name_fits seen x spelled.0 here,
      names_fit (with_name seen x) xs spelled.1
          (λ k name e. unseen_after seen x name here (unseen (suc k) name e) (λ same. let h = apart (suc k) 0 name e (ap (λ (n : List ℕ). Some n) (sym same)) in absurd (omega (arith, h))))
          (λ j k name e f. let h = apart (suc j) (suc k) name e f in omega (arith, h)),
    )

-- ---- places, sites, cell maps

place_fits : (names n : ℕ) → names ≤ MOST_ROWS → n < names → (format.place names).Fits n
place_fits names n few lt = (omega (arith, few, lt), lt-ltb n names lt)

pub site_fits : (names routines : ℕ) (s : Site) → names ≤ MOST_ROWS → routines ≤ MOST_ROWS → IsSite names routines s → (format.site Fourth names routines).Fits s
unfolding format.site
site_fits names routines s few more named =
    (place_fits names s.ty.number few named.ty_named, (place_fits names s.field.number few named.field_named, place_fits routines s.routine more named.of_routine))

pub most_fits : (n most : ℕ) → n ≤ most → most < 2 ^ 32 → (format.up_to most).Fits n
most_fits n most le few = (omega (arith, le, few), le-leb n most le)

map_fits : (mapped : List ℕ) → IsSmallMap mapped → (format.map_format Fourth).Fits mapped
unfolding format.map_format
map_fits mapped small = (most_fits (length mapped) MOST_MAPPED small.few (omega arith), (refl, each_fits (number w32) mapped small.numbers))

-- ---- sets

abbrev some_is : ℕ → Option ℕ
some_is n = Some n

next_rises : (x y z : ℕ) → x < y → some_is y ≡ some_is z → nat_lt x z ≡ true
next_rises x y z lt e = let same : y ≡ z = cc in lt-ltb x z (omega (arith, lt, same))

elements_fit : (last : Option ℕ) (xs : List ℕ) → Each (λ n. n < 2 ^ 64) xs → ((x : ℕ) → slice_get xs 0 ≡ Some x → format.rises last x ≡ true) → Rises xs → all_fit format.element (λ s x. Some x) last xs
unfolding all_fit
elements_fit last [] small starts rises = tt
elements_fit last (x ∷ []) small starts rises = ((small.0, starts x refl), tt)
elements_fit last (x ∷ y ∷ xs) small starts rises =
    let next : x < y = rises 0 (omega arith) in
    ((small.0, starts x refl), elements_fit (Some x) (y ∷ xs) small.1 (λ z e. next_rises x y z next e) (λ j lt. rises (suc j) (omega (arith, lt))))

sets_fit : (left : ℕ) (xss : List (List ℕ)) → left < 2 ^ 32 → total xss ≤ left → Each (Each (λ n. n < 2 ^ 64)) xss → Each Rises xss → all_fit format.set (λ left x. left - length x) left xss
unfolding all_fit format.set
sets_fit left [] few le small rises = tt
sets_fit left (xs ∷ xss) few le small rises = (
  (most_fits (length xs) left (omega (arith, le)) few, (refl, elements_fit None xs small.0 (λ x e. refl) rises.0)),
  sets_fit (left - length xs) xss (omega (arith, few)) (omega (arith, le)) small.1 rises.1,
)

-- ---- routines

is_last : (room : Room) (r : Routine) (rs : List Routine) → room.more ≡ suc (length rs) → sum_of (r ∷ rs) ≡ room.left → (not (room.more == 1) || (r.length == room.left)) ≡ true
is_last room r [] more sum = or_right (not (room.more == 1)) (r.length == room.left) (is_equal r.length room.left (omega (arith, sum)))
is_last room r (x ∷ rs) more sum =
    let further : (room.more == 1) ≡ false = not_equal room.more 1 (λ one. omega (arith, more, one)) in
    or_left (not (room.more == 1)) (r.length == room.left) (ap not further)

is_length : (room : Room) (r : Routine) (rs : List Routine) → room.more ≡ suc (length rs) → sum_of (r ∷ rs) ≡ room.left → 1 ≤ r.length → format.is_length room r.length ≡ true
is_length room r rs more sum some =
    let least : nat_le 1 r.length ≡ true = le-leb 1 r.length some in
    let most : nat_le r.length room.left ≡ true = le-leb r.length room.left (omega (arith, sum)) in
    and_both (nat_le 1 r.length && nat_le r.length room.left) (not (room.more == 1) || (r.length == room.left)) (and_both (nat_le 1 r.length) (nat_le r.length room.left) least most) (is_last room r rs more sum)

room_fits : (n : ℕ) → IsRoom n → format.buffer_room.Fits n
room_fits n h = (omega (arith, h.1), and_both (nat_le 1 n) (nat_le n MOST_ROOM) (le-leb 1 n h.0) (le-leb n MOST_ROOM h.1))

buffers_fit : (r : Routine) → IsSmallRoutine r → (format.buffers Fourth).Fits r.buffers
unfolding format.rooms
buffers_fit r s = (most_fits (length r.buffers) MOST_BUFFERS s.buffers (omega arith), (refl, each_fits format.buffer_room r.buffers (each_map IsRoom format.buffer_room.Fits r.buffers room_fits s.rooms)))

routines_fit : (names : ℕ) (room : Room) (rs : List Routine) → names ≤ MOST_ROWS → room.more ≡ length rs → sum_of rs ≡ room.left → room.left < 2 ^ 32 → Each (IsRoutine names) rs → Each IsSmallRoutine rs → all_fit (format.routine Fourth names) format.after_routine room rs
unfolding all_fit format.routine
routines_fit names room [] few more sum left named small = tt
routines_fit names room (r ∷ rs) few more sum left named small =
    let n = named.0 in
    let s = small.0 in
    let length_fits = is_length room r rs more sum n.some in
    let least : nat_le r.params r.registers ≡ true = le-leb r.params r.registers n.room in
    let most : nat_le r.registers MOST_REGISTERS ≡ true = le-leb r.registers MOST_REGISTERS s.registers in (
      (
        place_fits names r.name.number few n.named,
        (
          most_fits r.params MOST_PARAMETERS s.params (omega arith),
          (
            most_fits r.cells MOST_CELLS s.cells (omega arith),
            ((omega (arith, s.registers), and_both (nat_le r.params r.registers) (nat_le r.registers MOST_REGISTERS) least most), ((omega (arith, sum, left), length_fits), buffers_fit r s)),
          ),
        ),
      ),
      routines_fit names (format.after_routine room r) rs few (omega (arith, more)) (omega (arith, sum)) (omega (arith, left)) named.1 small.1,
    )

-- ---- entry points

width_fits : (w : Width) → format.width.Fits w
width_fits One = (omega arith, refl)
width_fits Two = (omega arith, refl)
width_fits Four = (omega arith, refl)
width_fits Eight = (omega arith, refl)

param_fits : (names : ℕ) (p : Param) → names ≤ MOST_ROWS → IsName names p.name → (format.param names).Fits p
unfolding format.param
param_fits names p few named = (place_fits names p.name.number few named, width_fits p.width)

field_fits : (names : ℕ) (field : Option NameId) → names ≤ MOST_ROWS → IsField names field → (format.cell_field names).Fits field
field_fits names None few named = ((omega arith, or_right (nat_lt NO_FIELD names) (NO_FIELD == NO_FIELD) refl), refl)
field_fits names (Some name) few named =
    let lt : name.number < names = named in
    let other : (name.number == NO_FIELD) ≡ false = not_equal name.number NO_FIELD (λ e. omega (arith, few, lt, e)) in
    ((omega (arith, few, lt), or_left (nat_lt name.number names) (name.number == NO_FIELD) (lt-ltb name.number names lt)), rw other refl)

kind_fits : (k : CellKind) → format.cell_kind.Fits k
kind_fits Pointer = (omega arith, refl)
kind_fits (Number One) = (omega arith, refl)
kind_fits (Number Two) = (omega arith, refl)
kind_fits (Number Four) = (omega arith, refl)
kind_fits (Number Eight) = (omega arith, refl)

cell_fits : (names : ℕ) (c : Cell) → names ≤ MOST_ROWS → IsCellNamed names c → (format.cell names).Fits c
unfolding format.cell
cell_fits names c few named = (place_fits names c.name.number few named.named, (field_fits names c.field few named.field_named, kind_fits c.kind))

buffer_fits : (names : ℕ) (name : NameId) → names ≤ MOST_ROWS → IsName names name → (format.name_place names).Fits name
buffer_fits names name few named = place_fits names name.number few named

entry_fits : (c : Parts) (e : EntryPoint) → length c.names ≤ MOST_ROWS → length c.routines ≤ MOST_ROWS → IsEntry c e → (format.entry (length c.names) c.routines).Fits e
unfolding format.entry
entry_fits c e names routines fits =
    let ns = length c.names in (
      place_fits (length c.routines) e.routine routines fits.there,
      (
        (fits.param_count, each_fits (format.param ns) e.params (each_at (format.param ns).Fits e.params _ (λ k lt. param_fits ns (param_of e.params k) names (fits.params_named k lt)))),
        (
          (fits.cell_count, each_fits (format.cell ns) e.cells (each_at (format.cell ns).Fits e.cells _ (λ k lt. cell_fits ns (cell_of e.cells k) names (fits.cells_named k lt)))),
          (fits.buffer_count, each_fits (format.name_place ns) e.buffers (each_at (format.name_place ns).Fits e.buffers _ (λ k lt. buffer_fits ns (buffer_of e.buffers k) names (fits.buffers_named k lt)))),
        ),
      ),
    )

-- ---- instructions

-- an operand that a kind hasn't is zero
abbrev IsUsed : Bool → ℕ → Type 0
IsUsed used n = (used || (n == 0)) ≡ true

abbrev AreUsed : Fields → Type 0
AreUsed f =
    IsUsed (has f.number field.X) f.x × IsUsed (has f.number field.A) f.a × IsUsed (has f.number field.B) f.b × IsUsed (has f.number field.C) f.c × IsUsed (has f.number field.T) f.t × IsUsed (has f.number field.Site) f.site
    × IsUsed (has f.number field.K) f.k

unused : (j : Instr) → AreUsed (fields_of j)
unused (i.Const into value) = (refl, refl, refl, refl, refl, refl, refl)
unused (i.Member into source set) = (refl, refl, refl, refl, refl, refl, refl)
unused (i.Op into operator left right) = (refl, refl, refl, refl, refl, refl, refl)
unused (i.Bits into source low count) = (refl, refl, refl, refl, refl, refl, refl)
unused (i.Pos into) = (refl, refl, refl, refl, refl, refl, refl)
unused (i.Jump target) = (refl, refl, refl, refl, refl, refl, refl)
unused (i.JumpIf test target) = (refl, refl, refl, refl, refl, refl, refl)
unused (i.JumpUnless test target) = (refl, refl, refl, refl, refl, refl, refl)
unused (i.Call first routine map site) = (refl, refl, refl, refl, refl, refl, refl)
unused i.Return = (refl, refl, refl, refl, refl, refl, refl)
unused (i.Fetch into order width site) = (refl, refl, refl, refl, refl, refl, refl)
unused (i.SkipK bytes site) = (refl, refl, refl, refl, refl, refl, refl)
unused (i.Skip size site) = (refl, refl, refl, refl, refl, refl, refl)
unused i.Rest = (refl, refl, refl, refl, refl, refl, refl)
unused (i.Zeros site) = (refl, refl, refl, refl, refl, refl, refl)
unused (i.Zeroterm bound width site) = (refl, refl, refl, refl, refl, refl, refl)
unused (i.NarrowK bytes site) = (refl, refl, refl, refl, refl, refl, refl)
unused (i.Narrow size site) = (refl, refl, refl, refl, refl, refl, refl)
unused (i.Divides size step site) = (refl, refl, refl, refl, refl, refl, refl)
unused (i.While target) = (refl, refl, refl, refl, refl, refl, refl)
unused (i.Again target) = (refl, refl, refl, refl, refl, refl, refl)
unused (i.Widen site) = (refl, refl, refl, refl, refl, refl, refl)
unused (i.Fail reason site) = (refl, refl, refl, refl, refl, refl, refl)
unused (i.Get into cell) = (refl, refl, refl, refl, refl, refl, refl)
unused (i.Set source cell) = (refl, refl, refl, refl, refl, refl, refl)
unused i.Mark = (refl, refl, refl, refl, refl, refl, refl)
unused (i.Copy size buffer site) = (refl, refl, refl, refl, refl, refl, refl)
unused (i.Left into) = (refl, refl, refl, refl, refl, refl, refl)

known : (j : Instr) → (format.kind Fourth).Fits (fields_of j).number
known (i.Const into value) = (omega arith, refl)
known (i.Member into source set) = (omega arith, refl)
known (i.Op into operator left right) = (omega arith, refl)
known (i.Bits into source low count) = (omega arith, refl)
known (i.Pos into) = (omega arith, refl)
known (i.Jump target) = (omega arith, refl)
known (i.JumpIf test target) = (omega arith, refl)
known (i.JumpUnless test target) = (omega arith, refl)
known (i.Call first routine map site) = (omega arith, refl)
known i.Return = (omega arith, refl)
known (i.Fetch into order width site) = (omega arith, refl)
known (i.SkipK bytes site) = (omega arith, refl)
known (i.Skip size site) = (omega arith, refl)
known i.Rest = (omega arith, refl)
known (i.Zeros site) = (omega arith, refl)
known (i.Zeroterm bound width site) = (omega arith, refl)
known (i.NarrowK bytes site) = (omega arith, refl)
known (i.Narrow size site) = (omega arith, refl)
known (i.Divides size step site) = (omega arith, refl)
known (i.While target) = (omega arith, refl)
known (i.Again target) = (omega arith, refl)
known (i.Widen site) = (omega arith, refl)
known (i.Fail reason site) = (omega arith, refl)
known (i.Get into cell) = (omega arith, refl)
known (i.Set source cell) = (omega arith, refl)
known i.Mark = (omega arith, refl)
known (i.Copy size buffer site) = (omega arith, refl)
known (i.Left into) = (omega arith, refl)

pub instruction_fits : (j : Instr) → HasSmallOperands (fields_of j) → (format.instruction Fourth).Fits j
unfolding format.fields
instruction_fits j small =
    let u = unused j in
    (known j, ((small.x, u.0), ((small.a, u.1), ((small.b, u.2), ((small.c, u.3), ((small.t, u.4), ((small.site, u.5), (small.k, u.6))))))))

-- ---- all tables

count_allowed : (rs : List Routine) (n : ℕ) → sum_of rs ≡ n → (nat_lt 0 (length rs) || (n == 0)) ≡ true
count_allowed [] n sum = or_right (nat_lt 0 0) (n == 0) (is_equal n 0 (sym sum))
count_allowed (r ∷ rs) n sum = or_left (nat_lt 0 (length (r ∷ rs))) (n == 0) (lt-ltb 0 (length (r ∷ rs)) (omega arith))

rows_fit : (n : ℕ) → n ≤ MOST_ROWS → (format.up_to MOST_ROWS).Fits n
rows_fit n le = most_fits n MOST_ROWS le (omega arith)

header_fits : (p : Parts) → IsCode p → IsWithinFormat p → format.header.Fits (format.counts_of Fourth p)
unfolding format.header
header_fits p code within =
    let sum : sum_of p.routines ≡ length p.instructions = sym (begin_whole p.routines) ∙ code.whole in
    let count : nat_le (length p.instructions) MOST_INSTRUCTIONS ≡ true = le-leb (length p.instructions) MOST_INSTRUCTIONS within.instructions in
    let few : length p.instructions < 2 ^ 32 = omega (arith, within.instructions) in (
      (omega arith, refl),
      (
        (omega arith, refl),
        (
          (omega arith, refl),
          (
            rows_fit _ within.names,
            (
              rows_fit _ within.sites,
              (
                rows_fit _ within.maps,
                (
                  rows_fit _ within.sets,
                  (
                    rows_fit _ within.routines,
                    (
                      rows_fit _ within.entries,
                      (few, and_both (nat_le (length p.instructions) MOST_INSTRUCTIONS) (nat_lt 0 (length p.routines) || (length p.instructions == 0)) count (count_allowed p.routines (length p.instructions) sum)),
                    ),
                  ),
                ),
              ),
            ),
          ),
        ),
      ),
    )

pub within_fits : (p : Parts) → IsCode p → IsWithinFormat p → FitsAs Fourth p
unfolding format.image
within_fits p code within =
    let ns = length p.names in
    let sum : sum_of p.routines ≡ length p.instructions = sym (begin_whole p.routines) ∙ code.whole in
    let few : length p.instructions < 2 ^ 32 = omega (arith, within.instructions) in
    let rs = length p.routines in
    let sites = each_at (format.site Fourth ns rs).Fits p.sites _ (λ k lt. site_fits ns rs (site_of p k) within.names within.routines (code.sites k lt)) in
    let maps = each_map IsSmallMap (format.map_format Fourth).Fits p.maps map_fits within.small_maps in
    let rising = each_at Rises p.sets _ (λ k lt. code.sets k lt) in
    let named = each_at (IsRoutine ns) p.routines _ (λ k lt. code.routines k lt) in
    let entries = each_at (format.entry ns p.routines).Fits p.entries _ (λ k lt. entry_fits p (entry_of p k) within.names within.routines (code.entries k lt)) in
    let instructions = each_map (λ j. HasSmallOperands (fields_of j)) (format.instruction Fourth).Fits p.instructions instruction_fits within.small_operands in (
      header_fits p code within,
      (
        (refl, names_fit [] p.names within.spelled (λ k name e. refl) within.apart),
        (
          (refl, each_fits (format.site Fourth ns rs) p.sites sites),
          (
            (refl, each_fits (format.map_format Fourth) p.maps maps),
            (
              (refl, sets_fit MOST_NUMBERS p.sets (omega arith) within.few_numbers within.numbers rising),
              (
                (refl, routines_fit ns (record { left = length p.instructions; more = length p.routines }) p.routines within.names refl sum few named within.small_routines),
                ((refl, each_fits (format.entry ns p.routines) p.entries entries), (refl, each_fits (format.instruction Fourth) p.instructions instructions)),
              ),
            ),
          ),
        ),
      ),
    )
