-- The module of a tree is formed, and copies as a module may.
use Rattle.std.proofs.Common.{◌≡◌, ◌⊎◌, inl, inr, ℕ, zero, suc, ◌+◌, ◌-◌, ◌<◌, ◌≤◌, Bool, true, false, cond, ◌&&◌, nat_lt, nat_le, List, [], ◌∷◌, ◌++◌, length, map, refl, sym, ap, ◌∙◌, subst, arith, Option, Some, None, slice_get, length-append, append_assoc}
use Rattle.std.proofs.lemmas.List.{length-map}
use Rattle.std.proofs.lemmas.Bool.{leb-true, ltb-true, and_parts}
use Rattle.std.proofs.lemmas.Option.{none-some, same_Some, slice_get_within}
use Rattle.td_num.specs.Lists.{Each}
use Rattle.td_num.proofs.Lists.{each_append}
use Rattle.td_elab_rules.specs.Imports.{NumberType, Width, FieldTree, ParamTree, ItemTree, CaseTree, EnumTree, StructTree, CasetypeTree, Def, Define, Enum, Alias, Struct, Casetype, Output, ModuleTree, ThirtyTwo, Param, CellKind, Cell, Buffer, TypeDef}
use Rattle.td_ast.specs.declared.parameters.ParamTree.TheVariants as param
use Rattle.td_core.specs.declared.module.CellKind.TheVariants as kind
use Rattle.td_core.specs.declared.limits.TheConstants.{MOST_ROOM}
use Rattle.td_core.specs.WellFormed.{OfSome}
use Rattle.td_core.specs.Formed.{Bound, scalar_of, whole, cell_bound, param_bounds, cell_bounds, buffer_bounds, AreCasesFormed, IsDefaultFormed, IsBodyFormed, IsDefinitionFormed, IsModuleFormed}
use Rattle.td_elab_rules.specs.declared.known.CellType.{CellType}
use Rattle.td_elab_rules.specs.declared.known.CellType.TheVariants as cell
use Rattle.td_elab_rules.specs.declared.known.Slot.{Slot}
use Rattle.td_elab_rules.specs.declared.known.Local.TheVariants as local
use Rattle.td_elab_rules.specs.declared.known.Known.{Known}
use Rattle.td_elab_rules.specs.declared.known.Scope.{Scope}
use Rattle.td_elab_rules.specs.declared.parameters.Head.{Head}
use Rattle.td_elab_rules.specs.Known.{nothing_known, slots_at}
use Rattle.td_elab_rules.specs.Enums.{next_value, item_value, with_item, items_after, with_enum_name, after_enum}
use Rattle.td_elab_rules.specs.Parameters.{no_head, plain_width, cell_type, slot_kind, slot_cell, cells_of, kinds_of, cells_local, is_room, room_or_none, buffer_room, unread_head, value_head, cell_head, buffer_head, with_param, head_of}
use Rattle.td_elab_rules.specs.Constants.{constant_value}
use Rattle.td_elab_rules.specs.Casetypes.{cases_core, default_core}
use Rattle.td_elab_rules.specs.Definitions.{struct_head, struct_scope, struct_core, casetype_head, casetype_core, after, known_after}
use Rattle.td_elab_rules.specs.Modules.{names_of, module_of}
use Rattle.td_core.specs.Copies.{IsFieldCopying, IsDefinitionCopying, IsCopying}
use Rattle.td_elab_rules.specs.Laws.{ModulesAreFormed, ModulesAreCopying}
use Rattle.td_elab_rules.proofs.Scopes.{bounds_of, room_bounds, own_of, slot_bound, IsRowThere, IsLocalThere, AreLocalsThere, IsScope, get_more, get_end, value_scope, whole_small, whole_pos, locals_declared, locals_cells, core_scoped, option_scoped}
use Rattle.td_elab_rules.proofs.FieldsFormed.{fields_formed}
use Rattle.td_elab_rules.proofs.Copying.{rooms_of, IsScopeOf, fields_copying}

-- Heads

-- a copy buffer has a room
abbrev IsRoom : Buffer → Type 0
IsRoom b = (0 < b.room) × (b.room ≤ MOST_ROOM)

record IsHead (k : Known) (h : Head) : Type 0 where
  scope : IsScope k (param_bounds h.params) h.scope
  cells : h.scope.cells ≡ kinds_of h.cells
  buffers : h.scope.buffers ≡ rooms_of h.buffers
  rooms : Each IsRoom h.buffers

kinds_append : (xs ys : List Cell) → kinds_of (xs ++ ys) ≡ kinds_of xs ++ kinds_of ys
kinds_append [] ys = refl
kinds_append (x ∷ xs) ys = ap (λ z. x.kind ∷ z) (kinds_append xs ys)

bounds_append : (xs ys : List CellKind) → bounds_of (xs ++ ys) ≡ bounds_of xs ++ bounds_of ys
bounds_append [] ys = refl
bounds_append (x ∷ xs) ys = ap (λ z. cell_bound x ∷ z) (bounds_append xs ys)

params_append : (xs ys : List Param) → param_bounds (xs ++ ys) ≡ param_bounds xs ++ param_bounds ys
params_append [] ys = refl
params_append (x ∷ xs) ys = ap (λ z. whole (scalar_of x.width) ∷ z) (params_append xs ys)

bounds_cells : (cells : List Cell) → bounds_of (kinds_of cells) ≡ cell_bounds cells
bounds_cells [] = refl
bounds_cells (c ∷ cs) = ap (λ z. cell_bound c.kind ∷ z) (bounds_cells cs)

rooms_append : (xs ys : List Buffer) → rooms_of (xs ++ ys) ≡ rooms_of xs ++ rooms_of ys
rooms_append [] ys = refl
rooms_append (x ∷ xs) ys = ap (λ z. x.room ∷ z) (rooms_append xs ys)

bounds_buffers : (buffers : List Buffer) → room_bounds (rooms_of buffers) ≡ buffer_bounds buffers
bounds_buffers [] = refl
bounds_buffers (b ∷ bs) = ap (λ z. whole ThirtyTwo ∷ whole ThirtyTwo ∷ z) (bounds_buffers bs)

slot_kind_bound : (t : Option NumberType) → cell_bound (slot_kind t) ≡ slot_bound t
slot_kind_bound (Some t) = refl
slot_kind_bound None = refl

-- the cells of a record stand one after the other
rows_there : (names : List (List ℕ)) (p : List ℕ) (before : List Bound) (slots : List Slot) → IsRowThere (before ++ bounds_of (kinds_of (map (slot_cell names p) slots))) (length before) slots
rows_there names p before [] = tt
rows_there names p before (x ∷ xs) =
    let b = cell_bound (slot_kind x.number) in
    let rest = bounds_of (kinds_of (map (slot_cell names p) xs)) in
    let count : length (before ++ b ∷ []) ≡ length before + 1 = length-append before (b ∷ []) in
    let later : IsRowThere ((before ++ b ∷ []) ++ rest) (length before + 1) xs = subst (λ c. IsRowThere ((before ++ b ∷ []) ++ rest) c xs) count (rows_there names p (before ++ b ∷ []) xs) in
    let same : (before ++ b ∷ []) ++ rest ≡ before ++ b ∷ rest = append_assoc before (b ∷ []) rest in
    let here : slice_get (before ++ b ∷ rest) (length before) ≡ Some b = subst (λ z. slice_get z (length before) ≡ Some b) same (get_more (before ++ b ∷ []) rest (length before) b (get_end before b)) in
    (here ∙ ap Some (slot_kind_bound x.number), subst (λ z. IsRowThere z (length before + 1) xs) same later)

cells_there : (names : List (List ℕ)) (k : Known) (x : List ℕ) (before bounds : List Bound) (t : CellType) → IsLocalThere k bounds (before ++ bounds_of (kinds_of (cells_of names k x t))) (cells_local (length before) t)
cells_there names k x before bounds (cell.Number t) = get_end before (whole (scalar_of t.width))
cells_there names k x before bounds cell.Pointer = get_end before (whole ThirtyTwo)
cells_there names k x before bounds (cell.Record r) = rows_there names x before (slots_at k r)

unread_there : (k : Known) (h : Head) (x : List ℕ) → IsHead k h → IsHead k (unread_head h x)
unread_there k h x g = record {
  scope = record { locals = locals_declared k (param_bounds h.params) (bounds_of h.scope.cells) h.scope.locals x local.Unreadable g.scope.locals tt; start = g.scope.start; levels = g.scope.levels };
  cells = g.cells;
  buffers = g.buffers;
  rooms = g.rooms;
}

value_there : (names : List (List ℕ)) (k : Known) (h : Head) (x : List ℕ) (o : Option Width) → IsHead k h → IsHead k (value_head names h x o)
value_there names k h x None g = unread_there k h x g
value_there names k h x (Some w) g =
    let b = whole (scalar_of w) in
    let ok = value_scope k (param_bounds h.params) h.scope x b g.scope (whole_small (scalar_of w)) (whole_pos (scalar_of w)) in
    record {
      scope = subst (λ z. IsScope k z (value_head names h x (Some w)).scope) (sym (params_append h.params (record { name = _; width = w } ∷ []))) ok;
      cells = g.cells;
      buffers = g.buffers;
      rooms = g.rooms;
    }

cell_there : (names : List (List ℕ)) (k : Known) (h : Head) (x : List ℕ) (o : Option CellType) → IsHead k h → IsHead k (cell_head names k h x o)
cell_there names k h x None g = unread_there k h x g
cell_there names k h x (Some t) g =
    let more = kinds_of (cells_of names k x t) in
    let before = bounds_of h.scope.cells in
    let bounds = param_bounds h.params in
    let both : bounds_of (h.scope.cells ++ more) ≡ before ++ bounds_of more = bounds_append h.scope.cells more in
    let count : length before ≡ length h.cells = length-map h.scope.cells cell_bound ∙ ap length g.cells ∙ length-map h.cells (λ c. c.kind) in
    let own : IsLocalThere k bounds (before ++ bounds_of more) (cells_local (length h.cells) t) = subst (λ c. IsLocalThere k bounds (before ++ bounds_of more) (cells_local c t)) count (cells_there names k x before bounds t) in
    record {
      scope = record {
        locals =
            subst (λ z. AreLocalsThere k bounds z (cell_head names k h x (Some t)).scope.locals) (sym both)
            (locals_declared k bounds (before ++ bounds_of more) h.scope.locals x (cells_local (length h.cells) t) (locals_cells k bounds before (bounds_of more) h.scope.locals g.scope.locals) own);
        start = g.scope.start;
        levels = g.scope.levels;
      };
      cells = ap (λ z. z ++ more) g.cells ∙ sym (kinds_append h.cells (cells_of names k x t));
      buffers = g.buffers;
      rooms = g.rooms;
    }

room_is : (o : Option ℕ) (room : ℕ) → room_or_none o ≡ Some room → (0 < room) × (room ≤ MOST_ROOM)
room_is None room e = absurd (none-some room e)
room_is (Some n) room e = by (is_room n) refl e
  where
    by : (b : Bool) → is_room n ≡ b → cond b (Some n) None ≡ Some room → (0 < room) × (room ≤ MOST_ROOM)
    by false f e = absurd (none-some room e)
    by true f e =
        let u = and_parts (nat_lt 0 n) (nat_le n MOST_ROOM) f in
        subst (λ m. (0 < m) × (m ≤ MOST_ROOM)) (same_Some n room e) (ltb-true 0 n u.0, leb-true n MOST_ROOM u.1)

buffer_there : (names : List (List ℕ)) (k : Known) (h : Head) (x : List ℕ) (o : Option ℕ) → ((room : ℕ) → o ≡ Some room → (0 < room) × (room ≤ MOST_ROOM)) → IsHead k h → IsHead k (buffer_head names h x o)
buffer_there names k h x None r g = unread_there k h x g
buffer_there names k h x (Some room) r g = record {
  scope = record { locals = locals_declared k (param_bounds h.params) (bounds_of h.scope.cells) h.scope.locals x (local.Buffer (length h.buffers)) g.scope.locals tt; start = g.scope.start; levels = g.scope.levels };
  cells = g.cells;
  buffers = ap (λ z. z ++ room ∷ []) g.buffers ∙ sym (rooms_append h.buffers (record { name = _; room = room } ∷ []));
  rooms = each_append IsRoom h.buffers (record { name = _; room = room } ∷ []) g.rooms (r room refl, tt);
}

head_there : (names : List (List ℕ)) (k : Known) (h : Head) (ps : List ParamTree) → IsHead k h → IsHead k (head_of names k h ps)
head_there names k h [] g = g
head_there names k h (param.Value t n ∷ ps) g = head_there names k (with_param names k h (param.Value t n)) ps (value_there names k h n.text (plain_width k h.scope t) g)
head_there names k h (param.Mutable t n ∷ ps) g = head_there names k (with_param names k h (param.Mutable t n)) ps (cell_there names k h n.text (cell_type k h.scope t) g)
head_there names k h (param.Bytes n room ∷ ps) g =
    head_there names k (with_param names k h (param.Bytes n room)) ps
    (buffer_there names k h n.text (buffer_room k h.scope room) (room_is (constant_value k h.scope room)) g)

first_there : (k : Known) → IsHead k no_head
first_there k = record { scope = record { locals = tt; start = tt; levels = refl }; cells = refl; buffers = refl; rooms = tt }

-- Definitions

-- definition n of the list is formed, and copies as it may
abbrev IsThere : List TypeDef → ℕ → TypeDef → Type 0
IsThere all n d = IsDefinitionFormed all n d × IsDefinitionCopying all d

module _ (all : List TypeDef) (k : Known) (same : (j : ℕ) (d : TypeDef) → slice_get k.definitions j ≡ Some d → slice_get all j ≡ Some d) (names : List (List ℕ)) where
  cases_formed : (bounds : List Bound) (s : Scope) (cs : List CaseTree) → IsScope k bounds s → AreCasesFormed all (length k.definitions) (own_of s) bounds (cases_core names k s cs)
  cases_formed bounds s [] h = tt
  cases_formed bounds s (c ∷ cs) h = (fields_formed all k same names bounds s c.fields h, cases_formed bounds s cs h)

  default_formed : (bounds : List Bound) (s : Scope) (d : Option (List FieldTree)) → IsScope k bounds s → IsDefaultFormed all (length k.definitions) (own_of s) bounds (default_core names k s d)
  default_formed bounds s None h = tt
  default_formed bounds s (Some fs) h = fields_formed all k same names bounds s fs h

  cases_copying : (d : TypeDef) (bounds : List Bound) (s : Scope) (cs : List CaseTree) → IsScope k bounds s → IsScopeOf d s → Each (λ c. Each (IsFieldCopying all d) c.fields) (cases_core names k s cs)
  cases_copying d bounds s [] h o = tt
  cases_copying d bounds s (c ∷ cs) h o = (fields_copying all k same d names bounds s c.fields h o, cases_copying d bounds s cs h o)

  default_copying : (d : TypeDef) (bounds : List Bound) (s : Scope) (x : Option (List FieldTree)) → IsScope k bounds s → IsScopeOf d s → OfSome (Each (IsFieldCopying all d)) (default_core names k s x)
  default_copying d bounds s None h o = tt
  default_copying d bounds s (Some fs) h o = fields_copying all k same d names bounds s fs h o

  own_same : (h : Head) → IsHead k h → own_of h.scope ≡ cell_bounds h.cells ++ buffer_bounds h.buffers
  own_same h g =
      (λ i. bounds_of (g.cells i) ++ room_bounds (g.buffers i)) ∙ (λ i. bounds_cells h.cells i ++ bounds_buffers h.buffers i)

  cells_same : (h : Head) → IsHead k h → length h.scope.cells ≡ length h.cells
  cells_same h g = ap length g.cells ∙ length-map h.cells (λ c. c.kind)

  struct_there : (d : StructTree) → IsThere all (length k.definitions) (struct_core names k d)
  struct_there d =
      let h = struct_head names k d in
      let g = head_there names k no_head d.head.params (first_there k) in
      let s = struct_scope k h.scope d.fields in
      let bounds = param_bounds h.params in
      let ok : IsScope k bounds s = record { locals = g.scope.locals; start = g.scope.start; levels = g.scope.levels } in
      let own : IsScopeOf (struct_core names k d) s = record { cells = cells_same h g; buffers = g.buffers } in (
        (
          option_scoped k bounds s d.head.condition ok,
          subst (λ c. IsBodyFormed all (length k.definitions) c bounds (struct_core names k d).body) (own_same h g) (fields_formed all k same names bounds s d.fields ok),
        ),
        record { rooms = g.rooms; fields = fields_copying all k same (struct_core names k d) names bounds s d.fields ok own },
      )

  casetype_there : (d : CasetypeTree) → IsThere all (length k.definitions) (casetype_core names k d)
  casetype_there d =
      let h = casetype_head names k d in
      let g = head_there names k no_head d.head.params (first_there k) in
      let bounds = param_bounds h.params in
      let own : IsScopeOf (casetype_core names k d) h.scope = record { cells = cells_same h g; buffers = g.buffers } in (
        (
          option_scoped k bounds h.scope d.head.condition g.scope,
          subst (λ c. IsBodyFormed all (length k.definitions) c bounds (casetype_core names k d).body) (own_same h g)
              (core_scoped k bounds h.scope d.subject g.scope, (cases_formed bounds h.scope d.cases g.scope, default_formed bounds h.scope d.default g.scope)),
        ),
        record {
          rooms = g.rooms;
          fields = (
            cases_copying (casetype_core names k d) bounds h.scope d.cases g.scope own,
            default_copying (casetype_core names k d) bounds h.scope d.default g.scope own,
          );
        },
      )

equal_or_less : (m n : ℕ) → m ≤ n → (m ≡ n) ⊎ (m < n)
equal_or_less zero zero le = inl refl
equal_or_less zero (suc n) le = inr (omega arith)
equal_or_less (suc m) zero le = absurd (omega (arith, le))
equal_or_less (suc m) (suc n) le = elim (equal_or_less m n (omega (arith, le))) [ inl e ↦ inl (ap suc e) | inr h ↦ inr (omega (arith, h)) ]

-- items leave the structs and casetypes as they are
items_keep : (k : Known) (next : Option ℕ) (is : List ItemTree) → (items_after k next is).definitions ≡ k.definitions
items_keep k next [] = refl
items_keep k next (i ∷ is) = items_keep (with_item k next i) (next_value (item_value k next i)) is

enum_keeps : (k : Known) (d : EnumTree) → (after_enum k d).definitions ≡ k.definitions
enum_keeps k d = items_keep (with_enum_name k d) (Some 0) d.items

-- what stands there stays
after_keeps : (names : List (List ℕ)) (k : Known) (d : Def) (j : ℕ) (x : TypeDef) → slice_get k.definitions j ≡ Some x → slice_get (after names k d).definitions j ≡ Some x
after_keeps names k (Define d) j x e = e
after_keeps names k (Enum d) j x e = subst (λ ds. slice_get ds j ≡ Some x) (sym (enum_keeps k d)) e
after_keeps names k (Alias d) j x e = e
after_keeps names k (Struct d) j x e = get_more k.definitions (struct_core names k d ∷ []) j x e
after_keeps names k (Casetype d) j x e = get_more k.definitions (casetype_core names k d ∷ []) j x e
after_keeps names k (Output d) j x e = e

keeps : (names : List (List ℕ)) (k : Known) (ds : List Def) (j : ℕ) (x : TypeDef) → slice_get k.definitions j ≡ Some x → slice_get (known_after names k ds).definitions j ≡ Some x
keeps names k [] j x e = e
keeps names k (d ∷ ds) j x e = keeps names (after names k d) ds j x (after_keeps names k d j x e)

-- a struct or casetype, and what comes after it
step : (names : List (List ℕ)) (k : Known) (d : Def) (own : TypeDef) (ds : List Def) (n : ℕ) (x : TypeDef) → (after names k d).definitions ≡ k.definitions ++ own ∷ []
    → IsThere (known_after names k (d ∷ ds)).definitions (length k.definitions) own
    → length k.definitions ≤ n → slice_get (known_after names k (d ∷ ds)).definitions n ≡ Some x
    → (length (k.definitions ++ own ∷ []) ≤ n → IsThere (known_after names k (d ∷ ds)).definitions n x)
    → IsThere (known_after names k (d ∷ ds)).definitions n x
step names k d own ds n x is formed le e later =
    let final = (known_after names k (d ∷ ds)).definitions in
    let here : slice_get (after names k d).definitions (length k.definitions) ≡ Some own = subst (λ z. slice_get z (length k.definitions) ≡ Some own) (sym is) (get_end k.definitions own) in
    let there : slice_get final (length k.definitions) ≡ Some own = keeps names (after names k d) ds (length k.definitions) own here in
    let count : length (k.definitions ++ own ∷ []) ≡ length k.definitions + 1 = length-append k.definitions (own ∷ []) in
    elim (equal_or_less (length k.definitions) n le) [
      | inl p ↦
          let it : own ≡ x = same_Some own x (sym there ∙ ap (slice_get final) p ∙ e) in
          subst (λ y. IsThere final n y) it (subst (λ i. IsThere final i own) p formed)
      | inr p ↦ later (omega (arith, p, count))
    ]

all_there : (names : List (List ℕ)) (k : Known) (ds : List Def) (n : ℕ) (x : TypeDef) → length k.definitions ≤ n → slice_get (known_after names k ds).definitions n ≡ Some x
    → IsThere (known_after names k ds).definitions n x
all_there names k [] n x le e = let within = slice_get_within k.definitions n x e in absurd (omega (arith, le, within))
all_there names k (Define d ∷ ds) n x le e = all_there names (after names k (Define d)) ds n x le e
all_there names k (Enum d ∷ ds) n x le e = all_there names (after names k (Enum d)) ds n x (subst (λ z. length z ≤ n) (sym (enum_keeps k d)) le) e
all_there names k (Alias d ∷ ds) n x le e = all_there names (after names k (Alias d)) ds n x le e
all_there names k (Output d ∷ ds) n x le e = all_there names (after names k (Output d)) ds n x le e
all_there names k (Struct d ∷ ds) n x le e =
    step names k (Struct d) (struct_core names k d) ds n x refl
    (struct_there (known_after names k (Struct d ∷ ds)).definitions k (λ j y h. keeps names k (Struct d ∷ ds) j y h) names d)
    le e (λ less. all_there names (after names k (Struct d)) ds n x less e)
all_there names k (Casetype d ∷ ds) n x le e =
    step names k (Casetype d) (casetype_core names k d) ds n x refl
    (casetype_there (known_after names k (Casetype d ∷ ds)).definitions k (λ j y h. keeps names k (Casetype d ∷ ds) j y h) names d)
    le e (λ less. all_there names (after names k (Casetype d)) ds n x less e)

module_there : (t : ModuleTree) (n : ℕ) (d : TypeDef) → slice_get (module_of t).definitions n ≡ Some d → IsThere (module_of t).definitions n d
module_there t n d e = all_there (names_of t) nothing_known t.definitions n d (omega arith) e

pub module_formed : (t : ModuleTree) → IsModuleFormed (module_of t)
module_formed t n d e = (module_there t n d e).0

pub modules_are_formed : ModulesAreFormed
modules_are_formed t m s = subst IsModuleFormed (sym s.1) (module_formed t)

each_there : {A : Type 0} (P : A → Type 0) (xs : List A) → ((n : ℕ) (x : A) → slice_get xs n ≡ Some x → P x) → Each P xs
each_there P [] h = tt
each_there P (x ∷ xs) h = (h zero x refl, each_there P xs (λ n y e. h (suc n) y e))

pub module_copying : (t : ModuleTree) → IsCopying (module_of t)
module_copying t = each_there (IsDefinitionCopying (module_of t).definitions) (module_of t).definitions (λ n d e. (module_there t n d e).1)

pub modules_are_copying : ModulesAreCopying
modules_are_copying t m s = subst IsCopying (sym s.1) (module_copying t)
