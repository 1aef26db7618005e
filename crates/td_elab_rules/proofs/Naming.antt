-- Each name of a tree's module has its bytes, and no two have the same. Cited by other crates.
use Rattle.std.proofs.Common.{◌≡◌, ℕ, zero, suc, ◌+◌, Bool, true, false, ◌||◌, if◌then◌else◌, List, [], ◌∷◌, ◌++◌, length, map, refl, sym, ap, ◌∙◌, subst, Option, Some, None, slice_get}
use Rattle.std.proofs.lemmas.Bool.{false≢true}
use Rattle.std.proofs.lemmas.Slice.Eq.{bytes_eq-Decides}
use Rattle.std.proofs.lemmas.List.Folds.{list_any-append}
use Rattle.std.proofs.lemmas.Option.{none-some, same_Some}
use Rattle.std.specs.Str.{bytes_eq}
use Rattle.td_num.specs.Lists.{Each}
use Rattle.td_elab_rules.specs.Imports.{FieldTree, ParamTree, ItemTree, SlotTree, CaseTree, StructTree, CasetypeTree, Def, Define, Enum, Alias, Struct, Casetype, Output, ModuleTree, Cell, Part}
use Rattle.td_ast.specs.declared.parameters.ParamTree.TheVariants as param
use Rattle.td_core.specs.WellFormed.{OfSome, IsNameThere, IsDefinitionNamed}
use Rattle.td_names.specs.Names.{is_seen, with_name, number_of}
use Rattle.td_names.proofs.Naming.{number_below}
use Rattle.td_elab_rules.specs.declared.fields.FlatField.{FlatField}
use Rattle.td_elab_rules.specs.declared.known.CellType.{CellType}
use Rattle.td_elab_rules.specs.declared.known.CellType.TheVariants as cell
use Rattle.td_elab_rules.specs.declared.known.Slot.{Slot}
use Rattle.td_elab_rules.specs.declared.known.Known.{Known}
use Rattle.td_elab_rules.specs.declared.known.Scope.{Scope}
use Rattle.td_elab_rules.specs.declared.parameters.Head.{Head}
use Rattle.td_elab_rules.specs.Known.{nothing_known, slots_at}
use Rattle.td_elab_rules.specs.Fields.{with_field, flats_of, fields_core}
use Rattle.td_elab_rules.specs.Enums.{next_value, item_value, with_item, items_after, with_enum_name, after_enum}
use Rattle.td_elab_rules.specs.Parameters.{no_head, plain_width, cell_type, slot_cell, cells_of, buffer_room, value_head, cell_head, buffer_head, with_param, head_of}
use Rattle.td_elab_rules.specs.Casetypes.{cases_core, default_core}
use Rattle.td_elab_rules.specs.Records.{slot_of, with_slots}
use Rattle.td_elab_rules.specs.Definitions.{struct_head, struct_scope, struct_core, casetype_head, casetype_core, after, known_after}
use Rattle.td_elab_rules.specs.Modules.{param_name, see_params, see_fields, see_cases, see_default, see_struct, see_casetype, see_definition, all_names, names_of, module_of}
use Rattle.td_elab_rules.specs.Laws.{ModulesAreNamed, NamesAreApart}
use Rattle.td_elab_rules.proofs.Whole.{gathered_each}
use Rattle.td_num.proofs.Lists.{each_append}

-- Names that are seen

-- a name that was seen stays so
keeps : (names : List (List ℕ)) (more name : List ℕ) → is_seen names name ≡ true → is_seen (with_name names more) name ≡ true
keeps names more name seen = by (is_seen names more)
  where
    by : (b : Bool) → is_seen (if b then names else names ++ more ∷ []) name ≡ true
    by true = seen
    by false = list_any-append (bytes_eq name) names (more ∷ []) ∙ ap (λ b. b || (bytes_eq name more || false)) seen

either_way : (a b : Bool) → b ≡ true → (a || (b || false)) ≡ true
either_way true b e = refl
either_way false b e = cc

-- and a name that is given now is seen
sees : (names : List (List ℕ)) (name : List ℕ) → is_seen (with_name names name) name ≡ true
sees names name = by (is_seen names name) refl
  where
    by : (b : Bool) → is_seen names name ≡ b → is_seen (if b then names else names ++ name ∷ []) name ≡ true
    by true e = e
    by false e = list_any-append (bytes_eq name) names (name ∷ []) ∙ either_way (is_seen names name) (bytes_eq name name) ((bytes_eq-Decides name name).1 refl)

-- all names of the one are among the other
abbrev Within : List (List ℕ) → List (List ℕ) → Type 0
Within names final = (name : List ℕ) → is_seen names name ≡ true → is_seen final name ≡ true

params_keep : (names : List (List ℕ)) (ps : List ParamTree) → Within names (see_params names ps)
params_keep names [] name seen = seen
params_keep names (p ∷ ps) name seen = params_keep (with_name names (param_name p).text) ps name (keeps names (param_name p).text name seen)

fields_keep : (names : List (List ℕ)) (fs : List FieldTree) → Within names (see_fields names fs)
fields_keep names [] name seen = seen
fields_keep names (f ∷ fs) name seen = fields_keep (with_name names f.name.text) fs name (keeps names f.name.text name seen)

cases_keep : (names : List (List ℕ)) (cs : List CaseTree) → Within names (see_cases names cs)
cases_keep names [] name seen = seen
cases_keep names (c ∷ cs) name seen = cases_keep (see_fields names c.fields) cs name (fields_keep names c.fields name seen)

default_keep : (names : List (List ℕ)) (d : Option (List FieldTree)) → Within names (see_default names d)
default_keep names None name seen = seen
default_keep names (Some fs) name seen = fields_keep names fs name seen

slots_keep : (names : List (List ℕ)) (xs : List SlotTree) → Within names (with_slots names xs)
slots_keep names [] name seen = seen
slots_keep names (x ∷ xs) name seen = slots_keep (with_name names x.name.text) xs name (keeps names x.name.text name seen)

definition_keeps : (names : List (List ℕ)) (d : Def) → Within names (see_definition names d)
definition_keeps names (Define d) name seen = seen
definition_keeps names (Enum d) name seen = seen
definition_keeps names (Alias d) name seen = seen
definition_keeps names (Struct d) name seen =
    keeps (see_fields (see_params names d.head.params) d.fields) d.name.text name (fields_keep (see_params names d.head.params) d.fields name (params_keep names d.head.params name seen))
definition_keeps names (Casetype d) name seen =
    keeps (see_default (see_cases (see_params names d.head.params) d.cases) d.default) d.name.text name
    (default_keep (see_cases (see_params names d.head.params) d.cases) d.default name (cases_keep (see_params names d.head.params) d.cases name (params_keep names d.head.params name seen)))
definition_keeps names (Output d) name seen = slots_keep names d.slots name seen

all_keep : (names : List (List ℕ)) (ds : List Def) → Within names (all_names names ds)
all_keep names [] name seen = seen
all_keep names (d ∷ ds) name seen = all_keep (see_definition names d) ds name (definition_keeps names d name seen)

-- The names of a definition, all of which are among the final ones

module _ (final : List (List ℕ)) where
  abbrev IsGiven : List ℕ → Type 0
  IsGiven name = is_seen final name ≡ true

  number_there : (name : List ℕ) → IsGiven name → IsNameThere (length final) (record { number = number_of final name })
  number_there name seen = number_below final name seen

  abbrev IsFlatNamed : FlatField → Type 0
  IsFlatNamed x = IsNameThere (length final) x.name

  abbrev ArePartsNamed : List Part → Type 0
  ArePartsNamed ps = Each (λ p. IsNameThere (length final) p.name) ps

  flats_named : (names : List (List ℕ)) (k : Known) (s : Scope) (fs : List FieldTree) → Within (see_fields names fs) final → Each IsFlatNamed (flats_of final k s fs)
  flats_named names k s [] within = tt
  flats_named names k s (f ∷ fs) within = (
    number_there f.name.text (within f.name.text (fields_keep (with_name names f.name.text) fs f.name.text (sees names f.name.text))),
    flats_named (with_name names f.name.text) k (with_field k s f) fs within,
  )

  fields_named : (names : List (List ℕ)) (k : Known) (s : Scope) (fs : List FieldTree) → Within (see_fields names fs) final → Each (λ f. ArePartsNamed f.parts) (fields_core final k s fs)
  fields_named names k s fs within =
      gathered_each (λ f. ArePartsNamed f.parts) IsFlatNamed (λ u. ArePartsNamed u.parts)
      (λ x q. (q, tt)) (λ x t w q e. (q, tt)) (λ u x t w h q e f. each_append (λ p. IsNameThere (length final) p.name) u.parts _ h (q, tt)) (λ u h. h)
      (flats_of final k s fs) None tt (flats_named names k s fs within)

  cases_named : (names : List (List ℕ)) (k : Known) (s : Scope) (cs : List CaseTree) → Within (see_cases names cs) final → Each (λ c. Each (λ f. ArePartsNamed f.parts) c.fields) (cases_core final k s cs)
  cases_named names k s [] within = tt
  cases_named names k s (c ∷ cs) within = (
    fields_named names k s c.fields (λ name seen. within name (cases_keep (see_fields names c.fields) cs name seen)),
    cases_named (see_fields names c.fields) k s cs within,
  )

  default_named : (names : List (List ℕ)) (k : Known) (s : Scope) (d : Option (List FieldTree)) → Within (see_default names d) final → OfSome (Each (λ f. ArePartsNamed f.parts)) (default_core final k s d)
  default_named names k s None within = tt
  default_named names k s (Some fs) within = fields_named names k s fs within

  -- Heads

  abbrev AreSlotsNamed : List Slot → Type 0
  AreSlotsNamed slots = Each (λ x. IsGiven x.name) slots

  abbrev IsCellNamed : Cell → Type 0
  IsCellNamed c = IsNameThere (length final) c.name × OfSome (IsNameThere (length final)) c.field

  record IsHeadNamed (h : Head) : Type 0 where
    params : Each (λ p. IsNameThere (length final) p.name) h.params
    cells : Each IsCellNamed h.cells
    buffers : Each (λ b. IsNameThere (length final) b.name) h.buffers

  slots_named : (p : List ℕ) (slots : List Slot) → IsGiven p → AreSlotsNamed slots → Each IsCellNamed (map (slot_cell final p) slots)
  slots_named p [] g h = tt
  slots_named p (x ∷ xs) g h = ((number_there p g, number_there x.name h.0), slots_named p xs g h.1)

  record_named : (records : List (List Slot)) (r : ℕ) → Each AreSlotsNamed records → AreSlotsNamed (elim (slice_get records r) [ None ↦ [] | Some slots ↦ slots ])
  record_named [] r h = tt
  record_named (x ∷ xs) zero h = h.0
  record_named (x ∷ xs) (suc r) h = record_named xs r h.1

  cells_named : (k : Known) (p : List ℕ) (t : CellType) → Each AreSlotsNamed k.records → IsGiven p → Each IsCellNamed (cells_of final k p t)
  cells_named k p (cell.Number t) h g = ((number_there p g, tt), tt)
  cells_named k p cell.Pointer h g = ((number_there p g, tt), tt)
  cells_named k p (cell.Record r) h g = slots_named p (slots_at k r) g (record_named k.records r h)

  value_named : (h : Head) (x : List ℕ) (o : Option Rattle.td_num.specs.declared.number.Width.Width) → IsGiven x → IsHeadNamed h → IsHeadNamed (value_head final h x o)
  value_named h x None g i = record { params = i.params; cells = i.cells; buffers = i.buffers }
  value_named h x (Some w) g i = record { params = each_append (λ p. IsNameThere (length final) p.name) h.params _ i.params (number_there x g, tt); cells = i.cells; buffers = i.buffers }

  cell_named : (k : Known) (h : Head) (x : List ℕ) (o : Option CellType) → Each AreSlotsNamed k.records → IsGiven x → IsHeadNamed h → IsHeadNamed (cell_head final k h x o)
  cell_named k h x None r g i = record { params = i.params; cells = i.cells; buffers = i.buffers }
  cell_named k h x (Some t) r g i = record { params = i.params; cells = each_append IsCellNamed h.cells (cells_of final k x t) i.cells (cells_named k x t r g); buffers = i.buffers }

  buffer_named : (h : Head) (x : List ℕ) (o : Option ℕ) → IsGiven x → IsHeadNamed h → IsHeadNamed (buffer_head final h x o)
  buffer_named h x None g i = record { params = i.params; cells = i.cells; buffers = i.buffers }
  buffer_named h x (Some room) g i = record {
    params = i.params;
    cells = i.cells;
    buffers = each_append (λ b. IsNameThere (length final) b.name) h.buffers _ i.buffers (number_there x g, tt);
  }

  head_named : (names : List (List ℕ)) (k : Known) (h : Head) (ps : List ParamTree) → Each AreSlotsNamed k.records → Within (see_params names ps) final → IsHeadNamed h → IsHeadNamed (head_of final k h ps)
  head_named names k h [] r within i = i
  head_named names k h (param.Value t n ∷ ps) r within i =
      head_named (with_name names n.text) k (with_param final k h (param.Value t n)) ps r within
      (value_named h n.text (plain_width k h.scope t) (within n.text (params_keep (with_name names n.text) ps n.text (sees names n.text))) i)
  head_named names k h (param.Mutable t n ∷ ps) r within i =
      head_named (with_name names n.text) k (with_param final k h (param.Mutable t n)) ps r within
      (cell_named k h n.text (cell_type k h.scope t) r (within n.text (params_keep (with_name names n.text) ps n.text (sees names n.text))) i)
  head_named names k h (param.Bytes n room ∷ ps) r within i =
      head_named (with_name names n.text) k (with_param final k h (param.Bytes n room)) ps r within
      (buffer_named h n.text (buffer_room k h.scope room) (within n.text (params_keep (with_name names n.text) ps n.text (sees names n.text))) i)

  struct_named : (names : List (List ℕ)) (k : Known) (d : StructTree) → Each AreSlotsNamed k.records → Within (see_struct names d) final → IsDefinitionNamed (length final) (struct_core final k d)
  struct_named names k d r within =
      let inner : Within (see_fields (see_params names d.head.params) d.fields) final = λ name seen. within name (keeps (see_fields (see_params names d.head.params) d.fields) d.name.text name seen) in
      let h = head_named names k no_head d.head.params r (λ name seen. inner name (fields_keep (see_params names d.head.params) d.fields name seen)) (record { params = tt; cells = tt; buffers = tt }) in
      record {
        own = number_there d.name.text (within d.name.text (sees (see_fields (see_params names d.head.params) d.fields) d.name.text));
        params = h.params;
        cells = h.cells;
        buffers = h.buffers;
        fields = fields_named (see_params names d.head.params) k (struct_scope k (struct_head final k d).scope d.fields) d.fields inner;
      }

  casetype_named : (names : List (List ℕ)) (k : Known) (d : CasetypeTree) → Each AreSlotsNamed k.records → Within (see_casetype names d) final → IsDefinitionNamed (length final) (casetype_core final k d)
  casetype_named names k d r within =
      let start = see_params names d.head.params in
      let inner : Within (see_default (see_cases start d.cases) d.default) final = λ name seen. within name (keeps (see_default (see_cases start d.cases) d.default) d.name.text name seen) in
      let cases : Within (see_cases start d.cases) final = λ name seen. inner name (default_keep (see_cases start d.cases) d.default name seen) in
      let h = head_named names k no_head d.head.params r (λ name seen. cases name (cases_keep start d.cases name seen)) (record { params = tt; cells = tt; buffers = tt }) in
      record {
        own = number_there d.name.text (within d.name.text (sees (see_default (see_cases start d.cases) d.default) d.name.text));
        params = h.params;
        cells = h.cells;
        buffers = h.buffers;
        fields = (cases_named start k (casetype_head final k d).scope d.cases cases, default_named (see_cases start d.cases) k (casetype_head final k d).scope d.default inner);
      }

  -- What is known

  record IsKnownNamed (k : Known) : Type 0 where
    definitions : Each (IsDefinitionNamed (length final)) k.definitions
    records : Each AreSlotsNamed k.records

  slots_given : (names : List (List ℕ)) (xs : List SlotTree) → Within (with_slots names xs) final → AreSlotsNamed (map slot_of xs)
  slots_given names [] within = tt
  slots_given names (x ∷ xs) within = (
    within x.name.text (slots_keep (with_name names x.name.text) xs x.name.text (sees names x.name.text)),
    slots_given (with_name names x.name.text) xs within,
  )

  items_named : (k : Known) (next : Option ℕ) (is : List ItemTree) → IsKnownNamed k → IsKnownNamed (items_after k next is)
  items_named k next [] h = h
  items_named k next (i ∷ is) h = items_named (with_item k next i) (next_value (item_value k next i)) is (record { definitions = h.definitions; records = h.records })

  enum_named : (k : Known) (d : Rattle.td_ast.specs.declared.definitions.EnumTree.EnumTree) → IsKnownNamed k → IsKnownNamed (after_enum k d)
  enum_named k d h =
      let i = items_named (with_enum_name k d) (Some 0) d.items (record { definitions = h.definitions; records = h.records }) in
      record { definitions = i.definitions; records = i.records }

  after_named : (names : List (List ℕ)) (k : Known) (d : Def) → Within (see_definition names d) final → IsKnownNamed k → IsKnownNamed (after final k d)
  after_named names k (Define d) within h = record { definitions = h.definitions; records = h.records }
  after_named names k (Enum d) within h = enum_named k d h
  after_named names k (Alias d) within h = record { definitions = h.definitions; records = h.records }
  after_named names k (Struct d) within h = record {
    definitions = each_append (IsDefinitionNamed (length final)) k.definitions (struct_core final k d ∷ []) h.definitions (struct_named names k d h.records within, tt);
    records = h.records;
  }
  after_named names k (Casetype d) within h = record {
    definitions = each_append (IsDefinitionNamed (length final)) k.definitions (casetype_core final k d ∷ []) h.definitions (casetype_named names k d h.records within, tt);
    records = h.records;
  }
  after_named names k (Output d) within h = record {
    definitions = h.definitions;
    records = each_append AreSlotsNamed k.records (map slot_of d.slots ∷ []) h.records (slots_given names d.slots within, tt);
  }

  all_named : (names : List (List ℕ)) (k : Known) (ds : List Def) → Within (all_names names ds) final → IsKnownNamed k → IsKnownNamed (known_after final k ds)
  all_named names k [] within h = h
  all_named names k (d ∷ ds) within h =
      all_named (see_definition names d) (after final k d) ds within (after_named names k d (λ name seen. within name (all_keep (see_definition names d) ds name seen)) h)

pub module_named : (t : ModuleTree) → Each (IsDefinitionNamed (length (names_of t))) (module_of t).definitions
module_named t = (all_named (names_of t) [] nothing_known t.definitions (λ name seen. seen) (record { definitions = tt; records = tt })).definitions

pub modules_are_named : ModulesAreNamed
modules_are_named t m s = subst (λ x. Each (IsDefinitionNamed (length x.names)) x.definitions) (sym s.1) (module_named t)

-- No two names are the same

-- in a list
abbrev AreApart : List (List ℕ) → Type 0
AreApart [] = Unit {0}
AreApart (x ∷ xs) = (is_seen xs x ≡ false) × AreApart xs

get_seen : (xs : List (List ℕ)) (i : ℕ) (name : List ℕ) → slice_get xs i ≡ Some name → is_seen xs name ≡ true
get_seen [] i name e = absurd (none-some name e)
get_seen (x ∷ xs) zero name e = ap (λ b. b || is_seen xs name) ((bytes_eq-Decides name x).1 (sym (same_Some x name e)))
get_seen (x ∷ xs) (suc i) name e = by (bytes_eq name x) (get_seen xs i name e)
  where
    by : (b : Bool) → is_seen xs name ≡ true → (b || is_seen xs name) ≡ true
    by true h = refl
    by false h = h

apart : (xs : List (List ℕ)) (i j : ℕ) (name : List ℕ) → AreApart xs → slice_get xs i ≡ Some name → slice_get xs j ≡ Some name → i ≡ j
apart [] i j name h e f = absurd (none-some name e)
apart (x ∷ xs) zero zero name h e f = refl
apart (x ∷ xs) zero (suc j) name h e f = absurd (false≢true (sym h.0 ∙ ap (is_seen xs) (same_Some x name e) ∙ get_seen xs j name f))
apart (x ∷ xs) (suc i) zero name h e f = absurd (false≢true (sym h.0 ∙ ap (is_seen xs) (same_Some x name f) ∙ get_seen xs i name e))
apart (x ∷ xs) (suc i) (suc j) name h e f = ap suc (apart xs i j name h.1 e f)

eq_turned : (a b : List ℕ) → bytes_eq a b ≡ false → bytes_eq b a ≡ false
eq_turned a b e = by (bytes_eq b a) refl
  where
    by : (c : Bool) → bytes_eq b a ≡ c → c ≡ false
    by false f = refl
    by true f = absurd (false≢true (sym e ∙ (bytes_eq-Decides a b).1 (sym ((bytes_eq-Decides b a).0 f))))

pub or_left : (a b : Bool) → (a || b) ≡ false → a ≡ false
or_left false b e = refl
or_left true b e = cc

pub or_right : (a b : Bool) → (a || b) ≡ false → b ≡ false
or_right false b e = e
or_right true b e = cc

push_apart : (xs : List (List ℕ)) (x : List ℕ) → AreApart xs → is_seen xs x ≡ false → AreApart (xs ++ x ∷ [])
push_apart [] x h e = (refl, tt)
push_apart (y ∷ ys) x h e =
    let first = eq_turned x y (or_left (bytes_eq x y) (is_seen ys x) e) in (
      list_any-append (bytes_eq y) ys (x ∷ []) ∙ ap (λ b. b || (bytes_eq y x || false)) h.0 ∙ ap (λ b. b || false) first,
      push_apart ys x h.1 (or_right (bytes_eq x y) (is_seen ys x) e),
    )

with_apart : (xs : List (List ℕ)) (x : List ℕ) → AreApart xs → AreApart (with_name xs x)
with_apart xs x h = by (is_seen xs x) refl
  where
    by : (b : Bool) → is_seen xs x ≡ b → AreApart (if b then xs else xs ++ x ∷ [])
    by true e = h
    by false e = push_apart xs x h e

params_apart : (names : List (List ℕ)) (ps : List ParamTree) → AreApart names → AreApart (see_params names ps)
params_apart names [] h = h
params_apart names (p ∷ ps) h = params_apart (with_name names (param_name p).text) ps (with_apart names (param_name p).text h)

fields_apart : (names : List (List ℕ)) (fs : List FieldTree) → AreApart names → AreApart (see_fields names fs)
fields_apart names [] h = h
fields_apart names (f ∷ fs) h = fields_apart (with_name names f.name.text) fs (with_apart names f.name.text h)

cases_apart : (names : List (List ℕ)) (cs : List CaseTree) → AreApart names → AreApart (see_cases names cs)
cases_apart names [] h = h
cases_apart names (c ∷ cs) h = cases_apart (see_fields names c.fields) cs (fields_apart names c.fields h)

default_apart : (names : List (List ℕ)) (d : Option (List FieldTree)) → AreApart names → AreApart (see_default names d)
default_apart names None h = h
default_apart names (Some fs) h = fields_apart names fs h

slots_apart : (names : List (List ℕ)) (xs : List SlotTree) → AreApart names → AreApart (with_slots names xs)
slots_apart names [] h = h
slots_apart names (x ∷ xs) h = slots_apart (with_name names x.name.text) xs (with_apart names x.name.text h)

definition_apart : (names : List (List ℕ)) (d : Def) → AreApart names → AreApart (see_definition names d)
definition_apart names (Define d) h = h
definition_apart names (Enum d) h = h
definition_apart names (Alias d) h = h
definition_apart names (Struct d) h =
    with_apart (see_fields (see_params names d.head.params) d.fields) d.name.text (fields_apart (see_params names d.head.params) d.fields (params_apart names d.head.params h))
definition_apart names (Casetype d) h =
    with_apart (see_default (see_cases (see_params names d.head.params) d.cases) d.default) d.name.text
    (default_apart (see_cases (see_params names d.head.params) d.cases) d.default (cases_apart (see_params names d.head.params) d.cases (params_apart names d.head.params h)))
definition_apart names (Output d) h = slots_apart names d.slots h

all_apart : (names : List (List ℕ)) (ds : List Def) → AreApart names → AreApart (all_names names ds)
all_apart names [] h = h
all_apart names (d ∷ ds) h = all_apart (see_definition names d) ds (definition_apart names d h)

pub names_are_apart : NamesAreApart
names_are_apart t m s i j name e f =
    let own = ap (λ x. x.names) s.1 in
    apart (names_of t) i j name (all_apart [] t.definitions tt)
    (ap (λ x. slice_get x i) (sym own) ∙ e) (ap (λ x. slice_get x j) (sym own) ∙ f)
