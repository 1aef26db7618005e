-- In a module that a tree stands for, truth values stand where truth values must, and numbers where numbers must.
use Rattle.std.proofs.Common.{◌≡◌, ◌≢◌, ℕ, Bool, true, false, cond, List, [], ◌∷◌, ◌++◌, length, refl, sym, subst, Option, Some, None, nat_le, slice_get}
use Rattle.td_elab_rules.specs.Imports.{NumberType, Width, Span, Assigned, Value as Stored, FieldPtr, ActionTree, Done, Copied, TypeKind, TypeTree, ExtentTree, FieldTree, ParamTree, ItemTree, CaseTree, StructTree, CasetypeTree, Def, Define, Enum, Alias, Struct, Casetype, Output, Scalar, Truth, Element, Source, TypeDef}
use Rattle.std.proofs.lemmas.Option.{none-some, same_Some}
use Rattle.td_num.specs.Lists.{Each}
use Rattle.td_num.specs.Numbers.{bytes_in}
use Rattle.td_ast.specs.Extents.{is_array}
use Rattle.td_ast.specs.Trees.{Tree, span_of}
use Rattle.td_ast.specs.Statements.{Statement, Store, StoreField, Var, If, IfElse, Return, Abort, Statements, End, More, block_of}
use Rattle.td_ast.specs.declared.fields.TypeKind.TheVariants as type
use Rattle.td_ast.specs.declared.fields.ExtentTree.TheVariants as after_name
use Rattle.td_ast.specs.declared.parameters.ParamTree.TheVariants as param
use Rattle.td_core.specs.Term.{Term, Deed, set}
use Rattle.td_core.specs.Types.{bits, type_of}
use Rattle.td_core.specs.Formed.{scalar_of}
use Rattle.td_core.specs.declared.module.Element.TheVariants as element
use Rattle.td_core.specs.declared.module.Source.TheVariants.{Expression, Cell as FromCell, Left}
use Rattle.td_core.specs.WellFormed.{OfSome, IsSorted, IsDeedSorted, IsElementSorted, IsSourceSorted, IsExtentSorted, IsPartSorted, IsFieldSorted, IsDefinitionSorted}
use Rattle.td_elab_rules.specs.declared.breach.Rule.TheVariants.{Narrowing}
use Rattle.td_elab_rules.specs.declared.actions.Target.{Target}
use Rattle.td_elab_rules.specs.declared.actions.Target.TheVariants as target
use Rattle.td_elab_rules.specs.declared.fields.Readable.{Readable}
use Rattle.td_elab_rules.specs.declared.fields.FlatField.{FlatField}
use Rattle.td_elab_rules.specs.declared.known.CellType.{CellType}
use Rattle.td_elab_rules.specs.declared.known.CellType.TheVariants as cell
use Rattle.td_elab_rules.specs.declared.known.Parameter.{Parameter}
use Rattle.td_elab_rules.specs.declared.known.Parameter.TheVariants.{Value, Cells, Buffer as BufferOf}
use Rattle.td_elab_rules.specs.declared.known.Meaning.TheVariants as meaning
use Rattle.td_elab_rules.specs.declared.known.Local.TheVariants as local
use Rattle.td_elab_rules.specs.declared.known.Found.{Found}
use Rattle.td_elab_rules.specs.declared.known.Found.TheVariants as found
use Rattle.td_elab_rules.specs.declared.known.Known.{Known}
use Rattle.td_elab_rules.specs.declared.known.Scope.{Scope}
use Rattle.td_elab_rules.specs.declared.known.Taken.{Taken}
use Rattle.td_elab_rules.specs.declared.parameters.Head.{Head}
use Rattle.td_elab_rules.specs.Breach.{when}
use Rattle.td_elab_rules.specs.Known.{nothing_known, found_in, signature_at, next_case}
use Rattle.td_elab_rules.specs.Sorts.{type_alone, sort_of, core_of, option_core, start_core}
use Rattle.td_elab_rules.specs.ExprRules.{number_breaches, truth_breaches, fitting_breaches, test_breaches}
use Rattle.td_elab_rules.specs.Actions.{stored_cell, stored_slot, target_breaches, stored_breaches, with_read, scope_after, vars_after, block_vars, statement_breaches, block_breaches, shape_breaches, inside, action_breaches, set_core, read_core, statement_core, block_core, action_core}
use Rattle.td_elab_rules.specs.Types.{args_breaches, found_breaches, kind_breaches, type_breaches, args_core, args_cells, args_buffers, buffer_cells, fits, applied, found_element, kind_element, number_type, element_of}
use Rattle.td_elab_rules.specs.Given.{is_left, is_shorter, tree_breaches, tree_source, held_source}
use Rattle.td_elab_rules.specs.Extents.{extent_breaches, zero_ended, extent_core}
use Rattle.td_elab_rules.specs.BitFields.{part_of}
use Rattle.td_elab_rules.specs.Fields.{base_of, readable_bits, readable_base, readable_of, with_readable, with_field, field_name_breaches, refined_breaches, field_breaches, field_taken, fields_breaches, refinement_core, flat_of, flats_of, fields_core}
use Rattle.td_elab_rules.specs.Extents.{bit_width}
use Rattle.td_elab_rules.specs.Constants.{with_value_number, constant_value}
use Rattle.td_elab_rules.specs.Enums.{next_value, item_value, with_item, items_after, with_enum_name}
use Rattle.td_elab_rules.specs.Parameters.{no_head, plain_width, cell_type, buffer_room, value_head, cell_head, buffer_head, with_param, head_of, params_breaches}
use Rattle.td_elab_rules.specs.Copies.{copy_breaches}
use Rattle.td_elab_rules.specs.Casetypes.{case_breaches, case_taken, cases_breaches, cases_taken, default_breaches, switch_breaches, cases_core, default_core}
use Rattle.td_elab_rules.specs.Definitions.{struct_head, struct_scope, struct_breaches, struct_core, casetype_head, casetype_breaches, casetype_core, definition_breaches, definitions_breaches, after, known_after}
use Rattle.td_elab_rules.specs.Modules.{names_of}
use Rattle.td_elab_rules.specs.Laws.{ModulesAreSorted}
use Rattle.td_elab_rules.proofs.Given.{given_case}
use Rattle.td_elab_rules.proofs.Whole.{gathered_each}
use Rattle.td_elab_rules.proofs.Sorting.{scalar_number, HasNumbers, numbers_declared, number_sorted, truth_sorted, fitting_sorted, test_sorted}
use Rattle.td_num.proofs.Lists.{each_append, left_none, right_none}

-- Actions

start_sorted : (o : Option ℕ) → IsSorted false (start_core o)
start_sorted None = ((λ e. cc), tt)
start_sorted (Some i) = ((λ e. cc), tt)

set_sorted : (k : Known) (s : Scope) (t : Target) (rhs : Assigned) (rest : Deed) → HasNumbers s → stored_breaches k s t rhs ≡ [] → IsDeedSorted rest → IsDeedSorted (set_core k s t rhs rest)
set_sorted k s target.Unknown rhs rest h b r = r
set_sorted k s target.NoCell rhs rest h b r = r
set_sorted k s (target.Number c t) (Stored e) rest h b r = by (nat_le (bits (type_of (core_of k s e))) (bits (scalar_of t.width)))
  where
    by : (v : Bool) → IsDeedSorted (cond v (set c (core_of k s e) rest) rest)
    by true = (fitting_sorted k s (scalar_of t.width) e h b, r)
    by false = r
set_sorted k s (target.Number c t) (FieldPtr at) rest h b r = r
set_sorted k s (target.Pointer c) (Stored e) rest h b r = r
set_sorted k s (target.Pointer c) (FieldPtr at) rest h b r = (start_sorted s.start, r)

read_sorted : (t : Target) (rest : Deed) → IsDeedSorted rest → IsDeedSorted (read_core t rest)
read_sorted target.Unknown rest r = r
read_sorted target.NoCell rest r = r
read_sorted (target.Number c t) rest r = r
read_sorted (target.Pointer c) rest r = r

read_numbers : (s : Scope) (x : List ℕ) (t : Target) → HasNumbers s → HasNumbers (with_read s x t)
read_numbers s x target.Unknown h = record { locals = numbers_declared s.locals x local.Unreadable h.locals tt }
read_numbers s x target.NoCell h = record { locals = numbers_declared s.locals x local.Unreadable h.locals tt }
read_numbers s x (target.Number c t) h = record { locals = numbers_declared s.locals x (local.Value _ _ _) h.locals (scalar_number t.width) }
read_numbers s x (target.Pointer c) h = record { locals = numbers_declared s.locals x (local.Value _ _ _) h.locals (λ e. cc) }

scope_numbers : (k : Known) (s : Scope) (x : Statement) → HasNumbers s → HasNumbers (scope_after k s x)
scope_numbers k s (Store at p rhs) h = h
scope_numbers k s (StoreField at p f rhs) h = h
scope_numbers k s (Var at x star p) h = read_numbers s x.text (stored_cell k s p) h
scope_numbers k s (If at e one) h = h
scope_numbers k s (IfElse at e one other) h = h
scope_numbers k s (Return at e) h = h
scope_numbers k s (Abort at) h = h

mutual
  statement_sorted : (k : Known) (t : Taken) (s : Scope) (x : Statement) (rest : Deed) → HasNumbers s → statement_breaches k t s x ≡ [] → IsDeedSorted rest → IsDeedSorted (statement_core k s x rest)
  statement_sorted k t s (Store at p rhs) rest h b r = set_sorted k s (stored_cell k s p) rhs rest h (right_none (target_breaches (stored_cell k s p) p.span) _ b) r
  statement_sorted k t s (StoreField at p f rhs) rest h b r = set_sorted k s (stored_slot k s p f) rhs rest h (right_none (target_breaches (stored_slot k s p f) p.span) _ b) r
  statement_sorted k t s (Var at x star p) rest h b r = read_sorted (stored_cell k s p) rest r
  statement_sorted k t s (If at e one) rest h b r =
      (truth_sorted k s e h (left_none (truth_breaches k s e) _ b), (block_sorted k t s one h (right_none (truth_breaches k s e) _ b), (tt, r)))
  statement_sorted k t s (IfElse at e one other) rest h b r =
      let more = right_none (truth_breaches k s e) _ b in (
        truth_sorted k s e h (left_none (truth_breaches k s e) _ b),
        (block_sorted k t s one h (left_none (block_breaches k t s one) _ more), (block_sorted k (block_vars t one) s other h (right_none (block_breaches k t s one) _ more), r)),
      )
  statement_sorted k t s (Return at e) rest h b r = truth_sorted k s e h b
  statement_sorted k t s (Abort at) rest h b r = tt

  block_sorted : (k : Known) (t : Taken) (s : Scope) (b : Statements) → HasNumbers s → block_breaches k t s b ≡ [] → IsDeedSorted (block_core k s b)
  block_sorted k t s End h b = tt
  block_sorted k t s (More x rest) h b =
      statement_sorted k t s x (block_core k (scope_after k s x) rest) h (left_none (statement_breaches k t s x) _ b)
      (block_sorted k (vars_after t x) (scope_after k s x) rest (scope_numbers k s x h) (right_none (statement_breaches k t s x) _ b))

action_sorted : (k : Known) (t : Taken) (s : Scope) (a : Option ActionTree) → HasNumbers s → action_breaches k t s a ≡ [] → OfSome IsDeedSorted (action_core k s a)
action_sorted k t s None h b = tt
action_sorted k t s (Some (Done kind at body)) h b = block_sorted k t (inside s) (block_of body) (record { locals = h.locals }) (right_none (shape_breaches kind at (block_of body)) _ b)
action_sorted k t s (Some (Copied at n)) h b = tt

-- Types and extents

args_sorted : (k : Known) (s : Scope) (ps : List Parameter) (es : List Tree) → HasNumbers s → args_breaches k s ps es ≡ [] → Each (IsSorted false) (args_core k s ps es)
args_sorted k s [] es h b = tt
args_sorted k s (p ∷ ps) [] h b = tt
args_sorted k s (Value w ∷ ps) (e ∷ es) h b = (fitting_sorted k s w e h (left_none (fitting_breaches k s w e) _ b), args_sorted k s ps es h (right_none (fitting_breaches k s w e) _ b))
args_sorted k s (Cells t ∷ ps) (e ∷ es) h b = args_sorted k s ps es h b
args_sorted k s (BufferOf room ∷ ps) (e ∷ es) h b = args_sorted k s ps es h b

applied_sorted : (s : Scope) (j : ℕ) (o : Option TypeDef) (es : List Term) (own ns : List ℕ) → Each (IsSorted false) es → IsElementSorted (applied s j o es own ns)
applied_sorted s j None es own ns h = tt
applied_sorted s j (Some d) es own ns h = by (fits s d es own ns)
  where
    by : (b : Bool) → IsElementSorted (cond b (element.Named j es (own ++ buffer_cells (length s.cells) ns)) element.Unit)
    by true = h
    by false = tt

found_sorted : (k : Known) (s : Scope) (f : Found) (at : Span) (args : List Tree) → HasNumbers s → found_breaches k s f at args ≡ [] → IsElementSorted (found_element k s f args)
found_sorted k s found.Nothing at args h b = tt
found_sorted k s (found.Local l) at args h b = tt
found_sorted k s (found.Global (meaning.Constant n)) at args h b = tt
found_sorted k s (found.Global (meaning.Member n)) at args h b = tt
found_sorted k s (found.Global (meaning.Number t)) at args h b = tt
found_sorted k s (found.Global (meaning.Enum t v)) at args h b = tt
found_sorted k s (found.Global (meaning.Type j)) at args h b =
    applied_sorted s j (slice_get k.definitions j) (args_core k s (signature_at k j) args) (args_cells k s (signature_at k j) args) (args_buffers k s (signature_at k j) args) (args_sorted k s (signature_at k j) args h (right_none _ (args_breaches k s (signature_at k j) args) b))
found_sorted k s (found.Global (meaning.Record r)) at args h b = tt

kind_sorted : (k : Known) (s : Scope) (at : Span) (t : TypeKind) → HasNumbers s → kind_breaches k s at t ≡ [] → IsElementSorted (kind_element k s t)
kind_sorted k s at (type.Number t) h b = tt
kind_sorted k s at type.Unit h b = tt
kind_sorted k s at type.AllBytes h b = tt
kind_sorted k s at type.AllZeros h b = tt
kind_sorted k s at (type.Named n args) h b = found_sorted k s (found_in k s n) at args h b

zero_sorted : (x : Element) (e : Term) → IsSorted false e → IsExtentSorted (zero_ended x e)
zero_sorted (element.Number t) e h = h
zero_sorted (element.Listed t v) e h = tt
zero_sorted (element.Named j es cells) e h = tt
zero_sorted element.Unit e h = tt
zero_sorted element.Rest e h = tt
zero_sorted element.Zeros e h = tt

-- a value that an expression gives is a number
tree_sorted : (k : Known) (s : Scope) (o : Option NumberType) (e : Tree) → HasNumbers s → tree_breaches k s o e ≡ [] → (t : NumberType) (x : Source) → tree_source k s (Some t) e ≡ Some x → IsSourceSorted x
tree_sorted k s o e h none t x = by (is_left e) (is_shorter (Some t) 4) none
  where
    by : (b c : Bool) → cond b (when (is_shorter o 4) Narrowing (span_of e)) (number_breaches k s e) ≡ [] → cond b (cond c None (Some Left)) (Some (Expression (span_of e) (core_of k s e))) ≡ Some x → IsSourceSorted x
    by true true n r = absurd (none-some x r)
    by true false n r = subst IsSourceSorted (same_Some Left x r) tt
    by false c n r = subst IsSourceSorted (same_Some (Expression (span_of e) (core_of k s e)) x r) (number_sorted k s e h n)

held_sorted : (c : Target) (t : NumberType) (x : Source) → held_source (Some t) c ≡ Some x → IsSourceSorted x
held_sorted target.Unknown t x e = absurd (none-some x e)
held_sorted target.NoCell t x e = absurd (none-some x e)
held_sorted (target.Pointer c) t x e = absurd (none-some x e)
held_sorted (target.Number c u) t x e = by (is_shorter (Some t) (bytes_in u.width)) e
  where
    by : (b : Bool) → cond b None (Some (FromCell c)) ≡ Some x → IsSourceSorted x
    by true r = absurd (none-some x r)
    by false r = subst IsSourceSorted (same_Some (FromCell c) x r) tt

extent_sorted : (k : Known) (s : Scope) (t : TypeTree) (x : Element) (e : Option ExtentTree) → HasNumbers s → extent_breaches k s t e ≡ [] → IsExtentSorted (extent_core k s x e)
extent_sorted k s t x None h b = tt
extent_sorted k s t x (Some (after_name.Bytes e)) h b = number_sorted k s e h (right_none _ (number_breaches k s e) b)
extent_sorted k s t x (Some (after_name.ByteSize e)) h b = number_sorted k s e h b
extent_sorted k s t x (Some (after_name.SingleElement e)) h b = number_sorted k s e h b
extent_sorted k s t x (Some (after_name.Zeroterm e)) h b = zero_sorted x (core_of k s e) (number_sorted k s e h (right_none _ (number_breaches k s e) b))
extent_sorted k s t x (Some (after_name.Bits n)) h b = tt
extent_sorted k s t x (Some (after_name.Given e)) h b =
    given_case (λ y z. IsExtentSorted z) (λ o. tree_source k s o e) refl
    (λ u z q w. tree_sorted k s (number_type k s t) e h (right_none _ (tree_breaches k s (number_type k s t) e) b) u z q) x tt
extent_sorted k s t x (Some (after_name.OfCell star p)) h b =
    given_case (λ y z. IsExtentSorted z) (λ o. held_source o (stored_cell k s p)) refl (λ u z q w. held_sorted (stored_cell k s p) u z q) x tt

-- Fields

abbrev IsReadNumber : Option Readable → Type 0
IsReadNumber None = Unit {0}
IsReadNumber (Some v) = v.scalar ≢ Truth

bits_number : (w : Width) (o : Option ℕ) → (readable_bits w o).scalar ≢ Truth
bits_number w None = scalar_number w
bits_number w (Some n) = scalar_number w

base_number : (o : Option NumberType) (w : Option ℕ) → IsReadNumber (readable_base o w)
base_number None w = tt
base_number (Some t) w = bits_number t.width w

readable_number : (k : Known) (s : Scope) (f : FieldTree) → IsReadNumber (readable_of k s f)
readable_number k s f = by (is_array f.extent)
  where
    by : (b : Bool) → IsReadNumber (cond b None (readable_base (base_of k s f.type_tree.kind) (bit_width k s f.type_tree f.extent)))
    by true = tt
    by false = base_number (base_of k s f.type_tree.kind) (bit_width k s f.type_tree f.extent)

readable_numbers : (s : Scope) (x : List ℕ) (v : Option Readable) → HasNumbers s → IsReadNumber v → HasNumbers (with_readable s x v)
readable_numbers s x None h r = record { locals = numbers_declared s.locals x local.Unreadable h.locals tt }
readable_numbers s x (Some v) h r = record { locals = numbers_declared s.locals x (local.Value s.levels v.scalar v.most) h.locals r }

field_numbers : (k : Known) (s : Scope) (f : FieldTree) → HasNumbers s → HasNumbers (with_field k s f)
field_numbers k s f h = readable_numbers s f.name.text (readable_of k s f) h (readable_number k s f)

record IsFlatSorted (x : FlatField) : Type 0 where
  element : IsElementSorted x.element
  extent : IsExtentSorted x.extent
  part : IsPartSorted (part_of None x)

refinement_sorted : (v : Option Readable) (e : Option Term) → OfSome (IsSorted true) e → OfSome (IsSorted true) (refinement_core v e)
refinement_sorted None e h = tt
refinement_sorted (Some v) e h = h

flat_sorted : (names : List (List ℕ)) (k : Known) (t : Taken) (s : Scope) (f : FieldTree) → HasNumbers s → field_breaches k t s f ≡ [] → IsFlatSorted (flat_of names k s f)
flat_sorted names k t s f h b =
    let one = right_none (type_breaches k s f.type_tree) _ b in
    let two = right_none (field_name_breaches k t f) _ one in
    let three = right_none (extent_breaches k s f.type_tree f.extent) _ two in
    let four = right_none (refined_breaches k s f) _ three in
    let later = field_numbers k s f h in
    record {
      element = kind_sorted k s f.type_tree.span f.type_tree.kind h (left_none (type_breaches k s f.type_tree) _ b);
      extent = extent_sorted k s f.type_tree (element_of k s f.type_tree) f.extent h (left_none (extent_breaches k s f.type_tree f.extent) _ two);
      part = (
        refinement_sorted (readable_of k s f) (option_core k (with_field k s f) f.refinement) (test_sorted k (with_field k s f) f.refinement later (left_none (test_breaches k (with_field k s f) f.refinement) _ four)),
        action_sorted k _ (with_field k s f) f.action later (left_none _ (copy_breaches k s (with_field k s f) f) (right_none (test_breaches k (with_field k s f) f.refinement) _ four)),
      );
    }

flats_sorted : (names : List (List ℕ)) (k : Known) (t : Taken) (s : Scope) (fs : List FieldTree) → HasNumbers s → fields_breaches k t s fs ≡ [] → Each IsFlatSorted (flats_of names k s fs)
flats_sorted names k t s [] h b = tt
flats_sorted names k t s (f ∷ fs) h b = (
  flat_sorted names k t s f h (left_none (field_breaches k t s f) _ b),
  flats_sorted names k (field_taken t f) (with_field k s f) fs (field_numbers k s f h) (right_none (field_breaches k t s f) _ b),
)

fields_sorted : (names : List (List ℕ)) (k : Known) (t : Taken) (s : Scope) (fs : List FieldTree) → HasNumbers s → fields_breaches k t s fs ≡ [] → Each IsFieldSorted (fields_core names k s fs)
fields_sorted names k t s fs h b =
    gathered_each IsFieldSorted IsFlatSorted (λ u. Each IsPartSorted u.parts)
    (λ x q. (q.element, (q.extent, (q.part, tt)))) (λ x v w q e. (q.part, tt)) (λ u x v w g q e f. each_append IsPartSorted u.parts _ g (q.part, tt)) (λ u g. (tt, (tt, g)))
    (flats_of names k s fs) None tt (flats_sorted names k t s fs h b)

cases_sorted : (names : List (List ℕ)) (k : Known) (t : Taken) (s : Scope) (w : Option Scalar) (before : List ℕ) (cs : List CaseTree) → HasNumbers s → cases_breaches k t s w before cs ≡ [] → Each (λ c. Each IsFieldSorted c.fields) (cases_core names k s cs)
cases_sorted names k t s w before [] h b = tt
cases_sorted names k t s w before (c ∷ cs) h b =
    let rest = right_none (case_breaches k s w before c.constant) _ b in (
      fields_sorted names k (next_case t) s c.fields h (left_none (fields_breaches k (next_case t) s c.fields) _ rest),
      cases_sorted names k (case_taken t c.fields) s w (with_value_number before (constant_value k s c.constant)) cs h (right_none (fields_breaches k (next_case t) s c.fields) _ rest),
    )

default_sorted : (names : List (List ℕ)) (k : Known) (t : Taken) (s : Scope) (d : Option (List FieldTree)) → HasNumbers s → default_breaches k t s d ≡ [] → OfSome (Each IsFieldSorted) (default_core names k s d)
default_sorted names k t s None h b = tt
default_sorted names k t s (Some fs) h b = fields_sorted names k (next_case t) s fs h b

-- Heads

value_numbers : (names : List (List ℕ)) (h : Head) (x : List ℕ) (o : Option Width) → HasNumbers h.scope → HasNumbers (value_head names h x o).scope
value_numbers names h x None g = record { locals = numbers_declared h.scope.locals x local.Unreadable g.locals tt }
value_numbers names h x (Some w) g = record { locals = numbers_declared h.scope.locals x (local.Value _ _ _) g.locals (scalar_number w) }

cells_numbers : (names : List (List ℕ)) (k : Known) (h : Head) (x : List ℕ) (o : Option CellType) → HasNumbers h.scope → HasNumbers (cell_head names k h x o).scope
cells_numbers names k h x None g = record { locals = numbers_declared h.scope.locals x local.Unreadable g.locals tt }
cells_numbers names k h x (Some (cell.Number t)) g = record { locals = numbers_declared h.scope.locals x (local.Cell _ _) g.locals tt }
cells_numbers names k h x (Some cell.Pointer) g = record { locals = numbers_declared h.scope.locals x (local.Cell _ _) g.locals tt }
cells_numbers names k h x (Some (cell.Record r)) g = record { locals = numbers_declared h.scope.locals x (local.Row _ _) g.locals tt }

buffer_numbers : (names : List (List ℕ)) (h : Head) (x : List ℕ) (o : Option ℕ) → HasNumbers h.scope → HasNumbers (buffer_head names h x o).scope
buffer_numbers names h x None g = record { locals = numbers_declared h.scope.locals x local.Unreadable g.locals tt }
buffer_numbers names h x (Some room) g = record { locals = numbers_declared h.scope.locals x (local.Buffer _) g.locals tt }

head_numbers : (names : List (List ℕ)) (k : Known) (h : Head) (ps : List ParamTree) → HasNumbers h.scope → HasNumbers (head_of names k h ps).scope
head_numbers names k h [] g = g
head_numbers names k h (param.Value t n ∷ ps) g = head_numbers names k (with_param names k h (param.Value t n)) ps (value_numbers names h n.text (plain_width k h.scope t) g)
head_numbers names k h (param.Mutable t n ∷ ps) g = head_numbers names k (with_param names k h (param.Mutable t n)) ps (cells_numbers names k h n.text (cell_type k h.scope t) g)
head_numbers names k h (param.Bytes n room ∷ ps) g = head_numbers names k (with_param names k h (param.Bytes n room)) ps (buffer_numbers names h n.text (buffer_room k h.scope room) g)

first_numbers : HasNumbers no_head.scope
first_numbers = record { locals = tt }

-- Definitions

struct_sorted : (names : List (List ℕ)) (k : Known) (d : StructTree) → struct_breaches names k d ≡ [] → IsDefinitionSorted (struct_core names k d)
struct_sorted names k d b =
    let h = struct_head names k d in
    let s = struct_scope k h.scope d.fields in
    let g : HasNumbers s = record { locals = (head_numbers names k no_head d.head.params first_numbers).locals } in
    let one = right_none (params_breaches names k no_head d.head.params) _ b in
    let two = right_none (test_breaches k s d.head.condition) _ one in
    record {
      guard = test_sorted k s d.head.condition g (left_none (test_breaches k s d.head.condition) _ one);
      switch = tt;
      fields = fields_sorted names k h.taken s d.fields g (left_none (fields_breaches k h.taken s d.fields) _ two);
    }

casetype_sorted : (names : List (List ℕ)) (k : Known) (d : CasetypeTree) → casetype_breaches names k d ≡ [] → IsDefinitionSorted (casetype_core names k d)
casetype_sorted names k d b =
    let h = casetype_head names k d in
    let s = h.scope in
    let g : HasNumbers s = head_numbers names k no_head d.head.params first_numbers in
    let w = type_alone (sort_of k s d.subject) in
    let one = right_none (params_breaches names k no_head d.head.params) _ b in
    let two = left_none (switch_breaches k h.taken s d) _ (right_none (test_breaches k s d.head.condition) _ one) in
    let three = right_none (number_breaches k s d.subject) _ two in
    record {
      guard = test_sorted k s d.head.condition g (left_none (test_breaches k s d.head.condition) _ one);
      switch = number_sorted k s d.subject g (left_none (number_breaches k s d.subject) _ two);
      fields = (
        cases_sorted names k h.taken s w [] d.cases g (left_none (cases_breaches k h.taken s w [] d.cases) _ three),
        default_sorted names k (cases_taken h.taken d.cases) s d.default g (right_none (cases_breaches k h.taken s w [] d.cases) _ three),
      );
    }

items_same : (k : Known) (next : Option ℕ) (is : List ItemTree) → (items_after k next is).definitions ≡ k.definitions
items_same k next [] = refl
items_same k next (i ∷ is) = items_same (with_item k next i) (next_value (item_value k next i)) is

after_sorted : (names : List (List ℕ)) (k : Known) (d : Def) → definition_breaches names k d ≡ [] → Each IsDefinitionSorted k.definitions → Each IsDefinitionSorted (after names k d).definitions
after_sorted names k (Define d) b h = h
after_sorted names k (Enum d) b h = subst (Each IsDefinitionSorted) (sym (items_same (with_enum_name k d) (Some 0) d.items)) h
after_sorted names k (Alias d) b h = h
after_sorted names k (Struct d) b h = each_append IsDefinitionSorted k.definitions (struct_core names k d ∷ []) h (struct_sorted names k d b, tt)
after_sorted names k (Casetype d) b h = each_append IsDefinitionSorted k.definitions (casetype_core names k d ∷ []) h (casetype_sorted names k d b, tt)
after_sorted names k (Output d) b h = h

all_sorted : (names : List (List ℕ)) (k : Known) (ds : List Def) → definitions_breaches names k ds ≡ [] → Each IsDefinitionSorted k.definitions → Each IsDefinitionSorted (known_after names k ds).definitions
all_sorted names k [] b h = h
all_sorted names k (d ∷ ds) b h =
    all_sorted names (after names k d) ds (right_none (definition_breaches names k d) _ b) (after_sorted names k d (left_none (definition_breaches names k d) _ b) h)

pub modules_are_sorted : ModulesAreSorted
modules_are_sorted t m s = subst (λ x. Each IsDefinitionSorted x.definitions) (sym s.1) (all_sorted (names_of t) nothing_known t.definitions s.0 tt)
