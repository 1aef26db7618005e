-- What a scope says of its local names, and that core expressions stand in it. The bounds are those of the values in scope.
use Rattle.std.proofs.Common.{◌≡◌, ℕ, zero, suc, ◌+◌, ◌-◌, ◌<◌, ◌≤◌, Bool, true, false, cond, if◌then◌else◌, List, [], ◌∷◌, ◌++◌, length, map, refl, ap, ◌∙◌, subst, arith, Option, Some, None, slice_get, is_some, nat_lt, lit<, length-append}
use Rattle.std.specs.Str.{bytes_eq}
use Rattle.std.proofs.lemmas.Bool.{ltb-true}
use Rattle.std.proofs.lemmas.Option.{none-some, same_Some}
use Rattle.td_elab_rules.specs.Imports.{NumberType, UnaryOperator, Not, Complement, Span, Scalar, Truth, Eight, Sixteen, ThirtyTwo, SixtyFour, CellKind}
use Rattle.td_ast.specs.Trees.{Tree}
use Rattle.td_ast.specs.Trees as tree
use Rattle.td_core.specs.Term.{Term, number}
use Rattle.td_core.specs.Types.{limit, wider, type_of}
use Rattle.td_core.specs.Formed.{Bound, scalar_of, whole, cell_bound, IsScoped, IsOptionScoped}
use Rattle.td_names.specs.Names.{looked_up, declared}
use Rattle.td_elab_rules.specs.declared.expressions.Sort.{Sort}
use Rattle.td_elab_rules.specs.declared.expressions.Sort.TheVariants as sort
use Rattle.td_elab_rules.specs.declared.expressions.Operation.{Operation}
use Rattle.td_elab_rules.specs.declared.expressions.Operation.TheVariants.{Computes, Compares, Both, Either}
use Rattle.td_elab_rules.specs.declared.known.CellType.{CellType}
use Rattle.td_elab_rules.specs.declared.known.CellType.TheVariants as cell
use Rattle.td_elab_rules.specs.declared.known.Slot.{Slot}
use Rattle.td_elab_rules.specs.declared.known.Meaning.{Meaning}
use Rattle.td_elab_rules.specs.declared.known.Meaning.TheVariants as meaning
use Rattle.td_elab_rules.specs.declared.known.Local.{Local}
use Rattle.td_elab_rules.specs.declared.known.Local.TheVariants as local
use Rattle.td_elab_rules.specs.declared.known.Found.{Found}
use Rattle.td_elab_rules.specs.declared.known.Found.TheVariants as found
use Rattle.td_elab_rules.specs.declared.known.Known.{Known}
use Rattle.td_elab_rules.specs.declared.known.Scope.{Scope}
use Rattle.td_elab_rules.specs.Known.{slots_at, global_found, local_found, found_in, with_local, with_level, with_value}
use Rattle.td_elab_rules.specs.Sorts.{operation, narrowest, literal_type, sort_of, literal_of, found_core, start_core, size_core, truth_core, beside, unary_core, operation_core, range_core, core_of, option_core, size_named}
use Rattle.td_expr.proofs.Widths.{limit_pos}

-- Limits of types

pub whole_small : (w : Scalar) → (whole w).most < limit w
whole_small w = omega (arith, limit_pos w)

pub whole_pos : (w : Scalar) → 0 < (whole w).most
whole_pos Truth = lit< tt
whole_pos Eight = lit< tt
whole_pos Sixteen = lit< tt
whole_pos ThirtyTwo = lit< tt
whole_pos SixtyFour = lit< tt

-- Lists

pub get_more : {A : Type 0} (xs ys : List A) (i : ℕ) (x : A) → slice_get xs i ≡ Some x → slice_get (xs ++ ys) i ≡ Some x
get_more [] ys i x e = absurd (none-some x e)
get_more (z ∷ xs) ys zero x e = e
get_more (z ∷ xs) ys (suc i) x e = get_more xs ys i x e

pub get_end : {A : Type 0} (xs : List A) (x : A) → slice_get (xs ++ x ∷ []) (length xs) ≡ Some x
get_end [] x = refl
get_end (z ∷ xs) x = get_end xs x

-- Local names

-- what the cells of a scope may hold
abbrev pub bounds_of : List CellKind → List Bound
bounds_of cells = map cell_bound cells

-- both cells of each copy buffer
abbrev pub room_bounds : List ℕ → List Bound
room_bounds [] = []
room_bounds (r ∷ rs) = whole ThirtyTwo ∷ whole ThirtyTwo ∷ room_bounds rs

-- the cells of a scope, and behind them those of its copy buffers
abbrev pub own_of : Scope → List Bound
own_of s = bounds_of s.cells ++ room_bounds s.buffers

abbrev pub slot_bound : Option NumberType → Bound
slot_bound (Some t) = whole (scalar_of t.width)
slot_bound None = whole ThirtyTwo

abbrev pub IsCellThere : List Bound → ℕ → CellType → Type 0
IsCellThere cells c (cell.Number t) = slice_get cells c ≡ Some (whole (scalar_of t.width))
IsCellThere cells c cell.Pointer = slice_get cells c ≡ Some (whole ThirtyTwo)
IsCellThere cells c (cell.Record r) = Unit {0}

-- the cells of a record stand one after the other
abbrev pub IsRowThere : List Bound → ℕ → List Slot → Type 0
IsRowThere cells c [] = Unit {0}
IsRowThere cells c (x ∷ xs) = (slice_get cells c ≡ Some (slot_bound x.number)) × IsRowThere cells (c + 1) xs

abbrev pub IsLocalThere : Known → (bounds cells : List Bound) → Local → Type 0
IsLocalThere k bounds cells (local.Value i w most) = (slice_get bounds i ≡ Some (record { type = w; most = most })) × (most < limit w) × (0 < most)
IsLocalThere k bounds cells local.Unreadable = Unit {0}
IsLocalThere k bounds cells (local.Cell c t) = IsCellThere cells c t
IsLocalThere k bounds cells (local.Row c r) = IsRowThere cells c (slots_at k r)
IsLocalThere k bounds cells (local.Buffer n) = Unit {0}

abbrev pub AreLocalsThere : Known → (bounds cells : List Bound) → List (List ℕ × Local) → Type 0
AreLocalsThere k bounds cells [] = Unit {0}
AreLocalsThere k bounds cells (l ∷ ls) = IsLocalThere k bounds cells l.1 × AreLocalsThere k bounds cells ls

abbrev pub IsStartThere : List Bound → Option ℕ → Type 0
IsStartThere bounds None = Unit {0}
IsStartThere bounds (Some i) = slice_get bounds i ≡ Some (whole ThirtyTwo)

-- a scope with values of these bounds
pub record IsScope (k : Known) (bounds : List Bound) (s : Scope) : Type 0 where
  pub locals : AreLocalsThere k bounds (bounds_of s.cells) s.locals
  pub start : IsStartThere bounds s.start
  pub levels : length bounds ≡ s.levels

abbrev pub IsFoundThere : Known → (bounds cells : List Bound) → Found → Type 0
IsFoundThere k bounds cells found.Nothing = Unit {0}
IsFoundThere k bounds cells (found.Local l) = IsLocalThere k bounds cells l
IsFoundThere k bounds cells (found.Global m) = Unit {0}

looked : (k : Known) (bounds cells : List Bound) (ls : List (List ℕ × Local)) (name : List ℕ) (l : Local) → AreLocalsThere k bounds cells ls → looked_up ls name ≡ Some l → IsLocalThere k bounds cells l
looked k bounds cells [] name l h e = absurd (none-some l e)
looked k bounds cells (x ∷ ls) name l h e = by (looked k bounds cells ls name l h.1) (bytes_eq name x.0) e
  where
    by : (looked_up ls name ≡ Some l → IsLocalThere k bounds cells l) → (b : Bool) → (if b then Some x.1 else looked_up ls name) ≡ Some l → IsLocalThere k bounds cells l
    by later true e = subst (λ y. IsLocalThere k bounds cells y) (same_Some x.1 l e) h.0
    by later false e = later e

global_there : (k : Known) (bounds cells : List Bound) (m : Option Meaning) → IsFoundThere k bounds cells (global_found m)
global_there k bounds cells None = tt
global_there k bounds cells (Some m) = tt

pub found_there : (k : Known) (bounds : List Bound) (s : Scope) (name : List ℕ) → IsScope k bounds s → IsFoundThere k bounds (bounds_of s.cells) (found_in k s name)
found_there k bounds s name h = by (looked_up s.locals name) refl
  where
    by : (o : Option Local) → looked_up s.locals name ≡ o → IsFoundThere k bounds (bounds_of s.cells) (local_found o (global_found (looked_up k.globals name)))
    by None e = global_there k bounds (bounds_of s.cells) (looked_up k.globals name)
    by (Some l) e = looked k bounds (bounds_of s.cells) s.locals name l h.locals e

-- More values in scope

local_more : (k : Known) (bounds more cells : List Bound) (l : Local) → IsLocalThere k bounds cells l → IsLocalThere k (bounds ++ more) cells l
local_more k bounds more cells (local.Value i w most) h = (get_more bounds more i (record { type = w; most = most }) h.0, h.1, h.2)
local_more k bounds more cells local.Unreadable h = tt
local_more k bounds more cells (local.Cell c t) h = h
local_more k bounds more cells (local.Row c r) h = h
local_more k bounds more cells (local.Buffer n) h = tt

pub locals_more : (k : Known) (bounds more cells : List Bound) (ls : List (List ℕ × Local)) → AreLocalsThere k bounds cells ls → AreLocalsThere k (bounds ++ more) cells ls
locals_more k bounds more cells [] h = tt
locals_more k bounds more cells (l ∷ ls) h = (local_more k bounds more cells l.1 h.0, locals_more k bounds more cells ls h.1)

locals_push : (k : Known) (bounds cells : List Bound) (ls : List (List ℕ × Local)) (l : List ℕ × Local) → AreLocalsThere k bounds cells ls → IsLocalThere k bounds cells l.1 → AreLocalsThere k bounds cells (ls ++ l ∷ [])
locals_push k bounds cells [] l h g = (g, tt)
locals_push k bounds cells (x ∷ ls) l h g = (h.0, locals_push k bounds cells ls l h.1 g)

pub locals_declared : (k : Known) (bounds cells : List Bound) (ls : List (List ℕ × Local)) (x : List ℕ) (l : Local) → AreLocalsThere k bounds cells ls → IsLocalThere k bounds cells l → AreLocalsThere k bounds cells (declared ls x l)
locals_declared k bounds cells ls x l h g = by (is_some (looked_up ls x))
  where
    by : (b : Bool) → AreLocalsThere k bounds cells (if b then ls else ls ++ (x, l) ∷ [])
    by true = h
    by false = locals_push k bounds cells ls (x, l) h g

start_more : (bounds more : List Bound) (o : Option ℕ) → IsStartThere bounds o → IsStartThere (bounds ++ more) o
start_more bounds more None h = tt
start_more bounds more (Some i) h = get_more bounds more i (whole ThirtyTwo) h

levels_more : (bounds : List Bound) (b : Bound) (n : ℕ) → length bounds ≡ n → length (bounds ++ b ∷ []) ≡ n + 1
levels_more bounds b n e = length-append bounds (b ∷ []) ∙ ap (λ m. m + 1) e

pub local_scope : (k : Known) (bounds : List Bound) (s : Scope) (x : List ℕ) (l : Local) → IsScope k bounds s → IsLocalThere k bounds (bounds_of s.cells) l → IsScope k bounds (with_local s x l)
local_scope k bounds s x l h g = record { locals = locals_declared k bounds (bounds_of s.cells) s.locals x l h.locals g; start = h.start; levels = h.levels }

-- a local name that may speak of the value that comes with it
pub level_scope : (k : Known) (bounds : List Bound) (s : Scope) (x : List ℕ) (l : Local) (b : Bound) → IsScope k bounds s → IsLocalThere k (bounds ++ b ∷ []) (bounds_of s.cells) l → IsScope k (bounds ++ b ∷ []) (with_level (with_local s x l))
level_scope k bounds s x l b h g = record {
  locals = locals_declared k (bounds ++ b ∷ []) (bounds_of s.cells) s.locals x l (locals_more k bounds (b ∷ []) (bounds_of s.cells) s.locals h.locals) g;
  start = start_more bounds (b ∷ []) s.start h.start;
  levels = levels_more bounds b s.levels h.levels;
}

-- the value at the next level
get_level : (bounds : List Bound) (b : Bound) (n : ℕ) → length bounds ≡ n → slice_get (bounds ++ b ∷ []) n ≡ Some b
get_level bounds b n e = subst (λ m. slice_get (bounds ++ b ∷ []) m ≡ Some b) e (get_end bounds b)

-- one more value by its name
pub value_scope : (k : Known) (bounds : List Bound) (s : Scope) (x : List ℕ) (b : Bound) → IsScope k bounds s → b.most < limit b.type → 0 < b.most → IsScope k (bounds ++ b ∷ []) (with_value s x b.type b.most)
value_scope k bounds s x b h small positive = level_scope k bounds s x (local.Value s.levels b.type b.most) b h (get_level bounds b s.levels h.levels, small, positive)

pub inside_scope : (k : Known) (bounds : List Bound) (s : Scope) → IsScope k bounds s → IsScope k (bounds ++ whole ThirtyTwo ∷ []) (record { locals = s.locals; levels = s.levels + 1; cells = s.cells; buffers = s.buffers; start = Some s.levels; this = s.this })
inside_scope k bounds s h = record {
  locals = locals_more k bounds (whole ThirtyTwo ∷ []) (bounds_of s.cells) s.locals h.locals;
  start = get_level bounds (whole ThirtyTwo) s.levels h.levels;
  levels = levels_more bounds (whole ThirtyTwo) s.levels h.levels;
}

-- More cells

row_more : (cells more : List Bound) (c : ℕ) (slots : List Slot) → IsRowThere cells c slots → IsRowThere (cells ++ more) c slots
row_more cells more c [] h = tt
row_more cells more c (x ∷ xs) h = (get_more cells more c (slot_bound x.number) h.0, row_more cells more (c + 1) xs h.1)

cell_more : (cells more : List Bound) (c : ℕ) (t : CellType) → IsCellThere cells c t → IsCellThere (cells ++ more) c t
cell_more cells more c (cell.Number t) h = get_more cells more c (whole (scalar_of t.width)) h
cell_more cells more c cell.Pointer h = get_more cells more c (whole ThirtyTwo) h
cell_more cells more c (cell.Record r) h = tt

local_cells : (k : Known) (bounds cells more : List Bound) (l : Local) → IsLocalThere k bounds cells l → IsLocalThere k bounds (cells ++ more) l
local_cells k bounds cells more (local.Value i w most) h = h
local_cells k bounds cells more local.Unreadable h = tt
local_cells k bounds cells more (local.Cell c t) h = cell_more cells more c t h
local_cells k bounds cells more (local.Row c r) h = row_more cells more c (slots_at k r) h
local_cells k bounds cells more (local.Buffer n) h = tt

pub locals_cells : (k : Known) (bounds cells more : List Bound) (ls : List (List ℕ × Local)) → AreLocalsThere k bounds cells ls → AreLocalsThere k bounds (cells ++ more) ls
locals_cells k bounds cells more [] h = tt
locals_cells k bounds cells more (l ∷ ls) h = (local_cells k bounds cells more l.1 h.0, locals_cells k bounds cells more ls h.1)

-- Core expressions

literal_scoped : (scope : List Bound) (n : ℕ) (w : Scalar) → IsScoped scope (literal_of n w)
literal_scoped scope n w = by (nat_lt n (limit w)) refl
  where
    by : (b : Bool) → nat_lt n (limit w) ≡ b → IsScoped scope (cond b (number n w) (number 0 w))
    by true e = ltb-true n (limit w) e
    by false e = limit_pos w

found_scoped : (k : Known) (bounds cells : List Bound) (f : Found) → IsFoundThere k bounds cells f → IsScoped bounds (found_core f)
found_scoped k bounds cells found.Nothing h = limit_pos Truth
found_scoped k bounds cells (found.Local (local.Value i w most)) h = h
found_scoped k bounds cells (found.Local local.Unreadable) h = limit_pos Truth
found_scoped k bounds cells (found.Local (local.Cell c t)) h = limit_pos Truth
found_scoped k bounds cells (found.Local (local.Row c r)) h = limit_pos Truth
found_scoped k bounds cells (found.Local (local.Buffer n)) h = limit_pos Truth
found_scoped k bounds cells (found.Global (meaning.Constant n)) h = literal_scoped bounds n (narrowest n)
found_scoped k bounds cells (found.Global (meaning.Member n)) h = literal_scoped bounds n (narrowest n)
found_scoped k bounds cells (found.Global (meaning.Number t)) h = limit_pos Truth
found_scoped k bounds cells (found.Global (meaning.Enum t v)) h = limit_pos Truth
found_scoped k bounds cells (found.Global (meaning.Type j)) h = limit_pos Truth
found_scoped k bounds cells (found.Global (meaning.Record r)) h = limit_pos Truth

pub start_scoped : (bounds : List Bound) (o : Option ℕ) → IsStartThere bounds o → IsScoped bounds (start_core o)
start_scoped bounds None h = limit_pos ThirtyTwo
start_scoped bounds (Some i) h = (h, whole_small ThirtyTwo, whole_pos ThirtyTwo)

size_scoped : (bounds : List Bound) (o : Option ℕ) → IsScoped bounds (size_core o)
size_scoped bounds None = limit_pos Truth
size_scoped bounds (Some n) = literal_scoped bounds n (narrowest n)

truth_scoped : (bounds : List Bound) (b : Bool) → IsScoped bounds (truth_core b)
truth_scoped bounds true = lit< tt
truth_scoped bounds false = lit< tt

beside_scoped : (bounds : List Bound) (a other : Sort) (e : Term) → IsScoped bounds e → IsScoped bounds (beside a other e)
beside_scoped bounds (sort.Literal n) other e h = literal_scoped bounds n (literal_type n other)
beside_scoped bounds sort.Broken other e h = h
beside_scoped bounds sort.Untyped other e h = h
beside_scoped bounds sort.Truth other e h = h
beside_scoped bounds (sort.Typed w) other e h = h

unary_scoped : (bounds : List Bound) (op : UnaryOperator) (e : Term) → IsScoped bounds e → IsScoped bounds (unary_core op e)
unary_scoped bounds Not e h = h
unary_scoped bounds Complement e h = h

operation_scoped : (bounds : List Bound) (o : Operation) (at : Span) (s t : Sort) (a b : Term) → IsScoped bounds a → IsScoped bounds b → IsScoped bounds (operation_core o at s t a b)
operation_scoped bounds (Computes op) at s t a b h g = (beside_scoped bounds s t a h, beside_scoped bounds t s b g)
operation_scoped bounds (Compares r) at s t a b h g = (beside_scoped bounds s t a h, beside_scoped bounds t s b g)
operation_scoped bounds Both at s t a b h g = (h, g)
operation_scoped bounds Either at s t a b h g = (h, g)

range_scoped : (bounds : List Bound) (s o a : Sort) (size offset access : Term) → IsScoped bounds size → IsScoped bounds offset → IsScoped bounds access → IsScoped bounds (range_core s o a size offset access)
range_scoped bounds s o a size offset access h g i =
    let total = beside s a size in
    let part = beside a s access in (
      beside_scoped bounds s a size h,
      (beside_scoped bounds o (sort.Typed (wider (type_of total) (type_of part))) offset g, beside_scoped bounds a s access i),
    )

pub core_scoped : (k : Known) (bounds : List Bound) (s : Scope) (e : Tree) → IsScope k bounds s → IsScoped bounds (core_of k s e)
core_scoped k bounds s (tree.Number at n base) h = literal_scoped bounds n (narrowest n)
core_scoped k bounds s (tree.Truth at b) h = truth_scoped bounds b
core_scoped k bounds s (tree.Name at n) h = found_scoped k bounds (bounds_of s.cells) (found_in k s n.text) (found_there k bounds s n.text h)
core_scoped k bounds s (tree.FieldPos at own) h = start_scoped bounds s.start h.start
core_scoped k bounds s (tree.Sizeof at own z place) h = size_scoped bounds (size_named k s z)
core_scoped k bounds s (tree.RangeOkay at z o a) h =
    range_scoped bounds (sort_of k s z) (sort_of k s o) (sort_of k s a) (core_of k s z) (core_of k s o) (core_of k s a)
    (core_scoped k bounds s z h) (core_scoped k bounds s o h) (core_scoped k bounds s a h)
core_scoped k bounds s (tree.Unary at op own a) h = unary_scoped bounds op (core_of k s a) (core_scoped k bounds s a h)
core_scoped k bounds s (tree.Binary at op own a b) h =
    operation_scoped bounds (operation op) own (sort_of k s a) (sort_of k s b) (core_of k s a) (core_of k s b) (core_scoped k bounds s a h) (core_scoped k bounds s b h)
core_scoped k bounds s (tree.Choice at own c a b) h = (
  core_scoped k bounds s c h,
  (
    beside_scoped bounds (sort_of k s a) (sort_of k s b) (core_of k s a) (core_scoped k bounds s a h),
    beside_scoped bounds (sort_of k s b) (sort_of k s a) (core_of k s b) (core_scoped k bounds s b h),
  ),
)

pub option_scoped : (k : Known) (bounds : List Bound) (s : Scope) (e : Option Tree) → IsScope k bounds s → IsOptionScoped bounds (option_core k s e)
option_scoped k bounds s None h = tt
option_scoped k bounds s (Some e) h = core_scoped k bounds s e h

pub start_type : (o : Option ℕ) → limit (type_of (start_core o)) ≤ limit ThirtyTwo
start_type None = omega arith
start_type (Some i) = omega arith
