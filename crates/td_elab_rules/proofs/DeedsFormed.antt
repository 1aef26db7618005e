-- Core actions are formed.
use Rattle.std.proofs.Common.{◌≡◌, ℕ, zero, suc, ◌+◌, ◌<◌, ◌≤◌, Bool, true, false, cond, List, [], ◌∷◌, ◌++◌, length, refl, sym, subst, arith, Option, Some, None, slice_get, nat_le, length-append}
use Rattle.std.specs.Str.{bytes_eq}
use Rattle.std.proofs.lemmas.Option.{slice_get_within}
use Rattle.td_elab_rules.specs.Imports.{NumberType, Assigned, Value, FieldPtr, ActionTree, Done, Copied, Scalar, ThirtyTwo}
use Rattle.td_ast.specs.Statements.{Statement, Store, StoreField, Var, If, IfElse, Return, Abort, Statements, End, More, block_of}
use Rattle.td_core.specs.Term.{Deed, done, set, keep, fork, answer, give_up}
use Rattle.td_core.specs.WellFormed.{OfSome}
use Rattle.td_core.specs.Copies.{NamesCells}
use Rattle.td_core.specs.Types.{bits, limit, type_of}
use Rattle.td_core.specs.Formed.{Bound, scalar_of, whole, Takes, given, IsDeedFormed, IsActionFormed}
use Rattle.td_elab_rules.specs.declared.actions.Target.{Target}
use Rattle.td_elab_rules.specs.declared.actions.Target.TheVariants as target
use Rattle.td_elab_rules.specs.declared.known.CellType.TheVariants as cell
use Rattle.td_elab_rules.specs.declared.known.Slot.{Slot}
use Rattle.td_elab_rules.specs.declared.known.Local.TheVariants as local
use Rattle.td_elab_rules.specs.declared.known.Found.{Found}
use Rattle.td_elab_rules.specs.declared.known.Found.TheVariants as found
use Rattle.td_elab_rules.specs.declared.known.Known.{Known}
use Rattle.td_elab_rules.specs.declared.known.Scope.{Scope}
use Rattle.td_elab_rules.specs.Known.{found_in, slots_at}
use Rattle.td_elab_rules.specs.Sorts.{core_of, start_core}
use Rattle.td_elab_rules.specs.Actions.{cell_of, slot_cell, slot_at, row_cell, stored_cell, stored_slot, with_read, scope_after, inside, set_core, read_core, statement_core, block_core, action_core}
use Rattle.td_elab_rules.proofs.Scopes.{bounds_of, slot_bound, IsRowThere, get_more, IsScope, IsFoundThere, found_there, local_scope, value_scope, inside_scope, whole_small, whole_pos, core_scoped, start_scoped, start_type}
use Rattle.td_expr.proofs.Widths.{limit_pos, wide_enough}

-- what `*p` names is a cell that holds what it should
abbrev pub IsTargetThere : List Bound → Target → Type 0
IsTargetThere cells target.Unknown = Unit {0}
IsTargetThere cells target.NoCell = Unit {0}
IsTargetThere cells (target.Number c t) = slice_get cells c ≡ Some (whole (scalar_of t.width))
IsTargetThere cells (target.Pointer c) = slice_get cells c ≡ Some (whole ThirtyTwo)

pub cell_there : (k : Known) (bounds cells : List Bound) (f : Found) → IsFoundThere k bounds cells f → IsTargetThere cells (cell_of f)
cell_there k bounds cells found.Nothing h = tt
cell_there k bounds cells (found.Local (local.Cell c (cell.Number t))) h = h
cell_there k bounds cells (found.Local (local.Cell c cell.Pointer)) h = h
cell_there k bounds cells (found.Local (local.Cell c (cell.Record r))) h = tt
cell_there k bounds cells (found.Local (local.Value i w most)) h = tt
cell_there k bounds cells (found.Local local.Unreadable) h = tt
cell_there k bounds cells (found.Local (local.Row c r)) h = tt
cell_there k bounds cells (found.Local (local.Buffer n)) h = tt
cell_there k bounds cells (found.Global m) h = tt

slot_there : (cells : List Bound) (c : ℕ) (t : Option NumberType) → slice_get cells c ≡ Some (slot_bound t) → IsTargetThere cells (slot_cell c t)
slot_there cells c (Some t) h = h
slot_there cells c None h = h

slots_there : (cells : List Bound) (c : ℕ) (slots : List Slot) (f : List ℕ) → IsRowThere cells c slots → IsTargetThere cells (slot_at c slots f)
slots_there cells c [] f h = tt
slots_there cells c (x ∷ xs) f h = by (bytes_eq x.name f) (slots_there cells (c + 1) xs f h.1)
  where
    by : (b : Bool) → IsTargetThere cells (slot_at (c + 1) xs f) → IsTargetThere cells (cond b (slot_cell c x.number) (slot_at (c + 1) xs f))
    by true later = slot_there cells c x.number h.0
    by false later = later

row_there : (k : Known) (bounds cells : List Bound) (g : Found) (f : List ℕ) → IsFoundThere k bounds cells g → IsTargetThere cells (row_cell k g f)
row_there k bounds cells found.Nothing f h = tt
row_there k bounds cells (found.Local (local.Row c r)) f h = slots_there cells c (slots_at k r) f h
row_there k bounds cells (found.Local (local.Cell c t)) f h = tt
row_there k bounds cells (found.Local (local.Value i w most)) f h = tt
row_there k bounds cells (found.Local local.Unreadable) f h = tt
row_there k bounds cells (found.Local (local.Buffer n)) f h = tt
row_there k bounds cells (found.Global m) f h = tt

takes_whole : (cells : List Bound) (c : ℕ) (v w : Scalar) → slice_get cells c ≡ Some (whole w) → limit v ≤ limit w → Takes (slice_get cells c) v
takes_whole cells c v w e le = subst (λ o. Takes o v) (sym e) (omega (arith, le, limit_pos w))

set_formed : (k : Known) (bounds : List Bound) (s : Scope) (t : Target) (rhs : Assigned) (rest : Deed) → IsScope k bounds s → IsTargetThere (bounds_of s.cells) t → IsDeedFormed (bounds_of s.cells) bounds rest → IsDeedFormed (bounds_of s.cells) bounds (set_core k s t rhs rest)
set_formed k bounds s target.Unknown rhs rest h g r = r
set_formed k bounds s target.NoCell rhs rest h g r = r
set_formed k bounds s (target.Number c t) (Value e) rest h g r = by (nat_le (bits (type_of (core_of k s e))) (bits (scalar_of t.width))) refl
  where
    by : (b : Bool) → nat_le (bits (type_of (core_of k s e))) (bits (scalar_of t.width)) ≡ b → IsDeedFormed (bounds_of s.cells) bounds (cond b (set c (core_of k s e) rest) rest)
    by true w = (core_scoped k bounds s e h, (takes_whole (bounds_of s.cells) c (type_of (core_of k s e)) (scalar_of t.width) g (wide_enough (type_of (core_of k s e)) (scalar_of t.width) w), r))
    by false w = r
set_formed k bounds s (target.Number c t) (FieldPtr at) rest h g r = r
set_formed k bounds s (target.Pointer c) (Value e) rest h g r = r
set_formed k bounds s (target.Pointer c) (FieldPtr at) rest h g r =
    (start_scoped bounds s.start h.start, (takes_whole (bounds_of s.cells) c (type_of (start_core s.start)) ThirtyTwo g (start_type s.start), r))

-- the bounds of the values in scope after a `var`
abbrev read_bounds : List Bound → Target → List Bound
read_bounds bounds target.Unknown = bounds
read_bounds bounds target.NoCell = bounds
read_bounds bounds (target.Number c t) = bounds ++ whole (scalar_of t.width) ∷ []
read_bounds bounds (target.Pointer c) = bounds ++ whole ThirtyTwo ∷ []

read_scope : (k : Known) (bounds : List Bound) (s : Scope) (x : List ℕ) (t : Target) → IsScope k bounds s → IsScope k (read_bounds bounds t) (with_read s x t)
read_scope k bounds s x target.Unknown h = local_scope k bounds s x local.Unreadable h tt
read_scope k bounds s x target.NoCell h = local_scope k bounds s x local.Unreadable h tt
read_scope k bounds s x (target.Number c t) h = value_scope k bounds s x (whole (scalar_of t.width)) h (whole_small (scalar_of t.width)) (whole_pos (scalar_of t.width))
read_scope k bounds s x (target.Pointer c) h = value_scope k bounds s x (whole ThirtyTwo) h (whole_small ThirtyTwo) (whole_pos ThirtyTwo)

keeps : (cells bounds : List Bound) (c : ℕ) (b : Bound) (rest : Deed) → slice_get cells c ≡ Some b → IsDeedFormed cells (bounds ++ b ∷ []) rest
    → (c < length cells) × IsDeedFormed cells (given bounds (slice_get cells c)) rest
keeps cells bounds c b rest e r = (slice_get_within cells c b e, subst (λ o. IsDeedFormed cells (given bounds o) rest) (sym e) r)

read_formed : (bounds cells : List Bound) (t : Target) (rest : Deed) → IsTargetThere cells t → IsDeedFormed cells (read_bounds bounds t) rest → IsDeedFormed cells bounds (read_core t rest)
read_formed bounds cells target.Unknown rest g r = r
read_formed bounds cells target.NoCell rest g r = r
read_formed bounds cells (target.Number c t) rest g r = keeps cells bounds c (whole (scalar_of t.width)) rest g r
read_formed bounds cells (target.Pointer c) rest g r = keeps cells bounds c (whole ThirtyTwo) rest g r

-- the bounds after a statement
abbrev bounds_after : Known → List Bound → Scope → Statement → List Bound
bounds_after k bounds s (Store at p rhs) = bounds
bounds_after k bounds s (StoreField at p f rhs) = bounds
bounds_after k bounds s (Var at x star p) = read_bounds bounds (stored_cell k s p)
bounds_after k bounds s (If at e one) = bounds
bounds_after k bounds s (IfElse at e one other) = bounds
bounds_after k bounds s (Return at e) = bounds
bounds_after k bounds s (Abort at) = bounds

scope_there : (k : Known) (bounds : List Bound) (s : Scope) (x : Statement) → IsScope k bounds s → IsScope k (bounds_after k bounds s x) (scope_after k s x)
scope_there k bounds s (Store at p rhs) h = h
scope_there k bounds s (StoreField at p f rhs) h = h
scope_there k bounds s (Var at x star p) h = read_scope k bounds s x.text (stored_cell k s p) h
scope_there k bounds s (If at e one) h = h
scope_there k bounds s (IfElse at e one other) h = h
scope_there k bounds s (Return at e) h = h
scope_there k bounds s (Abort at) h = h

read_cells : (s : Scope) (x : List ℕ) (t : Target) → (with_read s x t).cells ≡ s.cells
read_cells s x target.Unknown = refl
read_cells s x target.NoCell = refl
read_cells s x (target.Number c t) = refl
read_cells s x (target.Pointer c) = refl

cells_after : (k : Known) (s : Scope) (x : Statement) → (scope_after k s x).cells ≡ s.cells
cells_after k s (Store at p rhs) = refl
cells_after k s (StoreField at p f rhs) = refl
cells_after k s (Var at x star p) = read_cells s x.text (stored_cell k s p)
cells_after k s (If at e one) = refl
cells_after k s (IfElse at e one other) = refl
cells_after k s (Return at e) = refl
cells_after k s (Abort at) = refl

mutual
  statement_formed : (k : Known) (x : Statement) (bounds : List Bound) (s : Scope) (rest : Deed) → IsScope k bounds s → IsDeedFormed (bounds_of s.cells) (bounds_after k bounds s x) rest
      → IsDeedFormed (bounds_of s.cells) bounds (statement_core k s x rest)
  statement_formed k (Store at p rhs) bounds s rest h r =
      set_formed k bounds s (stored_cell k s p) rhs rest h (cell_there k bounds (bounds_of s.cells) (found_in k s p.text) (found_there k bounds s p.text h)) r
  statement_formed k (StoreField at p f rhs) bounds s rest h r =
      set_formed k bounds s (stored_slot k s p f) rhs rest h (row_there k bounds (bounds_of s.cells) (found_in k s p.text) f.text (found_there k bounds s p.text h)) r
  statement_formed k (Var at x star p) bounds s rest h r =
      read_formed bounds (bounds_of s.cells) (stored_cell k s p) rest (cell_there k bounds (bounds_of s.cells) (found_in k s p.text) (found_there k bounds s p.text h)) r
  statement_formed k (If at e one) bounds s rest h r = (core_scoped k bounds s e h, (block_formed k one bounds s h, (tt, r)))
  statement_formed k (IfElse at e one other) bounds s rest h r = (core_scoped k bounds s e h, (block_formed k one bounds s h, (block_formed k other bounds s h, r)))
  statement_formed k (Return at e) bounds s rest h r = core_scoped k bounds s e h
  statement_formed k (Abort at) bounds s rest h r = tt

  block_formed : (k : Known) (b : Statements) (bounds : List Bound) (s : Scope) → IsScope k bounds s → IsDeedFormed (bounds_of s.cells) bounds (block_core k s b)
  block_formed k End bounds s h = tt
  block_formed k (More x rest) bounds s h =
      statement_formed k x bounds s (block_core k (scope_after k s x) rest) h
      (subst (λ cells. IsDeedFormed (bounds_of cells) (bounds_after k bounds s x) (block_core k (scope_after k s x) rest)) (cells_after k s x)
      (block_formed k rest (bounds_after k bounds s x) (scope_after k s x) (scope_there k bounds s x h)))

pub action_formed : (k : Known) (bounds : List Bound) (s : Scope) (a : Option ActionTree) → IsScope k bounds s → IsActionFormed (bounds_of s.cells) bounds (action_core k s a)
action_formed k bounds s None h = tt
action_formed k bounds s (Some (Done kind at b)) h = block_formed k (block_of b) (bounds ++ whole ThirtyTwo ∷ []) (inside s) (inside_scope k bounds s h)
action_formed k bounds s (Some (Copied at n)) h = tt

-- An action names cells alone, so it is formed with more behind them

same_more : (cells more : List Bound) (c : ℕ) → c < length cells → slice_get (cells ++ more) c ≡ slice_get cells c
same_more [] more c h = absurd (omega (arith, h))
same_more (b ∷ bs) more zero h = refl
same_more (b ∷ bs) more (suc c) h = same_more bs more c (omega (arith, h))

takes_more : (cells more : List Bound) (c : ℕ) (w : Scalar) → Takes (slice_get cells c) w → Takes (slice_get (cells ++ more) c) w
takes_more cells more c w h = by (slice_get cells c) refl h
  where
    by : (o : Option Bound) → slice_get cells c ≡ o → Takes o w → Takes (slice_get (cells ++ more) c) w
    by None e h = absurd h
    by (Some b) e h = subst (λ o. Takes o w) (sym (get_more cells more c b e)) h

deed_more : (cells more scope : List Bound) (d : Deed) → IsDeedFormed cells scope d → IsDeedFormed (cells ++ more) scope d
deed_more cells more scope done h = tt
deed_more cells more scope (set c e then) h = (h.0, (takes_more cells more c (type_of e) h.1.0, deed_more cells more scope then h.1.1))
deed_more cells more scope (keep c then) h = (
  (let count = length-append cells more in let lt = h.0 in omega (arith, count, lt)),
  subst (λ o. IsDeedFormed (cells ++ more) (given scope o) then) (sym (same_more cells more c h.0)) (deed_more cells more (given scope (slice_get cells c)) then h.1),
)
deed_more cells more scope (fork e one other then) h =
    (h.0, (deed_more cells more scope one h.1.0, (deed_more cells more scope other h.1.1.0, deed_more cells more scope then h.1.1.1)))
deed_more cells more scope (answer e) h = h
deed_more cells more scope give_up h = tt

pub action_more : (cells more scope : List Bound) (a : Option Deed) → IsActionFormed cells scope a → IsActionFormed (cells ++ more) scope a
action_more cells more scope None h = tt
action_more cells more scope (Some d) h = deed_more cells more (scope ++ whole ThirtyTwo ∷ []) d h

-- and names none of the later ones

deed_named : (cells scope : List Bound) (d : Deed) → IsDeedFormed cells scope d → NamesCells (length cells) d
deed_named cells scope done h = tt
deed_named cells scope (set c e then) h = (there (slice_get cells c) refl h.1.0, deed_named cells scope then h.1.1)
  where
    there : (o : Option Bound) → slice_get cells c ≡ o → Takes o (type_of e) → c < length cells
    there None g t = absurd t
    there (Some b) g t = slice_get_within cells c b g
deed_named cells scope (keep c then) h = (h.0, deed_named cells (given scope (slice_get cells c)) then h.1)
deed_named cells scope (fork e one other then) h =
    (deed_named cells scope one h.1.0, (deed_named cells scope other h.1.1.0, deed_named cells scope then h.1.1.1))
deed_named cells scope (answer e) h = tt
deed_named cells scope give_up h = tt

pub action_named : (cells scope : List Bound) (a : Option Deed) → IsActionFormed cells scope a → OfSome (NamesCells (length cells)) a
action_named cells scope None h = tt
action_named cells scope (Some d) h = deed_named cells (scope ++ whole ThirtyTwo ∷ []) d h
