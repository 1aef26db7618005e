-- The rules of actions, and the core actions (3D manual, "Actions"; own rules: the shapes of actions, `field_pos` and
-- `field_ptr`).
use Rattle.std.specs.Prelude.{ℕ, ◌+◌, ◌-◌, Bool, true, false, cond, not, ◌||◌, ◌&&◌, nat_le, List, [], ◌∷◌, ◌++◌, Option, Some, None}
use Rattle.std.specs.Str.{bytes_eq}
use Rattle.td_elab_rules.specs.Imports.{NumberType, Span, Name, Assigned, Value, FieldPtr, ActionTree, Done, Copied, ThirtyTwo}
use Rattle.td_ast.specs.declared.actions.ActionKind.{ActionKind}
use Rattle.td_ast.specs.declared.actions.ActionKind.TheVariants.{Act, Check, OnSuccess}
use Rattle.td_ast.specs.Trees.{span_of}
use Rattle.td_ast.specs.Statements.{Statement, Store, StoreField, Var, If, IfElse, Return, Abort, Statements, End, More, block_of}
use Rattle.td_core.specs.Term.{Deed, done, set, keep, fork, answer, give_up}
use Rattle.td_core.specs.Types.{bits, limit, type_of}
use Rattle.td_core.specs.Formed.{scalar_of}
use Rattle.td_names.specs.Names.{is_seen}
use Rattle.td_elab_rules.specs.declared.actions.Target.{Target}
use Rattle.td_elab_rules.specs.declared.actions.Target.TheVariants as target
use Rattle.td_elab_rules.specs.declared.actions.Ways.{Ways}
use Rattle.td_elab_rules.specs.declared.breach.Rule.TheVariants.{Unknown, Twice, WrongArgs, Mismatch, BadAction}
use Rattle.td_elab_rules.specs.declared.breach.Breach.{Breach}
use Rattle.td_elab_rules.specs.declared.known.CellType.TheVariants as cell
use Rattle.td_elab_rules.specs.declared.known.Slot.{Slot}
use Rattle.td_elab_rules.specs.declared.known.Local.TheVariants as local
use Rattle.td_elab_rules.specs.declared.known.Found.{Found}
use Rattle.td_elab_rules.specs.declared.known.Found.TheVariants as found
use Rattle.td_elab_rules.specs.declared.known.Known.{Known}
use Rattle.td_elab_rules.specs.declared.known.Scope.{Scope}
use Rattle.td_elab_rules.specs.declared.known.Taken.{Taken}
use Rattle.td_elab_rules.specs.Breach.{when}
use Rattle.td_elab_rules.specs.Known.{found_in, slots_at, is_literal_name, with_local, with_value, with_outer}
use Rattle.td_elab_rules.specs.Sorts.{core_of, start_core}
use Rattle.td_elab_rules.specs.ExprRules.{number_breaches, truth_breaches, fitting_breaches}

-- Cells

-- `*p`: the one cell that p names
abbrev pub cell_of : Found → Target
cell_of found.Nothing = target.Unknown
cell_of (found.Local (local.Cell c (cell.Number t))) = target.Number c t
cell_of (found.Local (local.Cell c cell.Pointer)) = target.Pointer c
cell_of (found.Local (local.Cell c (cell.Record r))) = target.NoCell
cell_of (found.Local (local.Value i w most)) = target.NoCell
cell_of (found.Local local.Unreadable) = target.NoCell
cell_of (found.Local (local.Row c r)) = target.NoCell
cell_of (found.Local (local.Buffer n)) = target.NoCell
cell_of (found.Global m) = target.NoCell

abbrev pub slot_cell : ℕ → Option NumberType → Target
slot_cell c (Some t) = target.Number c t
slot_cell c None = target.Pointer c

-- the cell of the slot of that name, where the first slot has cell c
abbrev pub slot_at : ℕ → List Slot → List ℕ → Target
slot_at c [] f = target.NoCell
slot_at c (x ∷ xs) f = cond (bytes_eq x.name f) (slot_cell c x.number) (slot_at (c + 1) xs f)

-- `p->f`: the cell for the slot f of the output record that p names
abbrev pub row_cell : Known → Found → List ℕ → Target
row_cell k found.Nothing f = target.Unknown
row_cell k (found.Local (local.Row c r)) f = slot_at c (slots_at k r) f
row_cell k (found.Local (local.Cell c t)) f = target.NoCell
row_cell k (found.Local (local.Value i w most)) f = target.NoCell
row_cell k (found.Local local.Unreadable) f = target.NoCell
row_cell k (found.Local (local.Buffer n)) f = target.NoCell
row_cell k (found.Global m) f = target.NoCell

abbrev pub stored_cell : Known → Scope → Name → Target
stored_cell k s p = cell_of (found_in k s p.text)

abbrev pub stored_slot : Known → Scope → Name → Name → Target
stored_slot k s p f = row_cell k (found_in k s p.text) f.text

-- N1, N4: no such name; no such cell
abbrev pub target_breaches : Target → Span → List Breach
target_breaches target.Unknown at = when true Unknown at
target_breaches target.NoCell at = when true WrongArgs at
target_breaches (target.Number c t) at = []
target_breaches (target.Pointer c) at = []

-- Y1: `field_ptr` to another cell than a pointer's, or a number to that. Y2: a number that is wider than the cell.
abbrev pub stored_breaches : Known → Scope → Target → Assigned → List Breach
stored_breaches k s target.Unknown (Value e) = number_breaches k s e
stored_breaches k s target.NoCell (Value e) = number_breaches k s e
stored_breaches k s (target.Number c t) (Value e) = fitting_breaches k s (scalar_of t.width) e
stored_breaches k s (target.Pointer c) (Value e) = when true Mismatch (span_of e) ++ number_breaches k s e
stored_breaches k s target.Unknown (FieldPtr at) = []
stored_breaches k s target.NoCell (FieldPtr at) = []
stored_breaches k s (target.Number c t) (FieldPtr at) = when true Mismatch at
stored_breaches k s (target.Pointer c) (FieldPtr at) = []

-- Y1: a pointer can't be read
abbrev pub read_breaches : Target → Span → List Breach
read_breaches target.Unknown star = []
read_breaches target.NoCell star = []
read_breaches (target.Number c t) star = []
read_breaches (target.Pointer c) star = when true Mismatch star

-- Statements

-- a `var` is in scope after its statement, up to the end of its block; where no cell is read, it is no number
abbrev pub with_read : Scope → List ℕ → Target → Scope
with_read s x target.Unknown = with_local s x local.Unreadable
with_read s x target.NoCell = with_local s x local.Unreadable
with_read s x (target.Number c t) = with_value s x (scalar_of t.width) (limit (scalar_of t.width) - 1)
with_read s x (target.Pointer c) = with_value s x ThirtyTwo (limit ThirtyTwo - 1)

abbrev pub scope_after : Known → Scope → Statement → Scope
scope_after k s (Store at p rhs) = s
scope_after k s (StoreField at p f rhs) = s
scope_after k s (Var at x star p) = with_read s x.text (stored_cell k s p)
scope_after k s (If at e one) = s
scope_after k s (IfElse at e one other) = s
scope_after k s (Return at e) = s
scope_after k s (Abort at) = s

-- the names that are given after a statement and after a block: those of their `var`s too
abbrev mutual
  pub vars_after : Taken → Statement → Taken
  vars_after t (Store at p rhs) = t
  vars_after t (StoreField at p f rhs) = t
  vars_after t (Var at x star p) = with_outer t x.text
  vars_after t (If at e one) = block_vars t one
  vars_after t (IfElse at e one other) = block_vars (block_vars t one) other
  vars_after t (Return at e) = t
  vars_after t (Abort at) = t

  pub block_vars : Taken → Statements → Taken
  block_vars t End = t
  block_vars t (More x rest) = block_vars (vars_after t x) rest

-- N2: a `var` has another name than all that its definition gave before it, than a constant and than a member
abbrev pub var_breaches : Known → Taken → Name → List Breach
var_breaches k t x = when (is_seen t.all x.text || is_literal_name k x.text) Twice x.span

abbrev mutual
  pub statement_breaches : Known → Taken → Scope → Statement → List Breach
  statement_breaches k t s (Store at p rhs) = target_breaches (stored_cell k s p) p.span ++ stored_breaches k s (stored_cell k s p) rhs
  statement_breaches k t s (StoreField at p f rhs) =
      target_breaches (stored_slot k s p f) p.span ++ stored_breaches k s (stored_slot k s p f) rhs
  statement_breaches k t s (Var at x star p) =
      target_breaches (stored_cell k s p) p.span ++ (read_breaches (stored_cell k s p) star ++ var_breaches k t x)
  statement_breaches k t s (If at e one) = truth_breaches k s e ++ block_breaches k t s one
  statement_breaches k t s (IfElse at e one other) =
      truth_breaches k s e ++ (block_breaches k t s one ++ block_breaches k (block_vars t one) s other)
  statement_breaches k t s (Return at e) = truth_breaches k s e
  statement_breaches k t s (Abort at) = []

  pub block_breaches : Known → Taken → Scope → Statements → List Breach
  block_breaches k t s End = []
  block_breaches k t s (More x rest) =
      statement_breaches k t s x ++ block_breaches k (vars_after t x) (scope_after k s x) rest

-- Paths

-- before the first statement
abbrev pub open_way : Ways
open_way = record { falls = true; returns = false; after = false; closed = false }

-- the paths through what came before, and then through a statement: it is on a path only where one goes on to it
abbrev pub and_then : Ways → Ways → Ways
and_then w u = record {
  falls = w.falls && u.falls;
  returns = w.returns || (w.falls && u.returns);
  after = w.after || (u.after || w.closed);
  closed = w.closed || u.closed;
}

-- either the one or the other
abbrev pub forked : Ways → Ways → Ways
forked one other = record {
  falls = one.falls || other.falls;
  returns = one.returns || other.returns;
  after = one.after || other.after;
  closed = false;
}

abbrev mutual
  pub ways_of : Statement → Ways
  ways_of (Store at p rhs) = open_way
  ways_of (StoreField at p f rhs) = open_way
  ways_of (Var at x star p) = open_way
  ways_of (If at e one) = forked (block_ways open_way one) open_way
  ways_of (IfElse at e one other) = forked (block_ways open_way one) (block_ways open_way other)
  ways_of (Return at e) = record { falls = false; returns = true; after = false; closed = true }
  ways_of (Abort at) = record { falls = false; returns = false; after = false; closed = true }

  pub block_ways : Ways → Statements → Ways
  block_ways w End = w
  block_ways w (More x rest) = block_ways (and_then w (ways_of x)) rest

-- `:act` returns on no path, `:check` on each, `:on-success` on each or on none; a path may end by `abort` instead
abbrev pub is_shaped : ActionKind → Ways → Bool
is_shaped Act w = not w.returns
is_shaped Check w = not w.falls
is_shaped OnSuccess w = not (w.returns && w.falls)

-- Actions

-- inside an action the position of the field is in scope
abbrev pub inside : Scope → Scope
inside s = record { locals = s.locals; levels = s.levels + 1; cells = s.cells; buffers = s.buffers; start = Some s.levels; this = s.this }

-- Y4: an action of another shape than its word says, or with a statement after a `return` or `abort` in its block
abbrev pub shape_breaches : ActionKind → Span → Statements → List Breach
shape_breaches kind at b = when ((block_ways open_way b).after || not (is_shaped kind (block_ways open_way b))) BadAction at

-- of what is copied Copies has the rules
abbrev pub action_breaches : Known → Taken → Scope → Option ActionTree → List Breach
action_breaches k t s None = []
action_breaches k t s (Some (Done kind at b)) = shape_breaches kind at (block_of b) ++ block_breaches k t (inside s) (block_of b)
action_breaches k t s (Some (Copied at n)) = []

-- the names that are given after an action
abbrev pub action_vars : Taken → Option ActionTree → Taken
action_vars t None = t
action_vars t (Some (Done kind at b)) = block_vars t (block_of b)
action_vars t (Some (Copied at n)) = t

-- Core actions. Where a rule is broken, a statement is left out.

abbrev pub set_core : Known → Scope → Target → Assigned → Deed → Deed
set_core k s target.Unknown rhs rest = rest
set_core k s target.NoCell rhs rest = rest
set_core k s (target.Number c t) (Value e) rest = cond (nat_le (bits (type_of (core_of k s e))) (bits (scalar_of t.width))) (set c (core_of k s e) rest) rest
set_core k s (target.Number c t) (FieldPtr at) rest = rest
set_core k s (target.Pointer c) (Value e) rest = rest
set_core k s (target.Pointer c) (FieldPtr at) rest = set c (start_core s.start) rest

abbrev pub read_core : Target → Deed → Deed
read_core target.Unknown rest = rest
read_core target.NoCell rest = rest
read_core (target.Number c t) rest = keep c rest
read_core (target.Pointer c) rest = keep c rest

abbrev mutual
  -- a statement, and what follows it
  pub statement_core : Known → Scope → Statement → Deed → Deed
  statement_core k s (Store at p rhs) rest = set_core k s (stored_cell k s p) rhs rest
  statement_core k s (StoreField at p f rhs) rest = set_core k s (stored_slot k s p f) rhs rest
  statement_core k s (Var at x star p) rest = read_core (stored_cell k s p) rest
  statement_core k s (If at e one) rest = fork (core_of k s e) (block_core k s one) done rest
  statement_core k s (IfElse at e one other) rest = fork (core_of k s e) (block_core k s one) (block_core k s other) rest
  statement_core k s (Return at e) rest = answer (core_of k s e)
  statement_core k s (Abort at) rest = give_up

  pub block_core : Known → Scope → Statements → Deed
  block_core k s End = done
  block_core k s (More x rest) = statement_core k s x (block_core k (scope_after k s x) rest)

abbrev pub action_core : Known → Scope → Option ActionTree → Option Deed
action_core k s None = None
action_core k s (Some (Done kind at b)) = Some (block_core k (inside s) (block_of b))
action_core k s (Some (Copied at n)) = None
