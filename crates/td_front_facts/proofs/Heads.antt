-- A definition has no more parameters, cells and copy buffers than its tree, and no more nodes there.
use Rattle.std.proofs.Common.{◌≡◌, ℕ, ◌+◌, ◌≤◌, List, [], ◌∷◌, length, Option, Some, None, refl, ap, subst, sym, arith, length-append}
use Rattle.std.proofs.lemmas.List.{length-map}
use Rattle.td_front_facts.specs.Imports.{Width, ParamTree, Measure, Meaning, Local, Known, Scope}
use Rattle.td_ast.specs.declared.parameters.TargetTree.{TargetTree}
use Rattle.td_ast.specs.declared.parameters.TargetTree.TheVariants as pointee
use Rattle.td_ast.specs.declared.parameters.ParamTree.TheVariants as param
use Rattle.td_names.specs.Names.{looked_up, number_of}
use Rattle.td_limits.specs.Measures.{Measures, type_cells, type_cells_of}
use Rattle.td_limits.specs.Weights.{target_cells, param_cells}
use Rattle.td_elab_rules.specs.declared.known.CellType.{CellType}
use Rattle.td_elab_rules.specs.declared.known.CellType.TheVariants as cell
use Rattle.td_elab_rules.specs.declared.known.Meaning.TheVariants as meaning
use Rattle.td_elab_rules.specs.declared.parameters.Head.{Head}
use Rattle.td_elab_rules.specs.Known.{found_in, slots_at, local_found, global_found}
use Rattle.td_elab_rules.specs.Parameters.{plain_width, found_cell, cell_type, slot_cell, cells_of, buffer_room, value_head, cell_head, buffer_head, with_param, head_of}
use Rattle.td_core.specs.Weights.{total}
use Rattle.td_front_facts.proofs.Linked.{Linked, AreLinked}

-- ---- parameters

value_count : (names : List (List ℕ)) (h : Head) (x : List ℕ) (o : Option Width) → length (value_head names h x o).params ≤ length h.params + 1
value_count names h x None = omega arith
value_count names h x (Some w) = omega (arith, length-append h.params (record { name = record { number = number_of names x }; width = w } ∷ []))

cell_count : (names : List (List ℕ)) (k : Known) (h : Head) (x : List ℕ) (o : Option CellType) → length (cell_head names k h x o).params ≤ length h.params + 1
cell_count names k h x None = omega arith
cell_count names k h x (Some t) = omega arith

buffer_params : (names : List (List ℕ)) (h : Head) (x : List ℕ) (o : Option ℕ) → length (buffer_head names h x o).params ≤ length h.params + 1
buffer_params names h x None = omega arith
buffer_params names h x (Some room) = omega arith

pub params_count : (names : List (List ℕ)) (k : Known) (h : Head) (ps : List ParamTree) → length (head_of names k h ps).params ≤ length h.params + length ps
params_count names k h [] = omega arith
params_count names k h (param.Value t n ∷ ps) =
    omega (arith, params_count names k (with_param names k h (param.Value t n)) ps, value_count names h n.text (plain_width k h.scope t))
params_count names k h (param.Bytes n room ∷ ps) =
    omega (arith, params_count names k (with_param names k h (param.Bytes n room)) ps, buffer_params names h n.text (buffer_room k h.scope room))
params_count names k h (param.Mutable t n ∷ ps) =
    omega (arith, params_count names k (with_param names k h (param.Mutable t n)) ps, cell_count names k h n.text (cell_type k h.scope t))

-- ---- copy buffers

value_buffers : (names : List (List ℕ)) (h : Head) (x : List ℕ) (o : Option Width) → (value_head names h x o).buffers ≡ h.buffers
value_buffers names h x None = refl
value_buffers names h x (Some w) = refl

cell_buffers : (names : List (List ℕ)) (k : Known) (h : Head) (x : List ℕ) (o : Option CellType) → (cell_head names k h x o).buffers ≡ h.buffers
cell_buffers names k h x None = refl
cell_buffers names k h x (Some t) = refl

buffer_buffers : (names : List (List ℕ)) (h : Head) (x : List ℕ) (o : Option ℕ) → length (buffer_head names h x o).buffers ≤ length h.buffers + 1
buffer_buffers names h x None = omega arith
buffer_buffers names h x (Some room) = omega (arith, length-append h.buffers (record { name = record { number = number_of names x }; room = room } ∷ []))

pub buffers_count : (names : List (List ℕ)) (k : Known) (h : Head) (ps : List ParamTree) → length (head_of names k h ps).buffers ≤ length h.buffers + length ps
buffers_count names k h [] = omega arith
buffers_count names k h (param.Value t n ∷ ps) =
    omega (arith, buffers_count names k (with_param names k h (param.Value t n)) ps, ap length (value_buffers names h n.text (plain_width k h.scope t)))
buffers_count names k h (param.Mutable t n ∷ ps) =
    omega (arith, buffers_count names k (with_param names k h (param.Mutable t n)) ps, ap length (cell_buffers names k h n.text (cell_type k h.scope t)))
buffers_count names k h (param.Bytes n room ∷ ps) =
    omega (arith, buffers_count names k (with_param names k h (param.Bytes n room)) ps, buffer_buffers names h n.text (buffer_room k h.scope room))

-- ---- cells

buffer_visible : (names : List (List ℕ)) (h : Head) (x : List ℕ) (o : Option ℕ) → (buffer_head names h x o).cells ≡ h.cells
buffer_visible names h x None = refl
buffer_visible names h x (Some room) = refl

value_cells : (names : List (List ℕ)) (h : Head) (x : List ℕ) (o : Option Width) → (value_head names h x o).cells ≡ h.cells
value_cells names h x None = refl
value_cells names h x (Some w) = refl

-- how many cells a parameter of this type has
abbrev cells_in : Known → Option CellType → ℕ
cells_in k None = 0
cells_in k (Some (cell.Number t)) = 1
cells_in k (Some cell.Pointer) = 1
cells_in k (Some (cell.Record r)) = length (slots_at k r)

cell_cells : (names : List (List ℕ)) (k : Known) (h : Head) (x : List ℕ) (o : Option CellType) → length (cell_head names k h x o).cells ≤ length h.cells + cells_in k o
cell_cells names k h x None = omega arith
cell_cells names k h x (Some (cell.Number t)) = omega (arith, length-append h.cells (cells_of names k x (cell.Number t)))
cell_cells names k h x (Some cell.Pointer) = omega (arith, length-append h.cells (cells_of names k x cell.Pointer))
cell_cells names k h x (Some (cell.Record r)) = omega (arith, length-append h.cells (cells_of names k x (cell.Record r)), length-map (slots_at k r) (slot_cell names x))

module _ (k : Known) (known : Measures) (link : AreLinked k.definitions k.records k.globals known) where
  global_cells : (o : Option Meaning) (p : Option Measure) → Linked k.definitions k.records o p → cells_in k (found_cell (global_found o)) ≤ type_cells p
  global_cells None p h = omega arith
  global_cells (Some x) None h = absurd h
  global_cells (Some (meaning.Constant n)) (Some m) h = omega arith
  global_cells (Some (meaning.Member n)) (Some m) h = omega arith
  global_cells (Some (meaning.Number t)) (Some m) h = h
  global_cells (Some (meaning.Enum t v)) (Some m) h = omega arith
  global_cells (Some (meaning.Type j)) (Some m) h = omega arith
  global_cells (Some (meaning.Record r)) (Some m) h = h.1

  found_cells : (s : Scope) (n : List ℕ) → cells_in k (found_cell (found_in k s n)) ≤ type_cells_of known n
  found_cells s n = by (looked_up s.locals n)
    where
      by : (o : Option Local) → cells_in k (found_cell (local_found o (global_found (looked_up k.globals n)))) ≤ type_cells_of known n
      by None = global_cells (looked_up k.globals n) (looked_up known n) (link n)
      by (Some l) = omega arith

  pointee_cells : (s : Scope) (t : TargetTree) → cells_in k (cell_type k s t) ≤ target_cells known t
  pointee_cells s (pointee.Number t) = omega arith
  pointee_cells s (pointee.Pointer at) = omega arith
  pointee_cells s (pointee.Named n) = found_cells s n.text

  pub cells_count : (names : List (List ℕ)) (h : Head) (ps : List ParamTree) → length (head_of names k h ps).cells ≤ length h.cells + total (param_cells known) ps
  cells_count names h [] = omega arith
  cells_count names h (param.Value t n ∷ ps) =
      let same = value_cells names h n.text (plain_width k h.scope t) in
      let few : length (value_head names h n.text (plain_width k h.scope t)).cells ≤ length h.cells = subst (λ c. length c ≤ length h.cells) (sym same) (omega arith) in
      omega (arith, cells_count names (with_param names k h (param.Value t n)) ps, few)
  cells_count names h (param.Bytes n room ∷ ps) =
      omega (arith, cells_count names (with_param names k h (param.Bytes n room)) ps, ap length (buffer_visible names h n.text (buffer_room k h.scope room)))
  cells_count names h (param.Mutable t n ∷ ps) =
      omega (arith, cells_count names (with_param names k h (param.Mutable t n)) ps, cell_cells names k h n.text (cell_type k h.scope t), pointee_cells h.scope t)
