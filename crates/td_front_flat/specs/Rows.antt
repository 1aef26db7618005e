-- Worked rows: `module A entrypoint typedef struct _T { B.N n; } T; module B typedef struct _N { UINT8 x { x == 1 }; } N;`,
-- and the same where N has a field `A.T t;`, which is a cycle.
use Rattle.std.specs.Prelude.{◌≡◌, ℕ, Bool, true, false, List, [], ◌∷◌, map, Some, None, codes}
use Rattle.td_num.specs.declared.number.NumberType.{NumberType}
use Rattle.td_num.specs.declared.number.Width.TheVariants as widths
use Rattle.td_num.specs.declared.number.ByteOrder.TheVariants as orders
use Rattle.td_ast.specs.declared.token.Span.{Span}
use Rattle.td_ast.specs.declared.token.Base.TheVariants as bases
use Rattle.td_ast.specs.declared.names.Name.{Name}
use Rattle.td_ast.specs.declared.expressions.BinaryOperator.TheVariants as operators
use Rattle.td_ast.specs.declared.fields.TypeKind.{TypeKind}
use Rattle.td_ast.specs.declared.fields.TypeKind.TheVariants as types
use Rattle.td_ast.specs.declared.fields.FieldTree.{FieldTree}
use Rattle.td_ast.specs.declared.definitions.Def.{Def}
use Rattle.td_ast.specs.declared.definitions.Def.TheVariants as defs
use Rattle.td_ast.specs.declared.parts.PartTree.{PartTree}
use Rattle.td_ast.specs.Trees as trees
use Rattle.td_front_order.specs.Order.{order}
use Rattle.td_front_flat.specs.Order.{graph_of, IsCyclic}
use Rattle.td_front_flat.specs.Names.{of_part, spelled}
use Rattle.td_front_flat.specs.Uses.{part_uses}
use Rattle.td_front_flat.specs.Flat.{flat_parts}

abbrev at : ℕ → ℕ → Span
at from to = record { from = from; to = to }

abbrev named : List ℕ → ℕ → ℕ → Name
named text from to = record { text = text; span = at from to }

abbrev byte : NumberType
byte = record { width = widths.One; order = orders.LittleEndian }

abbrev field_of : TypeKind → Span → Name → FieldTree
field_of kind place name = record { type_tree = record { span = place; kind = kind }; name = name; extent = None; refinement = None; action = None }

abbrev struct_of : Bool → List ℕ → List FieldTree → List ℕ → Def
struct_of entry tag fields name =
    defs.Struct (record { entry = entry; tag = named tag 0 0; head = record { params = []; condition = None }; fields = fields; name = named name 0 0 })

abbrev part_a : Bool → PartTree
part_a entry = record { name = named (codes "A") 7 8; definitions = struct_of entry (codes "_T") (field_of (types.Named (codes "B.N") []) (at 29 32) (named (codes "n") 33 34) ∷ []) (codes "T") ∷ [] }

-- x == 1
abbrev tested : List ℕ → FieldTree
tested x = record {
  type_tree = record { span = at 0 0; kind = types.Number byte };
  name = named (codes "x") 0 0;
  extent = None;
  refinement = Some (trees.Binary (at 0 0) operators.Equal (at 0 0) (trees.Name (at 0 0) (named x 0 0)) (trees.Number (at 0 0) 1 bases.Decimal));
  action = None;
}

abbrev part_b : PartTree
part_b = record { name = named (codes "B") 0 0; definitions = struct_of false (codes "_N") (tested (codes "x") ∷ []) (codes "N") ∷ [] }

abbrev back : PartTree
back = record { name = named (codes "B") 0 0; definitions = struct_of false (codes "_N") (field_of (types.Named (codes "A.T") []) (at 60 63) (named (codes "t") 64 65) ∷ []) (codes "N") ∷ [] }

-- B comes first, and its field x stays x; A has the number 0, and B the number 1
abbrev pub FlatRow : Type 0
FlatRow =
    flat_parts (part_a true ∷ part_b ∷ [])
    ≡ record {
      definitions =
          struct_of false (codes "_N") (tested (codes "x") ∷ []) (of_part 1 (codes "N"))
          ∷ struct_of true (codes "_T") (field_of (types.Named (of_part 1 (codes "N")) []) (at 29 32) (named (codes "n") 33 34) ∷ []) (of_part 0 (codes "T")) ∷ [];
    }

-- as they are spelled; a local's name is spelled as it stands
abbrev pub SpelledRow : Type 0
SpelledRow =
    (map (spelled (codes "A" ∷ codes "B" ∷ [])) (of_part 0 (codes "T") ∷ of_part 1 (codes "N") ∷ codes "x" ∷ [])) ≡ codes "A.T" ∷ codes "B.N" ∷ codes "x" ∷ []

-- no part is ready, and the first use, at byte 29, is in a cycle: B uses A
abbrev pub CycleRow : Type 0
CycleRow = (order (graph_of (part_a false ∷ back ∷ [])) ≡ []) × IsCyclic (part_a false ∷ back ∷ []) 0 (named (codes "B") 29 32) × (part_uses (part_a false) ≡ named (codes "B") 29 32 ∷ [])
