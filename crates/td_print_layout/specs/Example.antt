-- A module, parts, and their canonical texts, letter by letter (own rule): rows to compare the definition with.
use Rattle.std.specs.Prelude.{◌≡◌, ℕ, true, List, [], ◌∷◌, ◌++◌, flat_map, Some, None, codes}
use Rattle.td_num.specs.declared.number.NumberType.{NumberType}
use Rattle.td_num.specs.declared.number.Width.TheVariants as widths
use Rattle.td_num.specs.declared.number.ByteOrder.TheVariants as orders
use Rattle.td_ast.specs.declared.token.Base.TheVariants as bases
use Rattle.td_ast.specs.declared.names.Name.{Name}
use Rattle.td_ast.specs.declared.names.ConstTree.TheVariants as constants
use Rattle.td_ast.specs.declared.names.PlainTree.TheVariants as plains
use Rattle.td_ast.specs.declared.expressions.UnaryOperator.TheVariants as unaries
use Rattle.td_ast.specs.declared.expressions.BinaryOperator.{BinaryOperator}
use Rattle.td_ast.specs.declared.expressions.BinaryOperator.TheVariants as operators
use Rattle.td_ast.specs.declared.actions.Assigned.TheVariants as values
use Rattle.td_ast.specs.declared.actions.ActionKind.TheVariants as actions
use Rattle.td_ast.specs.declared.actions.ActionTree.TheVariants.{Done, Copied}
use Rattle.td_ast.specs.declared.parameters.ParamTree.TheVariants as params
use Rattle.td_ast.specs.declared.parameters.TargetTree.TheVariants as targets
use Rattle.td_ast.specs.declared.fields.TypeKind.TheVariants as types
use Rattle.td_ast.specs.declared.fields.ExtentTree.TheVariants as extents
use Rattle.td_ast.specs.declared.fields.FieldTree.{FieldTree}
use Rattle.td_ast.specs.declared.definitions.Def.{Def}
use Rattle.td_ast.specs.declared.definitions.Def.TheVariants as defs
use Rattle.td_ast.specs.declared.definitions.ModuleTree.{ModuleTree}
use Rattle.td_ast.specs.declared.parts.PartTree.{PartTree}
use Rattle.td_ast.specs.declared.parts.InputTree.TheVariants.{Module, Parts}
use Rattle.td_ast.specs.Trees as trees
use Rattle.td_ast.specs.Trees.{Tree}
use Rattle.td_ast.specs.Statements as statements
use Rattle.td_print_layout.specs.Definitions.{canonical_text}
use Rattle.td_print_layout.specs.Unspanned.{nowhere}

abbrev named : List ℕ → Name
named text = record { text = text; span = nowhere }

abbrev byte : NumberType
byte = record { width = widths.One; order = orders.LittleEndian }

abbrev word : NumberType
word = record { width = widths.Two; order = orders.BigEndian }

abbrev value : List ℕ → Tree
value text = trees.Name nowhere (named text)

abbrev number : ℕ → Tree
number n = trees.Number nowhere n bases.Decimal

abbrev binary : BinaryOperator → Tree → Tree → Tree
binary o a b = trees.Binary nowhere o nowhere a b

-- (a + 1) * (n - (a - 1)) == !(a << 2)
abbrev refined : Tree
refined =
    let a = value (codes "a") in
    binary operators.Equal (binary operators.Multiply (binary operators.Add a (number 1)) (binary operators.Subtract (value (codes "n")) (binary operators.Subtract a (number 1))))
    (trees.Unary nowhere unaries.Not nowhere (binary operators.ShiftLeft a (number 2)))

abbrev constant : Def
constant = defs.Define (record { name = named (codes "K"); value = record { value = 255; base = bases.Hexadecimal; span = nowhere } })

abbrev enumeration : Def
enumeration =
    defs.Enum (record {
      base = record { number = word; span = nowhere };
      name = named (codes "E");
      items =
          record { name = named (codes "A"); value = Some (constants.Number (record { value = 7; base = bases.Decimal; span = nowhere })) }
          ∷ record { name = named (codes "B"); value = None } ∷ [];
    })

abbrev first : FieldTree
first = record {
  type_tree = record { span = nowhere; kind = types.Number byte };
  name = named (codes "a");
  extent = None;
  refinement = Some refined;
  action = Some (Done actions.Act nowhere []);
}

abbrev second : FieldTree
second = record {
  type_tree = record { span = nowhere; kind = types.Named (codes "T") (value (codes "n") ∷ value (codes "r") ∷ []) };
  name = named (codes "b");
  extent = Some (extents.ByteSize (value (codes "n")));
  refinement = None;
  action = Some (
      Done actions.Check nowhere (
      statements.StoreField nowhere (named (codes "r")) (named (codes "F")) (values.FieldPtr nowhere)
      ∷ statements.IfElse nowhere (value (codes "a")) statements.End (statements.More (statements.Return nowhere (trees.Truth nowhere true)) statements.End) ∷ []));
}

abbrev third : FieldTree
third = record {
  type_tree = record { span = nowhere; kind = types.Number byte };
  name = named (codes "d");
  extent = Some (extents.Bytes (value (codes "n")));
  refinement = None;
  action = Some (Copied nowhere (named (codes "c")));
}

abbrev fourth : FieldTree
fourth = record {
  type_tree = record { span = nowhere; kind = types.Number word };
  name = named (codes "e");
  extent = Some (extents.Given (binary operators.Add (value (codes "a")) (number 1)));
  refinement = Some (binary operators.Less (value (codes "e")) (number 9));
  action = None;
}

abbrev fifth : FieldTree
fifth = record {
  type_tree = record { span = nowhere; kind = types.Number byte };
  name = named (codes "f");
  extent = Some (extents.OfCell nowhere (named (codes "p")));
  refinement = None;
  action = None;
}

abbrev structure : Def
structure =
    defs.Struct (record {
      entry = true;
      tag = named (codes "_S");
      head = record {
        params = params.Value (plains.Number (record { number = byte; span = nowhere })) (named (codes "n")) ∷ params.Mutable (targets.Named (named (codes "O"))) (named (codes "r"))
            ∷ params.Bytes (named (codes "c")) (constants.Named (named (codes "K")))
            ∷ params.Mutable (targets.Number (record { number = byte; span = nowhere })) (named (codes "p")) ∷ [];
        condition = Some (binary operators.Less (value (codes "n")) (number 9));
      };
      fields = first ∷ second ∷ third ∷ fourth ∷ fifth ∷ [];
      name = named (codes "S");
    })

abbrev lines : List (List ℕ) → List ℕ
lines texts = flat_map (λ text. text ++ 10 ∷ []) texts

abbrev worked : ModuleTree
worked = record { definitions = constant ∷ enumeration ∷ structure ∷ [] }

-- the canonical text of these three definitions
abbrev pub WorkedText : Type 0
WorkedText =
    canonical_text (Module worked)
    ≡ lines (
    codes "#define K 0xff"
    ∷ codes ""
    ∷ codes "UINT16BE enum E {"
    ∷ codes "    A = 7,"
    ∷ codes "    B"
    ∷ codes "}"
    ∷ codes ""
    ∷ codes "entrypoint typedef struct _S(UINT8 n, mutable O *r, mutable UINT8 *c[K], mutable UINT8 *p) where n < 9 {"
    ∷ codes "    UINT8 a { (a + 1) * (n - (a - 1)) == !(a << 2) } {:act};"
    ∷ codes "    T(n, r) b[:byte-size n] {:check r->F = field_ptr; if (a) { } else { return true; }};"
    ∷ codes "    UINT8 d[n] {:copy c};"
    ∷ codes "    UINT16BE e = a + 1 { e < 9 };"
    ∷ codes "    UINT8 f = *p;"
    ∷ codes "} S;"
    ∷ []
    )

abbrev alias : Def
alias = defs.Alias (record { target = plains.Named (named (codes "B.U")); name = named (codes "V") })

abbrev part : List ℕ → List Def → PartTree
part name definitions = record { name = named name; definitions = definitions }

-- the canonical text of three parts, of which the last two have no definitions
abbrev pub WorkedParts : Type 0
WorkedParts =
    canonical_text (Parts (part (codes "A") (alias ∷ constant ∷ []) ∷ part (codes "B") [] ∷ part (codes "C") [] ∷ []))
    ≡ lines (
    codes "module A"
    ∷ codes ""
    ∷ codes "typedef B.U V;"
    ∷ codes ""
    ∷ codes "#define K 0xff"
    ∷ codes ""
    ∷ codes "module B"
    ∷ codes ""
    ∷ codes ""
    ∷ codes "module C"
    ∷ codes ""
    ∷ []
    )
