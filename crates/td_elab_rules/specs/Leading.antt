-- `sizeof(this)` (own rule): the size of a struct's leading fields of constant size, before the first array whose size
-- holds it. A field whose type, size or width breaks a rule ends them too, so that no rule is found broken at an earlier
-- place for that.
use Rattle.std.specs.Prelude.{ℕ, ◌+◌, Bool, true, false, cond, ◌||◌, is_some, List, [], ◌∷◌, Option, Some, None}
use Rattle.td_num.specs.Numbers.{bytes_in}
use Rattle.td_elab_rules.specs.Imports.{NumberType, SizeofOperand, TypeKind, ExtentTree, FieldTree}
use Rattle.td_ast.specs.declared.expressions.SizeofOperand.TheVariants as operand
use Rattle.td_ast.specs.declared.fields.TypeKind.TheVariants as type
use Rattle.td_ast.specs.declared.fields.ExtentTree.TheVariants.{Bytes, ByteSize, SingleElement, Zeroterm, Bits, Given, OfCell}
use Rattle.td_ast.specs.Trees.{Tree}
use Rattle.td_ast.specs.Trees as tree
use Rattle.td_expr.specs.Same.{constant_of}
use Rattle.td_kinds.specs.declared.sizes.TheConstants.{SIZE_CAP}
use Rattle.td_kinds.specs.Kinds.{up_to}
use Rattle.td_elab_rules.specs.declared.fields.UnitRoom.{UnitRoom}
use Rattle.td_elab_rules.specs.declared.known.Known.{Known}
use Rattle.td_elab_rules.specs.declared.known.Scope.{Scope}
use Rattle.td_elab_rules.specs.Known.{found_in}
use Rattle.td_elab_rules.specs.Breach.{first_of}
use Rattle.td_elab_rules.specs.Sorts.{size_found, core_of}
use Rattle.td_elab_rules.specs.ExprRules.{is_type, number_breaches}
use Rattle.td_elab_rules.specs.Types.{number_type, is_byte}
use Rattle.td_elab_rules.specs.Extents.{bit_width}
use Rattle.td_elab_rules.specs.BitFields.{fits_room, new_room, more_room}
use Rattle.td_elab_rules.specs.Fields.{with_field}

-- whether `sizeof(this)` is in an expression
abbrev pub is_this : SizeofOperand → Bool
is_this (operand.Number t) = false
is_this (operand.Name n) = false
is_this operand.This = true

abbrev pub holds_this : Tree → Bool
holds_this (tree.Number at n base) = false
holds_this (tree.Truth at b) = false
holds_this (tree.Name at n) = false
holds_this (tree.FieldPos at own) = false
holds_this (tree.Sizeof at own z place) = is_this z
holds_this (tree.RangeOkay at z o a) = holds_this z || (holds_this o || holds_this a)
holds_this (tree.Unary at op own a) = holds_this a
holds_this (tree.Binary at op own a b) = holds_this a || holds_this b
holds_this (tree.Choice at own c a b) = holds_this c || (holds_this a || holds_this b)

-- the size of an array, where it breaks no rule; none past 2^32, as kinds have it
abbrev pub array_size : Known → Scope → Tree → Option ℕ
array_size k s e = cond (holds_this e || is_some (first_of None (number_breaches k s e))) None (up_to SIZE_CAP (constant_of (core_of k s e)))

-- the size of a type, whatever its arguments
abbrev pub kind_size : Known → Scope → TypeKind → Option ℕ
kind_size k s (type.Number t) = Some (bytes_in t.width)
kind_size k s type.Unit = Some 0
kind_size k s type.AllBytes = None
kind_size k s type.AllZeros = None
kind_size k s (type.Named n args) = up_to SIZE_CAP (size_found k (found_in k s n))

abbrev pub names_type : Known → Scope → TypeKind → Bool
names_type k s (type.Number t) = true
names_type k s type.Unit = true
names_type k s type.AllBytes = true
names_type k s type.AllZeros = true
names_type k s (type.Named n args) = is_type (found_in k s n)

-- a leading field: its size, and the unit of bit fields that is open after it
abbrev pub Leading : Type 0
Leading = Option (ℕ × Option UnitRoom)

abbrev pub sized : Option ℕ → Leading
sized None = None
sized (Some n) = Some (n, None)

-- bits that fit in the open unit take nothing more
abbrev pub unit_size : Option UnitRoom → NumberType → ℕ → Leading
unit_size None t w = Some (bytes_in t.width, Some (new_room t w))
unit_size (Some u) t w = cond (fits_room (Some u) t w) (Some (0, Some (more_room u w))) (Some (bytes_in t.width, Some (new_room t w)))

abbrev pub bits_size : Option UnitRoom → Option NumberType → Option ℕ → Leading
bits_size room None w = None
bits_size room (Some t) None = None
bits_size room (Some t) (Some w) = unit_size room t w

-- a value that is given takes no bytes
abbrev pub given_size : Option NumberType → Leading
given_size None = None
given_size (Some t) = sized (Some 0)

abbrev pub extent_size : Known → Scope → Option UnitRoom → FieldTree → Option ExtentTree → Leading
extent_size k s room f None = sized (kind_size k s f.type_tree.kind)
extent_size k s room f (Some (Bytes e)) = cond (is_byte (number_type k s f.type_tree)) (sized (array_size k s e)) None
extent_size k s room f (Some (ByteSize e)) = sized (array_size k s e)
extent_size k s room f (Some (SingleElement e)) = sized (array_size k s e)
extent_size k s room f (Some (Zeroterm e)) = None
extent_size k s room f (Some (Bits n)) = bits_size room (number_type k s f.type_tree) (bit_width k s f.type_tree f.extent)
extent_size k s room f (Some (Given e)) = given_size (number_type k s f.type_tree)
extent_size k s room f (Some (OfCell star p)) = given_size (number_type k s f.type_tree)

abbrev pub leading_field : Known → Scope → Option UnitRoom → FieldTree → Leading
leading_field k s room f = cond (names_type k s f.type_tree.kind) (extent_size k s room f f.extent) None

abbrev pub leading_size : Known → Scope → Option UnitRoom → List FieldTree → ℕ
leading_size k s room [] = 0
leading_size k s room (f ∷ fs) = elim (leading_field k s room f) [
  | None ↦ 0
  | Some (n, after) ↦ n + leading_size k (with_field k s f) after fs
]
