-- The rules of what stands after a field's name: an array's size, a width of bits, or what gives a field without bytes its
-- value (3D manual, "Variable-length structures", "Bitfields"; own rules: `[e]`, the bound of zero-terminated arrays, fields
-- without bytes).
use Rattle.std.specs.Prelude.{ℕ, ◌*◌, Bool, cond, not, ◌&&◌, nat_le, nat_lt, List, [], ◌++◌, Option, Some, None, is_none}
use Rattle.td_num.specs.Numbers.{bytes_in}
use Rattle.td_elab_rules.specs.Imports.{NumberType, TypeTree, ExtentTree, Element, Extent, Once, Filling, OnceFilling, UpToZero}
use Rattle.td_ast.specs.declared.fields.ExtentTree.TheVariants.{Bytes, ByteSize, SingleElement, Zeroterm, Bits, Given, OfCell}
use Rattle.td_core.specs.Term.{Term}
use Rattle.td_core.specs.declared.module.Element.TheVariants as element
use Rattle.td_kinds.specs.Kinds.{element_kind, constant_size}
use Rattle.td_elab_rules.specs.declared.breach.Rule.TheVariants.{Mismatch, NotConstant}
use Rattle.td_elab_rules.specs.declared.breach.Breach.{Breach}
use Rattle.td_elab_rules.specs.declared.known.Known.{Known}
use Rattle.td_elab_rules.specs.declared.known.Scope.{Scope}
use Rattle.td_elab_rules.specs.Breach.{when}
use Rattle.td_elab_rules.specs.Known.{kind_at}
use Rattle.td_elab_rules.specs.Sorts.{core_of}
use Rattle.td_elab_rules.specs.ExprRules.{number_breaches}
use Rattle.td_elab_rules.specs.Types.{number_type, is_byte}
use Rattle.td_elab_rules.specs.Actions.{stored_cell}
use Rattle.td_elab_rules.specs.Given.{tree_breaches, held_breaches, element_number, tree_source, held_source, given_extent}

-- how many bits a base has; what is no number type has none that a width could pass
abbrev pub bits_in : Option NumberType → ℕ
bits_in None = 64
bits_in (Some t) = 8 * bytes_in t.width

-- a width of bits is between 1 and the base's bits
abbrev pub is_width : Option NumberType → ℕ → Bool
is_width base n = nat_lt 0 n && nat_le n (bits_in base)

-- Y1: `[e]` after another type than UINT8; elements up to a zero, the base of bits, or a value that is given, that are no
-- number type.
-- Y3: a width that is none.
abbrev pub extent_breaches : Known → Scope → TypeTree → Option ExtentTree → List Breach
extent_breaches k s t None = []
extent_breaches k s t (Some (Bytes e)) = when (not (is_byte (number_type k s t))) Mismatch t.span ++ number_breaches k s e
extent_breaches k s t (Some (ByteSize e)) = number_breaches k s e
extent_breaches k s t (Some (SingleElement e)) = number_breaches k s e
extent_breaches k s t (Some (Zeroterm e)) = when (is_none (number_type k s t)) Mismatch t.span ++ number_breaches k s e
extent_breaches k s t (Some (Bits n)) =
    when (is_none (number_type k s t)) Mismatch t.span ++ when (not (is_width (number_type k s t) n.value)) NotConstant n.span
extent_breaches k s t (Some (Given e)) = when (is_none (number_type k s t)) Mismatch t.span ++ tree_breaches k s (number_type k s t) e
extent_breaches k s t (Some (OfCell star p)) =
    when (is_none (number_type k s t)) Mismatch t.span ++ held_breaches (number_type k s t) (stored_cell k s p) star p.span

-- the size of each element, where they have one
abbrev pub step_of : Known → Element → Option ℕ
step_of k e = constant_size (element_kind (kind_at k) e)

-- elements up to a zero are numbers; where the rule is broken, what else stands there stands once
abbrev pub zero_ended : Element → Term → Extent
zero_ended (element.Number t) e = UpToZero e
zero_ended (element.Listed t v) e = Once
zero_ended (element.Named j es cells) e = Once
zero_ended element.Unit e = Once
zero_ended element.Rest e = Once
zero_ended element.Zeros e = Once

-- how often an element stands there
abbrev pub extent_core : Known → Scope → Element → Option ExtentTree → Extent
extent_core k s x None = Once
extent_core k s x (Some (Bytes e)) = Filling (core_of k s e) (step_of k x)
extent_core k s x (Some (ByteSize e)) = Filling (core_of k s e) (step_of k x)
extent_core k s x (Some (SingleElement e)) = OnceFilling (core_of k s e) (step_of k x)
extent_core k s x (Some (Zeroterm e)) = zero_ended x (core_of k s e)
extent_core k s x (Some (Bits n)) = Once
extent_core k s x (Some (Given e)) = given_extent (tree_source k s (element_number x) e)
extent_core k s x (Some (OfCell star p)) = given_extent (held_source (element_number x) (stored_cell k s p))

-- how many bits a field has of a number; none where that isn't allowed
abbrev pub allowed : Option NumberType → ℕ → Option ℕ
allowed None n = None
allowed (Some t) n = cond (is_width (Some t) n) (Some n) None

abbrev pub bit_width : Known → Scope → TypeTree → Option ExtentTree → Option ℕ
bit_width k s t None = None
bit_width k s t (Some (Bytes e)) = None
bit_width k s t (Some (ByteSize e)) = None
bit_width k s t (Some (SingleElement e)) = None
bit_width k s t (Some (Zeroterm e)) = None
bit_width k s t (Some (Bits n)) = allowed (number_type k s t) n.value
bit_width k s t (Some (Given e)) = None
bit_width k s t (Some (OfCell star p)) = None
