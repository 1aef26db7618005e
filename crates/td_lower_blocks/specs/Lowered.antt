-- A module's definitions as code in blocks (own rule; docs/language/code.md). A value in scope has its level as register:
-- parameters first, then the parts of fields, the place of a field in its action, and what an action reads.
use Rattle.std.specs.Prelude.{ℕ, zero, suc, ◌+◌, ◌-◌, ◌^◌, Bool, true, false, cond, nat_lt, List, [], ◌∷◌, length, Option, Some, None, slice_get}
use Rattle.td_num.specs.Numbers.{bytes_in}
use Rattle.td_num.specs.declared.number.NumberType.{NumberType}
use Rattle.td_num.specs.declared.number.ByteOrder.{ByteOrder}
use Rattle.td_num.specs.declared.number.ByteOrder.TheVariants.{LittleEndian, BigEndian}
use Rattle.td_core.specs.declared.expressions.Relation.{Relation}
use Rattle.td_core.specs.declared.expressions.Relation.TheVariants.{Equal, NotEqual, Less, LessEqual, Greater, GreaterEqual}
use Rattle.td_lower_blocks.specs.Imports.{Binary as Operator, Add, Subtract, Multiply, Divide, Remainder, BitAnd, BitOr, BitXor, ShiftLeft as ShiftLeftOp, ShiftRight, Element, Number, Listed, Named, Unit as UnitElement, Rest, Zeros, Extent, Once, Filling, OnceFilling, UpToZero, Given, Source, Expression, FromCell, Left, Bits as BitField, CopyOut, Part as PartDef, Field as FieldDef, Case as CaseDef, Body as BodyDef, Struct as StructDef, Casetype as CasetypeDef, TypeDef}
use Rattle.td_core.specs.Types.{limit, type_of}
use Rattle.td_core.specs.Term.{Term, number, name, complement, negation, compute, compare, both, either, choice, range_okay, Deed, done, set, keep, fork, answer, give_up}
use Rattle.td_expr.specs.Same.{constant_of}
use Rattle.td_meaning.specs.Naming.{is_needed}
use Rattle.td_meaning.specs.Meaning.{divides, equals}
use Rattle.td_ir.specs.declared.instructions.Instr.TheVariants as i
use Rattle.td_lower_blocks.specs.Block.{Block, Stop}
use Rattle.td_lower_blocks.specs.Constructs.{Expr, Lit, Slot, Binary, Not, Complement, ShiftLeft, Both, Either, Choice, Range, Action, Finish, Assign, Read, If, Return, Abort, Inner, Nothing, Evenly, Exactly, Uneven, All, Zeroes, OneCall, OneListed, EachCall, EachListed, CopyAll, Steps, End, Start, Place, Skipped, Number as NumberStep, Listed as ListedStep, Part, Computed, Kept, Remaining, Test, Act, Named as NamedStep, AllBytes, AllZeros, ZeroEnd, Copied, Never, Arguments, BySize, ByConstant, Cases, Case, Default, NoDefault, Body, Struct, Casetype, Where, body}

-- Expressions

abbrev pub computed_of : Operator → ℕ → Expr → Expr → Expr
computed_of Add mask a b = Binary 0 a b
computed_of Subtract mask a b = Binary 1 a b
computed_of Multiply mask a b = Binary 2 a b
computed_of Divide mask a b = Binary 3 a b
computed_of Remainder mask a b = Binary 4 a b
computed_of BitAnd mask a b = Binary 5 a b
computed_of BitOr mask a b = Binary 6 a b
computed_of BitXor mask a b = Binary 7 a b
computed_of ShiftLeftOp mask a b = ShiftLeft mask a b
computed_of ShiftRight mask a b = Binary 9 a b

abbrev pub compared_of : Relation → Expr → Expr → Expr
compared_of Equal a b = Binary 10 a b
compared_of NotEqual a b = Binary 11 a b
compared_of Less a b = Binary 12 a b
compared_of LessEqual a b = Binary 13 a b
compared_of Greater a b = Binary 12 b a
compared_of GreaterEqual a b = Binary 13 b a

abbrev pub mask_of : Term → ℕ
mask_of a = limit (type_of a) - 1

abbrev pub expr_of : Term → Expr
expr_of (number n w) = Lit n
expr_of (name i w most) = Slot i
expr_of (complement a) = Complement (mask_of a) (expr_of a)
expr_of (negation a) = Not (expr_of a)
expr_of (compute op span a b) = computed_of op (mask_of a) (expr_of a) (expr_of b)
expr_of (compare r a b) = compared_of r (expr_of a) (expr_of b)
expr_of (both a b) = Both (expr_of a) (expr_of b)
expr_of (either a b) = Either (expr_of a) (expr_of b)
expr_of (choice c a b) = Choice (expr_of c) (expr_of a) (expr_of b)
expr_of (range_okay s o a) = Range (expr_of s) (expr_of o) (expr_of a)

abbrev pub exprs_of : List Term → List Expr
exprs_of [] = []
exprs_of (e ∷ es) = expr_of e ∷ exprs_of es

-- Actions: what is read comes into scope at levels from one on

abbrev pub action_of : ℕ → Deed → Action
action_of level done = Finish
action_of level (set cell e then) = Assign cell (expr_of e) (action_of level then)
action_of level (keep cell then) = Read level cell (action_of (suc level) then)
action_of level (fork e one other then) = If (expr_of e) (action_of level one) (action_of level other) (action_of level then)
action_of level (answer e) = Return (expr_of e)
action_of level give_up = Abort

abbrev pub order_code : ByteOrder → ℕ
order_code LittleEndian = 0
order_code BigEndian = 1

-- Fields. t is the register of a unit of bit fields, and those above it are free. Sites go in the order of the text: each part
-- of a field has one, a field's own is that of its first part, and the cell map of a call has the number of its site. An
-- enum's set has the enum's number

abbrev pub part_slot : ℕ → ℕ → Option BitField → ℕ
part_slot level t None = level
part_slot level t (Some bits) = t

-- where a field's number goes
abbrev pub number_slot : ℕ → ℕ → List PartDef → ℕ
number_slot level t [] = t
number_slot level t (p ∷ ps) = part_slot level t p.bits

abbrev pub bits_step : ℕ → ℕ → Option BitField → Steps → Steps
bits_step level t None k = k
bits_step level t (Some bits) k = Part level t bits.low bits.width k

abbrev pub test_step : ℕ → ℕ → Option Term → Steps → Steps
test_step t site None k = k
test_step t site (Some e) k = Test (suc t) site (expr_of e) k

abbrev pub action_step : ℕ → ℕ → ℕ → Option Deed → Steps → Steps
action_step level t site None k = k
action_step level t site (Some d) k = Place (suc level) (Act (suc t) site (action_of (suc (suc level)) d) k)

abbrev pub when : Bool → (Steps → Steps) → Steps → Steps
when true f k = f k
when false f k = k

-- whether the field's number is in its register after it
abbrev pub is_read : Element → Extent → Bool → Bool
is_read (Number type) Once needed = needed
is_read (Listed base v) Once needed = true
is_read (Number type) (Given source) needed = true
is_read element extent needed = false

-- arguments stand in registers from t + 1 on
abbrev pub terms_of : Element → List Term
terms_of (Named d args own) = args
terms_of (Number type) = []
terms_of (Listed base v) = []
terms_of UnitElement = []
terms_of Rest = []
terms_of Zeros = []

abbrev pub arguments : Element → List Expr
arguments element = exprs_of (terms_of element)

abbrev pub parts_in : List FieldDef → ℕ
parts_in [] = 0
parts_in (f ∷ fs) = length f.parts + parts_in fs

abbrev pub cases_parts : List CaseDef → ℕ
cases_parts [] = 0
cases_parts (c ∷ cs) = parts_in c.fields + cases_parts cs

abbrev pub default_parts : Option (List FieldDef) → ℕ
default_parts None = 0
default_parts (Some fs) = parts_in fs

module _ (t : ℕ) where
  -- with the number in its register where it was read
  abbrev pub parts_steps : Bool → (site level : ℕ) → List PartDef → Steps → Steps
  parts_steps read site level [] k = k
  parts_steps read site level (p ∷ ps) k =
      when read (bits_step level t p.bits)
      (test_step t site p.refinement
      (action_step level t site p.action
      (parts_steps read (suc site) (suc level) ps k)))

  abbrev pub number_step : Bool → ℕ → NumberType → ℕ → Steps → Steps
  number_step true slot type site k = NumberStep slot (order_code type.order) (bytes_in type.width) site k
  number_step false slot type site k = Skipped (bytes_in type.width) site k

  abbrev pub once_step : Element → Bool → ℕ → ℕ → Steps → Steps
  once_step (Number type) needed slot site k = number_step needed slot type site k
  once_step (Listed base v) needed slot site k = ListedStep slot (order_code base.order) (bytes_in base.width) v site (suc t) k
  once_step (Named d args own) needed slot site k = NamedStep (suc t) d site site (exprs_of args) k
  once_step UnitElement needed slot site k = k
  once_step Rest needed slot site k = AllBytes k
  once_step Zeros needed slot site k = AllZeros site k

  -- elements of constant size, whose bytes are in register u
  abbrev pub evenly : Option ℕ → (u site : ℕ) → Inner → Inner
  evenly None u site x = x
  evenly (Some zero) u site x = x
  evenly (Some (suc c)) u site x = Evenly u (suc c) site x

  abbrev pub exactly : Option ℕ → (u site : ℕ) → Inner → Inner
  exactly None u site x = x
  exactly (Some c) u site x = Exactly u (suc u) c site x

  -- elements up to the end of a window; registers from u on are free
  abbrev pub each_inner : Element → (u site : ℕ) → Inner
  each_inner (Number type) u site = All
  each_inner (Listed base v) u site = EachListed t (order_code base.order) (bytes_in base.width) v site u
  each_inner (Named d args own) u site = EachCall (suc t) d site site (length args)
  each_inner UnitElement u site = Uneven site
  each_inner Rest u site = Uneven site
  each_inner Zeros u site = Uneven site

  abbrev pub one_inner : Element → (u site : ℕ) → Inner
  one_inner (Number type) u site = All
  one_inner (Listed base v) u site = OneListed t (order_code base.order) (bytes_in base.width) v site u
  one_inner (Named d args own) u site = OneCall (suc t) d site site (length args)
  one_inner UnitElement u site = Nothing
  one_inner Rest u site = All
  one_inner Zeros u site = Zeroes site

  abbrev pub constant_step : ℕ → ℕ → Inner → Steps → Steps
  constant_step n site x k = cond (nat_lt n (2 ^ 32)) (ByConstant n site x k) (Never site)

  abbrev pub filling_step : Option ℕ → Option ℕ → Element → Term → ℕ → Steps → Steps
  filling_step None step element size site k =
      let u = suc t + length (terms_of element) in
      Arguments (suc t) (arguments element) (BySize u site (expr_of size) (evenly step u site (each_inner element (suc u) site)) k)
  filling_step (Some n) step element size site k =
      let u = suc t + length (terms_of element) in
      Arguments (suc t) (arguments element) (constant_step n site (cond (divides step n) (each_inner element u site) (Uneven site)) k)

  abbrev pub once_filling_step : Option ℕ → Option ℕ → Element → Term → ℕ → Steps → Steps
  once_filling_step None step element size site k =
      let u = suc t + length (terms_of element) in
      Arguments (suc t) (arguments element) (BySize u site (expr_of size) (exactly step u site (one_inner element (suc u) site)) k)
  once_filling_step (Some n) step element size site k =
      let u = suc t + length (terms_of element) in
      Arguments (suc t) (arguments element) (constant_step n site (cond (equals step n) (one_inner element u site) (Uneven site)) k)

  abbrev pub up_to_zero_step : Element → Term → ℕ → Steps → Steps
  up_to_zero_step (Number type) size site k = ZeroEnd (suc t) (bytes_in type.width) site (expr_of size) k
  up_to_zero_step element size site k = Never site

  -- a number without bytes, whether it is needed or not
  abbrev pub source_step : Source → ℕ → Steps → Steps
  source_step (Expression span e) slot k = Computed (suc t) slot (expr_of e) k
  source_step (FromCell cell) slot k = Kept slot cell k
  source_step Left slot k = Remaining slot k

  abbrev pub shape_step : Element → Extent → Bool → ℕ → ℕ → Steps → Steps
  shape_step element Once needed slot site k = once_step element needed slot site k
  shape_step element (Filling size step) needed slot site k = filling_step (constant_of size) step element size site k
  shape_step element (OnceFilling size step) needed slot site k = once_filling_step (constant_of size) step element size site k
  shape_step element (UpToZero size) needed slot site k = up_to_zero_step element size site k
  shape_step element (Given source) needed slot site k = source_step source slot k

  -- bytes that go to a buffer. A constant number of them stands in a window, since a window takes the bytes that it says and a
  -- copy may take none
  abbrev pub copied_step : Option ℕ → CopyOut → Term → ℕ → Steps → Steps
  copied_step None c size site k = Copied (suc t) c.buffer site (expr_of size) k
  copied_step (Some n) c size site k = constant_step n site (CopyAll (suc t) c.buffer n site) k

  -- where its bytes are copied nothing else is done in the field's place
  abbrev pub content_step : Element → Extent → Option CopyOut → Bool → ℕ → ℕ → Steps → Steps
  content_step element extent None needed slot site k = shape_step element extent needed slot site k
  content_step element (Filling size step) (Some c) needed slot site k = copied_step (constant_of size) c size site k
  content_step element Once (Some c) needed slot site k = shape_step element Once needed slot site k
  content_step element (OnceFilling size step) (Some c) needed slot site k = shape_step element (OnceFilling size step) needed slot site k
  content_step element (UpToZero size) (Some c) needed slot site k = shape_step element (UpToZero size) needed slot site k
  content_step element (Given source) (Some c) needed slot site k = shape_step element (Given source) needed slot site k

  abbrev pub fields_steps : (site level : ℕ) → List FieldDef → Steps
  fields_steps site level [] = End
  fields_steps site level (f ∷ later) =
      let needed = is_needed level f.parts later in
      Start (content_step f.element f.extent f.copy needed (number_slot level t f.parts) site
      (parts_steps (is_read f.element f.extent needed) site level f.parts
      (fields_steps (length f.parts + site) (length f.parts + level) later)))

  abbrev pub last_case : (switch site level : ℕ) → Option (List FieldDef) → Cases
  last_case switch site level None = NoDefault switch
  last_case switch site level (Some fields) = Default (fields_steps site level fields)

  abbrev pub cases_of : (switch site level : ℕ) → List CaseDef → Option (List FieldDef) → Cases
  cases_of switch site level [] default = last_case switch site level default
  cases_of switch site level (c ∷ cs) default = Case c.value (fields_steps site level c.fields) (cases_of switch (parts_in c.fields + site) level cs default)

  abbrev pub body_of : (switch site level : ℕ) → BodyDef → Body
  body_of switch site level (StructDef fields) = Struct (fields_steps site level fields)
  body_of switch site level (CasetypeDef e cases default) = Casetype (suc t) (expr_of e) (cases_of switch site level cases default)

  abbrev pub guarded_body : ℕ → Option Term → Body → Body
  guarded_body site None b = b
  guarded_body site (Some e) b = Where (suc t) site (expr_of e) b

-- Definitions. The first site of one is that of its `where`, the second that of its switch value, and those of its parts
-- follow. units n is the register of a unit in routine n; no value in scope has it or one above it

abbrev pub definition_body : (first t : ℕ) → TypeDef → Body
definition_body first t d = guarded_body t first d.guard (body_of t (first + 1) (first + 2) (length d.params) d.body)

abbrev pub definition_block : (first t : ℕ) → Option TypeDef → Block
definition_block first t None = Stop (i.Fail 1 0)
definition_block first t (Some d) = body (definition_body first t d)

abbrev pub body_parts : BodyDef → ℕ
body_parts (StructDef fields) = parts_in fields
body_parts (CasetypeDef e cases default) = cases_parts cases + default_parts default

abbrev pub sites_in : Option TypeDef → ℕ
sites_in None = 0
sites_in (Some d) = 2 + body_parts d.body

-- the first site of definition n: after those of the earlier ones
abbrev pub first_site : List TypeDef → ℕ → ℕ
first_site ds zero = 0
first_site ds (suc n) = first_site ds n + sites_in (slice_get ds n)

-- the block of definition n, which is routine n
abbrev pub block_of : (ℕ → ℕ) → List TypeDef → ℕ → Block
block_of units ds n = definition_block (first_site ds n) (units n) (slice_get ds n)
