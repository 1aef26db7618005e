-- What expressions need and write, operator by operator.
use Rattle.std.proofs.Common.{◌≡◌, ℕ, suc, ◌+◌, ◌≤◌, max, true, false, refl, arith}
use Rattle.td_core.specs.declared.expressions.Binary.{Binary}
use Rattle.td_core.specs.declared.expressions.Binary.TheVariants.{Add, Subtract, Multiply, Divide, Remainder, BitAnd, BitOr, BitXor, ShiftLeft, ShiftRight}
use Rattle.td_core.specs.declared.expressions.Relation.{Relation}
use Rattle.td_core.specs.declared.expressions.Relation.TheVariants.{Equal, NotEqual, Less, LessEqual, Greater, GreaterEqual}
use Rattle.td_ir.specs.declared.instructions.Instr.TheVariants as i
use Rattle.td_lower_blocks.specs.Block.{Block, Then}
use Rattle.td_lower_blocks.specs.Constructs.{Expr, Lit, Slot, Binary as BinaryExpr, Not, Complement, ShiftLeft as ShiftLeftExpr, Both, Either, Choice, Range, value}
use Rattle.td_lower_blocks.specs.Lowered.{computed_of, compared_of, expr_of}
use Rattle.td_core.specs.Term.{Deed, done, set, keep, fork, answer, give_up}
use Rattle.td_lower_blocks.specs.Tops.{top, deed_top}
use Rattle.td_lower_emit.specs.Emission.{operator_then, relation_number, is_turned}

pub computed_value : (op : Binary) (mask t : ℕ) (a b : Expr) (k : Block) → value t (computed_of op mask a b) k ≡ value t a (value (t + 1) b (operator_then op mask t k))
computed_value Add mask t a b k = refl
computed_value Subtract mask t a b k = refl
computed_value Multiply mask t a b k = refl
computed_value Divide mask t a b k = refl
computed_value Remainder mask t a b k = refl
computed_value BitAnd mask t a b k = refl
computed_value BitOr mask t a b k = refl
computed_value BitXor mask t a b k = refl
computed_value ShiftLeft mask t a b k = refl
computed_value ShiftRight mask t a b k = refl

pub turned_top : (r : Relation) (t : ℕ) (a b : Expr) → is_turned r ≡ true → top t (compared_of r a b) ≡ max (top t b) (top (t + 1) a)
turned_top Equal t a b h = absurd (cc)
turned_top NotEqual t a b h = absurd (cc)
turned_top Less t a b h = absurd (cc)
turned_top LessEqual t a b h = absurd (cc)
turned_top Greater t a b h = refl
turned_top GreaterEqual t a b h = refl

pub straight_top : (r : Relation) (t : ℕ) (a b : Expr) → is_turned r ≡ false → top t (compared_of r a b) ≡ max (top t a) (top (t + 1) b)
straight_top Equal t a b h = refl
straight_top NotEqual t a b h = refl
straight_top Less t a b h = refl
straight_top LessEqual t a b h = refl
straight_top Greater t a b h = absurd (cc)
straight_top GreaterEqual t a b h = absurd (cc)

pub turned_value : (r : Relation) (t : ℕ) (a b : Expr) (k : Block) → is_turned r ≡ true
    → value t (compared_of r a b) k ≡ value t b (value (t + 1) a (Then (i.Op t (relation_number r) t (t + 1)) k))
turned_value Equal t a b k h = absurd (cc)
turned_value NotEqual t a b k h = absurd (cc)
turned_value Less t a b k h = absurd (cc)
turned_value LessEqual t a b k h = absurd (cc)
turned_value Greater t a b k h = refl
turned_value GreaterEqual t a b k h = refl

pub straight_value : (r : Relation) (t : ℕ) (a b : Expr) (k : Block) → is_turned r ≡ false
    → value t (compared_of r a b) k ≡ value t a (value (t + 1) b (Then (i.Op t (relation_number r) t (t + 1)) k))
straight_value Equal t a b k h = refl
straight_value NotEqual t a b k h = refl
straight_value Less t a b k h = refl
straight_value LessEqual t a b k h = refl
straight_value Greater t a b k h = absurd (cc)
straight_value GreaterEqual t a b k h = absurd (cc)

-- a value takes a register
pub some_top : (t : ℕ) (e : Expr) → t + 1 ≤ top t e
some_top t (Lit n) = omega arith
some_top t (Slot place) = omega arith
some_top t (BinaryExpr op a b) = omega (arith, some_top t a)
some_top t (Not a) = omega arith
some_top t (Complement mask a) = omega arith
some_top t (ShiftLeftExpr mask a b) = omega (arith, some_top t a)
some_top t (Both a b) = omega (arith, some_top t a)
some_top t (Either a b) = omega (arith, some_top t a)
some_top t (Choice c a b) = omega (arith, some_top t c)
some_top t (Range size offset access) = omega arith

-- so does an action
pub some_deed : (level t : ℕ) (d : Deed) → t + 1 ≤ deed_top level t d
some_deed level t done = omega arith
some_deed level t (set cell e then) = omega (arith, some_deed level t then)
some_deed level t (keep cell then) = omega (arith, some_deed (suc level) t then)
some_deed level t (fork e one other then) = omega (arith, some_deed level t then)
some_deed level t (answer e) = some_top t (expr_of e)
some_deed level t give_up = omega arith
