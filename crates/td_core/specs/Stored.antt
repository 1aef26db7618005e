-- Codes by which proofs tell terms, and deeds, apart (own rule): trees of numbers that give them back.
use Rattle.std.specs.Prelude.{◌≡◌, ℕ, zero, suc, refl}
use Rattle.std.specs.Coded.{Coded, code_by}
use base.Stored.{Gv, gnil, gnum, gcons}
use Rattle.td_core.specs.declared.expressions.Relation.{Relation}
use Rattle.td_core.specs.declared.expressions.Relation.TheVariants.{Equal, NotEqual, Less, LessEqual, Greater, GreaterEqual}
use Rattle.td_core.specs.declared.expressions.Scalar.{Scalar}
use Rattle.td_core.specs.declared.expressions.Scalar.TheVariants.{Truth, Eight, Sixteen, ThirtyTwo, SixtyFour}
use Rattle.td_core.specs.declared.expressions.Binary.{Binary}
use Rattle.td_core.specs.declared.expressions.Binary.TheVariants.{Add, Subtract, Multiply, Divide, Remainder, BitAnd, BitOr, BitXor, ShiftLeft, ShiftRight}
use Rattle.td_core.specs.Term.{Term, number, name, complement, negation, compute, compare, both, either, choice, range_okay, Deed, done, set, keep, fork, answer, give_up}

abbrev scalar_number : Scalar → ℕ
scalar_number Truth = 0
scalar_number Eight = 1
scalar_number Sixteen = 2
scalar_number ThirtyTwo = 3
scalar_number SixtyFour = 4

abbrev scalar_at : ℕ → Scalar
scalar_at zero = Truth
scalar_at (suc zero) = Eight
scalar_at (suc (suc zero)) = Sixteen
scalar_at (suc (suc (suc zero))) = ThirtyTwo
scalar_at _ = SixtyFour

scalar_back : (w : Scalar) → scalar_at (scalar_number w) ≡ w
scalar_back Truth = refl
scalar_back Eight = refl
scalar_back Sixteen = refl
scalar_back ThirtyTwo = refl
scalar_back SixtyFour = refl

abbrev binary_number : Binary → ℕ
binary_number Add = 0
binary_number Subtract = 1
binary_number Multiply = 2
binary_number Divide = 3
binary_number Remainder = 4
binary_number BitAnd = 5
binary_number BitOr = 6
binary_number BitXor = 7
binary_number ShiftLeft = 8
binary_number ShiftRight = 9

abbrev binary_at : ℕ → Binary
binary_at zero = Add
binary_at (suc zero) = Subtract
binary_at (suc (suc zero)) = Multiply
binary_at (suc (suc (suc zero))) = Divide
binary_at (suc (suc (suc (suc zero)))) = Remainder
binary_at (suc (suc (suc (suc (suc zero))))) = BitAnd
binary_at (suc (suc (suc (suc (suc (suc zero)))))) = BitOr
binary_at (suc (suc (suc (suc (suc (suc (suc zero))))))) = BitXor
binary_at (suc (suc (suc (suc (suc (suc (suc (suc zero)))))))) = ShiftLeft
binary_at _ = ShiftRight

binary_back : (op : Binary) → binary_at (binary_number op) ≡ op
binary_back Add = refl
binary_back Subtract = refl
binary_back Multiply = refl
binary_back Divide = refl
binary_back Remainder = refl
binary_back BitAnd = refl
binary_back BitOr = refl
binary_back BitXor = refl
binary_back ShiftLeft = refl
binary_back ShiftRight = refl

abbrev relation_number : Relation → ℕ
relation_number Equal = 0
relation_number NotEqual = 1
relation_number Less = 2
relation_number LessEqual = 3
relation_number Greater = 4
relation_number GreaterEqual = 5

abbrev relation_at : ℕ → Relation
relation_at zero = Equal
relation_at (suc zero) = NotEqual
relation_at (suc (suc zero)) = Less
relation_at (suc (suc (suc zero))) = LessEqual
relation_at (suc (suc (suc (suc zero)))) = Greater
relation_at _ = GreaterEqual

relation_back : (r : Relation) → relation_at (relation_number r) ≡ r
relation_back Equal = refl
relation_back NotEqual = refl
relation_back Less = refl
relation_back LessEqual = refl
relation_back Greater = refl
relation_back GreaterEqual = refl

abbrev stored : Term → Gv
stored (number n w) = gcons (gnum 0) (gcons (gnum n) (gnum (scalar_number w)))
stored (name i w most) = gcons (gnum 1) (gcons (gnum i) (gcons (gnum (scalar_number w)) (gnum most)))
stored (complement a) = gcons (gnum 2) (stored a)
stored (negation a) = gcons (gnum 3) (stored a)
stored (compute op s a b) =
    gcons (gnum 4) (gcons (gcons (gnum (binary_number op)) (gcons (gnum s.from) (gnum s.to))) (gcons (stored a) (stored b)))
stored (compare r a b) = gcons (gnum 5) (gcons (gnum (relation_number r)) (gcons (stored a) (stored b)))
stored (both a b) = gcons (gnum 6) (gcons (stored a) (stored b))
stored (either a b) = gcons (gnum 7) (gcons (stored a) (stored b))
stored (choice c a b) = gcons (gnum 8) (gcons (stored c) (gcons (stored a) (stored b)))
stored (range_okay s o a) = gcons (gnum 9) (gcons (stored s) (gcons (stored o) (stored a)))

abbrev got : Gv → Term
got (gcons (gnum zero) (gcons (gnum n) (gnum w))) = number n (scalar_at w)
got (gcons (gnum (suc zero)) (gcons (gnum i) (gcons (gnum w) (gnum most)))) = name i (scalar_at w) most
got (gcons (gnum (suc (suc zero))) a) = complement (got a)
got (gcons (gnum (suc (suc (suc zero)))) a) = negation (got a)
got (gcons (gnum (suc (suc (suc (suc zero))))) (gcons (gcons (gnum op) (gcons (gnum from) (gnum to))) (gcons a b))) =
    compute (binary_at op) (record { from = from; to = to }) (got a) (got b)
got (gcons (gnum (suc (suc (suc (suc (suc zero)))))) (gcons (gnum r) (gcons a b))) = compare (relation_at r) (got a) (got b)
got (gcons (gnum (suc (suc (suc (suc (suc (suc zero))))))) (gcons a b)) = both (got a) (got b)
got (gcons (gnum (suc (suc (suc (suc (suc (suc (suc zero)))))))) (gcons a b)) = either (got a) (got b)
got (gcons (gnum (suc (suc (suc (suc (suc (suc (suc (suc zero))))))))) (gcons c (gcons a b))) = choice (got c) (got a) (got b)
got (gcons (gnum (suc (suc (suc (suc (suc (suc (suc (suc (suc zero)))))))))) (gcons s (gcons o a))) = range_okay (got s) (got o) (got a)
got _ = number 0 Truth

pub got_back : (t : Term) → got (stored t) ≡ t
got_back (number n w) = λ i. number n (scalar_back w i)
got_back (name j w most) = λ i. name j (scalar_back w i) most
got_back (complement a) = λ i. complement (got_back a i)
got_back (negation a) = λ i. negation (got_back a i)
got_back (compute op s a b) = λ i. compute (binary_back op i) s (got_back a i) (got_back b i)
got_back (compare r a b) = λ i. compare (relation_back r i) (got_back a i) (got_back b i)
got_back (both a b) = λ i. both (got_back a i) (got_back b i)
got_back (either a b) = λ i. either (got_back a i) (got_back b i)
got_back (choice c a b) = λ i. choice (got_back c i) (got_back a i) (got_back b i)
got_back (range_okay s o a) = λ i. range_okay (got_back s i) (got_back o i) (got_back a i)

abbrev coded_gv : Coded Gv
coded_gv = record { code = λ x. x; inj = λ x y p. p }

abbrev pub term_code : Coded Term
term_code = code_by Gv coded_gv stored got got_back

abbrev stored_deed : Deed → Gv
stored_deed done = gnum 0
stored_deed (set cell e then) = gcons (gnum 0) (gcons (gnum cell) (gcons (stored e) (stored_deed then)))
stored_deed (keep cell then) = gcons (gnum 1) (gcons (gnum cell) (stored_deed then))
stored_deed (fork e one other then) = gcons (gnum 2) (gcons (stored e) (gcons (stored_deed one) (gcons (stored_deed other) (stored_deed then))))
stored_deed (answer e) = gcons (gnum 3) (stored e)
stored_deed give_up = gnil

abbrev got_deed : Gv → Deed
got_deed (gnum n) = done
got_deed (gcons (gnum zero) (gcons (gnum cell) (gcons e then))) = set cell (got e) (got_deed then)
got_deed (gcons (gnum (suc zero)) (gcons (gnum cell) then)) = keep cell (got_deed then)
got_deed (gcons (gnum (suc (suc zero))) (gcons e (gcons one (gcons other then)))) = fork (got e) (got_deed one) (got_deed other) (got_deed then)
got_deed (gcons (gnum (suc (suc (suc zero)))) e) = answer (got e)
got_deed _ = give_up

pub got_deed_back : (d : Deed) → got_deed (stored_deed d) ≡ d
got_deed_back done = refl
got_deed_back (set cell e then) = λ i. set cell (got_back e i) (got_deed_back then i)
got_deed_back (keep cell then) = λ i. keep cell (got_deed_back then i)
got_deed_back (fork e one other then) = λ i. fork (got_back e i) (got_deed_back one i) (got_deed_back other i) (got_deed_back then i)
got_deed_back (answer e) = λ i. answer (got_back e i)
got_deed_back give_up = refl

abbrev pub deed_code : Coded Deed
deed_code = code_by Gv coded_gv stored_deed got_deed got_deed_back
