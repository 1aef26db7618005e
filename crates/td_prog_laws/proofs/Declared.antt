-- A routine's variables are declared, each once.
use Rattle.std.proofs.Common.{◌≡◌, ℕ, zero, suc, ◌+◌, ◌-◌, ◌<◌, ◌≤◌, inl, inr, Bool, true, false, List, [], ◌∷◌, ◌++◌, refl, arith}
use Rattle.std.specs.Prelude.{nat_eq, ◌||◌, map}
use Rattle.std.proofs.lemmas.Bool.{eq-eqb, ne_eqb, cases_lt}
use Rattle.td_num.specs.Lists.{Each, is_among}
use Rattle.td_prog.specs.Syntax.{Var, Next, Held, Pos, End, Start, Outer, Reg, Word, Low, Number, More, Most, Room, Count, Expr, Num, Get, Cell, Binary, Choice, Swapped, Block, Ends, Assign, Store, Byte, Member, Load, If, While, Label, Goto, Fail, Return, CallHelper, Call, Function, Program, registers, routine_params, routine_locals}
use Rattle.td_prog.specs.Text.{number_of, HasVariable, AreDifferent, IsDeclaredOnce, IsWritten, IsDeclared}

-- a routine has these, and so many registers
abbrev pub RoutineHas : ℕ → Var → Type 0
RoutineHas count Next = Unit {0}
RoutineHas count Held = Unit {0}
RoutineHas count Pos = Unit {0}
RoutineHas count End = Unit {0}
RoutineHas count Start = Unit {0}
RoutineHas count Outer = Unit {0}
RoutineHas count Number = Unit {0}
RoutineHas count Most = Unit {0}
RoutineHas count Room = Unit {0}
RoutineHas count (Reg k) = k < count
RoutineHas count Word = ⊥
RoutineHas count Low = ⊥
RoutineHas count More = ⊥
RoutineHas count Count = ⊥

or_right : (a b : Bool) → b ≡ true → (a || b) ≡ true
or_right true b h = refl
or_right false b h = h

or_more : (a b c : Bool) → (b ≡ true → c ≡ true) → (a || b) ≡ true → (a || c) ≡ true
or_more true b c f h = refl
or_more false b c f h = f h

or_left : (a b : Bool) → a ≡ true → (a || b) ≡ true
or_left true b h = refl
or_left false b h = absurd (cc)

or_none : (a b : Bool) → a ≡ false → b ≡ false → (a || b) ≡ false
or_none true b h k = h
or_none false b h k = k

abbrev numbers : List Var → List ℕ
numbers xs = map number_of xs

front : (xs ys : List Var) (n : ℕ) → is_among (numbers xs) n ≡ true → is_among (numbers (xs ++ ys)) n ≡ true
front [] ys n h = absurd (cc)
front (x ∷ xs) ys n h = or_more (nat_eq n (number_of x)) (is_among (numbers xs) n) (is_among (numbers (xs ++ ys)) n) (front xs ys n) h

behind : (xs ys : List Var) (n : ℕ) → is_among (numbers ys) n ≡ true → is_among (numbers (xs ++ ys)) n ≡ true
behind [] ys n h = h
behind (x ∷ xs) ys n h = or_right (nat_eq n (number_of x)) (is_among (numbers (xs ++ ys)) n) (behind xs ys n h)

missing : (xs ys : List Var) (n : ℕ) → is_among (numbers xs) n ≡ false → is_among (numbers ys) n ≡ false → is_among (numbers (xs ++ ys)) n ≡ false
missing [] ys n h k = k
missing (x ∷ xs) ys n h k = by (nat_eq n (number_of x)) (is_among (numbers xs) n) h (missing xs ys n)
  where
    by : (a b : Bool) → (a || b) ≡ false → (b ≡ false → is_among (numbers ys) n ≡ false → is_among (numbers (xs ++ ys)) n ≡ false) → (a || is_among (numbers (xs ++ ys)) n) ≡ false
    by true b h f = absurd (cc)
    by false b h f = f h k

-- registers
register_there : (first count k : ℕ) → first ≤ k → k < first + count → is_among (numbers (registers first count)) (13 + k) ≡ true
register_there first zero k a b = absurd (omega (arith, a, b))
register_there first (suc n) k a b = elim (cases_lt first k) [
  | inl lt ↦ or_right (nat_eq (13 + k) (13 + first)) (is_among (numbers (registers (first + 1) n)) (13 + k)) (register_there (first + 1) n k (omega (arith, lt)) (omega (arith, b)))
  | inr le ↦ or_left (nat_eq (13 + k) (13 + first)) (is_among (numbers (registers (first + 1) n)) (13 + k)) (eq-eqb (13 + k) (13 + first) (omega (arith, a, le)))
]

register_else : (n first count : ℕ) → n < 13 + first → is_among (numbers (registers first count)) n ≡ false
register_else n first zero h = refl
register_else n first (suc count) h =
    or_none (nat_eq n (13 + first)) (is_among (numbers (registers (first + 1) count)) n) (ne_eqb n (13 + first) (λ e. omega (arith, h, e))) (register_else n (first + 1) count (omega (arith, h)))

registers_apart : (first count : ℕ) → AreDifferent (numbers (registers first count))
registers_apart first zero = tt
registers_apart first (suc n) = (register_else (13 + first) (first + 1) n (omega arith), registers_apart (first + 1) n)

registers_before : (first count : ℕ) (ys : List Var) → ((k : ℕ) → k < first + count → is_among (numbers ys) (13 + k) ≡ false) → AreDifferent (numbers ys) → AreDifferent (numbers (registers first count ++ ys))
registers_before first zero ys f d = d
registers_before first (suc n) ys f d =
    (missing (registers (first + 1) n) ys (13 + first) (register_else (13 + first) (first + 1) n (omega arith)) (f first (omega arith)), registers_before (first + 1) n ys (λ k h. f k (omega (arith, h))) d)

module _ (f : Function) where
  abbrev params : List Var
  params = registers 0 f.params

  abbrev locals : List Var
  locals = routine_locals f

  has_local : (n : ℕ) → is_among (numbers locals) n ≡ true → is_among (numbers (params ++ locals)) n ≡ true
  has_local n h = behind params locals n h

  has_register : (k : ℕ) → k < f.registers → is_among (numbers (params ++ locals)) (13 + k) ≡ true
  has_register k h = elim (cases_lt k f.params) [
    | inl lt ↦ front params locals (13 + k) (register_there 0 f.params k (omega arith) (omega (arith, lt)))
    | inr le ↦ has_local (13 + k) (
        or_right (nat_eq (13 + k) 4) _ (or_right (nat_eq (13 + k) 5) _ (or_right (nat_eq (13 + k) 8) _ (or_right (nat_eq (13 + k) 10) _ (or_right (nat_eq (13 + k) 11) _
        (register_there f.params (f.registers - f.params) k le (omega (arith, h, le))))))))
  ]

  pub has_routine : (x : Var) → RoutineHas f.registers x → HasVariable (routine_params f) locals x
  has_routine Next h = refl
  has_routine Held h = refl
  has_routine Pos h = refl
  has_routine End h = refl
  has_routine Start h = has_local 4 refl
  has_routine Outer h = has_local 5 refl
  has_routine Number h = has_local 8 refl
  has_routine Most h = has_local 10 refl
  has_routine Room h = has_local 11 refl
  has_routine (Reg k) h =
      or_right (nat_eq (13 + k) 0) _ (or_right (nat_eq (13 + k) 1) _ (or_right (nat_eq (13 + k) 2) _ (or_right (nat_eq (13 + k) 3) (is_among (numbers (params ++ locals)) (13 + k)) (has_register k h))))
  has_routine Word h = absurd h
  has_routine Low h = absurd h
  has_routine More h = absurd h
  has_routine Count h = absurd h

  abbrev rest : List Var
  rest = registers f.params (f.registers - f.params)

  no_low : (n : ℕ) → n < 13 → is_among (numbers locals) n ≡ false → is_among (numbers (params ++ locals)) n ≡ false
  no_low n h k = missing params locals n (register_else n 0 f.params (omega (arith, h))) k

  else : (n : ℕ) → n < 13 → is_among (numbers rest) n ≡ false
  else n h = register_else n f.params (f.registers - f.params) (omega (arith, h))

  no_register : (k : ℕ) → k < 0 + f.params → is_among (numbers locals) (13 + k) ≡ false
  no_register k h =
      or_none (nat_eq (13 + k) 4) _ (ne_eqb (13 + k) 4 (λ e. omega (arith, e)))
      (or_none (nat_eq (13 + k) 5) _ (ne_eqb (13 + k) 5 (λ e. omega (arith, e)))
      (or_none (nat_eq (13 + k) 8) _ (ne_eqb (13 + k) 8 (λ e. omega (arith, e)))
      (or_none (nat_eq (13 + k) 10) _ (ne_eqb (13 + k) 10 (λ e. omega (arith, e)))
      (or_none (nat_eq (13 + k) 11) (is_among (numbers rest) (13 + k)) (ne_eqb (13 + k) 11 (λ e. omega (arith, e))) (register_else (13 + k) f.params (f.registers - f.params) (omega (arith, h)))))))

  locals_apart : AreDifferent (numbers locals)
  locals_apart = (else 4 (omega arith), (else 5 (omega arith), (else 8 (omega arith), (else 10 (omega arith), (else 11 (omega arith), registers_apart f.params (f.registers - f.params))))))

  pub routine_once : IsDeclaredOnce (routine_params f) locals
  routine_once = (
    no_low 0 (omega arith) (else 0 (omega arith)),
    (
      no_low 1 (omega arith) (else 1 (omega arith)),
      (
        no_low 2 (omega arith) (else 2 (omega arith)),
        (no_low 3 (omega arith) (else 3 (omega arith)), registers_before 0 f.params locals no_register locals_apart),
      ),
    ),
  )

-- a program that names some variables is declared where these are
module _ (p : Program) (Has More : Var → Type 0) (more : (x : Var) → Has x → More x) (cells buffers helpers routines : ℕ) where
  abbrev Few : Expr → Type 0
  Few e = IsWritten p Has cells buffers helpers routines e

  abbrev Many : Expr → Type 0
  Many e = IsWritten p More cells buffers helpers routines e

  written_more : (e : Expr) → Few e → Many e
  written_more (Num n) h = h
  written_more (Get x) h = more x h
  written_more (Cell k) h = h
  written_more (Binary o a b) h = (written_more a h.0, written_more b h.1)
  written_more (Choice c a b) h = (written_more c h.0, written_more a h.1, written_more b h.2)
  written_more (Swapped a) h = written_more a h

  each_more : (es : List Expr) → Each Few es → Each Many es
  each_more [] h = tt
  each_more (e ∷ es) h = (written_more e h.0, each_more es h.1)

  pub declared_more : (b : Block) → IsDeclared p Has cells buffers helpers routines b → IsDeclared p More cells buffers helpers routines b
  declared_more Ends h = tt
  declared_more (Assign x e rest) h = (more x h.0, written_more e h.1, declared_more rest h.2)
  declared_more (Store k e rest) h = (h.0, written_more e h.1, declared_more rest h.2)
  declared_more (Byte b e f rest) h = (h.0, written_more e h.1, written_more f h.2, declared_more rest h.3)
  declared_more (Member x y numbers rest) h = (more x h.0, more y h.1, h.2, h.3, declared_more rest h.4)
  declared_more (Load rest) h = (more Word h.0, declared_more rest h.1)
  declared_more (If e inner rest) h = (written_more e h.0, declared_more inner h.1, declared_more rest h.2)
  declared_more (While e inner rest) h = (written_more e h.0, declared_more inner h.1, declared_more rest h.2)
  declared_more (Label l rest) h = declared_more rest h
  declared_more (Goto l rest) h = declared_more rest h
  declared_more (Fail reason e ty field rest) h = (more Start h.0, written_more e h.1, declared_more rest h.2)
  declared_more (Return e rest) h = (written_more e h.0, declared_more rest h.1)
  declared_more (CallHelper x helper es bs rest) h = (more x h.0, h.1, h.2, each_more es h.3, h.4, declared_more rest h.5)
  declared_more (Call first count routine cs bs ty field rest) h =
      ((λ k l. more (Reg (first + k)) (h.0 k l)), more Pos h.1, more End h.2, more Start h.3, h.4, h.5, h.6, h.7, declared_more rest h.8)
