-- What is written of each instruction (own rule): statements before those that follow. C's text stands beside each.
use Rattle.std.specs.Prelude.{ℕ, ◌+◌, ◌-◌, ◌*◌, ◌^◌, cond, [], ◌∷◌, nat_eq, drop, slice_index, slice_index_or}
use Rattle.td_core.specs.declared.outcome.Reason.{Reason}
use Rattle.td_core.specs.declared.outcome.Reason.TheVariants.{NotEnough, ListSize, Constraint, Padding}
use Rattle.td_core.specs.declared.outcome.Spot.{Spot}
use Rattle.td_ir.specs.declared.instructions.Instr.{Instr}
use Rattle.td_ir.specs.declared.instructions.Instr.TheVariants as i
use Rattle.td_ir.specs.declared.tables.Parts.{Parts}
use Rattle.td_ir.specs.Tables.{routine_of, site_of, set_of, map_of, cells_by}
use Rattle.td_ir.specs.Run.{spot_named}
use Rattle.td_ir.specs.Values.{reason_of}
use Rattle.td_prog.specs.Syntax.{Pos, End, Start, Outer, Reg, Number, Most, Room, Add, Sub, Mul, Div, Rem, And, Or, Xor, Shl, Shr, Eq, Ne, Lt, Le, Expr, Num, Get, Cell, Binary, Choice, Block, Ends, Assign, Store, Member, If, While, Goto, Fail, Return, CallHelper, Call}
use Rattle.td_prog_code.specs.Prelude.{little_helper, number_helper, copy_helper}

abbrev pub reg : ℕ → Expr
reg k = Get (Reg k)

-- `end - pos`
abbrev pub left : Expr
left = Binary Sub (Get End) (Get Pos)

-- `pos = pos + e;`
abbrev pub taken : Expr → Block → Block
taken size rest = Assign Pos (Binary Add (Get Pos) size) rest

-- operators by number: `a + b`; a zero divisor, and amounts of 64 or more, give 0: `b == 0 ? 0 : a / b`, `b < 64 ? a << b : 0`; what is or'ed with itself stays
abbrev pub operated : ℕ → (x y : ℕ) → Expr
operated o x y =
    let a = reg x in
    let b = reg y in
    cond (nat_eq o 0) (Binary Add a b)
    (cond (nat_eq o 1) (Binary Sub a b)
    (cond (nat_eq o 2) (Binary Mul a b)
    (cond (nat_eq o 3) (Choice (Binary Eq b (Num 0)) (Num 0) (Binary Div a b))
    (cond (nat_eq o 4) (Choice (Binary Eq b (Num 0)) (Num 0) (Binary Rem a b))
    (cond (nat_eq o 5) (Binary And a b)
    (cond (nat_eq o 6) (cond (nat_eq x y) a (Binary Or a b))
    (cond (nat_eq o 7) (Binary Xor a b)
    (cond (nat_eq o 8) (Choice (Binary Lt b (Num 64)) (Binary Shl a b) (Num 0))
    (cond (nat_eq o 9) (Choice (Binary Lt b (Num 64)) (Binary Shr a b) (Num 0))
    (cond (nat_eq o 10) (Binary Eq a b)
    (cond (nat_eq o 11) (Binary Ne a b)
    (cond (nat_eq o 12) (Binary Lt a b) (Binary Le a b)))))))))))))

-- the field that a site names
abbrev pub spot : Parts → ℕ → Spot
spot c site = spot_named (slice_index_or c.names (site_of c site).field.number []) (site_of c site).field

module _ (c : Parts) (n : ℕ) where
  -- `return td_fail(run->outcome, TD_PADDING, pos, "T", "x", start);`
  abbrev pub failure : Reason → Expr → ℕ → Block → Block
  failure reason at site rest = Fail reason at (site_of c site).ty (spot c site) rest

  -- `if (e) { return td_fail(.., TD_LIST_SIZE, start, ..); }`
  abbrev pub fails : Expr → Reason → ℕ → Block → Block
  fails e reason site rest = If e (failure reason (Get Start) site Ends) rest

  -- `if (end - pos < e) { return td_fail(.., TD_NOT_ENOUGH, ..); }`
  abbrev pub room : Expr → ℕ → Block → Block
  room size site rest = fails (Binary Lt left size) NotEnough site rest

  abbrev pub skipped : Expr → ℕ → Block → Block
  skipped size site rest = room size site (taken size rest)

  -- `outer = end; end = pos + e;`
  abbrev pub narrowed : Expr → ℕ → Block → Block
  narrowed size site rest = room size site (Assign Outer (Get End) (Assign End (Binary Add (Get Pos) size) rest))

  -- nothing is written of a skip of no bytes
  abbrev pub skipped_by : ℕ → ℕ → Block → Block
  skipped_by bytes site rest = cond (nat_eq bytes 0) rest (skipped (Num bytes) site rest)

  abbrev pub narrowed_by : ℕ → ℕ → Block → Block
  narrowed_by bytes site rest = cond (nat_eq bytes 0) (Assign Outer (Get End) (Assign End (Get Pos) rest)) (narrowed (Num bytes) site rest)

  -- `while (pos != end) { number = td_little_1(run, pos); if (number) { return td_fail(.., TD_PADDING, pos, ..); } pos = pos + 1; }`
  abbrev pub zeros : ℕ → Block → Block
  zeros site rest =
      While (Binary Ne (Get Pos) (Get End))
      (CallHelper Number (little_helper 1) (Get Pos ∷ []) []
      (If (Get Number) (failure Padding (Get Pos) site Ends)
      (taken (Num 1) Ends)))
      rest

  -- `most = r1 / 2; room = (end - pos) / 2; number = 1; while (number) { if (most == 0) { return td_fail(.., TD_CONSTRAINT, ..); } if (room == 0) { return td_fail(.., TD_NOT_ENOUGH, ..); }
  -- number = td_little_2(run, pos); pos = pos + 2; most = most - 1; room = room - 1; }`: the lower of the two comes to 0 first
  abbrev pub zeroterm : (bound width site : ℕ) → Block → Block
  zeroterm bound width site rest =
      Assign Most (Binary Div (reg bound) (Num width))
      (Assign Room (Binary Div left (Num width))
      (Assign Number (Num 1)
      (While (Get Number)
      (fails (Binary Eq (Get Most) (Num 0)) Constraint site
      (fails (Binary Eq (Get Room) (Num 0)) NotEnough site
      (CallHelper Number (little_helper width) (Get Pos ∷ []) []
      (taken (Num width)
      (Assign Most (Binary Sub (Get Most) (Num 1))
      (Assign Room (Binary Sub (Get Room) (Num 1))
      Ends))))))
      rest)))

  -- `most = 14; if (r1 < most) { most = r1; } *c3 = pos; *c4 = most; number = td_copy(run, pos, most, b0); pos = pos + r1;`
  abbrev pub copied : (size buffer site : ℕ) → Block → Block
  copied size buffer site rest =
      let first = (routine_of c n).cells + 2 * buffer in
      room (reg size) site
      (Assign Most (Num (slice_index (routine_of c n).buffers buffer))
      (If (Binary Lt (reg size) (Get Most)) (Assign Most (reg size) Ends)
      (Store first (Get Pos)
      (Store (first + 1) (Get Most)
      (CallHelper Number copy_helper (Get Pos ∷ Get Most ∷ []) (buffer ∷ [])
      (taken (reg size) rest))))))

  -- a call of routine m by cell map k
  abbrev pub called : (first m k site : ℕ) → Block → Block
  called first m k site rest =
      Call first (routine_of c m).params m (cells_by c n m k) (drop (routine_of c m).cells (map_of c k)) (site_of c site).ty (spot c site) rest

  -- an instruction that neither begins nor ends a loop, before what stands behind it
  abbrev pub statement : Instr → Block → Block
  statement (i.Const into value) rest = Assign (Reg into) (Num value) rest
  statement (i.Member into source set) rest = Member (Reg into) (Reg source) (set_of c set) rest
  statement (i.Op into operator x y) rest = Assign (Reg into) (operated operator x y) rest
  statement (i.Bits into source from count) rest = Assign (Reg into) (Binary And (Binary Shr (reg source) (Num from)) (Num (2 ^ count - 1))) rest
  statement (i.Pos into) rest = Assign (Reg into) (Get Start) rest
  statement (i.Jump target) rest = Goto target rest
  statement (i.JumpIf test target) rest = If (reg test) (Goto target Ends) rest
  statement (i.JumpUnless test target) rest = If (Binary Eq (reg test) (Num 0)) (Goto target Ends) rest
  statement (i.Call first m k site) rest = called first m k site rest
  statement i.Return rest = Return (Get Pos) rest
  statement (i.Fetch into order width site) rest =
      room (Num width) site (CallHelper (Reg into) (number_helper order width) (Get Pos ∷ []) [] (taken (Num width) rest))
  statement (i.SkipK bytes site) rest = skipped_by bytes site rest
  statement (i.Skip size site) rest = skipped (reg size) site rest
  statement i.Rest rest = Assign Pos (Get End) rest
  statement (i.Zeros site) rest = zeros site rest
  statement (i.Zeroterm bound width site) rest = zeroterm bound width site rest
  statement (i.NarrowK bytes site) rest = narrowed_by bytes site rest
  statement (i.Narrow size site) rest = narrowed (reg size) site rest
  statement (i.Divides size step site) rest = fails (Binary Rem (reg size) (Num step)) ListSize site rest
  statement (i.While target) rest = rest
  statement (i.Again target) rest = rest
  statement (i.Widen site) rest = fails (Binary Ne (Get Pos) (Get End)) ListSize site (Assign End (Get Outer) rest)
  statement (i.Fail reason site) rest = failure (reason_of reason) (Get Start) site rest
  statement (i.Get into cell) rest = Assign (Reg into) (Cell cell) rest
  statement (i.Set source cell) rest = Store cell (reg source) rest
  statement i.Mark rest = Assign Start (Get Pos) rest
  statement (i.Copy size buffer site) rest = copied size buffer site rest
  statement (i.Left into) rest = Assign (Reg into) left rest
