-- The program of verified code is text that a compiler of C accepts.
use Rattle.std.proofs.Common.{◌≡◌, ℕ, zero, suc, ◌+◌, ◌-◌, ◌*◌, ◌^◌, ◌<◌, ◌≤◌, inl, inr, Bool, true, false, cond, List, [], ◌∷◌, ◌++◌, length, append_assoc, length-append, length-drop, Some, refl, sym, ap, ◌∙◌, subst, arith, take, drop}
use Rattle.std.specs.Prelude.{nat_eq, slice_get, slice_range, codes}
use Rattle.std.proofs.lemmas.List.{length-take-le}
use Rattle.std.proofs.lemmas.Option.{get_or_from_slice_get, slice_get_within}
use Rattle.std.proofs.Math.Seq.{drop-cons}
use Rattle.std.proofs.Math.Nat.{pow-le-pow_right}
use Rattle.td_num.specs.Lists.{Each}
use Rattle.td_num.proofs.Lists.{got, each_at, each_append, each_index, each_map}
use Rattle.td_ir.specs.declared.instructions.Instr.{Instr}
use Rattle.td_ir.specs.declared.instructions.Instr.TheVariants as i
use Rattle.td_ir.specs.declared.tables.Parts.{Parts}
use Rattle.td_ir.specs.declared.tables.Routine.{Routine}
use Rattle.td_ir.specs.Tables.{no_routine, routine_of, instruction_of, map_of, cells_by, buffer_cells, lengths_of, first_of, end_of}
use Rattle.td_ir.specs.WellFormed.{IsCode}
use Rattle.td_ir.proofs.Begins.{begin_up}
use Rattle.td_ir.proofs.Buffers.{buffer_count}
use Rattle.td_verify.specs.declared.rule.Rule.TheVariants.{Register, Depth, Table, Operand}
use Rattle.td_verify.specs.Shape.{shape, shapes_of}
use Rattle.td_verify.specs.Rules.{CallsWell}
use Rattle.td_verify.specs.Operands.{HasRegisters, HasTables, HasOperands, IsWidth, IsCellMap, AreBelow, callee_params}
use Rattle.td_verify.specs.Verify.{IsIn, IsSound, depths}
use Rattle.td_verify.proofs.Sums.{shape_there}
use Rattle.td_prog.specs.Syntax.{Expr, Block, Program, routine_params, routine_locals}
use Rattle.td_prog.specs.Text.{HasVariable, HelperTakes, RoutineTakes, IsWritten, IsDeclared, labels, AreRising, IsHelper, IsFunction, AreHelpers, AreFunctions}
use Rattle.td_prog_code.specs.Prelude.{little_helper, number_helper, little, big, td_copy, prelude}
use Rattle.td_prog_code.specs.Instructions.{statement, operated}
use Rattle.td_prog_code.specs.Program.{stated, looped, put, blocks, first_block, body, function, functions, program}
use Rattle.td_prog_code.specs.Sentence.{HasNumber, HasNumbers}
use Rattle.td_prog_text.specs.Names.{routine_name}
use Rattle.td_verify.specs.Safe.{IsSafe}
use Rattle.td_verify_runs.specs.Laws.{TurnTakes}
use Rattle.td_prog_steps.specs.Laid.{IsWellLaid, AreNumbers}
use Rattle.td_prog_steps.proofs.Goods.{small_at}
use Rattle.td_prog_steps.proofs.Whole.{function_at}
use Rattle.td_prog_runs.proofs.Laying.{sound_is_laid}
use Rattle.td_prog_runs.proofs.Sound.{busy}
use Rattle.td_prog_laws.specs.Text.{ProgramIsText}
use Rattle.td_prog_laws.proofs.Declared.{RoutineHas, has_routine, routine_once, declared_more}
use Rattle.td_prog_laws.proofs.Gotos.{body_forward}
use Rattle.td_prog_laws.proofs.Names.{identifiers, names_apart}

each_below : (n : ℕ) (xs : List ℕ) → AreBelow n xs → Each (λ k. k < n) xs
each_below n [] h = tt
each_below n (x ∷ xs) h = (h 0 (omega arith), each_below n xs (λ j l. h (suc j) (omega (arith, l))))

-- the two cells of each buffer
both_cells : (a m : ℕ) (bs : List ℕ) → Each (λ b. b < m) bs → Each (λ k. k < a + 2 * m) (buffer_cells a bs)
both_cells a m [] h = tt
both_cells a m (b ∷ bs) h = let l = h.0 in (omega (arith, l), (omega (arith, l), both_cells a m bs h.1))

-- helpers that take a position
abbrev IsTaker : ℕ → Type 0
IsTaker k = (k < 9) × HelperTakes 1 0 (slice_get prelude k)

little_taker : (width : ℕ) → IsWidth width → IsTaker (little_helper width)
little_taker width (inl e) = subst (λ w. IsTaker (little_helper w)) (sym e) (omega arith, (refl, refl))
little_taker width (inr (inl e)) = subst (λ w. IsTaker (little_helper w)) (sym e) (omega arith, (refl, refl))
little_taker width (inr (inr (inl e))) = subst (λ w. IsTaker (little_helper w)) (sym e) (omega arith, (refl, refl))
little_taker width (inr (inr (inr e))) = subst (λ w. IsTaker (little_helper w)) (sym e) (omega arith, (refl, refl))

number_taker : (order width : ℕ) → IsWidth width → IsTaker (number_helper order width)
number_taker zero width h = little_taker width h
number_taker (suc x) width (inl e) = subst (λ w. IsTaker (number_helper (suc x) w)) (sym e) (omega arith, (refl, refl))
number_taker (suc x) width (inr (inl e)) = subst (λ w. IsTaker (number_helper (suc x) w)) (sym e) (omega arith, (refl, refl))
number_taker (suc x) width (inr (inr (inl e))) = subst (λ w. IsTaker (number_helper (suc x) w)) (sym e) (omega arith, (refl, refl))
number_taker (suc x) width (inr (inr (inr e))) = subst (λ w. IsTaker (number_helper (suc x) w)) (sym e) (omega arith, (refl, refl))

width_few : (width : ℕ) → IsWidth width → width < 2 ^ 64
width_few width (inl e) = omega (arith, e)
width_few width (inr (inl e)) = omega (arith, e)
width_few width (inr (inr (inl e))) = omega (arith, e)
width_few width (inr (inr (inr e))) = omega (arith, e)

mask_few : (count : ℕ) → count ≤ 64 → 2 ^ count - 1 < 2 ^ 64
mask_few count l = let some : 0 < 2 = omega arith in let p : 2 ^ count ≤ 2 ^ 64 = pow-le-pow_right {n = 2} some l in omega (arith, p)

-- Labels
rising_front : (from : ℕ) (xs ys : List ℕ) → AreRising from (xs ++ ys) → AreRising from xs
rising_front from [] ys h = tt
rising_front from (x ∷ xs) ys h = (h.0, rising_front (x + 1) xs ys h.1)

rising_from : (from next : ℕ) (xs : List ℕ) → from ≤ next → AreRising next xs → AreRising from xs
rising_from from next [] l h = tt
rising_from from next (x ∷ xs) l h = let m = h.0 in (omega (arith, l, m), h.1)

abbrev all_labels : List Block → List ℕ
all_labels [] = []
all_labels (b ∷ bs) = labels b ++ all_labels bs

either_same : (b : Bool) (x y : Block) (ls : List ℕ) → labels x ≡ ls → labels y ≡ ls → labels (cond b x y) ≡ ls
either_same true x y ls e f = e
either_same false x y ls e f = f

same_labels : (c : Parts) (n : ℕ) (j : Instr) (rest : Block) → labels (statement c n j rest) ≡ labels rest
same_labels c n (i.Const into value) rest = refl
same_labels c n (i.Member into source set) rest = refl
same_labels c n (i.Op into operator x y) rest = refl
same_labels c n (i.Bits into source low count) rest = refl
same_labels c n (i.Pos into) rest = refl
same_labels c n (i.Jump target) rest = refl
same_labels c n (i.JumpIf test target) rest = refl
same_labels c n (i.JumpUnless test target) rest = refl
same_labels c n (i.Call first m k site) rest = refl
same_labels c n i.Return rest = refl
same_labels c n (i.Fetch into order width site) rest = refl
same_labels c n (i.SkipK bytes site) rest = either_same (nat_eq bytes 0) _ _ (labels rest) refl refl
same_labels c n (i.Skip size site) rest = refl
same_labels c n i.Rest rest = refl
same_labels c n (i.Zeros site) rest = refl
same_labels c n (i.Zeroterm bound width site) rest = refl
same_labels c n (i.NarrowK bytes site) rest = either_same (nat_eq bytes 0) _ _ (labels rest) refl refl
same_labels c n (i.Narrow size site) rest = refl
same_labels c n (i.Divides size step site) rest = refl
same_labels c n (i.Widen site) rest = refl
same_labels c n (i.Fail reason site) rest = refl
same_labels c n (i.Get into cell) rest = refl
same_labels c n (i.Set source cell) rest = refl
same_labels c n i.Mark rest = refl
same_labels c n (i.Copy size buffer site) rest = refl
same_labels c n (i.Left into) rest = refl
same_labels c n (i.While target) rest = refl
same_labels c n (i.Again target) rest = refl

module _ (c : Parts) (n : ℕ) where
  stated_rising : (pc : ℕ) (j : Instr) (bs : List Block) → AreRising (pc + 1) (all_labels bs) → AreRising pc (all_labels (stated c n pc j bs))
  stated_rising pc j [] h = tt
  stated_rising pc j (rest ∷ more) h = (omega arith, subst (λ ls. AreRising (pc + 1) (ls ++ all_labels more)) (sym (same_labels c n j rest)) h)

  looped_rising : (pc : ℕ) (bs : List Block) → AreRising (pc + 1) (all_labels bs) → AreRising pc (all_labels (looped c n pc bs))
  looped_rising pc [] h = tt
  looped_rising pc (inner ∷ []) h = tt
  looped_rising pc (inner ∷ rest ∷ more) h = (omega arith, subst (λ ls. AreRising (pc + 1) ls) (sym (append_assoc (labels inner) (labels rest) (all_labels more))) h)

  put_rising : (pc : ℕ) (j : Instr) (bs : List Block) → AreRising (pc + 1) (all_labels bs) → AreRising pc (all_labels (put c n pc j bs))
  put_rising pc (i.Const into value) bs h = stated_rising pc (i.Const into value) bs h
  put_rising pc (i.Member into source set) bs h = stated_rising pc (i.Member into source set) bs h
  put_rising pc (i.Op into operator x y) bs h = stated_rising pc (i.Op into operator x y) bs h
  put_rising pc (i.Bits into source low count) bs h = stated_rising pc (i.Bits into source low count) bs h
  put_rising pc (i.Pos into) bs h = stated_rising pc (i.Pos into) bs h
  put_rising pc (i.Jump target) bs h = stated_rising pc (i.Jump target) bs h
  put_rising pc (i.JumpIf test target) bs h = stated_rising pc (i.JumpIf test target) bs h
  put_rising pc (i.JumpUnless test target) bs h = stated_rising pc (i.JumpUnless test target) bs h
  put_rising pc (i.Call first m k site) bs h = stated_rising pc (i.Call first m k site) bs h
  put_rising pc i.Return bs h = stated_rising pc i.Return bs h
  put_rising pc (i.Fetch into order width site) bs h = stated_rising pc (i.Fetch into order width site) bs h
  put_rising pc (i.SkipK bytes site) bs h = stated_rising pc (i.SkipK bytes site) bs h
  put_rising pc (i.Skip size site) bs h = stated_rising pc (i.Skip size site) bs h
  put_rising pc i.Rest bs h = stated_rising pc i.Rest bs h
  put_rising pc (i.Zeros site) bs h = stated_rising pc (i.Zeros site) bs h
  put_rising pc (i.Zeroterm bound width site) bs h = stated_rising pc (i.Zeroterm bound width site) bs h
  put_rising pc (i.NarrowK bytes site) bs h = stated_rising pc (i.NarrowK bytes site) bs h
  put_rising pc (i.Narrow size site) bs h = stated_rising pc (i.Narrow size site) bs h
  put_rising pc (i.Divides size step site) bs h = stated_rising pc (i.Divides size step site) bs h
  put_rising pc (i.Widen site) bs h = stated_rising pc (i.Widen site) bs h
  put_rising pc (i.Fail reason site) bs h = stated_rising pc (i.Fail reason site) bs h
  put_rising pc (i.Get into cell) bs h = stated_rising pc (i.Get into cell) bs h
  put_rising pc (i.Set source cell) bs h = stated_rising pc (i.Set source cell) bs h
  put_rising pc i.Mark bs h = stated_rising pc i.Mark bs h
  put_rising pc (i.Copy size buffer site) bs h = stated_rising pc (i.Copy size buffer site) bs h
  put_rising pc (i.Left into) bs h = stated_rising pc (i.Left into) bs h
  put_rising pc (i.While target) bs h = looped_rising pc bs h
  put_rising pc (i.Again target) bs h = (omega arith, h)

  blocks_rising : (pc : ℕ) (js : List Instr) → AreRising pc (all_labels (blocks c n pc js))
  blocks_rising pc [] = tt
  blocks_rising pc (j ∷ js) = put_rising pc j (blocks c n (pc + 1) js) (blocks_rising (pc + 1) js)

  first_rising : (pc : ℕ) (bs : List Block) → AreRising pc (all_labels bs) → AreRising 0 (labels (first_block c n bs))
  first_rising pc [] h = tt
  first_rising pc (b ∷ bs) h = rising_from 0 pc (labels b) (omega arith) (rising_front pc (labels b) (all_labels bs) h)

-- Names
module _ (c : Parts) (names : ℕ → List ℕ) (code : IsCode c) (sound : IsSound c) (numbers : HasNumbers c) (n : ℕ) (few : Each (λ v. v < 2 ^ 64) (routine_of c n).buffers) where
  abbrev Written : Expr → Type 0
  Written e = IsWritten (program c names) (RoutineHas (routine_of c n).registers) ((routine_of c n).cells + 2 * length (routine_of c n).buffers) (length (routine_of c n).buffers) 9 n e

  abbrev Is : Block → Type 0
  Is b = IsDeclared (program c names) (RoutineHas (routine_of c n).registers) ((routine_of c n).cells + 2 * length (routine_of c n).buffers) (length (routine_of c n).buffers) 9 n b

  -- what the verifier promises of an instruction
  record IsKept (j : Instr) : Type 0 where
    registers : HasRegisters (routine_of c n).registers (callee_params c j) j
    tables : HasTables c n j
    operands : HasOperands j
    number : HasNumber c j
    calls : CallsWell (depths (shapes_of c) (lengths_of c) n) n (shape j)

  either_written : (b : Bool) (x y : Expr) → Written x → Written y → Written (cond b x y)
  either_written true x y h k = h
  either_written false x y h k = k

  either_is : (b : Bool) (x y : Block) → Is x → Is y → Is (cond b x y)
  either_is true x y h k = h
  either_is false x y h k = k

  operated_written : (o x y : ℕ) → x < (routine_of c n).registers → y < (routine_of c n).registers → Written (operated o x y)
  operated_written o x y h k =
      either_written (nat_eq o 0) _ _ (h, k)
      (either_written (nat_eq o 1) _ _ (h, k)
      (either_written (nat_eq o 2) _ _ (h, k)
      (either_written (nat_eq o 3) _ _ ((k, omega arith), omega arith, (h, k))
      (either_written (nat_eq o 4) _ _ ((k, omega arith), omega arith, (h, k))
      (either_written (nat_eq o 5) _ _ (h, k)
      (either_written (nat_eq o 6) _ _ (either_written (nat_eq x y) _ _ h (h, k))
      (either_written (nat_eq o 7) _ _ (h, k)
      (either_written (nat_eq o 8) _ _ ((k, omega arith), (h, k), omega arith)
      (either_written (nat_eq o 9) _ _ ((k, omega arith), (h, k), omega arith)
      (either_written (nat_eq o 10) _ _ (h, k)
      (either_written (nat_eq o 11) _ _ (h, k)
      (either_written (nat_eq o 12) _ _ (h, k) (h, k)))))))))))))

  -- a callee's cells and buffers
  module _ (m k : ℕ) (h : IsCellMap c n m k) where
    given_count : length (drop (routine_of c m).cells (map_of c k)) ≡ length (routine_of c m).buffers
    given_count = let e = length-drop (routine_of c m).cells (map_of c k) in let s = h.size in omega (arith, e, s)

    cell_count : length (cells_by c n m k) ≡ (routine_of c m).cells + 2 * length (routine_of c m).buffers
    cell_count =
        let front = length-take-le (routine_of c m).cells (map_of c k) (let e = h.size in omega (arith, e)) in
        let block_means = length-append (take (routine_of c m).cells (map_of c k)) (buffer_cells (routine_of c n).cells (drop (routine_of c m).cells (map_of c k))) in
        let many = buffer_count (routine_of c n).cells (drop (routine_of c m).cells (map_of c k)) in
        omega (arith, front, block_means, many, given_count)

    given_each : Each (λ b. b < length (routine_of c n).buffers) (drop (routine_of c m).cells (map_of c k))
    given_each = each_below (length (routine_of c n).buffers) (drop (routine_of c m).cells (map_of c k)) (λ j l. (h.buffers j (omega (arith, l, given_count))).0)

    cell_each : Each (λ b. b < (routine_of c n).cells + 2 * length (routine_of c n).buffers) (cells_by c n m k)
    cell_each =
        each_append (λ b. b < (routine_of c n).cells + 2 * length (routine_of c n).buffers) (take (routine_of c m).cells (map_of c k)) (buffer_cells (routine_of c n).cells (drop (routine_of c m).cells (map_of c k)))
        (each_below ((routine_of c n).cells + 2 * length (routine_of c n).buffers) (take (routine_of c m).cells (map_of c k)) (λ j l. let b = h.numbers j l in omega (arith, b)))
        (both_cells (routine_of c n).cells (length (routine_of c n).buffers) (drop (routine_of c m).cells (map_of c k)) given_each)

    callee_there : m < length c.routines → RoutineTakes (routine_of c m).params (length (cells_by c n m k)) (length (drop (routine_of c m).cells (map_of c k))) (slice_get (functions c names 0 (length c.routines)) m)
    callee_there l =
        subst (RoutineTakes (routine_of c m).params (length (cells_by c n m k)) (length (drop (routine_of c m).cells (map_of c k)))) (sym (function_at c names (length c.routines) 0 m l ∙ (let e : 0 + m ≡ m = omega arith in ap (λ n. Some (function c names n)) e)))
        (refl, sym cell_count, sym given_count)

  module _ (inside : n < length c.routines) where
    declares : (j : Instr) → IsKept j → (rest : Block) → Is rest → Is (statement c n j rest)
    declares (i.Const into value) k rest r = (k.registers, k.number, r)
    declares (i.Member into source set) k rest r = (k.registers.0, k.registers.1, k.number, code.sets set k.tables, r)
    declares (i.Op into operator x y) k rest r = (k.registers.0, operated_written operator x y k.registers.1 k.registers.2, r)
    declares (i.Bits into source low count) k rest r = let o = k.operands.0 in let q = k.operands.1 in (k.registers.0, ((k.registers.1, omega (arith, o)), mask_few count (omega (arith, o))), r)
    declares (i.Pos into) k rest r = (k.registers, tt, r)
    declares (i.Jump target) k rest r = r
    declares (i.JumpIf test target) k rest r = (k.registers, tt, r)
    declares (i.JumpUnless test target) k rest r = ((k.registers, omega arith), tt, r)
    declares (i.Call first m map site) k rest r =
        let lower : m < n = k.calls.0 in
        let h = k.tables.1 in
        (k.registers, tt, tt, tt, lower, callee_there m map h (omega (arith, lower, inside)), cell_each m map h, given_each m map h, r)
    declares i.Return k rest r = (tt, r)
    declares (i.Fetch into order width site) k rest r =
        let t = number_taker order width k.operands.1 in
        let w = width_few width k.operands.1 in
        (((tt, tt), w), (tt, tt, tt), (k.registers, t.0, t.1, (tt, tt), tt, (tt, (tt, w), r)))
    declares (i.SkipK bytes site) k rest r =
        let o = k.operands in
        let w : bytes < 2 ^ 64 = omega (arith, o) in
        either_is (nat_eq bytes 0) _ _ r ((((tt, tt), w), (tt, tt, tt), (tt, (tt, w), r)))
    declares (i.Skip size site) k rest r = (((tt, tt), k.registers), (tt, tt, tt), (tt, (tt, k.registers), r))
    declares i.Rest k rest r = (tt, tt, r)
    declares (i.Zeros site) k rest r = ((tt, tt), (tt, omega arith, (refl, refl), (tt, tt), tt, (tt, (tt, tt, tt), (tt, (tt, omega arith), tt))), r)
    declares (i.Zeroterm bound width site) k rest r =
        let t = little_taker width k.operands in
        let w = width_few width k.operands in
        (tt, (k.registers, w), (tt, ((tt, tt), w), (tt, omega arith, (tt, ((tt, omega arith), (tt, tt, tt), ((tt, omega arith), (tt, tt, tt), (tt, t.0, t.1, (tt, tt), tt, (tt, (tt, w), (tt, (tt, omega arith), (tt, (tt, omega arith), tt)))))), r))))
    declares (i.NarrowK bytes site) k rest r =
        let o = k.operands in
        let w : bytes < 2 ^ 64 = omega (arith, o) in
        either_is (nat_eq bytes 0) _ _ (tt, tt, (tt, tt, r)) ((((tt, tt), w), (tt, tt, tt), (tt, tt, (tt, (tt, w), r))))
    declares (i.Narrow size site) k rest r = (((tt, tt), k.registers), (tt, tt, tt), (tt, tt, (tt, (tt, k.registers), r)))
    declares (i.Divides size step site) k rest r = ((k.registers, k.number), (tt, tt, tt), r)
    declares (i.While target) k rest r = r
    declares (i.Again target) k rest r = r
    declares (i.Widen site) k rest r = ((tt, tt), (tt, tt, tt), (tt, tt, r))
    declares (i.Fail reason site) k rest r = (tt, tt, r)
    declares (i.Get into cell) k rest r = let t = k.tables in (k.registers, omega (arith, t), r)
    declares (i.Set source cell) k rest r = let t = k.tables in (omega (arith, t), k.registers, r)
    declares i.Mark k rest r = (tt, tt, r)
    declares (i.Left into) k rest r = (k.registers, (tt, tt), r)
    declares (i.Copy size buffer site) k rest r =
        let t = k.tables.1 in (
          ((tt, tt), k.registers),
          (tt, tt, tt),
          (
            tt,
            small_at (routine_of c n).buffers few buffer,
            (
              (k.registers, tt),
              (tt, k.registers, tt),
              (
                omega (arith, t),
                tt,
                (
                  omega (arith, t),
                  tt,
                  (tt, omega arith, (refl, refl), (tt, (tt, tt)), (t, tt), (tt, (tt, k.registers), r)),
                ),
              ),
            ),
          ),
        )

    stated_is : (pc : ℕ) (j : Instr) → IsKept j → (bs : List Block) → Each Is bs → Each Is (stated c n pc j bs)
    stated_is pc j k [] h = tt
    stated_is pc j k (rest ∷ more) h = (declares j k rest h.0, h.1)

    looped_is : (pc : ℕ) (bs : List Block) → Each Is bs → Each Is (looped c n pc bs)
    looped_is pc [] h = tt
    looped_is pc (inner ∷ []) h = tt
    looped_is pc (inner ∷ rest ∷ more) h = (((tt, tt), h.0, h.1.0), h.1.1)

    put_is : (pc : ℕ) (j : Instr) → IsKept j → (bs : List Block) → Each Is bs → Each Is (put c n pc j bs)
    put_is pc (i.Const into value) known bs h = stated_is pc (i.Const into value) known bs h
    put_is pc (i.Member into source set) known bs h = stated_is pc (i.Member into source set) known bs h
    put_is pc (i.Op into operator x y) known bs h = stated_is pc (i.Op into operator x y) known bs h
    put_is pc (i.Bits into source low count) known bs h = stated_is pc (i.Bits into source low count) known bs h
    put_is pc (i.Pos into) known bs h = stated_is pc (i.Pos into) known bs h
    put_is pc (i.Jump target) known bs h = stated_is pc (i.Jump target) known bs h
    put_is pc (i.JumpIf test target) known bs h = stated_is pc (i.JumpIf test target) known bs h
    put_is pc (i.JumpUnless test target) known bs h = stated_is pc (i.JumpUnless test target) known bs h
    put_is pc (i.Call first m k site) known bs h = stated_is pc (i.Call first m k site) known bs h
    put_is pc i.Return known bs h = stated_is pc i.Return known bs h
    put_is pc (i.Fetch into order width site) known bs h = stated_is pc (i.Fetch into order width site) known bs h
    put_is pc (i.SkipK bytes site) known bs h = stated_is pc (i.SkipK bytes site) known bs h
    put_is pc (i.Skip size site) known bs h = stated_is pc (i.Skip size site) known bs h
    put_is pc i.Rest known bs h = stated_is pc i.Rest known bs h
    put_is pc (i.Zeros site) known bs h = stated_is pc (i.Zeros site) known bs h
    put_is pc (i.Zeroterm bound width site) known bs h = stated_is pc (i.Zeroterm bound width site) known bs h
    put_is pc (i.NarrowK bytes site) known bs h = stated_is pc (i.NarrowK bytes site) known bs h
    put_is pc (i.Narrow size site) known bs h = stated_is pc (i.Narrow size site) known bs h
    put_is pc (i.Divides size step site) known bs h = stated_is pc (i.Divides size step site) known bs h
    put_is pc (i.Widen site) known bs h = stated_is pc (i.Widen site) known bs h
    put_is pc (i.Fail reason site) known bs h = stated_is pc (i.Fail reason site) known bs h
    put_is pc (i.Get into cell) known bs h = stated_is pc (i.Get into cell) known bs h
    put_is pc (i.Set source cell) known bs h = stated_is pc (i.Set source cell) known bs h
    put_is pc i.Mark known bs h = stated_is pc i.Mark known bs h
    put_is pc (i.Copy size buffer site) known bs h = stated_is pc (i.Copy size buffer site) known bs h
    put_is pc (i.Left into) known bs h = stated_is pc (i.Left into) known bs h
    put_is pc (i.While target) k bs h = looped_is pc bs h
    put_is pc (i.Again target) k bs h = (tt, h)

    kept : (pc : ℕ) (j : Instr) → IsIn c n pc → slice_get c.instructions pc ≡ Some j → IsKept j
    kept pc j place h =
        let is : instruction_of c pc ≡ j = get_or_from_slice_get c.instructions pc j (i.Fail 0 0) h in
        record {
          registers = subst (λ x. HasRegisters (routine_of c n).registers (callee_params c x) x) is (sound n pc place Register);
          tables = subst (HasTables c n) is (sound n pc place Table).0;
          operands = subst HasOperands is (sound n pc place Operand);
          number = each_at (HasNumber c) c.instructions pc j numbers.instructions h;
          calls = subst (λ z. CallsWell (depths (shapes_of c) (lengths_of c) n) n z) (shape_there c pc ∙ ap shape is) (sound n pc place Depth);
        }

    abbrev code_from : ℕ → List Instr
    code_from pc = slice_range c.instructions pc (end_of c n)

    code_next : (pc : ℕ) (j : Instr) → slice_get c.instructions pc ≡ Some j → pc < end_of c n → code_from pc ≡ j ∷ code_from (pc + 1)
    code_next pc j h l =
        let e : end_of c n - pc ≡ suc (end_of c n - (pc + 1)) = omega (arith, l) in
        let m : suc pc ≡ pc + 1 = omega arith in
        ap (λ k. take k (drop pc c.instructions)) e
        ∙ ap (λ ys. take (suc (end_of c n - (pc + 1))) ys) (drop-cons c.instructions pc j (slice_get_within c.instructions pc j h) ∙ ap (λ y. y ∷ drop (suc pc) c.instructions) (get_or_from_slice_get c.instructions pc j j h))
        ∙ ap (λ k. j ∷ take (end_of c n - (pc + 1)) (drop k c.instructions)) m

    all_are : (k pc : ℕ) → pc + k ≡ end_of c n → first_of c n ≤ pc → end_of c n ≤ length c.instructions → Each Is (blocks c n pc (code_from pc))
    all_are zero pc e f m =
        let z : end_of c n - pc ≡ 0 = omega (arith, e) in
        let nothing : code_from pc ≡ [] = ap (λ k. take k (drop pc c.instructions)) z in
        subst (λ js. Each Is (blocks c n pc js)) (sym nothing) (tt, tt)
    all_are (suc k) pc e f m =
        let x = got c.instructions pc (omega (arith, e, m)) in
        let place : IsIn c n pc = record { routine = inside; from = f; to = omega (arith, e) } in
        subst (λ js. Each Is (blocks c n pc js)) (sym (code_next pc x.0 x.1 (omega (arith, e))))
        (put_is pc x.0 (kept pc x.0 place x.1) (blocks c n (pc + 1) (code_from (pc + 1))) (all_are k (pc + 1) (omega (arith, e)) (omega (arith, f)) m))

    first_is : (bs : List Block) → Each Is bs → Is (first_block c n bs)
    first_is [] h = tt
    first_is (b ∷ bs) h = h.0

    one_is : IsWellLaid c → IsFunction (program c names) n (function c names n)
    one_is laid =
        let up = begin_up (lengths_of c) n (suc n) (omega arith) in
        let past = begin_up (lengths_of c) (suc n) (length c.routines) inside in
        let w = code.whole in
        let first = first_of c n in
        let own = blocks c n first (code_from first) in
        let f = function c names n in
        record {
          room = (code.routines n inside).room;
          once = routine_once f;
          declared = declared_more (program c names) (RoutineHas (routine_of c n).registers) (HasVariable (routine_params f) (routine_locals f)) (has_routine f) f.cells f.buffers 9 n (body c n)
              (tt, tt, (tt, tt, first_is own (all_are (end_of c n - first) first (omega (arith, up)) (omega arith) (omega (arith, past, w)))));
          labels = record { once = first_rising c n first own (blocks_rising c n first (code_from first)); behind = body_forward c n first (code_from first) (laid.laid [] [] n inside) };
        }

-- Helpers
module _ (p : Program) (same : p.helpers ≡ prelude) where
  asked : (k args buffers : ℕ) → HelperTakes args buffers (slice_get prelude k) → HelperTakes args buffers (slice_get p.helpers k)
  asked k args buffers h = subst (λ hs. HelperTakes args buffers (slice_get hs k)) (sym same) h

  little_is : (n : ℕ) (name : List ℕ) (width : ℕ) → 0 < n → 64 - 8 * width < 2 ^ 64 → 2 ^ (8 * width) - 1 < 2 ^ 64 → IsHelper p n (little name width)
  little_is n name width some u v =
      let a = asked 0 1 0 (refl, refl) in
      record {
        once = (refl, (refl, (refl, (refl, (refl, (refl, tt))))));
        labels = record { once = tt; behind = (tt, tt) };
        declared = (
          refl,
          ((refl, omega arith), omega arith),
          (
            refl,
            some,
            a,
            ((refl, omega arith), tt),
            tt,
            (
              refl,
              (refl, refl),
              ((u, refl), (refl, some, a, (((refl, omega arith), omega arith), tt), tt, (refl, (refl, (refl, (omega arith, refl))), tt)), ((refl, v), tt)),
            ),
          ),
        );
      }

  big_is : (n : ℕ) (name : List ℕ) (width : ℕ) → little_helper width < n → HelperTakes 1 0 (slice_get prelude (little_helper width)) → 64 - 8 * width < 2 ^ 64 → IsHelper p n (big name width)
  big_is n name width some h u =
      record { once = (refl, (refl, (refl, (refl, tt)))); labels = record { once = tt; behind = tt }; declared = (refl, some, asked (little_helper width) 1 0 h, (refl, tt), tt, ((refl, u), tt)) }

  copy_is : IsHelper p 8 td_copy
  copy_is = record {
    once = (refl, (refl, (refl, (refl, (refl, (refl, (refl, (refl, tt))))))));
    labels = record { once = tt; behind = ((tt, (tt, (tt, tt))), tt) };
    declared = (
      (refl, refl),
      (
        refl,
        ((refl, omega arith), omega arith),
        (
          refl,
          (refl, refl),
          (
            refl,
            (refl, omega arith, tt),
            (
              (omega arith, refl),
              (refl, omega arith, asked 0 1 0 (refl, refl), ((refl, omega arith), tt), tt, (omega arith, (refl, omega arith), (refl, omega arith), (omega arith, (refl, omega arith), (refl, omega arith), (omega arith, (refl, omega arith), (refl, omega arith), (omega arith, (refl, omega arith), (refl, omega arith), (omega arith, (refl, omega arith), (refl, omega arith), (omega arith, (refl, omega arith), (refl, omega arith), (omega arith, (refl, omega arith), (refl, omega arith), (omega arith, (refl, omega arith), (refl, omega arith), (refl, (refl, omega arith), (refl, (refl, omega arith), (refl, (refl, omega arith), tt)))))))))))),
              ((refl, refl), (refl, omega arith, asked 0 1 0 (refl, refl), ((refl, omega arith), tt), tt, (omega arith, refl, (refl, refl), (refl, (refl, omega arith), (refl, (refl, omega arith), tt)))), tt),
            ),
          ),
        ),
      ),
      (refl, tt),
    );
  }

  all_helpers : AreHelpers p 0 prelude
  all_helpers = (
    record { once = (refl, (refl, (refl, tt))); labels = record { once = tt; behind = (tt, tt) }; declared = ((refl, refl), (refl, tt), (refl, tt)) },
    (
      little_is 1 (codes "td_little_1") 1 (omega arith) (omega arith) (omega arith),
      (
        little_is 2 (codes "td_little_2") 2 (omega arith) (omega arith) (omega arith),
        (
          little_is 3 (codes "td_little_4") 4 (omega arith) (omega arith) (omega arith),
          (
            little_is 4 (codes "td_little_8") 8 (omega arith) (omega arith) (omega arith),
            (
              big_is 5 (codes "td_big_2") 2 (omega arith) (refl, refl) (omega arith),
              (
                big_is 6 (codes "td_big_4") 4 (omega arith) (refl, refl) (omega arith),
                (
                  big_is 7 (codes "td_big_8") 8 (omega arith) (refl, refl) (omega arith),
                  (copy_is, tt),
                ),
              ),
            ),
          ),
        ),
      ),
    ),
  )

pub program_is_text : ((c : Parts) → IsCode c → IsSound c → IsSafe c) → TurnTakes → ProgramIsText
program_is_text safe_of takes c code sound numbers named = record {
  helpers = all_helpers (program c (routine_name c)) refl;
  routines = all_functions (length c.routines) 0 (omega arith);
  identifiers = identifiers c named.spelled named.few;
  apart = names_apart c named.few;
  strings = named.spelled;
}
  where
    constants : AreNumbers c
    constants p into value e = each_at (HasNumber c) c.instructions p (i.Const into value) numbers.instructions e

    laid : IsWellLaid c
    laid = sound_is_laid c code sound (safe_of c code sound) constants (busy takes c code sound)

    few : (n : ℕ) → n < length c.routines → Each (λ v. v < 2 ^ 64) (routine_of c n).buffers
    few n l =
        each_map (λ v. v < 2 ^ 32) (λ v. v < 2 ^ 64) (routine_of c n).buffers (λ v h. omega (arith, h))
        (each_index (λ (r : Routine). Each (λ v. v < 2 ^ 32) r.buffers) c.routines no_routine n numbers.rooms l)

    all_functions : (count first : ℕ) → first + count ≤ length c.routines → AreFunctions (program c (routine_name c)) first (functions c (routine_name c) first count)
    all_functions zero first l = tt
    all_functions (suc count) first l =
        (one_is c (routine_name c) code sound numbers first (few first (omega (arith, l))) (omega (arith, l)) laid, all_functions count (first + 1) (omega (arith, l)))
