-- The calls of a routine's blocks are those of its instructions.
use Rattle.std.proofs.Common.{◌≡◌, ℕ, zero, suc, ◌+◌, ◌-◌, ◌<◌, ◌≤◌, max, Bool, true, false, cond, List, [], ◌∷◌, length, Some, refl, sym, ap, ◌∙◌, subst, arith, take, drop}
use Rattle.std.specs.Prelude.{slice_get, slice_index, slice_range}
use Rattle.std.proofs.lemmas.Option.{get_or_from_slice_get, slice_get_within}
use Rattle.std.proofs.Math.Seq.{drop-cons}
use Rattle.td_num.proofs.Lists.{got}
use Rattle.td_ir.specs.declared.instructions.Instr.{Instr}
use Rattle.td_ir.specs.declared.instructions.Instr.TheVariants as i
use Rattle.td_ir.specs.declared.tables.Parts.{Parts}
use Rattle.td_ir.specs.Tables.{instruction_of, lengths_of, begin, first_of, end_of}
use Rattle.td_verify.specs.declared.shape.Shape.{Shape}
use Rattle.td_verify.specs.declared.shape.Shape.TheVariants.{While, Again}
use Rattle.td_verify.specs.Shape.{shape, shapes_of}
use Rattle.td_verify.specs.Brackets.{shape_at, opened, and_then, closing_loop, in_loop}
use Rattle.td_verify.specs.Verify.{IsIn}
use Rattle.td_verify.specs.Safe.{IsSafe, looped}
use Rattle.td_verify.proofs.Sums.{shape_there}
use Rattle.td_verify.proofs.Flat.{next_opened}
use Rattle.td_vm.specs.Need.{called, greatest}
use Rattle.td_prog.specs.Syntax.{Block}
use Rattle.td_prog_code.specs.Instructions.{statement}
use Rattle.td_prog_code.specs.Program.{stated, looped as looped_blocks, put, blocks, first_block, body}
use Rattle.td_prog_stack.proofs.OpenLoops.{IsPlain, closed_loop, plain_open}
use Rattle.td_prog_stack.specs.Chains.{greatest_call}
use Rattle.td_prog_stack.proofs.Statements.{AreNear, adds}

-- the first of a stretch, and the others
greatest_front : (s : List Shape) (f : ℕ → ℕ) (from k : ℕ) → greatest s f from (suc k) ≡ max (called f (shape_at s from)) (greatest s f (from + 1) k)
greatest_front s f from zero =
    let e : from + 0 ≡ from = omega arith in
    let a = ap (λ q. called f (shape_at s q)) e in
    omega (arith, a)
greatest_front s f from (suc k) =
    let h = greatest_front s f from k in
    let e : from + suc k ≡ from + 1 + k = omega arith in
    let a = ap (λ q. called f (shape_at s q)) e in
    omega (arith, h, a)

-- how many blocks are open: a loop's, and what stands behind it
abbrev open_blocks : Bool → ℕ
open_blocks b = cond b 2 1

some_block : (b : Bool) → 1 ≤ open_blocks b
some_block true = omega arith
some_block false = omega arith

module _ (c : Parts) (safe : IsSafe c) (n : ℕ) (need helper routine : ℕ → ℕ) (d : ℕ) (near : AreNear need helper routine d) where
  abbrev G : Block → ℕ
  G b = greatest_call helper routine b

  -- the greatest call of all blocks
  abbrev all_calls : List Block → ℕ
  all_calls [] = 0
  all_calls (b ∷ bs) = max (G b) (all_calls bs)

  abbrev shape_of : ℕ → Shape
  shape_of p = shape_at (shapes_of c) p

  -- what k instructions from a place on call
  abbrev needed : ℕ → ℕ → ℕ
  needed pc k = greatest (shapes_of c) need pc k

  record Stands (pc k : ℕ) (bs : List Block) : Type 0 where
    count : length bs ≡ open_blocks (looped c pc)
    least : needed pc k ≤ all_calls bs
    most : all_calls bs ≤ needed pc k + d

  -- what is known of an instruction
  record IsKnown (pc : ℕ) (j : Instr) : Type 0 where
    place : IsIn c n pc
    form : shape_of pc ≡ shape j

  plain_stands : (pc k : ℕ) (j : Instr) (bs : List Block) → IsKnown pc j → IsPlain (shape j) → Stands (pc + 1) k bs → Stands pc (suc k) (stated c n pc j bs)
  plain_stands pc k j [] known plain x = let e = x.count in let s = some_block (looped c (pc + 1)) in absurd (omega (arith, e, s))
  plain_stands pc k j (rest ∷ more) known plain x =
      let a = adds c n need helper routine d near j rest in
      let front = greatest_front (shapes_of c) need pc k in
      let e : called need (shape_of pc) ≡ called need (shape j) = ap (called need) known.form in
      let l = x.least in
      let m = x.most in
      let a0 = a.0 in
      let a1 = a.1 in
      let a2 = a.2 in
      record {
        count = x.count ∙ ap open_blocks (plain_open c safe n pc (shape j) known.place known.form plain).0;
        least = omega (arith, front, e, l, a0, a1);
        most = omega (arith, front, e, m, a2);
      }

  while_stands : (pc k t : ℕ) (bs : List Block) → IsIn c n pc → shape_of pc ≡ While t → Stands (pc + 1) k bs → Stands pc (suc k) (looped_blocks c n pc bs)
  while_stands pc k t bs place form x = by bs x.least x.most (x.count ∙ ap open_blocks (safe.loops.turning n pc t place form))
    where
      one : 1 ≡ open_blocks (looped c pc)
      one = ap open_blocks (sym (safe.loops.alone n pc t place form))

      by : (bs : List Block) → needed (pc + 1) k ≤ all_calls bs → all_calls bs ≤ needed (pc + 1) k + d → length bs ≡ 2 → Stands pc (suc k) (looped_blocks c n pc bs)
      by [] l m e = absurd (omega (arith, e))
      by (inner ∷ []) l m e = absurd (omega (arith, e))
      by (inner ∷ rest ∷ more) l m e =
          let front = greatest_front (shapes_of c) need pc k in
          let z : called need (shape_of pc) ≡ 0 = ap (called need) form in
          record { count = omega (arith, e, one); least = omega (arith, front, z, l); most = omega (arith, front, z, m) }

  again_stands : (pc k u : ℕ) (bs : List Block) → IsIn c n pc → shape_of pc ≡ Again u → Stands (pc + 1) k bs → Stands pc (suc k) (put c n pc (i.Again u) bs)
  again_stands pc k u bs place form x =
      let o : looped c (pc + 1) ≡ in_loop (closing_loop (opened (shapes_of c) pc)) =
      ap in_loop (next_opened (shapes_of c) pc ∙ ap (λ z. and_then pc z (opened (shapes_of c) pc)) form) in
      let shut = o ∙ closed_loop (opened (shapes_of c) pc) (safe.each n pc place).flat in
      let one : length bs ≡ 1 = x.count ∙ ap open_blocks shut in
      let two : 2 ≡ open_blocks (looped c pc) = ap open_blocks (sym (safe.loops.again n pc u place form)) in
      let front = greatest_front (shapes_of c) need pc k in
      let z : called need (shape_of pc) ≡ 0 = ap (called need) form in
      let l = x.least in
      let m = x.most in
      record { count = omega (arith, one, two); least = omega (arith, front, z, l); most = omega (arith, front, z, m) }

  stands_before : (pc k : ℕ) (j : Instr) (bs : List Block) → IsKnown pc j → Stands (pc + 1) k bs → Stands pc (suc k) (put c n pc j bs)
  stands_before pc k (i.While t) bs known x = while_stands pc k t bs known.place known.form x
  stands_before pc k (i.Again t) bs known x = again_stands pc k t bs known.place known.form x
  stands_before pc k (i.Const into value) bs known x = plain_stands pc k (i.Const into value) bs known tt x
  stands_before pc k (i.Member into source set) bs known x = plain_stands pc k (i.Member into source set) bs known tt x
  stands_before pc k (i.Op into operator u w) bs known x = plain_stands pc k (i.Op into operator u w) bs known tt x
  stands_before pc k (i.Bits into source low count) bs known x = plain_stands pc k (i.Bits into source low count) bs known tt x
  stands_before pc k (i.Pos into) bs known x = plain_stands pc k (i.Pos into) bs known tt x
  stands_before pc k (i.Jump target) bs known x = plain_stands pc k (i.Jump target) bs known tt x
  stands_before pc k (i.JumpIf test target) bs known x = plain_stands pc k (i.JumpIf test target) bs known tt x
  stands_before pc k (i.JumpUnless test target) bs known x = plain_stands pc k (i.JumpUnless test target) bs known tt x
  stands_before pc k (i.Call first m map site) bs known x = plain_stands pc k (i.Call first m map site) bs known tt x
  stands_before pc k i.Return bs known x = plain_stands pc k i.Return bs known tt x
  stands_before pc k (i.Fetch into order width site) bs known x = plain_stands pc k (i.Fetch into order width site) bs known tt x
  stands_before pc k (i.SkipK bytes site) bs known x = plain_stands pc k (i.SkipK bytes site) bs known tt x
  stands_before pc k (i.Skip size site) bs known x = plain_stands pc k (i.Skip size site) bs known tt x
  stands_before pc k i.Rest bs known x = plain_stands pc k i.Rest bs known tt x
  stands_before pc k (i.Zeros site) bs known x = plain_stands pc k (i.Zeros site) bs known tt x
  stands_before pc k (i.Zeroterm bound width site) bs known x = plain_stands pc k (i.Zeroterm bound width site) bs known tt x
  stands_before pc k (i.NarrowK bytes site) bs known x = plain_stands pc k (i.NarrowK bytes site) bs known tt x
  stands_before pc k (i.Narrow size site) bs known x = plain_stands pc k (i.Narrow size site) bs known tt x
  stands_before pc k (i.Divides size step site) bs known x = plain_stands pc k (i.Divides size step site) bs known tt x
  stands_before pc k (i.Widen site) bs known x = plain_stands pc k (i.Widen site) bs known tt x
  stands_before pc k (i.Fail reason site) bs known x = plain_stands pc k (i.Fail reason site) bs known tt x
  stands_before pc k (i.Get into cell) bs known x = plain_stands pc k (i.Get into cell) bs known tt x
  stands_before pc k (i.Set source cell) bs known x = plain_stands pc k (i.Set source cell) bs known tt x
  stands_before pc k i.Mark bs known x = plain_stands pc k i.Mark bs known tt x
  stands_before pc k (i.Copy size buffer site) bs known x = plain_stands pc k (i.Copy size buffer site) bs known tt x
  stands_before pc k (i.Left into) bs known x = plain_stands pc k (i.Left into) bs known tt x

  known : (pc : ℕ) (j : Instr) → IsIn c n pc → slice_get c.instructions pc ≡ Some j → IsKnown pc j
  known pc j place h =
      let is : instruction_of c pc ≡ j = get_or_from_slice_get c.instructions pc j (i.Fail 0 0) h in
      record { place = place; form = shape_there c pc ∙ ap shape is }

  abbrev code_from : ℕ → List Instr
  code_from pc = slice_range c.instructions pc (end_of c n)

  code_next : (pc : ℕ) (j : Instr) → slice_get c.instructions pc ≡ Some j → pc < end_of c n → code_from pc ≡ j ∷ code_from (pc + 1)
  code_next pc j h l =
      let e : end_of c n - pc ≡ suc (end_of c n - (pc + 1)) = omega (arith, l) in
      let m : suc pc ≡ pc + 1 = omega arith in
      ap (λ k. take k (drop pc c.instructions)) e
      ∙ ap (λ ys. take (suc (end_of c n - (pc + 1))) ys)
      (drop-cons c.instructions pc j (slice_get_within c.instructions pc j h) ∙ ap (λ y. y ∷ drop (suc pc) c.instructions)
      (get_or_from_slice_get c.instructions pc j j h))
      ∙ ap (λ k. j ∷ take (end_of c n - (pc + 1)) (drop k c.instructions)) m

  module _ (inside : n < length c.routines) (fits : end_of c n ≤ length c.instructions) (free : looped c (end_of c n) ≡ false) where
    stands : (k pc : ℕ) → pc + k ≡ end_of c n → first_of c n ≤ pc → Stands pc k (blocks c n pc (code_from pc))
    stands zero pc e f =
        let same : end_of c n ≡ pc = omega (arith, e) in
        let z : end_of c n - pc ≡ 0 = omega (arith, e) in
        let nothing : code_from pc ≡ [] = ap (λ k. take k (drop pc c.instructions)) z in
        let loose : looped c pc ≡ false = subst (λ q. looped c q ≡ false) same free in
        subst (λ js. Stands pc 0 (blocks c n pc js)) (sym nothing) (record { count = ap open_blocks (sym loose); least = omega arith; most = omega arith })
    stands (suc k) pc e f =
        let x = got c.instructions pc (omega (arith, e, fits)) in
        let place : IsIn c n pc = record { routine = inside; from = f; to = omega (arith, e) } in
        subst (λ js. Stands pc (suc k) (blocks c n pc js)) (sym (code_next pc x.0 x.1 (omega (arith, e))))
        (stands_before pc k x.0 (blocks c n (pc + 1) (code_from (pc + 1))) (known pc x.0 place x.1) (stands k (pc + 1) (omega (arith, e)) (omega (arith, f))))

    one_block : (bs : List Block) → length bs ≡ 1 → all_calls bs ≡ G (first_block c n bs)
    one_block [] e = absurd (omega (arith, e))
    one_block (b ∷ []) e = omega arith
    one_block (b ∷ d ∷ bs) e = absurd (omega (arith, e))

    -- a function's calls are its routine's
    pub body_near : looped c (first_of c n) ≡ false → (needed (first_of c n) (slice_index (lengths_of c) n) ≤ G (body c n)) × (G (body c n) ≤ needed (first_of c n) (slice_index (lengths_of c) n) + d)
    body_near loose =
        let bs = blocks c n (first_of c n) (code_from (first_of c n)) in
        let x = stands (slice_index (lengths_of c) n) (first_of c n) refl (omega arith) in
        let one = one_block bs (x.count ∙ ap open_blocks loose) in
        let l = x.least in
        let m = x.most in
        (omega (arith, l, one), omega (arith, m, one))
