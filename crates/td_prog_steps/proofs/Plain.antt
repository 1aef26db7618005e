-- Instructions without loads, one by one.
use Rattle.std.proofs.Common.{◌≡◌, ℕ, ◌+◌, ◌-◌, ◌%◌, ◌^◌, ◌<◌, ◌≤◌, Bool, true, cond, [], refl, sym, ap, ◌∙◌, subst, arith, slice_index, slice_set}
use Rattle.std.specs.Prelude.{nat_lt, nat_le, nat_eq}
use Rattle.td_num.specs.Lists.{is_among}
use Rattle.td_num.proofs.Truths.{eq_is}
use Rattle.td_core.specs.declared.outcome.Reason.TheVariants.{NotEnough, ListSize}
use Rattle.td_ir.specs.declared.instructions.Instr.{Instr}
use Rattle.td_ir.specs.declared.instructions.Instr.TheVariants as i
use Rattle.td_ir.specs.Tables.{end_of, set_of}
use Rattle.td_ir.specs.State.{State, with_reg, at_pos, Exit}
use Rattle.td_ir.specs.Values.{bit, reason_of}
use Rattle.td_ir.specs.Values as values
use Rattle.td_ir.specs.Flow.{Flow, Goes, Fails, plain, where_so, effect}
use Rattle.td_ir.specs.Run.{again}
use Rattle.td_ir.proofs.Blocks.{run_returns}
use Rattle.td_prog.specs.Tree.{Tree, Done}
use Rattle.td_prog.specs.Syntax.{Start, Pos, End, Outer, Reg, Num, Get, Block, Assign}
use Rattle.td_prog.specs.Values.{Locals, written}
use Rattle.td_prog.specs.Means.{Out, Gave, Continuation, Labels, given, jump}
use Rattle.td_prog_code.specs.Instructions.{statement, skipped, narrowed}
use Rattle.td_prog_trees.specs.Agree.{state_of, IsGood, Agrees, IsOnward}
use Rattle.td_prog_trees.proofs.Composing.{by_cases}
use Rattle.td_prog_steps.proofs.Values.{operated_is, operated_small, bit_small, bits_is, bits_small, rest_is}
use Rattle.td_prog_steps.proofs.Goods.{start_small, small_at, sum_is, end_small, left_is, good_regs, good_cells, good_start, good_pos, good_narrow, good_widen}
use Rattle.td_prog_steps.proofs.Activation.{Activation, IsActive}
use Rattle.td_prog_steps.proofs.Activation as routine
use Rattle.td_prog_steps.proofs.Steps.{goes_on, fails, failed, failed_ok, with_room}

module _ (activation : Activation) (is : IsActive activation) where
  open activation use {extent, code as c, number as n, places}
  open extent use {basis}
  open basis use {message}

  abbrev exit : (State → Exit) → ℕ → State → Exit
  exit f pc s = routine.exit activation f pc s

  abbrev begin : Block → Continuation → Labels → Continuation
  begin b go around = (routine.meaning activation b go around).0

  -- what stands at the labels of a block and around it
  abbrev labels : Block → Continuation → Labels → Labels
  labels b go around = (routine.meaning activation b go around).1

  abbrev IsHere : ℕ → Instr → Type 0
  IsHere pc j = routine.IsHere activation pc j

  abbrev Ok : Locals → Tree Out → Exit → Type 0
  Ok s x e = Agrees extent s.next x e

  abbrev Follows : Continuation → (State → Exit) → Type 0
  Follows go f = IsOnward extent go f

  pub case_fail : (f : State → Exit) (pc : ℕ) (rest : Block) (go : Continuation) (around : Labels) (reason site : ℕ) → IsHere pc (i.Fail reason site)
      → Follows (begin (statement c n (i.Fail reason site) rest) go around) (exit f pc)
  case_fail f pc rest go around reason site a s g =
      fails activation is f pc (i.Fail reason site) s (state_of s) (reason_of reason) site s.start [] 1
      (failed activation is (reason_of reason) site s) a refl (failed_ok activation is (reason_of reason) site s g)

  pub case_jump : (f : State → Exit) (pc : ℕ) (rest : Block) (go : Continuation) (around : Labels) (target : ℕ) → pc < target → target < end_of c n
      → Follows (jump target (labels rest go around)) (exit f target)
      → IsHere pc (i.Jump target) → Follows (begin (statement c n (i.Jump target) rest) go around) (exit f pc)
  case_jump f pc rest go around target forward inside there a s g =
      goes_on activation is f pc target (i.Jump target) s (state_of s) [] 1 (jump target (labels rest go around) s) a forward inside refl (there s g)

  -- a routine's rest behind an instruction
  module _ (f : State → Exit) (pc : ℕ) (rest : Block) (go : Continuation) (around : Labels) (l : pc + 1 < end_of c n)
      (ih : Follows (begin rest go around) (exit f (pc + 1))) where
    next : pc < pc + 1
    next = omega arith

    pub case_const : (into v : ℕ) → IsHere pc (i.Const into v) → v < 2 ^ 64 → Follows (begin (statement c n (i.Const into v) rest) go around) (exit f pc)
    case_const into v a b s g =
        goes_on activation is f pc (pc + 1) (i.Const into v) s (with_reg (state_of s) into v) [] 1
        (begin rest go around (written (Reg into) v s)) a next l refl
        (ih (written (Reg into) v s) (good_regs extent s into v b g))

    pub case_pos : (into : ℕ) → IsHere pc (i.Pos into) → Follows (begin (statement c n (i.Pos into) rest) go around) (exit f pc)
    case_pos into a s g =
        let b : s.start < 2 ^ 64 = (let h = start_small extent s is.within g in omega (arith, h)) in
        goes_on activation is f pc (pc + 1) (i.Pos into) s (with_reg (state_of s) into s.start) [] 1
        (begin rest go around (written (Reg into) s.start s)) a next l refl
        (ih (written (Reg into) s.start s) (good_regs extent s into s.start b g))

    pub case_left : (into : ℕ) → IsHere pc (i.Left into) → Follows (begin (statement c n (i.Left into) rest) go around) (exit f pc)
    case_left into a s g =
        let e = end_small extent s is.within g in
        let v = s.end - s.pos in
        let b : v < 2 ^ 64 = omega (arith, e) in
        subst (λ x. Ok s (begin rest go around (written (Reg into) x s)) (exit f pc (state_of s))) (sym (left_is s.end s.pos g.within e))
        (goes_on activation is f pc (pc + 1) (i.Left into) s (with_reg (state_of s) into v) [] 1
        (begin rest go around (written (Reg into) v s)) a next l refl
        (ih (written (Reg into) v s) (good_regs extent s into v b g)))

    pub case_rest : IsHere pc i.Rest → Follows (begin (statement c n i.Rest rest) go around) (exit f pc)
    case_rest a s g =
        goes_on activation is f pc (pc + 1) i.Rest s (at_pos (state_of s) s.end) [] 1 (begin rest go around (written Pos s.end s)) a next l refl
        (ih (written Pos s.end s) (good_pos extent s s.end g.within (omega arith) g))

    pub case_mark : IsHere pc i.Mark → Follows (begin (statement c n i.Mark rest) go around) (exit f pc)
    case_mark a s g =
        goes_on activation is f pc (pc + 1) i.Mark s (record (state_of s) { start = s.pos }) [] 1
        (begin rest go around (written Start s.pos s)) a next l refl
        (ih (written Start s.pos s) (good_start extent s g))

    pub case_get : (into cell : ℕ) → IsHere pc (i.Get into cell) → Follows (begin (statement c n (i.Get into cell) rest) go around) (exit f pc)
    case_get into cell a s g =
        let v = slice_index s.cells (slice_index places cell) in
        goes_on activation is f pc (pc + 1) (i.Get into cell) s (with_reg (state_of s) into v) [] 1
        (begin rest go around (written (Reg into) v s)) a next l refl
        (ih (written (Reg into) v s) (good_regs extent s into v (small_at s.cells g.cells (slice_index places cell)) g))

    pub case_set : (source cell : ℕ) → IsHere pc (i.Set source cell) → slice_index places cell < basis.first
        → Follows (begin (statement c n (i.Set source cell) rest) go around) (exit f pc)
    case_set source cell a low s g =
        let v = slice_index s.regs source in
        let k = slice_index places cell in
        goes_on activation is f pc (pc + 1) (i.Set source cell) s (record (state_of s) { cells = slice_set s.cells k v }) [] 1
        (begin rest go around (record s { cells = slice_set s.cells k v })) a next l refl
        (ih (record s { cells = slice_set s.cells k v }) (good_cells extent s k v low (small_at s.regs g.regs source) g))

    take_off : (v : ℕ) (s : Locals) → s.pos + v ≤ s.end → IsGood extent s → (s.pos + v) % 2 ^ 64 ≡ s.pos + v
    take_off v s h g = sum_is s.pos v (let e = end_small extent s is.within g in omega (arith, h, e))

    cond_plain : (b : Bool) (x y : Flow) → plain (cond b x y) ≡ cond b (plain x) (plain y)
    cond_plain b x y = by_cases (λ b. plain (cond b x y) ≡ cond b (plain x) (plain y)) b (λ e. refl) (λ e. refl)

    none_there : (p e : ℕ) → p ≤ e → nat_le (p + 0) e ≡ true
    none_there p e l = grind (arith, l)

    -- a window or a skip of no bytes has room
    no_bytes : (s : Locals) (t : ℕ → State) (site bytes : ℕ) → IsGood extent s → nat_eq bytes 0 ≡ true
        → plain (cond (nat_le (s.pos + bytes) s.end) (Goes (pc + 1) (t (s.pos + bytes))) (Fails NotEnough site s.start (state_of s)))
        ≡ plain (Goes (pc + 1) (t s.pos))
    no_bytes s t site bytes g e =
        let none : bytes ≡ 0 = eq_is bytes 0 e in
        let same : s.pos + bytes ≡ s.pos = omega (arith, none) in
        let has : nat_le (s.pos + bytes) s.end ≡ true = ap (λ k. nat_le (s.pos + k) s.end) none ∙ none_there s.pos s.end g.within in
        ap (λ b. plain (cond b (Goes (pc + 1) (t (s.pos + bytes))) (Fails NotEnough site s.start (state_of s)))) has ∙ ap
        (λ k. plain (Goes (pc + 1) (t k))) same

    -- bytes are taken
    skipping : (v site : ℕ) (j : Instr) → IsHere pc j → (s : Locals) → IsGood extent s
        → effect c n message places pc j (state_of s)
        ≡ plain (cond (nat_le (s.pos + v) s.end) (Goes (pc + 1) (at_pos (state_of s) (s.pos + v))) (Fails NotEnough site s.start (state_of s)))
        → Ok s (cond (nat_eq (bit (nat_lt ((s.end + (2 ^ 64 - s.pos)) % 2 ^ 64) v)) 0) (begin rest go around (record s { pos = (s.pos + v) % 2 ^ 64 }))
        (failed activation is NotEnough site s))
        (exit f pc (state_of s))
    skipping v site j a s g m =
        with_room activation is f pc v site j s (plain (Goes (pc + 1) (at_pos (state_of s) (s.pos + v))))
        (begin rest go around (record s { pos = (s.pos + v) % 2 ^ 64 })) a g
        (m ∙ cond_plain (nat_le (s.pos + v) s.end) (Goes (pc + 1) (at_pos (state_of s) (s.pos + v))) (Fails NotEnough site s.start (state_of s)))
        (λ e h.
        subst (λ p. Ok s (begin rest go around (record s { pos = p })) (exit f pc (state_of s))) (sym (take_off v s h g))
        (goes_on activation is f pc (pc + 1) j s (at_pos (state_of s) (s.pos + v)) [] 1 (begin rest go around (record s { pos = s.pos + v })) a next l e
        (ih (record s { pos = s.pos + v }) (good_pos extent s (s.pos + v) (omega arith) h g))))

    pub case_skip_k : (bytes site : ℕ) → IsHere pc (i.SkipK bytes site) → Follows (begin (statement c n (i.SkipK bytes site) rest) go around) (exit f pc)
    case_skip_k bytes site a s g =
        by_cases (λ b. Ok s (begin (cond b rest (skipped c n (Num bytes) site rest)) go around s) (exit f pc (state_of s))) (nat_eq bytes 0)
        (λ e. goes_on activation is f pc (pc + 1) (i.SkipK bytes site) s (state_of s) [] 1 (begin rest go around s) a next l
        (no_bytes s (λ p. at_pos (state_of s) p) site bytes g e) (ih s g))
        (λ e. skipping bytes site (i.SkipK bytes site) a s g refl)

    pub case_skip : (size site : ℕ) → IsHere pc (i.Skip size site) → Follows (begin (statement c n (i.Skip size site) rest) go around) (exit f pc)
    case_skip size site a s g = skipping (slice_index s.regs size) site (i.Skip size site) a s g refl

    -- a window of bytes is opened
    narrowing : (v site : ℕ) (j : Instr) → IsHere pc j → (s : Locals) → IsGood extent s
        → effect c n message places pc j (state_of s)
        ≡ plain (cond (nat_le (s.pos + v) s.end) (Goes (pc + 1) (record (state_of s) { end = s.pos + v; outer = s.end }))
        (Fails NotEnough site s.start (state_of s)))
        → Ok s (cond (nat_eq (bit (nat_lt ((s.end + (2 ^ 64 - s.pos)) % 2 ^ 64) v)) 0)
        (begin rest go around (record s { outer = s.end; end = (s.pos + v) % 2 ^ 64 })) (failed activation is NotEnough site s))
        (exit f pc (state_of s))
    narrowing v site j a s g m =
        with_room activation is f pc v site j s (plain (Goes (pc + 1) (record (state_of s) { end = s.pos + v; outer = s.end })))
        (begin rest go around (record s { outer = s.end; end = (s.pos + v) % 2 ^ 64 })) a g
        (m ∙ cond_plain (nat_le (s.pos + v) s.end) (Goes (pc + 1) (record (state_of s) { end = s.pos + v; outer = s.end }))
        (Fails NotEnough site s.start (state_of s)))
        (λ e h.
        subst (λ p. Ok s (begin rest go around (record s { outer = s.end; end = p })) (exit f pc (state_of s))) (sym (take_off v s h g))
        (goes_on activation is f pc (pc + 1) j s (record (state_of s) { end = s.pos + v; outer = s.end }) [] 1
        (begin rest go around (record s { outer = s.end; end = s.pos + v })) a next l e
        (ih (record s { outer = s.end; end = s.pos + v }) (good_narrow extent s (s.pos + v) (omega arith) h g))))

    pub case_narrow_k : (bytes site : ℕ) → IsHere pc (i.NarrowK bytes site)
        → Follows (begin (statement c n (i.NarrowK bytes site) rest) go around) (exit f pc)
    case_narrow_k bytes site a s g =
        by_cases (λ b. Ok s (begin (cond b opened (narrowed c n (Num bytes) site rest)) go around s) (exit f pc (state_of s))) (nat_eq bytes 0)
        (λ e.
        goes_on activation is f pc (pc + 1) (i.NarrowK bytes site) s (to s.pos) [] 1
        (begin rest go around (record s { outer = s.end; end = s.pos })) a next l (no_bytes s to site bytes g e)
        (ih (record s { outer = s.end; end = s.pos }) (good_narrow extent s s.pos (omega arith) g.within g)))
        (λ e. narrowing bytes site (i.NarrowK bytes site) a s g refl)
      where
        opened : Block
        opened = Assign Outer (Get End) (Assign End (Get Pos) rest)

        to : ℕ → State
        to e = record (state_of s) { end = e; outer = s.end }

    pub case_narrow : (size site : ℕ) → IsHere pc (i.Narrow size site) → Follows (begin (statement c n (i.Narrow size site) rest) go around) (exit f pc)
    case_narrow size site a s g = narrowing (slice_index s.regs size) site (i.Narrow size site) a s g refl

    pub case_op : (into operator x y : ℕ) → IsHere pc (i.Op into operator x y) → operator ≤ 13
        → Follows (begin (statement c n (i.Op into operator x y) rest) go around) (exit f pc)
    case_op into operator x y a o s g =
        let u = slice_index s.regs x in
        let w = slice_index s.regs y in
        let v = values.operated operator u w in
        subst (λ r. Ok s (given r (λ v. begin rest go around (written (Reg into) v s))) (exit f pc (state_of s)))
        (sym (operated_is places s x y operator o))
        (goes_on activation is f pc (pc + 1) (i.Op into operator x y) s (with_reg (state_of s) into v) [] 1
        (begin rest go around (written (Reg into) v s)) a next l refl
        (ih (written (Reg into) v s) (good_regs extent s into v (operated_small operator u w (small_at s.regs g.regs x) (small_at s.regs g.regs y)) g)))

    pub case_member : (into source set : ℕ) → IsHere pc (i.Member into source set)
        → Follows (begin (statement c n (i.Member into source set) rest) go around) (exit f pc)
    case_member into source set a s g =
        let v = bit (is_among (set_of c set) (slice_index s.regs source)) in
        goes_on activation is f pc (pc + 1) (i.Member into source set) s (with_reg (state_of s) into v) [] 1
        (begin rest go around (written (Reg into) v s)) a next l refl
        (ih (written (Reg into) v s) (good_regs extent s into v (bit_small (is_among (set_of c set) (slice_index s.regs source))) g))

    pub case_bits : (into source low count : ℕ) → IsHere pc (i.Bits into source low count) → low < 64
        → Follows (begin (statement c n (i.Bits into source low count) rest) go around) (exit f pc)
    case_bits into source low count a h s g =
        let u = slice_index s.regs source in
        let v = values.bits_of u low count in
        subst (λ r. Ok s (given r (λ v. begin rest go around (written (Reg into) v s))) (exit f pc (state_of s))) (sym (bits_is u low count h))
        (goes_on activation is f pc (pc + 1) (i.Bits into source low count) s (with_reg (state_of s) into v) [] 1
        (begin rest go around (written (Reg into) v s)) a next l refl
        (ih (written (Reg into) v s) (good_regs extent s into v (bits_small u low count (small_at s.regs g.regs source)) g)))

    pub case_divides : (size step site : ℕ) → IsHere pc (i.Divides size step site) → 0 < step
        → Follows (begin (statement c n (i.Divides size step site) rest) go around) (exit f pc)
    case_divides size step site a h s g =
        subst (λ r. Ok s (given r (λ v. cond (nat_eq v 0) (begin rest go around s) (failed activation is ListSize site s))) (exit f pc (state_of s)))
        (sym (rest_is (slice_index s.regs size) step h))
        (by_cases
        (λ b.
        effect c n message places pc j (state_of s) ≡ plain (where_so b (pc + 1) (state_of s) ListSize site) → Ok s
        (cond b (begin rest go around s) (failed activation is ListSize site s)) (exit f pc (state_of s)))
        (nat_eq (slice_index s.regs size % step) 0)
        (λ e m. goes_on activation is f pc (pc + 1) j s (state_of s) [] 1 (begin rest go around s) a next l m (ih s g))
        (λ e m. fails activation is f pc j s (state_of s) ListSize site s.start [] 1 (failed activation is ListSize site s) a m
        (failed_ok activation is ListSize site s g)) refl)
      where
        j : Instr
        j = i.Divides size step site

    pub case_widen : (site : ℕ) → IsHere pc (i.Widen site) → Follows (begin (statement c n (i.Widen site) rest) go around) (exit f pc)
    case_widen site a s g =
        by_cases
        (λ b.
        effect c n message places pc (i.Widen site) (state_of s) ≡ plain
        (cond b (Goes (pc + 1) (record (state_of s) { end = s.outer })) (Fails ListSize site s.start (state_of s)))
        → Ok s (cond (nat_eq (cond b 0 1) 0) (begin rest go around (record s { end = s.outer })) (failed activation is ListSize site s))
        (exit f pc (state_of s)))
        (nat_eq s.pos s.end)
        (λ e m.
        goes_on activation is f pc (pc + 1) (i.Widen site) s (record (state_of s) { end = s.outer }) [] 1
        (begin rest go around (record s { end = s.outer })) a next l m
        (ih (record s { end = s.outer }) (good_widen extent s g)))
        (λ e m. fails activation is f pc (i.Widen site) s (state_of s) ListSize site s.start [] 1 (failed activation is ListSize site s) a m
        (failed_ok activation is ListSize site s g)) refl

    -- Jumps
    module _ (target : ℕ) (forward : pc < target) (inside : target < end_of c n)
        (there : Follows (jump target (labels rest go around)) (exit f target)) where
      abbrev landed : Locals → Tree Out
      landed s = jump target (labels rest go around) s

      pub case_jump_if : (test : ℕ) → IsHere pc (i.JumpIf test target) → Follows (begin (statement c n (i.JumpIf test target) rest) go around) (exit f pc)
      case_jump_if test a s g =
          by_cases
          (λ b.
          effect c n message places pc (i.JumpIf test target) (state_of s) ≡ plain (cond b (Goes (pc + 1) (state_of s)) (Goes target (state_of s)))
          → Ok s (cond b (begin rest go around s) (landed s)) (exit f pc (state_of s)))
          (nat_eq (slice_index s.regs test) 0)
          (λ e m. goes_on activation is f pc (pc + 1) (i.JumpIf test target) s (state_of s) [] 1 (begin rest go around s) a next l m (ih s g))
          (λ e m. goes_on activation is f pc target (i.JumpIf test target) s (state_of s) [] 1 (landed s) a forward inside m (there s g)) refl

      pub case_jump_unless : (test : ℕ) → IsHere pc (i.JumpUnless test target)
          → Follows (begin (statement c n (i.JumpUnless test target) rest) go around) (exit f pc)
      case_jump_unless test a s g =
          by_cases
          (λ b.
          effect c n message places pc (i.JumpUnless test target) (state_of s) ≡ plain (cond b (Goes target (state_of s)) (Goes (pc + 1) (state_of s)))
          → Ok s (cond (nat_eq (bit b) 0) (begin rest go around s) (landed s)) (exit f pc (state_of s)))
          (nat_eq (slice_index s.regs test) 0)
          (λ e m. goes_on activation is f pc target (i.JumpUnless test target) s (state_of s) [] 1 (landed s) a forward inside m (there s g))
          (λ e m. goes_on activation is f pc (pc + 1) (i.JumpUnless test target) s (state_of s) [] 1 (begin rest go around s) a next l m (ih s g)) refl

  pub case_return : (f : State → Exit) (pc : ℕ) (rest : Block) (go : Continuation) (around : Labels) → IsHere pc i.Return
      → Follows (begin (statement c n i.Return rest) go around) (exit f pc)
  case_return f pc rest go around a s g =
      let r = run_returns c message places n pc (state_of s) (state_of s) [] 1
      (record { instruction = i.Return; there = a.there; within = a.within; is = refl }) in
      subst (λ y. Ok s (Done (Gave s.pos s)) (again f y)) (sym r) ((refl, record { good = g; at = refl; same = refl; then = refl }), refl, tt)
