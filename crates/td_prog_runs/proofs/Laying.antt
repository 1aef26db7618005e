-- Verified code is laid well: labels stand where jumps lead, and loops end where their blocks do. Cited by other crates.
use Rattle.std.proofs.Common.{◌≡◌, ℕ, zero, suc, ◌+◌, ◌-◌, ◌<◌, ◌≤◌, ◌⊎◌, inl, inr, Bool, true, false, cond, List, [], ◌∷◌, length, Option, Some, refl, sym, ap, ◌∙◌, subst, arith, take, drop}
use Rattle.std.specs.Prelude.{nat_eq, slice_get, slice_range}
use Rattle.std.proofs.lemmas.Option.{get_or_from_slice_get, slice_get_within}
use Rattle.std.proofs.Math.Seq.{drop-cons}
use Rattle.td_num.proofs.Lists.{got}
use Rattle.td_ir.specs.WellFormed.{IsCode}
use Rattle.td_ir.proofs.Begins.{begin_up}
use Rattle.td_verify.specs.Rules.{CallsWell}
use Rattle.td_verify.proofs.Safety.{opens}
use Rattle.std.proofs.lemmas.Bool.{cases_lt}
use Rattle.td_ir.specs.declared.instructions.Instr.{Instr}
use Rattle.td_ir.specs.declared.instructions.Instr.TheVariants as i
use Rattle.td_ir.specs.declared.tables.Parts.{Parts}
use Rattle.td_ir.specs.Tables.{instruction_of, lengths_of, begin, first_of, end_of}
use Rattle.td_verify.specs.declared.shape.Shape.{Shape}
use Rattle.td_verify.specs.declared.shape.Shape.TheVariants.{While, Again}
use Rattle.td_verify.specs.declared.bracket.Bracket.{Bracket}
use Rattle.td_verify.specs.declared.bracket.Bracket.TheVariants.{Loop}
use Rattle.td_verify.specs.Shape.{shape, shapes_of}
use Rattle.td_verify.specs.Brackets.{shape_at, opened, and_then, opening, closing_loop, in_loop}
use Rattle.td_verify.specs.Flat.{IsFlat}
use Rattle.td_verify.specs.Ways.{Leads}
use Rattle.td_verify.specs.Verify.{IsIn, IsSound, depths}
use Rattle.td_verify.specs.Safe.{IsSafe, IsWhole, IsWholeAt, Stays, looped}
use Rattle.td_verify.proofs.Sums.{shape_there}
use Rattle.td_verify.proofs.Flat.{next_opened}
use Rattle.td_verify.specs.Operands.{HasOperands, HasTables}
use Rattle.td_prog.specs.Syntax.{Block, Ends, Label, Ne, Pos, Get, Binary}
use Rattle.td_prog.specs.Syntax.{End, While as WhileBlock}
use Rattle.td_prog_code.specs.Instructions.{statement}
use Rattle.td_prog_code.specs.Program.{stated, looped as looped_blocks, put, blocks}
use Rattle.td_prog.specs.Text.{HasLabel}
use Rattle.td_prog_steps.specs.Laid.{tail_of, begins_behind, begins, IsBusy, IsLoop, IsJump, IsLaid, AreLaid, IsWellLaid, AreNumbers}
use Rattle.td_prog_runs.proofs.OpenLoops.{IsPlain, not_looped, closed_loop, one_while, one_target, LoopOf, plain_open, loop_of}

either_label : (b : Bool) (x y : Block) (l : ℕ) → HasLabel l x → HasLabel l y → HasLabel l (cond b x y)
either_label true x y l h k = h
either_label false x y l h k = k

-- a label behind an instruction
still : (c : Parts) (n : ℕ) (j : Instr) (rest : Block) (l : ℕ) → HasLabel l rest → HasLabel l (statement c n j rest)
still c n (i.Const into value) rest l h = h
still c n (i.Member into source set) rest l h = h
still c n (i.Op into operator x y) rest l h = h
still c n (i.Bits into source low count) rest l h = h
still c n (i.Pos into) rest l h = h
still c n (i.Jump target) rest l h = h
still c n (i.JumpIf test target) rest l h = h
still c n (i.JumpUnless test target) rest l h = h
still c n (i.Call first m k site) rest l h = h
still c n i.Return rest l h = h
still c n (i.Fetch into order width site) rest l h = h
still c n (i.SkipK bytes site) rest l h = either_label (nat_eq bytes 0) rest _ l h h
still c n (i.Skip size site) rest l h = h
still c n i.Rest rest l h = h
still c n (i.Zeros site) rest l h = h
still c n (i.Zeroterm bound width site) rest l h = h
still c n (i.NarrowK bytes site) rest l h = either_label (nat_eq bytes 0) _ _ l h h
still c n (i.Narrow size site) rest l h = h
still c n (i.Divides size step site) rest l h = h
still c n (i.While target) rest l h = h
still c n (i.Again target) rest l h = h
still c n (i.Widen site) rest l h = h
still c n (i.Fail reason site) rest l h = h
still c n (i.Get into cell) rest l h = h
still c n (i.Set source cell) rest l h = h
still c n i.Mark rest l h = h
still c n (i.Copy size buffer site) rest l h = h
still c n (i.Left into) rest l h = h

module _ (c : Parts) (safe : IsSafe c) (n : ℕ) where
  abbrev O : ℕ → Option (List Bracket)
  O p = opened (shapes_of c) p

  abbrev shape_of : ℕ → Shape
  shape_of p = shape_at (shapes_of c) p

  -- outside of loops one block begins at a place; in a loop one, and one behind the loop
  record Outside (pc : ℕ) (qs : List ℕ) (bs : List Block) : Type 0 where
    block : Block
    bs_is : bs ≡ block ∷ []
    qs_is : qs ≡ pc ∷ []
    free : looped c pc ≡ false
    labels : (q : ℕ) → pc ≤ q → q < end_of c n → looped c q ≡ false → HasLabel q block

  record Inside (pc : ℕ) (qs : List ℕ) (bs : List Block) : Type 0 where
    inner : Block
    rest : Block
    within : LoopOf c safe n pc
    bs_is : bs ≡ inner ∷ rest ∷ []
    qs_is : qs ≡ pc ∷ within.target ∷ []
    busy : looped c pc ≡ true
    labels : (q : ℕ) → pc ≤ q → q < end_of c n → O q ≡ O pc → HasLabel q inner
    more : (q : ℕ) → pc ≤ q → q < end_of c n → looped c q ≡ false → HasLabel q rest

  abbrev Stands : (pc : ℕ) → List ℕ → List Block → Type 0
  Stands pc qs bs = Outside pc qs bs ⊎ Inside pc qs bs

  in_front : (pc q : ℕ) (b : Block) → pc ≤ q → (pc + 1 ≤ q → HasLabel q b) → HasLabel q (Label pc b)
  in_front pc q b h f = elim (cases_lt pc q) [
    | inl lt ↦ inr (f (omega (arith, lt)))
    | inr le ↦ inl (omega (arith, h, le))
  ]

  -- before a plain instruction
  plain_stands : (pc : ℕ) (j : Instr) (qs : List ℕ) (bs : List Block) → IsIn c n pc → shape_of pc ≡ shape j → IsPlain (shape j) → Stands (pc + 1) qs bs
      → Stands pc (pc ∷ tail_of qs) (stated c n pc j bs)
  plain_stands pc j qs bs i e pl (inl x) =
      let o = plain_open c safe n pc (shape j) i e pl in
      inl (record {
        block = Label pc (statement c n j x.block);
        bs_is = ap (stated c n pc j) x.bs_is;
        qs_is = ap (λ z. pc ∷ tail_of z) x.qs_is;
        free = sym o.0 ∙ x.free;
        labels = λ q h l f. in_front pc q (statement c n j x.block) h (λ k. still c n j x.block q (x.labels q k l f));
      })
  plain_stands pc j qs bs i e pl (inr x) =
      let o = plain_open c safe n pc (shape j) i e pl in
      let same = o.1 x.busy in
      let w = x.within in
      inr (record {
        inner = Label pc (statement c n j x.inner);
        rest = x.rest;
        within = record { loop = w.loop; target = w.target; at = w.at; before = earlier w same (sym o.0 ∙ x.busy); is = w.is; same = sym same ∙ w.same };
        bs_is = ap (stated c n pc j) x.bs_is;
        qs_is = ap (λ z. pc ∷ tail_of z) x.qs_is;
        busy = sym o.0 ∙ x.busy;
        labels = λ q h l f. in_front pc q (statement c n j x.inner) h (λ k. still c n j x.inner q (x.labels q k l (f ∙ sym same)));
        more = λ q h l f. x.more q (further q h (sym o.0 ∙ x.busy) f) l f;
      })
    where
      -- the instruction isn't the loop's first
      earlier : (w : LoopOf c safe n (pc + 1)) → O (pc + 1) ≡ O pc → looped c pc ≡ true → w.loop < pc
      earlier w same h =
          let b = w.before in
          elim (cases_lt w.loop pc) [
            | inl lt ↦ lt
            | inr le ↦
                let here : w.loop ≡ pc = omega (arith, le, b) in
                let none = safe.loops.alone n w.loop w.target w.at w.is in
                let no : looped c pc ≡ false = subst (λ q. looped c q ≡ false) here none in absurd (cc)
          ]

      further : (q : ℕ) → pc ≤ q → looped c pc ≡ true → looped c q ≡ false → pc + 1 ≤ q
      further q h t f = elim (cases_lt pc q) [
        | inl lt ↦ omega (arith, lt)
        | inr le ↦ let e : pc ≡ q = omega (arith, h, le) in let g : looped c q ≡ true = subst (λ z. looped c z ≡ true) e t in absurd (cc)
      ]

  abbrev code_from : ℕ → List Instr
  code_from pc = slice_range c.instructions pc (end_of c n)

  -- before the end of a turn
  again_stands : (pc u : ℕ) (qs : List ℕ) (bs : List Block) → IsIn c n pc → shape_of pc ≡ Again u → Stands (pc + 1) qs bs
      → Stands pc (pc ∷ qs) (Label pc Ends ∷ bs)
  again_stands pc u qs bs i e (inr x) =
      let o : O (pc + 1) ≡ closing_loop (O pc) = next_opened (shapes_of c) pc ∙ ap (λ z. and_then pc z (O pc)) e in
      absurd (not_looped (O (pc + 1)) (closing_loop (O pc)) o (closed_loop (O pc) (safe.each n pc i).flat) x.busy)
  again_stands pc u qs bs i e (inl x) =
      let turns = safe.loops.again n pc u i e in
      let w = loop_of c safe n (pc - begin (lengths_of c) n) pc (let f = i.from in omega (arith, f)) i turns in
      let whole : IsWhole c n w.loop w.target = subst (IsWholeAt c n w.loop) w.is (safe.each n w.loop w.at).whole in
      let last : pc ≡ w.target - 1 = safe.loops.one n w.loop w.target pc u w.at w.is i w.same e in
      let next : pc + 1 ≡ w.target = (let b = whole.body in omega (arith, last, b)) in
      inr (record {
        inner = Label pc Ends;
        rest = x.block;
        within = w;
        bs_is = ap (λ z. Label pc Ends ∷ z) x.bs_is;
        qs_is = ap (λ z. pc ∷ z) x.qs_is ∙ ap (λ q. pc ∷ q ∷ []) next;
        busy = turns;
        labels = λ q h l f.
            let in_it = safe.loops.inside n w.loop w.target q w.at w.is
            (record { routine = i.routine; from = (let b = i.from in omega (arith, b, h)); to = l }) (f ∙ w.same) in
            inl (omega (arith, h, in_it, next));
        more = λ q h l f. elim (cases_lt pc q) [
          | inl lt ↦ x.labels q (omega (arith, lt)) l f
          | inr le ↦ let here : pc ≡ q = omega (arith, h, le) in let g : looped c q ≡ true = subst (λ z. looped c z ≡ true) here turns in absurd (cc)
        ];
      })

  -- before a loop
  while_stands : (message places : List ℕ) (pc t : ℕ) (qs : List ℕ) (bs : List Block) → IsIn c n pc → shape_of pc ≡ While t → IsBusy c message places n pc
      → Stands (pc + 1) qs bs
      → IsLoop c message places n pc t qs × Stands pc (pc ∷ tail_of (tail_of qs)) (looped_blocks c n pc bs)
  while_stands message places pc t qs bs i e busy (inl x) = let turns = safe.loops.turning n pc t i e in let f = x.free in absurd (cc)
  while_stands message places pc t qs bs i e busy (inr x) =
      let w = x.within in
      let whole : IsWhole c n pc t = subst (IsWholeAt c n pc) e (safe.each n pc i).whole in
      let next : IsIn c n (pc + 1) = record {
        routine = i.routine;
        from = (let f = i.from in omega (arith, f));
        to =
            (let b = whole.body in let z = whole.behind.to in omega (arith, b, z));
      } in
      let mine : O (pc + 1) ≡ opening (Loop pc) (O pc) = next_opened (shapes_of c) pc ∙ ap (λ z. and_then pc z (O pc)) e in
      let its : O (w.loop + 1) ≡ opening (Loop w.loop) (O w.loop) = next_opened (shapes_of c) w.loop ∙ ap (λ z. and_then w.loop z (O w.loop)) w.is in
      let flat = (safe.each n (pc + 1) next).flat in
      let here : pc ≡ w.loop = one_while (O pc) pc w.loop (O w.loop) (subst IsFlat mine flat) (subst IsFlat (w.same ∙ its) flat)
      (sym mine ∙ w.same ∙ its) in
      let target : w.target ≡ t = one_target w.target t (sym w.is ∙ ap shape_of (sym here) ∙ e) in (
        subst (λ z. IsLoop c message places n pc t z) (sym x.qs_is) (target, whole.body, whole.behind.to, busy),
        inl (record {
          block = Label pc (loop_block x.inner x.rest);
          bs_is = ap (looped_blocks c n pc) x.bs_is;
          qs_is = ap (λ z. pc ∷ tail_of (tail_of z)) x.qs_is;
          free = safe.loops.alone n pc t i e;
          labels = λ q h l f. in_front pc q (loop_block x.inner x.rest) h (λ k. x.more q k l f);
        }),
      )
    where
      loop_block : Block → Block → Block
      loop_block inner rest = WhileBlock (Binary Ne (Get Pos) (Get End)) inner rest

  -- what is known of an instruction
  record IsKnown (pc : ℕ) (j : Instr) : Type 0 where
    place : IsIn c n pc
    there : slice_get c.instructions pc ≡ Some j
    form : shape_of pc ≡ shape j
    is : instruction_of c pc ≡ j

  leads_on : (pc : ℕ) (j : Instr) → IsKnown pc j → (q : ℕ) → Leads pc (shape j) q → (pc < q) × IsIn c n q × Stays (shapes_of c) pc (shape j) q
  leads_on pc j k q l = subst (λ z. Leads pc z q → (pc < q) × IsIn c n q × Stays (shapes_of c) pc z q) k.form ((safe.each n pc k.place).goes q) l

  operands : (pc : ℕ) (j : Instr) → IsKnown pc j → HasOperands j
  operands pc j k = subst HasOperands k.is (safe.each n pc k.place).operands

  tables : (pc : ℕ) (j : Instr) → IsKnown pc j → HasTables c n j
  tables pc j k = subst (HasTables c n) k.is (safe.each n pc k.place).tables

  jump_laid : (message places : List ℕ) (pc target : ℕ) (j : Instr) (qs : List ℕ) (bs : List Block) → IsKnown pc j → IsPlain (shape j)
      → (pc < target) × IsIn c n target × (O target ≡ O pc) → Stands (pc + 1) qs bs → IsJump c message places n pc target bs
  jump_laid message places pc target j qs bs k pl to (inl x) =
      let o = plain_open c safe n pc (shape j) k.place k.form pl in
      subst (λ z. IsJump c message places n pc target z) (sym x.bs_is)
      (to.0, to.1.to, x.labels target (let l = to.0 in omega (arith, l)) to.1.to (ap in_loop to.2 ∙ sym o.0 ∙ x.free))
  jump_laid message places pc target j qs bs k pl to (inr x) =
      let o = plain_open c safe n pc (shape j) k.place k.form pl in
      subst (λ z. IsJump c message places n pc target z) (sym x.bs_is)
      (to.0, to.1.to, x.labels target (let l = to.0 in omega (arith, l)) to.1.to (to.2 ∙ sym (o.1 x.busy)))

  module _ (message places : List ℕ) (numbers : AreNumbers c) (busy : (pc t : ℕ) → IsIn c n pc → shape_of pc ≡ While t → IsBusy c message places n pc) where
    abbrev Lays : ℕ → Instr → List ℕ → List Block → Type 0
    Lays pc j qs bs = IsLaid c message places n pc j qs bs × Stands pc (pc ∷ begins_behind j qs) (put c n pc j bs)

    lays : (pc : ℕ) (j : Instr) (qs : List ℕ) (bs : List Block) → IsKnown pc j → Stands (pc + 1) qs bs → Lays pc j qs bs
    lays pc (i.Const into v) qs bs k x =
        (((leads_on pc (i.Const into v) k (pc + 1) refl).1.to, numbers pc into v k.there), plain_stands pc (i.Const into v) qs bs k.place k.form tt x)
    lays pc (i.Member into source set) qs bs k x =
        ((leads_on pc (i.Member into source set) k (pc + 1) refl).1.to, plain_stands pc (i.Member into source set) qs bs k.place k.form tt x)
    lays pc (i.Op into operator u w) qs bs k x = (
      ((leads_on pc (i.Op into operator u w) k (pc + 1) refl).1.to, operands pc (i.Op into operator u w) k),
      plain_stands pc
          (i.Op into operator u w) qs bs k.place k.form tt x,
    )
    lays pc (i.Bits into source low count) qs bs k x = (
      (
        (leads_on pc (i.Bits into source low count) k (pc + 1) refl).1.to,
        (let o = operands pc (i.Bits into source low count) k in let a = o.0 in let b = o.1 in omega (arith, a, b)),
      ),
      plain_stands pc
          (i.Bits into source low count) qs bs k.place k.form tt x,
    )
    lays pc (i.Pos into) qs bs k x = ((leads_on pc (i.Pos into) k (pc + 1) refl).1.to, plain_stands pc (i.Pos into) qs bs k.place k.form tt x)
    lays pc (i.Jump target) qs bs k x = (
      jump_laid message places pc target (i.Jump target) qs bs k tt (leads_on pc (i.Jump target) k target refl) x,
      plain_stands pc
          (i.Jump target) qs bs k.place k.form tt x,
    )
    lays pc (i.JumpIf test target) qs bs k x = (
      (
        (leads_on pc (i.JumpIf test target) k (pc + 1) (inr refl)).1.to,
        jump_laid message places pc target (i.JumpIf test target) qs bs k tt
            (leads_on pc (i.JumpIf test target) k target (inl refl)) x,
      ),
      plain_stands pc (i.JumpIf test target) qs bs k.place k.form tt x,
    )
    lays pc (i.JumpUnless test target) qs bs k x = (
      (
        (leads_on pc (i.JumpUnless test target) k (pc + 1) (inr refl)).1.to,
        jump_laid message places pc target (i.JumpUnless test target) qs bs k tt
            (leads_on pc (i.JumpUnless test target) k target (inl refl)) x,
      ),
      plain_stands pc (i.JumpUnless test target) qs bs k.place k.form tt x,
    )
    lays pc (i.Call first m map site) qs bs k x = (
      (
        (leads_on pc (i.Call first m map site) k (pc + 1) refl).1.to,
        (subst (λ z. CallsWell (depths (shapes_of c) (lengths_of c) n) n z) k.form (safe.each n pc k.place).calls).0,
        (tables pc (i.Call first m map site) k).1,
      ),
      plain_stands pc (i.Call first m map site) qs bs k.place k.form tt x,
    )
    lays pc i.Return qs bs k x = (tt, plain_stands pc i.Return qs bs k.place k.form tt x)
    lays pc (i.Fetch into order width site) qs bs k x = (
      ((leads_on pc (i.Fetch into order width site) k (pc + 1) refl).1.to, (operands pc (i.Fetch into order width site) k).1),
      plain_stands pc
          (i.Fetch into order width site) qs bs k.place k.form tt x,
    )
    lays pc (i.SkipK bytes site) qs bs k x =
        ((leads_on pc (i.SkipK bytes site) k (pc + 1) refl).1.to, plain_stands pc (i.SkipK bytes site) qs bs k.place k.form tt x)
    lays pc (i.Skip size site) qs bs k x =
        ((leads_on pc (i.Skip size site) k (pc + 1) refl).1.to, plain_stands pc (i.Skip size site) qs bs k.place k.form tt x)
    lays pc i.Rest qs bs k x = ((leads_on pc i.Rest k (pc + 1) refl).1.to, plain_stands pc i.Rest qs bs k.place k.form tt x)
    lays pc (i.Zeros site) qs bs k x = ((leads_on pc (i.Zeros site) k (pc + 1) refl).1.to, plain_stands pc (i.Zeros site) qs bs k.place k.form tt x)
    lays pc (i.Zeroterm bound width site) qs bs k x = (
      ((leads_on pc (i.Zeroterm bound width site) k (pc + 1) refl).1.to, operands pc (i.Zeroterm bound width site) k),
      plain_stands pc
          (i.Zeroterm bound width site) qs bs k.place k.form tt x,
    )
    lays pc (i.NarrowK bytes site) qs bs k x =
        ((leads_on pc (i.NarrowK bytes site) k (pc + 1) refl).1.to, plain_stands pc (i.NarrowK bytes site) qs bs k.place k.form tt x)
    lays pc (i.Narrow size site) qs bs k x =
        ((leads_on pc (i.Narrow size site) k (pc + 1) refl).1.to, plain_stands pc (i.Narrow size site) qs bs k.place k.form tt x)
    lays pc (i.Divides size step site) qs bs k x = (
      ((leads_on pc (i.Divides size step site) k (pc + 1) refl).1.to, operands pc (i.Divides size step site) k),
      plain_stands pc
          (i.Divides size step site) qs bs k.place k.form tt x,
    )
    lays pc (i.While target) qs bs k x = while_stands message places pc target qs bs k.place k.form (busy pc target k.place k.form) x
    lays pc (i.Again target) qs bs k x = (tt, again_stands pc target qs bs k.place k.form x)
    lays pc (i.Widen site) qs bs k x = ((leads_on pc (i.Widen site) k (pc + 1) refl).1.to, plain_stands pc (i.Widen site) qs bs k.place k.form tt x)
    lays pc (i.Fail reason site) qs bs k x = (tt, plain_stands pc (i.Fail reason site) qs bs k.place k.form tt x)
    lays pc (i.Get into cell) qs bs k x =
        ((leads_on pc (i.Get into cell) k (pc + 1) refl).1.to, plain_stands pc (i.Get into cell) qs bs k.place k.form tt x)
    lays pc (i.Set source cell) qs bs k x = (
      ((leads_on pc (i.Set source cell) k (pc + 1) refl).1.to, tables pc (i.Set source cell) k),
      plain_stands pc
          (i.Set source cell) qs bs k.place k.form tt x,
    )
    lays pc i.Mark qs bs k x = ((leads_on pc i.Mark k (pc + 1) refl).1.to, plain_stands pc i.Mark qs bs k.place k.form tt x)
    lays pc (i.Left into) qs bs k x = ((leads_on pc (i.Left into) k (pc + 1) refl).1.to, plain_stands pc (i.Left into) qs bs k.place k.form tt x)
    lays pc (i.Copy size buffer site) qs bs k x = (
      ((leads_on pc (i.Copy size buffer site) k (pc + 1) refl).1.to, (tables pc (i.Copy size buffer site) k).1),
      plain_stands pc
          (i.Copy size buffer site) qs bs k.place k.form tt x,
    )

    known : (pc : ℕ) (j : Instr) → IsIn c n pc → slice_get c.instructions pc ≡ Some j → IsKnown pc j
    known pc j place h =
        let is : instruction_of c pc ≡ j = get_or_from_slice_get c.instructions pc j (i.Fail 0 0) h in
        record { place = place; there = h; form = shape_there c pc ∙ ap shape is; is = is }

    code_next : (pc : ℕ) (j : Instr) → slice_get c.instructions pc ≡ Some j → pc < end_of c n → code_from pc ≡ j ∷ code_from (pc + 1)
    code_next pc j h l =
        let e : end_of c n - pc ≡ suc (end_of c n - (pc + 1)) = omega (arith, l) in
        let m : suc pc ≡ pc + 1 = omega arith in
        ap (λ k. take k (drop pc c.instructions)) e
        ∙ ap (λ ys. take (suc (end_of c n - (pc + 1))) ys)
        (drop-cons c.instructions pc j (slice_get_within c.instructions pc j h) ∙ ap (λ y. y ∷ drop (suc pc) c.instructions)
        (get_or_from_slice_get c.instructions pc j j h))
        ∙ ap (λ k. j ∷ take (end_of c n - (pc + 1)) (drop k c.instructions)) m

    all_laid : (k pc : ℕ) → pc + k ≡ end_of c n → first_of c n ≤ pc → n < length c.routines → end_of c n ≤ length c.instructions
        → looped c (end_of c n) ≡ false
        → AreLaid c message places n pc (code_from pc) × Stands pc (begins pc (code_from pc)) (blocks c n pc (code_from pc))
    all_laid zero pc e f l m free =
        let same : end_of c n ≡ pc = omega (arith, e) in
        let z : end_of c n - pc ≡ 0 = omega (arith, e) in
        let nothing : code_from pc ≡ [] = ap (λ k. take k (drop pc c.instructions)) z in
        subst (λ js. AreLaid c message places n pc js × Stands pc (begins pc js) (blocks c n pc js)) (sym nothing) (
          tt,
          inl (record {
            block = Ends;
            bs_is = refl;
            qs_is = refl;
            free = subst (λ q. looped c q ≡ false) same free;
            labels = λ q h less g. absurd
                (omega (arith, h, less, same));
          }),
        )
    all_laid (suc k) pc e f l m free =
        let x = got c.instructions pc (omega (arith, e, m)) in
        let place : IsIn c n pc = record { routine = l; from = f; to = omega (arith, e) } in
        let rest = all_laid k (pc + 1) (omega (arith, e)) (omega (arith, f)) l m free in
        let r = lays pc x.0 (begins (pc + 1) (code_from (pc + 1))) (blocks c n (pc + 1) (code_from (pc + 1))) (known pc x.0 place x.1) rest.1 in
        subst (λ js. AreLaid c message places n pc js × Stands pc (begins pc js) (blocks c n pc js)) (sym (code_next pc x.0 x.1 (omega (arith, e))))
        ((r.0, rest.0), r.1)

    some_block : (pc : ℕ) (qs : List ℕ) (bs : List Block) → Stands pc qs bs → 0 < length bs
    some_block pc qs bs (inl x) = subst (λ z. 0 < length z) (sym x.bs_is) (omega arith)
    some_block pc qs bs (inr x) = subst (λ z. 0 < length z) (sym x.bs_is) (omega arith)

    pub routine_laid : n < length c.routines → end_of c n ≤ length c.instructions → looped c (end_of c n) ≡ false
        → AreLaid c message places n (first_of c n) (code_from (first_of c n)) × (0 < length (blocks c n (first_of c n) (code_from (first_of c n))))
    routine_laid l m free =
        let up = begin_up (lengths_of c) n (suc n) (omega arith) in
        let r = all_laid (end_of c n - first_of c n) (first_of c n) (omega (arith, up)) (omega arith) l m free in
        (r.0, some_block (first_of c n) (begins (first_of c n) (code_from (first_of c n))) (blocks c n (first_of c n) (code_from (first_of c n))) r.1)

-- verified code is laid well
pub sound_is_laid : (c : Parts) → IsCode c → IsSound c → IsSafe c → AreNumbers c
    → ((message places : List ℕ) (n pc t : ℕ) → IsIn c n pc → shape_at (shapes_of c) pc ≡ While t → IsBusy c message places n pc) → IsWellLaid c
sound_is_laid c code sound safe numbers busy = record {
  divided = fits;
  laid = λ message places n l. (routine_laid c safe n message places numbers (busy message places n) l (fits n l) (free n l)).0;
  some = λ n l. (routine_laid c safe n [] [] numbers (busy [] [] n) l (fits n l) (free n l)).1;
}
  where
    fits : (n : ℕ) → n < length c.routines → end_of c n ≤ length c.instructions
    fits n l = let up = begin_up (lengths_of c) (suc n) (length c.routines) l in let w = code.whole in omega (arith, up, w)

    free : (n : ℕ) → n < length c.routines → looped c (end_of c n) ≡ false
    free n l =
        ap in_loop (opens c (record { whole = code.whole; some = λ n h. (code.routines n h).some; params = λ n h. (code.routines n h).room }) sound
        (suc n) l)
