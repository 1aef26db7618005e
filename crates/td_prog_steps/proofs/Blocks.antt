-- All blocks of a routine do what its code does.
use Rattle.std.proofs.Common.{◌≡◌, ℕ, zero, suc, ◌+◌, ◌-◌, ◌<◌, ◌≤◌, inl, inr, Bool, true, cond, List, [], ◌∷◌, length, Some, refl, sym, ap, ◌∙◌, subst, arith, take, drop}
use Rattle.std.specs.Prelude.{nat_eq, slice_get, slice_range}
use Rattle.td_num.proofs.Truths.{eq_is}
use Rattle.td_num.proofs.Equals.{equal_itself}
use Rattle.td_ir.specs.declared.instructions.Instr.{Instr}
use Rattle.td_ir.specs.declared.instructions.Instr.TheVariants as i
use Rattle.td_ir.specs.Tables.{first_of, end_of}
use Rattle.td_ir.specs.State.{State, Way, Returned, Turned, Failed, Exit, at_once, Stuck}
use Rattle.td_ir.specs.Run.{again, again_by, pick, exits, calls_of, block}
use Rattle.std.proofs.lemmas.Option.{slice_get_within, get_or_from_slice_get}
use Rattle.std.proofs.Math.Seq.{drop-cons}
use Rattle.td_num.proofs.Lists.{got}
use Rattle.td_ir.proofs.Blocks.{run_turns}
use Rattle.td_prog.specs.Tree.{Tree}
use Rattle.td_prog.specs.Syntax.{Block, Ends, Assign, Outer, While, Label, Ne, Pos, End, Get, Num, Binary}
use Rattle.td_prog.specs.Values.{Locals}
use Rattle.td_prog.specs.Means.{Out, Continuation, Labels, nowhere, jump}
use Rattle.td_prog_code.specs.Instructions.{statement, skipped, narrowed}
use Rattle.td_prog_code.specs.Program.{looped, put, blocks, first_block, body}
use Rattle.td_prog_trees.specs.Agree.{state_of, IsGood, AgreesBy, Agrees, IsOnward}
use Rattle.td_prog.specs.Text.{HasLabel}
use Rattle.td_prog_steps.specs.Laid.{tail_of, begins_behind, begins, IsLoop, IsLaid, AreLaid}
use Rattle.td_prog_steps.proofs.Activation.{Activation, IsActive}
use Rattle.td_prog_steps.proofs.Activation as routine
use Rattle.td_prog_steps.proofs.Plain as plain
use Rattle.td_prog_steps.proofs.Loading.{case_fetch}
use Rattle.td_prog_steps.proofs.Zeros.{case_zeros}
use Rattle.td_prog_steps.proofs.Zeroterm.{case_zeroterm}
use Rattle.td_prog_steps.proofs.Copying.{case_copy}
use Rattle.td_prog_steps.proofs.Loops.{case_while}
use Rattle.td_prog_steps.proofs.Calling.{case_call}
use Rattle.td_prog_trees.proofs.Composing.{by_cases}

module _ (activation : Activation) (is : IsActive activation) where
  open activation use {extent, code as c, number as n, places, own, limit, routines}
  open extent use {memory, basis, to}
  open basis use {message}

  abbrev exit : (State → Exit) → ℕ → State → Exit
  exit f pc s = routine.exit activation f pc s

  abbrev Follows : Continuation → (State → Exit) → Type 0
  Follows go f = IsOnward extent go f

  abbrev IsHere : ℕ → Instr → Type 0
  IsHere pc j = routine.IsHere activation pc j

  abbrev meaning : Block → Continuation → Continuation × Labels
  meaning b go = routine.meaning activation b go []

  -- a block does what the code from a place on does, and so do its labels
  pub record Does (b : Block) (q : ℕ) : Type 0 where
    pub runs : (go : Continuation) (f : State → Exit) → Follows go f → Follows (meaning b go).0 (exit f q)
    pub labels : (go : Continuation) (f : State → Exit) → Follows go f → (l : ℕ) → HasLabel l b → Follows (jump l (meaning b go).1) (exit f l)

  -- a label is found
  here_or : (l m : ℕ) (x y : Continuation) (f : State → Exit) → (l ≡ m → Follows x f) → ((l ≡ m → ⊥) → Follows y f)
      → Follows (λ s. cond (nat_eq l m) (x s) (y s)) f
  here_or l m x y f h k s g =
      by_cases (λ b. Agrees extent s.next (cond b (x s) (y s)) (f (state_of s))) (nat_eq l m) (λ e. h (eq_is l m e) s g)
      (λ e. k (λ q. let t = equal_itself m in let u : nat_eq l m ≡ true = ap (λ z. nat_eq z m) q ∙ t in cc) s g)

  -- a labelled block, of which the labels behind are those of another
  labelled : (pc : ℕ) (b rest : Block) (q : ℕ) → Does rest q → ((go : Continuation) → (meaning b go).1 ≡ (meaning rest go).1)
      → ((l : ℕ) → HasLabel l b → HasLabel l rest)
      → ((go : Continuation) (f : State → Exit) → Follows go f → Follows (meaning b go).0 (exit f pc)) → Does (Label pc b) pc
  labelled pc b rest q d same has runs = record {
    runs = runs;
    labels = λ go f h l there.
        here_or l pc (meaning b go).0 (jump l (meaning b go).1) (exit f l)
        (λ e. subst (λ k. Follows (meaning b go).0 (exit f k)) (sym e) (runs go f h))
        (λ apart. subst (λ es. Follows (jump l es) (exit f l)) (sym (same go))
        (d.labels go f h l (elim there [ inl e ↦ absurd (apart e) | inr k ↦ has l k ])));
  }

  -- blocks, and where they begin
  abbrev AreDone : List ℕ → List Block → Type 0
  AreDone qs [] = Unit {0}
  AreDone [] (b ∷ bs) = ⊥
  AreDone (q ∷ qs) (b ∷ bs) = Does b q × AreDone qs bs

  -- the end of a turn
  turn_ends : (pc target : ℕ) → IsHere pc (i.Again target) → Does (Label pc Ends) pc
  turn_ends pc target a = record {
    runs = runs;
    labels = λ go f h l there. here_or l pc go (jump l []) (exit f l) (λ e. subst (λ k. Follows go (exit f k)) (sym e) (runs go f h))
        (λ apart. elim there [ inl e ↦ absurd (apart e) | inr k ↦ absurd k ]);
  }
    where
      runs : (go : Continuation) (f : State → Exit) → Follows go f → Follows go (exit f pc)
      runs go f h s g =
          let r = run_turns c message places n pc (state_of s) (state_of s) [] 1
          (record { instruction = i.Again target; there = a.there; within = a.within; is = refl }) in
          subst (λ y. Agrees extent s.next (go s) (again f y)) (sym r) (h s g)

  loop_done : (pc target : ℕ) (qs : List ℕ) (bs : List Block) → IsHere pc (i.While target) → IsLoop c message places n pc target ((pc + 1) ∷ qs)
      → AreDone ((pc + 1) ∷ qs) bs → AreDone (pc ∷ tail_of qs) (looped c n pc bs)
  loop_done pc target qs [] a l d = tt
  loop_done pc target qs (inner ∷ []) a l d = tt
  loop_done pc target [] (inner ∷ rest ∷ more) a l d = absurd l
  loop_done pc target (q ∷ qs) (inner ∷ rest ∷ more) a l d =
      let behind : Does rest target = subst (λ q. Does rest q) l.0 d.1.0 in (
        labelled pc (While (Binary Ne (Get Pos) (Get End)) inner rest) rest target behind (λ go. refl) (λ k h. h)
            (λ go f h. case_while activation is pc target inner (meaning rest go).0 f l.3 d.0.runs (behind.runs go f h) a l.1 l.2),
        d.1.1,
      )

  done : (pc : ℕ) (j : Instr) (rest : Block) → Does rest (pc + 1)
      → ((go : Continuation) → (meaning (statement c n j rest) go).1 ≡ (meaning rest go).1)
      → ((l : ℕ) → HasLabel l (statement c n j rest) → HasLabel l rest)
      → ((go : Continuation) (f : State → Exit) → Follows go f → Follows (meaning (statement c n j rest) go).0 (exit f pc))
      → Does (Label pc (statement c n j rest)) pc
  done pc j rest d same has runs = labelled pc (statement c n j rest) rest (pc + 1) d same has runs

  jumps : (pc target : ℕ) (rest : Block) (q : ℕ) → Does rest q → HasLabel target rest → (go : Continuation) (f : State → Exit) → Follows go f
      → Follows (jump target (meaning rest go).1) (exit f target)
  jumps pc target rest q d has go f h = d.labels go f h target has

  -- labels behind a skip or a window of no bytes
  same_labels : (b : Bool) (x y rest : Block) (go : Continuation) → (meaning x go).1 ≡ (meaning rest go).1 → (meaning y go).1 ≡ (meaning rest go).1
      → (meaning (cond b x y) go).1 ≡ (meaning rest go).1
  same_labels b x y rest go e f = by_cases (λ b. (meaning (cond b x y) go).1 ≡ (meaning rest go).1) b (λ t. e) (λ t. f)

  same_has : (b : Bool) (x y rest : Block) (l : ℕ) → (HasLabel l x → HasLabel l rest) → (HasLabel l y → HasLabel l rest) → HasLabel l (cond b x y)
      → HasLabel l rest
  same_has b x y rest l e f = by_cases (λ b. HasLabel l (cond b x y) → HasLabel l rest) b (λ t. e) (λ t. f)

  instruction_done : (pc : ℕ) (j : Instr) (qs : List ℕ) (bs : List Block) → IsHere pc j → IsLaid c message places n pc j ((pc + 1) ∷ qs) bs
      → AreDone ((pc + 1) ∷ qs) bs → AreDone (pc ∷ begins_behind j ((pc + 1) ∷ qs)) (put c n pc j bs)
  instruction_done pc (i.Again target) qs bs a l d = (turn_ends pc target a, d)
  instruction_done pc (i.While target) qs bs a l d = loop_done pc target qs bs a l d
  instruction_done pc (i.Const into v) qs [] a l d = tt
  instruction_done pc (i.Const into v) qs (rest ∷ more) a l d = (
    done pc (i.Const into v) rest d.0 (λ go. refl) (λ k h. h)
        (λ go f h. plain.case_const activation is f pc rest go [] l.0 (d.0.runs go f h) into v a l.1),
    d.1,
  )
  instruction_done pc (i.Member into source set) qs [] a l d = tt
  instruction_done pc (i.Member into source set) qs (rest ∷ more) a l d = (
    done pc (i.Member into source set) rest d.0 (λ go. refl) (λ k h. h)
        (λ go f h. plain.case_member activation is f pc rest go [] l (d.0.runs go f h) into source set a),
    d.1,
  )
  instruction_done pc (i.Op into operator x y) qs [] a l d = tt
  instruction_done pc (i.Op into operator x y) qs (rest ∷ more) a l d = (
    done pc (i.Op into operator x y) rest d.0 (λ go. refl) (λ k h. h)
        (λ go f h. plain.case_op activation is f pc rest go [] l.0 (d.0.runs go f h) into operator x y a l.1),
    d.1,
  )
  instruction_done pc (i.Bits into source low count) qs [] a l d = tt
  instruction_done pc (i.Bits into source low count) qs (rest ∷ more) a l d = (
    done pc (i.Bits into source low count) rest d.0 (λ go. refl) (λ k h. h)
        (λ go f h. plain.case_bits activation is f pc rest go [] l.0 (d.0.runs go f h) into source low count a l.1),
    d.1,
  )
  instruction_done pc (i.Pos into) qs [] a l d = tt
  instruction_done pc (i.Pos into) qs (rest ∷ more) a l d =
      (done pc (i.Pos into) rest d.0 (λ go. refl) (λ k h. h) (λ go f h. plain.case_pos activation is f pc rest go [] l (d.0.runs go f h) into a), d.1)
  instruction_done pc (i.Jump target) qs [] a l d = tt
  instruction_done pc (i.Jump target) qs (rest ∷ more) a l d = (
    done pc (i.Jump target) rest d.0 (λ go. refl) (λ k h. h)
        (λ go f h. plain.case_jump activation is f pc rest go [] target l.0 l.1 (jumps pc target rest (pc + 1) d.0 l.2 go f h) a),
    d.1,
  )
  instruction_done pc (i.JumpIf test target) qs [] a l d = tt
  instruction_done pc (i.JumpIf test target) qs (rest ∷ more) a l d = (
    done pc (i.JumpIf test target) rest d.0 (λ go. refl) (λ k h. h)
        (λ go f h. plain.case_jump_if activation is f pc rest go [] l.0 (d.0.runs go f h) target l.1.0 l.1.1
        (jumps pc target rest (pc + 1) d.0 l.1.2 go f h) test a),
    d.1,
  )
  instruction_done pc (i.JumpUnless test target) qs [] a l d = tt
  instruction_done pc (i.JumpUnless test target) qs (rest ∷ more) a l d = (
    done pc (i.JumpUnless test target) rest d.0 (λ go. refl) (λ k h. h)
        (λ go f h. plain.case_jump_unless activation is f pc rest go [] l.0 (d.0.runs go f h) target l.1.0 l.1.1
        (jumps pc target rest (pc + 1) d.0 l.1.2 go f h) test a),
    d.1,
  )
  instruction_done pc (i.Call first m k site) qs [] a l d = tt
  instruction_done pc (i.Call first m k site) qs (rest ∷ more) a l d = (
    done pc (i.Call first m k site) rest d.0 (λ go. refl) (λ k h. h)
        (λ go f h. case_call activation is f pc rest go [] l.0 (d.0.runs go f h) first m k site a l.1 l.2),
    d.1,
  )
  instruction_done pc i.Return qs [] a l d = tt
  instruction_done pc i.Return qs (rest ∷ more) a l d =
      (done pc i.Return rest d.0 (λ go. refl) (λ k h. h) (λ go f h. plain.case_return activation is f pc rest go [] a), d.1)
  instruction_done pc (i.Fetch into order width site) qs [] a l d = tt
  instruction_done pc (i.Fetch into order width site) qs (rest ∷ more) a l d = (
    done pc (i.Fetch into order width site) rest d.0 (λ go. refl) (λ k h. h)
        (λ go f h. case_fetch activation is f pc rest go [] l.0 (d.0.runs go f h) into order width site a l.1),
    d.1,
  )
  instruction_done pc (i.SkipK bytes site) qs [] a l d = tt
  instruction_done pc (i.SkipK bytes site) qs (rest ∷ more) a l d = (
    done pc (i.SkipK bytes site) rest d.0 (λ go. same_labels (nat_eq bytes 0) rest (skipped c n (Num bytes) site rest) rest go refl refl)
        (λ k h. same_has (nat_eq bytes 0) rest (skipped c n (Num bytes) site rest) rest k (λ x. x) (λ x. x) h)
        (λ go f h. plain.case_skip_k activation is f pc rest go [] l (d.0.runs go f h) bytes site a),
    d.1,
  )
  instruction_done pc (i.Skip size site) qs [] a l d = tt
  instruction_done pc (i.Skip size site) qs (rest ∷ more) a l d = (
    done pc (i.Skip size site) rest d.0 (λ go. refl) (λ k h. h)
        (λ go f h. plain.case_skip activation is f pc rest go [] l (d.0.runs go f h) size site a),
    d.1,
  )
  instruction_done pc i.Rest qs [] a l d = tt
  instruction_done pc i.Rest qs (rest ∷ more) a l d =
      (done pc i.Rest rest d.0 (λ go. refl) (λ k h. h) (λ go f h. plain.case_rest activation is f pc rest go [] l (d.0.runs go f h) a), d.1)
  instruction_done pc (i.Zeros site) qs [] a l d = tt
  instruction_done pc (i.Zeros site) qs (rest ∷ more) a l d =
      (done pc (i.Zeros site) rest d.0 (λ go. refl) (λ k h. h) (λ go f h. case_zeros activation is f pc rest go [] l (d.0.runs go f h) site a), d.1)
  instruction_done pc (i.Zeroterm bound width site) qs [] a l d = tt
  instruction_done pc (i.Zeroterm bound width site) qs (rest ∷ more) a l d = (
    done pc (i.Zeroterm bound width site) rest d.0 (λ go. refl) (λ k h. h)
        (λ go f h. case_zeroterm activation is f pc rest go [] l.0 (d.0.runs go f h) bound width site a l.1),
    d.1,
  )
  instruction_done pc (i.NarrowK bytes site) qs [] a l d = tt
  instruction_done pc (i.NarrowK bytes site) qs (rest ∷ more) a l d = (
    done pc (i.NarrowK bytes site) rest d.0
        (λ go. same_labels (nat_eq bytes 0) (Assign Outer (Get End) (Assign End (Get Pos) rest)) (narrowed c n (Num bytes) site rest) rest go refl refl)
        (λ k h. same_has (nat_eq bytes 0) (Assign Outer (Get End) (Assign End (Get Pos) rest)) (narrowed c n (Num bytes) site rest) rest k (λ x. x)
        (λ x. x) h) (λ go f h. plain.case_narrow_k activation is f pc rest go [] l (d.0.runs go f h) bytes site a),
    d.1,
  )
  instruction_done pc (i.Narrow size site) qs [] a l d = tt
  instruction_done pc (i.Narrow size site) qs (rest ∷ more) a l d = (
    done pc (i.Narrow size site) rest d.0 (λ go. refl) (λ k h. h)
        (λ go f h. plain.case_narrow activation is f pc rest go [] l (d.0.runs go f h) size site a),
    d.1,
  )
  instruction_done pc (i.Divides size step site) qs [] a l d = tt
  instruction_done pc (i.Divides size step site) qs (rest ∷ more) a l d = (
    done pc (i.Divides size step site) rest d.0 (λ go. refl) (λ k h. h)
        (λ go f h. plain.case_divides activation is f pc rest go [] l.0 (d.0.runs go f h) size step site a l.1),
    d.1,
  )
  instruction_done pc (i.Widen site) qs [] a l d = tt
  instruction_done pc (i.Widen site) qs (rest ∷ more) a l d =
      (done pc (i.Widen site) rest d.0 (λ go. refl) (λ k h. h) (λ go f h. plain.case_widen activation is f pc rest go [] l (d.0.runs go f h) site a), d.1)
  instruction_done pc (i.Fail reason site) qs [] a l d = tt
  instruction_done pc (i.Fail reason site) qs (rest ∷ more) a l d =
      (done pc (i.Fail reason site) rest d.0 (λ go. refl) (λ k h. h) (λ go f h. plain.case_fail activation is f pc rest go [] reason site a), d.1)
  instruction_done pc (i.Get into cell) qs [] a l d = tt
  instruction_done pc (i.Get into cell) qs (rest ∷ more) a l d = (
    done pc (i.Get into cell) rest d.0 (λ go. refl) (λ k h. h)
        (λ go f h. plain.case_get activation is f pc rest go [] l (d.0.runs go f h) into cell a),
    d.1,
  )
  instruction_done pc (i.Set source cell) qs [] a l d = tt
  instruction_done pc (i.Set source cell) qs (rest ∷ more) a l d = (
    done pc (i.Set source cell) rest d.0 (λ go. refl) (λ k h. h)
        (λ go f h. plain.case_set activation is f pc rest go [] l.0 (d.0.runs go f h) source cell a (is.fits.cells cell l.1)),
    d.1,
  )
  instruction_done pc i.Mark qs [] a l d = tt
  instruction_done pc i.Mark qs (rest ∷ more) a l d =
      (done pc i.Mark rest d.0 (λ go. refl) (λ k h. h) (λ go f h. plain.case_mark activation is f pc rest go [] l (d.0.runs go f h) a), d.1)
  instruction_done pc (i.Left into) qs [] a l d = tt
  instruction_done pc (i.Left into) qs (rest ∷ more) a l d =
      (done pc (i.Left into) rest d.0 (λ go. refl) (λ k h. h) (λ go f h. plain.case_left activation is f pc rest go [] l (d.0.runs go f h) into a), d.1)
  instruction_done pc (i.Copy size buffer site) qs [] a l d = tt
  instruction_done pc (i.Copy size buffer site) qs (rest ∷ more) a l d = (
    done pc (i.Copy size buffer site) rest d.0 (λ go. refl) (λ k h. h)
        (λ go f h. case_copy activation is f pc rest go [] l.0 (d.0.runs go f h) size buffer site a l.1),
    d.1,
  )

  -- of the code that is left
  abbrev code_from : ℕ → List Instr
  code_from pc = slice_range c.instructions pc (end_of c n)

  code_next : (pc : ℕ) (j : Instr) → slice_get c.instructions pc ≡ Some j → pc < end_of c n → code_from pc ≡ j ∷ code_from (pc + 1)
  code_next pc j h l =
      let e : end_of c n - pc ≡ suc (end_of c n - (pc + 1)) = omega (arith, l) in
      let m : suc pc ≡ pc + 1 = omega arith in
      ap (λ k. take k (drop pc c.instructions)) e
      ∙ ap (λ ys. take (suc (end_of c n - (pc + 1))) ys)
      (drop-cons c.instructions pc j (slice_get_within c.instructions pc j h) ∙ ap (λ y. y ∷ drop (suc pc) c.instructions)
      (get_or_from_slice_get c.instructions pc j j h))
      ∙ ap (λ k. j ∷ take (end_of c n - (pc + 1)) (drop k c.instructions)) m

  code_end : (pc : ℕ) → end_of c n ≤ pc → code_from pc ≡ []
  code_end pc h = let z : end_of c n - pc ≡ 0 = omega (arith, h) in ap (λ k. take k (drop pc c.instructions)) z

  -- behind the last instruction code is stuck
  ends_done : (pc : ℕ) → end_of c n ≤ pc → Does Ends pc
  ends_done pc h = record {
    runs = λ go f r s g. subst (λ js. Agrees extent s.next (go s)
        (again f (pick (exits c n message places (calls_of c message n places) pc js) 0 (state_of s)))) (sym (code_end pc h)) tt;
    labels = λ go f r l k. absurd k;
  }

  begins_there : (pc : ℕ) (js : List Instr) → begins pc js ≡ pc ∷ tail_of (begins pc js)
  begins_there pc [] = refl
  begins_there pc (j ∷ js) = refl

  blocks_done : (k pc : ℕ) → pc + k ≡ end_of c n → end_of c n ≤ length c.instructions → AreLaid c message places n pc (code_from pc)
      → AreDone (begins pc (code_from pc)) (blocks c n pc (code_from pc))
  blocks_done zero pc e l h =
      subst (λ js. AreDone (begins pc js) (blocks c n pc js)) (sym (code_end pc (omega (arith, e)))) (ends_done pc (omega (arith, e)), tt)
  blocks_done (suc k) pc e l h =
      let x = got c.instructions pc (omega (arith, e, l)) in
      let more = code_next pc x.0 x.1 (omega (arith, e)) in
      let h' : AreLaid c message places n pc (x.0 ∷ code_from (pc + 1)) = subst (λ js. AreLaid c message places n pc js) more h in
      let bs = blocks c n (pc + 1) (code_from (pc + 1)) in
      let qs = begins (pc + 1) (code_from (pc + 1)) in
      let ts = begins_there (pc + 1) (code_from (pc + 1)) in
      subst (λ js. AreDone (begins pc js) (blocks c n pc js)) (sym more)
      (subst (λ z. AreDone (pc ∷ begins_behind x.0 z) (put c n pc x.0 bs)) (sym ts)
      (instruction_done pc x.0 (tail_of qs) bs (record { there = x.1; within = omega (arith, e) })
      (subst (λ z. IsLaid c message places n pc x.0 z bs) ts h'.0)
      (subst (λ z. AreDone z bs) ts (blocks_done k (pc + 1) (omega (arith, e)) l h'.1))))

  unagain : (next : ℕ) (x : Tree Out) (touched : List ℕ) (steps : ℕ) (w : Way) → Agrees extent next x (again_by (λ t. at_once Stuck) touched steps w)
      → AgreesBy extent next x touched w
  unagain next x touched steps (Returned pos cells) h = h
  unagain next x touched steps (Turned t) h = tt
  unagain next x touched steps (Failed reason pos trace cells) h = h
  unagain next x touched steps Stuck h = tt

  first_done : (pc : ℕ) (qs : List ℕ) (bs : List Block) → AreDone (pc ∷ qs) bs → 0 < length bs → Does (first_block c n bs) pc
  first_done pc qs [] d l = absurd (omega (arith, l))
  first_done pc qs (b ∷ bs) d l = d.0

  -- the routine's body, run as a function's
  pub body_right : end_of c n ≤ length c.instructions → first_of c n ≤ end_of c n → AreLaid c message places n (first_of c n) (code_from (first_of c n))
      → 0 < length (blocks c n (first_of c n) (code_from (first_of c n)))
      → (s : Locals) → IsGood extent (record s { start = s.pos; outer = s.end })
      → Agrees extent s.next ((routine.meaning activation (body c n) nowhere []).0 s)
      (block c message n places (first_of c n) (state_of (record s { start = s.pos; outer = s.end })))
  body_right l m h some s g =
      let p = first_of c n in
      let ds = blocks_done (end_of c n - p) p (omega (arith, m)) l h in
      let d = first_done p (tail_of (begins p (code_from p))) (blocks c n p (code_from p))
      (subst (λ z. AreDone z (blocks c n p (code_from p))) (begins_there p (code_from p)) ds) some in
      let u : Locals = record s { start = s.pos; outer = s.end } in
      let e = block c message n places p (state_of u) in
      unagain s.next ((routine.meaning activation (body c n) nowhere []).0 s) e.touched e.steps e.way (d.runs nowhere (λ t. at_once Stuck) (λ t u. tt) u g)
