-- Instructions that load.
use Rattle.std.proofs.Common.{◌≡◌, ℕ, ◌+◌, ◌-◌, ◌%◌, ◌^◌, ◌<◌, ◌≤◌, [], ◌∷◌, refl, ap, ◌∙◌, subst, arith, slice_set}
use Rattle.td_num.specs.Numbers.{places_from, ordered_at}
use Rattle.td_ir.specs.declared.instructions.Instr.{Instr}
use Rattle.td_ir.specs.declared.instructions.Instr.TheVariants as i
use Rattle.td_ir.specs.Tables.{end_of}
use Rattle.td_ir.specs.State.{State, with_reg, at_pos, Exit}
use Rattle.td_ir.specs.Values.{order_of}
use Rattle.td_ir.specs.Flow.{Goes, effect}
use Rattle.td_verify.specs.Operands.{IsWidth}
use Rattle.td_prog.specs.Tree.{Tree, bind}
use Rattle.td_prog.specs.Syntax.{Reg, Num, Block}
use Rattle.td_prog.specs.Values.{Locals}
use Rattle.td_prog.specs.Means.{Out, Continuation, Labels, after_helper}
use Rattle.td_prog_code.specs.Prelude.{number_helper}
use Rattle.td_prog_code.specs.Instructions.{statement, taken}
use Rattle.td_prog_trees.specs.Agree.{state_of, Agrees, IsOnward}
use Rattle.td_prog_trees.proofs.Composing.{Leads, agrees_after}
use Rattle.td_prog_trees.specs.Readers.{IsTaken}
use Rattle.td_prog_trees.proofs.Fetching.{some_width}
use Rattle.td_prog_trees.proofs.Leading.{asked, taken_leads, reached_near}
use Rattle.td_prog_steps.proofs.Goods.{sum_is, end_small, good_taken}
use Rattle.td_prog_steps.proofs.Activation.{Activation, IsActive}
use Rattle.td_prog_steps.proofs.Activation as routine
use Rattle.td_prog_steps.proofs.Steps.{goes_on, with_room}

module _ (activation : Activation) (is : IsActive activation) where
  open activation use {extent, code as c, number as n, places, own, limit, helpers, routines}
  open extent use {memory, numbering, basis, to}
  open numbering use {word}
  open basis use {message}

  abbrev exit : (State → Exit) → ℕ → State → Exit
  exit f pc s = routine.exit activation f pc s

  abbrev begin : Block → Continuation → Labels → Continuation
  begin b go around = (routine.meaning activation b go around).0

  abbrev IsHere : ℕ → Instr → Type 0
  IsHere pc j = routine.IsHere activation pc j

  abbrev Follows : Continuation → (State → Exit) → Type 0
  Follows go f = IsOnward extent go f

  module _ (f : State → Exit) (pc : ℕ) (rest : Block) (go : Continuation) (around : Labels) (l : pc + 1 < end_of c n)
      (ih : Follows (begin rest go around) (exit f (pc + 1))) where
    pub case_fetch : (into order width site : ℕ) → IsHere pc (i.Fetch into order width site) → IsWidth width
        → Follows (begin (statement c n (i.Fetch into order width site) rest) go around) (exit f pc)
    case_fetch into order width site a wide s g =
        with_room activation is f pc width site (i.Fetch into order width site) s
        (record { flow = Goes (pc + 1) next; touched = places_from s.pos width; steps = 1 }) tree a g refl
        (λ e h. step e h (is.reads.number order width s.pos s wide (omega (arith, h, g.window, g.short, is.within.inside)) near g.held))
      where
        some : 0 < width
        some = some_width width wide

        v : ℕ
        v = ordered_at (order_of order) message s.pos width

        next : State
        next = at_pos (with_reg (state_of s) into (ordered_at (order_of order) message s.pos width)) (s.pos + width)

        asking : Tree Out
        asking = helpers (number_helper order width) (s.pos ∷ []) [] s

        near : s.next ≤ word s.pos + 1
        near = let r = reached_near numbering s.pos in omega (arith, g.ahead, r)

        onward : Continuation
        onward = begin (taken (Num width) rest) go around

        tree : Tree Out
        tree = bind asking (after_helper (Reg into) s onward)

        step : effect c n message places pc (i.Fetch into order width site) (state_of s)
            ≡ record { flow = Goes (pc + 1) next; touched = places_from s.pos width; steps = 1 }
            → s.pos + width ≤ s.end
            → IsTaken word memory s asking (places_from s.pos width) v (word (s.pos + width - 1)) → Agrees extent s.next tree (exit f pc (state_of s))
        step e h t =
            let q = word (s.pos + width - 1) in
            let x : Locals → ℕ → ℕ → Tree Out = λ u v p. begin rest go around (record u { regs = slice_set u.regs into v; pos = p }) in
            let held : Locals = record s { next = q + 1; held = memory q } in
            let whole : (s.pos + width) % 2 ^ 64 ≡ s.pos + width = sum_is s.pos width (let m = end_small extent s is.within g in omega (arith, h, m)) in
            let led = asked extent s.next (q + 1) asking v t.final s (Reg into) onward (places_from s.pos width)
            (taken_leads extent s asking s.pos width v t some near (omega (arith, h, g.window, g.short))) in
            goes_on activation is f pc (pc + 1) (i.Fetch into order width site) s next (places_from s.pos width) 1 tree a (omega arith) l e
            (agrees_after extent s.next (q + 1) tree (x held v (s.pos + width)) (places_from s.pos width) 1 (exit f (pc + 1) next)
            (subst (λ y. Leads extent s.next (q + 1) tree y (places_from s.pos width))
            ((λ i. x (t.then i) v ((s.pos + width) % 2 ^ 64)) ∙ ap (x held v) whole) led)
            (ih (record s { next = q + 1; held = memory q; regs = slice_set s.regs into v; pos = s.pos + width })
            (good_taken extent s width into v some h t.fits g)))
