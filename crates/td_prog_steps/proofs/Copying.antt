-- The instruction Copy.
use Rattle.std.proofs.Common.{◌≡◌, ℕ, ◌+◌, ◌*◌, ◌%◌, ◌^◌, ◌<◌, ◌≤◌, inl, inr, Bool, true, false, cond, min, List, [], ◌∷◌, length, map, refl, sym, ap, ◌∙◌, subst, arith, slice_index, slice_set, length-set, take}
use Rattle.std.specs.Prelude.{nat_lt, nat_eq, slice_index_or, ◌⊎◌}
use Rattle.std.proofs.lemmas.Bool.{cases_lt, cases_eq, ltb-true, ltb-false}
use Rattle.std.proofs.Math.Nat.{min-eq_left, min-eq_right}
use Rattle.td_num.specs.Numbers.{places_from}
use Rattle.td_ir.specs.declared.instructions.Instr.{Instr}
use Rattle.td_ir.specs.declared.instructions.Instr.TheVariants as i
use Rattle.td_ir.specs.Tables.{routine_of, end_of}
use Rattle.td_ir.specs.State.{State, Exit}
use Rattle.td_ir.specs.Values.{bit}
use Rattle.td_ir.specs.Flow.{Goes, effect}
use Rattle.td_prog.specs.Tree.{Tree, bind}
use Rattle.td_prog.specs.Syntax.{Number, Block}
use Rattle.td_prog.specs.Values.{Locals}
use Rattle.td_prog.specs.Means.{Out, Continuation, Labels, after_helper}
use Rattle.td_prog_code.specs.Prelude.{copy_helper}
use Rattle.td_prog_code.specs.Instructions.{statement, taken, reg}
use Rattle.td_prog_trees.specs.Agree.{reached, IsKept, state_of, IsGood, Agrees, IsOnward}
use Rattle.td_prog_trees.specs.Readers.{IsCopied}
use Rattle.td_prog_trees.proofs.Composing.{Leads, agrees_after}
use Rattle.td_prog_trees.proofs.Leading.{asked, copied_leads, reached_rises, reached_near}
use Rattle.td_prog_trees.proofs.Buffers.{IsDone, AreOld}
use Rattle.td_prog_steps.proofs.Goods.{set_small, other_cell, same_cell, sum_is, end_small}
use Rattle.td_prog_steps.proofs.Activation.{Activation, IsActive}
use Rattle.td_prog_steps.proofs.Activation as routine
use Rattle.td_prog_steps.proofs.Steps.{goes_on, with_room}

module _ (activation : Activation) (is : IsActive activation) where
  open activation use {extent, code as c, number as n, places, own, limit, helpers, routines}
  open extent use {memory, numbering, basis, to}
  open numbering use {word}
  open basis use {message}

  abbrev exit : (State → Exit) → ℕ → State → Exit
  exit f pc s = routine.exit activation f pc s

  abbrev begin : Block → Continuation → Labels → Continuation
  begin b go around = (routine.meaning activation b go around).0

  abbrev IsHere : ℕ → Instr → Type 0
  IsHere pc j = routine.IsHere activation pc j

  abbrev Follows : Continuation → (State → Exit) → Type 0
  Follows go f = IsOnward extent go f

  kept_copied : (cells : List ℕ) (buffers bs : List (List ℕ)) (x pos k p q : ℕ) → IsKept basis cells buffers → p ≡ basis.first + 2 * x
      → q ≡ basis.first + 2 * x + 1 → x < length basis.lengths → map length bs ≡ basis.lengths
      → IsDone message x pos buffers bs k → AreOld message x pos buffers bs → IsKept basis (slice_set (slice_set cells p pos) q k) bs
  kept_copied cells buffers bs x pos k p q g ep eq there long done old = record {
    lengths = long;
    many = length-set (slice_set cells p pos) q k ∙ length-set cells p pos ∙ g.many;
    copies = λ b h. by b h (cases_eq b x);
  }
    where
      now : List ℕ
      now = slice_set (slice_set cells p pos) q k

      others : (i : ℕ) → (i ≡ p → ⊥) → (i ≡ q → ⊥) → slice_index now i ≡ slice_index cells i
      others i h l = other_cell (slice_set cells p pos) i q k l ∙ other_cell cells i p pos h

      by : (b : ℕ) → b < length basis.lengths → (b ≡ x) ⊎ (b ≡ x → ⊥)
          → take (slice_index now (basis.first + 2 * b + 1)) (slice_index_or bs b [])
          ≡ map (slice_index message) (places_from (slice_index now (basis.first + 2 * b)) (slice_index now (basis.first + 2 * b + 1)))
      by b h (inl e) =
          let many = g.many in
          let fp : p ≡ basis.first + 2 * b = omega (arith, ep, e) in
          let fq : q ≡ basis.first + 2 * b + 1 = omega (arith, eq, e) in
          let size : slice_index now q ≡ k = same_cell (slice_set cells p pos) q k (let s = length-set cells p pos in omega (arith, s, many, eq, there)) in
          let at : slice_index now p ≡ pos = other_cell (slice_set cells p pos) p q k (λ z. omega (arith, z, ep, eq)) ∙ same_cell cells p pos
          (omega (arith, many, ep, there)) in
          let size' : slice_index now (basis.first + 2 * b + 1) ≡ k = ap (slice_index now) (sym fq) ∙ size in
          let at' : slice_index now (basis.first + 2 * b) ≡ pos = ap (slice_index now) (sym fp) ∙ at in
          (λ i. take (size' i) (slice_index_or bs (e i) [])) ∙ done ∙ (λ i. map (slice_index message) (places_from (sym at' i) (sym size' i)))
      by b h (inr apart) =
          let size' : slice_index now (basis.first + 2 * b + 1) ≡ slice_index cells (basis.first + 2 * b + 1) = others (basis.first + 2 * b + 1)
          (λ z. omega (arith, z, ep)) (λ z. apart (omega (arith, z, eq))) in
          let at' : slice_index now (basis.first + 2 * b) ≡ slice_index cells (basis.first + 2 * b) = others (basis.first + 2 * b)
          (λ z. apart (omega (arith, z, ep))) (λ z. omega (arith, z, eq)) in
          (λ i. take (size' i) (old b apart i)) ∙ g.copies b h ∙ (λ i. map (slice_index message) (places_from (sym at' i) (sym size' i)))

  good_copied : (s : Locals) (n h k v p q mo num : ℕ) (bs : List (List ℕ)) → k ≤ v → s.pos + v ≤ s.end → n ≤ reached word (s.pos + k)
      → ((w : ℕ) → n ≡ w + 1 → h ≡ memory w) → IsKept basis (slice_set (slice_set s.cells p s.pos) q k) bs → IsGood extent s
      → IsGood extent (record s {
        next = n;
        held = h;
        cells = slice_set
            (slice_set s.cells p s.pos) q k;
        buffers = bs;
        most = mo;
        number = num;
        pos = s.pos + v;
      })
  good_copied s n h k v p q mo num bs few l ahead held kept g = record {
    begun = g.begun;
    started = omega (arith, g.started);
    within = l;
    window = g.window;
    short = g.short;
    ahead = let r = reached_rises numbering (s.pos + k) (s.pos + v) (omega (arith, few)) in omega (arith, ahead, r);
    held = held;
    regs = g.regs;
    cells = set_small (slice_set s.cells p s.pos) q k (let e = end_small extent s is.within g in omega (arith, few, l, e))
        (set_small s.cells p s.pos (let e = end_small extent s is.within g in omega (arith, l, e)) g.cells);
    kept = kept;
  }

  lesser : (v r : ℕ) (b : Bool) → nat_lt v r ≡ b → cond b v r ≡ min v r
  lesser v r true e = let h = ltb-true v r e in sym (min-eq_left (omega (arith, h)))
  lesser v r false e = let h = ltb-false v r e in sym (min-eq_right h)

  min_below : (v r : ℕ) → (min v r ≤ v) × (min v r ≤ r)
  min_below v r = elim (cases_lt v r) [
    | inl h ↦ (let e : min v r ≡ v = min-eq_left (omega (arith, h)) in (omega (arith, e), omega (arith, e, h)))
    | inr h ↦ (let e : min v r ≡ r = min-eq_right h in (omega (arith, e, h), omega (arith, e)))
  ]

  module _ (f : State → Exit) (pc : ℕ) (rest : Block) (go : Continuation) (around : Labels) (l : pc + 1 < end_of c n)
      (ih : Follows (begin rest go around) (exit f (pc + 1))) where
    pub case_copy : (size buffer site : ℕ) → IsHere pc (i.Copy size buffer site) → buffer < length (routine_of c n).buffers
        → Follows (begin (statement c n (i.Copy size buffer site) rest) go around) (exit f pc)
    case_copy size buffer site a there s g =
        with_room activation is f pc v site (i.Copy size buffer site) s
        (record { flow = Goes (pc + 1) next; touched = places_from s.pos k; steps = 1 + k }) tree a g refl
        (λ e h.
        let q = min_below v r in
        let fits = is.fits.rooms buffer there in
        step e h (is.reads.copy x s.pos k (stored k) (omega (arith, q.0, h, g.window, g.short, is.within.inside))
        (omega (arith, q.0, h, g.window, g.short, is.enough, is.within.inside)) g.kept.lengths (omega (arith, q.1, fits)) g.ahead g.held))
      where
        v : ℕ
        v = slice_index s.regs size

        r : ℕ
        r = slice_index (routine_of c n).buffers buffer

        k : ℕ
        k = min v r

        x : ℕ
        x = slice_index own buffer

        place : ℕ
        place = slice_index places ((routine_of c n).cells + 2 * buffer)

        count : ℕ
        count = slice_index places ((routine_of c n).cells + 2 * buffer + 1)

        ends : s.end < 2 ^ 32
        ends = end_small extent s is.within g

        next : State
        next = record (state_of s) { cells = slice_set (slice_set s.cells place s.pos) count k; pos = s.pos + v }

        stored : ℕ → Locals
        stored mo = record s { most = mo; cells = slice_set (slice_set s.cells place s.pos) count mo }

        onward : Continuation
        onward = begin (taken (reg size) rest) go around

        asking : ℕ → Tree Out
        asking mo = bind (helpers copy_helper (s.pos ∷ mo ∷ []) (x ∷ []) (stored mo)) (after_helper Number (stored mo) onward)

        tree : Tree Out
        tree = cond (nat_eq (bit (nat_lt v r)) 0) (asking r) (asking v)

        tree_is : tree ≡ asking k
        tree_is = by (nat_lt v r) refl
          where
            by : (b : Bool) → nat_lt v r ≡ b → cond (nat_eq (bit (nat_lt v r)) 0) (asking r) (asking v) ≡ asking (min v r)
            by true e = ap (λ b. cond (nat_eq (bit b) 0) (asking r) (asking v)) e ∙ ap asking (lesser v r true e)
            by false e = ap (λ b. cond (nat_eq (bit b) 0) (asking r) (asking v)) e ∙ ap asking (lesser v r false e)

        step : effect c n message places pc (i.Copy size buffer site) (state_of s)
            ≡ record { flow = Goes (pc + 1) next; touched = places_from s.pos k; steps = 1 + k }
            → s.pos + v ≤ s.end
            → IsCopied word memory basis (stored k) (helpers copy_helper (s.pos ∷ k ∷ []) (x ∷ []) (stored k)) x s.pos k
            → Agrees extent s.next tree (exit f pc (state_of s))
        step e h t =
            let z = t.final in
            let q = min_below v r in
            let on : List ℕ → ℕ → Tree Out = λ cells p. begin rest go around
            (record (stored k) { next = z.next; held = z.held; cells = cells; buffers = z.buffers; number = k; pos = p }) in
            let cells = slice_set (slice_set s.cells place s.pos) count k in
            let whole : (s.pos + v) % 2 ^ 64 ≡ s.pos + v = sum_is s.pos v (omega (arith, h, ends)) in
            let near = reached_near numbering s.pos in
            let led = asked extent s.next z.next (helpers copy_helper (s.pos ∷ k ∷ []) (x ∷ []) (stored k)) k z (stored k) Number onward
            (places_from s.pos k)
            (copied_leads extent (stored k) (helpers copy_helper (s.pos ∷ k ∷ []) (x ∷ []) (stored k)) x s.pos k t (omega (arith, g.ahead, near))
            (omega (arith, q.0, h, g.window, g.short))) in
            subst (λ y. Agrees extent s.next y (exit f pc (state_of s))) (sym tree_is)
            (goes_on activation is f pc (pc + 1) (i.Copy size buffer site) s next (places_from s.pos k) (1 + k) (asking k) a (omega arith) l e
            (agrees_after extent s.next z.next (asking k) (on cells (s.pos + v)) (places_from s.pos k) (1 + k) (exit f (pc + 1) next)
            (subst (λ y. Leads extent s.next z.next (asking k) y (places_from s.pos k))
            ((λ i. on (t.cells i) ((s.pos + v) % 2 ^ 64)) ∙ ap (on cells) whole) led)
            (ih (record (stored k) { next = z.next; held = z.held; cells = cells; buffers = z.buffers; number = k; pos = s.pos + v })
            (good_copied s z.next z.held k v place count k k z.buffers q.0 h t.ahead t.held
            (kept_copied s.cells s.buffers z.buffers x s.pos k place count g.kept (is.fits.place buffer there) (is.fits.count buffer there)
            (is.fits.there buffer there) t.lengths t.copied t.others) g))))
