-- What stays of the variables, and room. Cited by other crates.
use Rattle.std.proofs.Common.{◌≡◌, ℕ, zero, suc, ◌+◌, ◌-◌, ◌%◌, ◌^◌, ◌<◌, ◌≤◌, true, false, List, [], ◌∷◌, refl, sym, ap, ◌∙◌, arith, slice_index, slice_set, length, map, take, length-set, ◌*◌}
use Rattle.std.specs.Prelude.{slice_index_or, nat_lt, nat_le, cond}
use Rattle.td_num.specs.Numbers.{places_from}
use Rattle.std.proofs.Math.Nat.{mod-eq_of_lt}
use Rattle.td_num.specs.Lists.{Each}
use Rattle.td_prog.specs.Values.{Locals}
use Rattle.td_prog_trees.specs.Agree.{Extent, IsWithin, IsGood}
use Rattle.td_prog_trees.proofs.Composing.{by_cases}
use Rattle.td_prog_trees.proofs.Leading.{reached_rises, reached_is}

pub small_at : (xs : List ℕ) → Each (λ v. v < 2 ^ 64) xs → (k : ℕ) → slice_index xs k < 2 ^ 64
small_at [] h k = omega arith
small_at (x ∷ xs) h zero = h.0
small_at (x ∷ xs) h (suc k) = small_at xs h.1 k

pub set_small : (xs : List ℕ) (i v : ℕ) → v < 2 ^ 64 → Each (λ x. x < 2 ^ 64) xs → Each (λ x. x < 2 ^ 64) (slice_set xs i v)
set_small [] i v lt h = tt
set_small (x ∷ xs) zero v lt h = (lt, h.1)
set_small (x ∷ xs) (suc i) v lt h = (h.0, set_small xs i v lt h.1)

pub other_cell : (xs : List ℕ) (i k v : ℕ) → (i ≡ k → ⊥) → slice_index (slice_set xs k v) i ≡ slice_index xs i
other_cell [] i k v h = refl
other_cell (x ∷ xs) zero zero v h = absurd (h refl)
other_cell (x ∷ xs) zero (suc k) v h = refl
other_cell (x ∷ xs) (suc i) zero v h = refl
other_cell (x ∷ xs) (suc i) (suc k) v h = other_cell xs i k v (λ e. h (ap suc e))

pub same_cell : (xs : List ℕ) (k v : ℕ) → k < length xs → slice_index (slice_set xs k v) k ≡ v
same_cell [] k v h = absurd (omega (arith, h))
same_cell (x ∷ xs) zero v h = refl
same_cell (x ∷ xs) (suc k) v h = same_cell xs k v (omega (arith, h))

pub left_is : (e p : ℕ) → p ≤ e → e < 2 ^ 32 → (e + (2 ^ 64 - p)) % 2 ^ 64 ≡ e - p
left_is e p h l = omega (arith, h, l)

pub sum_is : (p v : ℕ) → p + v < 2 ^ 64 → (p + v) % 2 ^ 64 ≡ p + v
sum_is p v h = mod-eq_of_lt h

-- a place of 32 bits
pub cut_is : (p : ℕ) → p < 2 ^ 32 → p % 2 ^ 32 ≡ p
cut_is p h = mod-eq_of_lt h

room_so : (p v e : ℕ) → nat_le (p + v) e ≡ true → p ≤ e → e < 2 ^ 32 → nat_lt ((e + (2 ^ 64 - p)) % 2 ^ 64) v ≡ false
room_so p v e h l m = ap (λ x. nat_lt x v) (left_is e p l m) ∙ grind arith

room_not : (p v e : ℕ) → nat_le (p + v) e ≡ false → p ≤ e → e < 2 ^ 32 → nat_lt ((e + (2 ^ 64 - p)) % 2 ^ 64) v ≡ true
room_not p v e h l m = ap (λ x. nat_lt x v) (left_is e p l m) ∙ grind arith

-- the test for room: in C of what is left, in code of the position behind
pub room_test : (p v e : ℕ) → p ≤ e → e < 2 ^ 32 → nat_lt ((e + (2 ^ 64 - p)) % 2 ^ 64) v ≡ cond (nat_le (p + v) e) false true
room_test p v e l m =
    by_cases (λ b. nat_lt ((e + (2 ^ 64 - p)) % 2 ^ 64) v ≡ cond b false true) (nat_le (p + v) e) (λ h. room_so p v e h l m) (λ h. room_not p v e h l m)

pub has_room : (p v e : ℕ) → nat_le (p + v) e ≡ true → p + v ≤ e
has_room p v e h = grind arith

module _ (extent : Extent) where
  open extent use {numbering, basis, to}
  open numbering use {word}

  pub good_regs : (s : Locals) (k v : ℕ) → v < 2 ^ 64 → IsGood extent s → IsGood extent (record s { regs = slice_set s.regs k v })
  good_regs s k v l g = record {
    begun = g.begun;
    started = g.started;
    within = g.within;
    window = g.window;
    short = g.short;
    ahead = g.ahead;
    held = g.held;
    regs = set_small s.regs k v l g.regs;
    cells = g.cells;
    kept = g.kept;
  }

  pub good_cells : (s : Locals) (k v : ℕ) → k < basis.first → v < 2 ^ 64 → IsGood extent s → IsGood extent (record s { cells = slice_set s.cells k v })
  good_cells s k v low l g = record {
    begun = g.begun;
    started = g.started;
    within = g.within;
    window = g.window;
    short = g.short;
    ahead = g.ahead;
    held = g.held;
    regs = g.regs;
    cells = set_small s.cells k v l g.cells;
    kept = record {
      lengths = g.kept.lengths;
      many = length-set s.cells k v ∙ g.kept.many;
      copies = λ b h.
          let p = other_cell s.cells (basis.first + 2 * b) k v (λ e. omega (arith, e, low)) in
          let q = other_cell s.cells (basis.first + 2 * b + 1) k v (λ e. omega (arith, e, low)) in
          ap (λ n. take n (slice_index_or s.buffers b [])) q ∙ g.kept.copies b h ∙ (λ i. map (slice_index basis.message) (places_from (sym p i) (sym q i)));
    };
  }

  pub good_start : (s : Locals) → IsGood extent s → IsGood extent (record s { start = s.pos })
  good_start s g = record {
    begun = omega (arith, g.begun, g.started);
    started = omega arith;
    within = g.within;
    window = g.window;
    short = g.short;
    ahead = g.ahead;
    held = g.held;
    regs = g.regs;
    cells = g.cells;
    kept = g.kept;
  }

  pub good_pos : (s : Locals) (p : ℕ) → s.pos ≤ p → p ≤ s.end → IsGood extent s → IsGood extent (record s { pos = p })
  good_pos s p l m g = let rises = reached_rises numbering s.pos p l in record {
    begun = g.begun;
    started = omega (arith, g.started, l);
    within = m;
    window = g.window;
    short = g.short;
    ahead = omega (arith, g.ahead, rises);
    held = g.held;
    regs = g.regs;
    cells = g.cells;
    kept = g.kept;
  }

  pub good_narrow : (s : Locals) (e : ℕ) → s.pos ≤ e → e ≤ s.end → IsGood extent s → IsGood extent (record s { outer = s.end; end = e })
  good_narrow s e l m g = record {
    begun = g.begun;
    started = g.started;
    within = l;
    window = m;
    short = omega (arith, g.window, g.short);
    ahead = g.ahead;
    held = g.held;
    regs = g.regs;
    cells = g.cells;
    kept = g.kept;
  }

  pub good_widen : (s : Locals) → IsGood extent s → IsGood extent (record s { end = s.outer })
  good_widen s g = record {
    begun = g.begun;
    started = g.started;
    within = omega (arith, g.within, g.window);
    window = omega arith;
    short = g.short;
    ahead = g.ahead;
    held = g.held;
    regs = g.regs;
    cells = g.cells;
    kept = g.kept;
  }

  -- the variables after a byte or an element was taken
  pub good_passed : (s : Locals) (w v a b : ℕ) → 0 < w → s.pos + w ≤ s.end → IsGood extent s
      → IsGood extent (record s {
        next = word (s.pos + w - 1) + 1;
        held = extent.memory
            (word (s.pos + w - 1));
        number = v;
        pos = s.pos + w;
        most = a;
        room = b;
      })
  good_passed s w v a b some l g = record {
    begun = g.begun;
    started = omega (arith, g.started);
    within = l;
    window = g.window;
    short = g.short;
    ahead = let r = reached_is numbering s.pos w some in omega (arith, r);
    held = λ k e. let q : word (s.pos + w - 1) ≡ k = omega (arith, e) in ap extent.memory q;
    regs = g.regs;
    cells = g.cells;
    kept = g.kept;
  }

  pub good_counted : (s : Locals) (a b v : ℕ) → IsGood extent s → IsGood extent (record s { most = a; room = b; number = v })
  good_counted s a b v g = record {
    begun = g.begun;
    started = g.started;
    within = g.within;
    window = g.window;
    short = g.short;
    ahead = g.ahead;
    held = g.held;
    regs = g.regs;
    cells = g.cells;
    kept = g.kept;
  }

  -- the variables after a number was taken
  pub good_taken : (s : Locals) (w into v : ℕ) → 0 < w → s.pos + w ≤ s.end → v < 2 ^ 64 → IsGood extent s
      → IsGood extent (record s {
        next = word (s.pos + w - 1) + 1;
        held = extent.memory
            (word (s.pos + w - 1));
        regs = slice_set s.regs into v;
        pos = s.pos + w;
      })
  good_taken s w into v some l fits g = record {
    begun = g.begun;
    started = omega (arith, g.started);
    within = l;
    window = g.window;
    short = g.short;
    ahead = let r = reached_is numbering s.pos w some in omega (arith, r);
    held = λ k e. let q : word (s.pos + w - 1) ≡ k = omega (arith, e) in ap extent.memory q;
    regs = set_small s.regs into v fits g.regs;
    cells = g.cells;
    kept = g.kept;
  }

  pub start_small : (s : Locals) → IsWithin extent → IsGood extent s → s.start < 2 ^ 32
  start_small s l g = omega (arith, l.short, l.inside, g.started, g.within, g.window, g.short)

  pub end_small : (s : Locals) → IsWithin extent → IsGood extent s → s.end < 2 ^ 32
  end_small s l g = omega (arith, l.short, l.inside, g.window, g.short)
