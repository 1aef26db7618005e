-- Ways through blocks that take a byte.
use Rattle.std.proofs.Common.{◌≡◌, ℕ, suc, ◌+◌, ◌<◌, ◌≤◌, ◌⊎◌, ⊎_elim, inl, inr, List, [], ◌∷◌, Option, Some, Bool, true, false, ◌||◌, ◌&&◌, nat_eq, nat_lt, nat_le, refl, sym, subst, ◌∙◌, arith}
use Rattle.std.proofs.lemmas.Bool.{cases_lt}
use Rattle.std.proofs.lemmas.Bool.Decides.{nat_tests}
use Rattle.td_verify_lowered.specs.Imports.{Parts, Instr, Shape, Bracket, Window as Opened, Loop as Looping}
use Rattle.td_ir.specs.declared.instructions.Instr.TheVariants as i
use Rattle.td_verify.specs.declared.shape.Shape.TheVariants as s
use Rattle.td_verify.specs.Shape.{shape}
use Rattle.td_ir.specs.Tables.{instruction_of, lengths_of}
use Rattle.td_verify.specs.Shape.{shapes_of}
use Rattle.td_verify.specs.Brackets.{shape_at, opened}
use Rattle.td_verify.specs.Ways.{Leads, IsIdle, IsClosed, MayBeEmpty}
use Rattle.td_verify.specs.Brackets.{window_bytes}
use Rattle.td_ir.specs.Tables.{begin}
use Rattle.td_lower_blocks.specs.Block.{Block, Done, Then, Stop, Leave, Guard, Scope, Window, Loop, size, guard, Stands}
use Rattle.td_verify_lowered.specs.Nesting.{Level, Outside, InWindow, InLoop, IsPlain, IsOpen, Takes, Nests, IsCalm, opens_bytes, Busy}
use Rattle.td_verify_lowered.proofs.Levels.{IsLevel}
use Rattle.td_verify_lowered.proofs.Through.{through, shape_is, opened_after, opened_plain, opened_guard, opened_window, in_window_level, in_loop_level}
use Rattle.td_verify_lowered.proofs.Fine.{split, single, not_idle}
use Rattle.td_num.proofs.Equals.{equal_itself as is_there}
use Rattle.td_num.proofs.Truths.{eq_is as is_here, or_right as right_so, or_cases as either, or_left as left_so}

-- an instruction at a place leads no further than to a place, or to an exit, and is no Return
abbrev pub IsHeld : Parts → (m x : ℕ) (v : Bool) → ℕ → Type 0
IsHeld c m x v a = ((q : ℕ) → a < q → Leads a (shape_at (shapes_of c) a) q → (q ≤ m) ⊎ ((v ≡ true) × (q ≡ x))) × (shape_at (shapes_of c) a ≡ s.Return → ⊥)

held_at : (c : Parts) (m x : ℕ) (v : Bool) (a : ℕ) (j : Instr) → instruction_of c a ≡ j → ((q : ℕ) → a < q → Leads a (shape j) q → (q ≤ m) ⊎ ((v ≡ true) × (q ≡ x))) → (shape j ≡ s.Return → ⊥) → IsHeld c m x v a
held_at c m x v a j e f g = let k = shape_is c a j e in ((λ q lt l. f q lt (subst (λ y. Leads a y q) k l)), λ h. g (sym k ∙ h))

plain_held : (a m x : ℕ) (v : Bool) (j : Shape) → IsPlain j → a + 1 ≤ m → (q : ℕ) → a < q → Leads a j q → (q ≤ m) ⊎ ((v ≡ true) × (q ≡ x))
plain_held a m x v (s.Straight b w) h k q lt l = inl (omega (arith, l))
plain_held a m x v (s.Call n) h k q lt l = inl (omega (arith, l))
plain_held a m x v (s.Jump t) h k q lt l = absurd h
plain_held a m x v (s.Branch t) h k q lt l = absurd h
plain_held a m x v s.Return h k q lt l = absurd h
plain_held a m x v s.Fail h k q lt l = absurd h
plain_held a m x v (s.While t) h k q lt l = absurd h
plain_held a m x v (s.Again t) h k q lt l = absurd h
plain_held a m x v (s.Open n) h k q lt l = absurd h
plain_held a m x v s.Close h k q lt l = absurd h

plain_returns : (j : Shape) → IsPlain j → j ≡ s.Return → ⊥
plain_returns j h e = subst IsPlain e h

open_held : (a m x : ℕ) (v : Bool) (j : Shape) → IsOpen j → a + 1 ≤ m → (q : ℕ) → a < q → Leads a j q → (q ≤ m) ⊎ ((v ≡ true) × (q ≡ x))
open_held a m x v (s.Open n) h k q lt l = inl (omega (arith, l))
open_held a m x v (s.Straight b w) h k q lt l = absurd h
open_held a m x v (s.Call n) h k q lt l = absurd h
open_held a m x v (s.Jump t) h k q lt l = absurd h
open_held a m x v (s.Branch t) h k q lt l = absurd h
open_held a m x v s.Return h k q lt l = absurd h
open_held a m x v s.Fail h k q lt l = absurd h
open_held a m x v (s.While t) h k q lt l = absurd h
open_held a m x v (s.Again t) h k q lt l = absurd h
open_held a m x v s.Close h k q lt l = absurd h

fail_leads : (a q : ℕ) (j : Shape) → j ≡ s.Fail → Leads a j q → ⊥
fail_leads a q j e l = subst (λ y. Leads a y q) e l

fail_returns : (j : Shape) → j ≡ s.Fail → j ≡ s.Return → ⊥
fail_returns j e f = cc

guard_held : (c : Parts) (a m t x : ℕ) (v g : Bool) (r : ℕ) → instruction_of c a ≡ guard g r t → a + 1 ≤ m → t ≤ m → IsHeld c m x v a
guard_held c a m t x true g r e k h = guarded g e
  where
    guarded : (g : Bool) → instruction_of c a ≡ guard g r t → IsHeld c m x true a
    guarded true e = held_at c m x true a (i.JumpIf r t) e (λ q lt l. ⊎_elim (λ (z : q ≡ t). inl (omega (arith, z))) (λ (z : q ≡ a + 1). inl (omega (arith, z))) l) (λ z. cc)
    guarded false e = held_at c m x true a (i.JumpUnless r t) e (λ q lt l. ⊎_elim (λ (z : q ≡ t). inl (omega (arith, z))) (λ (z : q ≡ a + 1). inl (omega (arith, z))) l) (λ z. cc)
guard_held c a m t x false g r e k h = guarded g e
  where
    guarded : (g : Bool) → instruction_of c a ≡ guard g r t → IsHeld c m x false a
    guarded true e = held_at c m x false a (i.JumpIf r t) e (λ q lt l. ⊎_elim (λ (z : q ≡ t). inl (omega (arith, z))) (λ (z : q ≡ a + 1). inl (omega (arith, z))) l) (λ z. cc)
    guarded false e = held_at c m x false a (i.JumpUnless r t) e (λ q lt l. ⊎_elim (λ (z : q ≡ t). inl (omega (arith, z))) (λ (z : q ≡ a + 1). inl (omega (arith, z))) l) (λ z. cc)

-- held to a place, and so to a later one; the exit of a scope is one of its places
more : (c : Parts) (m m' x : ℕ) (v : Bool) (a : ℕ) → m ≤ m' → IsHeld c m x v a → IsHeld c m' x v a
more c m m' x v a h k = ((λ q lt l. ⊎_elim (λ (z : q ≤ m). inl (omega arith)) (λ (z : (v ≡ true) × (q ≡ x)). inr z) (k.0 q lt l)), k.1)

inward : (c : Parts) (m m' x y : ℕ) (v w : Bool) (a : ℕ) → m ≤ m' → x ≤ m' → IsHeld c m x v a → IsHeld c m' y w a
inward c m m' x y v w a h h' k = ((λ q lt l. ⊎_elim (λ (z : q ≤ m). inl (omega arith)) (λ (z : (v ≡ true) × (q ≡ x)). (let e = z.1 in inl (omega (arith, e)))) (k.0 q lt l)), k.1)

unleft : (c : Parts) (m m' x y : ℕ) (w : Bool) (a : ℕ) → m ≤ m' → IsHeld c m x false a → IsHeld c m' y w a
unleft c m m' x y w a h k = ((λ q lt l. ⊎_elim (λ (z : q ≤ m). inl (omega arith)) (λ (z : (false ≡ true) × (q ≡ x)). (let e = z.0 in absurd (cc))) (k.0 q lt l)), k.1)

-- a calm block leads no further than to its end, or to its exit
pub held : (c : Parts) (E : ℕ → Type 0) (b : Block) (l : Level) (v : Bool) (p x : ℕ) → Stands c p x b → Nests E l v b → IsCalm b → (a : ℕ) → p ≤ a → a < p + size b → IsHeld c (p + size b) x v a
held c E Done l v p x st ne ca = λ a h k. absurd (omega arith)
held c E (Then j b) l v p x st ne ca =
    split p (p + 1) (p + (1 + size b)) (IsHeld c (p + (1 + size b)) x v)
    (single p (IsHeld c (p + (1 + size b)) x v) (held_at c (p + (1 + size b)) x v p j st.0 (plain_held p (p + (1 + size b)) x v (shape j) ne.0 (omega arith)) (plain_returns (shape j) ne.0)))
    (λ a h k. more c (p + 1 + size b) (p + (1 + size b)) x v a (omega arith) (held c E b l v (p + 1) x st.1 ne.1 ca a h (omega arith)))
held c E (Stop j) l v p x st ne ca =
    single p (IsHeld c (p + 1) x v) (held_at c (p + 1) x v p j st (λ q lt l'. absurd (fail_leads p q (shape j) ca l')) (fail_returns (shape j) ca))
held c E Leave l v p x st ne ca =
    single p (IsHeld c (p + 1) x v) (held_at c (p + 1) x v p (i.Jump x) st (λ q lt l'. inr (ne, l')) (λ z. cc))
held c E (Guard g r one rest) l v p x st ne ca =
    let m = p + 1 + size one in
    let e = p + (1 + (size one + size rest)) in
    split p (p + 1) e (IsHeld c e x v)
    (single p (IsHeld c e x v) (guard_held c p e m x v g r st.0 (omega arith) (omega arith)))
    (split (p + 1) m e (IsHeld c e x v)
    (λ a h k. more c m e x v a (omega arith) (held c E one l v (p + 1) x st.1 ne.0 ca.0 a h k))
    (λ a h k. more c (m + size rest) e x v a (omega arith) (held c E rest l v m x st.2 ne.1 ca.1 a h (omega arith))))
held c E (Scope body rest) l v p x st ne ca =
    let m = p + size body in
    let e = p + (size body + size rest) in
    split p m e (IsHeld c e x v)
    (λ a h k. inward c m e m x true v a (omega arith) (omega arith) (held c E body l true p m st.0 ne.0 ca.0 a h k))
    (λ a h k. more c (m + size rest) e x v a (omega arith) (held c E rest l v m x st.1 ne.1 ca.1 a h (omega arith)))
held c E (Window j site body rest) l v p x st ne ca =
    let m = p + 1 + size body in
    let e = p + (1 + (size body + (1 + size rest))) in
    split p (p + 1) e (IsHeld c e x v)
    (single p (IsHeld c e x v) (held_at c e x v p j st.0 (open_held p e x v (shape j) ne.1 (omega arith)) (λ z. subst IsOpen z ne.1)))
    (split (p + 1) m e (IsHeld c e x v)
    (λ a h k. unleft c m e x x v a (omega arith) (held c E body InWindow false (p + 1) x st.1 ne.2 ca.0 a h k))
    (split m (m + 1) e (IsHeld c e x v)
    (single m (IsHeld c e x v) (held_at c e x v m (i.Widen site) st.2 (λ q lt l'. inl (omega (arith, l'))) (λ z. cc)))
    (λ a h k. more c (m + 1 + size rest) e x v a (omega arith) (held c E rest l v (m + 1) x st.3 ne.3 ca.1 a h (omega arith)))))
held c E (Loop body rest) l v p x st ne ca =
    let m = p + 1 + size body in
    let e = p + (1 + (size body + (1 + size rest))) in
    split p (p + 1) e (IsHeld c e x v)
    (single p (IsHeld c e x v) (held_at c e x v p (i.While (m + 1)) st.0 (λ q lt l'. inl (omega (arith, l'))) (λ z. cc)))
    (split (p + 1) m e (IsHeld c e x v)
    (λ a h k. unleft c m e x x v a (omega arith) (held c E body InLoop false (p + 1) x st.1 ne.2 ca.0 a h k))
    (split m (m + 1) e (IsHeld c e x v)
    (single m (IsHeld c e x v) (held_at c e x v m (i.Again p) st.2 (λ q lt l'. absurd l') (λ z. cc)))
    (λ a h k. more c (m + 1 + size rest) e x v a (omega arith) (held c E rest l v (m + 1) x st.3 ne.3 ca.1 a h (omega arith)))))

-- a set of places from p on that is never left with no byte taken and has no Return
pub record Kept (c : Parts) (E : ℕ → Type 0) (p e : ℕ) : Type 0 where
  pub set : ℕ → Bool
  pub begins : set p ≡ true
  pub closed : IsClosed (shapes_of c) E set
  pub within : (a : ℕ) → set a ≡ true → (p ≤ a) × (a < e)
  pub quiet : (a : ℕ) → set a ≡ true → shape_at (shapes_of c) a ≡ s.Return → ⊥

-- one instruction that takes a byte, or fails
only : (c : Parts) (E : ℕ → Type 0) (p : ℕ) (j : Instr) → instruction_of c p ≡ j → ((q : ℕ) → Leads p (shape j) q → IsIdle E (opened (shapes_of c) p) (shape j) → ⊥) → (shape j ≡ s.Return → ⊥) → Kept c E p (p + 1)
only c E p j e stays quiet = record {
  set = λ a. nat_eq a p;
  begins = is_there p;
  closed = λ a q lt l d m. (let same : a ≡ p = is_here a p m in let k = shape_is c p j e in
      absurd (stays q (subst (λ y. Leads p y q) k (subst (λ y. Leads y (shape_at (shapes_of c) y) q) same l)) (subst (λ y. IsIdle E (opened (shapes_of c) p) y) k (subst (λ y. IsIdle E (opened (shapes_of c) y) (shape_at (shapes_of c) y)) same d))));
  within = λ a m. (let same : a ≡ p = is_here a p m in (omega (arith, same), omega (arith, same)));
  quiet = λ a m h. (let same : a ≡ p = is_here a p m in quiet (sym (shape_is c p j e) ∙ subst (λ y. shape_at (shapes_of c) y ≡ s.Return) same h));
}

wider : (c : Parts) (E : ℕ → Type 0) (p e e' : ℕ) → e ≤ e' → Kept c E p e → Kept c E p e'
wider c E p e e' h k = record { set = k.set; begins = k.begins; closed = k.closed; within = λ a m. (let w = k.within a m in (w.0, (let x = w.1 in omega (arith, x)))); quiet = k.quiet }

abbrev inside : ℕ → ℕ → ℕ → Bool
inside p m a = nat_le p a && nat_lt a m

inside_is : (p m a : ℕ) → inside p m a ≡ true → (p ≤ a) × (a < m)
inside_is p m a h = (grind (arith, nat_tests), grind (arith, nat_tests))

inside_so : (p m a : ℕ) → p ≤ a → a < m → inside p m a ≡ true
inside_so p m a h k = grind (arith, nat_tests)

-- instructions that are held to where a set begins, before it
join : (c : Parts) (E : ℕ → Type 0) (p m e x : ℕ) → p ≤ m → m ≤ e → ((a : ℕ) → p ≤ a → a < m → IsHeld c m x false a) → Kept c E m e → Kept c E p e
join c E p m e x h h' hold k = record {
  set = λ a. inside p m a || k.set a;
  begins = ⊎_elim
      (λ (lt : p < m). left_so (inside p m p) (k.set p) (inside_so p m p (omega arith) lt))
      (λ (ge : m ≤ p). (let same : m ≡ p = omega arith in right_so (inside p m p) (k.set p) (subst (λ y. k.set y ≡ true) same k.begins)))
      (cases_lt p m);
  closed = λ a q lt l d mem. ⊎_elim
      (λ (in_first : inside p m a ≡ true).
      let w = inside_is p m a in_first in
      let f = (hold a w.0 w.1).0 q lt l in
      ⊎_elim
      (λ (z : q ≤ m). ⊎_elim
      (λ (less : q < m). left_so (inside p m q) (k.set q) (inside_so p m q (let y = w.0 in omega (arith, y)) less))
      (λ (ge : m ≤ q). (let same : m ≡ q = omega arith in right_so (inside p m q) (k.set q) (subst (λ y. k.set y ≡ true) same k.begins)))
      (cases_lt q m))
      (λ (z : (false ≡ true) × (q ≡ x)). (let y = z.0 in absurd (cc)))
      f)
      (λ (in_second : k.set a ≡ true). right_so (inside p m q) (k.set q) (k.closed a q lt l d in_second))
      (either (inside p m a) (k.set a) mem);
  within = λ a mem. ⊎_elim
      (λ (in_first : inside p m a ≡ true). (let w = inside_is p m a in_first in (w.0, (let y = w.1 in omega (arith, y)))))
      (λ (in_second : k.set a ≡ true). (let w = k.within a in_second in ((let y = w.0 in omega (arith, y)), w.1)))
      (either (inside p m a) (k.set a) mem);
  quiet = λ a mem r. ⊎_elim
      (λ (in_first : inside p m a ≡ true). (let w = inside_is p m a in_first in (hold a w.0 w.1).1 r))
      (λ (in_second : k.set a ≡ true). k.quiet a in_second r)
      (either (inside p m a) (k.set a) mem);
}

-- a branch to two such sets
fork : (c : Parts) (E : ℕ → Type 0) (p m e : ℕ) → p + 1 ≤ m → m ≤ e → ((q : ℕ) → Leads p (shape_at (shapes_of c) p) q → (q ≡ p + 1) ⊎ (q ≡ m)) → (shape_at (shapes_of c) p ≡ s.Return → ⊥) → Kept c E (p + 1) m → Kept c E m e → Kept c E p e
fork c E p m e h h' leads quiet a b = record {
  set = λ z. nat_eq z p || (a.set z || b.set z);
  begins = left_so (nat_eq p p) (a.set p || b.set p) (is_there p);
  closed = λ z q lt l d mem. ⊎_elim
      (λ (here : nat_eq z p ≡ true).
      let same : z ≡ p = is_here z p here in
      ⊎_elim
      (λ (y : q ≡ p + 1). right_so (nat_eq q p) (a.set q || b.set q) (left_so (a.set q) (b.set q) (subst (λ u. a.set u ≡ true) (sym y) a.begins)))
      (λ (y : q ≡ m). right_so (nat_eq q p) (a.set q || b.set q) (right_so (a.set q) (b.set q) (subst (λ u. b.set u ≡ true) (sym y) b.begins)))
      (leads q (subst (λ u. Leads u (shape_at (shapes_of c) u) q) same l)))
      (λ (others : (a.set z || b.set z) ≡ true). right_so (nat_eq q p) (a.set q || b.set q) (⊎_elim
      (λ (y : a.set z ≡ true). left_so (a.set q) (b.set q) (a.closed z q lt l d y))
      (λ (y : b.set z ≡ true). right_so (a.set q) (b.set q) (b.closed z q lt l d y))
      (either (a.set z) (b.set z) others)))
      (either (nat_eq z p) (a.set z || b.set z) mem);
  within = λ z mem. ⊎_elim
      (λ (here : nat_eq z p ≡ true). (let same : z ≡ p = is_here z p here in (omega (arith, same), omega (arith, same))))
      (λ (others : (a.set z || b.set z) ≡ true). ⊎_elim
      (λ (y : a.set z ≡ true). (let w = a.within z y in ((let u = w.0 in omega (arith, u)), (let u = w.1 in omega (arith, u)))))
      (λ (y : b.set z ≡ true). (let w = b.within z y in ((let u = w.0 in omega (arith, u)), w.1)))
      (either (a.set z) (b.set z) others))
      (either (nat_eq z p) (a.set z || b.set z) mem);
  quiet = λ z mem r. ⊎_elim
      (λ (here : nat_eq z p ≡ true). (let same : z ≡ p = is_here z p here in quiet (subst (λ u. shape_at (shapes_of c) u ≡ s.Return) same r)))
      (λ (others : (a.set z || b.set z) ≡ true). ⊎_elim
      (λ (y : a.set z ≡ true). a.quiet z y r)
      (λ (y : b.set z ≡ true). b.quiet z y r)
      (either (a.set z) (b.set z) others))
      (either (nat_eq z p) (a.set z || b.set z) mem);
}

takes_returns : (E : ℕ → Type 0) (j : Shape) → Takes E j → j ≡ s.Return → ⊥
takes_returns E j t e = subst (Takes E) e t

guard_shape : (g : Bool) (r t : ℕ) → shape (guard g r t) ≡ s.Branch t
guard_shape true r t = refl
guard_shape false r t = refl

-- the window of a block, at its end
closes_bytes : (E : ℕ → Type 0) (o : Option (List Bracket)) (p k : ℕ) (bs : List Bracket) → o ≡ Some (Opened p k ∷ bs) → 1 ≤ k → IsIdle E o s.Close → ⊥
closes_bytes E o p k bs e h d = let z : window_bytes (Some (Opened p k ∷ bs)) ≡ 0 = subst (λ y. window_bytes y ≡ 0) e d in omega (arith, h, z)

-- a busy block is kept
pub kept : (c : Parts) (E : ℕ → Type 0) (b : Block) (l : Level) (p x : ℕ) (bs : List Bracket) → Stands c p x b → Nests E l false b → IsLevel l bs → opened (shapes_of c) p ≡ Some bs → Busy E b → Kept c E p (p + size b)
kept c E Done l p x bs st ne le o bu = absurd bu
kept c E (Then j b) l p x bs st ne le o (inl bu) =
    wider c E p (p + 1) (p + (1 + size b)) (omega arith) (only c E p j st.0 (λ q l' d. not_idle E (opened (shapes_of c) p) (shape j) bu d) (takes_returns E (shape j) bu))
kept c E (Then j b) l p x bs st ne le o (inr bu) =
    wider c E p (p + 1 + size b) (p + (1 + size b)) (omega arith)
    (join c E p (p + 1) (p + 1 + size b) x (omega arith) (omega arith)
    (single p (IsHeld c (p + 1) x false) (held_at c (p + 1) x false p j st.0 (plain_held p (p + 1) x false (shape j) ne.0 (omega arith)) (plain_returns (shape j) ne.0)))
    (kept c E b l (p + 1) x bs st.1 ne.1 le (opened_plain c p j bs st.0 ne.0 o) bu))
kept c E (Stop j) l p x bs st ne le o bu = only c E p j st (λ q l' d. fail_leads p q (shape j) bu l') (fail_returns (shape j) bu)
kept c E Leave l p x bs st ne le o bu = absurd bu
kept c E (Guard g r one rest) l p x bs st ne le o bu =
    let m = p + 1 + size one in
    let o' = opened_guard c p g r m bs st.0 o in
    let k = kept c E rest l m x bs st.2 ne.1 le (through c E one l false (p + 1) x bs st.1 ne.0 le o') bu.1 in
    let is : shape_at (shapes_of c) p ≡ s.Branch m = shape_is c p (guard g r m) st.0 ∙ guard_shape g r m in
    wider c E p (m + size rest) (p + (1 + (size one + size rest))) (omega arith)
    (⊎_elim
    (λ (calm : IsCalm one). join c E p m (m + size rest) x (omega arith) (omega arith)
    (split p (p + 1) m (IsHeld c m x false)
    (single p (IsHeld c m x false) (guard_held c p m m x false g r st.0 (omega arith) (omega arith)))
    (held c E one l false (p + 1) x st.1 ne.0 calm)) k)
    (λ (busy : Busy E one). fork c E p m (m + size rest) (omega arith) (omega arith)
    (λ q l'. ⊎_elim (λ (z : q ≡ m). inr z) (λ (z : q ≡ p + 1). inl z) (subst (λ y. Leads p y q) is l'))
    (λ z. (let y : s.Branch m ≡ s.Return = sym is ∙ z in cc))
    (kept c E one l (p + 1) x bs st.1 ne.0 le o' busy) k)
    bu.0)
kept c E (Scope body rest) l p x bs st ne le o bu =
    let m = p + size body in
    let k = kept c E rest l m x bs st.1 ne.1 le (through c E body l true p m bs st.0 ne.0 le o) bu.1 in
    wider c E p (m + size rest) (p + (size body + size rest)) (omega arith)
    (join c E p m (m + size rest) x (omega arith) (omega arith)
    (λ a h z. inward c m m m x true false a (omega arith) (omega arith) (held c E body l true p m st.0 ne.0 bu.0 a h z)) k)
kept c E (Window j site body rest) l p x bs st ne le o bu =
    let m = p + 1 + size body in
    let w = opened_window c p j bs st.0 ne.1 o in
    let lw = in_window_level p w.0 bs l ne.0 le in
    let om = through c E body InWindow false (p + 1) x (Opened p w.0 ∷ bs) st.1 ne.2 lw w.1 in
    let od : opened (shapes_of c) (m + 1) ≡ Some bs = opened_after c m (i.Widen site) (Opened p w.0 ∷ bs) st.2 om in
    let first = split p (p + 1) m (IsHeld c m x false)
    (single p (IsHeld c m x false) (held_at c m x false p j st.0 (open_held p m x false (shape j) ne.1 (omega arith)) (λ z. subst IsOpen z ne.1)))
    (held c E body InWindow false (p + 1) x st.1 ne.2 bu.0) in
    ⊎_elim
    (λ (some : 1 ≤ opens_bytes (shape j)).
    let k : 1 ≤ w.0 = subst (λ y. 1 ≤ opens_bytes y) w.2 some in
    wider c E p (m + 1) (p + (1 + (size body + (1 + size rest)))) (omega arith)
    (join c E p m (m + 1) x (omega arith) (omega arith) first
    (only c E m (i.Widen site) st.2 (λ q l' d. closes_bytes E (opened (shapes_of c) m) p w.0 bs om k d) (λ z. cc))))
    (λ (busy : Busy E rest).
    wider c E p (m + 1 + size rest) (p + (1 + (size body + (1 + size rest)))) (omega arith)
    (join c E p (m + 1) (m + 1 + size rest) x (omega arith) (omega arith)
    (split p m (m + 1) (IsHeld c (m + 1) x false)
    (λ a h z. more c m (m + 1) x false a (omega arith) (first a h z))
    (single m (IsHeld c (m + 1) x false) (held_at c (m + 1) x false m (i.Widen site) st.2 (λ q lt l'. inl (omega (arith, l'))) (λ z. cc))))
    (kept c E rest l (m + 1) x bs st.3 ne.3 le od busy)))
    bu.1
kept c E (Loop body rest) l p x bs st ne le o bu =
    let m = p + 1 + size body in
    let ow : opened (shapes_of c) (p + 1) ≡ Some (Looping p ∷ bs) = opened_after c p (i.While (m + 1)) bs st.0 o in
    let ll = in_loop_level p bs l ne.0 le in
    let om = through c E body InLoop false (p + 1) x (Looping p ∷ bs) st.1 ne.2 ll ow in
    let od : opened (shapes_of c) (m + 1) ≡ Some bs = opened_after c m (i.Again p) (Looping p ∷ bs) st.2 om in
    wider c E p (m + 1 + size rest) (p + (1 + (size body + (1 + size rest)))) (omega arith)
    (join c E p (m + 1) (m + 1 + size rest) x (omega arith) (omega arith)
    (split p (p + 1) (m + 1) (IsHeld c (m + 1) x false)
    (single p (IsHeld c (m + 1) x false) (held_at c (m + 1) x false p (i.While (m + 1)) st.0 (λ q lt l'. inl (omega (arith, l'))) (λ z. cc)))
    (split (p + 1) m (m + 1) (IsHeld c (m + 1) x false)
    (λ a h z. more c m (m + 1) x false a (omega arith) (held c E body InLoop false (p + 1) x st.1 ne.2 bu.0 a h z))
    (single m (IsHeld c (m + 1) x false) (held_at c (m + 1) x false m (i.Again p) st.2 (λ q lt l'. absurd l') (λ z. cc)))))
    (kept c E rest l (m + 1) x bs st.3 ne.3 le od bu.1))

-- a routine that is a busy block takes a byte
pub busy_routine : (c : Parts) (n : ℕ) (b : Block) → Stands c (begin (lengths_of c) n) 0 b → begin (lengths_of c) n + size b ≡ begin (lengths_of c) (suc n) → opened (shapes_of c) (begin (lengths_of c) n) ≡ Some []
    → Nests (λ m. MayBeEmpty (shapes_of c) (lengths_of c) n m) Outside false b → Busy (λ m. MayBeEmpty (shapes_of c) (lengths_of c) n m) b → MayBeEmpty (shapes_of c) (lengths_of c) (suc n) n → ⊥
busy_routine c n b st e o ne bu (inl w) =
    let E = λ (m : ℕ). MayBeEmpty (shapes_of c) (lengths_of c) n m in
    let k = kept c E b Outside (begin (lengths_of c) n) 0 [] st ne tt o bu in
    k.quiet (w.1.0) (w.1.4 k.set k.closed k.begins) w.1.3
busy_routine c n b st e o ne bu (inr w) = w.0 refl
