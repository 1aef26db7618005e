-- Blocks leave open what was open before them.
use Rattle.std.proofs.Common.{◌≡◌, ℕ, ◌+◌, List, [], ◌∷◌, Option, Some, Bool, true, false, refl, sym, ap, subst, ◌∙◌, arith}
use Rattle.td_verify_lowered.specs.Imports.{Parts, Instr, Shape, Bracket, Window as Opened, Loop as Looping}
use Rattle.td_ir.specs.declared.instructions.Instr.TheVariants as i
use Rattle.td_verify.specs.declared.shape.Shape.TheVariants as s
use Rattle.td_verify.specs.Shape.{shape}
use Rattle.td_ir.specs.Tables.{instruction_of}
use Rattle.td_verify.specs.Shape.{shapes_of}
use Rattle.td_verify.specs.Brackets.{shape_at, opened, and_then}
use Rattle.td_lower_blocks.specs.Block.{Block, Done, Then, Stop, Leave, Guard, Scope, Window, Loop, size, guard, Stands}
use Rattle.td_verify_lowered.specs.Nesting.{Level, Outside, InWindow, InLoop, IsPlain, IsStop, IsOpen, Nests}
use Rattle.td_verify_lowered.proofs.Levels.{IsLevel}
use Rattle.td_verify.proofs.Flat.{next_opened}
use Rattle.td_verify.proofs.Sums.{shape_there}

pub shape_is : (c : Parts) (p : ℕ) (j : Instr) → instruction_of c p ≡ j → shape_at (shapes_of c) p ≡ shape j
shape_is c p j e = shape_there c p ∙ ap shape e

-- what is open after an instruction
pub opened_after : (c : Parts) (p : ℕ) (j : Instr) (bs : List Bracket) → instruction_of c p ≡ j → opened (shapes_of c) p ≡ Some bs → opened (shapes_of c) (p + 1) ≡ and_then p (shape j) (Some bs)
opened_after c p j bs e o = next_opened (shapes_of c) p ∙ (ap (λ x. and_then p x (opened (shapes_of c) p)) (shape_is c p j e) ∙ ap (and_then p (shape j)) o)

plain_keeps : (p : ℕ) (j : Shape) (o : Option (List Bracket)) → IsPlain j → and_then p j o ≡ o
plain_keeps p (s.Straight b w) o h = refl
plain_keeps p (s.Call m) o h = refl
plain_keeps p (s.Jump t) o h = absurd h
plain_keeps p (s.Branch t) o h = absurd h
plain_keeps p s.Return o h = absurd h
plain_keeps p s.Fail o h = absurd h
plain_keeps p (s.While t) o h = absurd h
plain_keeps p (s.Again t) o h = absurd h
plain_keeps p (s.Open k) o h = absurd h
plain_keeps p s.Close o h = absurd h

pub opened_plain : (c : Parts) (p : ℕ) (j : Instr) (bs : List Bracket) → instruction_of c p ≡ j → IsPlain (shape j) → opened (shapes_of c) p ≡ Some bs → opened (shapes_of c) (p + 1) ≡ Some bs
opened_plain c p j bs e h o = opened_after c p j bs e o ∙ plain_keeps p (shape j) (Some bs) h

stop_keeps : (p : ℕ) (l : Level) (j : Shape) (o : Option (List Bracket)) → IsStop l j → and_then p j o ≡ o
stop_keeps p l s.Fail o h = refl
stop_keeps p l s.Return o h = refl
stop_keeps p l (s.Straight b w) o h = refl
stop_keeps p l (s.Call m) o h = refl
stop_keeps p l (s.Jump t) o h = refl
stop_keeps p l (s.Branch t) o h = refl
stop_keeps p l (s.While t) o h = absurd h
stop_keeps p l (s.Again t) o h = absurd h
stop_keeps p l (s.Open k) o h = absurd h
stop_keeps p l s.Close o h = absurd h

pub opened_stop : (c : Parts) (p : ℕ) (l : Level) (j : Instr) (bs : List Bracket) → instruction_of c p ≡ j → IsStop l (shape j) → opened (shapes_of c) p ≡ Some bs → opened (shapes_of c) (p + 1) ≡ Some bs
opened_stop c p l j bs e h o = opened_after c p j bs e o ∙ stop_keeps p l (shape j) (Some bs) h

pub opened_guard : (c : Parts) (p : ℕ) (g : Bool) (r t : ℕ) (bs : List Bracket) → instruction_of c p ≡ guard g r t → opened (shapes_of c) p ≡ Some bs → opened (shapes_of c) (p + 1) ≡ Some bs
opened_guard c p true r t bs e o = opened_after c p (i.JumpIf r t) bs e o
opened_guard c p false r t bs e o = opened_after c p (i.JumpUnless r t) bs e o

window_of : (p : ℕ) (j : Shape) (bs : List Bracket) → IsOpen j → (k : ℕ) × (and_then p j (Some bs) ≡ Some (Opened p k ∷ bs)) × (j ≡ s.Open k)
window_of p (s.Open k) bs h = (k, refl, refl)
window_of p (s.Straight b w) bs h = absurd h
window_of p (s.Call m) bs h = absurd h
window_of p (s.Jump t) bs h = absurd h
window_of p (s.Branch t) bs h = absurd h
window_of p s.Return bs h = absurd h
window_of p s.Fail bs h = absurd h
window_of p (s.While t) bs h = absurd h
window_of p (s.Again t) bs h = absurd h
window_of p s.Close bs h = absurd h

pub opened_window : (c : Parts) (p : ℕ) (j : Instr) (bs : List Bracket) → instruction_of c p ≡ j → IsOpen (shape j) → opened (shapes_of c) p ≡ Some bs → (k : ℕ) × (opened (shapes_of c) (p + 1) ≡ Some (Opened p k ∷ bs)) × (shape j ≡ s.Open k)
opened_window c p j bs e h o = let w = window_of p (shape j) bs h in (w.0, opened_after c p j bs e o ∙ w.1, w.2)

-- levels by what is open
pub outside_is : (bs : List Bracket) → IsLevel Outside bs → bs ≡ []
outside_is [] h = refl
outside_is (b ∷ bs) h = absurd h

pub in_window_level : (o k : ℕ) (bs : List Bracket) (l : Level) → l ≡ Outside → IsLevel l bs → IsLevel InWindow (Opened o k ∷ bs)
in_window_level o k bs l e h = let n : bs ≡ [] = outside_is bs (subst (λ x. IsLevel x bs) e h) in subst (λ x. IsLevel InWindow (Opened o k ∷ x)) (sym n) tt

looping_level : (o : ℕ) (bs : List Bracket) → IsLevel InWindow bs → IsLevel InLoop (Looping o ∷ bs)
looping_level o [] h = absurd h
looping_level o (Opened p k ∷ []) h = tt
looping_level o (Opened p k ∷ b ∷ bs) h = absurd h
looping_level o (Looping l ∷ bs) h = absurd h

pub in_loop_level : (o : ℕ) (bs : List Bracket) (l : Level) → l ≡ InWindow → IsLevel l bs → IsLevel InLoop (Looping o ∷ bs)
in_loop_level o bs l e h = looping_level o bs (subst (λ x. IsLevel x bs) e h)

at : (c : Parts) (p q : ℕ) (bs : List Bracket) → p ≡ q → opened (shapes_of c) p ≡ Some bs → opened (shapes_of c) q ≡ Some bs
at c p q bs e o = subst (λ x. opened (shapes_of c) x ≡ Some bs) e o

pub through : (c : Parts) (E : ℕ → Type 0) (b : Block) (l : Level) (v : Bool) (p x : ℕ) (bs : List Bracket) → Stands c p x b → Nests E l v b → IsLevel l bs → opened (shapes_of c) p ≡ Some bs → opened (shapes_of c) (p + size b) ≡ Some bs
through c E Done l v p x bs st ne le o = at c p (p + 0) bs (omega arith) o
through c E (Then j b) l v p x bs st ne le o =
    at c (p + 1 + size b) (p + (1 + size b)) bs (omega arith) (through c E b l v (p + 1) x bs st.1 ne.1 le (opened_plain c p j bs st.0 ne.0 o))
through c E (Stop j) l v p x bs st ne le o = opened_stop c p l j bs st ne o
through c E Leave l v p x bs st ne le o = opened_after c p (i.Jump x) bs st o
through c E (Guard g r one rest) l v p x bs st ne le o =
    let a = through c E one l v (p + 1) x bs st.1 ne.0 le (opened_guard c p g r (p + 1 + size one) bs st.0 o) in
    at c (p + 1 + size one + size rest) (p + (1 + (size one + size rest))) bs (omega arith) (through c E rest l v (p + 1 + size one) x bs st.2 ne.1 le a)
through c E (Scope body rest) l v p x bs st ne le o =
    let a = through c E body l true p (p + size body) bs st.0 ne.0 le o in
    at c (p + size body + size rest) (p + (size body + size rest)) bs (omega arith) (through c E rest l v (p + size body) x bs st.1 ne.1 le a)
through c E (Window j site body rest) l v p x bs st ne le o =
    let w = opened_window c p j bs st.0 ne.1 o in
    let a = through c E body InWindow false (p + 1) x (Opened p w.0 ∷ bs) st.1 ne.2 (in_window_level p w.0 bs l ne.0 le) w.1 in
    let d : opened (shapes_of c) (p + 1 + size body + 1) ≡ Some bs = opened_after c (p + 1 + size body) (i.Widen site) (Opened p w.0 ∷ bs) st.2 a in
    at c (p + 1 + size body + 1 + size rest) (p + (1 + (size body + (1 + size rest)))) bs (omega arith) (through c E rest l v (p + 1 + size body + 1) x bs st.3 ne.3 le d)
through c E (Loop body rest) l v p x bs st ne le o =
    let w : opened (shapes_of c) (p + 1) ≡ Some (Looping p ∷ bs) = opened_after c p (i.While (p + 1 + size body + 1)) bs st.0 o in
    let a = through c E body InLoop false (p + 1) x (Looping p ∷ bs) st.1 ne.2 (in_loop_level p bs l ne.0 le) w in
    let d : opened (shapes_of c) (p + 1 + size body + 1) ≡ Some bs = opened_after c (p + 1 + size body) (i.Again p) (Looping p ∷ bs) st.2 a in
    at c (p + 1 + size body + 1 + size rest) (p + (1 + (size body + (1 + size rest)))) bs (omega arith) (through c E rest l v (p + 1 + size body + 1) x bs st.3 ne.3 le d)
