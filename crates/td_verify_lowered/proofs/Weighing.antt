-- What blocks weigh by the verifier's sum.
use Rattle.std.proofs.Common.{◌≡◌, ℕ, zero, suc, ◌+◌, ◌-◌, ◌*◌, ◌<◌, ◌≤◌, List, [], ◌∷◌, ◌++◌, Option, Some, Bool, true, false, cond, length, slice_index, refl, sym, ap, subst, ◌∙◌, arith}
use Rattle.td_verify_lowered.specs.Imports.{Parts, Instr, Shape, Bracket, Window as Opened, Loop as Looping}
use Rattle.td_ir.specs.declared.instructions.Instr.TheVariants as i
use Rattle.td_verify.specs.declared.shape.Shape.TheVariants as s
use Rattle.td_verify.specs.Shape.{shape}
use Rattle.td_ir.specs.Tables.{instruction_of}
use Rattle.td_verify.specs.Shape.{shapes_of}
use Rattle.td_verify.specs.Brackets.{shape_at, opened}
use Rattle.td_verify.specs.Rules.{own_weight, counts_twice, cost, weigh, deepest, calls_deep}
use Rattle.td_verify.specs.Brackets.{in_loop}
use Rattle.td_lower_blocks.specs.Block.{Block, Done, Then, Stop, Leave, Guard, Scope, Window, Loop, size, guard, Stands}
use Rattle.td_verify_lowered.specs.Nesting.{Level, Outside, InWindow, InLoop, IsPlain, IsStop, Nests, twice, weight, CallsBelow}
use Rattle.td_verify_lowered.proofs.Levels.{IsLevel, is_looping}
use Rattle.td_verify_lowered.proofs.Through.{through, shape_is, opened_after, opened_plain, opened_guard, opened_window, in_window_level, in_loop_level}
use Rattle.td_verify.proofs.Sums.{weigh_next}

loop_is : (l : Level) (bs : List Bracket) → IsLevel l bs → in_loop (Some bs) ≡ is_looping l
loop_is Outside [] h = refl
loop_is Outside (b ∷ bs) h = absurd h
loop_is InWindow [] h = absurd h
loop_is InWindow (Opened o k ∷ []) h = refl
loop_is InWindow (Opened o k ∷ b ∷ bs) h = absurd h
loop_is InWindow (Looping l ∷ bs) h = absurd h
loop_is InLoop [] h = absurd h
loop_is InLoop (Opened o k ∷ bs) h = absurd h
loop_is InLoop (Looping l ∷ bs) h = refl

plain_counts : (o : Option (List Bracket)) (j : Shape) → IsPlain j → counts_twice o j ≡ in_loop o
plain_counts o (s.Straight b w) h = refl
plain_counts o (s.Call m) h = refl
plain_counts o (s.Jump t) h = absurd h
plain_counts o (s.Branch t) h = absurd h
plain_counts o s.Return h = absurd h
plain_counts o s.Fail h = absurd h
plain_counts o (s.While t) h = absurd h
plain_counts o (s.Again t) h = absurd h
plain_counts o (s.Open k) h = absurd h
plain_counts o s.Close h = absurd h

stop_counts : (o : Option (List Bracket)) (l : Level) (j : Shape) → IsStop l j → counts_twice o j ≡ in_loop o
stop_counts o l s.Return h = refl
stop_counts o l s.Fail h = refl
stop_counts o l (s.Straight b w) h = absurd h
stop_counts o l (s.Call m) h = absurd h
stop_counts o l (s.Jump t) h = absurd h
stop_counts o l (s.Branch t) h = absurd h
stop_counts o l (s.While t) h = absurd h
stop_counts o l (s.Again t) h = absurd h
stop_counts o l (s.Open k) h = absurd h
stop_counts o l s.Close h = absurd h

-- the weight before a place
abbrev pub w_at : Parts → List ℕ → ℕ → ℕ → ℕ
w_at c ws from p = weigh (shapes_of c) ws from (p - from)

step : (c : Parts) (ws : List ℕ) (from p : ℕ) (j : Instr) (bs : List Bracket) (l : Level) → from ≤ p → instruction_of c p ≡ j → opened (shapes_of c) p ≡ Some bs → IsLevel l bs → counts_twice (Some bs) (shape j) ≡ in_loop (Some bs) → w_at c ws from (p + 1) ≡ w_at c ws from p + twice (is_looping l) (own_weight ws (shape j))
step c ws from p j bs l f e o le k =
    weigh_next (shapes_of c) ws from p f ∙ ap (λ x. w_at c ws from p + x)
    ((ap (λ x. cost ws x (shape_at (shapes_of c) p)) o ∙ ap (cost ws (Some bs)) (shape_is c p j e)) ∙ ap (λ x. cond x (2 * own_weight ws (shape j)) (own_weight ws (shape j))) (k ∙ loop_is l bs le))

turn : (c : Parts) (ws : List ℕ) (from p : ℕ) (j : Instr) → from ≤ p → instruction_of c p ≡ j → ((o : Option (List Bracket)) → cost ws o (shape j) ≡ 3) → w_at c ws from (p + 1) ≡ w_at c ws from p + 3
turn c ws from p j f e k = weigh_next (shapes_of c) ws from p f ∙ ap (λ x. w_at c ws from p + x) (ap (cost ws (opened (shapes_of c) p)) (shape_is c p j e) ∙ k (opened (shapes_of c) p))

guard_step : (c : Parts) (ws : List ℕ) (from p : ℕ) (g : Bool) (r t : ℕ) (bs : List Bracket) (l : Level) → from ≤ p → instruction_of c p ≡ guard g r t → opened (shapes_of c) p ≡ Some bs → IsLevel l bs → w_at c ws from (p + 1) ≡ w_at c ws from p + twice (is_looping l) 1
guard_step c ws from p true r t bs l f e o le = step c ws from p (i.JumpIf r t) bs l f e o le refl
guard_step c ws from p false r t bs l f e o le = step c ws from p (i.JumpUnless r t) bs l f e o le refl

open_step : (c : Parts) (ws : List ℕ) (from p : ℕ) (j : Instr) (bs : List Bracket) (l : Level) (k : ℕ) → shape j ≡ s.Open k → from ≤ p → instruction_of c p ≡ j → opened (shapes_of c) p ≡ Some bs → IsLevel l bs → w_at c ws from (p + 1) ≡ w_at c ws from p + twice (is_looping l) 1
open_step c ws from p j bs l k is f e o le =
    step c ws from p j bs l f e o le (ap (counts_twice (Some bs)) is ∙ ap (λ x. in_loop (Some bs)) is) ∙ ap (λ x. w_at c ws from p + twice (is_looping l) (own_weight ws x)) is

there : (c : Parts) (ws : List ℕ) (from p q : ℕ) → p ≡ q → w_at c ws from q ≡ w_at c ws from p
there c ws from p q e = ap (w_at c ws from) (sym e)

pub weighs : (c : Parts) (ws : List ℕ) (E : ℕ → Type 0) (from : ℕ) (b : Block) (l : Level) (v : Bool) (p x : ℕ) (bs : List Bracket) → from ≤ p → Stands c p x b → Nests E l v b → IsLevel l bs → opened (shapes_of c) p ≡ Some bs → w_at c ws from (p + size b) ≡ w_at c ws from p + weight ws (is_looping l) b
weighs c ws E from Done l v p x bs f st ne le o = let e = there c ws from p (p + 0) (omega arith) in omega (arith, e)
weighs c ws E from (Then j b) l v p x bs f st ne le o =
    let a = step c ws from p j bs l f st.0 o le (plain_counts (Some bs) (shape j) ne.0) in
    let d = weighs c ws E from b l v (p + 1) x bs (omega arith) st.1 ne.1 le (opened_plain c p j bs st.0 ne.0 o) in
    let e = there c ws from (p + 1 + size b) (p + (1 + size b)) (omega arith) in
    omega (arith, a, d, e)
weighs c ws E from (Stop j) l v p x bs f st ne le o = step c ws from p j bs l f st o le (stop_counts (Some bs) l (shape j) ne)
weighs c ws E from Leave l v p x bs f st ne le o = step c ws from p (i.Jump x) bs l f st o le refl
weighs c ws E from (Guard g r one rest) l v p x bs f st ne le o =
    let m = p + 1 + size one in
    let a = guard_step c ws from p g r m bs l f st.0 o le in
    let o' = opened_guard c p g r m bs st.0 o in
    let d = weighs c ws E from one l v (p + 1) x bs (omega arith) st.1 ne.0 le o' in
    let y = weighs c ws E from rest l v m x bs (omega arith) st.2 ne.1 le (through c E one l v (p + 1) x bs st.1 ne.0 le o') in
    let e = there c ws from (m + size rest) (p + (1 + (size one + size rest))) (omega arith) in
    omega (arith, a, d, y, e)
weighs c ws E from (Scope body rest) l v p x bs f st ne le o =
    let m = p + size body in
    let d = weighs c ws E from body l true p m bs f st.0 ne.0 le o in
    let y = weighs c ws E from rest l v m x bs (omega arith) st.1 ne.1 le (through c E body l true p m bs st.0 ne.0 le o) in
    let e = there c ws from (m + size rest) (p + (size body + size rest)) (omega arith) in
    omega (arith, d, y, e)
weighs c ws E from (Window j site body rest) l v p x bs f st ne le o =
    let m = p + 1 + size body in
    let w = opened_window c p j bs st.0 ne.1 o in
    let lw = in_window_level p w.0 bs l ne.0 le in
    let om = through c E body InWindow false (p + 1) x (Opened p w.0 ∷ bs) st.1 ne.2 lw w.1 in
    let od : opened (shapes_of c) (m + 1) ≡ Some bs = opened_after c m (i.Widen site) (Opened p w.0 ∷ bs) st.2 om in
    let a = open_step c ws from p j bs l w.0 w.2 f st.0 o le in
    let d = weighs c ws E from body InWindow false (p + 1) x (Opened p w.0 ∷ bs) (omega arith) st.1 ne.2 lw w.1 in
    let k = step c ws from m (i.Widen site) (Opened p w.0 ∷ bs) InWindow (omega arith) st.2 om lw refl in
    let y = weighs c ws E from rest l v (m + 1) x bs (omega arith) st.3 ne.3 le od in
    let e = there c ws from (m + 1 + size rest) (p + (1 + (size body + (1 + size rest)))) (omega arith) in
    let out : is_looping l ≡ false = ap is_looping ne.0 in
    let t : twice (is_looping l) 1 ≡ 1 = ap (λ z. twice z 1) out in
    let u : weight ws (is_looping l) body ≡ weight ws false body = ap (λ z. weight ws z body) out in
    omega (arith, a, d, k, y, e, t, u)
weighs c ws E from (Loop body rest) l v p x bs f st ne le o =
    let m = p + 1 + size body in
    let ow : opened (shapes_of c) (p + 1) ≡ Some (Looping p ∷ bs) = opened_after c p (i.While (m + 1)) bs st.0 o in
    let ll = in_loop_level p bs l ne.0 le in
    let om = through c E body InLoop false (p + 1) x (Looping p ∷ bs) st.1 ne.2 ll ow in
    let od : opened (shapes_of c) (m + 1) ≡ Some bs = opened_after c m (i.Again p) (Looping p ∷ bs) st.2 om in
    let a = turn c ws from p (i.While (m + 1)) f st.0 (λ z. refl) in
    let d = weighs c ws E from body InLoop false (p + 1) x (Looping p ∷ bs) (omega arith) st.1 ne.2 ll ow in
    let k = turn c ws from m (i.Again p) (omega arith) st.2 (λ z. refl) in
    let y = weighs c ws E from rest l v (m + 1) x bs (omega arith) st.3 ne.3 le od in
    let e = there c ws from (m + 1 + size rest) (p + (1 + (size body + (1 + size rest)))) (omega arith) in
    omega (arith, a, d, k, y, e)

-- depths
calls_less : (depth : ℕ → ℕ) (ds : List ℕ) (n : ℕ) (j : Shape) → 1 ≤ depth n → ((m : ℕ) → m < n → slice_index ds m ≤ depth m) → CallsBelow depth n j → calls_deep ds j + 1 ≤ depth n
calls_less depth ds n (s.Call m) some h k = let a = h m k.0 in let b = k.1 in omega (arith, a, b)
calls_less depth ds n (s.Straight b w) some h k = omega (arith, some)
calls_less depth ds n (s.Jump t) some h k = omega (arith, some)
calls_less depth ds n (s.Branch t) some h k = omega (arith, some)
calls_less depth ds n s.Return some h k = omega (arith, some)
calls_less depth ds n s.Fail some h k = omega (arith, some)
calls_less depth ds n (s.While t) some h k = omega (arith, some)
calls_less depth ds n (s.Again t) some h k = omega (arith, some)
calls_less depth ds n (s.Open k') some h k = omega (arith, some)
calls_less depth ds n s.Close some h k = omega (arith, some)

pub deepest_less : (S : List Shape) (depth : ℕ → ℕ) (ds : List ℕ) (n from : ℕ) → 1 ≤ depth n → ((m : ℕ) → m < n → slice_index ds m ≤ depth m) → (k : ℕ) → ((q : ℕ) → from ≤ q → q < from + k → CallsBelow depth n (shape_at S q)) → deepest S ds from k + 1 ≤ depth n
deepest_less S depth ds n from some h zero f = omega (arith, some)
deepest_less S depth ds n from some h (suc k) f =
    let a = deepest_less S depth ds n from some h k (λ q x y. f q x (omega arith)) in
    let b = calls_less depth ds n (shape_at S (from + k)) some h (f (from + k) (omega arith) (omega arith)) in
    omega (arith, a, b)

pub pushed_depth : (ds : List ℕ) (d m n : ℕ) (depth : ℕ → ℕ) → length ds ≡ n → ((k : ℕ) → k < n → slice_index ds k ≤ depth k) → d ≤ depth n → m < n + 1 → slice_index (ds ++ d ∷ []) m ≤ depth m
pushed_depth [] d zero n depth e h k l = (let z : n ≡ 0 = sym e in subst (λ x. d ≤ depth x) z k)
pushed_depth [] d (suc m) n depth e h k l = omega arith
pushed_depth (y ∷ ds) d zero n depth e h k l = h 0 (omega (arith, e))
pushed_depth (y ∷ ds) d (suc m) n depth e h k l =
    let z : suc (length ds) ≡ n = e in
    pushed_depth ds d m (length ds) (λ q. depth (suc q)) refl (λ q u. h (suc q) (omega (arith, z))) (subst (λ x. d ≤ depth x) (sym z) k) (omega (arith, z))
