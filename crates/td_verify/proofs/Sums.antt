-- Weights and depths, one instruction on. Cited by other crates.
use Rattle.std.proofs.Common.{◌≡◌, ℕ, zero, suc, ◌+◌, ◌-◌, ◌*◌, ◌^◌, ◌≤◌, max, List, [], ◌∷◌, Bool, true, false, cond, map, Option, refl, sym, ap, subst, ◌∙◌, arith, slice_index, slice_index_or}
use Rattle.td_verify.specs.Shape.{shape, shapes_of}
use Rattle.td_ir.specs.Tables.{instruction_of}
use Rattle.td_verify.specs.Brackets.{shape_at, opened}
use Rattle.td_verify.specs.Rules.{cost, own_weight, counts_twice, weigh, deepest, calls_deep, CallsWell}
use Rattle.td_verify.specs.declared.shape.Shape.{Shape}
use Rattle.td_verify.specs.declared.shape.Shape.TheVariants.{Straight, Jump, Branch, Call, Return, Fail, While, Again, Open, Close}
use Rattle.td_ir.specs.declared.instructions.Instr.{Instr}
use Rattle.td_ir.specs.declared.instructions.Instr.TheVariants as i
use Rattle.td_ir.specs.declared.tables.Parts.{Parts}
use Rattle.td_verify.specs.declared.bracket.Bracket.{Bracket}

pub mapped : (xs : List Instr) (p : ℕ) (d : Instr) → slice_index_or (map shape xs) p (shape d) ≡ shape (slice_index_or xs p d)
mapped [] p d = refl
mapped (x ∷ xs) zero d = refl
mapped (x ∷ xs) (suc p) d = mapped xs p d

pub shape_there : (c : Parts) (p : ℕ) → shape_at (shapes_of c) p ≡ shape (instruction_of c p)
shape_there c p = mapped c.instructions p (i.Fail 0 0)

own_small : (ws : List ℕ) → ((m : ℕ) → slice_index ws m ≤ 2 ^ 40) → (j : Instr) → own_weight ws (shape j) ≤ 1 + 2 ^ 40
own_small ws h (i.Const a k) = omega arith
own_small ws h (i.Member a b t) = omega arith
own_small ws h (i.Op a x b c) = omega arith
own_small ws h (i.Bits a b x c) = omega arith
own_small ws h (i.Pos a) = omega arith
own_small ws h (i.Jump t) = omega arith
own_small ws h (i.JumpIf b t) = omega arith
own_small ws h (i.JumpUnless b t) = omega arith
own_small ws h (i.Call a t k site) = omega (arith, h t)
own_small ws h i.Return = omega arith
own_small ws h (i.Fetch a x c site) = omega arith
own_small ws h (i.SkipK k site) = omega arith
own_small ws h (i.Skip b site) = omega arith
own_small ws h i.Rest = omega arith
own_small ws h (i.Zeros site) = omega arith
own_small ws h (i.Zeroterm b c site) = omega arith
own_small ws h (i.NarrowK k site) = omega arith
own_small ws h (i.Narrow b site) = omega arith
own_small ws h (i.Divides b k site) = omega arith
own_small ws h (i.While t) = omega arith
own_small ws h (i.Again t) = omega arith
own_small ws h (i.Widen site) = omega arith
own_small ws h (i.Fail x site) = omega arith
own_small ws h (i.Get a c) = omega arith
own_small ws h (i.Set b c) = omega arith
own_small ws h i.Mark = omega arith
own_small ws h (i.Copy b c site) = omega arith
own_small ws h (i.Left a) = omega arith

pub own_small_there : (c : Parts) (ws : List ℕ) (p : ℕ) → ((m : ℕ) → slice_index ws m ≤ 2 ^ 40) → own_weight ws (shape_at (shapes_of c) p) ≤ 1 + 2 ^ 40
own_small_there c ws p h = subst (λ x. own_weight ws x ≤ 1 + 2 ^ 40) (sym (shape_there c p)) (own_small ws h (instruction_of c p))

twice_small : (b : Bool) (x y : ℕ) → x ≤ y → cond b (2 * x) x ≤ 2 * y
twice_small true x y h = omega arith
twice_small false x y h = omega arith

pub cost_small : (ws : List ℕ) (o : Option (List Bracket)) (j : Shape) → own_weight ws j ≤ 1 + 2 ^ 40 → cost ws o j ≤ 2 * (1 + 2 ^ 40)
cost_small ws o j h = twice_small (counts_twice o j) (own_weight ws j) (1 + 2 ^ 40) h

pub weigh_next : (s : List Shape) (ws : List ℕ) (from at : ℕ) → from ≤ at → weigh s ws from (at + 1 - from) ≡ weigh s ws from (at - from) + cost ws (opened s at) (shape_at s at)
weigh_next s ws from at h =
    let one : at + 1 - from ≡ suc (at - from) = omega arith in
    let there : from + (at - from) ≡ at = omega arith in
    ap (weigh s ws from) one ∙ ap (λ q. weigh s ws from (at - from) + cost ws (opened s q) (shape_at s q)) there

pub deepest_next : (s : List Shape) (ds : List ℕ) (from at : ℕ) → from ≤ at → deepest s ds from (at + 1 - from) ≡ max (deepest s ds from (at - from)) (calls_deep ds (shape_at s at))
deepest_next s ds from at h =
    let one : at + 1 - from ≡ suc (at - from) = omega arith in
    let there : from + (at - from) ≡ at = omega arith in
    ap (deepest s ds from) one ∙ ap (λ q. max (deepest s ds from (at - from)) (calls_deep ds (shape_at s q))) there

pub calls_shallow : (ds : List ℕ) (n : ℕ) (j : Shape) → CallsWell ds n j → calls_deep ds j ≤ 31
calls_shallow ds n (Call m) h = omega (arith, h.1)
calls_shallow ds n (Straight b w) h = omega arith
calls_shallow ds n (Jump t) h = omega arith
calls_shallow ds n (Branch t) h = omega arith
calls_shallow ds n Return h = omega arith
calls_shallow ds n Fail h = omega arith
calls_shallow ds n (While t) h = omega arith
calls_shallow ds n (Again t) h = omega arith
calls_shallow ds n (Open k) h = omega arith
calls_shallow ds n Close h = omega arith
