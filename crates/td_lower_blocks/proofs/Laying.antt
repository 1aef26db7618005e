-- Blocks laid out stand. Cited by other crates.
use Rattle.std.proofs.Common.{◌≡◌, ℕ, suc, ◌+◌, List, [], ◌∷◌, ◌++◌, length, slice_index_or, refl, sym, ap, subst, ◌∙◌, arith, append_assoc, length-append}
use Rattle.td_lower_blocks.specs.Imports.{Parts, Instr}
use Rattle.td_ir.specs.declared.instructions.Instr.TheVariants as i
use Rattle.td_ir.specs.Tables.{instruction_of}
use Rattle.td_lower_blocks.specs.Block.{Block, Done, Then, Stop, Leave, Guard, Scope, Window, Loop, size, code, Stands, LayingOut}

-- these instructions stand in code from p on
abbrev HasAt : Parts → ℕ → List Instr → Type 0
HasAt c p [] = Unit {0}
HasAt c p (x ∷ xs) = (instruction_of c p ≡ x) × HasAt c (p + 1) xs

pub code_size : (p x : ℕ) (b : Block) → length (code p x b) ≡ size b
code_size p x Done = refl
code_size p x (Then j b) = let h = code_size (p + 1) x b in omega (arith, h)
code_size p x (Stop j) = refl
code_size p x Leave = refl
code_size p x (Guard g r one rest) =
    let h = code_size (p + 1) x one in
    let k = code_size (p + 1 + size one) x rest in
    let a = length-append (code (p + 1) x one) (code (p + 1 + size one) x rest) in
    omega (arith, h, k, a)
code_size p x (Scope body rest) =
    let h = code_size p (p + size body) body in
    let k = code_size (p + size body) x rest in
    let a = length-append (code p (p + size body) body) (code (p + size body) x rest) in
    omega (arith, h, k, a)
code_size p x (Window j site body rest) =
    let h = code_size (p + 1) x body in
    let k = code_size (p + 1 + size body + 1) x rest in
    let a = length-append (code (p + 1) x body) (i.Widen site ∷ code (p + 1 + size body + 1) x rest) in
    omega (arith, h, k, a)
code_size p x (Loop body rest) =
    let h = code_size (p + 1) x body in
    let k = code_size (p + 1 + size body + 1) x rest in
    let a = length-append (code (p + 1) x body) (i.Again p ∷ code (p + 1 + size body + 1) x rest) in
    omega (arith, h, k, a)

parts : (c : Parts) (p : ℕ) (xs ys : List Instr) → HasAt c p (xs ++ ys) → HasAt c p xs × HasAt c (p + length xs) ys
parts c p [] ys h = (tt, (let e : p ≡ p + 0 = omega arith in subst (λ q. HasAt c q ys) e h))
parts c p (x ∷ xs) ys h =
    let k = parts c (p + 1) xs ys h.1 in
    let e : p + 1 + length xs ≡ p + suc (length xs) = omega arith in
    ((h.0, k.0), subst (λ q. HasAt c q ys) e k.1)

pub stands : (c : Parts) (p x : ℕ) (b : Block) → HasAt c p (code p x b) → Stands c p x b
stands c p x Done h = tt
stands c p x (Then j b) h = (h.0, stands c (p + 1) x b h.1)
stands c p x (Stop j) h = h.0
stands c p x Leave h = h.0
stands c p x (Guard g r one rest) h =
    let k = parts c (p + 1) (code (p + 1) x one) (code (p + 1 + size one) x rest) h.1 in
    (h.0, stands c (p + 1) x one k.0, stands c (p + 1 + size one) x rest (subst (λ n. HasAt c (p + 1 + n) (code (p + 1 + size one) x rest)) (code_size (p + 1) x one) k.1))
stands c p x (Scope body rest) h =
    let k = parts c p (code p (p + size body) body) (code (p + size body) x rest) h in
    (stands c p (p + size body) body k.0, stands c (p + size body) x rest (subst (λ n. HasAt c (p + n) (code (p + size body) x rest)) (code_size p (p + size body) body) k.1))
stands c p x (Window j site body rest) h =
    let k = parts c (p + 1) (code (p + 1) x body) (i.Widen site ∷ code (p + 1 + size body + 1) x rest) h.1 in
    let r = subst (λ n. HasAt c (p + 1 + n) (i.Widen site ∷ code (p + 1 + size body + 1) x rest)) (code_size (p + 1) x body) k.1 in
    (h.0, stands c (p + 1) x body k.0, r.0, stands c (p + 1 + size body + 1) x rest r.1)
stands c p x (Loop body rest) h =
    let k = parts c (p + 1) (code (p + 1) x body) (i.Again p ∷ code (p + 1 + size body + 1) x rest) h.1 in
    let r = subst (λ n. HasAt c (p + 1 + n) (i.Again p ∷ code (p + 1 + size body + 1) x rest)) (code_size (p + 1) x body) k.1 in
    (h.0, stands c (p + 1) x body k.0, r.0, stands c (p + 1 + size body + 1) x rest r.1)

first_behind : (xs ys : List Instr) (y d : Instr) → slice_index_or (xs ++ y ∷ ys) (length xs) d ≡ y
first_behind [] ys y d = refl
first_behind (x ∷ xs) ys y d = first_behind xs ys y d

has_at : (c : Parts) (before xs after : List Instr) → c.instructions ≡ before ++ (xs ++ after) → HasAt c (length before) xs
has_at c before [] after h = tt
has_at c before (x ∷ xs) after h = (
  (ap (λ l. slice_index_or l (length before) (i.Fail 0 0)) h ∙ first_behind before (xs ++ after) x (i.Fail 0 0)),
  subst (λ n. HasAt c n xs) (length-append before (x ∷ []))
      (has_at c (before ++ x ∷ []) xs after (h ∙ sym (append_assoc before (x ∷ []) (xs ++ after)))),
)

pub laying_out : LayingOut
laying_out c b x before after h = stands c (length before) x b (has_at c before (code (length before) x b) after h)
