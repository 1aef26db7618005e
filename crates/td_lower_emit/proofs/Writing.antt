-- Code that is written behind code. Cited by other crates.
use Rattle.std.proofs.Common.{◌≡◌, ℕ, ◌+◌, ◌<◌, ◌≤◌, List, [], ◌∷◌, ◌++◌, Bool, false, length, slice_set, refl, sym, ap, ◌∙◌, arith, append_assoc, append-nil, length-append, take}
use Rattle.td_ir.specs.declared.instructions.Instr.{Instr}
use Rattle.td_ir.specs.declared.instructions.Instr.TheVariants as i
use Rattle.td_lower_blocks.specs.Block.{Block, Done, Then, Stop, Leave, Guard, Scope, Window, Loop, size, guard, code}
use Rattle.td_lower_emit.specs.Emission.{laid, Writes, Finishes}
use Rattle.td_lower_blocks.proofs.Laying.{code_size}

at : (p q x : ℕ) (k : Block) → p ≡ q → code p x k ≡ code q x k
at p q x k e = ap (λ n. code n x k) e

-- one instruction
pub laid_then : (xs : List Instr) (j : Instr) (x : ℕ) (k : Block) → laid (xs ++ j ∷ []) x k ≡ laid xs x (Then j k)
unfolding laid
laid_then xs j x k =
    append_assoc xs (j ∷ []) (code (length (xs ++ j ∷ [])) x k)
    ∙ ap (λ y. xs ++ (j ∷ y)) (at (length (xs ++ j ∷ [])) (length xs + 1) x k (length-append xs (j ∷ [])))

-- the last instruction
pub laid_stop : (xs : List Instr) (j : Instr) (x : ℕ) → laid (xs ++ j ∷ []) x Done ≡ laid xs x (Stop j)
unfolding laid
laid_stop xs j x = append-nil (xs ++ j ∷ [])

pub laid_leave : (xs : List Instr) (x : ℕ) → laid (xs ++ i.Jump x ∷ []) x Done ≡ laid xs x Leave
unfolding laid
laid_leave xs x = append-nil (xs ++ i.Jump x ∷ [])

-- one part, and then another
pub both_written : (a b c : List Instr) (f g : Block → Block) → Writes a b f → Writes b c g → Writes a c (λ k. f (g k))
both_written a b c f g h h' = λ x k. h' x k ∙ h x (g k)

set_middle : (xs zs : List Instr) (y v : Instr) → slice_set (xs ++ y ∷ zs) (length xs) v ≡ xs ++ v ∷ zs
set_middle [] zs y v = refl
set_middle (x ∷ xs) zs y v = ap (λ r. x ∷ r) (set_middle xs zs y v)

-- what was written behind code is a block's code
pub written : (a b : List Instr) (x : ℕ) (m : Block) → laid b x Done ≡ laid a x m → b ≡ a ++ code (length a) x m
unfolding laid
written a b x m h = sym (append-nil b) ∙ h

-- a jump over a block, whose target was set behind it
pub guard_written : (a b c d : List Instr) (g : Bool) (r x : ℕ) (j : Instr) (one k : Block)
    → b ≡ a ++ j ∷ [] → laid c x Done ≡ laid b x one → d ≡ slice_set c (length a) (guard g r (length c)) → laid d x k ≡ laid a x (Guard g r one k)
unfolding laid
guard_written a b c d g r x j one k e h s =
    let p = length a in
    let lb : length b ≡ p + 1 = ap length e ∙ length-append a (j ∷ []) in
    let c1 : c ≡ b ++ code (length b) x one = written b c x one h in
    let c2 : c ≡ a ++ (j ∷ code (p + 1) x one) =
    c1 ∙ (ap (λ y. y ++ code (length b) x one) e ∙ (append_assoc a (j ∷ []) (code (length b) x one) ∙ ap (λ y. a ++ (j ∷ y)) (at (length b) (p + 1) x one lb))) in
    let lc : length c ≡ p + 1 + size one = (let y = ap length c2 in let z = length-append a (j ∷ code (p + 1) x one) in let w = code_size (p + 1) x one in omega (arith, y, z, w)) in
    let d1 : d ≡ a ++ (guard g r (p + 1 + size one) ∷ code (p + 1) x one) =
    s ∙ (ap (λ y. slice_set y p (guard g r (length c))) c2 ∙ (set_middle a (code (p + 1) x one) j (guard g r (length c)) ∙ ap (λ n. a ++ (guard g r n ∷ code (p + 1) x one)) lc)) in
    let ld : length d ≡ p + 1 + size one = (let y = ap length d1 in let z = length-append a (guard g r (p + 1 + size one) ∷ code (p + 1) x one) in let w = code_size (p + 1) x one in omega (arith, y, z, w)) in
    ap (λ y. y ++ code (length d) x k) d1
    ∙ (append_assoc a (guard g r (p + 1 + size one) ∷ code (p + 1) x one) (code (length d) x k)
    ∙ ap (λ y. a ++ (guard g r (p + 1 + size one) ∷ (code (p + 1) x one ++ y))) (at (length d) (p + 1 + size one) x k ld))

-- two ways, of which the first leaves over the second
pub choice_written : (a b c d e f g : List Instr) (t x : ℕ) (j l : Instr) (f1 f2 : Block → Block) (k : Block)
    → b ≡ a ++ j ∷ [] → Writes b c f1 → d ≡ c ++ l ∷ [] → e ≡ slice_set d (length a) (guard false t (length d)) → Writes e f f2 → g ≡ slice_set f (length c) (i.Jump (length f))
    → laid g x k ≡ laid a x (Scope (Guard false t (f1 Leave) (f2 Done)) k)
unfolding laid
choice_written a b c d e f g t x j l f1 f2 k h1 w1 h2 h3 w2 h4 =
    let p = length a in
    let n = length f in
    let one = f1 Leave in
    let other = f2 Done in
    let lb : length b ≡ p + 1 = ap length h1 ∙ length-append a (j ∷ []) in
    -- the first way with its jump
    let way : c ++ (i.Jump n ∷ []) ≡ b ++ code (length b) n one = w1 n Leave in
    let c0 : c ≡ b ++ code (length b) n (f1 Done) = written b c n (f1 Done) (w1 n Done) in
    let ld : length d ≡ length c + 1 = ap length h2 ∙ length-append c (l ∷ []) in
    let lw : length c + 1 ≡ length b + size one = (let y = ap length way in let z = length-append c (i.Jump n ∷ []) in let u = length-append b (code (length b) n one) in let v = code_size (length b) n one in omega (arith, y, z, u, v)) in
    let q : length d ≡ p + 1 + size one = omega (arith, ld, lw, lb) in
    let m1 : c ≡ a ++ (j ∷ code (length b) n (f1 Done)) = c0 ∙ (ap (λ y. y ++ code (length b) n (f1 Done)) h1 ∙ append_assoc a (j ∷ []) (code (length b) n (f1 Done))) in
    let e1 : e ≡ (a ++ (guard false t (length d) ∷ code (length b) n (f1 Done))) ++ (l ∷ []) =
    h3 ∙ (ap (λ y. slice_set y p (guard false t (length d))) (h2 ∙ (ap (λ y. y ++ (l ∷ [])) m1 ∙ append_assoc a (j ∷ code (length b) n (f1 Done)) (l ∷ [])))
    ∙ (set_middle a (code (length b) n (f1 Done) ++ (l ∷ [])) j (guard false t (length d)) ∙ sym (append_assoc a (guard false t (length d) ∷ code (length b) n (f1 Done)) (l ∷ [])))) in
    let front : List Instr = a ++ (guard false t (length d) ∷ code (length b) n (f1 Done)) in
    let lf : length front ≡ length c = length-append a (guard false t (length d) ∷ code (length b) n (f1 Done)) ∙ sym (ap length m1 ∙ length-append a (j ∷ code (length b) n (f1 Done))) in
    let le : length e ≡ length d = (let y = ap length e1 in let z = length-append front (l ∷ []) in omega (arith, y, z, lf, ld)) in
    let f0 : f ≡ e ++ code (length e) n other = written e f n other (w2 n Done) in
    let f3 : f ≡ front ++ (l ∷ code (length e) n other) = f0 ∙ (ap (λ y. y ++ code (length e) n other) e1 ∙ append_assoc front (l ∷ []) (code (length e) n other)) in
    let whole : n ≡ p + (1 + (size one + size other)) = (let y = ap length f0 in let z = length-append e (code (length e) n other) in let w = code_size (length e) n other in omega (arith, y, z, w, le, q)) in
    let g1 : g ≡ front ++ (i.Jump n ∷ code (length e) n other) =
    h4 ∙ (ap (λ y. slice_set y (length c) (i.Jump n)) f3 ∙ (ap (λ y. slice_set (front ++ (l ∷ code (length e) n other)) y (i.Jump n)) (sym lf) ∙ set_middle front (code (length e) n other) l (i.Jump n))) in
    let tail : code (length b) n (f1 Done) ++ (i.Jump n ∷ []) ≡ code (length b) n one = tails b (code (length b) n (f1 Done) ++ (i.Jump n ∷ [])) (code (length b) n one)
    (sym (append_assoc b (code (length b) n (f1 Done)) (i.Jump n ∷ [])) ∙ (ap (λ y. y ++ (i.Jump n ∷ [])) (sym c0) ∙ way)) in
    let g2 : g ≡ a ++ (guard false t (p + 1 + size one) ∷ (code (p + 1) n one ++ code (p + 1 + size one) n other)) =
    g1
    ∙ (append_assoc a (guard false t (length d) ∷ code (length b) n (f1 Done)) (i.Jump n ∷ code (length e) n other)
    ∙ (ap (λ y. a ++ (guard false t (length d) ∷ y)) (sym (append_assoc (code (length b) n (f1 Done)) (i.Jump n ∷ []) (code (length e) n other)) ∙ ap (λ y. y ++ code (length e) n other) tail)
    ∙ (ap (λ y. a ++ (guard false t y ∷ (code (length b) n one ++ code (length e) n other))) q
    ∙ (ap (λ y. a ++ (guard false t (p + 1 + size one) ∷ (y ++ code (length e) n other))) (at (length b) (p + 1) n one lb)
    ∙ ap (λ y. a ++ (guard false t (p + 1 + size one) ∷ (code (p + 1) n one ++ y))) (at (length e) (p + 1 + size one) n other (le ∙ q)))))) in
    let body : Block = Guard false t one other in
    let end : n ≡ p + size body = whole in
    let lg : length g ≡ p + size body = (let y = ap length g2 in let z = length-append a (code p n body) in let w = code_size p n body in omega (arith, y, z, w)) in
    ap (λ y. y ++ code (length g) x k) g2
    ∙ (append_assoc a (code p n body) (code (length g) x k)
    ∙ (ap (λ y. a ++ (code p y body ++ code (length g) x k)) end
    ∙ ap (λ y. a ++ (code p (p + size body) body ++ y)) (at (length g) (p + size body) x k lg)))
  where
    tails : (a b c : List Instr) → a ++ b ≡ a ++ c → b ≡ c
    tails [] b c h = h
    tails (y ∷ ys) b c h = tails ys b c (tail_of (y ∷ (ys ++ b)) (y ∷ (ys ++ c)) h)
      where
        rest : List Instr → List Instr
        rest [] = []
        rest (z ∷ zs) = zs

        tail_of : (u v : List Instr) → u ≡ v → rest u ≡ rest v
        tail_of u v e = ap rest e

-- what is written makes code no shorter
pub grown : (a b : List Instr) (f : Block → Block) → Writes a b f → length a ≤ length b
grown a b f h = let e = written a b 0 (f Done) (h 0 Done) in let y = ap length e in let z = length-append a (code (length a) 0 (f Done)) in omega (arith, y, z)

pub grown_to : (x : ℕ) (a b : List Instr) (m : Block) → Finishes x a b m → length b ≡ length a + size m
grown_to x a b m h = let e = written a b x m h in let y = ap length e in let z = length-append a (code (length a) x m) in let w = code_size (length a) x m in omega (arith, y, z, w)

front_of : (a b : List Instr) → take (length a) (a ++ b) ≡ a
front_of [] b = refl
front_of (y ∷ ys) b = ap (λ r. y ∷ r) (front_of ys b)

-- what is taken back is as if it had never been written
pub taken_back : (x : ℕ) (a b : List Instr) (m : Block) → Finishes x a b m → take (length a) b ≡ a
taken_back x a b m h = ap (take (length a)) (written a b x m h) ∙ front_of a (code (length a) x m)

-- a scope whose end is known
pub scope_written : (y x : ℕ) (a b d : List Instr) (m k : Block) → Finishes y a b m → Finishes (length b) a d m → laid d x k ≡ laid a x (Scope m k)
unfolding laid
scope_written y x a b d m k h h' =
    let end = grown_to y a b m h in
    let d0 : d ≡ a ++ code (length a) (length b) m = written a d (length b) m h' in
    let ld = grown_to (length b) a d m h' in
    ap (λ z. z ++ code (length d) x k) d0
    ∙ (append_assoc a (code (length a) (length b) m) (code (length d) x k)
    ∙ (ap (λ z. a ++ (code (length a) z m ++ code (length d) x k)) end
    ∙ ap (λ z. a ++ (code (length a) (length a + size m) m ++ z)) (at (length d) (length a + size m) x k ld)))

-- a window
pub window_written : (a b c d : List Instr) (j : Instr) (site x : ℕ) (body k : Block) → b ≡ a ++ j ∷ [] → Finishes x b c body → d ≡ c ++ i.Widen site ∷ [] → laid d x k ≡ laid a x (Window j site body k)
unfolding laid
window_written a b c d j site x body k h w h' =
    let p = length a in
    let lb : length b ≡ p + 1 = ap length h ∙ length-append a (j ∷ []) in
    let c0 : c ≡ b ++ code (length b) x body = written b c x body w in
    let c1 : c ≡ a ++ (j ∷ code (p + 1) x body) = c0 ∙ (ap (λ y. y ++ code (length b) x body) h ∙ (append_assoc a (j ∷ []) (code (length b) x body) ∙ ap (λ y. a ++ (j ∷ y)) (at (length b) (p + 1) x body lb))) in
    let lc = grown_to x b c body w in
    let ld : length d ≡ p + 1 + size body + 1 = (let y = ap length h' in let z = length-append c (i.Widen site ∷ []) in omega (arith, y, z, lc, lb)) in
    ap (λ y. y ++ code (length d) x k) (h' ∙ ap (λ y. y ++ (i.Widen site ∷ [])) c1)
    ∙ (append_assoc (a ++ (j ∷ code (p + 1) x body)) (i.Widen site ∷ []) (code (length d) x k)
    ∙ (append_assoc a (j ∷ code (p + 1) x body) (i.Widen site ∷ code (length d) x k)
    ∙ ap (λ y. a ++ (j ∷ (code (p + 1) x body ++ (i.Widen site ∷ y)))) (at (length d) (p + 1 + size body + 1) x k ld)))

-- a loop, whose way out was set behind it
pub loop_written : (a b c d e : List Instr) (j : Instr) (x : ℕ) (body k : Block)
    → b ≡ a ++ j ∷ [] → Finishes x b c body → d ≡ c ++ i.Again (length a) ∷ [] → e ≡ slice_set d (length a) (i.While (length d)) → laid e x k ≡ laid a x (Loop body k)
unfolding laid
loop_written a b c d e j x body k h w h' s =
    let p = length a in
    let lb : length b ≡ p + 1 = ap length h ∙ length-append a (j ∷ []) in
    let c0 : c ≡ b ++ code (length b) x body = written b c x body w in
    let c1 : c ≡ a ++ (j ∷ code (p + 1) x body) = c0 ∙ (ap (λ y. y ++ code (length b) x body) h ∙ (append_assoc a (j ∷ []) (code (length b) x body) ∙ ap (λ y. a ++ (j ∷ y)) (at (length b) (p + 1) x body lb))) in
    let lc = grown_to x b c body w in
    let ld : length d ≡ p + 1 + size body + 1 = (let y = ap length h' in let z = length-append c (i.Again p ∷ []) in omega (arith, y, z, lc, lb)) in
    let d1 : d ≡ a ++ (j ∷ (code (p + 1) x body ++ (i.Again p ∷ []))) = h' ∙ (ap (λ y. y ++ (i.Again p ∷ [])) c1 ∙ append_assoc a (j ∷ code (p + 1) x body) (i.Again p ∷ [])) in
    let e1 : e ≡ a ++ (i.While (length d) ∷ (code (p + 1) x body ++ (i.Again p ∷ []))) =
    s ∙ (ap (λ y. slice_set y p (i.While (length d))) d1 ∙ set_middle a (code (p + 1) x body ++ (i.Again p ∷ [])) j (i.While (length d))) in
    let le : length e ≡ length d = (let y = ap length e1 in let z = length-append a (i.While (length d) ∷ (code (p + 1) x body ++ (i.Again p ∷ []))) in let u = ap length d1 in let v = length-append a (j ∷ (code (p + 1) x body ++ (i.Again p ∷ []))) in omega (arith, y, z, u, v)) in
    ap (λ y. y ++ code (length e) x k) e1
    ∙ (append_assoc a (i.While (length d) ∷ (code (p + 1) x body ++ (i.Again p ∷ []))) (code (length e) x k)
    ∙ (ap (λ y. a ++ (i.While (length d) ∷ y)) (append_assoc (code (p + 1) x body) (i.Again p ∷ []) (code (length e) x k))
    ∙ (ap (λ y. a ++ (i.While y ∷ (code (p + 1) x body ++ (i.Again p ∷ code (length e) x k)))) ld
    ∙ ap (λ y. a ++ (i.While (p + 1 + size body + 1) ∷ (code (p + 1) x body ++ (i.Again p ∷ y)))) (at (length e) (p + 1 + size body + 1) x k (le ∙ ld)))))

-- one instruction, written
pub one_written : (a b : List Instr) (j : Instr) (x : ℕ) (k : Block) → b ≡ a ++ j ∷ [] → laid b x k ≡ laid a x (Then j k)
one_written a b j x k e = ap (λ z. laid z x k) e ∙ laid_then a j x k

pub stop_written : (a b : List Instr) (j : Instr) (x : ℕ) → b ≡ a ++ j ∷ [] → laid b x Done ≡ laid a x (Stop j)
stop_written a b j x e = ap (λ z. laid z x Done) e ∙ laid_stop a j x

-- a place where something was written stands in what was written behind it
pub stands_in : (a b c : List Instr) (place : ℕ) (j : Instr) → place ≡ length a → b ≡ a ++ j ∷ [] → length b ≤ length c → place < length c
stands_in a b c place j h e l = let x = ap length e in let y = length-append a (j ∷ []) in omega (arith, h, l, x, y)

pub longer : (x : ℕ) (a b : List Instr) (m : Block) → Finishes x a b m → length a ≤ length b
longer x a b m h = let e = grown_to x a b m h in omega (arith, e)
