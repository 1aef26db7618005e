-- The code of an expression puts its value into a register, and leaves those below.
use Rattle.std.proofs.Common.{◌≡◌, ℕ, ◌+◌, ◌<◌, ◌≤◌, Bool, true, false, cond, List, length, refl, sym, ap, ◌∙◌, subst, arith, nat_eq, slice_index, slice_set, bit_or}
use Rattle.std.proofs.lemmas.List.{get_or-set_same, get_or-set_other}
use Rattle.std.proofs.Math.ListN.{length-set}
use Rattle.td_ir.specs.declared.instructions.Instr.TheVariants as i
use Rattle.td_lower_blocks.specs.Block.{Block, Done, Then, Leave, Guard, Scope}
use Rattle.td_lower_blocks.specs.Constructs.{Expr, Lit, Slot, Binary, Not, Complement, ShiftLeft, Both, Either, Choice, Range, value}
use Rattle.td_lower_blocks.specs.Placed.{Reaches}
use Rattle.td_lower_means.specs.Imports.{Parts}
use Rattle.td_ir.specs.State.{State, reg}
use Rattle.td_lower_means.proofs.BlockRun.{Passage, Calling, ran}
use Rattle.td_ir.specs.Values.{operated}

-- slots are below t
abbrev pub Low : ℕ → Expr → Type 0
Low t (Lit n) = Unit {0}
Low t (Slot place) = place < t
Low t (Binary op a b) = Low t a × Low t b
Low t (Not a) = Low t a
Low t (Complement mask a) = Low t a
Low t (ShiftLeft mask a b) = Low t a × Low t b
Low t (Both a b) = Low t a × Low t b
Low t (Either a b) = Low t a × Low t b
Low t (Choice c a b) = Low t c × (Low t a × Low t b)
Low t (Range size offset access) = Low t size × (Low t offset × Low t access)

-- the number that the code gives
abbrev pub valued : Expr → List ℕ → ℕ
valued (Lit n) r = n
valued (Slot place) r = bit_or (slice_index r place) (slice_index r place)
valued (Binary op a b) r = operated op (valued a r) (valued b r)
valued (Not a) r = operated 10 (valued a r) 0
valued (Complement mask a) r = operated 7 (valued a r) mask
valued (ShiftLeft mask a b) r = operated 5 (operated 8 (valued a r) (valued b r)) mask
valued (Both a b) r = cond (nat_eq (valued a r) 0) (valued a r) (valued b r)
valued (Either a b) r = cond (nat_eq (valued a r) 0) (valued b r) (valued a r)
valued (Choice c a b) r = cond (nat_eq (valued c r) 0) (valued b r) (valued a r)
valued (Range size offset access) r =
    operated 5 (operated 13 (valued offset r) (operated 1 (valued size r) (valued access r))) (operated 13 (valued access r) (valued size r))

-- a value guarded
abbrev pub guarded_number : (y z : Bool) → (v w : ℕ) → ℕ
guarded_number true z v w = cond z w v
guarded_number false z v w = cond z v w

abbrev pub Same : ℕ → List ℕ → List ℕ → Type 0
Same t r q = (j : ℕ) → j < t → slice_index q j ≡ slice_index r j

valued_same : (t : ℕ) (e : Expr) (r q : List ℕ) → Low t e → Same t r q → valued e q ≡ valued e r
valued_same t (Lit n) r q l h = refl
valued_same t (Slot place) r q l h = ap (λ v. bit_or v v) (h place l)
valued_same t (Binary op a b) r q l h = ap (λ v. operated op v (valued b q)) (valued_same t a r q l.0 h) ∙ ap (operated op (valued a r)) (valued_same t b r q l.1 h)
valued_same t (Not a) r q l h = ap (λ v. operated 10 v 0) (valued_same t a r q l h)
valued_same t (Complement mask a) r q l h = ap (λ v. operated 7 v mask) (valued_same t a r q l h)
valued_same t (ShiftLeft mask a b) r q l h =
    ap (λ v. operated 5 (operated 8 v (valued b q)) mask) (valued_same t a r q l.0 h) ∙ ap (λ v. operated 5 (operated 8 (valued a r) v) mask) (valued_same t b r q l.1 h)
valued_same t (Both a b) r q l h =
    ap (λ v. cond (nat_eq v 0) v (valued b q)) (valued_same t a r q l.0 h) ∙ ap (λ v. cond (nat_eq (valued a r) 0) (valued a r) v) (valued_same t b r q l.1 h)
valued_same t (Either a b) r q l h =
    ap (λ v. cond (nat_eq v 0) (valued b q) v) (valued_same t a r q l.0 h) ∙ ap (λ v. cond (nat_eq (valued a r) 0) v (valued a r)) (valued_same t b r q l.1 h)
valued_same t (Choice c a b) r q l h =
    ap (λ v. cond (nat_eq v 0) (valued b q) (valued a q)) (valued_same t c r q l.0 h)
    ∙ ap (λ v. cond (nat_eq (valued c r) 0) v (valued a q)) (valued_same t b r q l.1.1 h)
    ∙ ap (λ v. cond (nat_eq (valued c r) 0) (valued b r) v) (valued_same t a r q l.1.0 h)
valued_same t (Range size offset access) r q l h =
    ap (λ v. operated 5 (operated 13 (valued offset q) (operated 1 v (valued access q))) (operated 13 (valued access q) v)) (valued_same t size r q l.0 h)
    ∙ ap (λ v. operated 5 (operated 13 v (operated 1 (valued size r) (valued access q))) (operated 13 (valued access q) (valued size r))) (valued_same t offset r q l.1.0 h)
    ∙ ap (λ v. operated 5 (operated 13 (valued offset r) (operated 1 (valued size r) v)) (operated 13 v (valued size r))) (valued_same t access r q l.1.1 h)

low_more : (t u : ℕ) (e : Expr) → t ≤ u → Low t e → Low u e
low_more t u (Lit n) h l = tt
low_more t u (Slot place) h l = omega (arith, h, l)
low_more t u (Binary op a b) h l = (low_more t u a h l.0, low_more t u b h l.1)
low_more t u (Not a) h l = low_more t u a h l
low_more t u (Complement mask a) h l = low_more t u a h l
low_more t u (ShiftLeft mask a b) h l = (low_more t u a h l.0, low_more t u b h l.1)
low_more t u (Both a b) h l = (low_more t u a h l.0, low_more t u b h l.1)
low_more t u (Either a b) h l = (low_more t u a h l.0, low_more t u b h l.1)
low_more t u (Choice c a b) h l = (low_more t u c h l.0, (low_more t u a h l.1.0, low_more t u b h l.1.1))
low_more t u (Range size offset access) h l = (low_more t u size h l.0, (low_more t u offset h l.1.0, low_more t u access h l.1.1))

module _ (T : Parts) (self : ℕ) (message places : List ℕ) (calls : Calling) where
  abbrev pub go_on : Block → (State → Passage) → (State → Passage) → State → Passage
  go_on = ran T self message places calls

  pub record Puts (t v : ℕ) (s : State) (code : Block → Block) : Type 0 where
    pub regs : List ℕ
    pub count : length regs ≡ length s.regs
    pub low : Same t s.regs regs
    pub at : slice_index regs t ≡ v
    pub by : (k : Block) (leave go : State → Passage) → go_on (code k) leave go s ≡ go_on k leave go (record s { regs = regs })

  abbrev pub put_const : (t n : ℕ) (s : State) → t < length s.regs → Puts t n s (Then (i.Const t n))
  put_const t n s l = record {
    regs = slice_set s.regs t n;
    count = length-set s.regs t n;
    low = λ j h. get_or-set_other s.regs t j n 0 (λ z. absurd (omega arith));
    at = get_or-set_same s.regs t n 0 l;
    by = λ k leave go. refl;
  }

  abbrev pub put_op : (t a x c : ℕ) (s : State) → t < length s.regs → Puts t (operated x (reg s a) (reg s c)) s (Then (i.Op t x a c))
  put_op t a x c s l = record {
    regs = slice_set s.regs t (operated x (reg s a) (reg s c));
    count = length-set s.regs t _;
    low = λ j h. get_or-set_other s.regs t j (operated x (reg s a) (reg s c)) 0 (λ z. absurd (omega arith));
    at = get_or-set_same s.regs t (operated x (reg s a) (reg s c)) 0 l;
    by = λ k leave go. refl;
  }

  abbrev seq : (t u v w x : ℕ) (s : State) (f g : Block → Block) (p : Puts t v s f) (q : Puts u w (record s { regs = p.regs }) g) → t ≤ u → slice_index q.regs t ≡ x → Puts t x s (λ k. f (g k))
  seq t u v w x s f g p q h e = record {
    regs = q.regs;
    count = q.count ∙ p.count;
    low = λ j l. q.low j (omega (arith, h, l)) ∙ p.low j l;
    at = e;
    by = λ k leave go. p.by (g k) leave go ∙ q.by k leave go;
  }

  -- a value that is put where the first isn't 0 (false) or is 0 (true)
  guard_put : (y : Bool) (t v w : ℕ) (s : State) (f : Block → Block) (b : Expr) (p : Puts t v s f) → Puts t w (record s { regs = p.regs }) (value t b) → (z : Bool) → nat_eq v 0 ≡ z
      → Puts t (guarded_number y z v w) s (λ k. f (Guard y t (value t b Done) k))
  guard_put true t v w s f b p q true e = record {
    regs = q.regs;
    count = q.count ∙ p.count;
    low = λ j l. q.low j l ∙ p.low j l;
    at = q.at;
    by = λ k leave go. p.by (Guard true t (value t b Done) k) leave go
        ∙ ap (λ n. cond (nat_eq n 0) (go_on (value t b Done) leave (go_on k leave go) (record s { regs = p.regs })) (go_on k leave go (record s { regs = p.regs }))) p.at
        ∙ ap (λ z. cond z (go_on (value t b Done) leave (go_on k leave go) (record s { regs = p.regs })) (go_on k leave go (record s { regs = p.regs }))) e
        ∙ q.by Done leave (go_on k leave go);
  }
  guard_put true t v w s f b p q false e = record {
    regs = p.regs;
    count = p.count;
    low = p.low;
    at = p.at;
    by = λ k leave go. p.by (Guard true t (value t b Done) k) leave go
        ∙ ap (λ n. cond (nat_eq n 0) (go_on (value t b Done) leave (go_on k leave go) (record s { regs = p.regs })) (go_on k leave go (record s { regs = p.regs }))) p.at
        ∙ ap (λ z. cond z (go_on (value t b Done) leave (go_on k leave go) (record s { regs = p.regs })) (go_on k leave go (record s { regs = p.regs }))) e;
  }
  guard_put false t v w s f b p q true e = record {
    regs = p.regs;
    count = p.count;
    low = p.low;
    at = p.at;
    by = λ k leave go. p.by (Guard false t (value t b Done) k) leave go
        ∙ ap (λ n. cond (nat_eq n 0) (go_on k leave go (record s { regs = p.regs })) (go_on (value t b Done) leave (go_on k leave go) (record s { regs = p.regs }))) p.at
        ∙ ap (λ z. cond z (go_on k leave go (record s { regs = p.regs })) (go_on (value t b Done) leave (go_on k leave go) (record s { regs = p.regs }))) e;
  }
  guard_put false t v w s f b p q false e = record {
    regs = q.regs;
    count = q.count ∙ p.count;
    low = λ j l. q.low j l ∙ p.low j l;
    at = q.at;
    by = λ k leave go. p.by (Guard false t (value t b Done) k) leave go
        ∙ ap (λ n. cond (nat_eq n 0) (go_on k leave go (record s { regs = p.regs })) (go_on (value t b Done) leave (go_on k leave go) (record s { regs = p.regs }))) p.at
        ∙ ap (λ z. cond z (go_on k leave go (record s { regs = p.regs })) (go_on (value t b Done) leave (go_on k leave go) (record s { regs = p.regs }))) e
        ∙ q.by Done leave (go_on k leave go);
  }

  choice_put : (t v w x : ℕ) (s : State) (f : Block → Block) (a b : Expr) (p : Puts t v s f) → Puts t w (record s { regs = p.regs }) (value t a) → Puts t x (record s { regs = p.regs }) (value t b)
      → (z : Bool) → nat_eq v 0 ≡ z → Puts t (cond z x w) s (λ k. f (Scope (Guard false t (value t a Leave) (value t b Done)) k))
  choice_put t v w x s f a b p q r true e = record {
    regs = r.regs;
    count = r.count ∙ p.count;
    low = λ j l. r.low j l ∙ p.low j l;
    at = r.at;
    by = λ k leave go.
        let R = go_on k leave go in let s1 : State = record s { regs = p.regs } in
        p.by (Scope (Guard false t (value t a Leave) (value t b Done)) k) leave go
        ∙ ap (λ n. cond (nat_eq n 0) (go_on (value t b Done) R R s1) (go_on (value t a Leave) R (go_on (value t b Done) R R) s1)) p.at
        ∙ ap (λ z. cond z (go_on (value t b Done) R R s1) (go_on (value t a Leave) R (go_on (value t b Done) R R) s1)) e
        ∙ r.by Done R R;
  }
  choice_put t v w x s f a b p q r false e = record {
    regs = q.regs;
    count = q.count ∙ p.count;
    low = λ j l. q.low j l ∙ p.low j l;
    at = q.at;
    by = λ k leave go.
        let R = go_on k leave go in let s1 : State = record s { regs = p.regs } in
        p.by (Scope (Guard false t (value t a Leave) (value t b Done)) k) leave go
        ∙ ap (λ n. cond (nat_eq n 0) (go_on (value t b Done) R R s1) (go_on (value t a Leave) R (go_on (value t b Done) R R) s1)) p.at
        ∙ ap (λ z. cond z (go_on (value t b Done) R R s1) (go_on (value t a Leave) R (go_on (value t b Done) R R) s1)) e
        ∙ q.by Leave R (go_on (value t b Done) R R);
  }

  abbrev reput : (t v w : ℕ) (s : State) (f : Block → Block) → v ≡ w → Puts t v s f → Puts t w s f
  reput t v w s f e p = record { regs = p.regs; count = p.count; low = p.low; at = p.at ∙ e; by = p.by }

  abbrev reach : (s : State) (r : List ℕ) (t : ℕ) (e : Expr) → length r ≡ length s.regs → Reaches (length s.regs) t e → Reaches (length r) t e
  reach s r t e h = subst (λ n. Reaches n t e) (sym h)

  pub puts : (e : Expr) (t : ℕ) (s : State) → Reaches (length s.regs) t e → Low t e → Puts t (valued e s.regs) s (value t e)
  puts (Lit n) t s h l = put_const t n s h
  puts (Slot place) t s h l = put_op t place 6 place s h.0
  puts (Binary op a b) t s h l =
      let p = puts a t s h.2 l.0 in
      let s1 : State = record s { regs = p.regs } in
      let q = puts b (t + 1) s1 (reach s p.regs (t + 1) b p.count h.3) (low_more t (t + 1) b (omega arith) l.1) in
      let s2 : State = record s { regs = q.regs } in
      let o = put_op t t op (t + 1) s2 (omega (arith, h.0, p.count, q.count)) in
      let two = seq t (t + 1) (valued a s.regs) (valued b p.regs) (valued a s.regs) s (value t a) (value (t + 1) b) p q (omega arith) (q.low t (omega arith) ∙ p.at) in
      seq t t (valued a s.regs) (operated op (reg s2 t) (reg s2 (t + 1))) (operated op (valued a s.regs) (valued b s.regs)) s (λ k. value t a (value (t + 1) b k)) (Then (i.Op t op t (t + 1))) two o (omega arith)
      (o.at ∙ ap (λ v. operated op v (reg s2 (t + 1))) two.at ∙ ap (operated op (valued a s.regs)) (q.at ∙ valued_same t b s.regs p.regs l.1 p.low))
  puts (Not a) t s h l =
      let p = puts a t s h.1 l in
      let s1 : State = record s { regs = p.regs } in
      let q = put_const (t + 1) 0 s1 (omega (arith, h.0, p.count)) in
      let s2 : State = record s { regs = q.regs } in
      let o = put_op t t 10 (t + 1) s2 (omega (arith, h.0, p.count, q.count)) in
      let two = seq t (t + 1) (valued a s.regs) 0 (valued a s.regs) s (value t a) (Then (i.Const (t + 1) 0)) p q (omega arith) (q.low t (omega arith) ∙ p.at) in
      seq t t (valued a s.regs) (operated 10 (reg s2 t) (reg s2 (t + 1))) (operated 10 (valued a s.regs) 0) s (λ k. value t a (Then (i.Const (t + 1) 0) k)) (Then (i.Op t 10 t (t + 1))) two o (omega arith)
      (o.at ∙ ap (λ v. operated 10 v (reg s2 (t + 1))) two.at ∙ ap (operated 10 (valued a s.regs)) q.at)
  puts (Complement mask a) t s h l =
      let p = puts a t s h.1 l in
      let s1 : State = record s { regs = p.regs } in
      let q = put_const (t + 1) mask s1 (omega (arith, h.0, p.count)) in
      let s2 : State = record s { regs = q.regs } in
      let o = put_op t t 7 (t + 1) s2 (omega (arith, h.0, p.count, q.count)) in
      let two = seq t (t + 1) (valued a s.regs) mask (valued a s.regs) s (value t a) (Then (i.Const (t + 1) mask)) p q (omega arith) (q.low t (omega arith) ∙ p.at) in
      seq t t (valued a s.regs) (operated 7 (reg s2 t) (reg s2 (t + 1))) (operated 7 (valued a s.regs) mask) s (λ k. value t a (Then (i.Const (t + 1) mask) k)) (Then (i.Op t 7 t (t + 1))) two o (omega arith)
      (o.at ∙ ap (λ v. operated 7 v (reg s2 (t + 1))) two.at ∙ ap (operated 7 (valued a s.regs)) q.at)
  puts (ShiftLeft mask a b) t s h l =
      let p = puts a t s h.1 l.0 in
      let s1 : State = record s { regs = p.regs } in
      let q = puts b (t + 1) s1 (reach s p.regs (t + 1) b p.count h.2) (low_more t (t + 1) b (omega arith) l.1) in
      let s2 : State = record s { regs = q.regs } in
      let o = put_op t t 8 (t + 1) s2 (omega (arith, h.0, p.count, q.count)) in
      let s3 : State = record s { regs = o.regs } in
      let c = put_const (t + 1) mask s3 (omega (arith, h.0, p.count, q.count, o.count)) in
      let s4 : State = record s { regs = c.regs } in
      let d = put_op t t 5 (t + 1) s4 (omega (arith, h.0, p.count, q.count, o.count, c.count)) in
      let x = operated 8 (valued a s.regs) (valued b s.regs) in
      let two = seq t (t + 1) (valued a s.regs) (valued b p.regs) (valued a s.regs) s (value t a) (value (t + 1) b) p q (omega arith) (q.low t (omega arith) ∙ p.at) in
      let three = seq t t (valued a s.regs) (operated 8 (reg s2 t) (reg s2 (t + 1))) x s (λ k. value t a (value (t + 1) b k)) (Then (i.Op t 8 t (t + 1))) two o (omega arith)
      (o.at ∙ ap (λ v. operated 8 v (reg s2 (t + 1))) two.at ∙ ap (operated 8 (valued a s.regs)) (q.at ∙ valued_same t b s.regs p.regs l.1 p.low)) in
      let four = seq t (t + 1) x mask x s (λ k. value t a (value (t + 1) b (Then (i.Op t 8 t (t + 1)) k))) (Then (i.Const (t + 1) mask)) three c (omega arith) (c.low t (omega arith) ∙ three.at) in
      seq t t x (operated 5 (reg s4 t) (reg s4 (t + 1))) (operated 5 x mask) s (λ k. value t a (value (t + 1) b (Then (i.Op t 8 t (t + 1)) (Then (i.Const (t + 1) mask) k)))) (Then (i.Op t 5 t (t + 1))) four d (omega arith)
      (d.at ∙ ap (λ v. operated 5 v (reg s4 (t + 1))) four.at ∙ ap (operated 5 x) c.at)
  puts (Both a b) t s h l =
      let p = puts a t s h.1 l.0 in
      let s1 : State = record s { regs = p.regs } in
      let q = reput t (valued b p.regs) (valued b s.regs) s1 (value t b) (valued_same t b s.regs p.regs l.1 p.low) (puts b t s1 (reach s p.regs t b p.count h.2) l.1) in
      guard_put false t (valued a s.regs) (valued b s.regs) s (value t a) b p q (nat_eq (valued a s.regs) 0) refl
  puts (Either a b) t s h l =
      let p = puts a t s h.1 l.0 in
      let s1 : State = record s { regs = p.regs } in
      let q = reput t (valued b p.regs) (valued b s.regs) s1 (value t b) (valued_same t b s.regs p.regs l.1 p.low) (puts b t s1 (reach s p.regs t b p.count h.2) l.1) in
      guard_put true t (valued a s.regs) (valued b s.regs) s (value t a) b p q (nat_eq (valued a s.regs) 0) refl
  puts (Choice c a b) t s h l =
      let p = puts c t s h.1 l.0 in
      let s1 : State = record s { regs = p.regs } in
      let q = reput t (valued a p.regs) (valued a s.regs) s1 (value t a) (valued_same t a s.regs p.regs l.1.0 p.low) (puts a t s1 (reach s p.regs t a p.count h.2) l.1.0) in
      let r = reput t (valued b p.regs) (valued b s.regs) s1 (value t b) (valued_same t b s.regs p.regs l.1.1 p.low) (puts b t s1 (reach s p.regs t b p.count h.3) l.1.1) in
      choice_put t (valued c s.regs) (valued a s.regs) (valued b s.regs) s (value t c) a b p q r (nat_eq (valued c s.regs) 0) refl
  puts (Range size offset access) t s h l =
      let vs = valued size s.regs in let vo = valued offset s.regs in let va = valued access s.regs in
      let p = puts size t s h.1 l.0 in
      let s1 : State = record s { regs = p.regs } in
      let q = puts offset (t + 1) s1 (reach s p.regs (t + 1) offset p.count h.2) (low_more t (t + 1) offset (omega arith) l.1.0) in
      let s2 : State = record s { regs = q.regs } in
      let r = puts access (t + 2) s2 (reach s q.regs (t + 2) access (q.count ∙ p.count) h.3) (low_more t (t + 2) access (omega arith) l.1.1) in
      let s3 : State = record s { regs = r.regs } in
      let at_a : reg s3 (t + 2) ≡ va = r.at ∙ valued_same t access p.regs q.regs l.1.1 (λ j m. q.low j (omega (arith, m))) ∙ valued_same t access s.regs p.regs l.1.1 p.low in
      let at_o : reg s3 (t + 1) ≡ vo = r.low (t + 1) (omega arith) ∙ q.at ∙ valued_same t offset s.regs p.regs l.1.0 p.low in
      let at_s : reg s3 t ≡ vs = r.low t (omega arith) ∙ q.low t (omega arith) ∙ p.at in
      let n3 : length r.regs ≡ length s.regs = r.count ∙ q.count ∙ p.count in
      let o1 = put_op (t + 3) (t + 2) 13 t s3 (omega (arith, h.0, n3)) in
      let s4 : State = record s { regs = o1.regs } in
      let v1 = operated 13 va vs in
      let at1 : reg s4 (t + 3) ≡ v1 = o1.at ∙ ap (λ v. operated 13 v (reg s3 t)) at_a ∙ ap (operated 13 va) at_s in
      let o2 = put_op t t 1 (t + 2) s4 (omega (arith, h.0, n3, o1.count)) in
      let s5 : State = record s { regs = o2.regs } in
      let v2 = operated 1 vs va in
      let at2 : reg s5 t ≡ v2 = o2.at ∙ ap (λ v. operated 1 v (reg s4 (t + 2))) (o1.low t (omega arith) ∙ at_s) ∙ ap (operated 1 vs) (o1.low (t + 2) (omega arith) ∙ at_a) in
      let keep2 : (j : ℕ) → t < j → slice_index o2.regs j ≡ slice_index o1.regs j = λ j m. get_or-set_other o1.regs t j (operated 1 (reg s4 t) (reg s4 (t + 2))) 0 (λ z. absurd (omega (arith, m, z))) in
      let o3 = put_op t (t + 1) 13 t s5 (omega (arith, h.0, n3, o1.count, o2.count)) in
      let s6 : State = record s { regs = o3.regs } in
      let v3 = operated 13 vo v2 in
      let at3 : reg s6 t ≡ v3 = o3.at ∙ ap (λ v. operated 13 v (reg s5 t)) (keep2 (t + 1) (omega arith) ∙ o1.low (t + 1) (omega arith) ∙ at_o) ∙ ap (operated 13 vo) at2 in
      let keep3 : slice_index o3.regs (t + 3) ≡ slice_index o2.regs (t + 3) = get_or-set_other o2.regs t (t + 3) (operated 13 (reg s5 (t + 1)) (reg s5 t)) 0 (λ z. absurd (omega (arith, z))) in
      let o4 = put_op t t 5 (t + 3) s6 (omega (arith, h.0, n3, o1.count, o2.count, o3.count)) in
      record {
        regs = o4.regs;
        count = o4.count ∙ o3.count ∙ o2.count ∙ o1.count ∙ n3;
        low = λ j m. o4.low j m ∙ o3.low j m ∙ o2.low j m ∙ o1.low j (omega (arith, m)) ∙ r.low j (omega (arith, m)) ∙ q.low j (omega (arith, m)) ∙ p.low j m;
        at = o4.at ∙ ap (λ v. operated 5 v (reg s6 (t + 3))) at3 ∙ ap (operated 5 v3) (keep3 ∙ keep2 (t + 3) (omega arith) ∙ at1);
        by = λ k leave go.
            let tail = Then (i.Op (t + 3) 13 (t + 2) t) (Then (i.Op t 1 t (t + 2)) (Then (i.Op t 13 (t + 1) t) (Then (i.Op t 5 t (t + 3)) k))) in
            p.by (value (t + 1) offset (value (t + 2) access tail)) leave go ∙ q.by (value (t + 2) access tail) leave go ∙ r.by tail leave go;
      }
