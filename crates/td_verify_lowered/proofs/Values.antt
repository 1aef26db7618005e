-- Expressions, arguments and actions in blocks.
use Rattle.std.proofs.Common.{ℕ, ◌+◌, ◌*◌, ◌<◌, ◌≤◌, inl, inr, List, [], ◌∷◌, Bool, true, false, refl, arith}
use Rattle.td_verify_lowered.specs.Imports.{Parts}
use Rattle.td_ir.specs.declared.instructions.Instr.TheVariants as i
use Rattle.td_ir.specs.Tables.{routine_of}
use Rattle.td_lower_blocks.specs.Block.{Block, Done, Then, Stop, Leave, Guard, Scope}
use Rattle.td_verify_lowered.specs.Nesting.{Level, Nests, IsFit, Fits, IsCalm, Busy, weight}
use Rattle.td_lower_blocks.specs.Constructs.{Expr, Lit, Slot, Binary, Not, Complement, ShiftLeft, Both, Either, Choice, Range, value, values, tested, Action, Finish, Assign, Read, If, Return, Abort, acts}
use Rattle.td_verify_lowered.specs.Weights.{nodes, all_nodes, act_nodes}
use Rattle.td_lower_blocks.specs.Placed.{Reaches}
use Rattle.td_verify_lowered.specs.Good.{IsSiteOf, AllReach, Does}

pub nests_value : (E : ℕ → Type 0) (l : Level) (v : Bool) (t : ℕ) (e : Expr) (k : Block) → Nests E l v k → Nests E l v (value t e k)
nests_value E l v t (Lit n) k h = (tt, h)
nests_value E l v t (Slot place) k h = (tt, h)
nests_value E l v t (Binary op a b) k h = nests_value E l v t a _ (nests_value E l v (t + 1) b _ (tt, h))
nests_value E l v t (Not a) k h = nests_value E l v t a _ (tt, (tt, h))
nests_value E l v t (Complement mask a) k h = nests_value E l v t a _ (tt, (tt, h))
nests_value E l v t (ShiftLeft mask a b) k h = nests_value E l v t a _ (nests_value E l v (t + 1) b _ (tt, (tt, (tt, h))))
nests_value E l v t (Both a b) k h = nests_value E l v t a _ (nests_value E l v t b Done tt, h)
nests_value E l v t (Either a b) k h = nests_value E l v t a _ (nests_value E l v t b Done tt, h)
nests_value E l v t (Choice c a b) k h = nests_value E l v t c _ ((nests_value E l true t a Leave refl, nests_value E l true t b Done tt), h)
nests_value E l v t (Range size offset access) k h = nests_value E l v t size _ (nests_value E l v (t + 1) offset _ (nests_value E l v (t + 2) access _ (tt, (tt, (tt, (tt, h))))))

pub calm_value : (t : ℕ) (e : Expr) (k : Block) → IsCalm k → IsCalm (value t e k)
calm_value t (Lit n) k h = h
calm_value t (Slot place) k h = h
calm_value t (Binary op a b) k h = calm_value t a _ (calm_value (t + 1) b _ h)
calm_value t (Not a) k h = calm_value t a _ h
calm_value t (Complement mask a) k h = calm_value t a _ h
calm_value t (ShiftLeft mask a b) k h = calm_value t a _ (calm_value (t + 1) b _ h)
calm_value t (Both a b) k h = calm_value t a _ (calm_value t b Done tt, h)
calm_value t (Either a b) k h = calm_value t a _ (calm_value t b Done tt, h)
calm_value t (Choice c a b) k h = calm_value t c _ ((calm_value t a Leave tt, calm_value t b Done tt), h)
calm_value t (Range size offset access) k h = calm_value t size _ (calm_value (t + 1) offset _ (calm_value (t + 2) access _ h))

pub busy_value : (E : ℕ → Type 0) (t : ℕ) (e : Expr) (k : Block) → Busy E k → Busy E (value t e k)
busy_value E t (Lit n) k h = inr h
busy_value E t (Slot place) k h = inr h
busy_value E t (Binary op a b) k h = busy_value E t a _ (busy_value E (t + 1) b _ (inr h))
busy_value E t (Not a) k h = busy_value E t a _ (inr (inr h))
busy_value E t (Complement mask a) k h = busy_value E t a _ (inr (inr h))
busy_value E t (ShiftLeft mask a b) k h = busy_value E t a _ (busy_value E (t + 1) b _ (inr (inr (inr h))))
busy_value E t (Both a b) k h = busy_value E t a _ (inl (calm_value t b Done tt), h)
busy_value E t (Either a b) k h = busy_value E t a _ (inl (calm_value t b Done tt), h)
busy_value E t (Choice c a b) k h = busy_value E t c _ ((calm_value t a Leave tt, calm_value t b Done tt), h)
busy_value E t (Range size offset access) k h = busy_value E t size _ (busy_value E (t + 1) offset _ (busy_value E (t + 2) access _ (inr (inr (inr (inr h))))))

pub fit_const : (c : Parts) (depth : ℕ → ℕ) (n t k : ℕ) → t < (routine_of c n).registers → IsFit c depth n (i.Const t k)
fit_const c depth n t k h = record { registers = h; tables = (tt, tt); operands = tt; calls = tt }

pub fit_op : (c : Parts) (depth : ℕ → ℕ) (n t a op b : ℕ) → t < (routine_of c n).registers → a < (routine_of c n).registers → b < (routine_of c n).registers → op ≤ 13 → IsFit c depth n (i.Op t op a b)
fit_op c depth n t a op b h k l m = record { registers = (h, k, l); tables = (tt, tt); operands = m; calls = tt }

pub fits_value : (c : Parts) (depth : ℕ → ℕ) (n t : ℕ) (e : Expr) (k : Block) → Reaches (routine_of c n).registers t e → Fits c depth n k → Fits c depth n (value t e k)
fits_value c depth n t (Lit x) k r h = (fit_const c depth n t x r, h)
fits_value c depth n t (Slot place) k r h = (fit_op c depth n t place 6 place r.0 r.1 r.1 (omega arith), h)
fits_value c depth n t (Binary op a b) k r h = let z = r.0 in fits_value c depth n t a _ r.2 (fits_value c depth n (t + 1) b _ r.3 (fit_op c depth n t t op (t + 1) (omega (arith, z)) (omega (arith, z)) z r.1, h))
fits_value c depth n t (Not a) k r h = let z = r.0 in fits_value c depth n t a _ r.1 (fit_const c depth n (t + 1) 0 z, (fit_op c depth n t t 10 (t + 1) (omega (arith, z)) (omega (arith, z)) z (omega arith), h))
fits_value c depth n t (Complement mask a) k r h = let z = r.0 in fits_value c depth n t a _ r.1 (fit_const c depth n (t + 1) mask z, (fit_op c depth n t t 7 (t + 1) (omega (arith, z)) (omega (arith, z)) z (omega arith), h))
fits_value c depth n t (ShiftLeft mask a b) k r h = let z = r.0 in
    fits_value c depth n t a _ r.1 (fits_value c depth n (t + 1) b _ r.2 (fit_op c depth n t t 8 (t + 1) (omega (arith, z)) (omega (arith, z)) z (omega arith), (fit_const c depth n (t + 1) mask z, (fit_op c depth n t t 5 (t + 1) (omega (arith, z)) (omega (arith, z)) z (omega arith), h))))
fits_value c depth n t (Both a b) k r h = fits_value c depth n t a _ r.1 (r.0, fits_value c depth n t b Done r.2 tt, h)
fits_value c depth n t (Either a b) k r h = fits_value c depth n t a _ r.1 (r.0, fits_value c depth n t b Done r.2 tt, h)
fits_value c depth n t (Choice c' a b) k r h = fits_value c depth n t c' _ r.1 ((r.0, fits_value c depth n t a Leave r.2 tt, fits_value c depth n t b Done r.3 tt), h)
fits_value c depth n t (Range size offset access) k r h = let z = r.0 in
    fits_value c depth n t size _ r.1 (fits_value c depth n (t + 1) offset _ r.2 (fits_value c depth n (t + 2) access _ r.3 (
      fit_op c depth n (t + 3) (t + 2) 13 t z (omega (arith, z)) (omega (arith, z)) (omega arith),
      (
        fit_op c depth n t t 1 (t + 2) (omega (arith, z)) (omega (arith, z)) (omega (arith, z)) (omega arith),
        (
          fit_op c depth n t (t + 1) 13 t (omega (arith, z)) (omega (arith, z)) (omega (arith, z)) (omega arith),
          (fit_op c depth n t t 5 (t + 3) (omega (arith, z)) (omega (arith, z)) z (omega arith), h),
        ),
      ),
    )))

-- a value is lighter than its nodes
pub weight_value : (ws : List ℕ) (t : ℕ) (e : Expr) (k : Block) → 1 + weight ws false (value t e k) ≤ 8 * nodes e + weight ws false k
weight_value ws t (Lit n) k = omega arith
weight_value ws t (Slot place) k = omega arith
weight_value ws t (Binary op a b) k =
    let x = weight_value ws t a (value (t + 1) b (Then (i.Op t op t (t + 1)) k)) in
    let y = weight_value ws (t + 1) b (Then (i.Op t op t (t + 1)) k) in
    omega (arith, x, y)
weight_value ws t (Not a) k = let x = weight_value ws t a (Then (i.Const (t + 1) 0) (Then (i.Op t 10 t (t + 1)) k)) in omega (arith, x)
weight_value ws t (Complement mask a) k = let x = weight_value ws t a (Then (i.Const (t + 1) mask) (Then (i.Op t 7 t (t + 1)) k)) in omega (arith, x)
weight_value ws t (ShiftLeft mask a b) k =
    let x = weight_value ws t a (value (t + 1) b (Then (i.Op t 8 t (t + 1)) (Then (i.Const (t + 1) mask) (Then (i.Op t 5 t (t + 1)) k)))) in
    let y = weight_value ws (t + 1) b (Then (i.Op t 8 t (t + 1)) (Then (i.Const (t + 1) mask) (Then (i.Op t 5 t (t + 1)) k))) in
    omega (arith, x, y)
weight_value ws t (Both a b) k =
    let x = weight_value ws t a (Guard false t (value t b Done) k) in
    let y = weight_value ws t b Done in
    omega (arith, x, y)
weight_value ws t (Either a b) k =
    let x = weight_value ws t a (Guard true t (value t b Done) k) in
    let y = weight_value ws t b Done in
    omega (arith, x, y)
weight_value ws t (Choice c a b) k =
    let x = weight_value ws t c (Scope (Guard false t (value t a Leave) (value t b Done)) k) in
    let y = weight_value ws t a Leave in
    let z = weight_value ws t b Done in
    omega (arith, x, y, z)
weight_value ws t (Range size offset access) k =
    let last = Then (i.Op (t + 3) 13 (t + 2) t) (Then (i.Op t 1 t (t + 2)) (Then (i.Op t 13 (t + 1) t) (Then (i.Op t 5 t (t + 3)) k))) in
    let x = weight_value ws t size (value (t + 1) offset (value (t + 2) access last)) in
    let y = weight_value ws (t + 1) offset (value (t + 2) access last) in
    let z = weight_value ws (t + 2) access last in
    omega (arith, x, y, z)

-- arguments

pub nests_values : (E : ℕ → Type 0) (l : Level) (v : Bool) (t : ℕ) (es : List Expr) (k : Block) → Nests E l v k → Nests E l v (values t es k)
nests_values E l v t [] k h = h
nests_values E l v t (e ∷ es) k h = nests_value E l v t e _ (nests_values E l v (t + 1) es k h)

pub busy_values : (E : ℕ → Type 0) (t : ℕ) (es : List Expr) (k : Block) → Busy E k → Busy E (values t es k)
busy_values E t [] k h = h
busy_values E t (e ∷ es) k h = busy_value E t e _ (busy_values E (t + 1) es k h)

pub fits_values : (c : Parts) (depth : ℕ → ℕ) (n t : ℕ) (es : List Expr) (k : Block) → AllReach (routine_of c n).registers t es → Fits c depth n k → Fits c depth n (values t es k)
fits_values c depth n t [] k r h = h
fits_values c depth n t (e ∷ es) k r h = fits_value c depth n t e _ r.0 (fits_values c depth n (t + 1) es k r.1 h)

pub weight_values : (ws : List ℕ) (t : ℕ) (es : List Expr) (k : Block) → weight ws false (values t es k) ≤ 8 * all_nodes es + weight ws false k
weight_values ws t [] k = omega arith
weight_values ws t (e ∷ es) k = let x = weight_value ws t e (values (t + 1) es k) in let y = weight_values ws (t + 1) es k in omega (arith, x, y)

-- tests

pub nests_tested : (E : ℕ → Type 0) (l : Level) (v : Bool) (t : ℕ) (e : Expr) (reason site : ℕ) (k : Block) → Nests E l v k → Nests E l v (tested t e reason site k)
nests_tested E l v t e reason site k h = nests_value E l v t e _ (tt, h)

pub busy_tested : (E : ℕ → Type 0) (t : ℕ) (e : Expr) (reason site : ℕ) (k : Block) → Busy E k → Busy E (tested t e reason site k)
busy_tested E t e reason site k h = busy_value E t e _ (inl refl, h)

pub fit_fail : (c : Parts) (depth : ℕ → ℕ) (n reason site : ℕ) → reason ≤ 5 → IsSiteOf c n site → IsFit c depth n (i.Fail reason site)
fit_fail c depth n reason site h k = record { registers = tt; tables = k; operands = h; calls = tt }

pub fits_tested : (c : Parts) (depth : ℕ → ℕ) (n t : ℕ) (e : Expr) (reason site : ℕ) (k : Block) → t < (routine_of c n).registers → Reaches (routine_of c n).registers t e → reason ≤ 5 → IsSiteOf c n site → Fits c depth n k → Fits c depth n (tested t e reason site k)
fits_tested c depth n t e reason site k t_in r m named h = fits_value c depth n t e _ r (t_in, fit_fail c depth n reason site m named, h)

pub weight_tested : (ws : List ℕ) (t : ℕ) (e : Expr) (reason site : ℕ) (k : Block) → weight ws false (tested t e reason site k) ≤ 2 + (8 * nodes e + weight ws false k)
weight_tested ws t e reason site k = let x = weight_value ws t e (Guard true t (Stop (i.Fail reason site)) k) in omega (arith, x)

-- actions, which leave their scope

pub nests_acts : (E : ℕ → Type 0) (l : Level) (t site : ℕ) (a : Action) (k : Block) → Nests E l true k → Nests E l true (acts t site a k)
nests_acts E l t site Finish k h = h
nests_acts E l t site (Assign cell e more) k h = nests_value E l true t e _ (tt, nests_acts E l t site more k h)
nests_acts E l t site (Read slot cell more) k h = (tt, nests_acts E l t site more k h)
nests_acts E l t site (If e one other more) k h = nests_value E l true t e _ (nests_acts E l (t + 1) site one Done tt, (nests_acts E l (t + 1) site other Done tt, nests_acts E l t site more k h))
nests_acts E l t site (Return e) k h = nests_tested E l true t e 3 site Leave refl
nests_acts E l t site Abort k h = tt

pub calm_acts : (t site : ℕ) (a : Action) (k : Block) → IsCalm k → IsCalm (acts t site a k)
calm_acts t site Finish k h = h
calm_acts t site (Assign cell e more) k h = calm_value t e _ (calm_acts t site more k h)
calm_acts t site (Read slot cell more) k h = calm_acts t site more k h
calm_acts t site (If e one other more) k h = calm_value t e _ (calm_acts (t + 1) site one Done tt, (calm_acts (t + 1) site other Done tt, calm_acts t site more k h))
calm_acts t site (Return e) k h = calm_value t e _ (refl, tt)
calm_acts t site Abort k h = refl

pub fits_acts : (c : Parts) (depth : ℕ → ℕ) (n t site : ℕ) (a : Action) (k : Block) → Does (routine_of c n).registers (routine_of c n).cells t a → IsSiteOf c n site → Fits c depth n k → Fits c depth n (acts t site a k)
fits_acts c depth n t site Finish k d s h = h
fits_acts c depth n t site (Assign cell e more) k d s h = fits_value c depth n t e _ d.2 (record { registers = d.0; tables = (d.1, tt); operands = tt; calls = tt }, fits_acts c depth n t site more k d.3 s h)
fits_acts c depth n t site (Read slot cell more) k d s h = (record { registers = d.0; tables = (d.1, tt); operands = tt; calls = tt }, fits_acts c depth n t site more k d.2 s h)
fits_acts c depth n t site (If e one other more) k d s h =
    fits_value c depth n t e _ d.1 (d.0, fits_acts c depth n (t + 1) site one Done d.2 s tt, (d.0, fits_acts c depth n (t + 1) site other Done d.3 s tt, fits_acts c depth n t site more k d.4 s h))
fits_acts c depth n t site (Return e) k d s h = fits_tested c depth n t e 3 site Leave d.0 d.1 (omega arith) s tt
fits_acts c depth n t site Abort k d s h = fit_fail c depth n 3 site (omega arith) s

pub weight_acts : (ws : List ℕ) (t site : ℕ) (a : Action) (k : Block) → weight ws false (acts t site a k) ≤ 8 * act_nodes a + weight ws false k
weight_acts ws t site Finish k = omega arith
weight_acts ws t site (Assign cell e more) k = let x = weight_value ws t e (Then (i.Set t cell) (acts t site more k)) in let y = weight_acts ws t site more k in omega (arith, x, y)
weight_acts ws t site (Read slot cell more) k = let y = weight_acts ws t site more k in omega (arith, y)
weight_acts ws t site (If e one other more) k =
    let x = weight_value ws t e (Guard false t (acts (t + 1) site one Done) (Guard true t (acts (t + 1) site other Done) (acts t site more k))) in
    let y = weight_acts ws (t + 1) site one Done in
    let z = weight_acts ws (t + 1) site other Done in
    let w = weight_acts ws t site more k in
    omega (arith, x, y, z, w)
weight_acts ws t site (Return e) k = let x = weight_tested ws t e 3 site Leave in omega (arith, x)
weight_acts ws t site Abort k = omega arith
