-- Each instruction of a block keeps the rules.
use Rattle.std.proofs.Common.{◌≡◌, ℕ, ◌+◌, ◌-◌, ◌<◌, ◌≤◌, ⊎_elim, inl, inr, List, [], ◌∷◌, Option, Some, Bool, true, false, nat_eq, refl, sym, ap, subst, ◌∙◌, arith}
use Rattle.std.proofs.lemmas.Bool.{cases_lt}
use Rattle.td_verify_lowered.specs.Imports.{Parts, Instr, Shape, Bracket, Window as Opened, Loop as Looping}
use Rattle.td_ir.specs.declared.instructions.Instr.TheVariants as i
use Rattle.td_verify.specs.declared.shape.Shape.TheVariants as s
use Rattle.td_verify.specs.Shape.{shape}
use Rattle.td_ir.specs.Tables.{instruction_of, routine_of}
use Rattle.td_verify.specs.Shape.{shapes_of}
use Rattle.td_verify.specs.declared.bracket.Innermost.TheVariants.{Within}
use Rattle.td_verify.specs.Brackets.{shape_at, opened, innermost}
use Rattle.td_verify.specs.Ways.{IsIdle, IdleWay}
use Rattle.td_verify.specs.Rules.{IsAgain, LeadsWell, MayBeLast, StandsWell, IsOutside, TurnsBusy}
use Rattle.td_verify.specs.Brackets.{in_window, in_loop}
use Rattle.td_lower_blocks.specs.Block.{Block, Done, Then, Stop, Leave, Guard, Scope, Window, Loop, size, guard, Stands, Ends}
use Rattle.td_lower_blocks.proofs.Ending.{ends_some}
use Rattle.td_verify_lowered.specs.Nesting.{Level, Outside, InWindow, InLoop, IsPlain, IsStop, IsOpen, Takes, BeginsBusy, Nests, IsFit, Fits}
use Rattle.td_verify_lowered.proofs.Levels.{IsLevel}
use Rattle.td_verify_lowered.proofs.Blocked.{IsFine, IsFollowed, IsExit}
use Rattle.td_verify_lowered.proofs.Through.{through, shape_is, opened_after, opened_plain, opened_stop, opened_guard, opened_window, outside_is, in_window_level, in_loop_level}
use Rattle.td_num.proofs.Equals.{equal_itself as here_is}
use Rattle.td_num.proofs.Truths.{eq_is as only_here}

-- places one after the other
pub split : (p m e : ℕ) (P : ℕ → Type 0) → ((q : ℕ) → p ≤ q → q < m → P q) → ((q : ℕ) → m ≤ q → q < e → P q) → (q : ℕ) → p ≤ q → q < e → P q
split p m e P f g q a b = ⊎_elim (λ (l : q < m). f q a l) (λ (k : m ≤ q). g q k b) (cases_lt q m)

pub single : (p : ℕ) (P : ℕ → Type 0) → P p → (q : ℕ) → p ≤ q → q < p + 1 → P q
single p P h q a b = let e : p ≡ q = omega arith in subst P e h

-- one instruction
fine_at : (c : Parts) (E : ℕ → Type 0) (depth : ℕ → ℕ) (n end p : ℕ) (j : Instr) → instruction_of c p ≡ j → LeadsWell (shapes_of c) end p (shape j) → (p + 1 ≡ end → MayBeLast (shape j)) → StandsWell (opened (shapes_of c) p) (shape j)
    → (p + 1 ≡ end → IsOutside (opened (shapes_of c) end)) → TurnsBusy (shapes_of c) E p (shape j) → IsFit c depth n j → IsFine c E depth n end p
fine_at c E depth n end p j e leads last stands closed busy fit =
    let is = sym (shape_is c p j e) in
    record {
      target = record { leads = subst (LeadsWell (shapes_of c) end p) is leads; last = λ h. subst MayBeLast is (last h) };
      fit = subst (IsFit c depth n) (sym e) fit;
      nesting = record { stands = subst (StandsWell (opened (shapes_of c) p)) is stands; closed = closed; busy = subst (TurnsBusy (shapes_of c) E p) is busy };
    }

plain_leads : (S : List Shape) (end p : ℕ) (j : Shape) → IsPlain j → LeadsWell S end p j
plain_leads S end p (s.Straight b w) h = tt
plain_leads S end p (s.Call m) h = tt
plain_leads S end p (s.Jump t) h = absurd h
plain_leads S end p (s.Branch t) h = absurd h
plain_leads S end p s.Return h = absurd h
plain_leads S end p s.Fail h = absurd h
plain_leads S end p (s.While t) h = absurd h
plain_leads S end p (s.Again t) h = absurd h
plain_leads S end p (s.Open k) h = absurd h
plain_leads S end p s.Close h = absurd h

plain_stands : (o : Option (List Bracket)) (j : Shape) → IsPlain j → StandsWell o j
plain_stands o (s.Straight b w) h = tt
plain_stands o (s.Call m) h = tt
plain_stands o (s.Jump t) h = absurd h
plain_stands o (s.Branch t) h = absurd h
plain_stands o s.Return h = absurd h
plain_stands o s.Fail h = absurd h
plain_stands o (s.While t) h = absurd h
plain_stands o (s.Again t) h = absurd h
plain_stands o (s.Open k) h = absurd h
plain_stands o s.Close h = absurd h

plain_busy : (S : List Shape) (E : ℕ → Type 0) (p : ℕ) (j : Shape) → IsPlain j → TurnsBusy S E p j
plain_busy S E p (s.Straight b w) h = tt
plain_busy S E p (s.Call m) h = tt
plain_busy S E p (s.Jump t) h = absurd h
plain_busy S E p (s.Branch t) h = absurd h
plain_busy S E p s.Return h = absurd h
plain_busy S E p s.Fail h = absurd h
plain_busy S E p (s.While t) h = absurd h
plain_busy S E p (s.Again t) h = absurd h
plain_busy S E p (s.Open k) h = absurd h
plain_busy S E p s.Close h = absurd h

stop_leads : (S : List Shape) (end p : ℕ) (l : Level) (j : Shape) → IsStop l j → LeadsWell S end p j
stop_leads S end p l s.Fail h = tt
stop_leads S end p l s.Return h = tt
stop_leads S end p l (s.Straight b w) h = absurd h
stop_leads S end p l (s.Call m) h = absurd h
stop_leads S end p l (s.Jump t) h = absurd h
stop_leads S end p l (s.Branch t) h = absurd h
stop_leads S end p l (s.While t) h = absurd h
stop_leads S end p l (s.Again t) h = absurd h
stop_leads S end p l (s.Open k) h = absurd h
stop_leads S end p l s.Close h = absurd h

stop_last : (l : Level) (j : Shape) → IsStop l j → MayBeLast j
stop_last l s.Fail h = tt
stop_last l s.Return h = tt
stop_last l (s.Straight b w) h = absurd h
stop_last l (s.Call m) h = absurd h
stop_last l (s.Jump t) h = absurd h
stop_last l (s.Branch t) h = absurd h
stop_last l (s.While t) h = absurd h
stop_last l (s.Again t) h = absurd h
stop_last l (s.Open k) h = absurd h
stop_last l s.Close h = absurd h

stop_busy : (S : List Shape) (E : ℕ → Type 0) (p : ℕ) (l : Level) (j : Shape) → IsStop l j → TurnsBusy S E p j
stop_busy S E p l s.Fail h = tt
stop_busy S E p l s.Return h = tt
stop_busy S E p l (s.Straight b w) h = absurd h
stop_busy S E p l (s.Call m) h = absurd h
stop_busy S E p l (s.Jump t) h = absurd h
stop_busy S E p l (s.Branch t) h = absurd h
stop_busy S E p l (s.While t) h = absurd h
stop_busy S E p l (s.Again t) h = absurd h
stop_busy S E p l (s.Open k) h = absurd h
stop_busy S E p l s.Close h = absurd h

none_outside : (bs : List Bracket) (l : Level) → l ≡ Outside → IsLevel l bs → IsOutside (Some bs)
none_outside bs l e h = let n = outside_is bs (subst (λ x. IsLevel x bs) e h) in subst (λ x. IsOutside (Some x)) (sym n) (refl, refl)

stop_stands : (bs : List Bracket) (l : Level) (j : Shape) → IsLevel l bs → IsStop l j → StandsWell (Some bs) j
stop_stands bs l s.Fail e h = tt
stop_stands bs Outside s.Return e h = none_outside bs Outside refl e
stop_stands bs InWindow s.Return e h = absurd h
stop_stands bs InLoop s.Return e h = absurd h
stop_stands bs l (s.Straight b w) e h = absurd h
stop_stands bs l (s.Call m) e h = absurd h
stop_stands bs l (s.Jump t) e h = absurd h
stop_stands bs l (s.Branch t) e h = absurd h
stop_stands bs l (s.While t) e h = absurd h
stop_stands bs l (s.Again t) e h = absurd h
stop_stands bs l (s.Open k) e h = absurd h
stop_stands bs l s.Close e h = absurd h

window_stands : (bs : List Bracket) → IsLevel InWindow bs → (in_window (Some bs) ≡ true) × (in_loop (Some bs) ≡ false)
window_stands [] h = absurd h
window_stands (Opened o k ∷ []) h = (refl, refl)
window_stands (Opened o k ∷ b ∷ bs) h = absurd h
window_stands (Looping l ∷ bs) h = absurd h

-- no way on which no byte is taken
pub not_idle : (E : ℕ → Type 0) (o : Option (List Bracket)) (j : Shape) → Takes E j → IsIdle E o j → ⊥
not_idle E o (s.Straight b w) t d = let x : b ≡ 0 = d in omega (arith, t, x)
not_idle E o (s.Call m) t d = t d
not_idle E o (s.Jump x) t d = t
not_idle E o (s.Branch x) t d = t
not_idle E o s.Return t d = t
not_idle E o s.Fail t d = t
not_idle E o (s.While x) t d = t
not_idle E o (s.Again x) t d = t
not_idle E o (s.Open k) t d = t
not_idle E o s.Close t d = t

busy_from : (c : Parts) (E : ℕ → Type 0) (p t : ℕ) (j : Instr) → instruction_of c p ≡ j → Takes E (shape j) → p < t → IdleWay (shapes_of c) E p t → ⊥
busy_from c E p t j e takes lt w =
    let there = w (λ q. nat_eq q p)
    (λ a q l leads idle m. let same : a ≡ p = only_here a p m in
    absurd (not_idle E (opened (shapes_of c) a) (shape j) takes (subst (IsIdle E (opened (shapes_of c) a)) (ap (shape_at (shapes_of c)) same ∙ shape_is c p j e) idle)))
    (here_is p) in
    let same : t ≡ p = only_here t p there in
    omega (arith, lt, same)

busy_body : (c : Parts) (E : ℕ → Type 0) (body : Block) (p x : ℕ) → BeginsBusy E body → Stands c p x body → IdleWay (shapes_of c) E p (p + size body) → ⊥
busy_body c E (Then j b) p x h st w = busy_from c E p (p + (1 + size b)) j st.0 h (omega arith) w
busy_body c E Done p x h st w = h
busy_body c E (Stop j) p x h st w = h
busy_body c E Leave p x h st w = h
busy_body c E (Guard g r one rest) p x h st w = h
busy_body c E (Scope body rest) p x h st w = h
busy_body c E (Window j site body rest) p x h st w = h
busy_body c E (Loop body rest) p x h st w = h

-- what follows
follow_lt : (end m : ℕ) (l : Level) (b : Block) → IsFollowed end (m + size b) l b → m < end
follow_lt end m l b (inl h) = omega arith
follow_lt end m l b (inr h) = let k = ends_some b h.1 in let e = h.0 in omega (arith, k, e)

-- a block whose last part is another
follow_rest : (end q r : ℕ) (l : Level) (b rest : Block) → q ≡ r → (Ends b → Ends rest) → IsFollowed end q l b → IsFollowed end r l rest
follow_rest end q r l b rest e f (inl h) = inl (omega arith)
follow_rest end q r l b rest e f (inr h) = inr (sym e ∙ h.0, f h.1, h.2)

exit_at : (c : Parts) (end q r x : ℕ) (bs : List Bracket) (v : Bool) → r ≤ q → (v ≡ true → IsExit c end q x bs) → v ≡ true → IsExit c end r x bs
exit_at c end q r x bs v h f e = let k = f e in let a = k.later in record { later = omega (arith, a); within = k.within; same = k.same }

no_exit : (c : Parts) (end q x : ℕ) (bs : List Bracket) → false ≡ true → IsExit c end q x bs
no_exit c end q x bs e = absurd (cc)

fine_guard : (c : Parts) (E : ℕ → Type 0) (depth : ℕ → ℕ) (n end p : ℕ) (g : Bool) (r t : ℕ) → instruction_of c p ≡ guard g r t → p < t → t < end → opened (shapes_of c) t ≡ opened (shapes_of c) p → r < (routine_of c n).registers → IsFine c E depth n end p
fine_guard c E depth n end p true r t e a b o h = fine_at c E depth n end p (i.JumpIf r t) e (record { later = a; within = b; same = o }) (λ z. absurd (omega (arith, z))) tt (λ z. absurd (omega (arith, z))) tt (record { registers = h; tables = (tt, tt); operands = tt; calls = tt })
fine_guard c E depth n end p false r t e a b o h = fine_at c E depth n end p (i.JumpUnless r t) e (record { later = a; within = b; same = o }) (λ z. absurd (omega (arith, z))) tt (λ z. absurd (omega (arith, z))) tt (record { registers = h; tables = (tt, tt); operands = tt; calls = tt })

bare : (c : Parts) (depth : ℕ → ℕ) (n t : ℕ) → IsFit c depth n (i.Jump t)
bare c depth n t = record { registers = tt; tables = (tt, tt); operands = tt; calls = tt }

open_stands : (bs : List Bracket) (l : Level) (j : Shape) → IsOpen j → l ≡ Outside → IsLevel l bs → StandsWell (Some bs) j
open_stands bs l (s.Open k) h e le = (none_outside bs l e le).0
open_stands bs l (s.Straight b w) h e le = absurd h
open_stands bs l (s.Call m) h e le = absurd h
open_stands bs l (s.Jump t) h e le = absurd h
open_stands bs l (s.Branch t) h e le = absurd h
open_stands bs l s.Return h e le = absurd h
open_stands bs l s.Fail h e le = absurd h
open_stands bs l (s.While t) h e le = absurd h
open_stands bs l (s.Again t) h e le = absurd h
open_stands bs l s.Close h e le = absurd h

open_leads : (S : List Shape) (end p : ℕ) (j : Shape) → IsOpen j → LeadsWell S end p j
open_leads S end p (s.Open k) h = tt
open_leads S end p (s.Straight b w) h = absurd h
open_leads S end p (s.Call m) h = absurd h
open_leads S end p (s.Jump t) h = absurd h
open_leads S end p (s.Branch t) h = absurd h
open_leads S end p s.Return h = absurd h
open_leads S end p s.Fail h = absurd h
open_leads S end p (s.While t) h = absurd h
open_leads S end p (s.Again t) h = absurd h
open_leads S end p s.Close h = absurd h

open_busy : (S : List Shape) (E : ℕ → Type 0) (p : ℕ) (j : Shape) → IsOpen j → TurnsBusy S E p j
open_busy S E p (s.Open k) h = tt
open_busy S E p (s.Straight b w) h = absurd h
open_busy S E p (s.Call m) h = absurd h
open_busy S E p (s.Jump t) h = absurd h
open_busy S E p (s.Branch t) h = absurd h
open_busy S E p s.Return h = absurd h
open_busy S E p s.Fail h = absurd h
open_busy S E p (s.While t) h = absurd h
open_busy S E p (s.Again t) h = absurd h
open_busy S E p s.Close h = absurd h

stand : (c : Parts) (p : ℕ) (bs : List Bracket) (j : Shape) → opened (shapes_of c) p ≡ Some bs → StandsWell (Some bs) j → StandsWell (opened (shapes_of c) p) j
stand c p bs j o h = subst (λ x. StandsWell x j) (sym o) h

pub fine : (c : Parts) (E : ℕ → Type 0) (depth : ℕ → ℕ) (n end : ℕ) (b : Block) (l : Level) (v : Bool) (p x : ℕ) (bs : List Bracket)
    → Stands c p x b → Nests E l v b → Fits c depth n b → IsLevel l bs → opened (shapes_of c) p ≡ Some bs
    → IsFollowed end (p + size b) l b → (v ≡ true → IsExit c end (p + size b) x bs)
    → (q : ℕ) → p ≤ q → q < p + size b → IsFine c E depth n end q
fine c E depth n end Done l v p x bs st ne fi le o fo ex = λ q a z. absurd (omega arith)
fine c E depth n end (Then j b) l v p x bs st ne fi le o fo ex =
    let fo' = follow_rest end (p + (1 + size b)) (p + 1 + size b) l (Then j b) b (omega arith) (λ h. h) fo in
    let lt = follow_lt end (p + 1) l b fo' in
    split p (p + 1) (p + (1 + size b)) (IsFine c E depth n end)
    (single p (IsFine c E depth n end) (fine_at c E depth n end p j st.0 (plain_leads (shapes_of c) end p (shape j) ne.0) (λ z. absurd (omega (arith, z, lt))) (plain_stands (opened (shapes_of c) p) (shape j) ne.0) (λ z. absurd (omega (arith, z, lt))) (plain_busy (shapes_of c) E p (shape j) ne.0) fi.0))
    (λ q a z. fine c E depth n end b l v (p + 1) x bs st.1 ne.1 fi.1 le (opened_plain c p j bs st.0 ne.0 o) fo' (exit_at c end (p + (1 + size b)) (p + 1 + size b) x bs v (omega arith) ex) q a (omega arith))
fine c E depth n end (Stop j) l v p x bs st ne fi le o fo ex =
    single p (IsFine c E depth n end)
    (fine_at c E depth n end p j st (stop_leads (shapes_of c) end p l (shape j) ne) (λ z. stop_last l (shape j) ne) (stand c p bs (shape j) o (stop_stands bs l (shape j) le ne))
    (λ z. ⊎_elim
    (λ (lt : p + 1 < end). absurd (omega (arith, z)))
    (λ (h : (p + 1 ≡ end) × Ends (Stop j) × (l ≡ Outside)). subst IsOutside (sym (subst (λ y. opened (shapes_of c) y ≡ Some bs) z (opened_stop c p l j bs st ne o))) (none_outside bs l h.2 le))
    fo)
    (stop_busy (shapes_of c) E p l (shape j) ne) fi)
fine c E depth n end Leave l v p x bs st ne fi le o fo ex =
    let e = ex ne in
    let a = e.later in
    let w = e.within in
    single p (IsFine c E depth n end)
    (fine_at c E depth n end p (i.Jump x) st (record { later = omega (arith, a); within = w; same = e.same ∙ sym o }) (λ z. tt) tt (λ z. absurd (omega (arith, a, w, z))) tt (bare c depth n x))
fine c E depth n end (Guard g r one rest) l v p x bs st ne fi le o fo ex =
    let m = p + 1 + size one in
    let fo' = follow_rest end (p + (1 + (size one + size rest))) (m + size rest) l (Guard g r one rest) rest (omega arith) (λ h. h) fo in
    let lt = follow_lt end m l rest fo' in
    let o' = opened_guard c p g r m bs st.0 o in
    let om = through c E one l v (p + 1) x bs st.1 ne.0 le o' in
    split p (p + 1) (p + (1 + (size one + size rest))) (IsFine c E depth n end)
    (single p (IsFine c E depth n end) (fine_guard c E depth n end p g r m st.0 (omega arith) lt (om ∙ sym o) fi.0))
    (split (p + 1) m (p + (1 + (size one + size rest))) (IsFine c E depth n end)
    (fine c E depth n end one l v (p + 1) x bs st.1 ne.0 fi.1 le o' (inl lt) (exit_at c end (p + (1 + (size one + size rest))) m x bs v (omega arith) ex))
    (λ q a z. fine c E depth n end rest l v m x bs st.2 ne.1 fi.2 le om fo' (exit_at c end (p + (1 + (size one + size rest))) (m + size rest) x bs v (omega arith) ex) q a (omega arith)))
fine c E depth n end (Scope body rest) l v p x bs st ne fi le o fo ex =
    let m = p + size body in
    let fo' = follow_rest end (p + (size body + size rest)) (m + size rest) l (Scope body rest) rest (omega arith) (λ h. h) fo in
    let lt = follow_lt end m l rest fo' in
    let om = through c E body l true p m bs st.0 ne.0 le o in
    split p m (p + (size body + size rest)) (IsFine c E depth n end)
    (fine c E depth n end body l true p m bs st.0 ne.0 fi.0 le o (inl lt) (λ z. record { later = omega arith; within = lt; same = om }))
    (λ q a z. fine c E depth n end rest l v m x bs st.1 ne.1 fi.1 le om fo' (exit_at c end (p + (size body + size rest)) (m + size rest) x bs v (omega arith) ex) q a (omega arith))
fine c E depth n end (Window j site body rest) l v p x bs st ne fi le o fo ex =
    let m = p + 1 + size body in
    let e = p + (1 + (size body + (1 + size rest))) in
    let fo' = follow_rest end e (m + 1 + size rest) l (Window j site body rest) rest (omega arith) (λ h. h) fo in
    let lt = follow_lt end (m + 1) l rest fo' in
    let w = opened_window c p j bs st.0 ne.1 o in
    let lw = in_window_level p w.0 bs l ne.0 le in
    let om = through c E body InWindow false (p + 1) x (Opened p w.0 ∷ bs) st.1 ne.2 lw w.1 in
    let od : opened (shapes_of c) (m + 1) ≡ Some bs = opened_after c m (i.Widen site) (Opened p w.0 ∷ bs) st.2 om in
    split p (p + 1) e (IsFine c E depth n end)
    (single p (IsFine c E depth n end) (fine_at c E depth n end p j st.0 (open_leads (shapes_of c) end p (shape j) ne.1) (λ z. absurd (omega (arith, z, lt))) (stand c p bs (shape j) o (open_stands bs l (shape j) ne.1 ne.0 le)) (λ z. absurd (omega (arith, z, lt))) (open_busy (shapes_of c) E p (shape j) ne.1) fi.0))
    (split (p + 1) m e (IsFine c E depth n end)
    (fine c E depth n end body InWindow false (p + 1) x (Opened p w.0 ∷ bs) st.1 ne.2 fi.1 lw w.1 (inl (omega (arith, lt))) (no_exit c end m x (Opened p w.0 ∷ bs)))
    (split m (m + 1) e (IsFine c E depth n end)
    (single m (IsFine c E depth n end) (fine_at c E depth n end m (i.Widen site) st.2 tt (λ z. absurd (omega (arith, z, lt))) (stand c m (Opened p w.0 ∷ bs) s.Close om (window_stands (Opened p w.0 ∷ bs) lw)) (λ z. absurd (omega (arith, z, lt))) tt (record { registers = tt; tables = fi.2; operands = tt; calls = tt })))
    (λ q a z. fine c E depth n end rest l v (m + 1) x bs st.3 ne.3 fi.3 le od fo' (exit_at c end e (m + 1 + size rest) x bs v (omega arith) ex) q a (omega arith))))
fine c E depth n end (Loop body rest) l v p x bs st ne fi le o fo ex =
    let m = p + 1 + size body in
    let e = p + (1 + (size body + (1 + size rest))) in
    let fo' = follow_rest end e (m + 1 + size rest) l (Loop body rest) rest (omega arith) (λ h. h) fo in
    let lt = follow_lt end (m + 1) l rest fo' in
    let ow : opened (shapes_of c) (p + 1) ≡ Some (Looping p ∷ bs) = opened_after c p (i.While (m + 1)) bs st.0 o in
    let ll = in_loop_level p bs l ne.0 le in
    let om = through c E body InLoop false (p + 1) x (Looping p ∷ bs) st.1 ne.2 ll ow in
    let od : opened (shapes_of c) (m + 1) ≡ Some bs = opened_after c m (i.Again p) (Looping p ∷ bs) st.2 om in
    let back : m + 1 - 1 ≡ m = omega arith in
    let again : IsAgain (shape_at (shapes_of c) (m + 1 - 1)) = subst (λ y. IsAgain (shape_at (shapes_of c) y)) (sym back) (subst IsAgain (sym (shape_is c m (i.Again p) st.2)) tt) in
    let own : innermost (opened (shapes_of c) (m + 1 - 1)) ≡ Within (Looping p) = ap (λ y. innermost (opened (shapes_of c) y)) back ∙ ap innermost om in
    let stands : StandsWell (Some bs) (s.While (m + 1)) = window_stands bs (subst (λ y. IsLevel y bs) ne.0 le) in
    split p (p + 1) e (IsFine c E depth n end)
    (single p (IsFine c E depth n end) (fine_at c E depth n end p (i.While (m + 1)) st.0 (record { later = omega arith; within = omega (arith, lt); again = again; own = own }) (λ z. absurd (omega (arith, z, lt))) (stand c p bs (s.While (m + 1)) o stands) (λ z. absurd (omega (arith, z, lt)))
    (λ w. busy_body c E body (p + 1) x ne.1 st.1 (subst (IdleWay (shapes_of c) E (p + 1)) back w)) (record { registers = tt; tables = (tt, tt); operands = tt; calls = tt })))
    (split (p + 1) m e (IsFine c E depth n end)
    (fine c E depth n end body InLoop false (p + 1) x (Looping p ∷ bs) st.1 ne.2 fi.0 ll ow (inl (omega (arith, lt))) (no_exit c end m x (Looping p ∷ bs)))
    (split m (m + 1) e (IsFine c E depth n end)
    (single m (IsFine c E depth n end) (fine_at c E depth n end m (i.Again p) st.2 (ap innermost om) (λ z. absurd (omega (arith, z, lt))) tt (λ z. absurd (omega (arith, z, lt))) tt (record { registers = tt; tables = (tt, tt); operands = tt; calls = tt })))
    (λ q a z. fine c E depth n end rest l v (m + 1) x bs st.3 ne.3 fi.1 le od fo' (exit_at c end e (m + 1 + size rest) x bs v (omega arith) ex) q a (omega arith))))
