-- A failure of verified code has no more frames than its routine is deep.
use Rattle.std.proofs.Common.{◌≡◌, ℕ, zero, suc, ◌+◌, ◌-◌, ◌/◌, ◌<◌, ◌≤◌, min, Bool, true, false, cond, List, [], ◌∷◌, ◌++◌, length, length-append, Option, Some, None, refl, sym, ap, ◌∙◌, subst, arith, take, drop}
use Rattle.std.specs.Prelude.{◌%◌, nat_eq, nat_lt, slice_get, slice_range}
use Rattle.std.proofs.lemmas.Bool.{eqb-true, eqb-false}
use Rattle.std.proofs.lemmas.Option.{get_or_from_slice_get}
use Rattle.td_num.specs.Lists.{Each, first_where}
use Rattle.td_num.specs.Numbers.{places_from}
use Rattle.td_core.specs.declared.outcome.Reason.{Reason}
use Rattle.td_core.specs.declared.outcome.Reason.TheVariants.{ListSize}
use Rattle.td_core.specs.declared.outcome.TraceFrame.{TraceFrame}
use Rattle.td_ir.specs.declared.instructions.Instr.{Instr}
use Rattle.td_ir.specs.declared.instructions.Instr.TheVariants as i
use Rattle.td_ir.specs.declared.tables.Parts.{Parts}
use Rattle.td_ir.specs.Tables.{instruction_of, routine_of, entry_of, cells_by, first_of, end_of}
use Rattle.td_ir.specs.Values.{numbers_from, is_zero, is_nonzero}
use Rattle.td_ir.specs.State.{State, reg, registers_from, left, Way, Returned, Turned, Failed, Stuck, Exit, at_once}
use Rattle.td_ir.specs.Flow.{Flow, Goes, Fails, Calls, Returns, Loops, Turns, Effect, effect, has_bytes, zeros_flow, zeroterm_flow, where_so}
use Rattle.td_ir.specs.Run.{Callees, frame, back, back_by, again, again_by, turns, led, pick, goes, exits, places_by, entered, started, below, block}
use Rattle.td_verify.specs.Shape.{shape}
use Rattle.td_verify.specs.Verify.{IsIn, IsSound}
use Rattle.td_verify.proofs.Sums.{shape_there}
use Rattle.td_prog_laws.specs.Frames.{FewFrames}
use Rattle.td_prog_laws.proofs.Depths.{depth, depth_lower, depth_few}

-- a failure has at most so many frames
abbrev HasFrames : ℕ → Way → Type 0
HasFrames d (Returned pos cells) = Unit {0}
HasFrames d (Turned t) = Unit {0}
HasFrames d (Failed reason pos trace cells) = length trace ≤ d
HasFrames d Stuck = Unit {0}

abbrev pub Few : ℕ → (State → Exit) → Type 0
Few d f = (s : State) → HasFrames d (f s).way

-- a call's exit, in a caller of depth d
abbrev CallsFew : ℕ → Callees → Instr → Type 0
CallsFew d calls (i.Call first m map site) = (e : ℕ) × (e + 1 ≤ d) × Few e (calls first m map)
CallsFew d calls j = Unit {0}

-- only a Call calls
abbrev CallsBy : Instr → Flow → Type 0
CallsBy j (Goes target s) = Unit {0}
CallsBy j (Fails reason site pos s) = Unit {0}
CallsBy j (Calls first m map site s) = j ≡ i.Call first m map site
CallsBy j (Returns s) = Unit {0}
CallsBy j (Loops target s) = Unit {0}
CallsBy j (Turns s) = Unit {0}

either_effect : (P : Flow → Type 0) (b : Bool) (x y : Effect) → P x.flow → P y.flow → P (cond b x y).flow
either_effect P true x y h k = h
either_effect P false x y h k = k

either : (P : Flow → Type 0) (b : Bool) (x y : Flow) → P x → P y → P (cond b x y)
either P true x y h k = h
either P false x y h k = k

zeros_call : (j : Instr) (next site : ℕ) (o : Option ℕ) (s : State) → CallsBy j (zeros_flow next site o s)
zeros_call j next site None s = tt
zeros_call j next site (Some k) s = tt

zeroterm_call : (j : Instr) (next site width bound room : ℕ) (o : Option ℕ) (s : State) → CallsBy j (zeroterm_flow next site width bound room o s)
zeroterm_call j next site width bound room None s = tt
zeroterm_call j next site width bound room (Some k) s = tt

module _ (c : Parts) (n : ℕ) (message places : List ℕ) where
  abbrev flow_of : ℕ → Instr → State → Flow
  flow_of pc j s = (effect c n message places pc j s).flow

  test_call : (j : Instr) (b : Bool) (next : ℕ) (s : State) (reason : Reason) (site : ℕ) → CallsBy j (where_so b next s reason site)
  test_call j true next s reason site = tt
  test_call j false next s reason site = tt

  calls_by : (pc : ℕ) (j : Instr) (s : State) → CallsBy j (flow_of pc j s)
  calls_by pc (i.Call first m map site) s = refl
  calls_by pc (i.JumpIf test target) s = either (CallsBy (i.JumpIf test target)) (nat_eq (reg s test) 0) _ _ tt tt
  calls_by pc (i.JumpUnless test target) s = either (CallsBy (i.JumpUnless test target)) (nat_eq (reg s test) 0) _ _ tt tt
  calls_by pc (i.Fetch into order width site) s = either_effect (CallsBy (i.Fetch into order width site)) (has_bytes s width) _ _ tt tt
  calls_by pc (i.SkipK bytes site) s = either (CallsBy (i.SkipK bytes site)) (has_bytes s bytes) _ _ tt tt
  calls_by pc (i.Skip size site) s = either (CallsBy (i.Skip size site)) (has_bytes s (reg s size)) _ _ tt tt
  calls_by pc (i.Zeros site) s = zeros_call (i.Zeros site) (pc + 1) site (first_where is_nonzero (numbers_from message s.pos 1 (left s))) s
  calls_by pc (i.Zeroterm bound width site) s =
      zeroterm_call (i.Zeroterm bound width site) (pc + 1) site width (reg s bound / width) (left s / width) (first_where is_zero (numbers_from message s.pos width (min (reg s bound / width) (left s / width)))) s
  calls_by pc (i.NarrowK bytes site) s = either (CallsBy (i.NarrowK bytes site)) (has_bytes s bytes) _ _ tt tt
  calls_by pc (i.Narrow size site) s = either (CallsBy (i.Narrow size site)) (has_bytes s (reg s size)) _ _ tt tt
  calls_by pc (i.Divides size step site) s = test_call (i.Divides size step site) (nat_eq (reg s size % step) 0) (pc + 1) s ListSize site
  calls_by pc (i.Widen site) s = either (CallsBy (i.Widen site)) (nat_eq s.pos s.end) _ _ tt tt
  calls_by pc (i.Copy size buffer site) s = either_effect (CallsBy (i.Copy size buffer site)) (has_bytes s (reg s size)) _ _ tt tt
  calls_by pc j s = tt

-- an exit in front of others
again_few : (d : ℕ) (go : State → Exit) (e : Exit) → Few d go → HasFrames d e.way → HasFrames d (again go e).way
again_few d go e f h = by e.touched e.steps e.way h
  where
    by : (touched : List ℕ) (steps : ℕ) (w : Way) → HasFrames d w → HasFrames d (again_by go touched steps w).way
    by touched steps (Returned pos cells) h = tt
    by touched steps (Turned t) h = f t
    by touched steps (Failed reason pos trace cells) h = h
    by touched steps Stuck h = tt

choose : (d : ℕ) (b : Bool) (x y : Exit) → HasFrames d x.way → HasFrames d y.way → HasFrames d (cond b x y).way
choose d true x y h k = h
choose d false x y h k = k

turns_few : (d k : ℕ) (body behind : State → Exit) → Few d body → Few d behind → Few d (turns k body behind)
turns_few d zero body behind f g s = g s
turns_few d (suc k) body behind f g s = choose d (nat_eq s.pos s.end) (behind s) (again (turns k body behind) (body s)) (g s) (again_few d (turns k body behind) (body s) (turns_few d k body behind f g) (f s))

length_more : (xs : List TraceFrame) (y : TraceFrame) → length (xs ++ y ∷ []) ≡ length xs + 1
length_more xs y = length-append xs (y ∷ [])

-- back in a caller of depth d
back_few : (c : Parts) (site : ℕ) (s : State) (go : State → Exit) (d e : ℕ) (x : Exit) → e + 1 ≤ d → Few d go → HasFrames e x.way → HasFrames d (back c site s go x).way
back_few c site s go d e x l f h = by x.touched x.steps x.way h
  where
    by : (touched : List ℕ) (steps : ℕ) (w : Way) → HasFrames e w → HasFrames d (back_by c site s go touched steps w).way
    by touched steps (Returned pos cells) h = f (record s { cells = cells; pos = pos })
    by touched steps (Turned t) h = tt
    by touched steps (Failed reason pos trace cells) h = let m = length_more trace (frame c site s reason) in omega (arith, m, h, l)
    by touched steps Stuck h = tt

module _ (c : Parts) (n : ℕ) (message places : List ℕ) (calls : Callees) (d : ℕ) (some : 1 ≤ d) where
  abbrev AllFew : List (State → Exit) → Type 0
  AllFew fs = Each (Few d) fs

  pick_few : (fs : List (State → Exit)) → AllFew fs → (k : ℕ) → Few d (pick fs k)
  pick_few [] h k s = tt
  pick_few (f ∷ fs) h zero s = h.0 s
  pick_few (f ∷ fs) h (suc k) s = pick_few fs h.1 k s

  goes_few : (pc : ℕ) (fs : List (State → Exit)) → AllFew fs → (t : ℕ) → Few d (goes pc fs t)
  goes_few pc fs h t s = choose d (nat_lt pc t) (pick fs (t - (pc + 1)) s) (at_once Stuck) (pick_few fs h (t - (pc + 1)) s) tt

  led_few : (pc : ℕ) (j : Instr) (fs : List (State → Exit)) → AllFew fs → CallsFew d calls j → (f : Flow) → CallsBy j f → HasFrames d (led c calls pc (goes pc fs) f).way
  led_few pc j fs h k (Goes target s) b = goes_few pc fs h target s
  led_few pc j fs h k (Fails reason site pos s) b = some
  led_few pc j fs h k (Calls first m map site s) b =
      let x : CallsFew d calls (i.Call first m map site) = subst (CallsFew d calls) b k in
      back_few c site s (goes pc fs (pc + 1)) d x.0 (calls first m map s) x.1 (goes_few pc fs h (pc + 1)) (x.2 s)
  led_few pc j fs h k (Returns s) b = tt
  led_few pc j fs h k (Loops target s) b = turns_few d (suc (left s)) (goes pc fs (pc + 1)) (goes pc fs target) (goes_few pc fs h (pc + 1)) (goes_few pc fs h target) s
  led_few pc j fs h k (Turns s) b = tt

  exits_few : (pc : ℕ) (js : List Instr) → Each (CallsFew d calls) js → AllFew (exits c n message places calls pc js)
  exits_few pc [] k = tt
  exits_few pc (j ∷ js) k =
      let rest = exits_few (pc + 1) js k.1 in
      ((λ s. led_few pc j (exits c n message places calls (pc + 1) js) rest k.0 (flow_of c n message places pc j s) (calls_by c n message places pc j s)), rest)

-- each of a range
each_front : {A : Type 0} (P : A → Type 0) (n : ℕ) (xs : List A) → ((p : ℕ) (x : A) → slice_get xs p ≡ Some x → p < n → P x) → Each P (take n xs)
each_front P zero xs f = tt
each_front P (suc n) [] f = tt
each_front P (suc n) (x ∷ xs) f = (f 0 x refl (omega arith), each_front P n xs (λ p y e l. f (suc p) y e (omega (arith, l))))

pub each_behind : {A : Type 0} (P : A → Type 0) (n a : ℕ) (xs : List A) → ((p : ℕ) (x : A) → slice_get xs p ≡ Some x → a ≤ p → p < a + n → P x) → Each P (take n (drop a xs))
each_behind P n zero xs f = each_front P n xs (λ p x e l. f p x e (omega arith) (omega (arith, l)))
each_behind P zero (suc a) [] f = tt
each_behind P (suc n) (suc a) [] f = tt
each_behind P n (suc a) (x ∷ xs) f = each_behind P n a xs (λ p y e l m. f (suc p) y e (omega (arith, l)) (omega (arith, m)))

module _ (c : Parts) (sound : IsSound c) (message : List ℕ) where
  abbrev callees : ℕ → List ℕ → Callees
  callees k places first m cells t = below c message k m (places_by places (cells_by c k m cells)) (entered (routine_of c m) (registers_from t.regs first (routine_of c m).params) t)

  -- the calls of a routine, where runs of lower routines have few frames
  routine_calls : (k : ℕ) (places : List ℕ) → k < length c.routines → ((m : ℕ) (places : List ℕ) → m < k → Few (depth c m) (below c message k m places)) → Each (CallsFew (depth c k) (callees k places)) (slice_range c.instructions (first_of c k) (end_of c k))
  routine_calls k places l f =
      each_behind (CallsFew (depth c k) (callees k places)) (end_of c k - first_of c k) (first_of c k) c.instructions (λ p j e a b. by p j e (record { routine = l; from = a; to = omega (arith, a, b) }))
    where
      by : (p : ℕ) (j : Instr) → slice_get c.instructions p ≡ Some j → IsIn c k p → CallsFew (depth c k) (callees k places) j
      by p (i.Call first m map site) e place =
          let is : instruction_of c p ≡ i.Call first m map site = get_or_from_slice_get c.instructions p (i.Call first m map site) (i.Fail 0 0) e in
          let q = depth_lower c sound k m p place (shape_there c p ∙ ap shape is) in
          (depth c m, q.1, λ t. f m (places_by places (cells_by c k m map)) q.0 (entered (routine_of c m) (registers_from t.regs first (routine_of c m).params) t))
      by p j e place = tt

  depth_some : (n : ℕ) → 1 ≤ depth c n
  depth_some n = omega arith

  below_next : (k n : ℕ) (places : List ℕ) (s : State) → k < length c.routines → ((m : ℕ) (places : List ℕ) → m < k → Few (depth c m) (below c message k m places)) → n < suc k
      → (b : Bool) → nat_eq n k ≡ b
      → HasFrames (depth c n) (cond b (pick (exits c k message places (callees k places) (first_of c k) (slice_range c.instructions (first_of c k) (end_of c k))) 0 s) (below c message k n places s)).way
  below_next k n places s l lower h true e =
      let same : n ≡ k = eqb-true n k e in
      let js = slice_range c.instructions (first_of c k) (end_of c k) in
      let fs = exits c k message places (callees k places) (first_of c k) js in
      subst (λ m. HasFrames (depth c m) (pick fs 0 s).way) (sym same)
      (pick_few c k message places (callees k places) (depth c k) (depth_some k) fs
      (exits_few c k message places (callees k places) (depth c k) (depth_some k) (first_of c k) js (routine_calls k places l lower)) 0 s)
  below_next k n places s l lower h false e = let apart = eqb-false n k e in lower n places (omega (arith, h, apart)) s

  below_few : (k n : ℕ) (places : List ℕ) → k ≤ length c.routines → n < k → Few (depth c n) (below c message k n places)
  below_few zero n places l h s = tt
  below_few (suc k) n places l h s = below_next k n places s (omega (arith, l)) (λ m ps lower. below_few k m ps (omega (arith, l)) lower) h (nat_eq n k) refl

  block_few : (n : ℕ) (places : List ℕ) → n < length c.routines → Few (depth c n) (block c message n places (first_of c n))
  block_few n places l s =
      let js = slice_range c.instructions (first_of c n) (end_of c n) in
      pick_few c n message places (callees n places) (depth c n) (depth_some n) (exits c n message places (callees n places) (first_of c n) js)
      (exits_few c n message places (callees n places) (depth c n) (depth_some n) (first_of c n) js (routine_calls n places l (λ m ps lower. below_few n m ps (omega (arith, l)) lower))) 0 s

pub few_frames : FewFrames
few_frames c entry args cells message reason pos trace out code sound there e =
    let n = (entry_of c entry.number).routine in
    let l = (code.entries entry.number there).there in
    let h = block_few c sound message n (places_from 0 (length cells)) l (entered (routine_of c n) args (started cells message)) in
    let d = depth_few c sound n l in
    let k : length trace ≤ depth c n = subst (HasFrames (depth c n)) e h in
    omega (arith, k, d)
