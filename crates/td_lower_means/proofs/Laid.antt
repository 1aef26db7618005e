-- A block that stands in code does there what the block does.
use Rattle.std.proofs.Common.{◌≡◌, ℕ, zero, suc, ◌+◌, ◌<◌, ◌≤◌, Bool, true, false, cond, List, [], length, refl, ap, ◌∙◌, arith, nat_eq, Option, Some, None}
use Rattle.std.proofs.lemmas.Bool.{false≢true}
use Rattle.td_lower_means.specs.Imports.{Reason, Parts, Instr}
use Rattle.td_ir.specs.declared.instructions.Instr.TheVariants as i
use Rattle.td_ir.specs.Tables.{instruction_of, end_of}
use Rattle.td_ir.specs.State.{State, reg, left, Way, Returned, Turned, Failed, Stuck, Exit}
use Rattle.td_ir.specs.Flow.{Goes, Fails, Effect, effect, where_so, zeros_flow, zeroterm_flow}
use Rattle.td_ir.specs.Run as run
use Rattle.td_ir.proofs.Blocks.{jump, jump_to}
use Rattle.td_lower_blocks.specs.Block.{Block, Done, Then, Stop, Leave, Guard, Scope, Window, Loop, size, guard, Stands, Ends}
use Rattle.td_lower_blocks.proofs.Ending.{ends_some}
use Rattle.td_lower_means.proofs.BlockRun.{Passage, passage, plainly, touching, onwards, back, backward, turned, again, turns, Calling, nowhere, passes, guarded, ran}
use Rattle.td_lower_means.proofs.Unfolding.{opened}

-- it leads to the next instruction alone
abbrev pub IsOnward : Instr → Type 0
IsOnward (i.Jump t) = ⊥
IsOnward (i.JumpIf r t) = ⊥
IsOnward (i.JumpUnless r t) = ⊥
IsOnward (i.While t) = ⊥
IsOnward j = Unit {0}

abbrev pub IsLast : Instr → Type 0
IsLast i.Return = Unit {0}
IsLast (i.Fail x site) = Unit {0}
IsLast j = ⊥

-- what each instruction of a block may be; scopes are left within them
abbrev pub Forms : Bool → Block → Type 0
Forms leaves Done = Unit {0}
Forms leaves (Then j b) = IsOnward j × Forms leaves b
Forms leaves (Stop j) = IsLast j
Forms leaves Leave = leaves ≡ true
Forms leaves (Guard g r one rest) = Forms leaves one × Forms leaves rest
Forms leaves (Scope body rest) = Forms true body × Forms leaves rest
Forms leaves (Window j site body rest) = IsOnward j × (Forms false body × Forms leaves rest)
Forms leaves (Loop body rest) = Forms false body × Forms leaves rest

module _ (T : Parts) (message places : List ℕ) (n : ℕ) (room : end_of T n ≤ length T.instructions) where
  abbrev from : ℕ → State → Passage
  from pc s = passage (run.block T message n places pc s)

  abbrev calling : Calling
  calling first m k s = passage (run.calls_of T message n places first m k s)

  abbrev led : ℕ → (ℕ → State → Exit) → Effect → Passage
  led pc to e = passage (run.follow T (run.calls_of T message n places) pc to e)

  back_is : (site : ℕ) (s : State) (to : State → Exit) (go : State → Passage) → ((t : State) → passage (to t) ≡ go t) → (e : Exit) → passage (run.back T site s to e) ≡ back T site s go (passage e)
  back_is site s to go h e = by e.way
    where
      by : (w : Way) → passage (run.back_by T site s to e.touched e.steps w) ≡ backward T site s go e.touched w
      by (Returned pos cells) = ap (touching e.touched) (h (record s { cells = cells; pos = pos }))
      by (Turned t) = refl
      by (Failed reason pos trace cells) = refl
      by Stuck = refl

  again_is : (to : State → Exit) (go : State → Passage) → ((t : State) → passage (to t) ≡ go t) → (e : Exit) → passage (run.again to e) ≡ again go (passage e)
  again_is to go h e = by e.way
    where
      by : (w : Way) → passage (run.again_by to e.touched e.steps w) ≡ turned go e.touched w
      by (Returned pos cells) = refl
      by (Turned t) = ap (touching e.touched) (h t)
      by (Failed reason pos trace cells) = refl
      by Stuck = refl

  either_is : (b : Bool) (x y : Exit) (z w : Passage) → passage x ≡ z → passage y ≡ w → passage (cond b x y) ≡ cond b z w
  either_is true x y z w e f = e
  either_is false x y z w e f = f

  turns_is : (k : ℕ) (f behind : State → Exit) (g a : State → Passage) → ((t : State) → passage (f t) ≡ g t) → ((t : State) → passage (behind t) ≡ a t) → (s : State) → passage (run.turns k f behind s) ≡ turns k g a s
  turns_is zero f behind g a e h s = h s
  turns_is (suc k) f behind g a e h s =
      either_is (nat_eq s.pos s.end) (behind s) (run.again (run.turns k f behind) (f s)) (a s) (again (turns k g a) (g s)) (h s)
      (again_is (run.turns k f behind) (turns k g a) (λ t. turns_is k f behind g a e h t) (f s) ∙ ap (again (turns k g a)) (e s))

  -- one instruction
  module _ (pc : ℕ) (s : State) (to : ℕ → State → Exit) (go : State → Passage) (h : (t : State) → passage (to (pc + 1) t) ≡ go t) where
    tested : (b : Bool) (t : State) (reason : Reason) (site p : ℕ) → led pc to (record { flow = cond b (Goes (pc + 1) t) (Fails reason site p s); touched = []; steps = 1 }) ≡ onwards T calling (cond b (Goes 1 t) (Fails reason site p s)) go
    tested true t reason site p = h t
    tested false t reason site p = refl

    so : (b : Bool) (reason : Reason) (site : ℕ) → led pc to (record { flow = where_so b (pc + 1) s reason site; touched = []; steps = 1 }) ≡ onwards T calling (where_so b 1 s reason site) go
    so true reason site = h s
    so false reason site = refl

    abbrev read : ℕ → Bool → State → List ℕ → Reason → ℕ → Effect
    read next b t touched reason site = cond b (record { flow = Goes next t; touched = touched; steps = 1 }) (record { flow = Fails reason site s.start s; touched = []; steps = 1 })

    fetched : (b : Bool) (t : State) (touched : List ℕ) (reason : Reason) (site : ℕ) → led pc to (read (pc + 1) b t touched reason site) ≡ touching (read 1 b t touched reason site).touched (onwards T calling (read 1 b t touched reason site).flow go)
    fetched true t touched reason site = ap (touching touched) (h t)
    fetched false t touched reason site = refl

    abbrev put : ℕ → Bool → State → List ℕ → ℕ → Reason → ℕ → Effect
    put next b t touched steps reason site = cond b (record { flow = Goes next t; touched = touched; steps = steps }) (record { flow = Fails reason site s.start s; touched = []; steps = 1 })

    put_is : (b : Bool) (t : State) (touched : List ℕ) (steps : ℕ) (reason : Reason) (site : ℕ) → led pc to (put (pc + 1) b t touched steps reason site) ≡ touching (put 1 b t touched steps reason site).touched (onwards T calling (put 1 b t touched steps reason site).flow go)
    put_is true t touched steps reason site = ap (touching touched) (h t)
    put_is false t touched steps reason site = refl

    zeros_is : (touched : List ℕ) (steps site : ℕ) (o : Option ℕ) → led pc to (record { flow = zeros_flow (pc + 1) site o s; touched = touched; steps = steps }) ≡ touching touched (onwards T calling (zeros_flow 1 site o s) go)
    zeros_is touched steps site None = ap (touching touched) (h (record s { pos = s.end }))
    zeros_is touched steps site (Some k) = refl

    zeroterm_is : (touched : List ℕ) (steps site w bound left : ℕ) (o : Option ℕ) → led pc to (record { flow = zeroterm_flow (pc + 1) site w bound left o s; touched = touched; steps = steps }) ≡ touching touched (onwards T calling (zeroterm_flow 1 site w bound left o s) go)
    zeroterm_is touched steps site w bound left None = refl
    zeroterm_is touched steps site w bound left (Some k) = ap (touching touched) (h _)

    passed : (j : Instr) → IsOnward j → led pc to (effect T n message places pc j s) ≡ passes T n message places calling j go s
    passed (i.Const a k) x = h _
    passed (i.Member a b t) x = h _
    passed (i.Op a o b k) x = h _
    passed (i.Bits a b o k) x = h _
    passed (i.Pos a) x = h _
    passed (i.Jump t) x = absurd x
    passed (i.JumpIf r t) x = absurd x
    passed (i.JumpUnless r t) x = absurd x
    passed (i.Call first m k site) x = back_is site s (to (pc + 1)) go h (run.calls_of T message n places first m k s)
    passed i.Return x = refl
    passed (i.Fetch a o w site) x = fetched _ _ _ _ site
    passed (i.SkipK k site) x = tested _ _ _ site _
    passed (i.Skip b site) x = tested _ _ _ site _
    passed i.Rest x = h _
    passed (i.Zeros site) x = zeros_is _ (effect T n message places pc (i.Zeros site) s).steps site _
    passed (i.Zeroterm b w site) x = zeroterm_is _ (effect T n message places pc (i.Zeroterm b w site) s).steps site w _ _ _
    passed (i.NarrowK k site) x = tested _ _ _ site _
    passed (i.Narrow b site) x = tested _ _ _ site _
    passed (i.Divides b k site) x = so _ _ site
    passed (i.While t) x = absurd x
    passed (i.Again t) x = refl
    passed (i.Widen site) x = tested _ _ _ site _
    passed (i.Fail o site) x = refl
    passed (i.Get a k) x = h _
    passed (i.Set b k) x = h _
    passed i.Mark x = h _
    passed (i.Copy b k site) x = put_is _ _ _ _ _ site
    passed (i.Left a) x = h _

    stopped : (j : Instr) → IsLast j → led pc to (effect T n message places pc j s) ≡ passes T n message places calling j nowhere s
    stopped i.Return x = refl
    stopped (i.Fail o site) x = refl
    stopped (i.Const a k) x = absurd x
    stopped (i.Member a b t) x = absurd x
    stopped (i.Op a o b k) x = absurd x
    stopped (i.Bits a b o k) x = absurd x
    stopped (i.Pos a) x = absurd x
    stopped (i.Jump t) x = absurd x
    stopped (i.JumpIf r t) x = absurd x
    stopped (i.JumpUnless r t) x = absurd x
    stopped (i.Call first m k site) x = absurd x
    stopped (i.Fetch a o w site) x = absurd x
    stopped (i.SkipK k site) x = absurd x
    stopped (i.Skip b site) x = absurd x
    stopped i.Rest x = absurd x
    stopped (i.Zeros site) x = absurd x
    stopped (i.Zeroterm b w site) x = absurd x
    stopped (i.NarrowK k site) x = absurd x
    stopped (i.Narrow b site) x = absurd x
    stopped (i.Divides b k site) x = absurd x
    stopped (i.While t) x = absurd x
    stopped (i.Again t) x = absurd x
    stopped (i.Widen site) x = absurd x
    stopped (i.Get a k) x = absurd x
    stopped (i.Set b k) x = absurd x
    stopped i.Mark x = absurd x
    stopped (i.Copy b k site) x = absurd x
    stopped (i.Left a) x = absurd x

  -- a jump ahead, within the routine
  hop : (pc t : ℕ) (s : State) → pc < t → t < end_of T n → passage (jump T message n places pc t s) ≡ from t s
  hop pc t s h l = ap passage (jump_to T message n places pc t s h l)

  at_code : (pc : ℕ) (s : State) (j : Instr) → instruction_of T pc ≡ j → pc < end_of T n → from pc s ≡ led pc (jump T message n places pc) (effect T n message places pc j s)
  at_code pc s j e l = ap passage (opened T message places n pc s j e l room)

  moved : (p q : ℕ) (s : State) → p ≡ q → from p s ≡ from q s
  moved p q s e = ap (λ p. from p s) e

  -- where it leaves to, and where it ends, if it does
  pub record Leads (p x : ℕ) (leaves ends : Bool) (b : Block) (leave go : State → Passage) : Type 0 where
    pub whole : p + size b ≤ end_of T n
    pub near : leaves ≡ true → p + size b ≤ x
    pub inside : leaves ≡ true → x < end_of T n
    pub out : leaves ≡ true → (s : State) → from x s ≡ leave s
    pub over : ends ≡ true → Ends b
    pub more : ends ≡ false → p + size b < end_of T n
    pub on : ends ≡ false → (s : State) → from (p + size b) s ≡ go s

  -- there is something behind what goes on
  begun : (p x : ℕ) (leaves ends : Bool) (b : Block) (leave go : State → Passage) → Leads p x leaves ends b leave go → p < end_of T n
  begun p x leaves ends b leave go le = by ends refl
    where
      by : (e : Bool) → ends ≡ e → p < end_of T n
      by true e = let h = ends_some b (le.over e) in omega (arith, le.whole, h)
      by false e = omega (arith, le.more e)

  pub stands_run : (b : Block) (p x : ℕ) (leaves ends : Bool) (leave go : State → Passage) → Stands T p x b → Forms leaves b → Leads p x leaves ends b leave go
      → (s : State) → from p s ≡ ran T n message places calling b leave go s
  stands_run Done p x leaves ends leave go st ne le s = by ends refl
    where
      by : (e : Bool) → ends ≡ e → from p s ≡ go s
      by true e = absurd (le.over e)
      by false e = moved p (p + 0) s (omega arith) ∙ le.on e s
  stands_run (Then j b) p x leaves ends leave go st ne le s =
      let rest : Leads (p + 1) x leaves ends b leave go = record {
        whole = omega (arith, le.whole);
        near = λ e. omega (arith, le.near e);
        inside = le.inside;
        out = le.out;
        over = le.over;
        more = λ e. omega (arith, le.more e);
        on = λ e s. moved (p + 1 + size b) (p + (1 + size b)) s (omega arith) ∙ le.on e s;
      } in
      at_code p s j st.0 (omega (arith, le.whole))
      ∙ passed p s (jump T message n places p) (ran T n message places calling b leave go)
      (λ t. hop p (p + 1) t (omega arith) (begun (p + 1) x leaves ends b leave go rest) ∙ stands_run b (p + 1) x leaves ends leave go st.1 ne.1 rest t) j ne.0
  stands_run (Stop j) p x leaves ends leave go st ne le s =
      at_code p s j st (omega (arith, le.whole)) ∙ stopped p s (jump T message n places p) (λ t. passage (jump T message n places p (p + 1) t)) (λ t. refl) j ne
  stands_run Leave p x leaves ends leave go st ne le s =
      at_code p s (i.Jump x) st (omega (arith, le.whole)) ∙ hop p x s (omega (arith, le.near ne)) (le.inside ne) ∙ le.out ne s
  stands_run (Guard g r one rest) p x leaves ends leave go st ne le s =
      let q = p + 1 + size one in
      let R = ran T n message places calling rest leave go in
      let O = ran T n message places calling one leave R in
      let later : Leads q x leaves ends rest leave go = record {
        whole = omega (arith, le.whole);
        near = λ e. omega (arith, le.near e);
        inside = le.inside;
        out = le.out;
        over = le.over;
        more = λ e. omega (arith, le.more e);
        on = λ e s. moved (q + size rest) (p + (1 + (size one + size rest))) s (omega arith) ∙ le.on e s;
      } in
      let behind : q < end_of T n = begun q x leaves ends rest leave go later in
      let at_rest : (s : State) → from q s ≡ R s = λ s. stands_run rest q x leaves ends leave go st.2 ne.1 later s in
      let first : Leads (p + 1) x leaves false one leave R = record {
        whole = omega (arith, behind);
        near = λ e. omega (arith, le.near e);
        inside = le.inside;
        out = le.out;
        over = λ e. absurd (false≢true e);
        more = λ e. behind;
        on = λ e s. at_rest s;
      } in
      let there = hop p q s (omega arith) behind ∙ at_rest s in
      let here = hop p (p + 1) s (omega arith) (omega (arith, behind)) ∙ stands_run one (p + 1) x leaves false leave R st.1 ne.0 first s in
      let J = jump T message n places p in
      at_code p s (guard g r q) st.0 (omega (arith, behind))
      ∙ elim g as (λ g. led p J (effect T n message places p (guard g r q) s) ≡ guarded T n message places calling g (reg s r) (O s) (R s)) [
        | true ↦ jumped (nat_eq (reg s r) 0) p s (p + 1) q (O s) (R s) here there
        | false ↦ jumped (nat_eq (reg s r) 0) p s q (p + 1) (R s) (O s) there here
      ]
    where
      jumped : (b : Bool) (p : ℕ) (s : State) (a k : ℕ) (z w : Passage) → passage (jump T message n places p a s) ≡ z → passage (jump T message n places p k s) ≡ w
          → led p (jump T message n places p) (record { flow = cond b (Goes a s) (Goes k s); touched = []; steps = 1 }) ≡ cond b z w
      jumped true p s a k z w e f = e
      jumped false p s a k z w e f = f
  stands_run (Scope body rest) p x leaves ends leave go st ne le s =
      let q = p + size body in
      let R = ran T n message places calling rest leave go in
      let later : Leads q x leaves ends rest leave go = record {
        whole = omega (arith, le.whole);
        near = λ e. omega (arith, le.near e);
        inside = le.inside;
        out = le.out;
        over = le.over;
        more = λ e. omega (arith, le.more e);
        on = λ e s. moved (q + size rest) (p + (size body + size rest)) s (omega arith) ∙ le.on e s;
      } in
      let behind : q < end_of T n = begun q x leaves ends rest leave go later in
      let at_rest : (s : State) → from q s ≡ R s = λ s. stands_run rest q x leaves ends leave go st.1 ne.1 later s in
      stands_run body p q true false R R st.0 ne.0
      (record {
        whole = omega (arith, behind);
        near = λ e. omega arith;
        inside = λ e. behind;
        out = λ e s. at_rest s;
        over = λ e. absurd (false≢true e);
        more = λ e. behind;
        on = λ e s. at_rest s;
      }) s
  stands_run (Window j site body rest) p x leaves ends leave go st ne le s =
      let w = p + 1 + size body in
      let q = w + 1 in
      let R = ran T n message places calling rest leave go in
      let W : State → Passage = passes T n message places calling (i.Widen site) R in
      let B = ran T n message places calling body leave W in
      let later : Leads q x leaves ends rest leave go = record {
        whole = omega (arith, le.whole);
        near = λ e. omega (arith, le.near e);
        inside = le.inside;
        out = le.out;
        over = le.over;
        more = λ e. omega (arith, le.more e);
        on = λ e s. moved (q + size rest) (p + (1 + (size body + (1 + size rest)))) s (omega arith) ∙ le.on e s;
      } in
      let behind : q < end_of T n = begun q x leaves ends rest leave go later in
      let at_rest : (s : State) → from q s ≡ R s = λ s. stands_run rest q x leaves ends leave go st.3 ne.1.1 later s in
      let at_end : (s : State) → from w s ≡ W s =
      λ s. at_code w s (i.Widen site) st.2 (omega (arith, behind)) ∙ passed w s (jump T message n places w) R (λ t. hop w q t (omega arith) behind ∙ at_rest t) (i.Widen site) tt in
      let first : Leads (p + 1) x false false body leave W = record {
        whole = omega (arith, behind);
        near = λ e. absurd (false≢true e);
        inside = λ e. absurd (false≢true e);
        out = λ e. absurd (false≢true e);
        over = λ e. absurd (false≢true e);
        more = λ e. omega (arith, behind);
        on = λ e s. at_end s;
      } in
      at_code p s j st.0 (omega (arith, behind))
      ∙ passed p s (jump T message n places p) B
      (λ t. hop p (p + 1) t (omega arith) (omega (arith, behind)) ∙ stands_run body (p + 1) x false false leave W st.1 ne.1.0 first t) j ne.0
  stands_run (Loop body rest) p x leaves ends leave go st ne le s =
      let w = p + 1 + size body in
      let q = w + 1 in
      let R = ran T n message places calling rest leave go in
      let W : State → Passage = λ t. plainly (Turned t) in
      let B = ran T n message places calling body leave W in
      let later : Leads q x leaves ends rest leave go = record {
        whole = omega (arith, le.whole);
        near = λ e. omega (arith, le.near e);
        inside = le.inside;
        out = le.out;
        over = le.over;
        more = λ e. omega (arith, le.more e);
        on = λ e s. moved (q + size rest) (p + (1 + (size body + (1 + size rest)))) s (omega arith) ∙ le.on e s;
      } in
      let behind : q < end_of T n = begun q x leaves ends rest leave go later in
      let at_rest : (s : State) → from q s ≡ R s = λ s. stands_run rest q x leaves ends leave go st.3 ne.1 later s in
      let at_end : (s : State) → from w s ≡ W s = λ s. at_code w s (i.Again p) st.2 (omega (arith, behind)) in
      let first : Leads (p + 1) x false false body leave W = record {
        whole = omega (arith, behind);
        near = λ e. absurd (false≢true e);
        inside = λ e. absurd (false≢true e);
        out = λ e. absurd (false≢true e);
        over = λ e. absurd (false≢true e);
        more = λ e. omega (arith, behind);
        on = λ e s. at_end s;
      } in
      let J = jump T message n places p in
      at_code p s (i.While q) st.0 (omega (arith, behind))
      ∙ turns_is (suc (left s)) (J (p + 1)) (J q) B R
      (λ t. hop p (p + 1) t (omega arith) (omega (arith, behind)) ∙ stands_run body (p + 1) x false false leave W st.1 ne.0 first t)
      (λ t. hop p q t (omega arith) behind ∙ at_rest t) s
