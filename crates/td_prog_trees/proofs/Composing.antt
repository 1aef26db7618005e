-- Trees and exits, one behind the other. Cited by other crates.
use Rattle.std.proofs.Common.{◌≡◌, ℕ, ◌+◌, ◌≤◌, Bool, true, false, cond, List, [], ◌∷◌, ◌++◌, refl, sym, ap, ◌∙◌, subst, arith, append_assoc}
use Rattle.std.specs.Prelude.{nat_lt}
use Rattle.std.proofs.lemmas.Bool.{ltb-true}
use Rattle.td_ir.specs.State.{State, Way, Returned, Turned, Failed, Stuck, Exit, after}
use Rattle.td_ir.specs.Run.{again, again_by}
use Rattle.td_prog.specs.Tree.{Tree, Done, Loads, bind, answer, loaded}
use Rattle.td_prog.specs.Means.{Out}
use Rattle.td_prog_trees.specs.Agree.{Extent, fresh, behind, IsForward, IsReturn, IsFailure, AgreesBy, Agrees}

-- what holds where a test succeeds and where it fails
pub by_cases : (P : Bool → Type 0) (b : Bool) → (b ≡ true → P true) → (b ≡ false → P false) → P b
by_cases P true h k = h refl
by_cases P false h k = k refl

pub fresh_append : (word : ℕ → ℕ) (next : ℕ) (xs ys : List ℕ) → fresh word next (xs ++ ys) ≡ fresh word next xs ++ fresh word (behind word next xs) ys
fresh_append word next [] ys = refl
fresh_append word next (p ∷ ps) ys =
    by_cases
    (λ b.
    cond b (fresh word next (ps ++ ys)) (word p ∷ fresh word (word p + 1) (ps ++ ys))
    ≡ cond b (fresh word next ps) (word p ∷ fresh word (word p + 1) ps) ++ fresh word (cond b (behind word next ps) (behind word (word p + 1) ps)) ys)
    (nat_lt (word p) next) (λ e. fresh_append word next ps ys) (λ e. ap (λ ws. word p ∷ ws) (fresh_append word (word p + 1) ps ys))

pub behind_append : (word : ℕ → ℕ) (next : ℕ) (xs ys : List ℕ) → behind word next (xs ++ ys) ≡ behind word (behind word next xs) ys
behind_append word next [] ys = refl
behind_append word next (p ∷ ps) ys =
    by_cases
    (λ b. cond b (behind word next (ps ++ ys)) (behind word (word p + 1) (ps ++ ys)) ≡ behind word (cond b (behind word next ps) (behind word (word p + 1) ps)) ys)
    (nat_lt (word p) next) (λ e. behind_append word next ps ys) (λ e. behind_append word (word p + 1) ps ys)

-- forward places lead behind their last one
pub behind_place : (word : ℕ → ℕ) (next p : ℕ) → next ≤ word p + 1 → (ps : List ℕ) → cond (nat_lt (word p) next) (behind word next ps) (behind word (word p + 1) ps) ≡ behind word (word p + 1) ps
behind_place word next p l ps =
    by_cases (λ b. cond b (behind word next ps) (behind word (word p + 1) ps) ≡ behind word (word p + 1) ps) (nat_lt (word p) next)
    (λ e. let h = ltb-true (word p) next e in let same : next ≡ word p + 1 = omega (arith, h, l) in ap (λ k. behind word k ps) same) (λ e. refl)

pub forward_append : (word : ℕ → ℕ) (to next : ℕ) (xs ys : List ℕ) → IsForward word to next xs → IsForward word to (behind word next xs) ys → IsForward word to next (xs ++ ys)
forward_append word to next [] ys h k = k
forward_append word to next (p ∷ ps) ys h k = (h.0, h.1, forward_append word to (word p + 1) ps ys h.2 (subst (λ m. IsForward word to m ys) (behind_place word next p h.0 ps) k))

pub forward_up : (word : ℕ → ℕ) (to top next : ℕ) (xs : List ℕ) → to ≤ top → IsForward word to next xs → IsForward word top next xs
forward_up word to top next [] l h = tt
forward_up word to top next (p ∷ ps) l h = (h.0, omega (arith, l, h.1), forward_up word to top (word p + 1) ps l h.2)

pub answer_bind : {X Y : Type 0} (memory : ℕ → ℕ) (t : Tree X) (f : X → Tree Y) → answer memory (bind t f) ≡ answer memory (f (answer memory t))
answer_bind memory (Done x) f = refl
answer_bind memory (Loads word k) f = answer_bind memory (k (memory word)) f

pub loaded_bind : {X Y : Type 0} (memory : ℕ → ℕ) (t : Tree X) (f : X → Tree Y)
    → loaded memory (bind t f) ≡ loaded memory t ++ loaded memory (f (answer memory t))
loaded_bind memory (Done x) f = refl
loaded_bind memory (Loads word k) f = ap (λ ws. word ∷ ws) (loaded_bind memory (k (memory word)) f)

module _ (extent : Extent) where
  open extent use {memory, numbering, to}
  open numbering use {word}

  -- a tree y that loads the words of these places, and then is as x
  pub record Leads (next next' : ℕ) (y x : Tree Out) (touched : List ℕ) : Type 0 where
    pub same : answer memory y ≡ answer memory x
    pub words : loaded memory y ≡ fresh word next touched ++ loaded memory x
    pub behind_them : behind word next touched ≡ next'
    pub forward : IsForward word to next touched

  both_words : (next next' : ℕ) (y x : Tree Out) (touched more : List ℕ) → Leads next next' y x touched → loaded memory x ≡ fresh word next' more
      → loaded memory y ≡ fresh word next (touched ++ more)
  both_words next next' y x touched more l h =
      l.words ∙ ap (λ ws. fresh word next touched ++ ws) (h ∙ ap (λ k. fresh word k more) (sym l.behind_them)) ∙ sym (fresh_append word next touched more)

  both_forward : (next next' : ℕ) (y x : Tree Out) (touched more : List ℕ) → Leads next next' y x touched → IsForward word to next' more
      → IsForward word to next (touched ++ more)
  both_forward next next' y x touched more l h = forward_append word to next touched more l.forward (subst (λ k. IsForward word to k more) (sym l.behind_them) h)

  after_by : (next next' : ℕ) (y x : Tree Out) (touched more : List ℕ) (w : Way) → Leads next next' y x touched → AgreesBy extent next' x more w
      → AgreesBy extent next y (touched ++ more) w
  after_by next next' y x touched more (Returned pos cells) l h =
      let e : behind word next' more ≡ behind word next (touched ++ more) = ap (λ k. behind word k more) (sym l.behind_them) ∙ sym (behind_append word next touched more) in (
        subst (λ o. IsReturn extent (behind word next (touched ++ more)) pos cells o) (sym l.same)
            (subst (λ k. IsReturn extent k pos cells (answer memory x)) e h.0),
        both_words next next' y x touched more l h.1,
        both_forward next next' y x touched more l h.2,
      )
  after_by next next' y x touched more (Turned s) l h = tt
  after_by next next' y x touched more (Failed reason pos trace cells) l h = (
    subst (λ o. IsFailure reason pos trace cells o) (sym l.same) h.0,
    both_words next next' y x touched more l h.1,
    both_forward next next' y x touched more l h.2,
  )
  after_by next next' y x touched more Stuck l h = tt

  pub agrees_after : (next next' : ℕ) (y x : Tree Out) (touched : List ℕ) (steps : ℕ) (e : Exit) → Leads next next' y x touched → Agrees extent next' x e
      → Agrees extent next y (after touched steps e)
  agrees_after next next' y x touched steps e l h = after_by next next' y x touched e.touched e.way l h

  -- what is the same out of both
  again_after_by : (f : State → Exit) (next : ℕ) (y : Tree Out) (touched more : List ℕ) (steps further : ℕ) (w : Way)
      → Agrees extent next y (after touched steps (again_by f more further w)) → Agrees extent next y (again_by f (touched ++ more) (steps + further) w)
  again_after_by f next y touched more steps further (Returned pos cells) h = h
  again_after_by f next y touched more steps further (Turned t) h =
      subst (λ xs. AgreesBy extent next y xs (f t).way) (sym (append_assoc touched more (f t).touched)) h
  again_after_by f next y touched more steps further (Failed reason pos trace cells) h = h
  again_after_by f next y touched more steps further Stuck h = tt

  pub again_after : (f : State → Exit) (next : ℕ) (y : Tree Out) (touched : List ℕ) (steps : ℕ) (e : Exit)
      → Agrees extent next y (after touched steps (again f e)) → Agrees extent next y (again f (after touched steps e))
  again_after f next y touched steps e h = again_after_by f next y touched e.touched steps e.steps e.way h

  -- two turns of which one is in the other
  again_again_by : (f g : State → Exit) (next : ℕ) (y : Tree Out) (touched : List ℕ) (steps : ℕ) (w : Way)
      → Agrees extent next y (again_by (λ s. again f (g s)) touched steps w) → Agrees extent next y (again f (again_by g touched steps w))
  again_again_by f g next y touched steps (Returned pos cells) h = h
  again_again_by f g next y touched steps (Turned t) h = again_after f next y touched (steps + 1) (g t) h
  again_again_by f g next y touched steps (Failed reason pos trace cells) h = h
  again_again_by f g next y touched steps Stuck h = tt

  pub again_again : (f g : State → Exit) (next : ℕ) (y : Tree Out) (e : Exit) → Agrees extent next y (again (λ s. again f (g s)) e)
      → Agrees extent next y (again f (again g e))
  again_again f g next y e h = again_again_by f g next y e.touched e.steps e.way h
