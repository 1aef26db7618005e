-- The code of a window of bytes, and of one of a constant size.
use Rattle.std.proofs.Common.{◌≡◌, ℕ, suc, ◌+◌, ◌-◌, ◌^◌, ◌<◌, Bool, true, false, List, [], ◌∷◌, length, refl, sym, ap, ◌∙◌, arith, nat_eq, nat_le, nat_lt}
use Rattle.std.proofs.lemmas.Bool.{ltb-false}
use Rattle.td_core.specs.Term.{Term}
use Rattle.td_core.specs.Outcome.{Behavior, and_then, within}
use Rattle.td_lower_means.specs.Imports.{Element, Number, Listed, Named, Unit as UnitElement, Rest, Zeros, NotEnough, ListSize, Parts}
use Rattle.td_meaning.specs.Naming.{some_name, element_names}
use Rattle.td_meaning.specs.Meaning.{taken, demanded}
use Rattle.td_lower_blocks.specs.Block.{Block}
use Rattle.td_ir.specs.State.{State}
use Rattle.td_lower_means.proofs.BlockRun.{Passage, onwards, if_so, failed, Calling, ran, onto}
use Rattle.td_lower_blocks.specs.Lowered.{exprs_of, terms_of}
use Rattle.td_lower_means.proofs.Shapes.{at}
use Rattle.td_ir.specs.Run.{place_of_site}

-- what is behind a window, at whose end its bytes end
abbrev pub closing : Parts → Calling → ℕ → (State → Passage) → State → Passage
closing T calls site next s = onwards T calls (if_so (nat_eq s.pos s.end) (record s { end = s.outer }) ListSize site s.start s) next

pub exprs_length : (es : List Term) → length (exprs_of es) ≡ length es
exprs_length [] = refl
exprs_length (e ∷ es) = ap suc (exprs_length es)

pub args_named : (element : Element) (j : ℕ) → some_name j (terms_of element) ≡ true → element_names j element ≡ true
args_named (Number type) j h = h
args_named (Listed base v) j h = h
args_named (Named d args own) j h = h
args_named UnitElement j h = h
args_named Rest j h = h
args_named Zeros j h = h

-- a constant size that no message has fails as too few bytes do
pub never_or : (T : Parts) (self : ℕ) (message places : List ℕ) (b : Bool) (site : ℕ) (r c : List ℕ) (p m end o : ℕ) → nat_lt m (2 ^ 32) ≡ b → (F : ℕ → List ℕ → Behavior) (next : ℕ → List ℕ → Passage) (X : Passage) (Y : Bool → Passage)
    → Y true ≡ X → Y false ≡ failed T NotEnough site p (at r c p p end o) → end < 2 ^ 32
    → X ≡ onto (within (place_of_site T site p) (and_then (taken m p end p c) F)) next
    → Y b ≡ onto (within (place_of_site T site p) (and_then (taken m p end p c) F)) next
never_or T self message places true site r c p m end o e F next X Y y n small h = y ∙ h
never_or T self message places false site r c p m end o e F next X Y y n small h =
    n ∙ ap (λ b. onto (within (place_of_site T site p) (and_then (demanded NotEnough b p (p + m) c) F)) next) (sym (too_few (p + m) end (omega (arith, small, ltb-false m (2 ^ 32) e))))
  where
    too_few : (a b : ℕ) → b < a → nat_le a b ≡ false
    too_few a b h = grind (arith, h)

module _ (T : Parts) (self : ℕ) (message places : List ℕ) (calls : Calling) where
  abbrev goes : Block → (State → Passage) → (State → Passage) → State → Passage
  goes = ran T self message places calls

  -- so many bytes, where there are as many
  pub window_runs : (B : Block) (site : ℕ) (r c : List ℕ) (p m end o : ℕ) (leave next : State → Passage) (F : ℕ → List ℕ → Behavior) (to : ℕ → List ℕ → Passage)
      → (nat_le (p + m) end ≡ true → goes B leave (closing T calls site next) (at r c p p (p + m) end) ≡ onto (within (place_of_site T site p) (F (p + m) c)) to)
      → onwards T calls (if_so (nat_le (p + m) end) (at r c p p (p + m) end) NotEnough site p (at r c p p end o)) (goes B leave (closing T calls site next)) ≡ onto (within (place_of_site T site p) (and_then (taken m p end p c) F)) to
  window_runs B site r c p m end o leave next F to h = by (nat_le (p + m) end) refl
    where
      by : (b : Bool) → nat_le (p + m) end ≡ b → onwards T calls (if_so b (at r c p p (p + m) end) NotEnough site p (at r c p p end o)) (goes B leave (closing T calls site next)) ≡ onto (within (place_of_site T site p) (and_then (demanded NotEnough b p (p + m) c) F)) to
      by true y = h y
      by false y = refl
