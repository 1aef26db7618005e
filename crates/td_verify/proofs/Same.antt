-- Two tellings of the routines so far, and what instructions break by them. Cited by other crates.
use Rattle.std.proofs.Common.{◌≡◌, ℕ, zero, suc, ◌+◌, ◌-◌, ◌≤◌, ◌⊎◌, ⊎_elim, inl, inr, ◌↔◌, ◌≢◌, List, [], ◌∷◌, ◌++◌, length, Bool, true, Option, refl, sym, ap, subst, ◌∙◌, arith, length-append, slice_index, slice_index_or}
use Rattle.td_verify.specs.declared.shape.Shape.{Shape}
use Rattle.td_verify.specs.declared.shape.Shape.TheVariants.{Straight, Jump, Branch, Call, Return, Fail, While, Again, Open, Close}
use Rattle.td_ir.specs.declared.tables.Parts.{Parts}
use Rattle.td_verify.specs.Shape.{shapes_of}
use Rattle.td_ir.specs.Tables.{lengths_of, begin}
use Rattle.td_verify.specs.Brackets.{shape_at, opened}
use Rattle.td_verify.specs.Ways.{IsIdle, IdleWay, CanReturn, MayBeEmpty}
use Rattle.td_verify.specs.Marks.{IsEmptyBy}
use Rattle.td_verify.specs.Rules.{TurnsBusy, KeepsNesting, deepest, weigh}
use Rattle.td_verify.specs.Verify.{KeepsBy, Keeps, depths, weights}
use Rattle.td_verify.specs.declared.bracket.Bracket.{Bracket}
use Rattle.td_verify.specs.declared.rule.Rule.{Rule}
use Rattle.td_verify.specs.declared.rule.Rule.TheVariants.{Target, Register, Depth, Loop, Table, Weight, Operand}

idle_more : (E F : ℕ → Type 0) (o : Option (List Bracket)) (i : Shape) → ((m : ℕ) → E m → F m) → IsIdle E o i → IsIdle F o i
idle_more E F o (Straight b w) h d = d
idle_more E F o (Jump t) h d = d
idle_more E F o (Branch t) h d = d
idle_more E F o (Call m) h d = h m d
idle_more E F o Return h d = d
idle_more E F o Fail h d = d
idle_more E F o (While t) h d = d
idle_more E F o (Again t) h d = d
idle_more E F o (Open k) h d = d
idle_more E F o Close h d = d

pub way_more : (s : List Shape) (E F : ℕ → Type 0) (from to : ℕ) → ((m : ℕ) → E m → F m) → IdleWay s E from to → IdleWay s F from to
way_more s E F from to h w = λ set closed. w set (λ p q lt l idle. closed p q lt l (idle_more E F (opened s p) (shape_at s p) h idle))

turns_more : (s : List Shape) (E F : ℕ → Type 0) (p : ℕ) (i : Shape) → ((m : ℕ) → F m → E m) → TurnsBusy s E p i → TurnsBusy s F p i
turns_more s E F p (While t) h w = λ v. w (way_more s F E (p + 1) (t - 1) h v)
turns_more s E F p (Straight b v) h w = w
turns_more s E F p (Jump t) h w = w
turns_more s E F p (Branch t) h w = w
turns_more s E F p (Call m) h w = w
turns_more s E F p Return h w = w
turns_more s E F p Fail h w = w
turns_more s E F p (Again t) h w = w
turns_more s E F p (Open k) h w = w
turns_more s E F p Close h w = w

nesting_more : (s : List Shape) (E F : ℕ → Type 0) (end p : ℕ) → ((m : ℕ) → F m → E m) → KeepsNesting s E end p → KeepsNesting s F end p
nesting_more s E F end p h w = record { stands = w.stands; closed = w.closed; busy = turns_more s E F p (shape_at s p) h w.busy }

pub keeps_more : (c : Parts) (E F : ℕ → Type 0) (ds ws : List ℕ) (n from end p : ℕ) (r : Rule) → ((m : ℕ) → F m → E m) → KeepsBy c E ds ws n from end p r → KeepsBy c F ds ws n from end p r
keeps_more c E F ds ws n from end p Target h b = b
keeps_more c E F ds ws n from end p Register h b = b
keeps_more c E F ds ws n from end p Depth h b = b
keeps_more c E F ds ws n from end p Loop h b = nesting_more (shapes_of c) E F end p h b
keeps_more c E F ds ws n from end p Table h b = b
keeps_more c E F ds ws n from end p Weight h b = b
keeps_more c E F ds ws n from end p Operand h b = b

pub returns_more : (s : List Shape) (E F : ℕ → Type 0) (from end : ℕ) → ((m : ℕ) → E m → F m) → CanReturn s E from end → CanReturn s F from end
returns_more s E F from end h w = (w.0, w.1, w.2, w.3, way_more s E F from w.0 h w.4)

-- a table with one more entry
pub pushed : (es : List Bool) (b : Bool) (m : ℕ) → ((m ≡ length es) × (slice_index_or (es ++ b ∷ []) m true ≡ b)) ⊎ ((m ≢ length es) × (slice_index_or (es ++ b ∷ []) m true ≡ slice_index_or es m true))
pushed [] b zero = inl (refl, refl)
pushed [] b (suc m) = inr (omega arith, refl)
pushed (x ∷ es) b zero = inr (omega arith, refl)
pushed (x ∷ es) b (suc m) = ⊎_elim
    (λ (h : (m ≡ length es) × (slice_index_or (es ++ b ∷ []) m true ≡ b)). inl (ap suc h.0, h.1))
    (λ (h : (m ≢ length es) × (slice_index_or (es ++ b ∷ []) m true ≡ slice_index_or es m true)). inr ((λ e. h.0 (omega (arith, e))), h.1))
    (pushed es b m)

pub empty_next : (s : List Shape) (ls : List ℕ) (n : ℕ) (es : List Bool) (b : Bool) → length es ≡ n
    → ((m : ℕ) → IsEmptyBy es m ↔ MayBeEmpty s ls n m)
    → ((b ≡ true) ↔ CanReturn s (MayBeEmpty s ls n) (begin ls n) (begin ls (suc n)))
    → (m : ℕ) → IsEmptyBy (es ++ b ∷ []) m ↔ MayBeEmpty s ls (suc n) m
empty_next s ls n es b size summary new m = ⊎_elim
    (λ (h : (m ≡ length es) × (slice_index_or (es ++ b ∷ []) m true ≡ b)). (
      (λ e. inl (h.0 ∙ size, new.0 (sym h.1 ∙ e))),
      λ (w : MayBeEmpty s ls (suc n) m). ⊎_elim
          (λ (x : (m ≡ n) × CanReturn s (MayBeEmpty s ls n) (begin ls n) (begin ls (suc n))). h.1 ∙ new.1 x.1)
          (λ (x : (m ≢ n) × MayBeEmpty s ls n m). absurd (x.0 (h.0 ∙ size)))
          w,
    ))
    (λ (h : (m ≢ length es) × (slice_index_or (es ++ b ∷ []) m true ≡ slice_index_or es m true)). (
      (λ e. inr ((λ same. h.0 (same ∙ sym size)), (summary m).0 (sym h.1 ∙ e))),
      λ (w : MayBeEmpty s ls (suc n) m). ⊎_elim
          (λ (x : (m ≡ n) × CanReturn s (MayBeEmpty s ls n) (begin ls n) (begin ls (suc n))). absurd (h.0 (x.0 ∙ sym size)))
          (λ (x : (m ≢ n) × MayBeEmpty s ls n m). h.1 ∙ (summary m).1 x.1)
          w,
    ))
    (pushed es b m)

pub length_depths : (s : List Shape) (ls : List ℕ) (n : ℕ) → length (depths s ls n) ≡ n
length_depths s ls zero = refl
length_depths s ls (suc n) = let h = length_depths s ls n in length-append (depths s ls n) ((deepest s (depths s ls n) (begin ls n) (slice_index ls n) + 1) ∷ []) ∙ omega (arith, h)

pub length_weights : (s : List Shape) (ls : List ℕ) (n : ℕ) → length (weights s ls n) ≡ n
length_weights s ls zero = refl
length_weights s ls (suc n) = let h = length_weights s ls n in length-append (weights s ls n) (weigh s (weights s ls n) (begin ls n) (slice_index ls n) ∷ []) ∙ omega (arith, h)

pub light_next : (ws : List ℕ) (w b : ℕ) → ((m : ℕ) → slice_index ws m ≤ b) → w ≤ b → (m : ℕ) → slice_index (ws ++ w ∷ []) m ≤ b
light_next [] w b h l zero = l
light_next [] w b h l (suc m) = omega arith
light_next (x ∷ ws) w b h l zero = h 0
light_next (x ∷ ws) w b h l (suc m) = light_next ws w b (λ k. h (suc k)) l m

-- what instructions keep by a table is what they keep
pub to_keeps : (c : Parts) (es : List Bool) (ds ws : List ℕ) (n from end p : ℕ) (r : Rule) → from ≡ begin (lengths_of c) n → end ≡ begin (lengths_of c) (suc n) → ds ≡ depths (shapes_of c) (lengths_of c) n → ws ≡ weights (shapes_of c) (lengths_of c) n
    → ((m : ℕ) → IsEmptyBy es m ↔ MayBeEmpty (shapes_of c) (lengths_of c) n m) → KeepsBy c (IsEmptyBy es) ds ws n from end p r → Keeps c n p r
to_keeps c es ds ws n from end p r f e d w t b =
    let one = subst (λ (x : ℕ). KeepsBy c (IsEmptyBy es) ds ws n x end p r) f b in
    let two = subst (λ (x : ℕ). KeepsBy c (IsEmptyBy es) ds ws n (begin (lengths_of c) n) x p r) e one in
    let three = subst (λ (x : List ℕ). KeepsBy c (IsEmptyBy es) x ws n (begin (lengths_of c) n) (begin (lengths_of c) (suc n)) p r) d two in
    let four = subst (λ (x : List ℕ). KeepsBy c (IsEmptyBy es) (depths (shapes_of c) (lengths_of c) n) x n (begin (lengths_of c) n) (begin (lengths_of c) (suc n)) p r) w three in
    keeps_more c (IsEmptyBy es) (λ m. MayBeEmpty (shapes_of c) (lengths_of c) n m) (depths (shapes_of c) (lengths_of c) n) (weights (shapes_of c) (lengths_of c) n) n (begin (lengths_of c) n) (begin (lengths_of c) (suc n)) p r (λ m. (t m).1) four

pub from_keeps : (c : Parts) (es : List Bool) (ds ws : List ℕ) (n from end p : ℕ) (r : Rule) → from ≡ begin (lengths_of c) n → end ≡ begin (lengths_of c) (suc n) → ds ≡ depths (shapes_of c) (lengths_of c) n → ws ≡ weights (shapes_of c) (lengths_of c) n
    → ((m : ℕ) → IsEmptyBy es m ↔ MayBeEmpty (shapes_of c) (lengths_of c) n m) → Keeps c n p r → KeepsBy c (IsEmptyBy es) ds ws n from end p r
from_keeps c es ds ws n from end p r f e d w t b =
    let four = keeps_more c (λ m. MayBeEmpty (shapes_of c) (lengths_of c) n m) (IsEmptyBy es) (depths (shapes_of c) (lengths_of c) n) (weights (shapes_of c) (lengths_of c) n) n (begin (lengths_of c) n) (begin (lengths_of c) (suc n)) p r (λ m. (t m).0) b in
    let three = subst (λ (x : List ℕ). KeepsBy c (IsEmptyBy es) (depths (shapes_of c) (lengths_of c) n) x n (begin (lengths_of c) n) (begin (lengths_of c) (suc n)) p r) (sym w) four in
    let two = subst (λ (x : List ℕ). KeepsBy c (IsEmptyBy es) x ws n (begin (lengths_of c) n) (begin (lengths_of c) (suc n)) p r) (sym d) three in
    let one = subst (λ (x : ℕ). KeepsBy c (IsEmptyBy es) ds ws n (begin (lengths_of c) n) x p r) (sym e) two in
    subst (λ (x : ℕ). KeepsBy c (IsEmptyBy es) ds ws n x end p r) (sym f) one
