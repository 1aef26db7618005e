-- Endings one after the other, and the cells after an action.
use Rattle.std.proofs.Common.{◌≡◌, ℕ, zero, suc, ◌+◌, ◌^◌, ◌<◌, ◌≤◌, Bool, true, false, List, [], ◌∷◌, ◌++◌, refl, ◌∙◌, arith, nat_le, slice_index, slice_set}
use Rattle.std.proofs.lemmas.Bool.{leb-true}
use Rattle.std.proofs.lemmas.List.{length-set}
use Rattle.td_num.specs.Lists.{Each}
use Rattle.td_core.specs.Term.{Term, Deed, done, set, keep, fork, answer, give_up}
use Rattle.td_core.specs.Types.{type_of}
use Rattle.td_meaning.specs.Imports.{Reason, NotEnough, TraceFrame}
use Rattle.td_core.specs.Outcome.{Behavior, Ending, Accepted, Rejected, FramePlace, frame_at, onward, ending_within}
use Rattle.td_expr.specs.Value.{value_of}
use Rattle.td_expr.specs.Sound.{Sound}
use Rattle.td_expr.proofs.Holding.{in_type, below_limit}
use Rattle.td_meaning.specs.Doing.{Effect, On, Returned, Aborted, after, either_way, doing, natural_of, is_true}
use Rattle.td_meaning.specs.Meaning.{demanded, taken}
use Rattle.td_meaning.specs.Throughout.{OnEnding, OnEffect, OnDeed}
use Rattle.td_meaning.specs.Endings.{AreCells, IsEndingWithin}
use Rattle.td_expr.proofs.Widths.{limit_small}

-- ---- endings

frames_more : (end last : ℕ) (trace : List TraceFrame) → end ≤ last → Each (λ f. f.start ≤ end) trace → Each (λ f. f.start ≤ last) trace
frames_more end last [] le h = tt
frames_more end last (f ∷ fs) le h = (omega (arith, le, h.0), frames_more end last fs le h.1)

pub within_more : (end last count : ℕ) (o : Ending) → end ≤ last → IsEndingWithin end count o → IsEndingWithin last count o
within_more end last count (Accepted q cells) le h = (omega (arith, le, h.0), h.1)
within_more end last count (Rejected reason q trace cells) le h = (omega (arith, le, h.0), (frames_more end last trace le h.1.0, h.1.1))

pub within_then : (end count : ℕ) (o : Ending) (reads : List ℕ) (go : ℕ → List ℕ → Behavior) (P : ℕ → List ℕ → Type 0) → IsEndingWithin end count o → OnEnding o P
    → ((q : ℕ) (cells : List ℕ) → q ≤ end → AreCells count cells → P q cells → IsEndingWithin end count (go q cells).ending) → IsEndingWithin end count (onward o reads go).ending
within_then end count (Accepted q cells) reads go P h on next = next q cells h.0 h.1 on
within_then end count (Rejected reason q trace cells) reads go P h on next = h

frames_push : (end : ℕ) (trace : List TraceFrame) (f : TraceFrame) → f.start ≤ end → Each (λ f. f.start ≤ end) trace → Each (λ f. f.start ≤ end) (trace ++ f ∷ [])
frames_push end [] f le h = (le, tt)
frames_push end (x ∷ xs) f le h = (h.0, frames_push end xs f le h.1)

pub within_frame : (end count : ℕ) (place : FramePlace) (o : Ending) → place.start ≤ end → IsEndingWithin end count o → IsEndingWithin end count (ending_within place o)
within_frame end count place (Accepted q cells) le h = h
within_frame end count place (Rejected reason q trace cells) le h = (h.0, (frames_push end trace (frame_at place reason) le h.1.0, h.1.1))

pub within_demanded : (end count : ℕ) (reason : Reason) (b : Bool) (start q : ℕ) (cells : List ℕ) → start ≤ end → (b ≡ true → q ≤ end) → AreCells count cells → IsEndingWithin end count (demanded reason b start q cells).ending
within_demanded end count reason true start q cells le h small = (h refl, small)
within_demanded end count reason false start q cells le h small = (le, (tt, small))

pub within_taken : (end count n start p : ℕ) (cells : List ℕ) → start ≤ end → AreCells count cells → IsEndingWithin end count (taken n start end p cells).ending
within_taken end count n start p cells le small = within_demanded end count NotEnough (nat_le (p + n) end) start (p + n) cells le (λ e. leb-true (p + n) end e) small

-- where it goes on
pub demanded_at : (reason : Reason) (b : Bool) (start q : ℕ) (cells : List ℕ) → OnEnding (demanded reason b start q cells).ending (λ r more. r ≡ q)
demanded_at reason true start q cells = refl
demanded_at reason false start q cells = tt

pub on_both : (o : Ending) (P Q : ℕ → List ℕ → Type 0) → OnEnding o P → OnEnding o Q → OnEnding o (λ q cells. P q cells × Q q cells)
on_both (Accepted q cells) P Q h g = (h, g)
on_both (Rejected reason q trace cells) P Q h g = tt

-- ---- cells

pub set_small : (cells : List ℕ) (i v : ℕ) → v < 2 ^ 64 → Each (λ x. x < 2 ^ 64) cells → Each (λ x. x < 2 ^ 64) (slice_set cells i v)
set_small [] i v lt h = tt
set_small (c ∷ cs) zero v lt h = (lt, h.1)
set_small (c ∷ cs) (suc i) v lt h = (h.0, set_small cs i v lt h.1)

pub number_small : (e : Term) (env : List ℕ) → Sound e env → natural_of e env < 2 ^ 64
number_small e env s = let lt = below_limit (type_of e) (value_of e env) (in_type e env s) in omega (arith, lt, limit_small (type_of e))

abbrev pub EffectCells : ℕ → Effect → Type 0
EffectCells count (On cells) = AreCells count cells
EffectCells count (Returned value cells) = AreCells count cells
EffectCells count (Aborted cells) = AreCells count cells

after_cells : (count : ℕ) (o : Effect) (go : List ℕ → Effect) (P : List ℕ → Type 0) → EffectCells count o → OnEffect o P → ((cells : List ℕ) → AreCells count cells → P cells → EffectCells count (go cells)) → EffectCells count (after o go)
after_cells count (On cells) go P h on next = next cells h on
after_cells count (Returned value cells) go P h on next = h
after_cells count (Aborted cells) go P h on next = h

branch_cells : (count : ℕ) (b : Bool) (one other : Effect) → (b ≡ true → EffectCells count one) → (b ≡ false → EffectCells count other) → EffectCells count (either_way b one other)
branch_cells count true one other h k = h refl
branch_cells count false one other h k = k refl

pub deed_cells : (count : ℕ) (d : Deed) (env places cells : List ℕ) → OnDeed Sound d env places cells → AreCells count cells → EffectCells count (doing d env places cells)
deed_cells count done env places cells h small = small
deed_cells count (set cell e then) env places cells h small =
    let i = slice_index places cell in
    let v = natural_of e env in
    deed_cells count then env places (slice_set cells i v) h.1 (length-set cells i v ∙ small.0, set_small cells i v (number_small e env h.0) small.1)
deed_cells count (keep cell then) env places cells h small = deed_cells count then (env ++ slice_index cells (slice_index places cell) ∷ []) places cells h small
deed_cells count (fork e one other then) env places cells h small =
    let way = either_way (is_true e env) (doing one env places cells) (doing other env places cells) in
    after_cells count way (doing then env places) (OnDeed Sound then env places)
    (branch_cells count (is_true e env) (doing one env places cells) (doing other env places cells)
    (λ t. deed_cells count one env places cells (h.1.0.0 t) small) (λ t. deed_cells count other env places cells (h.1.0.1 t) small))
    h.1.1 (λ more k on. deed_cells count then env places more on k)
deed_cells count (answer e) env places cells h small = small
deed_cells count give_up env places cells h small = small
