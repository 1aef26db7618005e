-- Steps of a validation, one after the other.
use Rattle.std.proofs.Common.{rules, ◌≡◌, ⊎_elim, inl, inr, ℕ, take, drop, List, [], ◌++◌, refl, sym, ap, ◌∙◌, subst, append_assoc, append-nil}
use Rattle.std.specs.List.{Contains}
use Rattle.std.proofs.lemmas.List.Elements.{Contains-append_left, Contains-append_right}
use Rattle.td_direct.specs.Imports.{Load, Stream, Stretch, Outcome, TraceFrame, Verdict, Accept, Reject}
use Rattle.td_stream.specs.Layouts.{word_at}
use Rattle.td_stream.specs.Loads.{Carries, IsLoaded, Exactly, OnlyTouched}
use Rattle.td_stream.specs.StreamInvariant.{layout_of}
use Rattle.td_stream.proofs.Places.{look_more, look_nowhere}
use Rattle.td_core.specs.Outcome.{Ending, Accepted, Rejected, Behavior, FramePlace, plain, after_reading, onward, and_then, ending_within, within, outcome_of, copies_by}
use Rattle.td_meaning.specs.Verdicts.{ending_of, IsAt}
use Rattle.td_meaning.proofs.Steps.{reading_then}
use Rattle.td_direct.specs.Validates.{Reads, OnlyRead}
use Rattle.td_fetch.specs.Outcomes.{IsBehaviorOf}

pub step_trans : {W : Type 0} {loads : W → List Load} (r s t : Stream W) (x y z : Behavior) → Reads loads r s x y → Reads loads s t y z → Reads loads r t x z
step_trans r s t x y z h k = record {
  seen = h.seen ++ k.seen;
  looked = look_more r s t h.seen k.seen h.looked k.looked;
  is = h.is ∙ (ap (after_reading h.seen) k.is ∙ (λ i. record { ending = z.ending; reads = sym (append_assoc h.seen k.seen z.reads) i }));
}

-- no word was loaded
pub step_still : {W : Type 0} {loads : W → List Load} (s t : Stream W) (x : Behavior) → layout_of t ≡ layout_of s → t.words.now ≡ s.words.now → Reads loads s t x x
step_still {W} {loads} s t x same e = record { seen = []; looked = look_nowhere s t same (ap loads e); is = refl }

pub step_from : {W : Type 0} {loads : W → List Load} (s t : Stream W) (w x y : Behavior) → w ≡ x → Reads loads s t x y → Reads loads s t w y
step_from s t w x y e h = record { seen = h.seen; looked = h.looked; is = e ∙ h.is }

pub step_to : {W : Type 0} {loads : W → List Load} (s t : Stream W) (x y z : Behavior) → Reads loads s t x y → y ≡ z → Reads loads s t x z
step_to s t x y z h e = record { seen = h.seen; looked = h.looked; is = h.is ∙ ap (after_reading h.seen) e }

-- a step, and what follows
pub step_then : {W : Type 0} {loads : W → List Load} (s t : Stream W) (x : Behavior) (e : Ending) (go : ℕ → List ℕ → Behavior) → Reads loads s t x (plain e) → Reads loads s t (and_then x go) (and_then (plain e) go)
step_then s t x e go h = record { seen = h.seen; looked = h.looked; is = ap (λ y. and_then y go) h.is ∙ reading_then h.seen (plain e) go }

pub step_within : {W : Type 0} {loads : W → List Load} (s t : Stream W) (place : FramePlace) (x : Behavior) (e : Ending) → Reads loads s t x (plain e) → Reads loads s t (within place x) (plain (ending_within place e))
step_within s t place x e h = record { seen = h.seen; looked = h.looked; is = ap (within place) h.is }

-- after a step the words that it took are read, whatever follows
pub step_only : {W : Type 0} {loads : W → List Load} (s t : Stream W) (whole rest : Behavior) → Reads loads s t whole rest → OnlyRead loads s t whole
step_only s t whole rest h = λ i l. ⊎_elim (λ old. inl old) (λ k. inr (k.0, subst (λ ps. Contains ps k.0) (sym (ap (λ (x : Behavior). x.reads) h.is)) (Contains-append_left h.seen rest.reads k.0 k.1), k.2)) (h.looked.only i l)

-- and what is read after it
pub only_after : {W : Type 0} {loads : W → List Load} (r s t : Stream W) (whole rest : Behavior) → Reads loads r s whole rest → OnlyRead loads s t rest → OnlyRead loads r t whole
only_after r s t whole rest h k = λ i l. ⊎_elim
    (λ old. step_only r s whole rest h i old)
    (λ k. inr (k.0, subst (λ ps. Contains ps k.0) (sym (ap (λ (x : Behavior). x.reads) h.is)) (Contains-append_right h.seen rest.reads k.0 k.1), ap (λ layout. word_at layout k.0) (sym h.looked.layout) ∙ k.2))
    (k i l)

pub only_from : {W : Type 0} (loads : W → List Load) (s t : Stream W) (w x : Behavior) → w ≡ x → OnlyRead loads s t x → OnlyRead loads s t w
only_from {W} loads s t w x e h = subst (OnlyRead loads s t) (sym e) h

pub only_still : {W : Type 0} (loads : W → List Load) (s t : Stream W) (x : Behavior) → t.words.now ≡ s.words.now → OnlyRead loads s t x
only_still {W} loads s t x e = λ i l. inl (subst (λ w. IsLoaded (loads w) i) e l)

-- what a step reads is read, whatever follows
pub only_then : {W : Type 0} (loads : W → List Load) (s t : Stream W) (x : Behavior) (go : ℕ → List ℕ → Behavior) → OnlyRead loads s t x → OnlyRead loads s t (and_then x go)
only_then {W} loads s t x go h = by_ending x.ending
  where
    by_ending : (e : Ending) → OnlyRead loads s t (onward e x.reads go)
    by_ending (Accepted q cells) = λ i l. ⊎_elim (λ old. inl old) (λ k. inr (k.0, Contains-append_left x.reads (go q cells).reads k.0 k.1, k.2)) (h i l)
    by_ending (Rejected reason position trace cells) = h

-- the outcome of an ending, from n cells on a message
abbrev pub told : (n : ℕ) (b : List ℕ) → Verdict → List TraceFrame → List ℕ → Outcome
told n b v trace cells = record { verdict = v; trace = trace; cells = take n cells; copies = copies_by b (drop n cells) }

outcome_is : (n : ℕ) (b : List ℕ) (v : Verdict) (p : ℕ) (trace : List TraceFrame) (cells : List ℕ) → IsAt v p trace → outcome_of n b (ending_of v trace cells) ≡ told n b v trace cells
outcome_is n b (Accept pos) p trace cells h = λ i. told n b (Accept pos) (sym h.1 i) cells
outcome_is n b (Reject reason pos) p trace cells h = refl

nothing_loaded : (i : ℕ) → IsLoaded [] i → ⊥
nothing_loaded i l = search rules

-- from a stream without loads just the words of the reads were loaded
pub behavior_all : {W : Type 0} {loads : W → List Load} (s t : Stream W) (whole : Behavior) (v : Verdict) (p n : ℕ) (b : List ℕ) (trace : List TraceFrame) (cells : List ℕ) → loads s.words.now ≡ [] → IsAt v p trace → Reads loads s t whole (plain (ending_of v trace cells)) → IsBehaviorOf (layout_of s) n b (loads t.words.now) whole (told n b v trace cells)
behavior_all {W} {loads} s t whole v p n b trace cells none at h =
    let reads : whole.reads ≡ h.seen = ap (λ (x : Behavior). x.reads) h.is ∙ append-nil h.seen in
    record {
      same = ap (λ (x : Behavior). outcome_of n b x.ending) h.is ∙ outcome_is n b v p trace cells at;
      exact = subst (Exactly (layout_of s) (loads t.words.now)) (sym reads) (λ i. (
        (λ l. ⊎_elim (λ old. absurd (nothing_loaded i (subst (λ ys. IsLoaded ys i) none old))) (λ k. k) (h.looked.only i l)),
        (λ k. subst (IsLoaded (loads t.words.now)) k.2 (h.looked.here k.0 k.1)),
      ));
    }

-- the same of the words that were lent to the stream, which are now its words
pub behavior_lent : {W : Type 0} {loads : W → List Load} (s t : Stream W) (words : W) (layout : List Stretch) (whole meant : Behavior) (v : Verdict) (p n : ℕ) (trace : List TraceFrame) (cells b : List ℕ) → loads s.words.now ≡ [] → IsAt v p trace → words ≡ t.words.now → layout_of s ≡ layout → Carries layout b (loads words) → (Carries (layout_of s) b (loads t.words.now) → Reads loads s t whole (plain (ending_of v trace cells))) → whole ≡ meant → IsBehaviorOf layout n b (loads words) meant (told n b v trace cells)
behavior_lent {W} {loads} s t words layout whole meant v p n trace cells b none at w long h told_so same =
    let h' : Carries (layout_of s) b (loads t.words.now) = subst (λ (x : List Stretch × W). Carries x.0 b (loads x.1)) (λ i. (sym long i, w i)) h in
    subst (λ (z : W × Behavior × List Stretch). IsBehaviorOf z.2 n b (loads z.0) z.1 (told n b v trace cells)) (λ i. (sym w i, same i, long i)) (behavior_all s t whole v p n b trace cells none at (told_so h'))

-- and only words of the reads
pub only_lent : {W : Type 0} (loads : W → List Load) (s t : Stream W) (words : W) (layout : List Stretch) (whole meant : Behavior) (b : List ℕ) → loads s.words.now ≡ [] → words ≡ t.words.now → layout_of s ≡ layout → Carries layout b (loads words) → (Carries (layout_of s) b (loads t.words.now) → OnlyRead loads s t whole) → whole ≡ meant → OnlyTouched layout (loads words) meant.reads
only_lent {W} loads s t words layout whole meant b none w long h only same =
    let h' : Carries (layout_of s) b (loads t.words.now) = subst (λ (x : List Stretch × W). Carries x.0 b (loads x.1)) (λ i. (sym long i, w i)) h in
    let all : OnlyTouched (layout_of s) (loads t.words.now) whole.reads = λ i l. ⊎_elim (λ old. absurd (nothing_loaded i (subst (λ ys. IsLoaded ys i) none old))) (λ k. k) (only h' i l) in
    subst (λ (z : W × Behavior × List Stretch). OnlyTouched z.2 (loads z.0) z.1.reads) (λ i. (sym w i, same i, long i)) all

-- what follows a verdict within a place is the same where it accepts
pub then_verdict : (v : Verdict) (place : FramePlace) (cells : List ℕ) (go next : ℕ → List ℕ → Behavior) → ((q : ℕ) → v ≡ Accept q → (r : ℕ) (more : List ℕ) → go r more ≡ next r more) → and_then (plain (ending_within place (ending_of v [] cells))) go ≡ and_then (plain (ending_within place (ending_of v [] cells))) next
then_verdict (Accept q) place cells go next h = ap (after_reading []) (h q refl q cells)
then_verdict (Reject reason pos) place cells go next h = refl
