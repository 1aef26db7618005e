-- How exits go on.
use Rattle.std.proofs.Common.{◌≡◌, ℕ, List, ◌++◌, refl, ap}
use Rattle.std.proofs.lemmas.List.{append_assoc, append-nil}
use Rattle.td_core.specs.Outcome.{Behavior, Ending, Accepted, Rejected, FramePlace, and_then, onward, after_reading, within}
use Rattle.td_meaning.specs.Throughout.{OnEnding}
use Rattle.td_lower_means.specs.Imports.{Parts}
use Rattle.td_ir.specs.State.{State, Turned}
use Rattle.td_lower_means.proofs.BlockRun.{Passage, touching, plainly, back, backward, again, passage_of, onto, onto_ending}
use Rattle.td_lower_means.specs.CodeRun.{way_of}
use Rattle.td_ir.specs.Run.{place_of_site}

pub onto_after : (places : List ℕ) (a : Behavior) (go : ℕ → List ℕ → Passage) → onto (after_reading places a) go ≡ touching places (onto a go)
onto_after places a go = by a.ending
  where
    by : (e : Ending) → onto_ending e (places ++ a.reads) go ≡ touching places (onto_ending e a.reads go)
    by (Accepted q cells) = ap (λ l. record { way = (go q cells).way; touched = l }) (append_assoc places a.reads (go q cells).touched)
    by (Rejected reason q trace cells) = refl

pub onto_then : (a : Behavior) (f : ℕ → List ℕ → Behavior) (go : ℕ → List ℕ → Passage) → onto (and_then a f) go ≡ onto a (λ q cells. onto (f q cells) go)
onto_then a f go = by a.ending
  where
    by : (e : Ending) → onto (onward e a.reads f) go ≡ onto_ending e a.reads (λ q cells. onto (f q cells) go)
    by (Accepted q cells) = onto_after a.reads (f q cells) go
    by (Rejected reason q trace cells) = refl

pub passage_then : (a : Behavior) (f : ℕ → List ℕ → Behavior) → passage_of (and_then a f) ≡ onto a (λ q cells. passage_of (f q cells))
passage_then a f = by a.ending
  where
    by : (e : Ending) → passage_of (onward e a.reads f) ≡ onto_ending e a.reads (λ q cells. passage_of (f q cells))
    by (Accepted q cells) = refl
    by (Rejected reason q trace cells) = refl

pub within_then : (site : FramePlace) (a : Behavior) (f : ℕ → List ℕ → Behavior) → within site (and_then a f) ≡ and_then (within site a) (λ q cells. within site (f q cells))
within_then site a f = by a.ending
  where
    by : (e : Ending) → within site (onward e a.reads f) ≡ and_then (within site (record { ending = e; reads = a.reads })) (λ q cells. within site (f q cells))
    by (Accepted q cells) = refl
    by (Rejected reason q trace cells) = refl

-- the same from where it accepts
pub onto_on : (a : Behavior) (f g : ℕ → List ℕ → Passage) → OnEnding a.ending (λ q cells. f q cells ≡ g q cells) → onto a f ≡ onto a g
onto_on a f g h = by a.ending h
  where
    by : (e : Ending) → OnEnding e (λ q cells. f q cells ≡ g q cells) → onto_ending e a.reads f ≡ onto_ending e a.reads g
    by (Accepted q cells) h = ap (touching a.reads) h
    by (Rejected reason q trace cells) h = refl

pub onto_all : (a : Behavior) (f g : ℕ → List ℕ → Passage) → ((q : ℕ) (c : List ℕ) → f q c ≡ g q c) → onto a f ≡ onto a g
onto_all a f g h = by a.ending
  where
    by : (e : Ending) → onto_ending e a.reads f ≡ onto_ending e a.reads g
    by (Accepted q c) = ap (touching a.reads) (h q c)
    by (Rejected reason q trace c) = refl

pub on_within : (site : FramePlace) (a : Behavior) (P : ℕ → List ℕ → Type 0) → OnEnding a.ending P → OnEnding (within site a).ending P
on_within site a P h = by a.ending h
  where
    by : (e : Ending) → OnEnding e P → OnEnding (within site (record { ending = e; reads = a.reads })).ending P
    by (Accepted q cells) h = h
    by (Rejected reason q trace cells) h = tt

-- of each ending that accepts
pub within_on : (site : FramePlace) (a : Behavior) (P : ℕ → List ℕ → Type 0) → ((q : ℕ) (c : List ℕ) → a.ending ≡ Accepted q c → P q c) → OnEnding (within site a).ending P
within_on site a P h = by a.ending h
  where
    by : (e : Ending) → ((q : ℕ) (c : List ℕ) → e ≡ Accepted q c → P q c) → OnEnding (within site (record { ending = e; reads = a.reads })).ending P
    by (Accepted q c) h = h q c refl
    by (Rejected reason q trace c) h = tt

pub on_map : (e : Ending) (P Q : ℕ → List ℕ → Type 0) → ((q : ℕ) (cells : List ℕ) → P q cells → Q q cells) → OnEnding e P → OnEnding e Q
on_map (Accepted q cells) P Q f h = f q cells h
on_map (Rejected reason q trace cells) P Q f h = tt

module _ (T : Parts) where
  -- a turn of a loop
  pub turn_onto : (site : ℕ) (s : State) (G : State → Passage) (a : Behavior) → again G (back T site s (λ t. plainly (Turned t)) (passage_of a)) ≡ onto (within (place_of_site T site s.start) a) (λ q c. G (record s { cells = c; pos = q }))
  turn_onto site s G a = by a.ending
    where
      by : (e : Ending) → again G (backward T site s (λ t. plainly (Turned t)) a.reads (way_of e)) ≡ onto (within (place_of_site T site s.start) (record { ending = e; reads = a.reads })) (λ q c. G (record s { cells = c; pos = q }))
      by (Accepted q c) = ap (λ l. touching l (G (record s { cells = c; pos = q }))) (append-nil a.reads)
      by (Rejected reason q trace c) = refl

-- a turn that ends at a known place
pub again_onto : (G : State → Passage) (site : FramePlace) (a : Behavior) (f : ℕ → List ℕ → State) → again G (onto (within site a) (λ q c. plainly (Turned (f q c)))) ≡ onto (within site a) (λ q c. G (f q c))
again_onto G site a f = by a.ending
  where
    by : (e : Ending) → again G (onto (within site (record { ending = e; reads = a.reads })) (λ q c. plainly (Turned (f q c)))) ≡ onto (within site (record { ending = e; reads = a.reads })) (λ q c. G (f q c))
    by (Accepted q c) = ap (λ l. touching l (G (f q c))) (append-nil a.reads)
    by (Rejected reason q trace c) = refl
