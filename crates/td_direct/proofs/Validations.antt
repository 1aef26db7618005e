-- Validations, one after the other.
use Rattle.std.proofs.Common.{◌≡◌, ℕ, ◌+◌, ◌*◌, List, [], length, refl, sym, ap, ◌∙◌, subst, arith}
use Rattle.std.proofs.lemmas.List.{length-map}
use Rattle.td_core.specs.Held.{AreHeld}
use Rattle.td_core.specs.Outcome.{Accepted, Rejected, Behavior, FramePlace, plain, accepted, and_then, ending_within, within}
use Rattle.td_direct.specs.Imports.{Reason, Verdict, Accept, Reject, Load, Stream}
use Rattle.td_meaning.specs.Verdicts.{ending_of, IsAt}
use Rattle.td_stream.specs.Copies.{BufferView, held_by}
use Rattle.td_stream.specs.Loads.{Carries}
use Rattle.td_stream.specs.StreamInvariant.{IsStream, Later, Moves, layout_of, loads_of, position, end_of}
use Rattle.td_stream.proofs.Stages.{later_trans, later_self, carried}
use Rattle.td_direct.specs.Validates.{Reads, IsLent, Validates, Decides, RunsOut}
use Rattle.td_direct.specs.declared.slate.Slate.{Slate}
use Rattle.td_direct.proofs.Stepping.{step_trans, step_still, step_from, step_to, step_then, step_within, step_only, only_after, only_from, only_still, only_then}

-- What is lent

pub lent_self : (x : Slate) → IsLent x x
lent_self x = record { same_cells = refl; same_copies = refl; same_trace = refl; cells = refl; rooms = refl }

pub lent_trans : (x y z : Slate) → IsLent x y → IsLent y z → IsLent x z
lent_trans x y z h k = record {
  same_cells = k.same_cells ∙ h.same_cells;
  same_copies = k.same_copies ∙ h.same_copies;
  same_trace = k.same_trace ∙ h.same_trace;
  cells = k.cells ∙ h.cells;
  rooms = k.rooms ∙ h.rooms;
}

pub lent_many : (x y : Slate) → IsLent x y → length y.copies.now ≡ length x.copies.now
lent_many x y h =
    let room : BufferView → ℕ = λ (v : BufferView). v.room in
    sym (length-map y.copies.now room) ∙ ap length h.rooms ∙ length-map x.copies.now room

-- behind the first numbers stand two for each buffer
pub lent_size : (x y : Slate) (first : ℕ) → IsLent x y → length x.cells.now ≡ first + 2 * length x.copies.now → length y.cells.now ≡ first + 2 * length y.copies.now
lent_size x y first h size =
    let many = lent_many x y h in
    let cells = h.cells in
    omega (arith, many, cells, size)

-- Validations that come to a verdict

-- the whole, in other words
pub from : {W : Type 0} {loads : W → List Load} {size : W → ℕ} {reaches : W → W → Type 0} {first : ℕ} {s t : Stream W} {x y : Slate} {v : Verdict} {given rest : List ℕ → Behavior} (whole : List ℕ → Behavior) → ((b : List ℕ) → whole b ≡ given b) → Validates loads size reaches first s t x y v given rest → Validates loads size reaches first s t x y v whole rest
from {s = s} {t = t} {given = given} {rest = rest} whole e h = record {
  later = h.later;
  stream = h.stream;
  ends = h.ends;
  at = h.at;
  lent = h.lent;
  held = h.held;
  step = λ b c. step_from s t (whole b) (given b) (rest b) (e b) (h.step b c);
}

-- the verdict and what is left, in other words
pub to : {W : Type 0} {loads : W → List Load} {size : W → ℕ} {reaches : W → W → Type 0} {first : ℕ} {s t : Stream W} {x y : Slate} {v : Verdict} {whole given : List ℕ → Behavior} (w : Verdict) (rest : List ℕ → Behavior) → IsAt w (position t) y.trace.now → ((b : List ℕ) → given b ≡ rest b) → Validates loads size reaches first s t x y v whole given → Validates loads size reaches first s t x y w whole rest
to {s = s} {t = t} {whole = whole} {given = given} w rest at e h = record {
  later = h.later;
  stream = h.stream;
  ends = h.ends;
  at = at;
  lent = h.lent;
  held = h.held;
  step = λ b c. step_to s t (whole b) (given b) (rest b) (h.step b c) (e b);
}

-- one after the other
pub then : {W : Type 0} {loads : W → List Load} {size : W → ℕ} {reaches : W → W → Type 0} {first : ℕ} {r s t : Stream W} {x y z : Slate} {u v : Verdict} {whole given rest : List ℕ → Behavior} → ((u v w : W) → reaches u v → reaches v w → reaches u w) → Validates loads size reaches first r s x y u whole given → Validates loads size reaches first s t y z v given rest → Validates loads size reaches first r t x z v whole rest
then {r = r} {s = s} {t = t} {x = x} {y = y} {z = z} {whole = whole} {given = given} {rest = rest} on h k = record {
  later = later_trans on r s t h.later k.later;
  stream = k.stream;
  ends = k.ends ∙ h.ends;
  at = k.at;
  lent = lent_trans x y z h.lent k.lent;
  held = λ b c a. let both = carried r s t b h.later k.later c in k.held b both.1 (h.held b both.0 a);
  step = λ b c. let both = carried r s t b h.later k.later c in step_trans r s t (whole b) (given b) (rest b) (h.step b both.0) (k.step b both.1);
}

-- what follows a part
pub followed : {W : Type 0} {loads : W → List Load} {size : W → ℕ} {reaches : W → W → Type 0} {first : ℕ} {s t : Stream W} {x y : Slate} {v : Verdict} {whole : List ℕ → Behavior} (go : List ℕ → ℕ → List ℕ → Behavior) → Decides loads size reaches first s t x y v whole → Validates loads size reaches first s t x y v (λ b. and_then (whole b) (go b)) (λ b. and_then (plain (ending_of v y.trace.now y.cells.now)) (go b))
followed {s = s} {t = t} {y = y} {v = v} {whole = whole} go h = record {
  later = h.later;
  stream = h.stream;
  ends = h.ends;
  at = h.at;
  lent = h.lent;
  held = h.held;
  step = λ b c. step_then s t (whole b) (ending_of v y.trace.now y.cells.now) (go b) (h.step b c);
}

-- a frame more, where it fails
pub framed : {W : Type 0} {loads : W → List Load} {size : W → ℕ} {reaches : W → W → Type 0} {first : ℕ} {s t : Stream W} {x y z : Slate} {v : Verdict} {whole : List ℕ → Behavior} (w : Verdict) (place : FramePlace) → Decides loads size reaches first s t x y v whole → IsLent y z → z.cells.now ≡ y.cells.now → z.copies.now ≡ y.copies.now → IsAt w (position t) z.trace.now → ending_of w z.trace.now z.cells.now ≡ ending_within place (ending_of v y.trace.now y.cells.now)
    → Decides loads size reaches first s t x z w (λ b. within place (whole b))
framed {first = first} {s = s} {t = t} {x = x} {y = y} {z = z} {v = v} {whole = whole} w place h lent cells copies at e = record {
  later = h.later;
  stream = h.stream;
  ends = h.ends;
  at = at;
  lent = lent_trans x y z h.lent lent;
  held = λ b c a. subst (λ (k : List ℕ × List BufferView). AreHeld b first k.0 (held_by k.1)) (λ i. (sym cells i, sym copies i)) (h.held b c a);
  step = λ b c. step_to s t (within place (whole b)) (plain (ending_within place (ending_of v y.trace.now y.cells.now))) (plain (ending_of w z.trace.now z.cells.now)) (step_within s t place (whole b) (ending_of v y.trace.now y.cells.now) (h.step b c)) (ap plain (sym e));
}

-- nothing is looked at, and at most the frames change
pub still : {W : Type 0} {loads : W → List Load} {size : W → ℕ} {reaches : W → W → Type 0} {first : ℕ} {x y : Slate} → ((w : W) → reaches w w) → (s : Stream W) (v : Verdict) (whole rest : List ℕ → Behavior) → IsStream loads size s → IsLent x y → y.cells.now ≡ x.cells.now → y.copies.now ≡ x.copies.now → IsAt v (position s) y.trace.now → ((b : List ℕ) → whole b ≡ rest b) → Validates loads size reaches first s s x y v whole rest
still {first = first} {x = x} {y = y} itself s v whole rest stream lent cells copies at e = record {
  later = later_self itself s;
  stream = stream;
  ends = refl;
  at = at;
  lent = lent;
  held = λ b c a. subst (λ (k : List ℕ × List BufferView). AreHeld b first k.0 (held_by k.1)) (λ i. (sym cells i, sym copies i)) a;
  step = λ b c. step_to s s (whole b) (whole b) (rest b) (step_still s s (whole b) refl refl) (e b);
}

-- the place of what is rejected is the code's, and there are no frames
pub rejects : {W : Type 0} {loads : W → List Load} {size : W → ℕ} {reaches : W → W → Type 0} {first : ℕ} {x : Slate} → ((w : W) → reaches w w) → (s : Stream W) (reason : Reason) (pos p : ℕ) (whole : List ℕ → Behavior) → IsStream loads size s → x.trace.now ≡ [] → pos ≡ p → ((b : List ℕ) → whole b ≡ plain (Rejected reason p [] x.cells.now)) → Decides loads size reaches first s s x x (Reject reason pos) whole
rejects {x = x} itself s reason pos p whole stream none at e =
    still itself s (Reject reason pos) whole (λ b. plain (Rejected reason pos x.trace.now x.cells.now)) stream (lent_self x) refl refl tt (λ b. e b ∙ (λ k. plain (Rejected reason (sym at k) (sym none k) x.cells.now)))

pub accepts : {W : Type 0} {loads : W → List Load} {size : W → ℕ} {reaches : W → W → Type 0} {first : ℕ} {x : Slate} → ((w : W) → reaches w w) → (s : Stream W) (pos : ℕ) (whole : List ℕ → Behavior) → IsStream loads size s → x.trace.now ≡ [] → pos ≡ position s → ((b : List ℕ) → whole b ≡ accepted (position s) x.cells.now) → Decides loads size reaches first s s x x (Accept pos) whole
accepts {x = x} itself s pos whole stream none at e =
    still itself s (Accept pos) whole (λ b. plain (Accepted pos x.cells.now)) stream (lent_self x) refl refl (at, none) (λ b. e b ∙ (λ k. accepted (sym at k) x.cells.now))

-- a call that writes nothing
pub unwritten : {W : Type 0} {loads : W → List Load} {size : W → ℕ} {reaches : W → W → Type 0} {first : ℕ} {s t : Stream W} {x : Slate} {v : Verdict} (whole given : List ℕ → Behavior) → x.trace.now ≡ [] → Later loads reaches s t → IsStream loads size t → end_of t ≡ end_of s → IsAt v (position t) [] → ((b : List ℕ) → whole b ≡ given b) → ((b : List ℕ) → Carries (layout_of s) b (loads_of loads t) → Reads loads s t (given b) (plain (ending_of v [] x.cells.now))) → Decides loads size reaches first s t x x v whole
unwritten {s = s} {t = t} {x = x} {v = v} whole given none later stream ends at e step = record {
  later = later;
  stream = stream;
  ends = ends;
  at = subst (IsAt v (position t)) (sym none) at;
  lent = lent_self x;
  held = λ b c a. a;
  step = λ b c. step_to s t (whole b) (plain (ending_of v [] x.cells.now)) (plain (ending_of v x.trace.now x.cells.now)) (step_from s t (whole b) (given b) (plain (ending_of v [] x.cells.now)) (e b) (step b c)) (λ k. plain (ending_of v (sym none k) x.cells.now));
}

-- what is written at the end
pub written : {W : Type 0} {loads : W → List Load} {size : W → ℕ} {reaches : W → W → Type 0} {first : ℕ} {s t : Stream W} {x y z : Slate} {v : Verdict} {whole given : List ℕ → Behavior} (w : Verdict) (rest : List ℕ → Behavior) → Validates loads size reaches first s t x y v whole given → IsLent y z → IsAt w (position t) z.trace.now → ((b : List ℕ) → AreHeld b first y.cells.now (held_by y.copies.now) → AreHeld b first z.cells.now (held_by z.copies.now)) → ((b : List ℕ) → given b ≡ rest b) → Validates loads size reaches first s t x z w whole rest
written {s = s} {t = t} {x = x} {y = y} {z = z} {whole = whole} {given = given} w rest h lent at held e = record {
  later = h.later;
  stream = h.stream;
  ends = h.ends;
  at = at;
  lent = lent_trans x y z h.lent lent;
  held = λ b c a. held b (h.held b c a);
  step = λ b c. step_to s t (whole b) (given b) (rest b) (h.step b c) (e b);
}

-- at most frames were written before it
pub begun : {W : Type 0} {loads : W → List Load} {size : W → ℕ} {reaches : W → W → Type 0} {first : ℕ} {s t : Stream W} {x y z : Slate} {v : Verdict} {given rest : List ℕ → Behavior} (whole : List ℕ → Behavior) → Validates loads size reaches first s t y z v given rest → IsLent x y → y.cells.now ≡ x.cells.now → y.copies.now ≡ x.copies.now → ((b : List ℕ) → whole b ≡ given b) → Validates loads size reaches first s t x z v whole rest
begun {first = first} {s = s} {t = t} {x = x} {y = y} {z = z} {given = given} {rest = rest} whole h lent cells copies e = record {
  later = h.later;
  stream = h.stream;
  ends = h.ends;
  at = h.at;
  lent = lent_trans x y z lent h.lent;
  held = λ b c a. h.held b c (subst (λ (k : List ℕ × List BufferView). AreHeld b first k.0 (held_by k.1)) (λ i. (sym cells i, sym copies i)) a);
  step = λ b c. step_from s t (whole b) (given b) (rest b) (e b) (h.step b c);
}

-- bytes are passed over
pub passed : {W : Type 0} {loads : W → List Load} {size : W → ℕ} {reaches : W → W → Type 0} {first : ℕ} {s t : Stream W} {x : Slate} (pos p : ℕ) (whole : List ℕ → Behavior) → x.trace.now ≡ [] → Moves loads size reaches s t p (end_of s) [] → pos ≡ position t → ((b : List ℕ) → whole b ≡ accepted p x.cells.now) → Decides loads size reaches first s t x x (Accept pos) whole
passed {x = x} pos p whole none m at e = record {
  later = m.later;
  stream = m.whole;
  ends = m.ends;
  at = (at, none);
  lent = lent_self x;
  held = λ b c a. a;
  step = λ b c. record { seen = []; looked = m.looked; is = e b ∙ (λ k. accepted (sym (at ∙ m.at) k) x.cells.now) };
}

-- within an end that is moved, and then moved back
pub windowed : {W : Type 0} {loads : W → List Load} {size : W → ℕ} {reaches : W → W → Type 0} {first : ℕ} {r s t u : Stream W} {x y : Slate} {v : Verdict} {given rest : List ℕ → Behavior} (p : ℕ) (whole : List ℕ → Behavior) → ((u v w : W) → reaches u v → reaches v w → reaches u w) → Moves loads size reaches s r (position s) p [] → r.words.now ≡ s.words.now → Validates loads size reaches first r t x y v given rest → Moves loads size reaches t u (position t) (end_of s) [] → u.words.now ≡ t.words.now → ((b : List ℕ) → whole b ≡ given b) → Validates loads size reaches first s u x y v whole rest
windowed {r = r} {s = s} {t = t} {u = u} {y = y} {v = v} {given = given} {rest = rest} p whole on m same h n kept e =
    let inside = later_trans on s r t m.later h.later in
    record {
      later = later_trans on s t u inside n.later;
      stream = n.whole;
      ends = n.ends;
      at = subst (λ q. IsAt v q y.trace.now) (sym n.at) h.at;
      lent = h.lent;
      held = λ b c a.
          let front = carried s t u b inside n.later c in
          let both = carried s r t b m.later h.later front.0 in
          h.held b both.1 a;
      step = λ b c.
          let front = carried s t u b inside n.later c in
          let both = carried s r t b m.later h.later front.0 in
          step_trans s r u (whole b) (given b) (rest b) (step_from s r (whole b) (given b) (given b) (e b) (step_still s r (given b) m.later.layout same))
          (step_trans r t u (given b) (rest b) (rest b) (h.step b both.1) (step_still t u (rest b) n.later.layout kept));
    }

-- Validations for which there was no memory

-- within an end that is moved
pub out_windowed : {W : Type 0} {loads : W → List Load} {size : W → ℕ} {reaches : W → W → Type 0} {r s t : Stream W} {x y : Slate} {given : List ℕ → Behavior} (p : ℕ) (whole : List ℕ → Behavior) → ((u v w : W) → reaches u v → reaches v w → reaches u w) → Moves loads size reaches s r (position s) p [] → r.words.now ≡ s.words.now → RunsOut loads size reaches r t x y given → ((b : List ℕ) → whole b ≡ given b) → RunsOut loads size reaches s t x y whole
out_windowed {loads = loads} {r = r} {s = s} {t = t} {given = given} p whole on m same h e = record {
  later = later_trans on s r t m.later h.later;
  stream = h.stream;
  lent = h.lent;
  only = λ b c.
      let both = carried s r t b m.later h.later c in
      only_after {loads = loads} s r t (whole b) (given b) (step_from {loads = loads} s r (whole b) (given b) (given b) (e b) (step_still {loads = loads} s r (given b) m.later.layout same)) (h.only b both.1);
}

-- at most frames were written before it
pub out_begun : {W : Type 0} {loads : W → List Load} {size : W → ℕ} {reaches : W → W → Type 0} {s t : Stream W} {x y z : Slate} {given : List ℕ → Behavior} (whole : List ℕ → Behavior) → RunsOut loads size reaches s t y z given → IsLent x y → ((b : List ℕ) → whole b ≡ given b) → RunsOut loads size reaches s t x z whole
out_begun {loads = loads} {s = s} {t = t} {x = x} {y = y} {z = z} {given = given} whole h lent e = record {
  later = h.later;
  stream = h.stream;
  lent = lent_trans x y z lent h.lent;
  only = λ b c. only_from loads s t (whole b) (given b) (e b) (h.only b c);
}

-- within a place
pub out_within : {W : Type 0} {loads : W → List Load} {size : W → ℕ} {reaches : W → W → Type 0} {s t : Stream W} {x y : Slate} {whole : List ℕ → Behavior} (place : List ℕ → FramePlace) → RunsOut loads size reaches s t x y whole → RunsOut loads size reaches s t x y (λ b. within (place b) (whole b))
out_within place h = record { later = h.later; stream = h.stream; lent = h.lent; only = h.only }

pub out_from : {W : Type 0} {loads : W → List Load} {size : W → ℕ} {reaches : W → W → Type 0} {s t : Stream W} {x y : Slate} {given : List ℕ → Behavior} (whole : List ℕ → Behavior) → ((b : List ℕ) → whole b ≡ given b) → RunsOut loads size reaches s t x y given → RunsOut loads size reaches s t x y whole
out_from {loads = loads} {s = s} {t = t} {given = given} whole e h = record {
  later = h.later;
  stream = h.stream;
  lent = h.lent;
  only = λ b c. only_from loads s t (whole b) (given b) (e b) (h.only b c);
}

-- what would have followed
pub out_then : {W : Type 0} {loads : W → List Load} {size : W → ℕ} {reaches : W → W → Type 0} {s t : Stream W} {x y : Slate} {whole : List ℕ → Behavior} (go : List ℕ → ℕ → List ℕ → Behavior) → RunsOut loads size reaches s t x y whole → RunsOut loads size reaches s t x y (λ b. and_then (whole b) (go b))
out_then {loads = loads} {s = s} {t = t} {whole = whole} go h = record {
  later = h.later;
  stream = h.stream;
  lent = h.lent;
  only = λ b c. only_then loads s t (whole b) (go b) (h.only b c);
}

-- after a part
pub out_after : {W : Type 0} {loads : W → List Load} {size : W → ℕ} {reaches : W → W → Type 0} {first : ℕ} {r s t : Stream W} {x y z : Slate} {v : Verdict} {whole rest : List ℕ → Behavior} → ((u v w : W) → reaches u v → reaches v w → reaches u w) → Validates loads size reaches first r s x y v whole rest → RunsOut loads size reaches s t y z rest → RunsOut loads size reaches r t x z whole
out_after {r = r} {s = s} {t = t} {x = x} {y = y} {z = z} {whole = whole} {rest = rest} on h k = record {
  later = later_trans on r s t h.later k.later;
  stream = k.stream;
  lent = lent_trans x y z h.lent k.lent;
  only = λ b c. let both = carried r s t b h.later k.later c in only_after r s t (whole b) (rest b) (h.step b both.0) (k.only b both.1);
}

-- right after a part
pub out_left : {W : Type 0} {loads : W → List Load} {size : W → ℕ} {reaches : W → W → Type 0} {first : ℕ} {s t : Stream W} {x y z : Slate} {v : Verdict} {whole rest : List ℕ → Behavior} → Validates loads size reaches first s t x y v whole rest → IsLent y z → RunsOut loads size reaches s t x z whole
out_left {s = s} {t = t} {x = x} {y = y} {z = z} {whole = whole} {rest = rest} h lent = record {
  later = h.later;
  stream = h.stream;
  lent = lent_trans x y z h.lent lent;
  only = λ b c. step_only s t (whole b) (rest b) (h.step b c);
}

-- before anything is looked at
pub out_still : {W : Type 0} {loads : W → List Load} {size : W → ℕ} {reaches : W → W → Type 0} {x y : Slate} → ((w : W) → reaches w w) → (s : Stream W) (whole : List ℕ → Behavior) → IsStream loads size s → IsLent x y → RunsOut loads size reaches s s x y whole
out_still {loads = loads} itself s whole stream lent = record {
  later = later_self itself s;
  stream = stream;
  lent = lent;
  only = λ b c. only_still loads s s (whole b) refl;
}
