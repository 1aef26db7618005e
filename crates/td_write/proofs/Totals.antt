-- What was written, with what is left to write.
use Rattle.std.proofs.Common.{◌≡◌, ℕ, suc, ◌+◌, ◌-◌, Bool, true, false, List, [], ◌∷◌, ◌++◌, length, drop, refl, sym, ap, ◌∙◌, arith, append_assoc, length-append, Option}
use Rattle.std.proofs.lemmas.List.{append-nil}
use Rattle.std.proofs.Math.Seq.{drop-append_seam}
use Rattle.td_core.specs.declared.module.CopyOut.{CopyOut}
use Rattle.td_write.specs.Imports.{WriteRule, Size}
use Rattle.td_write_values.specs.Datum.{Datum}
use Rattle.td_write.specs.declared.halt.Halt.{Halt}
use Rattle.td_write.specs.declared.halt.Halt.TheVariants as halt
use Rattle.td_write.specs.Writes.{Halts}
use Rattle.td_write_values.specs.Spelling.{is_some_size, noted}
use Rattle.td_write_values.specs.Writing.{Claim, Written, Done, Refused, after_writing, followed, wanted, of_size, agreed, settled, copied, items_written}

-- what was written is behind what stood there
pub done_parts : (old new cells : List ℕ) (before claims : List Claim) (w : Written) → after_writing old before w ≡ Done new cells claims
    → (s : List ℕ) × (others : List Claim) × (w ≡ Done s cells others) × (new ≡ old ++ s) × (claims ≡ before ++ others)
done_parts old new cells before claims (Done s more others) e =
    let a : old ++ s ≡ new = ap bytes_in e in
    let b : more ≡ cells = ap cells_in e in
    let c : before ++ others ≡ claims = ap claims_in e in
    (s, others, (λ i. Done s (b i) others), sym a, sym c)
  where
    bytes_in : Written → List ℕ
    bytes_in (Done s c k) = s
    bytes_in (Refused rule path) = []

    cells_in : Written → List ℕ
    cells_in (Done s c k) = c
    cells_in (Refused rule path) = []

    claims_in : Written → List Claim
    claims_in (Done s c k) = k
    claims_in (Refused rule path) = []
done_parts old new cells before claims (Refused rule path) e = absurd (cc)

pub twice_after : (a b : List ℕ) (before claims : List Claim) (w : Written) → after_writing a before (after_writing b claims w) ≡ after_writing (a ++ b) (before ++ claims) w
twice_after a b before claims (Done s cells others) = λ i. Done (sym (append_assoc a b s) i) cells (sym (append_assoc before claims others) i)
twice_after a b before claims (Refused rule path) = refl

-- what follows is written behind it
pub total_followed : (old new cells : List ℕ) (before claims : List Claim) (w : Written) (go : ℕ → List ℕ → Written) → after_writing old before w ≡ Done new cells claims
    → after_writing old before (followed w (length old) go) ≡ after_writing new claims (go (length new) cells)
total_followed old new cells before claims w go e =
    let d = done_parts old new cells before claims w e in
    let len : length old + length d.0 ≡ length new = sym (length-append old d.0) ∙ ap length (sym d.3) in
    ap (λ x. after_writing old before (followed x (length old) go)) d.2
    ∙ twice_after old d.0 before d.1 (go (length old + length d.0) cells)
    ∙ (λ i. after_writing (sym d.3 i) (sym d.4 i) (go (len i) cells))

pub total_refused : (rule : WriteRule) (path : List ℕ) (p : ℕ) (w : Written) (go : ℕ → List ℕ → Written) → w ≡ Refused rule path → followed w p go ≡ Refused rule path
total_refused rule path p w go e = ap (λ x. followed x p go) e

pub refused_after : (old path : List ℕ) (before : List Claim) (rule : WriteRule) (w : Written) → after_writing old before w ≡ Refused rule path → w ≡ Refused rule path
refused_after old path before rule (Done s cells claims) e = absurd (cc)
refused_after old path before rule (Refused r p) e = e

-- its size is right, or isn't
pub sized_total : (old new cells path : List ℕ) (before claims : List Claim) (test : ℕ → Bool) (w : Written) → after_writing old before w ≡ Done new cells claims → test (length new - length old) ≡ true
    → after_writing old before (of_size test path w) ≡ Done new cells claims
sized_total old new cells path before claims test w e t =
    let d = done_parts old new cells before claims w e in
    let len : length d.0 ≡ length new - length old = omega (arith, ap length d.3, length-append old d.0) in
    ap (λ x. after_writing old before (of_size test path x)) d.2
    ∙ ap (λ b. after_writing old before (wanted b Size path (Done d.0 cells d.1))) (ap test len ∙ t)
    ∙ (λ i. Done (sym d.3 i) cells (sym d.4 i))

pub sized_refused : (old new cells path : List ℕ) (before claims : List Claim) (test : ℕ → Bool) (w : Written) → after_writing old before w ≡ Done new cells claims → test (length new - length old) ≡ false → of_size test path w ≡ Refused Size path
sized_refused old new cells path before claims test w e t =
    let d = done_parts old new cells before claims w e in
    let len : length d.0 ≡ length new - length old = omega (arith, ap length d.3, length-append old d.0) in
    ap (of_size test path) d.2 ∙ ap (λ b. wanted b Size path (Done d.0 cells d.1)) (ap test len ∙ t)

pub size_refused : (rule : WriteRule) (at path : List ℕ) (test : ℕ → Bool) (w : Written) → w ≡ Refused rule at → of_size test path w ≡ Refused rule at
size_refused rule at path test w e = ap (of_size test path) e

-- where its values say that it ends, or not

pub settled_total : (old new cells : List ℕ) (before claims : List Claim) (w : Written) → after_writing old before w ≡ Done new cells claims
    → ((next : Written) → agreed (length new) (drop (length before) claims) next ≡ next) → after_writing old before (settled (length old) w) ≡ Done new cells before
settled_total old new cells before claims w e h =
    let d = done_parts old new cells before claims w e in
    let len : length old + length d.0 ≡ length new = sym (length-append old d.0) ∙ ap length (sym d.3) in
    let said : d.1 ≡ drop (length before) claims = sym (drop-append_seam before d.1) ∙ ap (drop (length before)) (sym d.4) in
    ap (λ x. after_writing old before (settled (length old) x)) d.2
    ∙ (λ i. after_writing old before (agreed (len i) (said i) (Done d.0 cells [])))
    ∙ ap (after_writing old before) (h (Done d.0 cells []))
    ∙ (λ i. Done (sym d.3 i) cells (append-nil before i))

pub settled_stops : (h : Halt) (at old new cells : List ℕ) (before claims : List Claim) (w : Written) → after_writing old before w ≡ Done new cells claims
    → ((next : Written) → Halts h at (agreed (length new) (drop (length before) claims) next)) → Halts h at (settled (length old) w)
settled_stops h at old new cells before claims w e stops =
    let d = done_parts old new cells before claims w e in
    let len : length old + length d.0 ≡ length new = sym (length-append old d.0) ∙ ap length (sym d.3) in
    let said : d.1 ≡ drop (length before) claims = sym (drop-append_seam before d.1) ∙ ap (drop (length before)) (sym d.4) in
    halts_same h at (settled (length old) w) (agreed (length new) (drop (length before) claims) (Done d.0 cells []))
    (ap (settled (length old)) d.2 ∙ (λ i. agreed (len i) (said i) (Done d.0 cells []))) (stops (Done d.0 cells []))
  where
    halts_same : (h : Halt) (at : List ℕ) (w v : Written) → w ≡ v → Halts h at v → Halts h at w
    halts_same (halt.Broken rule) at w v e f = e ∙ f
    halts_same halt.NoMemory at w v e f = tt

pub settled_halts : (h : Halt) (at : List ℕ) (p : ℕ) (w : Written) → Halts h at w → Halts h at (settled p w)
settled_halts (halt.Broken rule) at p w e = ap (settled p) e
settled_halts halt.NoMemory at p w e = tt

-- of a field that is copied, how many bytes were written

pub copied_total : (copy : Option CopyOut) (places old new more last : List ℕ) (before claims : List Claim) (w : Written) → after_writing old before w ≡ Done new more claims → last ≡ noted copy places (length old) (length new - length old) more
    → after_writing old before (copied copy places (length old) w) ≡ Done new last claims
copied_total copy places old new more last before claims w e noted_is =
    let d = done_parts old new more before claims w e in
    let len : length d.0 ≡ length new - length old = omega (arith, ap length d.3, length-append old d.0) in
    ap (λ x. after_writing old before (copied copy places (length old) x)) d.2
    ∙ (λ i. Done (sym d.3 i) (noted copy places (length old) (len i) more) (sym d.4 i))
    ∙ ap (λ cells. Done new cells claims) (sym noted_is)

pub copied_halts : (h : Halt) (at : List ℕ) (copy : Option CopyOut) (places : List ℕ) (p : ℕ) (w : Written) → Halts h at w → Halts h at (copied copy places p w)
copied_halts (halt.Broken rule) at copy places p w e = ap (copied copy places p) e
copied_halts halt.NoMemory at copy places p w e = tt

-- Lists of values

pub items_next : (each : List ℕ → ℕ → List ℕ → Datum → Written) (path : List ℕ) (i p : ℕ) (cells : List ℕ) (vs rest : List Datum) (v : Datum) → vs ≡ v ∷ rest
    → items_written each path i p cells vs ≡ followed (of_size is_some_size (path ++ i ∷ []) (each (path ++ i ∷ []) p cells v)) p (λ q cells. items_written each path (suc i) q cells rest)
unfolding items_written
items_next each path i p cells vs rest v e = ap (items_written each path i p cells) e

pub items_none : (each : List ℕ → ℕ → List ℕ → Datum → Written) (path : List ℕ) (i p : ℕ) (cells : List ℕ) (vs : List Datum) → vs ≡ [] → items_written each path i p cells vs ≡ Done [] cells []
unfolding items_written
items_none each path i p cells vs e = ap (items_written each path i p cells) e

pub one_more : (each : List ℕ → ℕ → List ℕ → Datum → Written) (path old new : List ℕ) (i : ℕ) (cells more : List ℕ) (before claims : List Claim) (vs rest : List Datum) (v : Datum) → vs ≡ v ∷ rest
    → after_writing old before (each (path ++ i ∷ []) (length old) cells v) ≡ Done new more claims → (length new ≡ length old → ⊥)
    → after_writing old before (items_written each path i (length old) cells vs) ≡ after_writing new claims (items_written each path (i + 1) (length new) more rest)
one_more each path old new i cells more before claims vs rest v split e apart =
    let d = done_parts old new more before claims (each (path ++ i ∷ []) (length old) cells v) e in
    let longer : length new ≡ length old + length d.0 = ap length d.3 ∙ length-append old d.0 in
    let grown : length new - length old ≡ suc (length new - length old - 1) = omega (arith, longer, apart) in
    let next : suc i ≡ i + 1 = omega arith in
    ap (after_writing old before) (items_next each path i (length old) cells vs rest v split)
    ∙ total_followed old new more before claims (of_size is_some_size (path ++ i ∷ []) (each (path ++ i ∷ []) (length old) cells v)) (λ q cells. items_written each path (suc i) q cells rest)
    (sized_total old new more (path ++ i ∷ []) before claims is_some_size (each (path ++ i ∷ []) (length old) cells v) e (ap is_some_size grown))
    ∙ ap (λ k. after_writing new claims (items_written each path k (length new) more rest)) next

-- an element that is refused
pub one_refused : (each : List ℕ → ℕ → List ℕ → Datum → Written) (path : List ℕ) (i p : ℕ) (cells : List ℕ) (vs rest : List Datum) (v : Datum) (rule : WriteRule) (at : List ℕ) → vs ≡ v ∷ rest
    → each (path ++ i ∷ []) p cells v ≡ Refused rule at → items_written each path i p cells vs ≡ Refused rule at
one_refused each path i p cells vs rest v rule at split e =
    items_next each path i p cells vs rest v split
    ∙ ap (λ x. followed (of_size is_some_size (path ++ i ∷ []) x) p (λ q cells. items_written each path (suc i) q cells rest)) e

-- What stopped the writer

pub halts_total : (h : Halt) (at old new : List ℕ) (before claims : List Claim) (w v : Written) → after_writing old before w ≡ after_writing new claims v → Halts h at v → Halts h at w
halts_total (halt.Broken rule) at old new before claims w v e f = refused_after old at before rule w (e ∙ ap (after_writing new claims) f)
halts_total halt.NoMemory at old new before claims w v e f = tt

pub halts_items : (h : Halt) (at : List ℕ) (each : List ℕ → ℕ → List ℕ → Datum → Written) (path : List ℕ) (i p : ℕ) (cells : List ℕ) (vs rest : List Datum) (v : Datum) → vs ≡ v ∷ rest
    → Halts h at (each (path ++ i ∷ []) p cells v) → Halts h at (items_written each path i p cells vs)
halts_items (halt.Broken rule) at each path i p cells vs rest v split f = one_refused each path i p cells vs rest v rule at split f
halts_items halt.NoMemory at each path i p cells vs rest v split f = tt

pub halts_at : (h : Halt) (at path : List ℕ) (w v : Written) → at ≡ path → w ≡ v → Halts h path v → Halts h at w
halts_at (halt.Broken rule) at path w v a e f = e ∙ f ∙ ap (Refused rule) (sym a)
halts_at halt.NoMemory at path w v a e f = tt

-- an element that takes no byte
pub one_empty : (each : List ℕ → ℕ → List ℕ → Datum → Written) (path old new : List ℕ) (i : ℕ) (cells more : List ℕ) (before claims : List Claim) (vs rest : List Datum) (v : Datum) → vs ≡ v ∷ rest
    → after_writing old before (each (path ++ i ∷ []) (length old) cells v) ≡ Done new more claims → length new ≡ length old → items_written each path i (length old) cells vs ≡ Refused Size (path ++ i ∷ [])
one_empty each path old new i cells more before claims vs rest v split e same =
    let none : length new - length old ≡ 0 = omega (arith, same) in
    items_next each path i (length old) cells vs rest v split
    ∙ total_refused Size (path ++ i ∷ []) (length old) (of_size is_some_size (path ++ i ∷ []) (each (path ++ i ∷ []) (length old) cells v)) (λ q cells. items_written each path (suc i) q cells rest)
    (sized_refused old new more (path ++ i ∷ []) before claims is_some_size (each (path ++ i ∷ []) (length old) cells v) e (ap is_some_size none))

-- nothing more
pub all_written : (each : List ℕ → ℕ → List ℕ → Datum → Written) (path old : List ℕ) (i : ℕ) (cells : List ℕ) (before : List Claim) (vs : List Datum) → vs ≡ [] → after_writing old before (items_written each path i (length old) cells vs) ≡ Done old cells before
all_written each path old i cells before vs e = ap (after_writing old before) (items_none each path i (length old) cells vs e) ∙ (λ k. Done (append-nil old k) cells (append-nil before k))

-- all of it was written, behind nothing
pub whole_done : (w : Written) (new cells : List ℕ) (claims : List Claim) → after_writing [] [] w ≡ Done new cells claims → w ≡ Done new cells claims
whole_done (Done s more others) new cells claims e = e
whole_done (Refused rule path) new cells claims e = e
