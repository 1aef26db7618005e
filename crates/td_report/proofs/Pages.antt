-- Texts that wait in a page before they are written. Cited by other crates.
use Rattle.std.proofs.Common.{◌≡◌, ℕ, ◌+◌, ◌<◌, List, [], ◌++◌, length, take, drop, get_or, Result, Ok, Err, IsErr, sym, ap, ◌∙◌, append_assoc, flat_map}
use Rattle.std.proofs.lemmas.Grind.{flat_map-append}
use Rattle.std.proofs.lemmas.List.{append-nil, take-append-drop}
use Rattle.td_io.specs.States.{SinkState, Takes, WriteFails, Writes}
use Rattle.td_report.proofs.Composing.{writes_both, writes_stopped, writes_as, each_more}
use Rattle.td_report.specs.Paged.{IsMoved, Waits}

takes_both : {a b c : SinkState} {first second : List ℕ} → Takes a b first → Takes b c second → Takes a c (first ++ second)
takes_both {a = a} {b = b} {c = c} {first = first} {second = second} p q =
    let one : Writes {T = Unit {0}} {E = Unit {0}} a b first (Ok tt) = record { done = p; failed = tt } in
    let other : Writes {T = Unit {0}} {E = Unit {0}} b c second (Ok tt) = record { done = q; failed = tt } in
    let both : Writes {T = Unit {0}} {E = Unit {0}} a c (first ++ second) (Ok tt) = writes_both one other in
    both.done

-- the page went out, and then the text did, or didn't
pub waits_no_more : {T E : Type 0} (a b c : SinkState) (before empty after text : List ℕ) (r : Result T E) → Takes a b before → empty ≡ [] → after ≡ empty → Writes b c text r → Waits a c before after text r
waits_no_more a b c before empty after text (Ok v) taken none same w = record {
  done = record {
    written = before ++ text;
    parts = sym (ap (λ (l : List ℕ). (before ++ text) ++ l) (same ∙ none) ∙ append-nil (before ++ text));
    taken = takes_both taken w.done;
  };
  failed = tt;
}
waits_no_more {E = E} a b c before empty after text (Err e) taken none same w =
    let one : Writes {T = Unit {0}} {E = Unit {0}} a b before (Ok tt) = record { done = taken; failed = tt } in
    record { done = tt; failed = (writes_both one w).failed }

-- ---- one text after the other

regrouped : (w page text v next : List ℕ) → page ++ text ≡ v ++ next → (w ++ page) ++ text ≡ (w ++ v) ++ next
regrouped w page text v next e = append_assoc w page text ∙ ap (λ (l : List ℕ). w ++ l) e ∙ sym (append_assoc w v next)

pub moved_more : {A : Type 0} (f : A → List ℕ) (xs : List A) (i : ℕ) (d : A) (a b c : SinkState) (page next : List ℕ) → i < length xs
    → IsMoved a b [] page (flat_map f (take i xs)) → IsMoved b c page next (f (get_or xs i d)) → IsMoved a c [] next (flat_map f (take (i + 1) xs))
moved_more f xs i d a b c page next h p q = record {
  written = p.written ++ q.written;
  parts = each_more f xs i d h ∙ ap (λ (l : List ℕ). l ++ f (get_or xs i d)) p.parts ∙ regrouped p.written page (f (get_or xs i d)) q.written next q.parts;
  taken = takes_both p.taken q.taken;
}

pub moved_stopped : {A T E : Type 0} (f : A → List ℕ) (xs : List A) (i : ℕ) (d : A) (a b c : SinkState) (page : List ℕ) (r : Result T E) → i < length xs → IsErr r
    → IsMoved a b [] page (flat_map f (take i xs)) → WriteFails b c (page ++ f (get_or xs i d)) → Writes a c (flat_map f xs) r
moved_stopped {T = T} {E = E} f xs i d a b c page r h wrong p q =
    let text = f (get_or xs i d) in
    let one : Writes {T = Unit {0}} {E = Unit {0}} a b p.written (Ok tt) = record { done = p.taken; failed = tt } in
    let other : Writes {T = Unit {0}} {E = Unit {0}} b c (page ++ text) (Err tt) = record { done = tt; failed = q } in
    let both : Writes {T = Unit {0}} {E = Unit {0}} a c (p.written ++ (page ++ text)) (Err tt) = writes_both one other in
    let so_far : flat_map f (take (i + 1) xs) ≡ p.written ++ (page ++ text) = each_more f xs i d h ∙ ap (λ (l : List ℕ). l ++ text) p.parts ∙ append_assoc p.written page text in
    let all : flat_map f xs ≡ flat_map f (take (i + 1) xs) ++ flat_map f (drop (i + 1) xs) = ap (flat_map f) (sym (take-append-drop (i + 1) xs)) ∙ flat_map-append f (take (i + 1) xs) (drop (i + 1) xs) in
    writes_as all (writes_stopped (flat_map f (drop (i + 1) xs)) r wrong (writes_as so_far both))

pub moved_all : {T E : Type 0} (a b c : SinkState) (page text : List ℕ) (r : Result T E) → IsMoved a b [] page text → Writes b c page r → Writes a c text r
moved_all {T = T} {E = E} a b c page text r p w =
    let one : Writes {T = Unit {0}} {E = Unit {0}} a b p.written (Ok tt) = record { done = p.taken; failed = tt } in
    writes_as p.parts (writes_both one w)
