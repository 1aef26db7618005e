-- What names stand for in the module and in the limits of its text goes together.
use Rattle.std.proofs.Common.{◌≡◌, ℕ, zero, suc, ◌<◌, ◌≤◌, Bool, true, false, List, [], ◌∷◌, ◌++◌, length, Option, Some, None, is_some, refl, sym, ap, ◌∙◌, subst, arith, slice_get, bytes_eq, length-append}
use Rattle.std.specs.Prelude.{if◌then◌else◌}
use Rattle.td_front_facts.specs.Imports.{TypeDef, Measure, Meaning}
use Rattle.td_core.specs.Weights.{definition_depth, depth_of, definition_weight, weight_of}
use Rattle.td_names.specs.Names.{looked_up, declared}
use Rattle.td_limits.specs.Measures.{Measures, type_depth, type_weight, type_depth_of, type_weight_of}
use Rattle.td_elab_rules.specs.declared.known.Slot.{Slot}
use Rattle.td_elab_rules.specs.declared.known.Meaning.TheVariants as meaning
use Rattle.td_front_facts.proofs.Below.{stays}

abbrev pub slots_in : List (List Slot) → ℕ → List Slot
slots_in rs r = elim (slice_get rs r) [ None ↦ [] | Some slots ↦ slots ]

-- a type is no deeper and no heavier than its name, a record has no more slots, and all else counts as one cell
abbrev pub IsMeasured : List TypeDef → List (List Slot) → Meaning → Measure → Type 0
IsMeasured ds rs (meaning.Constant n) m = 1 ≤ m.cells
IsMeasured ds rs (meaning.Member n) m = 1 ≤ m.cells
IsMeasured ds rs (meaning.Number t) m = 1 ≤ m.cells
IsMeasured ds rs (meaning.Enum t v) m = 1 ≤ m.cells
IsMeasured ds rs (meaning.Type j) m = (j < length ds) × ((depth_of ds j ≤ m.depth) × (weight_of ds j ≤ m.weight))
IsMeasured ds rs (meaning.Record r) m = (r < length rs) × (length (slots_in rs r) ≤ m.cells)

abbrev pub Linked : List TypeDef → List (List Slot) → Option Meaning → Option Measure → Type 0
Linked ds rs None None = Unit {0}
Linked ds rs None (Some m) = ⊥
Linked ds rs (Some x) None = ⊥
Linked ds rs (Some x) (Some m) = IsMeasured ds rs x m

abbrev pub Globals : Type 0
Globals = List (List ℕ × Meaning)

abbrev pub AreLinked : List TypeDef → List (List Slot) → Globals → Measures → Type 0
AreLinked ds rs globals known = (n : List ℕ) → Linked ds rs (looked_up globals n) (looked_up known n)

-- ---- more definitions and records

measured_definition : (ds : List TypeDef) (rs : List (List Slot)) (d : TypeDef) (x : Meaning) (m : Measure) → IsMeasured ds rs x m → IsMeasured (ds ++ d ∷ []) rs x m
measured_definition ds rs d (meaning.Constant n) m h = h
measured_definition ds rs d (meaning.Member n) m h = h
measured_definition ds rs d (meaning.Number t) m h = h
measured_definition ds rs d (meaning.Enum t v) m h = h
measured_definition ds rs d (meaning.Type j) m h = (
  omega (arith, h.0, length-append ds (d ∷ [])),
  (omega (arith, stays definition_depth ds d j h.0, h.1.0), omega (arith, stays definition_weight ds d j h.0, h.1.1)),
)
measured_definition ds rs d (meaning.Record r) m h = h

pub linked_definition : (ds : List TypeDef) (rs : List (List Slot)) (d : TypeDef) (o : Option Meaning) (p : Option Measure) → Linked ds rs o p → Linked (ds ++ d ∷ []) rs o p
linked_definition ds rs d None None h = tt
linked_definition ds rs d None (Some m) h = h
linked_definition ds rs d (Some x) None h = h
linked_definition ds rs d (Some x) (Some m) h = measured_definition ds rs d x m h

slots_stay : (rs : List (List Slot)) (xs : List Slot) (r : ℕ) → r < length rs → slots_in (rs ++ xs ∷ []) r ≡ slots_in rs r
slots_stay [] xs r lt = absurd (omega (arith, lt))
slots_stay (y ∷ rs) xs zero lt = refl
slots_stay (y ∷ rs) xs (suc r) lt = slots_stay rs xs r (omega (arith, lt))

pub slots_last : (rs : List (List Slot)) (xs : List Slot) → slots_in (rs ++ xs ∷ []) (length rs) ≡ xs
slots_last [] xs = refl
slots_last (y ∷ rs) xs = slots_last rs xs

measured_record : (ds : List TypeDef) (rs : List (List Slot)) (xs : List Slot) (x : Meaning) (m : Measure) → IsMeasured ds rs x m → IsMeasured ds (rs ++ xs ∷ []) x m
measured_record ds rs xs (meaning.Constant n) m h = h
measured_record ds rs xs (meaning.Member n) m h = h
measured_record ds rs xs (meaning.Number t) m h = h
measured_record ds rs xs (meaning.Enum t v) m h = h
measured_record ds rs xs (meaning.Type j) m h = h
measured_record ds rs xs (meaning.Record r) m h = (omega (arith, h.0, length-append rs (xs ∷ [])), subst (λ y. length y ≤ m.cells) (sym (slots_stay rs xs r h.0)) h.1)

pub linked_record : (ds : List TypeDef) (rs : List (List Slot)) (xs : List Slot) (o : Option Meaning) (p : Option Measure) → Linked ds rs o p → Linked ds (rs ++ xs ∷ []) o p
linked_record ds rs xs None None h = tt
linked_record ds rs xs None (Some m) h = h
linked_record ds rs xs (Some x) None h = h
linked_record ds rs xs (Some x) (Some m) h = measured_record ds rs xs x m h

-- ---- one more name

-- what a name stands for, where one is added at the end
abbrev or_new : {A : Type 0} → Option A → Bool → A → Option A
or_new (Some v) same a = Some v
or_new None true a = Some a
or_new None false a = None

at_end : {A : Type 0} (es : List (List ℕ × A)) (x y : List ℕ) (a : A) → looked_up (es ++ (x, a) ∷ []) y ≡ or_new (looked_up es y) (bytes_eq y x) a
at_end [] x y a = by (bytes_eq y x)
  where
    by : (b : Bool) → (if b then Some a else None) ≡ or_new None b a
    by true = refl
    by false = refl
at_end (e ∷ es) x y a = by (bytes_eq y e.0) (at_end es x y a)
  where
    by : (b : Bool) → looked_up (es ++ (x, a) ∷ []) y ≡ or_new (looked_up es y) (bytes_eq y x) a
        → (if b then Some e.1 else looked_up (es ++ (x, a) ∷ []) y) ≡ or_new (if b then Some e.1 else looked_up es y) (bytes_eq y x) a
    by true later = refl
    by false later = later

declared_old : {A : Type 0} (es : List (List ℕ × A)) (x : List ℕ) (a v : A) → looked_up es x ≡ Some v → declared es x a ≡ es
declared_old es x a v e = ap (λ o. if is_some o then es else es ++ (x, a) ∷ []) e

declared_new : {A : Type 0} (es : List (List ℕ × A)) (x : List ℕ) (a : A) → looked_up es x ≡ None → declared es x a ≡ es ++ (x, a) ∷ []
declared_new es x a e = ap (λ o. if is_some o then es else es ++ (x, a) ∷ []) e

linked_new : (ds : List TypeDef) (rs : List (List Slot)) (x : Meaning) (m : Measure) → IsMeasured ds rs x m → (o : Option Meaning) (p : Option Measure) (b : Bool) → Linked ds rs o p → Linked ds rs (or_new o b x) (or_new p b m)
linked_new ds rs x m new (Some y) (Some q) b h = h
linked_new ds rs x m new (Some y) None b h = absurd h
linked_new ds rs x m new None (Some q) b h = absurd h
linked_new ds rs x m new None None true h = new
linked_new ds rs x m new None None false h = tt

pub linked_name : (ds : List TypeDef) (rs : List (List Slot)) (globals : Globals) (known : Measures) (n : List ℕ) (x : Meaning) (m : Measure)
    → IsMeasured ds rs x m → AreLinked ds rs globals known → AreLinked ds rs (declared globals n x) (declared known n m)
linked_name ds rs globals known n x m new h = by (looked_up globals n) (looked_up known n) refl refl (h n)
  where
    by : (o : Option Meaning) (p : Option Measure) → looked_up globals n ≡ o → looked_up known n ≡ p → Linked ds rs o p → AreLinked ds rs (declared globals n x) (declared known n m)
    by (Some y) (Some q) e f l = λ k. subst (λ g. Linked ds rs (looked_up g k) (looked_up (declared known n m) k)) (sym (declared_old globals n x y e)) (subst (λ g. Linked ds rs (looked_up globals k) (looked_up g k)) (sym (declared_old known n m q f)) (h k))
    by (Some y) None e f l = absurd l
    by None (Some q) e f l = absurd l
    by None None e f l =
        λ k.
        let both : Linked ds rs (or_new (looked_up globals k) (bytes_eq k n) x) (or_new (looked_up known k) (bytes_eq k n) m) = linked_new ds rs x m new (looked_up globals k) (looked_up known k) (bytes_eq k n) (h k) in
        let left = sym (ap (λ g. looked_up g k) (declared_new globals n x e) ∙ at_end globals n k x) in
        let right = sym (ap (λ g. looked_up g k) (declared_new known n m f) ∙ at_end known n k m) in
        subst (λ o. Linked ds rs o (looked_up (declared known n m) k)) left (subst (λ p. Linked ds rs (or_new (looked_up globals k) (bytes_eq k n) x) p) right both)

-- ---- what a type's name, and a cell's, comes to

type_linked : (ds : List TypeDef) (rs : List (List Slot)) (o : Option Meaning) (p : Option Measure) (j : ℕ) → o ≡ Some (meaning.Type j) → Linked ds rs o p → (m : Measure) × (p ≡ Some m) × IsMeasured ds rs (meaning.Type j) m
type_linked ds rs o None j e h = absurd (subst (λ o. Linked ds rs o None) e h)
type_linked ds rs o (Some m) j e h = (m, refl, subst (λ o. Linked ds rs o (Some m)) e h)

module _ (ds : List TypeDef) (rs : List (List Slot)) (globals : Globals) (known : Measures) (h : AreLinked ds rs globals known) where
  pub type_deep : (n : List ℕ) (j : ℕ) → looked_up globals n ≡ Some (meaning.Type j) → depth_of ds j ≤ type_depth_of known n
  type_deep n j e = let t = type_linked ds rs (looked_up globals n) (looked_up known n) j e (h n) in subst (λ p. depth_of ds j ≤ type_depth p) (sym t.1) t.2.1.0

  pub type_heavy : (n : List ℕ) (j : ℕ) → looked_up globals n ≡ Some (meaning.Type j) → weight_of ds j ≤ type_weight_of known n
  type_heavy n j e = let t = type_linked ds rs (looked_up globals n) (looked_up known n) j e (h n) in subst (λ p. weight_of ds j ≤ type_weight p) (sym t.1) t.2.1.1

  pub type_there : (n : List ℕ) (j : ℕ) → looked_up globals n ≡ Some (meaning.Type j) → j < length ds
  type_there n j e = (type_linked ds rs (looked_up globals n) (looked_up known n) j e (h n)).2.0
