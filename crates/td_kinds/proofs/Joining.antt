-- Kinds of fields from the last one back.
use Rattle.std.proofs.Common.{◌≡◌, ℕ, suc, ◌+◌, ◌-◌, ◌<◌, List, [], ◌∷◌, length, get_or, drop, drop-cons, length-drop, add-one, refl, sym, ap, ◌∙◌, arith}
use Rattle.td_core.specs.declared.kind.Kind.{Kind}
use Rattle.td_core.specs.declared.module.Field.{Field}
use Rattle.td_kinds.specs.Kinds.{joined, field_kind, fields_kind}
use Rattle.td_num.proofs.Truths.{all_dropped}

dropped : (fs : List Field) (i : ℕ) (f : Field) → i < length fs → f ≡ get_or fs i f → drop i fs ≡ f ∷ drop (i + 1) fs
dropped fs i f low is = drop-cons fs i f low ∙ ap (λ x. x ∷ drop (suc i) fs) (sym is) ∙ ap (λ j. f ∷ drop j fs) (sym (add-one i))

alone : (kinds : ℕ → Kind) (f : Field) (rest : List Field) → rest ≡ [] → field_kind kinds f.element f.extent ≡ fields_kind kinds (f ∷ rest)
alone kinds f rest h = ap (λ x. fields_kind kinds (f ∷ x)) (sym h)

before : (kinds : ℕ → Kind) (f : Field) (rest : List Field) → 0 < length rest → joined (field_kind kinds f.element f.extent) (fields_kind kinds rest) ≡ fields_kind kinds (f ∷ rest)
before kinds f [] h = absurd (omega arith)
before kinds f (g ∷ rest) h = refl

pub joined_first : (kinds : ℕ → Kind) (fs : List Field) (k : ℕ) (f : Field) → k ≡ 0 → k < length fs → f ≡ get_or fs (length fs - 1 - k) f
    → field_kind kinds f.element f.extent ≡ fields_kind kinds (drop (length fs - (k + 1)) fs)
joined_first kinds fs k f zeroth low is =
    let i = length fs - 1 - k in
    let same : length fs - (k + 1) ≡ i = omega arith in
    alone kinds f (drop (i + 1) fs) (all_dropped fs (i + 1) (omega arith)) ∙ ap (fields_kind kinds) (sym (dropped fs i f (omega arith) is)) ∙ ap (λ j. fields_kind kinds (drop j fs)) (sym same)

pub joined_next : (kinds : ℕ → Kind) (fs : List Field) (k : ℕ) (f : Field) (kind : Kind) → (k ≡ 0 → ⊥) → k < length fs → f ≡ get_or fs (length fs - 1 - k) f
    → kind ≡ fields_kind kinds (drop (length fs - k) fs) → joined (field_kind kinds f.element f.extent) kind ≡ fields_kind kinds (drop (length fs - (k + 1)) fs)
joined_next kinds fs k f kind more low is so_far =
    let i = length fs - 1 - k in
    let same : length fs - (k + 1) ≡ i = omega arith in
    let was : length fs - k ≡ i + 1 = omega arith in
    ap (joined (field_kind kinds f.element f.extent)) (so_far ∙ ap (λ j. fields_kind kinds (drop j fs)) was)
    ∙ before kinds f (drop (i + 1) fs) (omega (arith, length-drop (i + 1) fs))
    ∙ ap (fields_kind kinds) (sym (dropped fs i f (omega arith) is)) ∙ ap (λ j. fields_kind kinds (drop j fs)) (sym same)

pub none_joined : (kinds : ℕ → Kind) (fs : List Field) → fields_kind kinds [] ≡ fields_kind kinds (drop (length fs - 0) fs)
none_joined kinds fs = ap (fields_kind kinds) (sym (all_dropped fs (length fs - 0) (omega arith)))
