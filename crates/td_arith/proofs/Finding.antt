-- The first of what was found and what is left.
use Rattle.std.proofs.Common.{◌≡◌, ℕ, ◌+◌, ◌<◌, List, ◌++◌, length, get_or, drop, refl, sym, ap, ◌∙◌, Option, Some, None}
use Rattle.td_core.specs.Term.{Term}
use Rattle.td_arith.specs.Imports.{Part, Field, Case, TypeDef, Unsafe}
use Rattle.td_arith.specs.declared.values.ValueRange.{ValueRange}
use Rattle.td_expr.specs.Facts.{Fact}
use Rattle.td_expr.specs.Safe.{first, first_unsafe}
use Rattle.td_arith.specs.SafeModule.{list_unsafe, part_facts, part_unsafe, known_after_part, parts_unsafe, known_after_parts, field_unsafe, known_after_field, fields_unsafe, cases_unsafe, definition_unsafe, definitions_unsafe}
use Rattle.td_num.proofs.Lists.{drop_next as next}

pub first_assoc : (a b c : Option Unsafe) → first (first a b) c ≡ first a (first b c)
first_assoc None b c = refl
first_assoc (Some u) b c = refl

pub first_none : (a : Option Unsafe) → first a None ≡ a
first_none None = refl
first_none (Some u) = refl

-- one more was looked at
pub found_more : (found own more here rest whole : Option Unsafe) → more ≡ first found own → own ≡ here → first found (first here rest) ≡ whole → first more rest ≡ whole
found_more found own more here rest whole is own_is before =
    ap (λ o. first o rest) (is ∙ ap (first found) own_is) ∙ first_assoc found here rest ∙ before

pub args_left : (facts : List Fact) (es : List Term) (i : ℕ) (e : Term) (found whole : Option Unsafe) → i < length es → e ≡ get_or es i e
    → first found (list_unsafe facts (drop i es)) ≡ whole → first found (first (first_unsafe facts e) (list_unsafe facts (drop (i + 1) es))) ≡ whole
args_left facts es i e found whole low is before = sym (ap (λ xs. first found (list_unsafe facts xs)) (next es i e low is)) ∙ before

pub parts_left : (level : ℕ) (facts : List Fact) (v : Option ValueRange) (ps : List Part) (i : ℕ) (p : Part) (found whole : Option Unsafe) → i < length ps → p ≡ get_or ps i p
    → first found (parts_unsafe level facts v (drop i ps)) ≡ whole
    → first found (first (part_unsafe (facts ++ part_facts level v p.bits) p) (parts_unsafe (level + 1) (known_after_part level facts v p) v (drop (i + 1) ps))) ≡ whole
parts_left level facts v ps i p found whole low is before = sym (ap (λ xs. first found (parts_unsafe level facts v xs)) (next ps i p low is)) ∙ before

pub known_left : (level : ℕ) (facts : List Fact) (v : Option ValueRange) (ps : List Part) (i : ℕ) (p : Part) (whole : List Fact) → i < length ps → p ≡ get_or ps i p
    → known_after_parts level facts v (drop i ps) ≡ whole → known_after_parts (level + 1) (known_after_part level facts v p) v (drop (i + 1) ps) ≡ whole
known_left level facts v ps i p whole low is before = sym (ap (known_after_parts level facts v) (next ps i p low is)) ∙ before

pub fields_left : (level : ℕ) (facts : List Fact) (fs : List Field) (i : ℕ) (f : Field) (found whole : Option Unsafe) → i < length fs → f ≡ get_or fs i f
    → first found (fields_unsafe level facts (drop i fs)) ≡ whole
    → first found (first (field_unsafe level facts f) (fields_unsafe (level + length f.parts) (known_after_field level facts f) (drop (i + 1) fs))) ≡ whole
fields_left level facts fs i f found whole low is before = sym (ap (λ xs. first found (fields_unsafe level facts xs)) (next fs i f low is)) ∙ before

pub cases_left : (level : ℕ) (facts : List Fact) (cs : List Case) (i : ℕ) (c : Case) (found whole : Option Unsafe) → i < length cs → c ≡ get_or cs i c
    → first found (cases_unsafe level facts (drop i cs)) ≡ whole → first found (first (fields_unsafe level facts c.fields) (cases_unsafe level facts (drop (i + 1) cs))) ≡ whole
cases_left level facts cs i c found whole low is before = sym (ap (λ xs. first found (cases_unsafe level facts xs)) (next cs i c low is)) ∙ before

pub definitions_left : (ds : List TypeDef) (i : ℕ) (d : TypeDef) (found whole : Option Unsafe) → i < length ds → d ≡ get_or ds i d
    → first found (definitions_unsafe (drop i ds)) ≡ whole → first found (first (definition_unsafe d) (definitions_unsafe (drop (i + 1) ds))) ≡ whole
definitions_left ds i d found whole low is before = sym (ap (λ xs. first found (definitions_unsafe xs)) (next ds i d low is)) ∙ before
