-- Cuts by what is known, one fact after the other, and what is known once a condition was learned.
use Rattle.std.proofs.Common.{◌≡◌, ℕ, ◌<◌, ◌+◌, length, get_or, take, drop, drop-cons, add-one, append-nil, append_assoc, Bool, true, false, refl, sym, ap, ◌∙◌, List, [], ◌∷◌, ◌++◌, None}
use Rattle.std.proofs.Math.Seq.{take-append_seam}
use Rattle.td_core.specs.Term.{Term}
use Rattle.td_expr.specs.Facts.{Fact}
use Rattle.td_arith.specs.Imports.{Relation}
use Rattle.td_expr.specs.Range.{Range, cut_by, cut_by_all, cut_where}
use Rattle.td_arith.specs.declared.comparisons.Known.{Known}
use Rattle.td_arith.specs.Known.{fact_in, facts_in, IsLearned}

next_facts : (ks : List Known) (i : ℕ) (k : Known) → i < length ks → k ≡ get_or ks i k → facts_in (drop i ks) ≡ fact_in k ∷ facts_in (drop (i + 1) ks)
next_facts ks i k low is =
    ap facts_in (drop-cons ks i k low) ∙ ap (λ j. fact_in (get_or ks i k) ∷ facts_in (drop j ks)) (sym (add-one i))
    ∙ ap (λ x. fact_in x ∷ facts_in (drop (i + 1) ks)) (sym is)

pub cut_next : (ks : List Known) (i : ℕ) (k : Known) (t : Term) (left more whole : Range) → i < length ks → k ≡ get_or ks i k
    → cut_by_all (facts_in (drop i ks)) t left ≡ whole → more ≡ cut_by (fact_in k) t left → cut_by_all (facts_in (drop (i + 1) ks)) t more ≡ whole
cut_next ks i k t left more whole low is before step =
    ap (cut_by_all (facts_in (drop (i + 1) ks)) t) step
    ∙ sym (ap (λ fs. cut_by_all fs t left) (next_facts ks i k low is))
    ∙ before

-- a comparison without a constant cuts nothing
pub no_bound : (b : Bool) (r : Relation) (range : Range) → cut_where b r None range ≡ range
no_bound true r range = refl
no_bound false r range = refl

facts_append : (ks js : List Known) → facts_in (ks ++ js) ≡ facts_in ks ++ facts_in js
facts_append [] js = refl
facts_append (k ∷ ks) js = ap (λ fs. fact_in k ∷ fs) (facts_append ks js)

-- what was known before, and what was learned
pub all_known : (facts : List Fact) (before after : List Known) → IsLearned facts before after → facts_in after ≡ facts_in before ++ facts
all_known facts before after learned =
    ap facts_in learned.behind ∙ facts_append before learned.more ∙ ap (λ fs. facts_in before ++ fs) learned.are

-- what was learned is forgotten
pub forgotten : (facts : List Fact) (before after : List Known) → IsLearned facts before after → take (length before) after ≡ before
forgotten facts before after learned = ap (take (length before)) learned.behind ∙ take-append_seam before learned.more

pub nothing_learned : (ks : List Known) → IsLearned [] ks ks
nothing_learned ks = record { more = []; behind = sym (append-nil ks); are = refl }

pub one_learned : (ks after : List Known) (k : Known) (f : Fact) → after ≡ ks ++ k ∷ [] → fact_in k ≡ f → IsLearned (f ∷ []) ks after
one_learned ks after k f is told = record { more = k ∷ []; behind = is; are = ap (λ g. g ∷ []) told }

pub learned_twice : (fs gs : List Fact) (a b c : List Known) → IsLearned fs a b → IsLearned gs b c → IsLearned (fs ++ gs) a c
learned_twice fs gs a b c first second = record {
  more = first.more ++ second.more;
  behind = second.behind ∙ ap (λ ks. ks ++ second.more) first.behind ∙ append_assoc a first.more second.more;
  are = facts_append first.more second.more ∙ ap (λ ks. ks ++ facts_in second.more) first.are ∙ ap (λ ks. fs ++ ks) second.are;
}
