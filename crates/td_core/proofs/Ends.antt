-- Lists that end in the same elements, and names by their ends.
use Rattle.std.proofs.Common.{◌≡◌, ◌≤◌, ◌-◌, ℕ, false, List, [], ◌∷◌, ◌++◌, length, take, drop, sym, ap, ◌∙◌, append_assoc, arith, length-append, length-drop}
use Rattle.std.specs.Bool.{◌==◌}
use Rattle.std.proofs.lemmas.Bool.Decides.{nat_tests}
use Rattle.std.proofs.lemmas.List.{take-append-drop, append_cancel_right}
use Rattle.std.proofs.Math.Seq.{drop-append_seam}
use Rattle.td_core.specs.FullNames.{name_in}

pub same_end : (x y a b : List ℕ) → length a ≡ length b → x ++ a ≡ y ++ b → a ≡ b
same_end x y a b l e =
    let n : length x ≡ length y = omega (arith, ap (λ (l : List ℕ). length l) e, length-append x a, length-append y b, l) in
    sym (drop-append_seam x a) ∙ (ap (λ (l : List ℕ). drop (length x) l) e ∙ (ap (λ (k : ℕ). drop k (y ++ b)) n ∙ drop-append_seam y b))

-- the longer of two ends of a list ends in the shorter one
pub longer_ends : (x y a b : List ℕ) → length a ≤ length b → x ++ a ≡ y ++ b → b ≡ take (length b - length a) b ++ a
longer_ends x y a b le e =
    let k : ℕ = length b - length a in
    let split : take k b ++ drop k b ≡ b = take-append-drop k b in
    let l : length a ≡ length (drop k b) = omega (arith, le, length-drop k b) in
    let whole : x ++ a ≡ (y ++ take k b) ++ drop k b = e ∙ (ap (λ (l : List ℕ). y ++ l) (sym split) ∙ sym (append_assoc y (take k b) (drop k b))) in
    sym split ∙ ap (λ (l : List ℕ). take k b ++ l) (sym (same_end x (y ++ take k b) a (drop k b) l whole))

-- a name in a part by its end
name_ends : (part own : List ℕ) → name_in part own ≡ (part ++ 46 ∷ []) ++ own
name_ends part own = sym (append_assoc part (46 ∷ []) own)

pub other_end : (part own bytes : List ℕ) → ((front : List ℕ) → bytes ≡ front ++ own → ⊥) → name_in part own ≡ bytes → ⊥
other_end part own bytes none e = none (part ++ 46 ∷ []) (sym e ∙ name_ends part own)

front_is : (part own bytes front : List ℕ) → bytes ≡ front ++ own → name_in part own ≡ bytes → front ≡ part ++ 46 ∷ []
front_is part own bytes front is e = append_cancel_right front (part ++ 46 ∷ []) own (sym is ∙ (sym e ∙ name_ends part own))

pub no_dot : (part own bytes front : List ℕ) → bytes ≡ front ++ own → ((x : List ℕ) → front ≡ x ++ 46 ∷ [] → ⊥) → name_in part own ≡ bytes → ⊥
no_dot part own bytes front is none e = none part (front_is part own bytes front is e)

pub joined_is : (part own bytes front first : List ℕ) → bytes ≡ front ++ own → front ≡ first ++ 46 ∷ [] → first ≡ part → name_in part own ≡ bytes
joined_is part own bytes front first is dotted same =
    name_ends part own ∙ (ap (λ (l : List ℕ). (l ++ 46 ∷ []) ++ own) (sym same) ∙ (ap (λ (l : List ℕ). l ++ own) (sym dotted) ∙ sym is))

pub part_is : (part own bytes front first : List ℕ) → bytes ≡ front ++ own → front ≡ first ++ 46 ∷ [] → name_in part own ≡ bytes → first ≡ part
part_is part own bytes front first is dotted e = append_cancel_right first part (46 ∷ []) (sym dotted ∙ front_is part own bytes front is e)

-- names in two parts

pub other_names : (part own second other : List ℕ) → length own ≤ length other → ((front : List ℕ) → other ≡ front ++ own → ⊥) → name_in part own ≡ name_in second other → ⊥
other_names part own second other le none e =
    none (take (length other - length own) other) (longer_ends (part ++ 46 ∷ []) (second ++ 46 ∷ []) own other le (sym (name_ends part own) ∙ (e ∙ name_ends second other)))

-- the second one, when its name ends in the first one's
names_end : (own second other front : List ℕ) → other ≡ front ++ own → name_in second other ≡ name_in second front ++ own
names_end own second other front is = ap (λ (l : List ℕ). second ++ 46 ∷ l) is ∙ sym (append_assoc second (46 ∷ front) own)

fronts_are : (part own second other front : List ℕ) → other ≡ front ++ own → name_in part own ≡ name_in second other → part ++ 46 ∷ [] ≡ name_in second front
fronts_are part own second other front is e =
    append_cancel_right (part ++ 46 ∷ []) (name_in second front) own (sym (name_ends part own) ∙ (e ∙ names_end own second other front is))

pub same_parts : (part own second other front : List ℕ) → other ≡ front ++ own → length front ≡ 0 → name_in part own ≡ name_in second other → part ≡ second
same_parts part own second other [] is empty e = append_cancel_right part second (46 ∷ []) (fronts_are part own second other [] is e)
same_parts part own second other (x ∷ xs) is empty e = absurd (omega (arith, empty))

pub same_names : (part own second other front : List ℕ) → other ≡ front ++ own → length front ≡ 0 → part ≡ second → name_in part own ≡ name_in second other
same_names part own second other [] is empty e = ap (λ (l : List ℕ). l ++ 46 ∷ own) e ∙ ap (λ (l : List ℕ). second ++ 46 ∷ l) (sym is)
same_names part own second other (x ∷ xs) is empty e = absurd (omega (arith, empty))

pub some_there : (l : List ℕ) → (length l == 0) ≡ false → 1 ≤ length l
some_there l h = grind (arith, nat_tests)

pub undotted : (part own second other front : List ℕ) → other ≡ front ++ own → 1 ≤ length front → ((x : List ℕ) → front ≡ x ++ 46 ∷ [] → ⊥) → name_in part own ≡ name_in second other → ⊥
undotted part own second other front is some none e =
    none (take (length front - 1) front) (longer_ends part (second ++ 46 ∷ []) (46 ∷ []) front some (fronts_are part own second other front is e ∙ name_ends second front))

-- the first one's part is a name in the second one's
pub longer_part : (part own second other front first : List ℕ) → other ≡ front ++ own → front ≡ first ++ 46 ∷ [] → name_in part own ≡ name_in second other → name_in second first ≡ part
longer_part part own second other front first is dotted e =
    append_cancel_right (name_in second first) part (46 ∷ []) (append_assoc second (46 ∷ first) (46 ∷ []) ∙ (ap (λ (l : List ℕ). second ++ 46 ∷ l) (sym dotted) ∙ sym (fronts_are part own second other front is e)))

pub longer_names : (part own second other front first : List ℕ) → other ≡ front ++ own → front ≡ first ++ 46 ∷ [] → name_in second first ≡ part → name_in part own ≡ name_in second other
longer_names part own second other front first is dotted e =
    name_ends part own ∙ (ap (λ (l : List ℕ). (l ++ 46 ∷ []) ++ own) (sym e)
    ∙ (ap (λ (l : List ℕ). l ++ own) (append_assoc second (46 ∷ first) (46 ∷ []) ∙ ap (λ (l : List ℕ). second ++ 46 ∷ l) (sym dotted))
    ∙ sym (names_end own second other front is)))
