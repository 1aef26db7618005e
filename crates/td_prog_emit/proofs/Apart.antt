-- Names told apart, one more each time.
use Rattle.std.proofs.Common.{◌≡◌, ◌<◌, ◌≤◌, ◌+◌, ℕ, suc, List, [], ◌∷◌, ◌++◌, length, take, drop, drop-cons, map, flat_map, Bool, true, false, cond, refl, ap, sym, ◌∙◌, arith}
use Rattle.std.specs.Prelude.{slice_index_or}
use Rattle.std.proofs.lemmas.List.{append-nil, drop_all, map-append, take_more}
use Rattle.std.proofs.lemmas.Grind.{flat_map-append}
use Rattle.td_core.specs.declared.module.NameId.{NameId}
use Rattle.td_core.specs.declared.module.Cell.{Cell}
use Rattle.td_ir.specs.Tables.{cell_of}
use Rattle.td_ir.specs.declared.tables.Parts.{Parts}
use Rattle.td_prog_text.specs.Entries.{field_in, first_of, is_of}
use Rattle.td_prog_text.specs.Names.{distinct, fresh, is_one_of}

pub fresh_taken : (n m : ℕ) (taken : List (List ℕ)) (name : List ℕ) → n ≡ suc m → is_one_of taken name ≡ true → fresh n taken name ≡ fresh m taken (name ++ 95 ∷ [])
fresh_taken n m taken name e h = ap (λ (k : ℕ). fresh k taken name) e ∙ ap (λ (b : Bool). cond b (fresh m taken (name ++ 95 ∷ [])) name) h

pub fresh_free : (n m : ℕ) (taken : List (List ℕ)) (name : List ℕ) → n ≡ suc m → is_one_of taken name ≡ false → fresh n taken name ≡ name
fresh_free n m taken name e h = ap (λ (k : ℕ). fresh k taken name) e ∙ ap (λ (b : Bool). cond b (fresh m taken (name ++ 95 ∷ [])) name) h

pub fresh_done : (n : ℕ) (taken : List (List ℕ)) (name : List ℕ) → n ≡ 0 → fresh n taken name ≡ name
fresh_done n taken name e = ap (λ (k : ℕ). fresh k taken name) e

pub distinct_append : (taken a b : List (List ℕ)) → distinct taken (a ++ b) ≡ distinct (distinct taken a) b
distinct_append taken [] b = refl
distinct_append taken (x ∷ a) b = distinct_append (taken ++ fresh (length taken) taken x ∷ []) a b

pub three_parts :
    (o x y z a b c : List (List ℕ)) → o ≡ [] → x ≡ distinct o a → y ≡ distinct x b → z ≡ distinct y c → z ≡ distinct [] (a ++ (b ++ c))
three_parts o x y z a b c none one two three =
    three ∙ ap (λ (l : List (List ℕ)). distinct l c) (two ∙ ap (λ (l : List (List ℕ)). distinct l b) (one ∙ ap (λ (l : List (List ℕ)). distinct l a) none))
    ∙ sym (distinct_append [] a (b ++ c) ∙ distinct_append (distinct [] a) b c)

-- one element's name more
pub named_more :
    {X : Type 0} → (f : X → List ℕ) (old now new : List (List ℕ)) (xs : List X) (k : ℕ) (d x : X) → now ≡ distinct old (map f (take k xs)) → x ≡ slice_index_or xs k d
    → new ≡ distinct now (f x ∷ []) → k < length xs → new ≡ distinct old (map f (take (k + 1) xs))
named_more {X} f old now new xs k d x before e step h =
    step ∙ ap (λ (l : List (List ℕ)). distinct l (f x ∷ [])) before ∙ sym (distinct_append old (map f (take k xs)) (f x ∷ []))
    ∙ ap (distinct old) (sym (map-append f (take k xs) (x ∷ [])) ∙ ap (λ (y : X). map f (take k xs ++ y ∷ [])) e ∙ ap (map f) (sym (take_more xs k d h)))

-- one cell more
pub members_more :
    (c : Parts) (name : NameId) (now new : List (List ℕ)) (cells : List Cell) (k : ℕ) (x : Cell) → now ≡ distinct [] (flat_map (field_in c name) (take k cells)) → x ≡ cell_of cells k
    → new ≡ distinct now (field_in c name x) → k < length cells → new ≡ distinct [] (flat_map (field_in c name) (take (k + 1) cells))
members_more c name now new cells k x before e step h =
    let more : take (k + 1) cells ≡ take k cells ++ cell_of cells k ∷ [] = take_more cells k _ h in
    step ∙ ap (λ (l : List (List ℕ)). distinct l (field_in c name x)) before ∙ sym (distinct_append [] (flat_map (field_in c name) (take k cells)) (field_in c name x))
    ∙ ap (λ (l : List (List ℕ)). distinct [] (flat_map (field_in c name) (take k cells) ++ l)) (sym (append-nil (field_in c name x)))
    ∙ ap (distinct []) (sym (flat_map-append (field_in c name) (take k cells) (x ∷ [])))
    ∙ ap (λ (y : Cell). distinct [] (flat_map (field_in c name) (take k cells ++ y ∷ []))) e
    ∙ ap (λ (l : List Cell). distinct [] (flat_map (field_in c name) l)) (sym more)

-- the first cell of a record: not the k-th, or the k-th, or none
first_step : (name : NameId) (xs : List Cell) (k : ℕ) (d : Cell) (b : Bool) → k < length xs → is_of name (slice_index_or xs k d) ≡ b → first_of name (drop k xs) ≡ cond b 0 (suc (first_of name (drop (k + 1) xs)))
first_step name xs k d b h e =
    let s : suc k ≡ k + 1 = omega arith in
    ap (first_of name) (drop-cons xs k d h) ∙ ap (λ (z : Bool). cond z 0 (suc (first_of name (drop (suc k) xs)))) e ∙ ap (λ (n : ℕ). cond b 0 (suc (first_of name (drop n xs)))) s

pub first_later : (name : NameId) (xs : List Cell) (k : ℕ) (x : Cell) → first_of name xs ≡ k + first_of name (drop k xs) → k < length xs → x ≡ cell_of xs k → is_of name x ≡ false → first_of name xs ≡ (k + 1) + first_of name (drop (k + 1) xs)
first_later name xs k x before h e f =
    let s : first_of name (drop k xs) ≡ suc (first_of name (drop (k + 1) xs)) = first_step name xs k _ false h (ap (is_of name) (sym e) ∙ f) in
    omega (arith, before, s)

pub first_here : (name : NameId) (xs : List Cell) (k : ℕ) (x : Cell) → first_of name xs ≡ k + first_of name (drop k xs) → k < length xs → x ≡ cell_of xs k → is_of name x ≡ true → k ≡ first_of name xs
first_here name xs k x before h e f =
    let s : first_of name (drop k xs) ≡ 0 = first_step name xs k _ true h (ap (is_of name) (sym e) ∙ f) in
    omega (arith, before, s)

pub first_none : (name : NameId) (xs : List Cell) (k : ℕ) → first_of name xs ≡ k + first_of name (drop k xs) → k ≡ length xs → length xs ≡ first_of name xs
first_none name xs k before e =
    let le : length xs ≤ k = omega (arith, e) in
    let s : first_of name (drop k xs) ≡ 0 = ap (first_of name) (drop_all k xs le) in
    omega (arith, before, s, e)
