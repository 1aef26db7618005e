-- What passes no limit by count as it is written passes none flat.
use Rattle.std.proofs.Common.{◌≡◌, ℕ, zero, suc, ◌+◌, ◌≤◌, Bool, cond, List, [], ◌∷◌, ◌++◌, None, map, flat_map, length, get_or, refl, ap, ap₂, ◌∙◌, arith}
use Rattle.std.specs.Prelude.{slice_get}
use Rattle.std.proofs.lemmas.Bool.{le-ltb}
use Rattle.td_num.specs.Lists.{Each}
use Rattle.td_num.proofs.Lists.{each_append}
use Rattle.td_front_flat_facts.specs.Imports.{Span, Def, PartTree, Module, Parts, Own}
use Rattle.td_front_flat.specs.Definitions.{flat_definition, own_of}
use Rattle.td_front_order.specs.Order.{order}
use Rattle.td_front_flat.specs.Order.{names_of, graph_of}
use Rattle.td_front_flat.specs.Flat.{flat_at, flat_or_none}
use Rattle.td_limits.specs.declared.limits.Limit.{Limit}
use Rattle.td_limits.specs.declared.limits.Limit.TheVariants as limit
use Rattle.td_limits.specs.declared.limits.Excess.{Excess}
use Rattle.td_limits.specs.Excesses.{above, first_excess, definition_name}
use Rattle.td_limits.specs.Nodes.{definition_nodes}
use Rattle.td_limits.specs.Counts.{most_fields, count_cases, count_params, most_action, definition_counts, count_excesses}
use Rattle.td_limits.proofs.Counting.{none_both, above_none, first_skip}
use Rattle.td_front_flat_facts.specs.Laws.{CountsStay}
use Rattle.td_front_flat_facts.proofs.Sizes.{AreAlike, flat_alike}
use Rattle.td_front_flat_facts.proofs.Picked.{AreDistinct, total, picked, picked_within, order_distinct}

-- ---- within limits, definition by definition

record IsSmall (d : Def) : Type 0 where
  fields : most_fields d ≤ 256
  cases : count_cases d ≤ 256
  params : count_params d ≤ 16
  action : most_action d ≤ 20000

small_alike : (a b : Def) → AreAlike a b → IsSmall b → IsSmall a
small_alike a b h s = record {
  fields = omega (arith, h.fields, s.fields);
  cases = omega (arith, h.cases, s.cases);
  params = omega (arith, h.params, s.params);
  action = omega (arith, h.action, s.action);
}

-- the sum of a measure
abbrev all_of : (Def → ℕ) → List Def → ℕ
all_of m [] = 0
all_of m (d ∷ ds) = m d + all_of m ds

one : Def → ℕ
one d = 1

record AreWithin (n nodes : ℕ) (ds : List Def) : Type 0 where
  each : Each IsSmall ds
  count : n + length ds ≤ 4000
  sum : nodes + all_of definition_nodes ds ≤ 60000

within_of : (n nodes : ℕ) (ds : List Def) → n ≤ 4000 → nodes ≤ 60000 → first_excess (count_excesses n nodes ds) ≡ None → AreWithin n nodes ds
within_of n nodes [] few small h = record { each = tt; count = omega arith; sum = omega arith }
within_of n nodes (d ∷ ds) few small h =
    let s = (definition_name d).span in
    let t = nodes + definition_nodes d in
    let both = none_both (definition_counts (n + 1) t d) (count_excesses (n + 1) t ds) h in
    let c1 = none_both (above 4000 (n + 1) limit.Definitions s) _ both.0 in
    let c2 = none_both (above 256 (most_fields d) limit.Fields s) _ c1.1 in
    let c3 = none_both (above 256 (count_cases d) limit.Cases s) _ c2.1 in
    let c4 = none_both (above 16 (count_params d) limit.Parameters s) _ c3.1 in
    let c5 = none_both (above 60000 t limit.Nodes s) _ c4.1 in
    let ih = within_of (n + 1) t ds (above_none 4000 (n + 1) limit.Definitions s c1.0) (above_none 60000 t limit.Nodes s c5.0) both.1 in
    record {
      each = (
        record {
          fields = above_none 256 (most_fields d) limit.Fields s c2.0;
          cases = above_none 256 (count_cases d) limit.Cases s c3.0;
          params = above_none 16 (count_params d) limit.Parameters s c4.0;
          action = above_none 20000 (most_action d) limit.Action s c5.1;
        },
        ih.each,
      );
      count = omega (arith, ih.count);
      sum = omega (arith, ih.sum);
    }

not_above : (most n : ℕ) (l : Limit) (s : Span) → n ≤ most → above most n l s ≡ []
not_above most n l s h = ap (λ (b : Bool). cond b (record { limit = l; span = s } ∷ []) []) (le-ltb most n h)

skip : (most n : ℕ) (l : Limit) (s : Span) (rest : List Excess) → n ≤ most → first_excess (above most n l s ++ rest) ≡ first_excess rest
skip most n l s rest h = ap (λ (xs : List Excess). first_excess (xs ++ rest)) (not_above most n l s h)

none_of : (n t : ℕ) (d : Def) → n ≤ 4000 → t ≤ 60000 → IsSmall d → first_excess (definition_counts n t d) ≡ None
none_of n t d few small h =
    let s = (definition_name d).span in
    skip 4000 n limit.Definitions s _ few ∙ skip 256 (most_fields d) limit.Fields s _ h.fields ∙ skip 256 (count_cases d) limit.Cases s _ h.cases
    ∙ skip 16 (count_params d) limit.Parameters s _ h.params ∙ skip 60000 t limit.Nodes s _ small ∙ ap first_excess (not_above 20000 (most_action d) limit.Action s h.action)

passed_of : (n nodes : ℕ) (ds : List Def) → AreWithin n nodes ds → first_excess (count_excesses n nodes ds) ≡ None
passed_of n nodes [] w = refl
passed_of n nodes (d ∷ ds) w =
    let t = nodes + definition_nodes d in
    let count : n + length (d ∷ ds) ≤ 4000 = w.count in
    let sum : nodes + (definition_nodes d + all_of definition_nodes ds) ≤ 60000 = w.sum in
    first_skip (definition_counts (n + 1) t d) (count_excesses (n + 1) t ds) (none_of (n + 1) t d (omega (arith, count)) (omega (arith, sum)) w.each.0)
    ∙ passed_of (n + 1) t ds (record { each = w.each.1; count = omega (arith, count); sum = omega (arith, sum) })

-- ---- all that is written, part by part

all_append : (m : Def → ℕ) (ds es : List Def) → all_of m (ds ++ es) ≡ all_of m ds + all_of m es
all_append m [] es = omega arith
all_append m (d ∷ ds) es = let ih = all_append m ds es in omega (arith, ih)

all_ones : (ds : List Def) → all_of one ds ≡ length ds
unfolding one
all_ones [] = refl
all_ones (d ∷ ds) = let ih = all_ones ds in omega (arith, ih)

abbrev weights : (Def → ℕ) → List PartTree → List ℕ
weights m parts = map (λ p. all_of m p.definitions) parts

abbrev all_written : List PartTree → List Def
all_written parts = flat_map (λ p. p.definitions) parts

all_weighed : (m : Def → ℕ) (parts : List PartTree) → all_of m (all_written parts) ≡ total (weights m parts)
all_weighed m [] = refl
all_weighed m (p ∷ ps) = all_append m p.definitions (all_written ps) ∙ ap (λ n. all_of m p.definitions + n) (all_weighed m ps)

-- ---- and flat

all_same : (m : Def → ℕ) (own : Own) → ((d : Def) → m (flat_definition own d) ≡ m d) → (ds : List Def) → all_of m (map (flat_definition own) ds) ≡ all_of m ds
all_same m own same [] = refl
all_same m own same (d ∷ ds) = ap₂ (λ (a b : ℕ). a + b) (same d) (all_same m own same ds)

-- of the part at a place, under any number
all_of_part : (m : Def → ℕ) → ((own : Own) (d : Def) → m (flat_definition own d) ≡ m d) → (names : List (List ℕ)) (n : ℕ) (parts : List PartTree) (i : ℕ)
    → all_of m (flat_or_none names n (slice_get parts i)) ≡ get_or (weights m parts) i 0
all_of_part m same names n [] i = refl
all_of_part m same names n (p ∷ ps) zero = all_same m (own_of names n p) (same (own_of names n p)) p.definitions
all_of_part m same names n (p ∷ ps) (suc i) = all_of_part m same names n ps i

all_at : (m : Def → ℕ) → ((own : Own) (d : Def) → m (flat_definition own d) ≡ m d) → (parts : List PartTree) (i : ℕ) → all_of m (flat_at parts i) ≡ get_or (weights m parts) i 0
all_at m same parts i = all_of_part m same (names_of parts) i parts i

all_picked : (m : Def → ℕ) → ((own : Own) (d : Def) → m (flat_definition own d) ≡ m d) → (parts : List PartTree) (is : List ℕ) → all_of m (flat_map (flat_at parts) is) ≡ picked (weights m parts) is
all_picked m same parts [] = refl
all_picked m same parts (i ∷ is) = all_append m (flat_at parts i) (flat_map (flat_at parts) is) ∙ ap₂ (λ (a b : ℕ). a + b) (all_at m same parts i) (all_picked m same parts is)

-- no more of a measure than there was
no_more : (m : Def → ℕ) → ((own : Own) (d : Def) → m (flat_definition own d) ≡ m d) → (parts : List PartTree) (is : List ℕ) → AreDistinct is
    → all_of m (flat_map (flat_at parts) is) ≤ all_of m (all_written parts)
no_more m same parts is d =
    let few = picked_within (weights m parts) is d in
    let left = all_picked m same parts is in
    let right = all_weighed m parts in
    omega (arith, few, left, right)

each_left : {A : Type 0} (P : A → Type 0) (xs ys : List A) → Each P (xs ++ ys) → Each P xs
each_left P [] ys h = tt
each_left P (x ∷ xs) ys h = (h.0, each_left P xs ys h.1)

each_right : {A : Type 0} (P : A → Type 0) (xs ys : List A) → Each P (xs ++ ys) → Each P ys
each_right P [] ys h = h
each_right P (x ∷ xs) ys h = each_right P xs ys h.1

small_part : (own : Own) (ds : List Def) → Each IsSmall ds → Each IsSmall (map (flat_definition own) ds)
small_part own [] h = tt
small_part own (d ∷ ds) h = (small_alike (flat_definition own d) d (flat_alike own d) h.0, small_part own ds h.1)

small_of_part : (names : List (List ℕ)) (n : ℕ) (parts : List PartTree) (i : ℕ) → Each IsSmall (all_written parts) → Each IsSmall (flat_or_none names n (slice_get parts i))
small_of_part names n [] i h = tt
small_of_part names n (p ∷ ps) zero h = small_part (own_of names n p) p.definitions (each_left IsSmall p.definitions (all_written ps) h)
small_of_part names n (p ∷ ps) (suc i) h = small_of_part names n ps i (each_right IsSmall p.definitions (all_written ps) h)

small_at : (parts : List PartTree) (i : ℕ) → Each IsSmall (all_written parts) → Each IsSmall (flat_at parts i)
small_at parts i h = small_of_part (names_of parts) i parts i h

small_all : (parts : List PartTree) (is : List ℕ) → Each IsSmall (all_written parts) → Each IsSmall (flat_map (flat_at parts) is)
small_all parts [] h = tt
small_all parts (i ∷ is) h = each_append IsSmall (flat_at parts i) (flat_map (flat_at parts) is) (small_at parts i h) (small_all parts is h)

one_same : (own : Own) (d : Def) → one (flat_definition own d) ≡ one d
unfolding one
one_same own d = refl

pub counts_stay : CountsStay
counts_stay (Module tree) h = h
counts_stay (Parts parts) h =
    let is = order (graph_of parts) in
    let flat = flat_map (flat_at parts) is in
    let w = within_of 0 0 (all_written parts) (omega arith) (omega arith) h in
    let count : length flat ≤ length (all_written parts) =
    (let few = no_more one one_same parts is (order_distinct (graph_of parts)) in omega (arith, few, all_ones flat, all_ones (all_written parts)))
    in
    let nodes : all_of definition_nodes flat ≤ all_of definition_nodes (all_written parts) =
    no_more definition_nodes (λ own d. (flat_alike own d).nodes) parts is (order_distinct (graph_of parts))
    in
    passed_of 0 0 flat (record { each = small_all parts is w.each; count = omega (arith, count, w.count); sum = omega (arith, nodes, w.sum) })
