-- The first of excesses, over capped numbers, and what one more definition adds. Cited by other crates.
use Rattle.std.proofs.Common.{◌≡◌, ℕ, ◌+◌, ◌-◌, ◌^◌, ◌<◌, ◌≤◌, Bool, true, false, cond, nat_lt, List, [], ◌∷◌, ◌++◌, Option, Some, None, is_some, refl, sym, ap, ap₂, ◌∙◌, arith}
use Rattle.std.proofs.lemmas.Bool.{ltb-true, ltb-false, lt-ltb, le-ltb}
use Rattle.td_limits.specs.Imports.{Span, Def}
use Rattle.td_limits.specs.declared.limits.Limit.{Limit}
use Rattle.td_limits.specs.declared.limits.Limit.TheVariants as limit
use Rattle.td_limits.specs.declared.limits.Excess.{Excess}
use Rattle.td_limits.specs.Excesses.{above, first_excess, capped, definition_name}
use Rattle.td_limits.specs.Nodes.{definition_nodes}
use Rattle.td_limits.specs.Counts.{definition_counts, count_excesses, most_fields, count_cases, count_params, most_action}

pub first_skip : (xs ys : List Excess) → first_excess xs ≡ None → first_excess (xs ++ ys) ≡ first_excess ys
first_skip [] ys h = refl
first_skip (x ∷ xs) ys h = cc

pub first_stop : (xs ys : List Excess) (e : Excess) → first_excess xs ≡ Some e → first_excess (xs ++ ys) ≡ Some e
first_stop [] ys e h = cc
first_stop (x ∷ xs) ys e h = h

pub none_both : (xs ys : List Excess) → first_excess (xs ++ ys) ≡ None → (first_excess xs ≡ None) × (first_excess ys ≡ None)
none_both [] ys h = (refl, h)
none_both (x ∷ xs) ys h = cc

pub above_none : (most n : ℕ) (l : Limit) (s : Span) → first_excess (above most n l s) ≡ None → n ≤ most
above_none most n l s h = by (nat_lt most n) refl h
  where
    by : (b : Bool) → nat_lt most n ≡ b → first_excess (cond b (record { limit = l; span = s } ∷ []) []) ≡ None → n ≤ most
    by true e k = cc
    by false e k = ltb-false most n e

test_capped : (most n : ℕ) → most < 2 ^ 64 - 1 → nat_lt most (capped n) ≡ nat_lt most n
test_capped most n small = by (nat_lt most n) refl
  where
    by : (b : Bool) → nat_lt most n ≡ b → nat_lt most (capped n) ≡ b
    by true e = let over : most < n = ltb-true most n e in lt-ltb most (capped n) (omega arith)
    by false e = let under : n ≤ most = ltb-false most n e in le-ltb most (capped n) (omega arith)

pub above_capped : (most n : ℕ) (l : Limit) (s : Span) → most < 2 ^ 64 - 1 → above most (capped n) l s ≡ above most n l s
above_capped most n l s small = ap (λ (b : Bool). cond b (record { limit = l; span = s } ∷ []) []) (test_capped most n small)

-- ---- one more definition by its counts

counts_capped : (n t : ℕ) (d : Def) → definition_counts n (capped t) d ≡ definition_counts n t d
counts_capped n t d = ap (λ (nodes : List Excess). above 4000 n limit.Definitions (definition_name d).span ++ (above 256 (most_fields d) limit.Fields (definition_name d).span ++ (above 256 (count_cases d) limit.Cases (definition_name d).span ++ (above 16 (count_params d) limit.Parameters (definition_name d).span ++ (nodes ++ above 20000 (most_action d) limit.Action (definition_name d).span))))) (above_capped 60000 t limit.Nodes (definition_name d).span (omega arith))

pub nodes_within : (n t : ℕ) (d : Def) → first_excess (definition_counts n t d) ≡ None → (n ≤ 4000) × (t ≤ 60000)
nodes_within n t d h =
    let one = none_both (above 4000 n limit.Definitions (definition_name d).span) _ h in
    let two = none_both (above 256 (most_fields d) limit.Fields (definition_name d).span) _ one.1 in
    let three = none_both (above 256 (count_cases d) limit.Cases (definition_name d).span) _ two.1 in
    let four = none_both (above 16 (count_params d) limit.Parameters (definition_name d).span) _ three.1 in
    let five = none_both (above 60000 t limit.Nodes (definition_name d).span) _ four.1 in
    (above_none 4000 n limit.Definitions (definition_name d).span one.0, above_none 60000 t limit.Nodes (definition_name d).span five.0)

-- what stands in a turn: the numbers before it, those after it as the code has them, and what it found
pub record CountTurn (n t count nodes : ℕ) (d : Def) (found : Option Excess) : Type 0 where
  pub counted : count ≡ n + 1
  pub noded : nodes ≡ capped (t + definition_nodes d)
  pub is_found : found ≡ first_excess (definition_counts count nodes d)

turn_found : (n t count nodes : ℕ) (d : Def) (found : Option Excess) → CountTurn n t count nodes d found → found ≡ first_excess (definition_counts (n + 1) (t + definition_nodes d) d)
turn_found n t count nodes d found h =
    h.is_found ∙ ap₂ (λ (a b : ℕ). first_excess (definition_counts a b d)) h.counted h.noded ∙ ap first_excess (counts_capped (n + 1) (t + definition_nodes d) d)

pub count_stops : (n t count nodes : ℕ) (d : Def) (ds : List Def) (found : Option Excess) (e : Excess) → CountTurn n t count nodes d found → found ≡ Some e → first_excess (count_excesses n t (d ∷ ds)) ≡ found
count_stops n t count nodes d ds found e h is =
    first_stop (definition_counts (n + 1) (t + definition_nodes d) d) (count_excesses (n + 1) (t + definition_nodes d) ds) e (sym (turn_found n t count nodes d found h) ∙ is) ∙ sym is

pub count_goes_on : (n t count nodes : ℕ) (d : Def) (ds : List Def) (found : Option Excess) → CountTurn n t count nodes d found → found ≡ None
    → (first_excess (count_excesses count nodes ds) ≡ first_excess (count_excesses n t (d ∷ ds))) × ((count ≤ 4000) × (nodes ≤ 60000))
count_goes_on n t count nodes d ds found h is =
    let none : first_excess (definition_counts (n + 1) (t + definition_nodes d) d) ≡ None = sym (turn_found n t count nodes d found h) ∙ is in
    let within = nodes_within (n + 1) (t + definition_nodes d) d none in
    let few : n + 1 ≤ 4000 = within.0 in
    let small : t + definition_nodes d ≤ 60000 = within.1 in
    let counted : count ≡ n + 1 = h.counted in
    let noded : nodes ≡ capped (t + definition_nodes d) = h.noded in
    let exact : nodes ≡ t + definition_nodes d = omega arith in
    (ap₂ (λ (a b : ℕ). first_excess (count_excesses a b ds)) counted exact ∙ sym (first_skip (definition_counts (n + 1) (t + definition_nodes d) d) (count_excesses (n + 1) (t + definition_nodes d) ds) none), (omega arith, omega arith))

-- ---- options

pub none_of : (o : Option Excess) → is_some o ≡ false → o ≡ None
none_of None h = refl
none_of (Some e) h = cc

pub some_of : (o : Option Excess) → is_some o ≡ true → (e : Excess) × (o ≡ Some e)
some_of None h = cc
some_of (Some e) h = (e, refl)
