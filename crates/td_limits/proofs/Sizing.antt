-- What one more definition adds to the sizes of a text.
use Rattle.std.proofs.Common.{◌≡◌, ℕ, ◌+◌, ◌≤◌, List, ◌∷◌, ◌++◌, Option, Some, None, sym, ap, ap₂, ◌∙◌, arith}
use Rattle.td_limits.specs.Imports.{Def}
use Rattle.td_names.specs.Names.{declared}
use Rattle.td_limits.specs.declared.limits.Limit.TheVariants as limit
use Rattle.td_limits.specs.declared.limits.Excess.{Excess}
use Rattle.td_limits.specs.declared.measures.NameSort.{NameSort}
use Rattle.td_limits.specs.declared.measures.Measure.{Measure}
use Rattle.td_limits.specs.Excesses.{above, first_excess, capped, definition_name}
use Rattle.td_limits.specs.Measures.{Measures}
use Rattle.td_limits.specs.Depths.{uses_depth}
use Rattle.td_limits.specs.Weights.{definition_weight, count_cells}
use Rattle.td_limits.specs.Sizes.{sort_of, slots_of, measure_of, definition_sizes, size_excesses, with_definition, with_members, items_of}
use Rattle.td_limits.proofs.Counting.{first_skip, first_stop, none_both, above_none, above_capped}

-- what stands in a turn: the measure as the code has it, and what it found
pub record SizeTurn (known : Measures) (d : Def) (cells : ℕ) (m : Measure) (found : Option Excess) : Type 0 where
  pub cells_are : cells ≡ capped (count_cells known d)
  pub sort : m.sort ≡ sort_of d
  pub slots : m.cells ≡ slots_of d
  pub depth : m.depth ≡ capped (1 + uses_depth known d)
  pub weight : m.weight ≡ capped (definition_weight known d)
  pub is_found : found ≡ first_excess (definition_sizes cells m d)

sizes_capped : (known : Measures) (d : Def) (cells : ℕ) (m : Measure) (found : Option Excess) → SizeTurn known d cells m found → definition_sizes cells m d ≡ definition_sizes (count_cells known d) (measure_of known d) d
sizes_capped known d cells m found h =
    let one : above 64 cells limit.Cells (definition_name d).span ≡ above 64 (count_cells known d) limit.Cells (definition_name d).span =
    ap (λ (n : ℕ). above 64 n limit.Cells (definition_name d).span) h.cells_are ∙ above_capped 64 (count_cells known d) limit.Cells (definition_name d).span (omega arith) in
    let two : above 32 m.depth limit.Depth (definition_name d).span ≡ above 32 (1 + uses_depth known d) limit.Depth (definition_name d).span =
    ap (λ (n : ℕ). above 32 n limit.Depth (definition_name d).span) h.depth ∙ above_capped 32 (1 + uses_depth known d) limit.Depth (definition_name d).span (omega arith) in
    let three : above 1099511627776 m.weight limit.Weight (definition_name d).span ≡ above 1099511627776 (definition_weight known d) limit.Weight (definition_name d).span =
    ap (λ (n : ℕ). above 1099511627776 n limit.Weight (definition_name d).span) h.weight ∙ above_capped 1099511627776 (definition_weight known d) limit.Weight (definition_name d).span (omega arith) in
    ap₂ (λ (a b : List Excess). a ++ b) one (ap₂ (λ (a b : List Excess). a ++ b) two three)

turn_found : (known : Measures) (d : Def) (cells : ℕ) (m : Measure) (found : Option Excess) → SizeTurn known d cells m found → found ≡ first_excess (definition_sizes (count_cells known d) (measure_of known d) d)
turn_found known d cells m found h = h.is_found ∙ ap first_excess (sizes_capped known d cells m found h)

pub size_stops : (known : Measures) (d : Def) (ds : List Def) (cells : ℕ) (m : Measure) (found : Option Excess) (e : Excess) → SizeTurn known d cells m found → found ≡ Some e → first_excess (size_excesses known (d ∷ ds)) ≡ found
size_stops known d ds cells m found e h is =
    first_stop (definition_sizes (count_cells known d) (measure_of known d) d) (size_excesses (with_definition known d) ds) e (sym (turn_found known d cells m found h) ∙ is) ∙ sym is

same_measure : (m : Measure) (sort : NameSort) (cells depth weight : ℕ) → m.sort ≡ sort → m.cells ≡ cells → m.depth ≡ depth → m.weight ≡ weight → m ≡ record { sort = sort; cells = cells; depth = depth; weight = weight }
same_measure m sort cells depth weight p q r s = λ i. record { sort = p i; cells = q i; depth = r i; weight = s i }

pub size_goes_on : (known : Measures) (d : Def) (ds : List Def) (cells : ℕ) (m : Measure) (found : Option Excess) → SizeTurn known d cells m found → found ≡ None
    → first_excess (size_excesses (with_members (declared known (definition_name d).text m) (items_of d)) ds) ≡ first_excess (size_excesses known (d ∷ ds))
size_goes_on known d ds cells m found h is =
    let none : first_excess (definition_sizes (count_cells known d) (measure_of known d) d) ≡ None = sym (turn_found known d cells m found h) ∙ is in
    let one = none_both (above 64 (count_cells known d) limit.Cells (definition_name d).span) _ none in
    let two = none_both (above 32 (1 + uses_depth known d) limit.Depth (definition_name d).span) _ one.1 in
    let deep : 1 + uses_depth known d ≤ 32 = above_none 32 (1 + uses_depth known d) limit.Depth (definition_name d).span two.0 in
    let heavy : definition_weight known d ≤ 1099511627776 = above_none 1099511627776 (definition_weight known d) limit.Weight (definition_name d).span two.1 in
    let depth : m.depth ≡ 1 + uses_depth known d = let e : m.depth ≡ capped (1 + uses_depth known d) = h.depth in omega arith in
    let weight : m.weight ≡ definition_weight known d = let e : m.weight ≡ capped (definition_weight known d) = h.weight in omega arith in
    let same : m ≡ measure_of known d = same_measure m (sort_of d) (slots_of d) (1 + uses_depth known d) (definition_weight known d) h.sort h.slots depth weight in
    ap (λ (x : Measure). first_excess (size_excesses (with_members (declared known (definition_name d).text x) (items_of d)) ds)) same ∙ sym (first_skip (definition_sizes (count_cells known d) (measure_of known d) d) (size_excesses (with_definition known d) ds) none)
