use Rattle.std.proofs.Common.{◌≡◌, ◌+◌, List, [], None, drop, sym, ap, ◌∙◌, arith}
use Rattle.td_num.proofs.Lists.{drop_next}
use Rattle.td_limits.specs.Imports.{Def}
use Rattle.td_limits.specs.Excesses.{first_excess}
use Rattle.td_limits.specs.Measures.{Measures}
use Rattle.td_limits.specs.Sizes.{size_excesses}
use Rattle.td_limits.proofs.Counting.{none_of, some_of}
use Rattle.td_limits.proofs.Sizing.{SizeTurn, size_stops, size_goes_on}
use Rattle.td_limits.proofs.sizes.sizes_passed.Goals as goal

pub loop-definition-preserved : goal.loop-definition-preserved
loop-definition-preserved c =
    let l = c.loop-definition in
    let d = c.definition-item.result in
    let ds = c.as_slice-definitions.result.now in
    let turn : SizeTurn l.known d c.count_cells-cells.result c.measure-measure.result c.definition_sizes-passed.result = record {
      cells_are = c.count_cells-cells.ensures;
      sort = c.measure-measure.ensures.sort;
      slots = c.measure-measure.ensures.cells;
      depth = c.measure-measure.ensures.depth;
      weight = c.measure-measure.ensures.weight;
      is_found = c.definition_sizes-passed.ensures;
    } in
    let none : c.definition_sizes-passed.result ≡ None = none_of c.definition_sizes-passed.result (sym c.is_some.ensures ∙ c.if-is_some.false) in
    ap (λ (known : Measures). first_excess (size_excesses known (drop (l.definition-index + 1) ds))) c.in_ok-declare.ensures
    ∙ size_goes_on l.known d (drop (l.definition-index + 1) ds) c.count_cells-cells.result c.measure-measure.result c.definition_sizes-passed.result turn none
    ∙ sym (ap (λ (rest : List Def). first_excess (size_excesses l.known rest)) (drop_next ds l.definition-index d (omega arith) c.definition-item.is))
    ∙ l.invariant

pub returns-then-is_some-clause-ok : goal.returns-then-is_some-clause-ok
returns-then-is_some-clause-ok c =
    let l = c.loop-definition in
    let d = c.definition-item.result in
    let ds = c.as_slice-definitions.result.now in
    let turn : SizeTurn l.known d c.count_cells-cells.result c.measure-measure.result c.definition_sizes-passed.result = record {
      cells_are = c.count_cells-cells.ensures;
      sort = c.measure-measure.ensures.sort;
      slots = c.measure-measure.ensures.cells;
      depth = c.measure-measure.ensures.depth;
      weight = c.measure-measure.ensures.weight;
      is_found = c.definition_sizes-passed.ensures;
    } in
    let some = some_of c.definition_sizes-passed.result (sym c.is_some.ensures ∙ c.if-is_some.true) in
    sym (size_stops l.known d (drop (l.definition-index + 1) ds) c.count_cells-cells.result c.measure-measure.result c.definition_sizes-passed.result some.0 turn some.1)
    ∙ sym (ap (λ (rest : List Def). first_excess (size_excesses l.known rest)) (drop_next ds l.definition-index d (omega arith) c.definition-item.is))
    ∙ l.invariant ∙ ap (λ (all : List Def). first_excess (size_excesses [] all)) c.as_slice-definitions.ensures
