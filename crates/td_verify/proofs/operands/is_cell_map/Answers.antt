use Rattle.std.proofs.Common.{◌≡◌, ◌<◌, ◌↔◌, length, ap, sym, ◌∙◌, arith, subst, IsTrue}
use Rattle.std.proofs.lemmas.Bool.{eqb-true}
use Rattle.td_ir.specs.Tables.{routine_of, map_of}
use Rattle.td_verify.specs.Operands.{AreBelow}
use Rattle.td_verify.proofs.CellMaps.{map_alone}
use Rattle.td_verify.proofs.operands.is_cell_map.Goals as goal

pub returns-then-is_empty : goal.returns-then-is_empty
returns-then-is_empty c =
    let parts = c.args.parts.now in
    let there : c.args.map < length parts.maps = omega (arith, c.if-map-len.false, c.len.ensures) in
    let same : c.from-count.result ≡ (routine_of parts c.args.callee).cells = c.from-count.ensures ∙ c.cells_of.ensures in
    let both = map_alone parts c.args.n c.args.callee c.args.map there (ap length (sym c.rooms_of-rooms.ensures) ∙ eqb-true _ _ (sym c.is_empty.ensures ∙ c.if-is_empty.true)) in
    let own = subst (λ k. (IsTrue c.is_map_of_cells.result) ↔ ((length (map_of parts c.args.map) ≡ k) × AreBelow c.cells_of-own.result (map_of parts c.args.map))) same c.is_map_of_cells.ensures in
    let mine = subst (λ x. (IsTrue c.is_map_of_cells.result) ↔ ((length (map_of parts c.args.map) ≡ (routine_of parts c.args.callee).cells) × AreBelow x (map_of parts c.args.map))) c.cells_of-own.ensures own in (
      λ t. both.0 (mine.0 t),
      λ h. mine.1 (both.1 h),
    )
