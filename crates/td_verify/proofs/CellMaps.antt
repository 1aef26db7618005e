-- Cell maps of calls.
use Rattle.std.proofs.Common.{◌≡◌, ℕ, ◌<◌, ◌↔◌, length, take, sym, ap, subst, ◌∙◌, arith}
use Rattle.std.proofs.Math.Seq.{take-length}
use Rattle.td_ir.specs.declared.tables.Parts.{Parts}
use Rattle.td_ir.specs.Tables.{routine_of, map_of}
use Rattle.td_verify.specs.Operands.{AreBelow, IsCellMap}

-- of a callee without buffers
pub map_alone : (c : Parts) (n callee map : ℕ) → map < length c.maps → length (routine_of c callee).buffers ≡ 0
    → ((length (map_of c map) ≡ (routine_of c callee).cells) × AreBelow (routine_of c n).cells (map_of c map)) ↔ IsCellMap c n callee map
map_alone c n callee map there nothing =
    let m = map_of c map in
    let k = (routine_of c callee).cells in
    let whole : length m ≡ k → take k m ≡ m = λ e. ap (λ x. take x m) (sym e) ∙ take-length m in (
      λ h. record {
        in_table = there;
        size = let e = h.0 in omega (arith, e, nothing);
        numbers = subst (AreBelow (routine_of c n).cells) (sym (whole h.0)) h.1;
        buffers = λ j l. absurd (omega (arith, l, nothing));
      },
      λ h. let size : length m ≡ k = (let e = h.size in omega (arith, e, nothing)) in (size, subst (AreBelow (routine_of c n).cells) (whole size) h.numbers),
    )
