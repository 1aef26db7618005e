-- The cells for a record's slots, from those that were worked out for the record.
use Rattle.std.proofs.Common.{◌≡◌, ℕ, zero, suc, List, [], ◌∷◌, map, refl, ap, ◌∙◌}
use Rattle.td_names.specs.Names.{number_of}
use Rattle.td_elab_rules.specs.declared.known.Slot.{Slot}
use Rattle.td_elab_rules.specs.declared.known.Known.{Known}
use Rattle.td_elab_rules.specs.Known.{slots_at}
use Rattle.td_elab_rules.specs.Parameters.{slot_cell}
use Rattle.td_elab_defs.specs.declared.slots.SlotCell.{SlotCell}
use Rattle.td_elab_defs.specs.Slots.{slot_part, record_parts, parts_at, part_cell}

parts_of : (names : List (List ℕ)) (k : Known) (rs : List (List Slot)) (r : ℕ)
    → parts_at (map (λ xs. map (slot_part names) xs) rs) r ≡ map (slot_part names) (slots_at (record k { records = rs }) r)
parts_of names k [] r = refl
parts_of names k (x ∷ rs) zero = refl
parts_of names k (x ∷ rs) (suc r) = parts_of names k rs r

cells_of_parts : (names : List (List ℕ)) (p : List ℕ) (xs : List Slot)
    → map (part_cell (record { number = number_of names p })) (map (slot_part names) xs) ≡ map (slot_cell names p) xs
cells_of_parts names p [] = refl
cells_of_parts names p (x ∷ xs) = ap (λ r. slot_cell names p x ∷ r) (cells_of_parts names p xs)

-- of a parameter of that name
pub record_cells : (names : List (List ℕ)) (k : Known) (all : List (List SlotCell)) (p : List ℕ) (r : ℕ) → all ≡ record_parts names k
    → map (part_cell (record { number = number_of names p })) (parts_at all r) ≡ map (slot_cell names p) (slots_at k r)
record_cells names k all p r same =
    ap (λ (x : List (List SlotCell)). map (part_cell (record { number = number_of names p })) (parts_at x r)) same
    ∙ ap (λ (x : List SlotCell). map (part_cell (record { number = number_of names p })) x) (parts_of names k k.records r)
    ∙ cells_of_parts names p (slots_at k r)
