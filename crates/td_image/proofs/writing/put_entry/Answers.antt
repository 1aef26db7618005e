use Rattle.std.proofs.Common.{◌≡◌, ℕ, List, ◌++◌, sym, subst}
use Rattle.std.specs.Int.{w32, to_le_bytes}
use Rattle.std.specs.List.{flat_map}
use Rattle.td_image.specs.Imports.{NameId, Param, Cell}
use Rattle.td_image.specs.Rows as rows
use Rattle.td_image.proofs.Chain.{chain4}
use Rattle.td_image.proofs.Flat.{entry_flat}
use Rattle.td_image.proofs.writing.put_entry.Goals as goal

pub returns : goal.returns
returns c =
    subst (λ (l : List ℕ). c.put_name_places.new.out.items ≡ c.args.out.now.items ++ l) (sym (entry_flat c.args.entry.now))
    (chain4 c.args.out.now.items (to_le_bytes w32 c.args.entry.now.routine) (flat_map rows.param c.args.entry.now.params) (flat_map rows.cell c.args.entry.now.cells) (flat_map rows.name_place c.args.entry.now.buffers) c.in_ok-put_u32.ensures (subst (λ (xs : List Param). c.put_params.new.out.items ≡ c.put_u32.new.out.items ++ flat_map rows.param xs) c.as_slice.ensures c.in_ok-put_params.ensures) (subst (λ (xs : List Cell). c.put_cells.new.out.items ≡ c.put_params.new.out.items ++ flat_map rows.cell xs) c.as_slice-2.ensures c.in_ok-put_cells.ensures) (subst (λ (xs : List NameId). c.put_name_places.new.out.items ≡ c.put_cells.new.out.items ++ flat_map rows.name_place xs) c.as_slice-3.ensures c.in_ok-put_name_places.ensures))
