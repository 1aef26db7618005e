use Rattle.std.proofs.Common.{ℕ, [], ap}
use Rattle.std.specs.Prelude.{slice_index_or}
use Rattle.td_prog_emit.proofs.Texts.{same_piece}
use Rattle.td_prog_emit.proofs.places.push_cell_name.Goals as goal

pub returns : goal.returns
returns c = same_piece c.push_nth.ensures (ap (λ (n : ℕ). slice_index_or c.args.names.now n []) c.cell_number.ensures)
