-- Zeros fit the cells of an entry point that any cells fit.
use Rattle.std.proofs.Common.{◌≡◌, ℕ, ◌*◌, ◌<◌, ◌^◌, List, length, slice_index, sym, subst}
use Rattle.std.proofs.lemmas.Nat.{pow_pos}
use Rattle.std.specs.List.{All}
use Rattle.td_core.specs.declared.module.Entry.{Entry}
use Rattle.td_ir.specs.declared.tables.Parts.{Parts}
use Rattle.td_ir.specs.Entries.{Fits, cell_bits}
use Rattle.td_ir.specs.Tables.{entry_of, cell_of}

pub zeros_fit : (c : Parts) (entry : Entry) (args zeros cells : List ℕ) → All (λ v. v ≡ 0) zeros
    → (entry.number < length c.entries → length zeros ≡ length (entry_of c entry.number).cells) → Fits c entry args cells → Fits c entry args zeros
zeros_fit c entry args zeros cells all count f = record {
  there = f.there;
  arg_count = f.arg_count;
  cell_count = count f.there;
  args_fit = f.args_fit;
  cells_fit = λ k below. subst (λ (v : ℕ). v < 2 ^ cell_bits (cell_of (entry_of c entry.number).cells k).kind) (sym (all k 0 below)) (pow_pos _);
}
