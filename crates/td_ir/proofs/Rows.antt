-- A row of the program's table of instructions is the one of the definition.
use Rattle.std.proofs.Common.{◌≡◌, ℕ, ◌<◌, List, length, map, sym, ap, slice_index_or}
use Rattle.std.proofs.lemmas.List.{get_or-map}
use Rattle.td_ir.specs.declared.opcodes.Opcode.{Opcode}
use Rattle.td_ir.specs.Opcodes.{Row, row_in, view}

pub name_there : (ks : List Opcode) (n : ℕ) (d : Opcode) → n < length ks → (slice_index_or ks n d).name.now ≡ (row_in (map view ks) n).name
name_there ks n d h = ap (λ (r : Row). r.name) (sym (get_or-map view ks n d _ h))

pub operands_there : (ks : List Opcode) (n : ℕ) (d : Opcode) → n < length ks → (slice_index_or ks n d).operands.now ≡ (row_in (map view ks) n).operands
operands_there ks n d h = ap (λ (r : Row). r.operands) (sym (get_or-map view ks n d _ h))
