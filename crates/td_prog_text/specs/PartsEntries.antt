-- Entry points of code as C functions for messages in pieces (own rule): the same parameters behind the caller's table, and the one call of a routine that each makes.
use Rattle.std.specs.Prelude.{ℕ, List, [], ◌∷◌, ◌++◌, codes}
use Rattle.td_ir.specs.declared.tables.Parts.{Parts}
use Rattle.td_ir.specs.declared.tables.EntryPoint.{EntryPoint}
use Rattle.td_prog_text.specs.Expressions.{Pieces}
use Rattle.td_prog_text.specs.Names.{routine_name}
use Rattle.td_prog_text.specs.Entries.{all_members, all_names, argument, buffer_argument, buffer_parameter, cell_argument, cell_count, cells_line, counted, emptied, indexed, lines, pair_argument, pointer, stored, title, value_parameter}

module _ (c : Parts) (prefix : List ℕ) (e : EntryPoint) (names : List (List ℕ)) where
  -- `bool point_validate_POINT_parts(const struct td_piece *td_pieces, uint32_t td_count, .., struct td_outcome *outcome)`
  abbrev pub parts_head : Pieces
  parts_head =
      codes "bool " ∷ prefix ∷ codes "_validate_" ∷ title c e ∷ codes "_parts(const struct td_piece *td_pieces, uint32_t td_count"
      ∷ (lines (indexed (value_parameter e names) 0 e.params) ++ (lines (indexed (pointer c prefix e names) 0 e.cells) ++ (lines (indexed (buffer_parameter c prefix e names) 0 e.buffers) ++ codes ", struct td_outcome *outcome)" ∷ [])))

  abbrev pub parts_call : Pieces
  parts_call =
      codes "    td_position = " ∷ routine_name c e.routine ∷ codes "(&td_run, 0, td_length"
      ∷ (lines (indexed (argument e names) 0 e.params)
      ++ (lines (indexed (cell_argument e names) 0 e.cells) ++ (lines (indexed (pair_argument e names) 0 e.buffers) ++ (lines (indexed (buffer_argument e names) 0 e.buffers) ++ codes ");\n" ∷ []))))

  -- a message of 2^32 bytes or more is refused without a reason
  abbrev pub parts_function_by : List (List ℕ) → Pieces
  parts_function_by members =
      parts_head ++ (codes "\n{\n    struct td_run td_run = {td_pieces, 0, 0, outcome};\n" ∷ (cells_line e names members (cell_count e)
      ++ (codes "    uint64_t td_length = td_length_in(td_pieces, td_count);\n    uint64_t td_position;\n\n" ∷ (lines (indexed (emptied e names) 0 e.buffers)
      ++ (codes "    if (td_length >> 32) {\n        outcome->reason = TD_NO_REASON;\n        outcome->position = 0;\n        outcome->count = 0;\n        return false;\n    }\n"
      ∷ (parts_call ++ (codes "    if (td_position == TD_FAILED) {\n        return false;\n    }\n" ∷ (lines (indexed (stored e names members) 0 e.cells) ++ (lines (indexed (counted e names) 0 e.buffers)
      ++ codes "    outcome->reason = TD_NO_REASON;\n    outcome->position = (uint32_t)td_position;\n    outcome->count = 0;\n    return true;\n}\n\n" ∷ [])))))))))

module _ (c : Parts) (prefix : List ℕ) (e : EntryPoint) where
  abbrev pub parts_declaration : Pieces
  parts_declaration = codes "TD_LOOK_AT_ANSWER " ∷ (parts_head c prefix e (all_names c e) ++ codes ";\n\n" ∷ [])

  abbrev pub parts_function : Pieces
  parts_function = parts_function_by c prefix e (all_names c e) (all_members c e.cells)
