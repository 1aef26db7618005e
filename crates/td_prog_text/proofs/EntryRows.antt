-- Worked rows: an entry point with a parameter, a cell, a record and a buffer.
use Rattle.std.proofs.Common.{◌≡◌, [], ◌∷◌, ◌++◌, None, Some, refl}
use Rattle.std.specs.Prelude.{codes, decimal}
use Rattle.td_num.specs.declared.number.Width.TheVariants.{One, Two, Four}
use Rattle.td_core.specs.declared.module.CellKind.TheVariants as kinds
use Rattle.td_ir.specs.declared.tables.Parts.{Parts}
use Rattle.td_ir.specs.declared.tables.EntryPoint.{EntryPoint}
use Rattle.td_prog_text.specs.Expressions.{text}
use Rattle.td_prog_text.specs.Entries.{declaration, function}

abbrev parts : Parts
parts = record {
  names = codes "PAIR" ∷ codes "kind" ∷ codes "most" ∷ codes "hdr" ∷ codes "len" ∷ codes "int" ∷ [];
  sites = [];
  maps = [];
  sets = [];
  routines = record { name = record { number = 0 }; params = 1; cells = 2; registers = 1; buffers = 14 ∷ []; length = 1 } ∷ [];
  entries = [];
  instructions = [];
}

abbrev pair : EntryPoint
pair = record {
  routine = 0;
  params = record { name = record { number = 1 }; width = One } ∷ [];
  cells =
      record { name = record { number = 2 }; field = None; kind = kinds.Number Two }
      ∷ record { name = record { number = 3 }; field = Some (record { number = 4 }); kind = kinds.Number Four } ∷ [];
  buffers = record { number = 5 } ∷ [];
}

-- a buffer that is called as a word of C gets a `_` more
a_declaration :
    text (declaration parts (codes "p") pair)
    ≡ codes "struct p_PAIR_hdr {\n    uint32_t len;\n};\n\nstruct p_PAIR_int_ {\n    uint32_t count; /* so many of the bytes are the copy */\n    uint8_t bytes["
    ++ (decimal 14
    ++ codes "];\n};\n\nTD_LOOK_AT_ANSWER bool p_validate_PAIR(const uint64_t *words, uint32_t length, uint8_t kind, uint16_t *most, struct p_PAIR_hdr *hdr, struct p_PAIR_int_ *int_, struct td_outcome *outcome);\n\n")
a_declaration = refl

a_function :
    text (function parts (codes "p") pair)
    ≡ codes "bool p_validate_PAIR(const uint64_t *words, uint32_t length, uint8_t kind, uint16_t *most, struct p_PAIR_hdr *hdr, struct p_PAIR_int_ *int_, struct td_outcome *outcome)\n{\n    struct td_run td_run = {words, 0, 0, outcome};\n    uint64_t td_cells["
    ++ (decimal 4
    ++ (codes "] = {*most, hdr->len, 0, 0};\n    uint64_t td_position;\n\n    int_->count = 0;\n    td_position = td_"
    ++ (((decimal 0 ++ codes "_") ++ codes "PAIR")
    ++ (codes "(&td_run, 0, length, kind, &td_cells["
    ++ (decimal 0
    ++ (codes "], &td_cells["
    ++ (decimal 1
    ++ (codes "], &td_cells["
    ++ (decimal 2
    ++ (codes "], &td_cells["
    ++ (decimal 3
    ++ (codes "], int_->bytes);\n    if (td_position == TD_FAILED) {\n        return false;\n    }\n    *most = (uint16_t)td_cells["
    ++ (decimal 0
    ++ (codes "];\n    hdr->len = (uint32_t)td_cells["
    ++ (decimal 1
    ++ (codes "];\n    int_->count = (uint32_t)td_cells["
    ++ (decimal 3
    ++ codes "];\n    outcome->reason = TD_NO_REASON;\n    outcome->position = (uint32_t)td_position;\n    outcome->count = 0;\n    return true;\n}\n\n")))))))))))))))))
a_function = refl
