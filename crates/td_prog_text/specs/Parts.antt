-- The file of C for messages in pieces (own rule): other fixed text around the same routines. PREFIX begins the names of functions, and of the header.
use Rattle.std.specs.Prelude.{ℕ, List, [], ◌∷◌, ◌++◌, codes, drop, flat_map, length, map}
use Rattle.td_ir.specs.declared.tables.Parts.{Parts}
use Rattle.td_prog.specs.Syntax.{Helper, Function}
use Rattle.td_prog_code.specs.Prelude.{prelude}
use Rattle.td_prog_code.specs.PartsPrelude.{parts_prelude}
use Rattle.td_prog_code.specs.Program as programs
use Rattle.td_prog_text.specs.Expressions.{Pieces, text}
use Rattle.td_prog_text.specs.Names.{routine_name}
use Rattle.td_prog_text.specs.Functions.{helper, routine}
use Rattle.td_prog_text.specs.PartsEntries.{parts_function}
use Rattle.td_prog_text.specs.Files.{failing, machines, primitives, warnings}

-- The run, and what the caller's table says. td_words_in, td_word_at, td_offset_at and td_place are words_in, word_at, offset_at and pair_at of td_stream's Layouts; td_byte is the first helper of
-- the program, whose load is that of td_place.
abbrev pub table_text : List ℕ
table_text =
    codes "/* A validation that runs: the message's pieces, the message word behind the one that was loaded last, and what that load gave. A message word\n * is a piece with a word that holds a byte of it; they are numbered by piece, and then by word. */\n"
    ++ codes "struct td_run {\n    const struct td_piece *pieces;\n    uint64_t next;\n    uint64_t held;\n    struct td_outcome *outcome;\n};\n\n"
    ++ codes "/* How many bytes pieces have. */\nstatic inline uint64_t td_length_in(const struct td_piece *pieces, uint32_t count)\n{\n    uint64_t length = 0;\n    uint32_t k;\n\n    for (k = 0; k < count; k++) {\n        length += pieces[k].size;\n    }\n    return length;\n}\n\n"
    ++ codes "/* How many words hold a byte of a piece. */\nstatic inline uint64_t td_words_in(const struct td_piece *piece)\n{\n    if (piece->size == 0) {\n        return 0;\n    }\n    return ((uint64_t)piece->place + piece->size - 1) / 8 - piece->place / 8 + 1;\n}\n\n"
    ++ codes "/* The number of the message word of a byte of the message. */\nstatic inline uint64_t td_word_at(const struct td_run *run, uint64_t pos)\n{\n    const struct td_piece *piece = run->pieces;\n    uint64_t first = 0;\n\n"
    ++ codes "    while (piece->size <= pos) {\n        first += td_words_in(piece);\n        pos -= piece->size;\n        piece++;\n    }\n    return first + (piece->place + pos) / 8 - piece->place / 8;\n}\n\n"
    ++ codes "/* Which byte of that word it is. */\nstatic inline uint64_t td_offset_at(const struct td_run *run, uint64_t pos)\n{\n    const struct td_piece *piece = run->pieces;\n\n"
    ++ codes "    while (piece->size <= pos) {\n        pos -= piece->size;\n        piece++;\n    }\n    return (piece->place + pos) % 8;\n}\n\n"
    ++ codes "/* Where a message word lies. */\nstatic inline const uint64_t *td_place(const struct td_run *run, uint64_t word)\n{\n    const struct td_piece *piece = run->pieces;\n\n"
    ++ codes "    while (td_words_in(piece) <= word) {\n        word -= td_words_in(piece);\n        piece++;\n    }\n    return &piece->words[piece->place / 8 + word];\n}\n\n"

abbrev pub byte_text : List ℕ
byte_text =
    codes "TD_FUNCTION uint64_t td_byte(struct td_run *run, uint64_t pos)\n{\n    uint64_t word = 0;\n    uint64_t low = 0;\n    word = td_word_at(run, pos);\n    low = td_offset_at(run, pos);\n"
    ++ codes "    if (run->next <= word) {\n        run->held = TD_LOAD(td_place(run, word));\n        run->next = word + 1;\n    }\n    return (run->held >> (low * 8)) & 255;\n}\n\n"

module _ (c : Parts) where
  abbrev routine_names : List (List ℕ)
  routine_names = map (λ (f : Function). f.name) (programs.functions c (routine_name c) 0 (length c.routines))

  -- the helpers but td_byte
  abbrev pub parts_helpers : Pieces
  parts_helpers = flat_map (helper c.names (map (λ (h : Helper). h.name) parts_prelude) routine_names) (drop 1 parts_prelude)

  -- the routines, as in the other file: they call helpers 1 to 8, which have the same names there
  abbrev pub routines : Pieces
  routines = flat_map (routine c.names (map (λ (h : Helper). h.name) prelude) routine_names) (programs.functions c (routine_name c) 0 (length c.routines))

abbrev pub parts_pieces : List ℕ → Parts → Pieces
parts_pieces prefix c =
    codes "#include \"" ∷ prefix ∷ codes ".h\"\n\n" ∷ machines ∷ primitives ∷ warnings ∷ failing ∷ table_text ∷ byte_text ∷ (parts_helpers c ++ (routines c ++ flat_map (parts_function c prefix) c.entries))

abbrev pub parts_file : List ℕ → Parts → List ℕ
parts_file prefix c = text (parts_pieces prefix c)
