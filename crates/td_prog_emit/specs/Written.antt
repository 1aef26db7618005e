-- What is written of code, in pieces (own rule).
use Rattle.std.specs.Prelude.{◌≡◌, ℕ, ◌+◌, ◌-◌, ◌*◌, ◌^◌, ◌<◌, List, [], ◌∷◌, ◌++◌, codes, decimal, flat_map, map, length, slice_range, Result, OnOk}
use Rattle.std.specs.declared.alloc.AllocError.{AllocError}
use Rattle.td_core.specs.declared.outcome.Reason.{Reason}
use Rattle.td_ir.specs.declared.instructions.Instr.{Instr}
use Rattle.td_ir.specs.declared.tables.Parts.{Parts}
use Rattle.td_ir.specs.declared.tables.EntryPoint.{EntryPoint}
use Rattle.td_ir.specs.Tables.{site_of}
use Rattle.td_prog.specs.Syntax.{Pos, End, Start, Outer, Number, More, Most, Room, Count, Reg, Lt, Num, Get, Binary, Block, Ends, Assign, Store, Member, If, While, CallHelper, Helper, Function, registers}
use Rattle.td_prog_code.specs.Prelude.{copy_helper, copy_word, copy_byte, prelude}
use Rattle.td_prog_code.specs.PartsPrelude.{parts_prelude}
use Rattle.td_prog_code.specs.Instructions.{reg, room, taken, spot, statement}
use Rattle.td_prog_code.specs.Program.{blocks, body, first_block, function, functions}
use Rattle.td_prog_text.specs.Names.{routine_name}
use Rattle.td_prog_text.specs.Expressions.{Pieces, text}
use Rattle.td_prog_text.specs.Functions as texts
use Rattle.td_prog_text.specs.Statements as lines

-- where there was memory, these pieces stand behind what was there
pub record Wrote (r : Result (Unit {0}) AllocError) (old new : List ℕ) (ps : Pieces) : Type 0 where
  pub on_ok : OnOk r (new ≡ old ++ text ps)

abbrev pub helper_names : List (List ℕ)
helper_names = map (λ (h : Helper). h.name) prelude

abbrev pub routine_names : Parts → List (List ℕ)
routine_names c = map (λ (f : Function). f.name) (functions c (routine_name c) 0 (length c.routines))

-- of an instruction of routine n, in a function's block
abbrev pub pieces_of : Parts → ℕ → Block → ℕ → Instr → Pieces
pieces_of c n whole depth j = lines.statements c.names helper_names (routine_names c) whole depth (statement c n j Ends)

-- `"T", "x", start);`
abbrev pub site_pieces : Parts → ℕ → Pieces
site_pieces c site = lines.site c.names (site_of c site).ty (spot c site)

-- `return td_fail(run->outcome, TD_PADDING, pos, "T", "x", start);`
abbrev pub failed : Parts → ℕ → Reason → (at : List ℕ) → ℕ → Pieces → Pieces
failed c depth why at site rest = lines.lined depth (codes "return td_fail(run->outcome, " ∷ lines.reason why ∷ codes ", " ∷ at ∷ codes ", " ∷ site_pieces c site) rest

-- the same in a block that ends: what follows `if (e) {`
abbrev pub refused : Parts → ℕ → Reason → ℕ → Pieces
refused c depth why site = failed c (depth + 1) why (codes "start") site (lines.lined depth (codes "}" ∷ []) [])

-- a test whether register `source` is one of these numbers, into register `into`
abbrev pub member_pieces : (depth into source : ℕ) → List ℕ → Pieces
member_pieces depth into source numbers = lines.statements [] [] [] Ends depth (Member (Reg into) (Reg source) numbers Ends)

-- arguments of a call: a cell, a buffer's two cells behind so many, a buffer
abbrev pub cell_text : ℕ → List ℕ
cell_text k = codes ", c" ++ decimal k

abbrev pub pair_text : (own buffer : ℕ) → List ℕ
pair_text own buffer = cell_text (own + 2 * buffer) ++ cell_text (own + 2 * buffer + 1)

abbrev pub buffer_text : ℕ → List ℕ
buffer_text k = codes ", b" ++ decimal k

-- a copy into a buffer of this room whose first cell is this one
abbrev pub copy_pieces : Parts → (depth size buffer site most cell : ℕ) → Pieces
copy_pieces c depth size buffer site most cell =
    lines.statements c.names helper_names (routine_names c) Ends depth
    (room c 0 (reg size) site
    (Assign Most (Num most)
    (If (Binary Lt (reg size) (Get Most)) (Assign Most (reg size) Ends)
    (Store cell (Get Pos)
    (Store (cell + 1) (Get Most)
    (CallHelper Number copy_helper (Get Pos ∷ Get Most ∷ []) (buffer ∷ [])
    (taken (reg size) Ends)))))))

-- of a helper
abbrev pub helper_pieces : Parts → Helper → Pieces
helper_pieces c h = texts.helper c.names helper_names (routine_names c) h

-- the same in the file for messages in pieces
abbrev pub parts_helper_pieces : Parts → Helper → Pieces
parts_helper_pieces c h = texts.helper c.names (map (λ (x : Helper). x.name) parts_prelude) (routine_names c) h

-- the two ways in which td_copy goes on: whole words, and a byte
abbrev pub whole_pieces : Pieces
whole_pieces = lines.statements [] helper_names [] Ends 2 (While (Binary Lt (Num 7) (Get More)) copy_word Ends)

abbrev pub single_pieces : Pieces
single_pieces = lines.statements [] helper_names [] Ends 2 (If (Binary Lt (Get Count) (Get Room)) copy_byte Ends)

-- of routine n
abbrev pub routine_pieces : Parts → ℕ → Pieces
routine_pieces c n = texts.routine c.names helper_names (routine_names c) (function c (routine_name c) n)

-- the same, by its counts
abbrev pub head_pieces : Parts → (n params cells buffers : ℕ) → Pieces
head_pieces c n params cells buffers = texts.head (routine_name c n) (Pos ∷ End ∷ registers 0 params) cells buffers

abbrev pub locals_pieces : (params count : ℕ) → Pieces
locals_pieces params count = flat_map texts.declaration (Start ∷ Outer ∷ Number ∷ Most ∷ Room ∷ registers params (count - params)) ∷ []

abbrev pub function_pieces : Parts → (n params count cells buffers : ℕ) → Pieces
function_pieces c n params count cells buffers =
    head_pieces c n params cells buffers ++ (locals_pieces params count ++ (lines.statements c.names helper_names (routine_names c) (body c n) 1 (body c n) ++ codes "}\n\n" ∷ []))

-- with the instructions from one place up to another
abbrev pub function_at : Parts → (n params count cells buffers first end : ℕ) → Pieces
function_at c n params count cells buffers first end =
    head_pieces c n params cells buffers ++ (locals_pieces params count ++ (codes "    start = pos;\n    outer = end;\n"
    ∷ (lines.statements c.names helper_names (routine_names c) (body c n) 1 (first_block c n (blocks c n first (slice_range c.instructions first end))) ++ codes "}\n\n" ∷ [])))

-- an entry point whose tables have no more than a routine may have
pub record IsSmall (e : EntryPoint) : Type 0 where
  pub params : length e.params < 2 ^ 16
  pub cells : length e.cells < 2 ^ 16
  pub buffers : length e.buffers < 2 ^ 16
