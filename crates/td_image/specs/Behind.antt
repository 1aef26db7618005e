-- What stands behind the front of a header, of the tables and of an instruction: formats of which functions read one each.
use Rattle.std.specs.Prelude.{ℕ, List}
use Rattle.std.specs.Int.{w32, w64}
use Rattle.td_image.specs.Imports.{Instr, EntryPoint, Routine, Site}
use Rattle.td_ir.specs.declared.opcodes.OperandField.TheVariants as field
use Rattle.td_ir.specs.Opcodes.{has}
use Rattle.td_image.specs.declared.counts.Counts.{Counts}
use Rattle.td_image.specs.declared.version.ImageVersion.{ImageVersion}
use Rattle.td_image.specs.Format.{Format, ◌then◌, times}
use Rattle.td_image.specs.Image.{count, entry, instruction, instruction_count, map_format, names, operand, routines, sets, site}

-- how many routines, entry points and instructions
abbrev pub code_counts : ImageVersion → Format (ℕ × (ℕ × ℕ))
code_counts v = count v then λ routines. count v then λ entries. instruction_count v routines

-- how many rows all tables have
abbrev pub row_counts : ImageVersion → Format (ℕ × (ℕ × (ℕ × (ℕ × (ℕ × (ℕ × ℕ))))))
row_counts v = count v then λ names. count v then λ sites. count v then λ maps. count v then λ sets. code_counts v

-- routines, entry points and instructions
abbrev pub code_tables : Counts → Format (List Routine × (List EntryPoint × List Instr))
code_tables c =
    routines c.version c.names c.routines c.instructions then λ routines. times c.entries (entry c.names routines) then λ entries.
    times c.instructions (instruction c.version)

-- all tables
abbrev pub tables : Counts → Format (List (List ℕ) × (List Site × (List (List ℕ) × (List (List ℕ) × (List Routine × (List EntryPoint × List Instr))))))
tables c =
    names c.version c.names then λ names. times c.sites (site c.version c.names c.routines) then λ sites. times c.maps (map_format c.version) then λ maps.
    sets c.version c.sets then λ sets. code_tables c

-- the operands of 32 and 64 bits
abbrev pub wide_operands : ℕ → Format (ℕ × (ℕ × ℕ))
wide_operands n = operand w32 (has n field.T) then λ t. operand w32 (has n field.Site) then λ site. operand w64 (has n field.K)
