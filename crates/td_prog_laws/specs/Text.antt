-- Programs of verified code are texts that a compiler of C accepts (own rule).
use Rattle.std.specs.Prelude.{◌^◌, ◌<◌, length}
use Rattle.td_num.specs.Lists.{Each}
use Rattle.td_ir.specs.declared.tables.Parts.{Parts}
use Rattle.td_ir.specs.WellFormed.{IsCode}
use Rattle.td_verify.specs.Verify.{IsSound}
use Rattle.td_prog.specs.Names.{IsName}
use Rattle.td_prog.specs.Text.{IsText}
use Rattle.td_prog_code.specs.Program.{program}
use Rattle.td_prog_code.specs.Sentence.{HasNumbers}
use Rattle.td_prog_text.specs.Names.{routine_name}

-- Names in code are words of letters, digits, `_` and dots: so images and module texts spell them. A list has fewer than 2^64 elements.
pub record HasNames (c : Parts) : Type 0 where
  pub spelled : Each IsName c.names
  pub few : length c.routines < 2 ^ 64

-- The program of verified code, with functions named as the text names them, is text: what it names is declared above, once; each goto leads to its label, which is behind
-- it; its functions have different identifiers as names; and nothing in a string ends it.
abbrev pub ProgramIsText : Type 0
ProgramIsText = (c : Parts) → IsCode c → IsSound c → HasNumbers c → HasNames c → IsText c.names (program c (routine_name c))
