-- Programs of verified code for messages in pieces are texts that a compiler of C accepts (own rule).
use Rattle.std.specs.Prelude.{List, drop, ℕ}
use Rattle.td_num.specs.Lists.{Each, AreApart}
use Rattle.td_ir.specs.declared.tables.Parts.{Parts}
use Rattle.td_ir.specs.WellFormed.{IsCode}
use Rattle.td_verify.specs.Verify.{IsSound}
use Rattle.td_prog.specs.Names.{IsIdentifier, IsName}
use Rattle.td_prog.specs.Syntax.{Program}
use Rattle.td_prog.specs.Text.{AreHelpers, AreFunctions, function_names}
use Rattle.td_prog_code.specs.PartsPrelude.{parts_program}
use Rattle.td_prog_code.specs.Sentence.{HasNumbers}
use Rattle.td_prog_text.specs.Names.{routine_name}
use Rattle.td_prog_laws.specs.Text.{HasNames}

-- As IsText. The first helper, td_byte, is fixed text, and so are the functions that it calls.
pub record IsPartsText (names : List (List ℕ)) (p : Program) : Type 0 where
  pub helpers : AreHelpers p 1 (drop 1 p.helpers)
  pub routines : AreFunctions p 0 p.routines
  pub identifiers : Each IsIdentifier (function_names p)
  pub apart : AreApart (function_names p)
  pub strings : Each IsName names

abbrev pub PartsProgramIsText : Type 0
PartsProgramIsText = (c : Parts) → IsCode c → IsSound c → HasNumbers c → HasNames c → IsPartsText c.names (parts_program c (routine_name c))
