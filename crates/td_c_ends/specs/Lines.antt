-- The lines that go to the error stream (own rule).
use Rattle.std.specs.Prelude.{ℕ, List, [], codes, Some, None}
use Rattle.td_front.specs.declared.error.FrontError.{FrontError}
use Rattle.td_front.specs.Lines.{place_of, code_of, words_of}
use Rattle.td_report.specs.ErrorLine.{error_line}
use Rattle.td_c_ends.specs.declared.refusal.Refusal.{Refusal}
use Rattle.td_c_ends.specs.declared.refusal.Refusal.TheVariants.{BadName, TooLong, BadModule, NoEntry}

abbrev pub usage_line : List ℕ
usage_line = codes "usage: tdc c|header|parts NAME\n"

abbrev pub read_line : List ℕ
read_line = codes "error read\n"

abbrev pub memory_line : List ℕ
memory_line = codes "error memory\n"

-- the line that refuses a module text, as `td check` has it: a code, the place in the text, and words
abbrev pub module_line : List ℕ → FrontError → List ℕ
module_line input e = error_line input (Some (place_of e)) (code_of e) (words_of e)

-- the line that refuses a name or an input
abbrev pub refusal_line : List ℕ → Refusal → List ℕ
refusal_line input BadName = error_line [] None (codes "Z4") (codes "no name of C")
refusal_line input TooLong = error_line [] None (codes "Z1") (codes "input too long")
refusal_line input (BadModule e) = module_line input e
refusal_line input NoEntry = error_line [] None (codes "Z5") (codes "no entry point")
