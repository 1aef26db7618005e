-- What C is told of a text that is refused (own rule).
use Rattle.std.specs.Prelude.{◌≡◌, ℕ, ◌-◌, List, ◌++◌, length, replicate}
use Rattle.td_front.specs.declared.error.FrontError.{FrontError}
use Rattle.td_front.specs.Lines.{place_of, code_of, words_of}
use Rattle.td_report.specs.ErrorLine.{line_at, column_at}
use Rattle.td_c_pack.specs.declared.refusal.TdPacked.{TdPacked}

-- bytes in so much room, with zeros behind them
abbrev pub string_in : ℕ → List ℕ → List ℕ
string_in room bytes = bytes ++ replicate (room - length bytes) 0

-- place, line and column, code and words are those of a refusal of the text
pub record IsTold (text : List ℕ) (e : FrontError) (told : TdPacked) : Type 0 where
  pub place : told.place ≡ place_of e
  pub line : told.line ≡ line_at text (place_of e)
  pub column : told.column ≡ column_at text (place_of e)
  pub code : told.code ≡ string_in 8 (code_of e)
  pub words : told.words ≡ string_in 32 (words_of e)
