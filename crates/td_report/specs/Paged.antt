-- Texts that wait in a page before they are written to a sink (own rule).
use Rattle.std.specs.Prelude.{◌≡◌, ℕ, List, ◌++◌, Result, OnOk, OnErr}
use Rattle.td_io.specs.States.{SinkState, Takes, WriteFails}

-- of the bytes that waited and a text after them the first were written to the sink, and the others wait
pub record IsMoved (old new : SinkState) (before after text : List ℕ) : Type 0 where
  pub written : List ℕ
  pub parts : before ++ text ≡ written ++ after
  pub taken : Takes old new written

-- a text was put behind the bytes that wait; where the call answers an error, a write of these and of the text failed
pub record Waits {T E : Type 0} (old new : SinkState) (before after text : List ℕ) (result : Result T E) : Type 0 where
  pub done : OnOk result (IsMoved old new before after text)
  pub failed : OnErr result (WriteFails old new (before ++ text))
