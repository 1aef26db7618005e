-- What the line of a refusal says (own rule: `error CODE LINE:COLUMN WORDS`).
use Rattle.std.specs.Prelude.{ℕ, List, [], codes}
use Rattle.td_core.specs.declared.expressions.Binary.{Binary}
use Rattle.td_core.specs.declared.expressions.Binary.TheVariants as operator
use Rattle.td_limits.specs.declared.limits.Limit as limits
use Rattle.td_limits.specs.declared.limits.Limit.TheVariants as limit
use Rattle.td_elab_rules.specs.declared.breach.Rule.{Rule}
use Rattle.td_elab_rules.specs.declared.breach.Rule.TheVariants as rule
use Rattle.td_elab_rules.specs.Breach.{rule_words}
use Rattle.td_front.specs.declared.error.FrontError.{FrontError}
use Rattle.td_front.specs.declared.error.FrontError.TheVariants.{BadByte, OpenComment, BigNumber, Unexpected, Deep, Limit, Broken, Cycle, ZeroElement, RestNotLast, Unsafe, Room, Value, NoMemory}

-- the byte of the text at which it stands
abbrev pub place_of : FrontError → ℕ
place_of (BadByte at) = at
place_of (OpenComment at) = at
place_of (BigNumber at) = at
place_of (Unexpected token at) = at
place_of (Deep token at) = at
place_of (Limit limit span) = span.from
place_of (Broken rule span) = span.from
place_of (Cycle span) = span.from
place_of (ZeroElement span) = span.from
place_of (RestNotLast span) = span.from
place_of (Unsafe span op) = span.from
place_of (Room span) = span.from
place_of (Value span) = span.from
place_of NoMemory = 0

-- the codes of the rules of names, types, constants and actions
abbrev pub rule_code : Rule → List ℕ
rule_code rule.Unknown = codes "N1"
rule_code rule.Twice = codes "N2"
rule_code rule.NotReadable = codes "N3"
rule_code rule.WrongArgs = codes "N4"
rule_code rule.Mismatch = codes "Y1"
rule_code rule.Narrowing = codes "Y2"
rule_code rule.NotConstant = codes "Y3"
rule_code rule.BadAction = codes "Y4"

abbrev pub limit_words : limits.Limit → List ℕ
limit_words limit.Definitions = codes "limit definitions"
limit_words limit.Fields = codes "limit fields"
limit_words limit.Cases = codes "limit cases"
limit_words limit.Parameters = codes "limit parameters"
limit_words limit.Nodes = codes "limit nodes"
limit_words limit.Action = codes "limit action"
limit_words limit.Cells = codes "limit cells"
limit_words limit.Depth = codes "limit depth"
limit_words limit.Weight = codes "limit weight"

-- an operator that isn't safe; `&`, `|` and `^` always are
abbrev pub unsafe_words : Binary → List ℕ
unsafe_words operator.Add = codes "unsafe +"
unsafe_words operator.Subtract = codes "unsafe -"
unsafe_words operator.Multiply = codes "unsafe *"
unsafe_words operator.Divide = codes "unsafe /"
unsafe_words operator.Remainder = codes "unsafe %"
unsafe_words operator.BitAnd = codes "unsafe &"
unsafe_words operator.BitOr = codes "unsafe |"
unsafe_words operator.BitXor = codes "unsafe ^"
unsafe_words operator.ShiftLeft = codes "unsafe <<"
unsafe_words operator.ShiftRight = codes "unsafe >>"

-- its code; that there was no memory has none
abbrev pub code_of : FrontError → List ℕ
code_of (BadByte at) = codes "L1"
code_of (OpenComment at) = codes "L2"
code_of (BigNumber at) = codes "L3"
code_of (Unexpected token at) = codes "P1"
code_of (Deep token at) = codes "P2"
code_of (Limit limit span) = codes "X1"
code_of (Broken rule span) = rule_code rule
code_of (Cycle span) = codes "N5"
code_of (ZeroElement span) = codes "K1"
code_of (RestNotLast span) = codes "K2"
code_of (Unsafe span op) = codes "A1"
code_of (Room span) = codes "A2"
code_of (Value span) = codes "A1"
code_of NoMemory = []

-- its words
abbrev pub words_of : FrontError → List ℕ
words_of (BadByte at) = codes "bad byte"
words_of (OpenComment at) = codes "open comment"
words_of (BigNumber at) = codes "number too large"
words_of (Unexpected token at) = codes "unexpected token"
words_of (Deep token at) = codes "too deep"
words_of (Limit limit span) = limit_words limit
words_of (Broken rule span) = rule_words rule
words_of (Cycle span) = codes "module cycle"
words_of (ZeroElement span) = codes "element may be empty"
words_of (RestNotLast span) = codes "rest not last"
words_of (Unsafe span op) = unsafe_words op
words_of (Room span) = codes "room"
words_of (Value span) = codes "unsafe ="
words_of NoMemory = []
