-- Codes and words of refusals have room as strings of C.
use Rattle.std.proofs.Common.{◌<◌, length, arith}
use Rattle.td_core.specs.declared.expressions.Binary.{Binary}
use Rattle.td_core.specs.declared.expressions.Binary.TheVariants as operator
use Rattle.td_limits.specs.declared.limits.Limit as limits
use Rattle.td_limits.specs.declared.limits.Limit.TheVariants as limit
use Rattle.td_elab_rules.specs.declared.breach.Rule.{Rule}
use Rattle.td_elab_rules.specs.declared.breach.Rule.TheVariants as rule
use Rattle.td_elab_rules.specs.Breach.{rule_words}
use Rattle.td_front.specs.Lines.{code_of, words_of, rule_code, limit_words, unsafe_words}
use Rattle.td_front.specs.declared.error.FrontError.{FrontError}
use Rattle.td_front.specs.declared.error.FrontError.TheVariants.{BadByte, OpenComment, BigNumber, Unexpected, Deep, Limit, Broken, Cycle, ZeroElement, RestNotLast, Unsafe, Room, Value, NoMemory}

rule_code_short : (r : Rule) → length (rule_code r) < 8
rule_code_short rule.Unknown = omega arith
rule_code_short rule.Twice = omega arith
rule_code_short rule.NotReadable = omega arith
rule_code_short rule.WrongArgs = omega arith
rule_code_short rule.Mismatch = omega arith
rule_code_short rule.Narrowing = omega arith
rule_code_short rule.NotConstant = omega arith
rule_code_short rule.BadAction = omega arith

rule_short : (r : Rule) → length (rule_words r) < 32
rule_short rule.Unknown = omega arith
rule_short rule.Twice = omega arith
rule_short rule.NotReadable = omega arith
rule_short rule.WrongArgs = omega arith
rule_short rule.Mismatch = omega arith
rule_short rule.Narrowing = omega arith
rule_short rule.NotConstant = omega arith
rule_short rule.BadAction = omega arith

limit_short : (l : limits.Limit) → length (limit_words l) < 32
limit_short limit.Definitions = omega arith
limit_short limit.Fields = omega arith
limit_short limit.Cases = omega arith
limit_short limit.Parameters = omega arith
limit_short limit.Nodes = omega arith
limit_short limit.Action = omega arith
limit_short limit.Cells = omega arith
limit_short limit.Depth = omega arith
limit_short limit.Weight = omega arith

unsafe_short : (op : Binary) → length (unsafe_words op) < 32
unsafe_short operator.Add = omega arith
unsafe_short operator.Subtract = omega arith
unsafe_short operator.Multiply = omega arith
unsafe_short operator.Divide = omega arith
unsafe_short operator.Remainder = omega arith
unsafe_short operator.BitAnd = omega arith
unsafe_short operator.BitOr = omega arith
unsafe_short operator.BitXor = omega arith
unsafe_short operator.ShiftLeft = omega arith
unsafe_short operator.ShiftRight = omega arith

pub code_short : (e : FrontError) → length (code_of e) < 8
code_short (BadByte at) = omega arith
code_short (OpenComment at) = omega arith
code_short (BigNumber at) = omega arith
code_short (Unexpected token at) = omega arith
code_short (Deep token at) = omega arith
code_short (Limit l span) = omega arith
code_short (Broken r span) = rule_code_short r
code_short (Cycle span) = omega arith
code_short (ZeroElement span) = omega arith
code_short (RestNotLast span) = omega arith
code_short (Unsafe span op) = omega arith
code_short (Room span) = omega arith
code_short (Value span) = omega arith
code_short NoMemory = omega arith

pub words_short : (e : FrontError) → length (words_of e) < 32
words_short (BadByte at) = omega arith
words_short (OpenComment at) = omega arith
words_short (BigNumber at) = omega arith
words_short (Unexpected token at) = omega arith
words_short (Deep token at) = omega arith
words_short (Limit l span) = limit_short l
words_short (Broken r span) = rule_short r
words_short (Cycle span) = omega arith
words_short (ZeroElement span) = omega arith
words_short (RestNotLast span) = omega arith
words_short (Unsafe span op) = unsafe_short op
words_short (Room span) = omega arith
words_short (Value span) = omega arith
words_short NoMemory = omega arith
