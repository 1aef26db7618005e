-- What C is told of bytes of which no C is written (own rule).
use Rattle.std.specs.Prelude.{◌≡◌, ℕ, []}
use Rattle.td_ir.specs.declared.tables.Parts.{Parts}
use Rattle.td_verify.specs.declared.rule.Rule.{Rule}
use Rattle.td_verify.specs.declared.rule.Rule.TheVariants.{Target, Register, Depth, Loop, Table, Weight, Operand}
use Rattle.td_image.specs.Answer.{RanOut}
use Rattle.td_image.specs.declared.error.ImageError.{ImageError}
use Rattle.td_image.specs.declared.error.ImageError.TheVariants.{Magic, Version, Short, Field, Rest, Refused, NoMemory}
use Rattle.td_c_pack.specs.declared.fault.TdWritten.{TdWritten}
use Rattle.td_c_pack.specs.declared.fault.TextError.{TextError}
use Rattle.td_c_pack.specs.declared.fault.TextError.TheVariants as text

-- I1 to I6 by number
abbrev pub fault_number : ImageError → ℕ
fault_number Magic = 1
fault_number Version = 2
fault_number (Short at) = 3
fault_number (Field at) = 4
fault_number (Rest at) = 5
fault_number (Refused breach) = 6
fault_number NoMemory = 0

-- the byte; of code that the verifier refuses the instruction; none of I1 and I2, which are of the first bytes
abbrev pub fault_place : ImageError → ℕ
fault_place (Short at) = at
fault_place (Field at) = at
fault_place (Rest at) = at
fault_place (Refused breach) = breach.at
fault_place e = 0

-- V1 to V7 by number
abbrev pub rule_number : Rule → ℕ
rule_number Target = 1
rule_number Register = 2
rule_number Depth = 3
rule_number Loop = 4
rule_number Table = 5
rule_number Weight = 6
rule_number Operand = 7

abbrev pub fault_rule : ImageError → ℕ
fault_rule (Refused breach) = rule_number breach.rule
fault_rule e = 0

-- fault, place and rule are those of this error; the size is as before
pub record IsFaultTold (e : ImageError) (before told : TdWritten) : Type 0 where
  pub fault : told.fault ≡ fault_number e
  pub place : told.place ≡ fault_place e
  pub rule : told.rule ≡ fault_rule e
  pub size : told.size ≡ before.size

-- why no text is written of verified code: it has no entry point, or there was no memory
abbrev pub IsNoText : Parts → TextError → Type 0
IsNoText c (text.Image e) = RanOut e
IsNoText c text.NoEntry = c.entries ≡ []
