-- The rules by code (own rule).
use Rattle.std.specs.Prelude.{ℕ, List, codes}
use Rattle.td_verify.specs.declared.rule.Rule.{Rule}
use Rattle.td_verify.specs.declared.rule.Rule.TheVariants.{Target, Register, Depth, Loop, Table, Weight, Operand}

abbrev pub rule_code : Rule → List ℕ
rule_code Target = codes "V1"
rule_code Register = codes "V2"
rule_code Depth = codes "V3"
rule_code Loop = codes "V4"
rule_code Table = codes "V5"
rule_code Weight = codes "V6"
rule_code Operand = codes "V7"
