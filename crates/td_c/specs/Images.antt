-- Why bytes are no image, as the numbers that C is given (own rule; capi/td.h names them).
use Rattle.std.specs.Prelude.{◌≡◌, ◌⊎◌, ℕ, ℤ, pos, List}
use Rattle.td_ir.specs.declared.tables.Parts.{Parts}
use Rattle.td_verify.specs.declared.rule.Rule.{Rule}
use Rattle.td_verify.specs.declared.rule.Rule.TheVariants as rules
use Rattle.td_image.specs.declared.error.ImageError.TheVariants as errors
use Rattle.td_image.specs.Answer.{IsImage, IsBreach, IsRefused, MayRunOut}
use Rattle.td_c.specs.declared.images.TdFault.{TdFault}

abbrev pub rule_number : Rule → ℕ
rule_number rules.Target = 1
rule_number rules.Register = 2
rule_number rules.Depth = 3
rule_number rules.Loop = 4
rule_number rules.Table = 5
rule_number rules.Weight = 6
rule_number rules.Operand = 7

-- the numbers that are answered: a session is open, there was no memory, or the bytes are no image: 11 to 16 for I1 to I6
abbrev pub IsOpening : ℤ → Type 0
IsOpening code = (code ≡ pos 0) ⊎ ((code ≡ pos 4) ⊎ ((code ≡ pos 11) ⊎ ((code ≡ pos 12) ⊎ ((code ≡ pos 13) ⊎ ((code ≡ pos 14) ⊎ ((code ≡ pos 15) ⊎ (code ≡ pos 16)))))))

-- the numbers that tell no place
abbrev pub IsPlaceless : ℤ → Type 0
IsPlaceless code = (code ≡ pos 0) ⊎ ((code ≡ pos 4) ⊎ ((code ≡ pos 11) ⊎ (code ≡ pos 12)))

-- each is answered only where its cause holds of the bytes; want of memory (4) only where a first row of a table was read, or the bytes are an
-- image. What isn't told of the fault is as it was
pub record IsFault (code : ℤ) (was fault : TdFault) (bytes : List ℕ) : Type 0 where
  pub answer : IsOpening code
  pub memory : code ≡ pos 4 → MayRunOut bytes
  pub magic : code ≡ pos 11 → IsRefused bytes errors.Magic
  pub version : code ≡ pos 12 → IsRefused bytes errors.Version
  pub short : code ≡ pos 13 → IsRefused bytes (errors.Short fault.place)
  pub field : code ≡ pos 14 → IsRefused bytes (errors.Field fault.place)
  pub rest : code ≡ pos 15 → IsRefused bytes (errors.Rest fault.place)
  pub refused : code ≡ pos 16 → (p : Parts) × (rule : Rule) × IsImage p bytes × IsBreach p (record { rule = rule; at = fault.place }) × (fault.rule ≡ rule_number rule)
  pub no_place : IsPlaceless code → fault.place ≡ was.place
  pub no_rule : (code ≡ pos 16 → ⊥) → fault.rule ≡ was.rule
