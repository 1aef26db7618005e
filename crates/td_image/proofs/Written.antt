-- Code within the limits of version 4 is within those of the version in which it is written. Cited by other crates.
-- Without an instruction of a newer kind it is within those of version 3, and it is the code that is spelled so.
use Rattle.std.proofs.Common.{◌≡◌, ◌≤◌, Bool, true, false, ◌||◌, List, [], ◌∷◌, refl, arith}
use Rattle.std.specs.Prelude.{if◌then◌else◌, nat_lt}
use Rattle.std.specs.List.{list_any}
use Rattle.std.proofs.lemmas.Bool.{le-leb, ltb-false}
use Rattle.td_image.specs.Imports.{Instr, Parts}
use Rattle.td_ir.specs.Fields.{fields_of}
use Rattle.td_image.specs.declared.limits.TheConstants.{THIRD_KIND}
use Rattle.td_image.specs.declared.version.ImageVersion.TheVariants.{Third, Fourth}
use Rattle.td_image.specs.Format.{all_fit}
use Rattle.td_image.specs.Image as format
use Rattle.td_image.specs.Versions.{is_newer}
use Rattle.td_image.specs.Answer.{code_in, code_of, written}
use Rattle.td_image.proofs.Fitting.{FitsAs}

neither_left : (a b : Bool) → (a || b) ≡ false → a ≡ false
neither_left true b e = e
neither_left false b e = refl

neither_right : (a b : Bool) → (a || b) ≡ false → b ≡ false
neither_right true b e = absurd (cc e)
neither_right false b e = e

instruction_older : (j : Instr) → is_newer j ≡ false → (format.instruction Fourth).Fits j → (format.instruction Third).Fits j
unfolding format.fields
instruction_older j old (number, operands) =
    let most : (fields_of j).number ≤ THIRD_KIND = ltb-false THIRD_KIND (fields_of j).number old in
    ((number.0, le-leb (fields_of j).number THIRD_KIND most), operands)

instructions_older : (js : List Instr) → list_any is_newer js ≡ false → all_fit (λ (s : Unit {0}). format.instruction Fourth) (λ s x. s) tt js → all_fit (λ (s : Unit {0}). format.instruction Third) (λ s x. s) tt js
unfolding all_fit
instructions_older [] old h = tt
instructions_older (j ∷ js) old h =
    (instruction_older j (neither_left (is_newer j) (list_any is_newer js) old) h.0, instructions_older js (neither_right (is_newer j) (list_any is_newer js) old) h.1)

-- all else is the same in both versions
older : (p : Parts) → list_any is_newer p.instructions ≡ false → FitsAs Fourth p → FitsAs Third p
unfolding format.image format.header format.name format.site format.map_format format.rooms format.routine
older p old ((m, (o, (z, counts))), (names, (sites, (maps, (sets, (routines, (entries, instructions))))))) =
    ((m, ((omega arith, refl), (z, counts))), (names, (sites, (maps, (sets, (routines, (entries, (instructions.0, instructions_older p.instructions old instructions.1))))))))

pub as_written : (p : Parts) → FitsAs Fourth p → format.image.Fits (written p)
as_written p fits = by (list_any is_newer p.instructions) refl
  where
    by : (b : Bool) → list_any is_newer p.instructions ≡ b → FitsAs (if b then Fourth else Third) p
    by true e = fits
    by false e = older p e fits

pub code_written : (p : Parts) → code_of (written p) ≡ p
code_written p = by (list_any is_newer p.instructions)
  where
    by : (b : Bool) → code_in (if b then Fourth else Third) p ≡ p
    by true = refl
    by false = refl
