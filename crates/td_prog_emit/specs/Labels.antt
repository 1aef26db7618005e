-- Where instructions lead, and what is written of the bounds of loops (own rule).
use Rattle.std.specs.Prelude.{ℕ, Bool, true, false, cond, List, [], ◌∷◌, ◌++◌, codes}
use Rattle.td_ir.specs.declared.instructions.Instr.{Instr}
use Rattle.td_ir.specs.declared.instructions.Instr.TheVariants as i
use Rattle.td_ir.specs.declared.tables.Parts.{Parts}
use Rattle.td_ir.specs.Tables.{instruction_of}
use Rattle.td_verify.specs.Shape.{shape}
use Rattle.td_verify.specs.declared.shape.Shape.{Shape}
use Rattle.td_verify.specs.declared.shape.Shape.TheVariants.{While, Again}
use Rattle.td_prog_text.specs.Expressions.{Pieces}
use Rattle.td_prog.specs.Syntax.{Block}
use Rattle.td_prog_emit.specs.Written.{pieces_of}
use Rattle.td_prog_text.specs.Statements.{label_text, lined}

-- the place to which an instruction leads by a goto
abbrev pub targets : Instr → List ℕ
targets (i.Jump target) = target ∷ []
targets (i.JumpIf test target) = target ∷ []
targets (i.JumpUnless test target) = target ∷ []
targets j = []

-- loops stand in no loop, so what stands in one is a level deeper than the function's first
abbrev pub depth_in : Bool → ℕ
depth_in looped = cond looped 2 1

-- whether a loop is open behind an instruction of this shape
abbrev pub after : Shape → Bool → Bool
after (While t) looped = true
after (Again t) looped = false
after j looped = looped

-- how a loop begins and ends
abbrev pub bound : Shape → Pieces
bound (While t) = lined 1 (codes "while (" ∷ codes "pos" ∷ codes " != " ∷ codes "end" ∷ codes ") {" ∷ []) []
bound (Again t) = lined 1 (codes "}" ∷ []) []
bound j = []

-- what is written at a place of routine n: its label, where a goto leads to it, its instruction, and how a loop begins or ends
abbrev pub place_pieces : (c : Parts) → (n : ℕ) → Block → (pc : ℕ) → (is looped : Bool) → Pieces
place_pieces c n whole pc is looped = label_text is pc ∷ (pieces_of c n whole (depth_in looped) (instruction_of c pc) ++ bound (shape (instruction_of c pc)))
