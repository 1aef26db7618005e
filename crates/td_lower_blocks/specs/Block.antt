-- Code in blocks (own rule; docs/language/code.md): no place is written down before a block is laid out.
use Rattle.std.specs.Prelude.{◌≡◌, ℕ, ◌+◌, Bool, true, false, List, [], ◌∷◌, ◌++◌, length}
use Rattle.td_lower_blocks.specs.Imports.{Instr, Parts}
use Rattle.td_ir.specs.declared.instructions.Instr.TheVariants as i
use Rattle.td_ir.specs.Tables.{instruction_of}

-- nothing; a straight instruction or a call, and what follows; Return or Fail; a jump to the end of the nearest scope; a
-- block that is passed over where a register isn't 0 (true) or is 0 (false), and what follows; a scope, a window and a loop,
-- and what follows
pub data Block : Type 0 where
  Done : Block
  Then : Instr → Block → Block
  Stop : Instr → Block
  Leave : Block
  Guard : Bool → ℕ → Block → Block → Block
  Scope : Block → Block → Block
  Window : Instr → ℕ → Block → Block → Block
  Loop : Block → Block → Block

-- how many instructions it has
abbrev pub size : Block → ℕ
size Done = 0
size (Then j b) = 1 + size b
size (Stop j) = 1
size Leave = 1
size (Guard g r one rest) = 1 + (size one + size rest)
size (Scope body rest) = size body + size rest
size (Window j site body rest) = 1 + (size body + (1 + size rest))
size (Loop body rest) = 1 + (size body + (1 + size rest))

-- it never goes on behind its end
abbrev pub Ends : Block → Type 0
Ends Done = ⊥
Ends (Then j b) = Ends b
Ends (Stop j) = Unit {0}
Ends Leave = ⊥
Ends (Guard g r one rest) = Ends rest
Ends (Scope body rest) = Ends rest
Ends (Window j site body rest) = Ends rest
Ends (Loop body rest) = Ends rest

-- passes to t where a register isn't 0 (true) or is 0 (false)
abbrev pub guard : Bool → ℕ → ℕ → Instr
guard true r t = i.JumpIf r t
guard false r t = i.JumpUnless r t

-- a block laid out from p on, with the place to which it leaves
abbrev pub code : ℕ → ℕ → Block → List Instr
code p x Done = []
code p x (Then j b) = j ∷ code (p + 1) x b
code p x (Stop j) = j ∷ []
code p x Leave = i.Jump x ∷ []
code p x (Guard g r one rest) = guard g r (p + 1 + size one) ∷ (code (p + 1) x one ++ code (p + 1 + size one) x rest)
code p x (Scope body rest) = code p (p + size body) body ++ code (p + size body) x rest
code p x (Window j site body rest) = j ∷ (code (p + 1) x body ++ i.Widen site ∷ code (p + 1 + size body + 1) x rest)
code p x (Loop body rest) = i.While (p + 1 + size body + 1) ∷ (code (p + 1) x body ++ i.Again p ∷ code (p + 1 + size body + 1) x rest)

-- a block stands in code from p on
abbrev pub Stands : Parts → ℕ → ℕ → Block → Type 0
Stands c p x Done = Unit {0}
Stands c p x (Then j b) = (instruction_of c p ≡ j) × Stands c (p + 1) x b
Stands c p x (Stop j) = instruction_of c p ≡ j
Stands c p x Leave = instruction_of c p ≡ i.Jump x
Stands c p x (Guard g r one rest) = (instruction_of c p ≡ guard g r (p + 1 + size one)) × Stands c (p + 1) x one × Stands c (p + 1 + size one) x rest
Stands c p x (Scope body rest) = Stands c p (p + size body) body × Stands c (p + size body) x rest
Stands c p x (Window j site body rest) = (instruction_of c p ≡ j) × Stands c (p + 1) x body × (instruction_of c (p + 1 + size body) ≡ i.Widen site) × Stands c (p + 1 + size body + 1) x rest
Stands c p x (Loop body rest) = (instruction_of c p ≡ i.While (p + 1 + size body + 1)) × Stands c (p + 1) x body × (instruction_of c (p + 1 + size body) ≡ i.Again p) × Stands c (p + 1 + size body + 1) x rest

-- a block that is laid out somewhere in code stands there
abbrev pub LayingOut : Type 0
LayingOut =
    (c : Parts) (b : Block) (x : ℕ) (before after : List Instr) →
    c.instructions ≡ before ++ (code (length before) x b ++ after) → Stands c (length before) x b
