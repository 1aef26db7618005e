-- What holds of flat inputs.
use Rattle.std.specs.Prelude.{◌≡◌, ◌⊎◌, [], ◌∷◌}
use Rattle.td_ast.specs.declared.token.Span.{Span}
use Rattle.td_ast.specs.declared.definitions.ModuleTree.{ModuleTree}
use Rattle.td_ast.specs.declared.parts.PartTree.{PartTree}
use Rattle.td_ast.specs.declared.parts.InputTree.{InputTree}
use Rattle.td_ast.specs.declared.parts.InputTree.TheVariants.{Module, Parts}
use Rattle.td_front_flat.specs.Definitions.{flat_part}
use Rattle.td_front_flat.specs.Uses.{part_uses}
use Rattle.td_front_flat.specs.Flat.{flat, written, IsTwice, IsCycle, IsLinked}

-- a module is its own tree, and all of it is counted
abbrev pub OneModule : Type 0
OneModule = (tree : ModuleTree) → (flat (Module tree) ≡ tree) × (written (Module tree) ≡ tree)

-- of one part without uses there is that part
abbrev pub OnePart : Type 0
OnePart = (p : PartTree) → part_uses p ≡ [] → flat (Parts (p ∷ [])) ≡ record { definitions = flat_part (p.name.text ∷ []) 0 p }

-- an input is linked, or one of the two breaches comes
abbrev pub HasAnswer : InputTree → Type 0
HasAnswer input = IsLinked input ⊎ (((at : Span) × IsTwice input at) ⊎ ((at : Span) × IsCycle input at))

abbrev pub EachAnswered : Type 0
EachAnswered = (input : InputTree) → HasAnswer input
