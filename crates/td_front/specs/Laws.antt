-- What holds of module texts and their refusals.
use Rattle.std.specs.Prelude.{◌≡◌, ◌↔◌, ℕ, List, ◌⊎◌}
use Rattle.td_front.specs.Imports.{ModuleTree, InputTree, Module}
use Rattle.td_ast.specs.declared.parts.InputTree.TheVariants.{Module as Parsed}
use Rattle.td_elab_rules.specs.Modules.{module_of}
use Rattle.td_front_flat.specs.Flat.{flat, IsLinked}
use Rattle.td_front.specs.declared.error.FrontError.{FrontError}
use Rattle.td_front.specs.Checked.{IsChecked}
use Rattle.td_front.specs.Passes.{IsAdmitted, RefusesTree}
use Rattle.td_front.specs.Inputs.{HasInputCounts, input_module}
use Rattle.td_front.specs.ModuleText.{IsModuleText, RefusedBy, SpellsTree}

-- a text stands for at most one module
abbrev pub OneModuleEach : Type 0
OneModuleEach = (text : List ℕ) (m n : Module) → IsModuleText text m → IsModuleText text n → m ≡ n

-- a text has at most one refusal
abbrev pub OneRefusalEach : Type 0
OneRefusalEach = (text : List ℕ) (e f : FrontError) → RefusedBy text e → RefusedBy text f → e ≡ f

-- a text that stands for a module has no refusal
abbrev pub NeverBoth : Type 0
NeverBoth = (text : List ℕ) (m : Module) (e : FrontError) → IsModuleText text m → RefusedBy text e → ⊥

-- a text stands for a module or has a refusal
abbrev pub AlwaysOne : Type 0
AlwaysOne = (text : List ℕ) → ((m : Module) × IsModuleText text m) ⊎ ((e : FrontError) × RefusedBy text e)

-- what holds of each module for which a text stands
abbrev pub ModulesAreChecked : Type 0
ModulesAreChecked = (text : List ℕ) (m : Module) → IsModuleText text m → IsChecked m

-- A text is answered as this tree is: it stands for this module, where the tree is admitted, with the tree's refusals, and no others.
pub record IsAnsweredAs (text : List ℕ) (tree : ModuleTree) (stood : Module) : Type 0 where
  pub stands : (m : Module) → IsModuleText text m ↔ (IsAdmitted tree × (m ≡ stood))
  pub refused : (e : FrontError) → RefusedBy text e ↔ RefusesTree tree e

-- Where no count is passed and parts are linked, the text is answered as the one tree that the parts are, at the same places; its
-- module has its names as they are spelled.
abbrev pub PartsAreAnsweredFlat : Type 0
PartsAreAnsweredFlat =
    (text : List ℕ) (input : InputTree) → SpellsTree text input → HasInputCounts input → IsLinked input → IsAnsweredAs text (flat input) (input_module input)

-- a text without parts is answered as its tree
abbrev pub ModulesAreAnsweredAlone : Type 0
ModulesAreAnsweredAlone = (text : List ℕ) (tree : ModuleTree) → SpellsTree text (Parsed tree) → IsAnsweredAs text tree (module_of tree)
