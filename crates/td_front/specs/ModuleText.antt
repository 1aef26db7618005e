-- Module texts (own rule): which bytes stand for which module, and by what a text is refused that stands for none.
use Rattle.std.specs.Prelude.{◌≡◌, ℕ, List, length, slice_get, Option, Some, None}
use Rattle.td_front.specs.Imports.{Token, InputTree, Module, BadByte as BadByteAt, OpenComment as OpenCommentAt, BigNumber as BigNumberAt}
use Rattle.td_lexer.specs.Splits.{Splits, IsRefused}
use Rattle.td_grammar.specs.Spelling.{IsFirstRefused}
use Rattle.td_grammar.specs.Limits.{IsFirstDeep, IsWithinLimits}
use Rattle.td_grammar.specs.Parts.{input_text}
use Rattle.td_front.specs.declared.error.FrontError.{FrontError}
use Rattle.td_front.specs.declared.error.FrontError.TheVariants.{BadByte, OpenComment, BigNumber, Unexpected, Deep, Limit, Broken, Cycle, ZeroElement, RestNotLast, Unsafe, Room, Value, NoMemory}
use Rattle.td_front.specs.Inputs.{IsAdmittedInput, RefusesInput, input_module}

-- the text splits into tokens that spell this module or these parts, and none of them passes a limit
pub record SpellsTree (text : List ℕ) (input : InputTree) : Type 0 where
  pub tokens : List Token
  pub split : Splits text tokens
  pub spelled : input_text.Spells input tokens
  pub within : IsWithinLimits input_text.Passes tokens

-- these bytes are a module text that stands for this module: that of the one tree which its parts are, where it has parts, each
-- of their definitions with its part's name, a dot and its own for a name
pub record IsModuleText (text : List ℕ) (m : Module) : Type 0 where
  pub input : InputTree
  pub spells : SpellsTree text input
  pub admitted : IsAdmittedInput input
  pub module_is : m ≡ input_module input

-- and this is what it spells
abbrev pub IsTextOf : List ℕ → InputTree → Module → Type 0
IsTextOf text input m = (stands : IsModuleText text m) × (stands.input ≡ input)

-- where a token begins; the length of the text, where there is no token
abbrev pub beginning_or : Option Token → ℕ → ℕ
beginning_or (Some token) end = token.span.from
beginning_or None end = end

abbrev pub beginning_of : List ℕ → List Token → ℕ → ℕ
beginning_of text tokens n = beginning_or (slice_get tokens n) (length text)

-- what a text spells is refused
abbrev pub RefusedTree : List ℕ → FrontError → Type 0
RefusedTree text e = (input : InputTree) × SpellsTree text input × RefusesInput input e

-- The refusals of a text, in their order: its bytes don't split into tokens; the tokens spell no tree, or one of them
-- passes a limit; the tree is refused. Each names the first place of its pass (own rule).
abbrev pub RefusedBy : List ℕ → FrontError → Type 0
RefusedBy text (BadByte at) = IsRefused text (BadByteAt at)
RefusedBy text (OpenComment at) = IsRefused text (OpenCommentAt at)
RefusedBy text (BigNumber at) = IsRefused text (BigNumberAt at)
RefusedBy text (Unexpected token at) =
    (tokens : List Token) × Splits text tokens × IsFirstRefused input_text.Spells tokens token × IsWithinLimits input_text.Passes tokens × (at ≡ beginning_of text tokens token)
RefusedBy text (Deep token at) =
    (tokens : List Token) × Splits text tokens × IsFirstDeep input_text.Passes tokens token × (at ≡ beginning_of text tokens token)
RefusedBy text (Limit limit span) = RefusedTree text (Limit limit span)
RefusedBy text (Broken rule span) = RefusedTree text (Broken rule span)
RefusedBy text (Cycle span) = RefusedTree text (Cycle span)
RefusedBy text (ZeroElement span) = RefusedTree text (ZeroElement span)
RefusedBy text (RestNotLast span) = RefusedTree text (RestNotLast span)
RefusedBy text (Unsafe span op) = RefusedTree text (Unsafe span op)
RefusedBy text (Room span) = RefusedTree text (Room span)
RefusedBy text (Value span) = RefusedTree text (Value span)
RefusedBy text NoMemory = ⊥
