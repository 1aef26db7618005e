-- What holds of canonical texts, as texts.
use Rattle.std.specs.Prelude.{◌≡◌, ℕ, List}
use Rattle.td_ast.specs.declared.token.Token.{Token}
use Rattle.td_ast.specs.declared.parts.InputTree.{InputTree}
use Rattle.td_lexer.specs.Splits.{Splits}
use Rattle.td_grammar.specs.Limits.{IsWithinLimits}
use Rattle.td_grammar.specs.Parts.{input_text}
use Rattle.td_print_layout.specs.Definitions.{canonical_text}
use Rattle.td_print_layout.specs.Unspanned.{unspanned}

-- the text splits into tokens that spell the tree, and none of them passes a limit
abbrev pub IsTextOf : List ℕ → InputTree → Type 0
IsTextOf text tree = (tokens : List Token) × Splits text tokens × input_text.Spells tree tokens × IsWithinLimits input_text.Passes tokens

-- the canonical text of a tree that a text spells within the limits spells the tree again, its places aside, within the limits
abbrev pub IsReadBack : Type 0
IsReadBack = (text : List ℕ) (tree : InputTree) → IsTextOf text tree → (read : InputTree) × IsTextOf (canonical_text tree) read × (unspanned read ≡ unspanned tree)

-- what is tidy stays as it is: the tree that a canonical text spells has this same canonical text
abbrev pub StaysTidy : Type 0
StaysTidy = (text : List ℕ) (tree read : InputTree) → IsTextOf text tree → IsTextOf (canonical_text tree) read → canonical_text read ≡ canonical_text tree
