-- What holds of canonical texts (own rule).
use Rattle.std.specs.Prelude.{◌≡◌, ℕ, List, map}
use Rattle.td_num.specs.Lists.{Each}
use Rattle.td_ast.specs.declared.token.Token.{Token}
use Rattle.td_ast.specs.declared.parts.InputTree.{InputTree}
use Rattle.td_grammar.specs.Limits.{IsWithinLimits}
use Rattle.td_grammar.specs.Parts.{input_text}
use Rattle.td_print_layout.specs.Pieces.{kinds_of, text_of}
use Rattle.td_print_layout.specs.Joining.{IsSpellable}
use Rattle.td_print_layout.specs.Names.{qualified_pieces}
use Rattle.td_print_layout.specs.Definitions.{layout, canonical_text}
use Rattle.td_print_layout.specs.Unspanned.{unspanned}

-- these tokens are of the kinds that the canonical text of a tree has
abbrev pub AreOf : InputTree → List Token → Type 0
AreOf tree tokens = map (λ token. token.kind) tokens ≡ kinds_of (layout tree)

-- Where some tokens spell a tree, those of its canonical text spell it too, its places aside.
abbrev pub ReadsBack : Type 0
ReadsBack =
    (tree : InputTree) (source tokens : List Token) → input_text.Spells tree source → AreOf tree tokens
    → (read : InputTree) × input_text.Spells read tokens × (unspanned read ≡ unspanned tree)

-- Where some tokens spell a tree within the limits, those of its canonical text are within the limits too.
abbrev pub KeepsLimits : Type 0
KeepsLimits =
    (tree : InputTree) (source tokens : List Token) → input_text.Spells tree source → IsWithinLimits input_text.Passes source → AreOf tree tokens → IsWithinLimits input_text.Passes tokens

-- Where each of the tokens that spell a tree can be spelled, a name as a name and a number below 2^64, so can each of its
-- canonical text.
abbrev pub KeepsSpellings : Type 0
KeepsSpellings =
    (tree : InputTree) (source : List Token) → input_text.Spells tree source → Each IsSpellable (map (λ token. token.kind) source) → Each IsSpellable (kinds_of (layout tree))

-- Trees that are equal, places aside, have the same canonical text.
abbrev pub SameText : Type 0
SameText = (a b : InputTree) → unspanned a ≡ unspanned b → canonical_text a ≡ canonical_text b

-- The text of a name is the name, with its dot where it has one.
abbrev pub NamesAreWhole : Type 0
NamesAreWhole = (text : List ℕ) → text_of (qualified_pieces text) ≡ text
