-- What holds of flat inputs.
use Rattle.std.specs.Prelude.{◌≡◌, ◌⊎◌, ◌<◌, ℕ, true, List, [], length, None}
use Rattle.td_num.specs.Lists.{Each, is_among}
use Rattle.td_front_flat_facts.specs.Imports.{Span, PartTree, Module, Parts}
use Rattle.td_ast.specs.declared.parts.InputTree.{InputTree}
use Rattle.td_front_flat.specs.Names.{of_part, spelled}
use Rattle.td_front_order.specs.Order.{order}
use Rattle.td_front_flat.specs.Order.{names_of, graph_of, first_twice, NoCycle}
use Rattle.td_front_flat.specs.Flat.{flat, written, IsTwice, IsCycle, IsLinked}
use Rattle.td_lexer.specs.Splits.{IsName, IsDotted}
use Rattle.td_limits.specs.Counts.{counts_passed}
use Rattle.td_elab_rules.specs.Written.{names_written, definitions_written}

-- an input is linked, or one place is that of N2, or one that of N5
pub record HasOneAnswer (input : InputTree) : Type 0 where
  pub twice_once : (a b : Span) → IsTwice input a → IsTwice input b → a ≡ b
  pub cycle_once : (a b : Span) → IsCycle input a → IsCycle input b → a ≡ b
  pub not_both : (a b : Span) → IsTwice input a → IsCycle input b → ⊥
  pub not_twice : (a : Span) → IsLinked input → IsTwice input a → ⊥
  pub not_cycle : (a : Span) → IsLinked input → IsCycle input a → ⊥

abbrev pub OneAnswerEach : Type 0
OneAnswerEach = (input : InputTree) → HasOneAnswer input

-- where no use is cyclic, each part is in the order
abbrev pub NoPartIsLost : Type 0
NoPartIsLost = (parts : List PartTree) → NoCycle parts → (i : ℕ) → i < length parts → is_among (order (graph_of parts)) i ≡ true

-- an input that passes no limit by count as it is written passes none flat
abbrev pub CountsStay : Type 0
CountsStay = (input : InputTree) → counts_passed (written input) ≡ None → counts_passed (flat input) ≡ None

-- it holds of the names of parts, and of those written in them
abbrev pub OfPart : (List ℕ → Type 0) → PartTree → Type 0
OfPart P p = P p.name.text × Each P (definitions_written p.definitions)

abbrev pub OfInput : (List ℕ → Type 0) → InputTree → Type 0
OfInput P (Module tree) = Each P (names_written tree)
OfInput P (Parts parts) = Each (OfPart P) parts

-- the name that a definition of one of so many parts has in the one tree, where it holds of its name there
abbrev pub IsNumbered : (List ℕ → Type 0) → ℕ → List ℕ → Type 0
IsNumbered P count x = (k : ℕ) × (own : List ℕ) × (k < count) × P own × (x ≡ of_part k own)

-- a name of the one tree: one of which it holds, or such a one of a part
abbrev pub IsFlat : (List ℕ → Type 0) → InputTree → List ℕ → Type 0
IsFlat P (Module tree) x = P x
IsFlat P (Parts parts) x = P x ⊎ IsNumbered P (length parts) x

-- where the names of parts and those written in an input are words, each name written flat is a word, or has a part's number and a word
abbrev pub NamesStayWords : Type 0
NamesStayWords = (input : InputTree) → OfInput IsName input → Each (IsFlat IsName input) (names_written (flat input))

-- Such names as they are spelled, where the names of parts are words

-- a word is spelled as it stands
abbrev pub WordsAreSpelledSo : Type 0
WordsAreSpelledSo = (names : List (List ℕ)) (x : List ℕ) → IsName x → spelled names x ≡ x

-- a name with a part's number is spelled as two words joined by a dot
abbrev pub NumberedAreDotted : Type 0
NumberedAreDotted =
    (parts : List PartTree) (x : List ℕ) → Each (OfPart IsName) parts → IsNumbered IsName (length parts) x → IsDotted (spelled (names_of parts) x)

-- where no part has the name of an earlier one, no two names are spelled alike
abbrev pub NamesStayApart : Type 0
NamesStayApart =
    (parts : List PartTree) (x y : List ℕ) → first_twice [] parts ≡ None → Each (OfPart IsName) parts → IsFlat IsName (Parts parts) x → IsFlat IsName (Parts parts) y →
    spelled (names_of parts) x ≡ spelled (names_of parts) y → x ≡ y
