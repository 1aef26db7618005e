-- Several of one production read back.
use Rattle.std.proofs.Common.{◌≡◌, List, [], ◌∷◌, ◌++◌, map, Option, refl, ap}
use Rattle.std.specs.Prelude.{flat_map}
use Rattle.td_num.specs.Lists.{Each}
use Rattle.td_ast.specs.declared.token.TokenKind.TheVariants as kinds
use Rattle.td_grammar.specs.Grammar.{Grammar, ◌then◌, ◌making◌}
use Rattle.td_grammar.specs.Tokens.{terminal}
use Rattle.td_grammar.specs.Sequences.{some_of, in_parentheses, list_of}
use Rattle.td_print_layout.specs.Pieces.{Piece}
use Rattle.td_print_layout.specs.Sequences.{comma}
use Rattle.td_print_layout.specs.Sequences as sequences
use Rattle.td_print_layout.proofs.Back.{Back, blank, both, made, none, some, list_back, each_back}
use Rattle.td_print_layout.proofs.Words.{terminal_back}

-- there is an element
abbrev pub IsFilled : {A : Type 0} → List A → Type 0
IsFilled [] = ⊥
IsFilled (x ∷ xs) = Unit {0}

module _ {A : Type 0} (g : Grammar A) (pieces : A → List Piece) (un : A → A) (F : A → Type 0) (back : (x : A) → F x → Back g.Spells (pieces x) (λ y. un y ≡ un x)) where
  -- g { g }
  pub some_back : (xs : List A) → IsFilled xs → Each F xs → Back (some_of g).Spells (flat_map pieces xs) (λ ys. map un ys ≡ map un xs)
  some_back [] filled f = absurd filled
  some_back (x ∷ xs) filled f = made (both (back x f.0) (each_back g.Spells pieces un F back xs f.1)) (λ z h. cc (h.0, h.1))

module _ {A : Type 0} (g : Grammar A) (pieces : A → List Piece) (un : A → A) (back : (x : A) → Back g.Spells (pieces x) (λ y. un y ≡ un x)) where
  -- after a comma
  next_back : (x : A) → Back ((terminal kinds.Comma then g) making λ (comma, next). next).Spells (comma ++ pieces x) (λ y. un y ≡ un x)
  next_back x = made (both (terminal_back kinds.Comma refl) (blank (back x))) (λ z h. h.1)

  -- [ "(" g { "," g } ")" ]
  pub parentheses_back : (xs : List A) → Back (in_parentheses g).Spells (sequences.in_parentheses pieces xs) (λ ys. map un ys ≡ map un xs)
  parentheses_back [] = made none (λ o e. ap (λ (r : Option (List A)). map un (list_of r)) e)
  parentheses_back (x ∷ xs) =
      made (some {H = λ o. map un (list_of o) ≡ map un (x ∷ xs)} (made {H = λ ys. map un ys ≡ map un (x ∷ xs)}
      (both (terminal_back kinds.OpenParen refl) (both (made {H = λ ys. map un ys ≡ map un (x ∷ xs)}
      (both (back x) (list_back ((terminal kinds.Comma then g) making λ (comma, next). next).Spells (λ y. comma ++ pieces y) un next_back xs))
      (λ z h. cc (h.0, h.1))) (terminal_back kinds.CloseParen refl)))
      (λ z h. h.1.0)) (λ z h. h)) (λ o e. e)
