-- The text of pieces that stay apart splits into their tokens.
use Rattle.std.proofs.Common.{◌≡◌, ℕ, ◌+◌, List, [], ◌∷◌, ◌++◌, length, map, refl, ap}
use Rattle.td_ast.specs.declared.token.Token.{Token}
use Rattle.td_ast.specs.declared.token.TokenKind.{TokenKind}
use Rattle.td_lexer.specs.Splits.{SplitsUpTo}
use Rattle.td_lexer.specs.Splits.SplitsUpTo.{splits_here, splits_passed, splits_token}
use Rattle.td_lexer.specs.Splits.IsPassed.{blank_passes}
use Rattle.td_print_layout.specs.Pieces.{Piece, Word, Blank, LineEnd, kinds_of, spelling, text_of}
use Rattle.td_print_layout.specs.Joining.{IsApart, PiecesAreSplit}
use Rattle.td_print_layout.proofs.Standing.{kind_stands}
use Rattle.td_print_layout.proofs.Following.{pieces_follow}

-- from a place on, the text splits into tokens of the kinds
abbrev SplitAt : ℕ → List Piece → Type 0
SplitAt at pieces = (tokens : List Token) × (to : ℕ) × SplitsUpTo at (text_of pieces) tokens to [] × (map (λ token. token.kind) tokens ≡ kinds_of pieces)

split_at : (at : ℕ) (pieces : List Piece) → IsApart pieces → SplitAt at pieces
split_at at [] apart = ([], at, splits_here, refl)
split_at at (Word kind ∷ pieces) apart =
    let stands = kind_stands kind (text_of pieces) apart.0 (pieces_follow kind pieces apart.2 apart.1) in
    let more = split_at (at + length (spelling kind)) pieces apart.2 in
    (record { kind = kind; span = record { from = at; to = at + length (spelling kind) } } ∷ more.0, more.1, splits_token stands more.2, ap (λ (l : List TokenKind). kind ∷ l) more.3)
split_at at (Blank ∷ pieces) apart =
    let more = split_at (at + 1) pieces apart in
    (more.0, more.1, splits_passed (blank_passes refl) more.2, more.3)
split_at at (LineEnd ∷ pieces) apart =
    let more = split_at (at + 1) pieces apart in
    (more.0, more.1, splits_passed (blank_passes refl) more.2, more.3)

pub split_law : PiecesAreSplit
split_law pieces apart =
    let h = split_at 0 pieces apart in
    (h.0, (h.1, h.2), h.3)
