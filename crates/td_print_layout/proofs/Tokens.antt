-- Tokens by their kinds.
use Rattle.std.proofs.Common.{◌≡◌, List, [], ◌∷◌, ◌++◌, map, refl, ap, ◌∙◌}
use Rattle.td_ast.specs.declared.token.Token.{Token}
use Rattle.td_ast.specs.declared.token.TokenKind.{TokenKind}
use Rattle.td_print_layout.specs.Pieces.{Piece, Word, Blank, LineEnd, kinds_of}

abbrev pub kinds_in : List Token → List TokenKind
kinds_in tokens = map (λ token. token.kind) tokens

pub kinds_append : (u v : List Piece) → kinds_of (u ++ v) ≡ kinds_of u ++ kinds_of v
kinds_append [] v = refl
kinds_append (Word k ∷ u) v = ap (λ (l : List TokenKind). k ∷ l) (kinds_append u v)
kinds_append (Blank ∷ u) v = kinds_append u v
kinds_append (LineEnd ∷ u) v = kinds_append u v

pub split_kinds : (tokens : List Token) (u v : List TokenKind) → kinds_in tokens ≡ u ++ v → (front : List Token) × (back : List Token) × (tokens ≡ front ++ back) × (kinds_in front ≡ u) × (kinds_in back ≡ v)
split_kinds tokens [] v e = ([], tokens, refl, refl, e)
split_kinds [] (k ∷ u) v e = absurd cc
split_kinds (t ∷ tokens) (k ∷ u) v e =
    let head : t.kind ≡ k = cc in
    let tail : kinds_in tokens ≡ u ++ v = cc in
    let p = split_kinds tokens u v tail in
    (t ∷ p.0, p.1, ap (λ (l : List Token). t ∷ l) p.2, cc (p.3, head), p.4)

pub first_kind : (tokens : List Token) (k : TokenKind) (v : List TokenKind) → kinds_in tokens ≡ k ∷ v → (t : Token) × (rest : List Token) × (tokens ≡ t ∷ rest) × (t.kind ≡ k) × (kinds_in rest ≡ v)
first_kind [] k v e = absurd cc
first_kind (t ∷ tokens) k v e = (t, tokens, refl, cc, cc)

pub no_kinds : (tokens : List Token) → kinds_in tokens ≡ [] → tokens ≡ []
no_kinds [] e = refl
no_kinds (t ∷ tokens) e = absurd cc

pub one_token : (tokens : List Token) (k : TokenKind) → kinds_in tokens ≡ k ∷ [] → (t : Token) × (tokens ≡ t ∷ []) × (t.kind ≡ k)
one_token tokens k e = let p = first_kind tokens k [] e in (p.0, p.2 ∙ ap (λ (l : List Token). p.0 ∷ l) (no_kinds p.1 p.4), p.3)
