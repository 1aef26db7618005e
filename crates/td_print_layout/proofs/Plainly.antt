-- Productions in which no limit is looked at are kept where they read back.
use Rattle.std.proofs.Common.{◌≡◌, ℕ, true, List, [], ◌∷◌, ◌++◌, refl, inl, inr}
use Rattle.td_ast.specs.declared.token.Token.{Token}
use Rattle.td_ast.specs.declared.token.TokenKind.{TokenKind}
use Rattle.td_ast.specs.declared.names.Name.{Name}
use Rattle.td_ast.specs.declared.names.Literal.{Literal}
use Rattle.td_ast.specs.declared.names.NumberTree.{NumberTree}
use Rattle.td_ast.specs.declared.names.ConstTree.{ConstTree}
use Rattle.td_ast.specs.Kinds.{is_kind}
use Rattle.td_grammar.specs.Limits.{PassesNever, PassesBoth, PassesAll, PassesEither}
use Rattle.td_grammar.specs.Grammar.{Grammar}
use Rattle.td_grammar.specs.Tokens.{terminal, name, literal, number_type, qualified, constant}
use Rattle.td_grammar.proofs.Exact.{IsExact}
use Rattle.td_grammar.proofs.Making.{making_exact}
use Rattle.td_grammar.proofs.Either.{or_exact}
use Rattle.td_grammar.proofs.Words.{terminal_exact, name_exact, literal_exact, number_type_exact}
use Rattle.td_grammar.proofs.Qualified.{qualified_exact}
use Rattle.td_print_layout.specs.Pieces.{Piece, Word}
use Rattle.td_print_layout.specs.Sequences.{name_piece, literal_piece, number_piece}
use Rattle.td_print_layout.specs.Names.{qualified_pieces, constant_pieces}
use Rattle.td_print_layout.specs.Unspanned.{unspanned_name, unspanned_literal, unspanned_number, unspanned_constant}
use Rattle.td_print_layout.proofs.Back.{Back}
use Rattle.td_print_layout.proofs.Words.{terminal_back, name_back, literal_back, number_back, qualified_back, constant_back}
use Rattle.td_print_layout.proofs.Clean.{Clean, Begun}
use Rattle.td_print_layout.proofs.Kept.{Kept}

-- no limit is looked at
pub record Never (P : List Token → Type 0) : Type 0 where
  pub never : (tokens : List Token) → P tokens → ⊥

pub never_one : Never PassesNever
never_one = record { never = λ tokens p. p }

pub never_both : {A : Type 0} {P Q : List Token → Type 0} (S : A → List Token → Type 0) → Never P → Never Q → Never (PassesBoth S P Q)
never_both {P = P} {Q = Q} S p q = record { never = by_side }
  where
    by_side : (tokens : List Token) → PassesBoth S P Q tokens → ⊥
    by_side tokens (inl s) = p.never tokens s
    by_side tokens (inr s) = q.never s.2 s.5

pub never_all : {A : Type 0} {P : List Token → Type 0} (S : A → List Token → Type 0) → Never P → Never (PassesAll S P)
never_all S p = record { never = λ tokens s. p.never s.2 s.5 }

pub never_either : {P Q : List Token → Type 0} → Never P → Never Q → Never (PassesEither P Q)
never_either {P = P} {Q = Q} p q = record { never = by_side }
  where
    by_side : (tokens : List Token) → PassesEither P Q tokens → ⊥
    by_side tokens (inl s) = p.never tokens s
    by_side tokens (inr s) = q.never tokens s

pub begun_of : {A : Type 0} (g : Grammar A) → IsExact g → (a : A) (tokens : List Token) → g.Spells a tokens → Begun g tokens
begun_of g G a [] s = G.full a s
begun_of g G a (t ∷ tokens) s = G.begun a t tokens s

pub plainly : {A : Type 0} {g : Grammar A} {u : List Piece} {H : A → Type 0} → IsExact g → Never g.Passes → Back g.Spells u H → Kept g u H
plainly {A} {g} G unpassed p = record { read = λ tokens e. let a = p.read tokens e in (a.0, clean a.0 tokens a.1, begun_of g G a.0 tokens a.1, a.2) }
  where
    clean : (a : A) (tokens : List Token) → g.Spells a tokens → Clean g a tokens
    clean a tokens s rest stops =
        elim (G.again a tokens rest s stops) [
          | inl got ↦ got
          | inr over ↦ let d = G.deep (tokens ++ rest) over.0 over.1 in absurd (unpassed.never (d.0 ++ d.1 ∷ []) d.5)
        ]

pub terminal_kept : (k : TokenKind) → is_kind k k ≡ true → Kept (terminal k) (Word k ∷ []) (λ s. Unit {0})
terminal_kept k is = plainly (terminal_exact k is) never_one (terminal_back k is)

pub name_kept : (n : Name) → Kept name (name_piece n ∷ []) (λ r. unspanned_name r ≡ unspanned_name n)
name_kept n = plainly name_exact never_one (name_back n)

pub literal_kept : (n : Literal) → Kept literal (literal_piece n ∷ []) (λ r. unspanned_literal r ≡ unspanned_literal n)
literal_kept n = plainly literal_exact never_one (literal_back n)

pub number_kept : (n : NumberTree) → Kept number_type (number_piece n ∷ []) (λ r. unspanned_number r ≡ unspanned_number n)
number_kept n = plainly number_type_exact never_one (number_back n)

pub never_qualified : Never qualified.Passes
never_qualified = never_both _ never_one (never_both _ never_one never_one)

pub qualified_kept : (text : List ℕ) → Kept qualified (qualified_pieces text) (λ r. r.text ≡ text)
qualified_kept text = plainly qualified_exact never_qualified (qualified_back text)

pub constant_exact : IsExact constant
constant_exact = or_exact _ _ (making_exact _ _ literal_exact) (making_exact _ _ qualified_exact) refl refl refl

pub constant_kept : (c : ConstTree) → Kept constant (constant_pieces c) (λ r. unspanned_constant r ≡ unspanned_constant c)
constant_kept c = plainly constant_exact (never_either never_one never_qualified) (constant_back c)
