-- Places of parameters: those of bytes and the others are told apart by the first token.
use Rattle.std.proofs.Common.{◌≡◌, Bool, true, false, cond, List, [], ◌∷◌, ◌++◌, Some, None, refl, inl, inr}
use Rattle.td_num.specs.declared.number.Width.TheVariants as widths
use Rattle.td_num.specs.declared.number.ByteOrder.TheVariants as orders
use Rattle.td_ast.specs.declared.token.Token.{Token}
use Rattle.td_ast.specs.declared.token.Span.{Span}
use Rattle.td_ast.specs.declared.token.TokenKind.{TokenKind}
use Rattle.td_ast.specs.declared.token.TokenKind.TheVariants as kinds
use Rattle.td_ast.specs.declared.names.NumberTree.{NumberTree}
use Rattle.td_ast.specs.Kinds.{number_of_kind}
use Rattle.td_ast.specs.declared.parameters.TargetTree.{TargetTree}
use Rattle.td_ast.specs.declared.parameters.TargetTree.TheVariants as targets
use Rattle.td_grammar.specs.Sets.{member, set_of, only, any_name, any_number_type}
use Rattle.td_grammar.specs.Grammar.{Grammar, ◌making◌, ◌or◌}
use Rattle.td_grammar.specs.Tokens.{terminal, qualified, number_type_of}
use Rattle.td_grammar.specs.Parameters.{is_byte, byte_of, wider_of, byte, wider, target, bytes, cell}
use Rattle.td_grammar.proofs.Exact.{IsExact}
use Rattle.td_grammar.proofs.One.{one_exact}
use Rattle.td_grammar.proofs.Making.{making_exact}
use Rattle.td_grammar.proofs.Either.{or_exact}
use Rattle.td_grammar.proofs.Words.{nowhere, terminal_exact, number_type_known}
use Rattle.td_grammar.proofs.Qualified.{qualified_exact}
use Rattle.td_grammar.proofs.Unambiguous.{one_one}
use Rattle.td_grammar.proofs.Proper.{IsProper}
use Rattle.td_grammar.proofs.Tested.{IsTested}

-- ---- "UINT8", and the other number types

pub byte_number : (k : TokenKind) (s : Span) (a : NumberTree) → byte_of k s ≡ Some a → (is_byte k ≡ true) × (number_type_of k s ≡ Some a)
byte_number k s a e = by_test (is_byte k) e
  where
    by_test : (b : Bool) → cond b (number_type_of k s) None ≡ Some a → (b ≡ true) × (number_type_of k s ≡ Some a)
    by_test true e = (refl, e)
    by_test false e = absurd cc

pub wider_number : (k : TokenKind) (s : Span) (a : NumberTree) → wider_of k s ≡ Some a → (is_byte k ≡ false) × (number_type_of k s ≡ Some a)
wider_number k s a e = by_test (is_byte k) e
  where
    by_test : (b : Bool) → cond b None (number_type_of k s) ≡ Some a → (b ≡ false) × (number_type_of k s ≡ Some a)
    by_test true e = absurd cc
    by_test false e = (refl, e)

byte_exact : IsExact byte
byte_exact = one_exact (only any_number_type) (λ t. byte_of t.kind t.span) _ (record { kind = any_number_type; span = nowhere }) refl (λ t a e. number_type_known t.kind t.span a (byte_number t.kind t.span a e).1)

pub byte_proper : IsProper byte
byte_proper = record { exact = byte_exact; one = one_one (only any_number_type) (λ t. byte_of t.kind t.span) byte_exact }

wider_exact : IsExact wider
wider_exact = one_exact (only any_number_type) (λ t. wider_of t.kind t.span) _ (record { kind = kinds.Int (record { width = widths.Two; order = orders.LittleEndian }); span = nowhere }) refl (λ t a e. number_type_known t.kind t.span a (wider_number t.kind t.span a e).1)

pub wider_proper : IsProper wider
wider_proper = record { exact = wider_exact; one = one_one (only any_number_type) (λ t. wider_of t.kind t.span) wider_exact }

-- ---- which of both begins with a token

pub bytes_tested : IsTested (λ t. is_byte t.kind) true bytes
bytes_tested a t more (x, made, (front, back, same, (s, single, value), after)) =
    let first : t ≡ s = cc (same, single) in
    rw first (byte_number s.kind s.span x.0 value).0

abbrev others : Grammar TargetTree
others = (terminal kinds.Pointer making targets.Pointer) or (qualified making targets.Named)

others_exact : IsExact others
others_exact = or_exact _ _ (making_exact _ _ (terminal_exact kinds.Pointer refl)) (making_exact _ _ qualified_exact) refl refl refl

not_byte : (k : TokenKind) → member (set_of (kinds.Pointer ∷ any_name ∷ [])) (number_of_kind k) ≡ true → is_byte k ≡ false
not_byte (kinds.Int n) e = absurd cc
not_byte _ e = refl

pub cell_tested : IsTested (λ t. is_byte t.kind) false cell
cell_tested a t more (x, made, (front, back, same, s, after)) = by_front front same s
  where
    by_front : (front : List Token) → t ∷ more ≡ front ++ back → target.Spells x.0 front → is_byte t.kind ≡ false
    by_front [] same (inl (n, e, (s, single, value))) = absurd (cc single)
    by_front [] same (inr s) = absurd (cc (others_exact.full x.0 s))
    by_front (f ∷ fs) same (inl (n, e, (s, single, value))) =
        let first : t ≡ s = cc (same, single) in
        rw first (wider_number s.kind s.span n value).0
    by_front (f ∷ fs) same (inr s) =
        let first : t ≡ f = cc in
        rw first (not_byte f.kind (others_exact.begun x.0 f fs s))
