-- Productions of one token are exact. Cited by other crates.
use Rattle.std.proofs.Common.{◌≡◌, ℕ, Bool, true, false, cond, List, [], ◌∷◌, Option, Some, None, refl, sym}
use Rattle.std.proofs.lemmas.Bool.{eqb-true}
use Rattle.td_num.specs.declared.number.Width.TheVariants as widths
use Rattle.td_num.specs.declared.number.ByteOrder.TheVariants as orders
use Rattle.td_ast.specs.declared.token.Token.{Token}
use Rattle.td_ast.specs.declared.token.Span.{Span}
use Rattle.td_ast.specs.declared.token.TokenKind.{TokenKind}
use Rattle.td_ast.specs.declared.token.TokenKind.TheVariants as kinds
use Rattle.td_ast.specs.declared.token.Base.TheVariants as bases
use Rattle.td_ast.specs.Kinds.{is_kind, number_of_kind}
use Rattle.td_grammar.specs.Sets.{member, any_name, any_number, any_number_type, only}
use Rattle.td_grammar.specs.Grammar.{Grammar, ◌then◌}
use Rattle.td_grammar.specs.Tokens.{terminal, name, name_of, literal, literal_of, number_type, number_type_of, word, beside}
use Rattle.td_grammar.proofs.Tools.{member_first}
use Rattle.td_grammar.proofs.Exact.{IsExact, IsApart}
use Rattle.td_grammar.proofs.One.{one_exact}
use Rattle.td_grammar.proofs.Then.{then_exact}

pub nowhere : Span
nowhere = record { from = 0; to = 0 }

pub terminal_known : (k : TokenKind) (t : Token) (s : Span) → cond (is_kind t.kind k) (Some t.span) None ≡ Some s → member (number_of_kind k ∷ []) (number_of_kind t.kind) ≡ true
terminal_known k t s e = by_test (is_kind t.kind k) refl e
  where
    by_test : (b : Bool) → is_kind t.kind k ≡ b → cond b (Some t.span) None ≡ Some s → member (number_of_kind k ∷ []) (number_of_kind t.kind) ≡ true
    by_test true p e = let same : number_of_kind t.kind ≡ number_of_kind k = eqb-true (number_of_kind t.kind) (number_of_kind k) p in member_first (number_of_kind k) (number_of_kind t.kind) [] (sym same)
    by_test false p e = absurd cc

pub terminal_exact : (k : TokenKind) → is_kind k k ≡ true → IsExact (terminal k)
terminal_exact k e = one_exact (number_of_kind k ∷ []) (λ t. cond (is_kind t.kind k) (Some t.span) None) nowhere (record { kind = k; span = nowhere }) (rw e refl) (terminal_known k)

name_known : (k : TokenKind) (s : Span) (a : _) → name_of k s ≡ Some a → member (only any_name) (number_of_kind k) ≡ true
name_known (kinds.Name text) s a e = refl
name_known _ s a e = absurd cc

pub name_exact : IsExact name
name_exact = one_exact (only any_name) (λ t. name_of t.kind t.span) _ (record { kind = kinds.Name []; span = nowhere }) refl (λ t a e. name_known t.kind t.span a e)

literal_known : (k : TokenKind) (s : Span) (a : _) → literal_of k s ≡ Some a → member (only any_number) (number_of_kind k) ≡ true
literal_known (kinds.Number n b) s a e = refl
literal_known _ s a e = absurd cc

pub literal_exact : IsExact literal
literal_exact = one_exact (only any_number) (λ t. literal_of t.kind t.span) _ (record { kind = kinds.Number 0 bases.Decimal; span = nowhere }) refl (λ t a e. literal_known t.kind t.span a e)

pub number_type_known : (k : TokenKind) (s : Span) (a : _) → number_type_of k s ≡ Some a → member (only any_number_type) (number_of_kind k) ≡ true
number_type_known (kinds.Int i) s a e = refl
number_type_known _ s a e = absurd cc

pub number_type_exact : IsExact number_type
number_type_exact = one_exact (only any_number_type) (λ t. number_type_of t.kind t.span) _ (record { kind = kinds.Int (record { width = widths.One; order = orders.LittleEndian }); span = nowhere }) refl (λ t a e. number_type_known t.kind t.span a e)

pub word_exact : {A : Type 0} (set : List ℕ) (meaning : TokenKind → Option A) (k : TokenKind) (a : A) → meaning k ≡ Some a → ((k : TokenKind) (a : A) → meaning k ≡ Some a → member set (number_of_kind k) ≡ true) → IsExact (word set meaning)
word_exact {A} set meaning k a witness known = one_exact set (λ t. beside (meaning t.kind) t.span) (a, nowhere) (record { kind = k; span = nowhere }) (rw witness refl) (λ t x e. by_meaning t x (meaning t.kind) refl e)
  where
    by_meaning : (t : Token) (x : A × Span) (o : Option A) → meaning t.kind ≡ o → beside o t.span ≡ Some x → member set (number_of_kind t.kind) ≡ true
    by_meaning t x None f e = absurd cc
    by_meaning t x (Some b) f e = known t.kind b f

pub sequel : {A B : Type 0} {g : Grammar A} {h : Grammar B} → IsExact g → IsExact h → IsApart g h → IsExact (g then h)
sequel {A} {B} {g} {h} G H apart = then_exact g h G H apart
