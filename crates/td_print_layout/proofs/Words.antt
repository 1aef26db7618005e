-- Productions of one token and names read back.
use Rattle.std.proofs.Common.{◌≡◌, true, ℕ, List, [], ◌∷◌, Option, Some, None, refl, ap, ◌∙◌}
use Rattle.std.specs.Prelude.{option_map}
use Rattle.td_ast.specs.declared.token.Token.{Token}
use Rattle.td_ast.specs.declared.token.TokenKind.{TokenKind}
use Rattle.td_ast.specs.declared.token.TokenKind.TheVariants as kinds
use Rattle.td_ast.specs.declared.names.Name.{Name}
use Rattle.td_ast.specs.declared.names.Literal.{Literal}
use Rattle.td_ast.specs.declared.names.NumberTree.{NumberTree}
use Rattle.td_ast.specs.declared.names.ConstTree.{ConstTree}
use Rattle.td_ast.specs.declared.names.ConstTree.TheVariants as constants
use Rattle.td_ast.specs.declared.names.PlainTree.{PlainTree}
use Rattle.td_ast.specs.declared.names.PlainTree.TheVariants as plains
use Rattle.td_ast.specs.Kinds.{is_kind}
use Rattle.td_grammar.specs.Grammar.{maybe}
use Rattle.td_grammar.specs.Tokens.{terminal, name, literal, number_type, word, qualified_by, dotted, qualified, constant, plain}
use Rattle.td_print_layout.specs.Pieces.{Word}
use Rattle.td_print_layout.specs.Sequences.{name_piece, literal_piece, number_piece, optional}
use Rattle.td_print_layout.specs.Names.{before_dot, after_dot, dotted_pieces, qualified_pieces, constant_pieces, plain_pieces}
use Rattle.td_print_layout.specs.Unspanned.{nowhere, unspanned_name, unspanned_literal, unspanned_number, unspanned_constant, unspanned_plain}
use Rattle.td_print_layout.proofs.Tokens.{one_token}
use Rattle.td_print_layout.proofs.Dots.{joined, joined_again}
use Rattle.td_print_layout.proofs.Back.{Back, good, both, made, left, right, none, some}

terminal_spelled : (k : TokenKind) → is_kind k k ≡ true → (tokens : List Token) (t : Token) → tokens ≡ t ∷ [] → t.kind ≡ k → (terminal k).Spells t.span tokens
terminal_spelled k is tokens t e f = (t, e, rw (f, is) refl)

pub terminal_back : (k : TokenKind) → is_kind k k ≡ true → Back (terminal k).Spells (Word k ∷ []) (λ s. Unit {0})
terminal_back k is = record { read = λ tokens e. let p = one_token tokens k e in (p.0.span, terminal_spelled k is tokens p.0 p.1 p.2, tt) }

name_spelled : (text : List _) (tokens : List Token) (t : Token) → tokens ≡ t ∷ [] → t.kind ≡ kinds.Name text → name.Spells (record { text = text; span = t.span }) tokens
name_spelled text tokens t e f = (t, e, rw f refl)

pub name_back : (n : Name) → Back name.Spells (name_piece n ∷ []) (λ r. unspanned_name r ≡ unspanned_name n)
name_back n = record { read = λ tokens e. let p = one_token tokens (kinds.Name n.text) e in (record { text = n.text; span = p.0.span }, name_spelled n.text tokens p.0 p.1 p.2, refl) }

literal_spelled : (n : Literal) (tokens : List Token) (t : Token) → tokens ≡ t ∷ [] → t.kind ≡ kinds.Number n.value n.base → literal.Spells (record { value = n.value; base = n.base; span = t.span }) tokens
literal_spelled n tokens t e f = (t, e, rw f refl)

pub literal_back : (n : Literal) → Back literal.Spells (literal_piece n ∷ []) (λ r. unspanned_literal r ≡ unspanned_literal n)
literal_back n = record { read = λ tokens e. let p = one_token tokens (kinds.Number n.value n.base) e in (record { value = n.value; base = n.base; span = p.0.span }, literal_spelled n tokens p.0 p.1 p.2, refl) }

number_spelled : (n : NumberTree) (tokens : List Token) (t : Token) → tokens ≡ t ∷ [] → t.kind ≡ kinds.Int n.number → number_type.Spells (record { number = n.number; span = t.span }) tokens
number_spelled n tokens t e f = (t, e, rw f refl)

pub number_back : (n : NumberTree) → Back number_type.Spells (number_piece n ∷ []) (λ r. unspanned_number r ≡ unspanned_number n)
number_back n = record { read = λ tokens e. let p = one_token tokens (kinds.Int n.number) e in (record { number = n.number; span = p.0.span }, number_spelled n tokens p.0 p.1 p.2, refl) }

word_spelled : {A : Type 0} (set : List _) (meaning : TokenKind → Option A) (k : TokenKind) (a : A) → meaning k ≡ Some a → (tokens : List Token) (t : Token) → tokens ≡ t ∷ [] → t.kind ≡ k → (word set meaning).Spells (a, t.span) tokens
word_spelled set meaning k a is tokens t e f = (t, e, rw (f, is) refl)

-- a token that stands for something
pub word_back : {A : Type 0} (set : List _) (meaning : TokenKind → Option A) (k : TokenKind) (a : A) → meaning k ≡ Some a → Back (word set meaning).Spells (Word k ∷ []) (λ x. x.0 ≡ a)
word_back set meaning k a is = record { read = λ tokens e. let p = one_token tokens k e in ((a, p.0.span), word_spelled set meaning k a is tokens p.0 p.1 p.2, refl) }

-- ---- names that may be qualified

abbrev named : List ℕ → Name
named text = record { text = text; span = nowhere }

abbrev texts : Option Name → Option (List ℕ)
texts o = option_map (λ (n : Name). n.text) o

dotted_back : (o : Option (List ℕ)) → Back (maybe dotted).Spells (optional dotted_pieces o) (λ r. texts r ≡ o)
dotted_back None = good none (λ r e. ap texts e)
dotted_back (Some text) =
    some (made {H = λ (n : Name). n.text ≡ text} (both (terminal_back kinds.Dot refl) (name_back (named text))) (λ x g. ap (λ (n : Name). n.text) g.1))
    (λ r e. ap (λ (t : List ℕ). Some t) e)

qualified_text : (first : Name) (o : Option Name) → (qualified_by first o).text ≡ joined first.text (texts o)
qualified_text first None = refl
qualified_text first (Some second) = refl

both_texts : (text : List ℕ) (first : Name) (o : Option Name) → first.text ≡ before_dot text → texts o ≡ after_dot text → (qualified_by first o).text ≡ text
both_texts text first o e f = qualified_text first o ∙ rw (e, f) (joined_again text)

pub qualified_back : (text : List ℕ) → Back qualified.Spells (qualified_pieces text) (λ r. r.text ≡ text)
qualified_back text =
    made (both (name_back (named (before_dot text))) (dotted_back (after_dot text))) (λ x g. both_texts text x.0 x.1 (ap (λ (n : Name). n.text) g.0) g.1)

pub named_back : (n : Name) → Back qualified.Spells (qualified_pieces n.text) (λ r. unspanned_name r ≡ unspanned_name n)
named_back n = good (qualified_back n.text) (λ r e. ap named e)

pub constant_back : (c : ConstTree) → Back constant.Spells (constant_pieces c) (λ r. unspanned_constant r ≡ unspanned_constant c)
constant_back (constants.Number n) = left (made (literal_back n) (λ r e. ap (λ (x : Literal). constants.Number x) e))
constant_back (constants.Named n) = right (made (named_back n) (λ r e. ap (λ (x : Name). constants.Named x) e))

pub plain_back : (c : PlainTree) → Back plain.Spells (plain_pieces c) (λ r. unspanned_plain r ≡ unspanned_plain c)
plain_back (plains.Number n) = left (made (number_back n) (λ r e. ap (λ (x : NumberTree). plains.Number x) e))
plain_back (plains.Named n) = right (made (named_back n) (λ r e. ap (λ (x : Name). plains.Named x) e))
