-- Enums read back.
use Rattle.std.proofs.Common.{◌≡◌, List, [], ◌∷◌, ◌++◌, map, refl, sym, ap, subst, ◌∙◌, inl}
use Rattle.std.proofs.lemmas.List.{append-nil}
use Rattle.td_ast.specs.declared.token.Token.{Token}
use Rattle.td_ast.specs.declared.token.TokenKind.TheVariants as kinds
use Rattle.td_ast.specs.declared.names.ConstTree.{ConstTree}
use Rattle.td_ast.specs.declared.definitions.DefineTree.{DefineTree}
use Rattle.td_ast.specs.declared.definitions.ItemTree.{ItemTree}
use Rattle.td_ast.specs.declared.definitions.EnumTree.{EnumTree}
use Rattle.td_ast.specs.declared.definitions.AliasTree.{AliasTree}
use Rattle.td_ast.specs.declared.definitions.Def.TheVariants as defs
use Rattle.td_grammar.specs.Sets.{only}
use Rattle.td_grammar.specs.Grammar.{◌then◌, ◌making◌}
use Rattle.td_grammar.specs.Tokens.{terminal, constant}
use Rattle.td_grammar.specs.Listed.{SpellsList}
use Rattle.td_grammar.specs.Definitions.{item, define, enumeration, alias_rest}
use Rattle.td_print_layout.specs.Pieces.{Word, Blank, LineEnd, kinds_of}
use Rattle.td_print_layout.specs.Sequences.{name_piece}
use Rattle.td_print_layout.specs.Names.{plain_pieces}
use Rattle.td_print_layout.specs.Definitions.{define_pieces, value_pieces, item_pieces, item_lines, enum_pieces}
use Rattle.td_print_layout.specs.Unspanned.{unspanned_constant, unspanned_item, unspanned_number, unspanned_name, unspanned_definition}
use Rattle.td_print_layout.proofs.Tokens.{kinds_append, split_kinds, first_kind}
use Rattle.td_print_layout.proofs.Back.{Back, blank, line, deep, ended, both, made, none, maybe_back}
use Rattle.td_print_layout.proofs.Words.{terminal_back, name_back, literal_back, number_back, constant_back, plain_back}
use Rattle.td_print_layout.proofs.Sequences.{IsFilled}

-- ---- items

value_back : (c : ConstTree) → Back ((terminal kinds.Assign then constant) making λ (assign, value). value).Spells (value_pieces c) (λ r. unspanned_constant r ≡ unspanned_constant c)
value_back c = made (both (blank (terminal_back kinds.Assign refl)) (blank (constant_back c))) (λ x g. g.1)

item_back : (i : ItemTree) → Back item.Spells (item_pieces i) (λ r. unspanned_item r ≡ unspanned_item i)
unfolding item
item_back i =
    made (both (name_back i.name) (maybe_back ((terminal kinds.Assign then constant) making λ (assign, value). value).Spells value_pieces unspanned_constant value_back i.value))
    (λ x g. cc (g.0, g.1))

-- an item before others
with_item : (i : ItemTree) (zs : List ItemTree) (front back : List Token) (t : Token) → item.Spells i front → t.kind ≡ kinds.Comma → SpellsList (only kinds.Comma) item.Spells zs back
    → SpellsList (only kinds.Comma) item.Spells (i ∷ zs) (front ++ t ∷ back)
with_item i [] front back t p e q = absurd q
with_item i (z ∷ zs) front back t p e q = (front, t, back, refl, p, rw e refl, q)

abbrev SameItems : List ItemTree → List ItemTree → Type 0
SameItems xs read = map unspanned_item read ≡ map unspanned_item xs

last_back : (x : ItemTree) → Back item.Spells (item_lines (x ∷ [])) (λ r. unspanned_item r ≡ unspanned_item x)
last_back x = deep 1 (ended (item_back x))

items_back : (x : ItemTree) (xs : List ItemTree) → Back (SpellsList (only kinds.Comma) item.Spells) (item_lines (x ∷ xs)) (SameItems (x ∷ xs))
items_back x [] = record {
  read = λ tokens e.
      let a = (last_back x).read tokens e in
      (a.0 ∷ [], (tokens, [], sym (append-nil tokens), a.1, inl refl), cc (a.2));
}
items_back x (y ∷ ys) = record {
  read = λ tokens e.
      let rest = Word kinds.Comma ∷ LineEnd ∷ item_lines (y ∷ ys) in
      let s = split_kinds tokens (kinds_of (item_pieces x)) (kinds_of rest) (e ∙ kinds_append (item_pieces x) rest) in
      let a = (item_back x).read s.0 s.3 in
      let t = first_kind s.1 kinds.Comma (kinds_of (item_lines (y ∷ ys))) s.4 in
      let b = (items_back y ys).read t.1 t.4 in
      let all : tokens ≡ s.0 ++ t.0 ∷ t.1 = s.2 ∙ ap (λ (l : List Token). s.0 ++ l) t.2 in
      (a.0 ∷ b.0, subst (λ (l : List Token). SpellsList (only kinds.Comma) item.Spells (a.0 ∷ b.0) l) (sym all) (with_item a.0 b.0 s.0 t.1 t.0 a.1 t.3 b.1), cc (a.2, b.2));
}

filled_items : (xs : List ItemTree) → IsFilled xs → Back (SpellsList (only kinds.Comma) item.Spells) (item_lines xs) (SameItems xs)
filled_items [] f = absurd f
filled_items (x ∷ xs) f = items_back x xs

-- ---- definitions of one line and enums

pub define_back : (d : DefineTree) → Back define.Spells (define_pieces d) (λ r. unspanned_definition r ≡ unspanned_definition (defs.Define d))
unfolding define
define_back d = made (both (terminal_back kinds.Define refl) (both (blank (name_back d.name)) (blank (ended (literal_back d.value))))) (λ x g. cc (g.1.0, g.1.1))

pub enum_back : (d : EnumTree) → IsFilled d.items → Back enumeration.Spells (enum_pieces d) (λ r. unspanned_definition r ≡ unspanned_definition (defs.Enum d))
unfolding enumeration
enum_back d f =
    made (both (made {H = λ x. (unspanned_number x.0 ≡ unspanned_number d.base) × (unspanned_name x.1 ≡ unspanned_name d.name)}
    (both (number_back d.base) (both (blank (terminal_back kinds.Enum refl)) (both (blank (name_back d.name)) (blank (terminal_back kinds.OpenBrace refl)))))
    (λ x g. (g.0, g.1.1.0)))
    (both (line (filled_items d.items f)) (both (terminal_back kinds.CloseBrace refl) (line none))))
    (λ x g. cc (g.0.0, g.0.1, g.1.0))

-- after "typedef"
pub alias_back : (d : AliasTree) → Back alias_rest.Spells (Blank ∷ (plain_pieces d.target ++ Blank ∷ name_piece d.name ∷ Word kinds.Semicolon ∷ LineEnd ∷ [])) (λ r. unspanned_definition r ≡ unspanned_definition (defs.Alias d))
unfolding alias_rest
alias_back d = made (both (blank (plain_back d.target)) (both (blank (name_back d.name)) (ended (terminal_back kinds.Semicolon refl)))) (λ x g. cc (g.0, g.1.0))
