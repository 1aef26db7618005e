-- The pieces of an expression glue to nothing.
use Rattle.std.proofs.Common.{◌≡◌, ℕ, Bool, true, false, List, [], ◌∷◌, ◌++◌, nat_le, refl, append_assoc}
use Rattle.std.specs.Prelude.{flat_map}
use Rattle.td_ast.specs.declared.token.TokenKind.{TokenKind}
use Rattle.td_ast.specs.declared.token.TokenKind.TheVariants as kinds
use Rattle.td_ast.specs.declared.expressions.UnaryOperator.{UnaryOperator}
use Rattle.td_ast.specs.declared.expressions.UnaryOperator.TheVariants.{Not, Complement}
use Rattle.td_ast.specs.declared.expressions.SizeofOperand.{SizeofOperand}
use Rattle.td_ast.specs.declared.expressions.SizeofOperand.TheVariants as operands
use Rattle.td_ast.specs.Trees.{Tree, Number, Truth, Name, FieldPos, Sizeof, RangeOkay, Unary, Binary, Choice}
use Rattle.td_print_layout.specs.Pieces.{Piece, Word, Blank}
use Rattle.td_print_layout.specs.Joining.{glues_to}
use Rattle.td_print_layout.specs.Operators.{unary_kind, binary_kind, left_of, right_of}
use Rattle.td_print_layout.specs.Sequences.{comma, parted_by, in_parentheses}
use Rattle.td_print_layout.specs.Expressions.{tree_level, in_group, expression_pieces, operand_pieces}
use Rattle.td_print_layout.proofs.Loose.{IsLoose, Closes, Opens, before_blank, before_sign, qualified_loose, qualified_then, each_closes}

-- ---- what an expression begins with

abbrev Begun : TokenKind → Tree → Type 0
Begun kind tree = (after : List Piece) → glues_to kind (expression_pieces tree ++ after) ≡ false

group_begun : (kind : TokenKind) → Opens kind → (bare : Bool) (tree : Tree) → Begun kind tree → (after : List Piece) → glues_to kind (in_group bare (expression_pieces tree) ++ after) ≡ false
group_begun kind opens true tree begun after = begun after
group_begun kind opens false tree begun after = opens.group

pub expression_begun : (kind : TokenKind) → Opens kind → (tree : Tree) → Begun kind tree
expression_begun kind opens (Number s n b) after = opens.word
expression_begun kind opens (Truth s true) after = opens.word
expression_begun kind opens (Truth s false) after = opens.word
expression_begun kind opens (Name s n) after = opens.word
expression_begun kind opens (FieldPos s p) after = opens.word
expression_begun kind opens (Sizeof s w o p) after = opens.word
expression_begun kind opens (RangeOkay s a b c) after = opens.word
expression_begun kind opens (Unary s Not p a) after = opens.bang
expression_begun kind opens (Unary s Complement p a) after = opens.tilde
expression_begun kind opens (Binary s o p a b) after =
    let more : List Piece = Blank ∷ Word (binary_kind o) ∷ Blank ∷ in_group (nat_le (tree_level b) (right_of o)) (expression_pieces b) in
    rw (append_assoc (in_group (nat_le (tree_level a) (left_of o)) (expression_pieces a)) more after)
    (group_begun kind opens (nat_le (tree_level a) (left_of o)) a (expression_begun kind opens a) (more ++ after))
expression_begun kind opens (Choice s p a b c) after =
    let more : List Piece = Blank ∷ Word kinds.Question ∷ Blank ∷ (expression_pieces b ++ Blank ∷ Word kinds.Colon ∷ Blank ∷ expression_pieces c) in
    rw (append_assoc (in_group (nat_le (tree_level a) 11) (expression_pieces a)) more after)
    (group_begun kind opens (nat_le (tree_level a) 11) a (expression_begun kind opens a) (more ++ after))

-- ---- tokens before an expression

pub paren_opens : Opens kinds.OpenParen
paren_opens = record { word = refl; group = refl; bang = refl; tilde = refl }

pub bracket_opens : Opens kinds.OpenBracket
bracket_opens = record { word = refl; group = refl; bang = refl; tilde = refl }

bang_opens : Opens kinds.Bang
bang_opens = record { word = refl; group = refl; bang = refl; tilde = refl }

tilde_opens : Opens kinds.Tilde
tilde_opens = record { word = refl; group = refl; bang = refl; tilde = refl }

-- ---- the whole

abbrev pub Loose : Tree → Type 0
Loose tree = (after : List Piece) → Closes after → IsLoose (expression_pieces tree ++ after)

pub before_paren : (after : List Piece) → Closes after → Closes (Word kinds.CloseParen ∷ after)
before_paren after closes = before_sign kinds.CloseParen after refl refl refl refl refl refl (closes.group, closes.loose)

group_loose : (bare : Bool) (tree : Tree) → Loose tree → (after : List Piece) → Closes after → IsLoose (in_group bare (expression_pieces tree) ++ after)
group_loose true tree loose after closes = loose after closes
group_loose false tree loose after closes =
    rw (append_assoc (expression_pieces tree) (Word kinds.CloseParen ∷ []) after)
    (expression_begun kinds.OpenParen paren_opens tree (Word kinds.CloseParen ∷ after), loose (Word kinds.CloseParen ∷ after) (before_paren after closes))

unary_loose : (o : UnaryOperator) (bare : Bool) (tree : Tree) → Loose tree → (after : List Piece) → Closes after → IsLoose (Word (unary_kind o) ∷ (in_group bare (expression_pieces tree) ++ after))
unary_loose Not bare tree loose after closes = (group_begun kinds.Bang bang_opens bare tree (expression_begun kinds.Bang bang_opens tree) after, group_loose bare tree loose after closes)
unary_loose Complement bare tree loose after closes = (group_begun kinds.Tilde tilde_opens bare tree (expression_begun kinds.Tilde tilde_opens tree) after, group_loose bare tree loose after closes)

sizeof_loose : (o : SizeofOperand) (after : List Piece) → Closes after → IsLoose (Word kinds.Sizeof ∷ Word kinds.OpenParen ∷ ((operand_pieces o ++ Word kinds.CloseParen ∷ []) ++ after))
sizeof_loose (operands.Number type) after closes = (refl, (refl, (refl, (closes.group, closes.loose))))
sizeof_loose (operands.Name text) after closes = (refl, (refl, qualified_then text (Word kinds.CloseParen ∷ []) after (before_paren after closes)))
sizeof_loose operands.This after closes = (refl, (refl, (refl, (closes.group, closes.loose))))

-- after `(`: an expression, and what closes it
pub inner_loose : (tree : Tree) → Loose tree → (after : List Piece) → Closes after → IsLoose (Word kinds.OpenParen ∷ (expression_pieces tree ++ after))
inner_loose tree loose after closes = (expression_begun kinds.OpenParen paren_opens tree after, loose after closes)

pub before_comma : (after : List Piece) → IsLoose after → Closes (Word kinds.Comma ∷ Blank ∷ after)
before_comma after loose = before_sign kinds.Comma (Blank ∷ after) refl refl refl refl refl refl (refl, loose)

pub expression_loose : (tree : Tree) → Loose tree
expression_loose (Number s n b) after closes = (closes.words (kinds.Number n b) refl, closes.loose)
expression_loose (Truth s true) after closes = (closes.words kinds.True refl, closes.loose)
expression_loose (Truth s false) after closes = (closes.words kinds.False refl, closes.loose)
expression_loose (Name s n) after closes = qualified_loose n.text after closes
expression_loose (FieldPos s p) after closes = (closes.words kinds.FieldPos refl, closes.loose)
expression_loose (Sizeof s w o p) after closes = sizeof_loose o after closes
expression_loose (RangeOkay s a b c) after closes =
    let last = Word kinds.CloseParen ∷ after in
    let third = expression_pieces c ++ last in
    let second = expression_pieces b ++ Word kinds.Comma ∷ Blank ∷ third in
    let third_loose = expression_loose c last (before_paren after closes) in
    let second_loose = expression_loose b (Word kinds.Comma ∷ Blank ∷ third) (before_comma third third_loose) in
    let first_loose = inner_loose a (expression_loose a) (Word kinds.Comma ∷ Blank ∷ second) (before_comma second second_loose) in
    simp append_assoc (refl, first_loose)
expression_loose (Unary s o p a) after closes = unary_loose o (nat_le (tree_level a) 1) a (expression_loose a) after closes
expression_loose (Binary s o p a b) after closes =
    let right = in_group (nat_le (tree_level b) (right_of o)) (expression_pieces b) in
    let right_loose = group_loose (nat_le (tree_level b) (right_of o)) b (expression_loose b) after closes in
    rw (append_assoc (in_group (nat_le (tree_level a) (left_of o)) (expression_pieces a)) (Blank ∷ Word (binary_kind o) ∷ Blank ∷ right) after)
    (group_loose (nat_le (tree_level a) (left_of o)) a (expression_loose a) (Blank ∷ Word (binary_kind o) ∷ Blank ∷ (right ++ after)) (before_blank (Word (binary_kind o) ∷ Blank ∷ (right ++ after)) (refl, right_loose)))
expression_loose (Choice s p a b c) after closes =
    let third_loose = expression_loose c after closes in
    let second = Blank ∷ Word kinds.Colon ∷ Blank ∷ (expression_pieces c ++ after) in
    let second_loose = expression_loose b second (before_blank (Word kinds.Colon ∷ Blank ∷ (expression_pieces c ++ after)) (refl, third_loose)) in
    let first = Blank ∷ Word kinds.Question ∷ Blank ∷ (expression_pieces b ++ second) in
    let first_loose = group_loose (nat_le (tree_level a) 11) a (expression_loose a) first (before_blank (Word kinds.Question ∷ Blank ∷ (expression_pieces b ++ second)) (refl, second_loose)) in
    simp append_assoc first_loose

-- ---- in parentheses

-- a list in parentheses, or nothing
pub parentheses_close : {A : Type 0} (f : A → List Piece) → ((x : A) (after : List Piece) → glues_to kinds.OpenParen (f x ++ after) ≡ false) → ((x : A) (after : List Piece) → Closes after → IsLoose (f x ++ after))
    → (xs : List A) (after : List Piece) → Closes after → Closes (in_parentheses f xs ++ after)
parentheses_close f begun loose [] after closes = closes
parentheses_close {A} f begun loose (x ∷ xs) after closes =
    let last = Word kinds.CloseParen ∷ after in
    let g : A → List Piece = λ y. comma ++ f y in
    let others : List Piece = flat_map g xs ++ last in
    let others_close : Closes others = each_closes g (λ y more c. before_comma (f y ++ more) (loose y more c)) xs last (before_paren after closes) in
    let first : IsLoose (Word kinds.OpenParen ∷ (f x ++ others)) = (begun x others, loose x others others_close) in
    let all : IsLoose (Word kinds.OpenParen ∷ ((parted_by comma f (x ∷ xs) ++ Word kinds.CloseParen ∷ []) ++ after)) = rw (append_assoc (f x ++ flat_map g xs) (Word kinds.CloseParen ∷ []) after, append_assoc (f x) (flat_map g xs) last) first in
    before_sign kinds.OpenParen ((parted_by comma f (x ∷ xs) ++ Word kinds.CloseParen ∷ []) ++ after) refl refl refl refl refl refl all
