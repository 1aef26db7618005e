-- Texts of pieces one after the other.
use Rattle.std.proofs.Common.{◌≡◌, ℕ, zero, suc, ◌+◌, ◌<◌, ◌≤◌, List, [], ◌∷◌, ◌++◌, length, take, drop, get_or, flat_map, refl, sym, ap, ◌∙◌, append_assoc, arith}
use Rattle.std.proofs.lemmas.List.{append-nil}
use Rattle.td_print_layout.specs.Pieces.{Piece, Word, Blank, LineEnd, spelling, text_of}
use Rattle.td_ast.specs.Statements.{Statement, block_of}
use Rattle.td_print_layout.specs.Actions.{statement_pieces, block_pieces}
use Rattle.td_ast.specs.declared.definitions.ItemTree.{ItemTree}
use Rattle.td_ast.specs.declared.token.TokenKind.TheVariants.{Comma, CloseParen}
use Rattle.td_print_layout.specs.Sequences.{comma, indented, in_parentheses, parted_by}
use Rattle.td_print_layout.specs.Definitions.{item_pieces, item_lines}
use Rattle.td_print.specs.Writing.{piece_text, after_comma}

pub text_append : (xs ys : List Piece) → text_of (xs ++ ys) ≡ text_of xs ++ text_of ys
text_append [] ys = refl
text_append (Word kind ∷ xs) ys = rw (text_append xs ys) (sym (append_assoc (spelling kind) (text_of xs) (text_of ys)))
text_append (Blank ∷ xs) ys = ap (λ (l : List ℕ). 32 ∷ l) (text_append xs ys)
text_append (LineEnd ∷ xs) ys = ap (λ (l : List ℕ). 10 ∷ l) (text_append xs ys)

pub text_cons : (p : Piece) (ps : List Piece) → text_of (p ∷ ps) ≡ piece_text p ++ text_of ps
text_cons (Word kind) ps = refl
text_cons Blank ps = refl
text_cons LineEnd ps = refl

pub ruleset texts = (text_append, text_cons, append_assoc, append-nil)

-- ---- one element more

more_suc : {A : Type 0} (f : A → List Piece) (xs : List A) (i : ℕ) (x : A) → i < length xs → x ≡ get_or xs i x → text_of (flat_map f (take (suc i) xs)) ≡ text_of (flat_map f (take i xs)) ++ text_of (f x)
more_suc f [] i x h e = absurd (omega arith)
more_suc f (y ∷ ys) zero x h e = rw (text_append (f y) [], append-nil (text_of (f y))) (ap (λ z. text_of (f z)) (sym e))
more_suc f (y ∷ ys) (suc i) x h e =
    let ih = more_suc f ys i x (omega arith) e in
    text_append (f y) (flat_map f (take (suc i) ys)) ∙ ap (λ (l : List ℕ). text_of (f y) ++ l) ih
    ∙ sym (append_assoc (text_of (f y)) (text_of (flat_map f (take i ys))) (text_of (f x)))
    ∙ ap (λ (l : List ℕ). l ++ text_of (f x)) (sym (text_append (f y) (flat_map f (take i ys))))

pub text_more : {A : Type 0} (f : A → List Piece) (xs : List A) (i : ℕ) (x : A) → i < length xs → x ≡ get_or xs i x → text_of (flat_map f (take (i + 1) xs)) ≡ text_of (flat_map f (take i xs)) ++ text_of (f x)
text_more f xs i x h e = let next : i + 1 ≡ suc i = omega arith in ap (λ (n : ℕ). text_of (flat_map f (take n xs))) next ∙ more_suc f xs i x h e

block_suc : (xs : List Statement) (i : ℕ) (x : Statement) → i < length xs → x ≡ get_or xs i x → text_of (block_pieces (block_of (take (suc i) xs))) ≡ text_of (block_pieces (block_of (take i xs))) ++ text_of (statement_pieces x ++ Blank ∷ [])
block_suc [] i x h e = absurd (omega arith)
block_suc (y ∷ ys) zero x h e = ap (λ z. text_of (statement_pieces z ++ Blank ∷ [])) (sym e)
block_suc (y ∷ ys) (suc i) x h e =
    let f : Statement → List Piece = λ s. statement_pieces s ++ Blank ∷ [] in
    let ih = block_suc ys i x (omega arith) e in
    let after = block_pieces (block_of (take i ys)) in
    text_append (statement_pieces y) (Blank ∷ block_pieces (block_of (take (suc i) ys)))
    ∙ ap (λ (l : List ℕ). text_of (statement_pieces y) ++ (32 ∷ l)) ih
    ∙ sym (append_assoc (text_of (statement_pieces y)) (32 ∷ text_of after) (text_of (f x)))
    ∙ ap (λ (l : List ℕ). l ++ text_of (f x)) (sym (text_append (statement_pieces y) (Blank ∷ after)))

-- a block with one statement more
pub block_more : (xs : List Statement) (i : ℕ) (x : Statement) → i < length xs → x ≡ get_or xs i x → text_of (block_pieces (block_of (take (i + 1) xs))) ≡ text_of (block_pieces (block_of (take i xs))) ++ text_of (statement_pieces x ++ Blank ∷ [])
block_more xs i x h e = let next : i + 1 ≡ suc i = omega arith in ap (λ (n : ℕ). text_of (block_pieces (block_of (take n xs)))) next ∙ block_suc xs i x h e

-- the lines of items: the first, each other after a comma, and the end of the last line
pub items_text : (x : ItemTree) (xs : List ItemTree) → text_of (item_lines (x ∷ xs)) ≡ text_of (indented 1 (item_pieces x)) ++ (text_of (flat_map after_comma xs) ++ (10 ∷ []))
items_text x [] = text_append (indented 1 (item_pieces x)) (LineEnd ∷ [])
items_text x (y ∷ ys) =
    let ih = items_text y ys in
    let first = indented 1 (item_pieces x) in
    text_append first (Word Comma ∷ LineEnd ∷ item_lines (y ∷ ys))
    ∙ ap (λ (l : List ℕ). text_of first ++ (44 ∷ 10 ∷ l)) ih
    ∙ ap (λ (l : List ℕ). text_of first ++ (44 ∷ 10 ∷ l)) (sym (append_assoc (text_of (indented 1 (item_pieces y))) (text_of (flat_map after_comma ys)) (10 ∷ [])))
    ∙ ap (λ (l : List ℕ). text_of first ++ (44 ∷ 10 ∷ (l ++ (10 ∷ [])))) (sym (text_append (indented 1 (item_pieces y)) (flat_map after_comma ys)))

-- ---- lists that aren't empty

-- a list in parentheses, by its first element and the others
pub parentheses_text : {A : Type 0} (f : A → List Piece) (xs : List A) (x : A) → 1 ≤ length xs → x ≡ get_or xs 0 x → text_of (in_parentheses f xs) ≡ 40 ∷ (text_of (f x) ++ (text_of (flat_map (λ y. comma ++ f y) (drop 1 xs)) ++ (41 ∷ [])))
parentheses_text f [] x some e = absurd (omega arith)
parentheses_text {A} f (y ∷ ys) x some e =
    let g : A → List Piece = λ z. comma ++ f z in
    let whole : text_of ((f y ++ flat_map g ys) ++ Word CloseParen ∷ []) ≡ text_of (f y) ++ (text_of (flat_map g ys) ++ (41 ∷ [])) =
    text_append (f y ++ flat_map g ys) (Word CloseParen ∷ []) ∙ ap (λ (l : List ℕ). l ++ (41 ∷ [])) (text_append (f y) (flat_map g ys)) ∙ append_assoc (text_of (f y)) (text_of (flat_map g ys)) (41 ∷ []) in
    ap (λ (l : List ℕ). 40 ∷ l) (whole ∙ ap (λ z. text_of (f z) ++ (text_of (flat_map g ys) ++ (41 ∷ []))) (sym e))

-- elements with pieces between two, by the first and the others
pub parted_text : {A : Type 0} (between : List Piece) (f : A → List Piece) (xs : List A) (x : A) → 1 ≤ length xs → x ≡ get_or xs 0 x → text_of (parted_by between f xs) ≡ text_of (f x) ++ text_of (flat_map (λ y. between ++ f y) (drop 1 xs))
parted_text between f [] x some e = absurd (omega arith)
parted_text {A} between f (y ∷ ys) x some e =
    let g : A → List Piece = λ z. between ++ f z in
    text_append (f y) (flat_map g ys) ∙ ap (λ z. text_of (f z) ++ text_of (flat_map g ys)) (sym e)

pub item_lines_text : (xs : List ItemTree) (x : ItemTree) → 1 ≤ length xs → x ≡ get_or xs 0 x → text_of (item_lines xs) ≡ text_of (indented 1 (item_pieces x)) ++ (text_of (flat_map after_comma (drop 1 xs)) ++ (10 ∷ []))
item_lines_text [] x some e = absurd (omega arith)
item_lines_text (y ∷ ys) x some e = items_text y ys ∙ ap (λ z. text_of (indented 1 (item_pieces z)) ++ (text_of (flat_map after_comma ys) ++ (10 ∷ []))) (sym e)
