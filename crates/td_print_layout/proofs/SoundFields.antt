-- The canonical form of a field can be spelled where the tokens that spell it can.
use Rattle.std.proofs.Common.{ℕ, List, [], ◌∷◌, ◌++◌, Option, Some, None}
use Rattle.std.specs.Prelude.{flat_map}
use Rattle.td_ast.specs.declared.token.TokenKind.TheVariants as kinds
use Rattle.td_grammar.specs.Grammar.{Grammar}
use Rattle.td_grammar.specs.Expressions.{expr}
use Rattle.td_grammar.specs.Sequences.{some_of, parted, in_parentheses, list_of}
use Rattle.td_grammar.specs.Parameters.{param, head}
use Rattle.td_grammar.specs.Fields.{type_tree, source, extent, refinement, field}
use Rattle.td_print_layout.specs.Pieces.{Piece, Word}
use Rattle.td_print_layout.specs.Sequences.{comma, parted_by}
use Rattle.td_print_layout.specs.Sequences as sequences
use Rattle.td_print_layout.specs.Expressions.{expression_pieces}
use Rattle.td_print_layout.specs.Parameters.{parameter_pieces, condition_pieces, head_pieces}
use Rattle.td_print_layout.specs.Fields.{type_pieces, extent_pieces, refinement_pieces, action_after, field_pieces, field_line}
use Rattle.td_print_layout.proofs.Sound.{Fine, Sound, blank, deep, ended, both, made, either, maybe, all, terminal_sound, name_sound, qualified_sound, literal_sound, number_sound, plain_sound}
use Rattle.td_print_layout.proofs.SoundExpressions.{expression_sound}
use Rattle.td_print_layout.proofs.SoundActions.{action_sound}
use Rattle.td_print_layout.proofs.Bytes.{place_sound}

-- ---- several

pub some_sound : {A : Type 0} (g : Grammar A) (p : A → List Piece) → Sound g.Spells p → Sound (some_of g).Spells (flat_map p)
some_sound g p s = made (both s (all s)) (λ x h. h)

abbrev enclosed : {A : Type 0} → (A → List Piece) → List A → List Piece
enclosed p xs = Word kinds.OpenParen ∷ (parted_by comma p xs ++ Word kinds.CloseParen ∷ [])

parted_sound : {A : Type 0} (g : Grammar A) (p : A → List Piece) → Sound g.Spells p → Sound (parted g).Spells (parted_by comma p)
parted_sound g p s = made (both s (all {p = λ x. comma ++ p x} (made (both (terminal_sound kinds.Comma tt) (blank s)) (λ x h. h)))) (λ x h. h)

fine_enclosed : {A : Type 0} (p : A → List Piece) (xs : List A) → Fine (enclosed p xs) → Fine (sequences.in_parentheses p xs)
fine_enclosed p [] f = tt
fine_enclosed p (x ∷ xs) f = f

fine_optional : {A : Type 0} (p : A → List Piece) (o : Option (List A)) → Fine (sequences.optional (enclosed p) o) → Fine (sequences.in_parentheses p (list_of o))
fine_optional p None f = tt
fine_optional p (Some xs) f = fine_enclosed p xs f

parentheses_sound : {A : Type 0} (g : Grammar A) (p : A → List Piece) → Sound g.Spells p → Sound (in_parentheses g).Spells (sequences.in_parentheses p)
parentheses_sound g p s =
    made (maybe {p = enclosed p} (made (both (terminal_sound kinds.OpenParen tt) (both (parted_sound g p s) (terminal_sound kinds.CloseParen tt))) (λ x h. h))) (λ o h. fine_optional p o h)

-- ---- parameters

parameter_sound : Sound param.Spells parameter_pieces
unfolding param
parameter_sound =
    either (made (both plain_sound (blank name_sound)) (λ x h. h))
    (made (both (terminal_sound kinds.Mutable tt) place_sound) (λ x h. h.1))

pub head_sound : Sound head.Spells head_pieces
unfolding head
head_sound =
    made (both (parentheses_sound param parameter_pieces parameter_sound) (maybe {p = condition_pieces} (made (both (blank (terminal_sound kinds.Where tt)) (blank expression_sound)) (λ x h. h)))) (λ x h. h)

-- ---- fields

type_sound : Sound type_tree.Spells (λ t. type_pieces t.kind)
unfolding type_tree
type_sound =
    either (made number_sound (λ x h. h)) (either (made (terminal_sound kinds.Unit tt) (λ x h. h)) (either (made (terminal_sound kinds.AllBytes tt) (λ x h. h)) (either (made (terminal_sound kinds.AllZeros tt) (λ x h. h))
    (made (both qualified_sound (parentheses_sound expr expression_pieces expression_sound)) (λ x h. h)))))

source_sound : Sound source.Spells extent_pieces
unfolding source
source_sound = either (made (both (terminal_sound kinds.Star tt) name_sound) (λ x h. (tt, h))) (made expression_sound (λ x h. (tt, h)))

extent_sound : Sound extent.Spells extent_pieces
unfolding extent
extent_sound =
    either (made (both (terminal_sound kinds.OpenBracket tt) (both expression_sound (terminal_sound kinds.CloseBracket tt))) (λ x h. h))
    (either (made (both (terminal_sound kinds.ByteSize tt) (both (blank expression_sound) (terminal_sound kinds.CloseBracket tt))) (λ x h. h))
    (either (made (both (terminal_sound kinds.SingleElement tt) (both (blank expression_sound) (terminal_sound kinds.CloseBracket tt))) (λ x h. h))
    (either (made (both (terminal_sound kinds.Zeroterm tt) (both (blank expression_sound) (terminal_sound kinds.CloseBracket tt))) (λ x h. h))
    (either (made (both (blank (terminal_sound kinds.Colon tt)) (blank literal_sound)) (λ x h. h))
    (made (both (terminal_sound kinds.Assign tt) source_sound) (λ x h. h.1))))))

refinement_sound : Sound refinement.Spells refinement_pieces
unfolding refinement
refinement_sound = made (both (blank (terminal_sound kinds.OpenBrace tt)) (both (blank expression_sound) (blank (terminal_sound kinds.CloseBrace tt)))) (λ x h. h)

field_sound : Sound field.Spells field_pieces
unfolding field
field_sound =
    made (both type_sound (both (blank name_sound) (both (maybe extent_sound) (both (maybe refinement_sound) (both (maybe {p = action_after} (blank action_sound)) (terminal_sound kinds.Semicolon tt)))))) (λ x h. h)

pub fields_sound : (n : ℕ) → Sound (some_of field).Spells (flat_map (field_line n))
fields_sound n = some_sound field (field_line n) (deep n (ended field_sound))
