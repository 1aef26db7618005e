-- The canonical form of an action can be spelled where the tokens that spell it can.
use Rattle.std.proofs.Common.{ℕ, zero, suc, List, [], ◌∷◌, ◌++◌, Option, Some, None, subst}
use Rattle.std.proofs.lemmas.List.{append-nil}
use Rattle.td_ast.specs.declared.token.Token.{Token}
use Rattle.td_ast.specs.declared.token.Span.{Span}
use Rattle.td_ast.specs.declared.token.TokenKind.TheVariants as kinds
use Rattle.td_ast.specs.declared.actions.ActionKind.{ActionKind}
use Rattle.td_ast.specs.declared.actions.ActionKind.TheVariants as actions
use Rattle.td_ast.specs.Trees.{Tree}
use Rattle.td_ast.specs.Statements.{Statement, block_of}
use Rattle.td_grammar.specs.Spelling.{SpellsAll, NestedBelow}
use Rattle.td_grammar.specs.Grammar.{spelled_by}
use Rattle.td_grammar.specs.Tokens.{word}
use Rattle.td_grammar.specs.Actions.{assigned, if_of, braced_of, statement_body, SpellsStatement, action_of, action_kinds, action}
use Rattle.td_print_layout.specs.Pieces.{Piece, Word, Blank}
use Rattle.td_print_layout.specs.Joining.{IsSpellable}
use Rattle.td_print_layout.specs.Sequences.{optional}
use Rattle.td_print_layout.specs.Expressions.{expression_pieces}
use Rattle.td_print_layout.specs.Actions.{assigned_pieces, in_braces, statement_pieces, block_pieces, action_kind, statement_after, action_pieces}
use Rattle.td_print_layout.proofs.Tokens.{kinds_in}
use Rattle.td_print_layout.proofs.Sound.{AreSpellable, Fine, Sound, fine_append, parts, blank, both, made, either, maybe, all, terminal_sound, name_sound}
use Rattle.td_print_layout.proofs.SoundExpressions.{expression_sound}

assigned_sound : Sound assigned.Spells assigned_pieces
unfolding assigned
assigned_sound = either (made expression_sound (λ x h. h)) (made (terminal_sound kinds.FieldPtr tt) (λ x h. h))

-- the block of `else`, as it stands after another
abbrev otherwise : List Statement × Span → List Piece
otherwise x = Blank ∷ Word kinds.Else ∷ Blank ∷ in_braces (block_pieces (block_of x.0))

abbrev if_pieces : Tree → List Statement × Span → Option (List Statement × Span) → List Piece
if_pieces c b o = Word kinds.If ∷ Blank ∷ Word kinds.OpenParen ∷ (expression_pieces c ++ Word kinds.CloseParen ∷ Blank ∷ (in_braces (block_pieces (block_of b.0)) ++ optional otherwise o))

fine_if : (at : Span) (c : Tree) (b : List Statement × Span) (o : Option (List Statement × Span)) → Fine (if_pieces c b o) → Fine (statement_pieces (if_of at c b o))
fine_if at c b None f =
    subst (λ (l : List Piece). Fine (Word kinds.If ∷ Blank ∷ Word kinds.OpenParen ∷ (expression_pieces c ++ Word kinds.CloseParen ∷ Blank ∷ l))) (append-nil (in_braces (block_pieces (block_of b.0)))) f
fine_if at c b (Some d) f = f

module _ (P : Statement → List Token → Type 0) (inner : Sound P statement_pieces) where
  block_sound : Sound (SpellsAll P) (λ xs. block_pieces (block_of xs))
  block_sound = record { sound = by_list }
    where
      by_list : (xs : List Statement) (tokens : List Token) → SpellsAll P xs tokens → AreSpellable (kinds_in tokens) → Fine (block_pieces (block_of xs))
      by_list [] tokens m f = tt
      by_list (x ∷ xs) tokens (u, v, e, m, n) f = let h = parts tokens u v e f in fine_append (statement_pieces x) (Blank ∷ block_pieces (block_of xs)) (inner.sound x u m h.0) (by_list xs v n h.1)

  braced_sound : Sound (braced_of (spelled_by P)).Spells (λ x. in_braces (block_pieces (block_of x.0)))
  braced_sound = made (both (terminal_sound kinds.OpenBrace tt) (both (blank block_sound) (terminal_sound kinds.CloseBrace tt))) (λ x h. h)

  statement_body_sound : Sound (statement_body P) statement_pieces
  statement_body_sound =
      either (made (both (terminal_sound kinds.Star tt) (both name_sound (both (blank (terminal_sound kinds.Assign tt)) (both (blank assigned_sound) (terminal_sound kinds.Semicolon tt))))) (λ x h. h))
      (either (made (both name_sound (both (terminal_sound kinds.Arrow tt) (both name_sound (both (blank (terminal_sound kinds.Assign tt)) (both (blank assigned_sound) (terminal_sound kinds.Semicolon tt)))))) (λ x h. h))
      (either (made (both (terminal_sound kinds.Var tt) (both (blank name_sound) (both (blank (terminal_sound kinds.Assign tt)) (both (blank (terminal_sound kinds.Star tt)) (both name_sound (terminal_sound kinds.Semicolon tt)))))) (λ x h. h))
      (either (made (both (terminal_sound kinds.If tt) (both (blank (terminal_sound kinds.OpenParen tt)) (both expression_sound (both (terminal_sound kinds.CloseParen tt)
      (both (blank braced_sound) (maybe (made {q = otherwise} (both (blank (terminal_sound kinds.Else tt)) (blank braced_sound)) (λ x h. h))))))))
      (λ x h. fine_if x.0 x.1.1.0 x.1.1.1.1.0 x.1.1.1.1.1 h))
      (either (made (both (terminal_sound kinds.Return tt) (both (blank expression_sound) (terminal_sound kinds.Semicolon tt))) (λ x h. h))
      (made (both (terminal_sound kinds.Abort tt) (terminal_sound kinds.Semicolon tt)) (λ x h. h))))))

nested_sound : (n : ℕ) → Sound (NestedBelow statement_body n) statement_pieces
unfolding NestedBelow
nested_sound zero = record { sound = λ a tokens s f. absurd s }
nested_sound (suc n) = record { sound = λ a tokens s f. (statement_body_sound (NestedBelow statement_body n) (nested_sound n)).sound a tokens s f }

statement_sound : Sound SpellsStatement statement_pieces
statement_sound = record { sound = λ a tokens (n, s) f. (nested_sound n).sound a tokens s f }

action_fixed : (k : ActionKind) → IsSpellable (action_kind k)
action_fixed actions.Act = tt
action_fixed actions.Check = tt
action_fixed actions.OnSuccess = tt

action_word_sound : Sound (word action_kinds action_of).Spells (λ x. Word (action_kind x.0) ∷ [])
action_word_sound = record { sound = λ x tokens m f. (action_fixed x.0, tt) }

pub action_sound : Sound action.Spells action_pieces
unfolding action
action_sound =
    either (made (both action_word_sound (both (all {p = statement_after} (blank statement_sound)) (terminal_sound kinds.CloseBrace tt))) (λ x h. h))
    (made (both (terminal_sound kinds.Copy tt) (both (blank name_sound) (terminal_sound kinds.CloseBrace tt))) (λ x h. h))
