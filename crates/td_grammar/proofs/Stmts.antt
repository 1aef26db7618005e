-- Statements and actions are exact. Cited by other crates.
use Rattle.std.proofs.Common.{◌≡◌, ℕ, zero, suc, true, List, [], ◌∷◌, Some, refl}
use Rattle.td_ast.specs.declared.token.Token.{Token}
use Rattle.td_ast.specs.declared.token.Span.{Span}
use Rattle.td_ast.specs.declared.token.TokenKind.{TokenKind}
use Rattle.td_ast.specs.declared.token.TokenKind.TheVariants as kinds
use Rattle.td_ast.specs.declared.actions.ActionKind.TheVariants as actions
use Rattle.td_ast.specs.Statements.{Statement}
use Rattle.td_ast.specs.Kinds.{number_of_kind}
use Rattle.td_grammar.specs.Sets.{member, only}
use Rattle.td_grammar.specs.Grammar.{Grammar, ◌then◌, all_of, spelled_by, too_deep, seen_as}
use Rattle.td_grammar.specs.Tokens.{terminal, word}
use Rattle.td_grammar.specs.declared.limits.TheConstants.{BRACES}
use Rattle.td_grammar.specs.Expressions.{expr}
use Rattle.td_grammar.specs.Actions.{assigned, statement_from, braced_of, statement_body, SpellsStatement, begins, goes_on, statement_within, statement, action_of, action, action_kinds}
use Rattle.td_grammar.proofs.Exact.{IsExact}
use Rattle.td_grammar.proofs.Making.{making_exact}
use Rattle.td_grammar.proofs.Maybe.{maybe_exact}
use Rattle.td_grammar.proofs.All.{all_exact}
use Rattle.td_grammar.proofs.Either.{or_exact}
use Rattle.td_grammar.proofs.Seen.{seen_exact}
use Rattle.td_grammar.proofs.Steady.{IsSteady, steady_self, steady_other, steady_both, steady_made, steady_maybe, steady_all, steady_either, nested_in, nested_out}
use Rattle.td_grammar.proofs.Words.{nowhere, terminal_exact, name_exact, word_exact, sequel}
use Rattle.td_grammar.proofs.Exprs.{begun_too_deep}
use Rattle.td_grammar.proofs.Scanned.{expr_exact}

pub assigned_exact : IsExact assigned
unfolding assigned expr
assigned_exact = or_exact _ _ (making_exact _ _ expr_exact) (making_exact _ _ (terminal_exact kinds.FieldPtr refl)) refl refl refl

steady_braced : IsSteady (λ P. (braced_of (spelled_by P)).Spells)
steady_braced = steady_made _ (steady_both (steady_other _) (steady_both (steady_all steady_self) (steady_other _)))

pub steady_statement : IsSteady statement_body
steady_statement =
    steady_either (steady_other _) (steady_either (steady_other _) (steady_either (steady_other _)
    (steady_either
    (steady_made _ (steady_both (steady_other _) (steady_both (steady_other _) (steady_both (steady_other _) (steady_both (steady_other _) (steady_both steady_braced (steady_maybe (steady_made _ (steady_both (steady_other _) steady_braced)))))))))
    (steady_either (steady_other _) (steady_other _)))))

module _ (braced : Grammar (List Statement × Span)) (B : IsExact (seen_as braced.Spells (only kinds.OpenBrace) [] braced)) where
  pub statement_from_exact : IsExact (statement_from braced)
  unfolding expr assigned
  statement_from_exact =
      or_exact _ _ (making_exact _ _ (sequel (terminal_exact kinds.Star refl) (sequel name_exact (sequel (terminal_exact kinds.Assign refl) (sequel assigned_exact (terminal_exact kinds.Semicolon refl) refl) refl) refl) refl))
      (or_exact _ _ (making_exact _ _ (sequel name_exact (sequel (terminal_exact kinds.Arrow refl) (sequel name_exact (sequel (terminal_exact kinds.Assign refl) (sequel assigned_exact (terminal_exact kinds.Semicolon refl) refl) refl) refl) refl) refl))
      (or_exact _ _ (making_exact _ _ (sequel (terminal_exact kinds.Var refl) (sequel name_exact (sequel (terminal_exact kinds.Assign refl) (sequel (terminal_exact kinds.Star refl) (sequel name_exact (terminal_exact kinds.Semicolon refl) refl) refl) refl) refl) refl))
      (or_exact _ _ (making_exact _ _ (sequel (terminal_exact kinds.If refl) (sequel (terminal_exact kinds.OpenParen refl) (sequel expr_exact (sequel (terminal_exact kinds.CloseParen refl) (sequel B
      (maybe_exact _ (making_exact _ _ (sequel (terminal_exact kinds.Else refl) B refl)) refl) refl) refl) refl) refl) refl))
      (or_exact _ _ (making_exact _ _ (sequel (terminal_exact kinds.Return refl) (sequel expr_exact (terminal_exact kinds.Semicolon refl) refl) refl))
      (making_exact _ _ (sequel (terminal_exact kinds.Abort refl) (terminal_exact kinds.Semicolon refl) refl)) refl refl refl) refl refl refl) refl refl refl) refl refl refl) refl refl refl

abbrev closing : Token
closing = record { kind = kinds.CloseBrace; span = nowhere }

braced_zero : IsExact (too_deep (braced_of (spelled_by SpellsStatement)).Spells (only kinds.OpenBrace))
braced_zero = begun_too_deep kinds.OpenBrace refl (all_of (spelled_by SpellsStatement) then terminal kinds.CloseBrace).Spells _ (([], nowhere), closing ∷ [], ([], closing ∷ [], refl, refl, (closing, refl, refl)))

module _ (inner : Grammar Statement) (I : IsExact (seen_as SpellsStatement begins goes_on inner)) where
  pub braced_exact : IsExact (braced_of (seen_as SpellsStatement begins goes_on inner))
  braced_exact = making_exact _ _ (sequel (terminal_exact kinds.OpenBrace refl) (sequel (all_exact (seen_as SpellsStatement begins goes_on inner) I refl refl) (terminal_exact kinds.CloseBrace refl) refl) refl)

pub statement_exact : (n : ℕ) → IsExact (statement n)
unfolding statement_within expr assigned
statement_exact zero =
    seen_exact SpellsStatement begins goes_on (statement_within zero)
    (statement_from_exact (too_deep (braced_of (spelled_by SpellsStatement)).Spells (only kinds.OpenBrace))
    (seen_exact (braced_of (spelled_by SpellsStatement)).Spells (only kinds.OpenBrace) [] (too_deep (braced_of (spelled_by SpellsStatement)).Spells (only kinds.OpenBrace)) braced_zero (λ a t s. s) (λ a t s. s) refl refl refl))
    (nested_in statement_body steady_statement) (nested_out statement_body steady_statement) refl refl refl
statement_exact (suc n) =
    seen_exact SpellsStatement begins goes_on (statement_within (suc n))
    (statement_from_exact (braced_of (statement n))
    (seen_exact (braced_of (statement n)).Spells (only kinds.OpenBrace) [] (braced_of (statement n)) (braced_exact (statement_within n) (statement_exact n)) (λ a t s. s) (λ a t s. s) refl refl refl))
    (nested_in statement_body steady_statement) (nested_out statement_body steady_statement) refl refl refl

action_known : (k : TokenKind) (a : _) → action_of k ≡ Some a → member action_kinds (number_of_kind k) ≡ true
action_known kinds.Act a e = refl
action_known kinds.Check a e = refl
action_known kinds.OnSuccess a e = refl
action_known _ a e = absurd cc

pub action_word : IsExact (word action_kinds action_of)
action_word = word_exact action_kinds action_of kinds.Act actions.Act refl action_known

pub action_exact : IsExact action
unfolding action
action_exact =
    or_exact _ _ (making_exact _ _ (sequel action_word (sequel (all_exact (statement BRACES) (statement_exact BRACES) refl refl) (terminal_exact kinds.CloseBrace refl) refl) refl))
    (making_exact _ _ (sequel (terminal_exact kinds.Copy refl) (sequel name_exact (terminal_exact kinds.CloseBrace refl) refl) refl)) refl refl refl
