-- Productions of one token, expressions and actions are unambiguous.
use Rattle.std.proofs.Common.{◌≡◌, ℕ, zero, suc, ◌+◌, ◌≤◌, ◌<◌, Bool, true, false, cond, List, [], ◌∷◌, ◌++◌, length, Some, None, refl, sym, ap, subst, ◌∙◌, inl, inr, arith}
use Rattle.std.proofs.lemmas.List.{append_cancel_right, length-append}
use Rattle.td_ast.specs.declared.token.Token.{Token}
use Rattle.td_ast.specs.declared.token.Span.{Span}
use Rattle.td_ast.specs.declared.token.TokenKind.{TokenKind}
use Rattle.td_ast.specs.declared.token.TokenKind.TheVariants as kinds
use Rattle.td_ast.specs.Trees.{Tree}
use Rattle.td_ast.specs.Statements.{Statement}
use Rattle.td_ast.specs.Kinds.{is_kind, number_of_kind}
use Rattle.td_grammar.specs.Sets.{member, only, any_name, any_number, any_number_type}
use Rattle.td_grammar.specs.Spelling.{NestedBelow}
use Rattle.td_grammar.specs.Limits.{count}
use Rattle.td_grammar.specs.Reading.{Got}
use Rattle.td_grammar.specs.Grammar.{Grammar, spelled_by, seen_as}
use Rattle.td_grammar.specs.Tokens.{terminal, name, name_of, literal, literal_of, number_type, number_type_of, beside}
use Rattle.td_grammar.specs.declared.limits.TheConstants.{BRACES}
use Rattle.td_grammar.specs.Scan.{counted}
use Rattle.td_grammar.specs.Ahead.{choices_go_on}
use Rattle.td_grammar.specs.Expressions.{SpellsExpr, nested_expr, expr}
use Rattle.td_grammar.specs.Actions.{assigned, statement_from, braced_of, statement_body, SpellsStatement, begins, goes_on, statement, action_of, action_kinds, action}
use Rattle.td_grammar.proofs.Tools.{Stops, got_value, got_rest}
use Rattle.td_grammar.proofs.Led.{led_of}
use Rattle.td_grammar.proofs.Unambiguous.{IsOne, one_one, sequel_one, making_one, maybe_one, or_one, seen_one}
use Rattle.td_grammar.proofs.UnambiguousLists.{all_one}
use Rattle.td_grammar.proofs.Steady.{Relation, rising}
use Rattle.td_grammar.proofs.Words.{terminal_exact, name_exact, literal_exact, number_type_exact}
use Rattle.td_grammar.proofs.Exprs.{nested_expr_exact}
use Rattle.td_grammar.proofs.Over.{over_nested}
use Rattle.td_grammar.proofs.Scanned.{expr_exact}
use Rattle.td_grammar.proofs.Stmts.{steady_statement, statement_exact, action_word}

-- ---- one token

pub terminal_one : (k : TokenKind) → is_kind k k ≡ true → IsOne (terminal k)
terminal_one k e = one_one (only k) (λ t. cond (is_kind t.kind k) (Some t.span) None) (terminal_exact k e)

pub name_one : IsOne name
name_one = one_one (only any_name) (λ t. name_of t.kind t.span) name_exact

pub literal_one : IsOne literal
literal_one = one_one (only any_number) (λ t. literal_of t.kind t.span) literal_exact

pub number_type_one : IsOne number_type
number_type_one = one_one (only any_number_type) (λ t. number_type_of t.kind t.span) number_type_exact

-- ---- an expression: it is read at a depth of as many as there are tokens, which no token passes

count_within : (set : List ℕ) (tokens : List Token) → count set tokens ≤ length tokens
count_within set [] = omega arith
count_within set (t ∷ tokens) = by_test (member set (number_of_kind t.kind)) (count_within set tokens)
  where
    by_test : (b : Bool) → count set tokens ≤ length tokens → cond b (count set tokens + 1) (count set tokens) ≤ length (t ∷ tokens)
    by_test true le = omega arith
    by_test false le = omega arith

expr_read : (n : ℕ) (a : Tree) (u rest : List Token) → length (u ++ rest) ≤ n → SpellsExpr a u → Stops choices_go_on rest → (nested_expr n).reader.read (u ++ rest) ≡ Got a rest
expr_read n a u rest le s p =
    elim ((nested_expr_exact n).again a u rest s p) [
      | inl got ↦ got
      | inr over ↦
          let d = (nested_expr_exact n).deep (u ++ rest) over.0 over.1 in
          let many : n < count counted (d.0 ++ d.1 ∷ []) = (over_nested n).over (d.0 ++ d.1 ∷ []) d.5 in
          let few : count counted (d.0 ++ d.1 ∷ []) ≤ length (d.0 ++ d.1 ∷ []) = count_within counted (d.0 ++ d.1 ∷ []) in
          absurd (omega (arith, many, few, length-append d.0 (d.1 ∷ []), ap length d.3, length-append d.0 (d.1 ∷ d.2)))
    ]

expr_only : (a b : Tree) (u v rest more : List Token) → SpellsExpr a u → SpellsExpr b v → u ++ rest ≡ v ++ more → Stops choices_go_on rest → Stops choices_go_on more → (a ≡ b) × (u ≡ v)
expr_only a b u v rest more s t same p q = at_depth (length (u ++ rest)) (omega arith)
  where
    at_depth : (n : ℕ) → length (u ++ rest) ≤ n → (a ≡ b) × (u ≡ v)
    at_depth n le =
        let first = expr_read n a u rest le s p in
        let second = expr_read n b v more (subst (λ (l : List Token). length l ≤ n) same le) t q in
        let both : Got a rest ≡ Got b more = sym first ∙ (ap (λ (l : List Token). (nested_expr n).reader.read l) same ∙ second) in
        let after : rest ≡ more = got_rest a b rest more both in
        (got_value a b rest more both, append_cancel_right u v rest (same ∙ ap (λ (l : List Token). v ++ l) (sym after)))

pub expr_one : IsOne expr
unfolding expr
expr_one = record { led = led_of expr_exact; only = expr_only }

-- ---- a statement, by how deep others are nested in it

assigned_one : IsOne assigned
unfolding assigned expr
assigned_one = or_one _ _ (making_one _ _ expr_one) (making_one _ _ (terminal_one kinds.FieldPtr refl)) refl refl refl

module _ (braced : Grammar (List Statement × Span)) (B : IsOne (seen_as braced.Spells (only kinds.OpenBrace) [] braced)) where
  statement_from_one : IsOne (statement_from braced)
  unfolding expr assigned
  statement_from_one =
      or_one _ _ (making_one _ _ (sequel_one (terminal_one kinds.Star refl) (sequel_one name_one (sequel_one (terminal_one kinds.Assign refl) (sequel_one assigned_one (terminal_one kinds.Semicolon refl) refl) refl) refl) refl))
      (or_one _ _ (making_one _ _ (sequel_one name_one (sequel_one (terminal_one kinds.Arrow refl) (sequel_one name_one (sequel_one (terminal_one kinds.Assign refl) (sequel_one assigned_one (terminal_one kinds.Semicolon refl) refl) refl) refl) refl) refl))
      (or_one _ _ (making_one _ _ (sequel_one (terminal_one kinds.Var refl) (sequel_one name_one (sequel_one (terminal_one kinds.Assign refl) (sequel_one (terminal_one kinds.Star refl) (sequel_one name_one (terminal_one kinds.Semicolon refl) refl) refl) refl) refl) refl))
      (or_one _ _ (making_one _ _ (sequel_one (terminal_one kinds.If refl) (sequel_one (terminal_one kinds.OpenParen refl) (sequel_one expr_one (sequel_one (terminal_one kinds.CloseParen refl) (sequel_one B
      (maybe_one _ (making_one _ _ (sequel_one (terminal_one kinds.Else refl) B refl)) refl) refl) refl) refl) refl) refl))
      (or_one _ _ (making_one _ _ (sequel_one (terminal_one kinds.Return refl) (sequel_one expr_one (terminal_one kinds.Semicolon refl) refl) refl))
      (making_one _ _ (sequel_one (terminal_one kinds.Abort refl) (terminal_one kinds.Semicolon refl) refl)) refl refl refl) refl refl refl) refl refl refl) refl refl refl) refl refl refl

-- what is spelled so, as a production of which the sets alone are said
abbrev statements : Relation Statement → Grammar Statement
statements P = seen_as P begins goes_on (spelled_by P)

module _ (P : Relation Statement) (I : IsOne (statements P)) where
  braced_one : IsOne (seen_as (braced_of (statements P)).Spells (only kinds.OpenBrace) [] (braced_of (statements P)))
  braced_one =
      seen_one (braced_of (statements P)).Spells (only kinds.OpenBrace) [] (braced_of (statements P)) (braced_of (statements P))
      (making_one _ _ (sequel_one (terminal_one kinds.OpenBrace refl) (sequel_one (all_one (statements P) I refl refl) (terminal_one kinds.CloseBrace refl) refl) refl))
      (λ a t s. s) refl refl refl

  body_one : IsOne (statements (statement_body P))
  unfolding expr assigned
  body_one = seen_one (statement_body P) begins goes_on (statement_from (braced_of (statements P))) (spelled_by (statement_body P)) (statement_from_one (braced_of (statements P)) braced_one) (λ a t s. s) refl refl refl

below_one : (n : ℕ) → IsOne (statements (NestedBelow statement_body n))
unfolding NestedBelow
below_one zero = record { led = record { begun = λ a t more s. absurd s; full = λ a s. absurd s }; only = λ a b u v rest more s t same p q. absurd s }
below_one (suc n) =
    let one = body_one (NestedBelow statement_body n) (below_one n) in
    record { led = record { begun = one.led.begun; full = one.led.full }; only = one.only }

statement_only : (a b : Statement) (u v rest more : List Token) → SpellsStatement a u → SpellsStatement b v → u ++ rest ≡ v ++ more → Stops goes_on rest → Stops goes_on more → (a ≡ b) × (u ≡ v)
statement_only a b u v rest more (n, s) (m, t) same p q =
    let turn : m + n ≡ n + m = omega arith in
    let first : NestedBelow statement_body (n + m) a u = rising statement_body steady_statement n m a u s in
    let second : NestedBelow statement_body (n + m) b v = subst (λ (k : ℕ). NestedBelow statement_body k b v) turn (rising statement_body steady_statement m n b v t) in
    (below_one (n + m)).only a b u v rest more first second same p q

statement_one : (n : ℕ) → IsOne (statement n)
statement_one n = record { led = led_of (statement_exact n); only = statement_only }

-- ---- an action

pub action_one : IsOne action
unfolding action
action_one =
    or_one _ _ (making_one _ _ (sequel_one (one_one action_kinds (λ t. beside (action_of t.kind) t.span) action_word) (sequel_one (all_one (statement BRACES) (statement_one BRACES) refl refl) (terminal_one kinds.CloseBrace refl) refl) refl))
    (making_one _ _ (sequel_one (terminal_one kinds.Copy refl) (sequel_one name_one (terminal_one kinds.CloseBrace refl) refl) refl)) refl refl refl
