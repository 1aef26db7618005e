-- Actions that were spelled within the limits fit.
use Rattle.std.proofs.Common.{ℕ, zero, suc, List, [], ◌∷◌, Option, Some, None, subst, inl, inr}
use Rattle.td_num.specs.Lists.{Each}
use Rattle.td_ast.specs.declared.token.Token.{Token}
use Rattle.td_ast.specs.declared.token.Span.{Span}
use Rattle.td_ast.specs.declared.token.TokenKind.TheVariants as kinds
use Rattle.td_ast.specs.declared.actions.Assigned.{Assigned}
use Rattle.td_ast.specs.declared.actions.ActionTree.{ActionTree}
use Rattle.td_ast.specs.declared.actions.ActionTree.TheVariants.{Done, Copied}
use Rattle.td_ast.specs.Trees.{Tree}
use Rattle.td_ast.specs.Statements.{Statement, Statements, block_of}
use Rattle.td_grammar.specs.Sets.{only}
use Rattle.td_grammar.specs.Reading.{no_reader}
use Rattle.td_grammar.specs.Limits.{PassesFirst}
use Rattle.td_grammar.specs.Grammar.{Grammar, ◌then◌, ◌making◌, maybe, spelled_by}
use Rattle.td_grammar.specs.Tokens.{terminal}
use Rattle.td_grammar.specs.declared.limits.TheConstants.{BRACES}
use Rattle.td_grammar.specs.Actions.{assigned, if_of, statement_from, braced_of, statement_body, SpellsStatement, statement_within, statement, action}
use Rattle.td_grammar.proofs.Steady.{nested_out}
use Rattle.td_grammar.proofs.Words.{terminal_known}
use Rattle.td_grammar.proofs.Stmts.{steady_statement}
use Rattle.td_print_layout.proofs.Light.{IsLight}
use Rattle.td_print_layout.proofs.Sources.{NoPass, light}
use Rattle.td_print_layout.proofs.KeptActions.{LightAssigned, FitsBy, EachIn, Fits, FitsAction}
use Rattle.td_print_layout.proofs.Within.{head_of, tail_of, one_side, other_side, each_within}

assigned_fits : (a : Assigned) (tokens : List Token) → assigned.Spells a tokens → NoPass assigned.Passes tokens → LightAssigned a
unfolding assigned
assigned_fits a tokens (inl (v, e, s)) w = subst LightAssigned e (light v tokens s (one_side _ _ tokens w))
assigned_fits a tokens (inr (x, e, s)) w = subst LightAssigned e tt

-- ---- one statement, by what passes in its blocks

module _ (Q : List Token → Type 0) (Inside : Statements → Type 0) where
  abbrev braced : Grammar (List Statement × Span)
  braced = record { Spells = (braced_of (spelled_by SpellsStatement)).Spells; Passes = Q; reader = no_reader }

  abbrev otherwise : Grammar (List Statement × Span)
  otherwise = (terminal kinds.Else then braced) making λ (at, block). block

  module _ (block_fits : (b : List Statement × Span) (tokens : List Token) → braced.Spells b tokens → NoPass Q tokens → Inside (block_of b.0)) where
    if_fits : (at : Span) (c : Tree) (b : List Statement × Span) (o : Option (List Statement × Span)) (tokens : List Token) → IsLight c → Inside (block_of b.0) → (maybe otherwise).Spells o tokens → NoPass otherwise.Passes tokens → FitsBy Inside (if_of at c b o)
    if_fits at c b None tokens p q s w = (p, q)
    if_fits at c b (Some d) tokens p q (x, e, s) w = (p, q, subst (λ (l : List Statement × Span). Inside (block_of l.0)) e (block_fits x.1 s.1 s.4 (tail_of x.0 tokens s.0 s.1 s.2 s.3 w)))

    from_fits : (a : Statement) (tokens : List Token) → (statement_from braced).Spells a tokens → NoPass (statement_from braced).Passes tokens → FitsBy Inside a
    from_fits a tokens (inl (x, e, s)) w =
        let v = one_side _ _ tokens w in
        let after1 = tail_of x.0 tokens s.0 s.1 s.2 s.3 v in
        let after2 = tail_of x.1.0 s.1 s.4.0 s.4.1 s.4.2 s.4.3 after1 in
        let after3 = tail_of x.1.1.0 s.4.1 s.4.4.0 s.4.4.1 s.4.4.2 s.4.4.3 after2 in
        subst (FitsBy Inside) e (assigned_fits x.1.1.1.0 s.4.4.4.0 s.4.4.4.3 (head_of s.4.4.1 s.4.4.4.0 s.4.4.4.1 s.4.4.4.2 after3))
    from_fits a tokens (inr (inl (x, e, s))) w =
        let v = one_side _ _ tokens (other_side _ _ tokens w) in
        let after1 = tail_of x.0 tokens s.0 s.1 s.2 s.3 v in
        let after2 = tail_of x.1.0 s.1 s.4.0 s.4.1 s.4.2 s.4.3 after1 in
        let after3 = tail_of x.1.1.0 s.4.1 s.4.4.0 s.4.4.1 s.4.4.2 s.4.4.3 after2 in
        let after4 = tail_of x.1.1.1.0 s.4.4.1 s.4.4.4.0 s.4.4.4.1 s.4.4.4.2 s.4.4.4.3 after3 in
        subst (FitsBy Inside) e (assigned_fits x.1.1.1.1.0 s.4.4.4.4.0 s.4.4.4.4.3 (head_of s.4.4.4.1 s.4.4.4.4.0 s.4.4.4.4.1 s.4.4.4.4.2 after4))
    from_fits a tokens (inr (inr (inl (x, e, s)))) w = subst (FitsBy Inside) e tt
    from_fits a tokens (inr (inr (inr (inl (x, e, s))))) w =
        let v = one_side _ _ tokens (other_side _ _ tokens (other_side _ _ tokens (other_side _ _ tokens w))) in
        let after1 = tail_of x.0 tokens s.0 s.1 s.2 s.3 v in
        let after2 = tail_of x.1.0 s.1 s.4.0 s.4.1 s.4.2 s.4.3 after1 in
        let after3 = tail_of x.1.1.0 s.4.1 s.4.4.0 s.4.4.1 s.4.4.2 s.4.4.3 after2 in
        let after4 = tail_of x.1.1.1.0 s.4.4.1 s.4.4.4.0 s.4.4.4.1 s.4.4.4.2 s.4.4.4.3 after3 in
        let after5 = tail_of x.1.1.1.1.0 s.4.4.4.1 s.4.4.4.4.0 s.4.4.4.4.1 s.4.4.4.4.2 s.4.4.4.4.3 after4 in
        subst (FitsBy Inside) e (if_fits x.0 x.1.1.0 x.1.1.1.1.0 x.1.1.1.1.1 s.4.4.4.4.1 (light x.1.1.0 s.4.4.0 s.4.4.3 (head_of s.4.1 s.4.4.0 s.4.4.1 s.4.4.2 after2)) (block_fits x.1.1.1.1.0 s.4.4.4.4.0 s.4.4.4.4.3 (head_of s.4.4.4.1 s.4.4.4.4.0 s.4.4.4.4.1 s.4.4.4.4.2 after4)) s.4.4.4.4.4 after5)
    from_fits a tokens (inr (inr (inr (inr (inl (x, e, s)))))) w =
        let v = one_side _ _ tokens (other_side _ _ tokens (other_side _ _ tokens (other_side _ _ tokens (other_side _ _ tokens w)))) in
        subst (FitsBy Inside) e (light x.1.0 s.4.0 s.4.3 (head_of s.1 s.4.0 s.4.1 s.4.2 (tail_of x.0 tokens s.0 s.1 s.2 s.3 v)))
    from_fits a tokens (inr (inr (inr (inr (inr (x, e, s)))))) w = subst (FitsBy Inside) e tt

-- ---- blocks and statements

each_block : (F : Statement → Type 0) (xs : List Statement) → Each F xs → EachIn F (block_of xs)
each_block F [] f = tt
each_block F (x ∷ xs) f = (f.0, each_block F xs f.1)

-- no brace may be open
zero_block : (b : List Statement × Span) (tokens : List Token) → (braced_of (spelled_by SpellsStatement)).Spells b tokens → NoPass (PassesFirst (only kinds.OpenBrace)) tokens → ⊥
zero_block b tokens (x, e, s) w = by_token s.3
  where
    by_token : (terminal kinds.OpenBrace).Spells x.0 s.0 → ⊥
    by_token (t, f, g) = w s.0 s.1 s.2 (t, f, terminal_known kinds.OpenBrace t x.0 g)

module _ (n : ℕ) (inner : (x : Statement) (tokens : List Token) → SpellsStatement x tokens → NoPass (statement n).Passes tokens → Fits n x) where
  inner_block : (b : List Statement × Span) (tokens : List Token) → (braced_of (spelled_by SpellsStatement)).Spells b tokens → NoPass (braced_of (statement n)).Passes tokens → EachIn (Fits n) (block_of b.0)
  inner_block b tokens (x, e, s) w =
      subst (λ (l : List Statement × Span). EachIn (Fits n) (block_of l.0)) e
      (each_block (Fits n) x.1.0 (each_within SpellsStatement (statement n).Passes (Fits n) inner x.1.0 s.4.0 s.4.3 (head_of s.1 s.4.0 s.4.1 s.4.2 (tail_of x.0 tokens s.0 s.1 s.2 s.3 w))))

statement_fits : (n : ℕ) (x : Statement) (tokens : List Token) → SpellsStatement x tokens → NoPass (statement n).Passes tokens → Fits n x
unfolding statement_within
statement_fits zero x tokens s w = from_fits (PassesFirst (only kinds.OpenBrace)) (λ b. ⊥) zero_block x tokens (nested_out statement_body steady_statement x tokens s) w
statement_fits (suc n) x tokens s w = from_fits (braced_of (statement n)).Passes (EachIn (Fits n)) (inner_block n (statement_fits n)) x tokens (nested_out statement_body steady_statement x tokens s) w

pub action_fits : (a : ActionTree) (tokens : List Token) → action.Spells a tokens → NoPass action.Passes tokens → FitsAction a
unfolding action
action_fits a tokens (inl (x, e, s)) w =
    let v = one_side _ _ tokens w in
    subst FitsAction e (each_within SpellsStatement (statement BRACES).Passes (Fits BRACES) (statement_fits BRACES) x.1.0 s.4.0 s.4.3 (head_of s.1 s.4.0 s.4.1 s.4.2 (tail_of x.0 tokens s.0 s.1 s.2 s.3 v)))
action_fits a tokens (inr (x, e, s)) w = subst FitsAction e tt
