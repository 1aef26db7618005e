-- Statements and actions read back.
use Rattle.std.proofs.Common.{◌≡◌, List, [], ◌∷◌, Option, Some, None, refl, ap}
use Rattle.td_ast.specs.declared.token.Span.{Span}
use Rattle.td_ast.specs.declared.token.TokenKind.TheVariants as kinds
use Rattle.td_ast.specs.declared.actions.Assigned.{Assigned}
use Rattle.td_ast.specs.declared.actions.Assigned.TheVariants.{Value, FieldPtr}
use Rattle.td_ast.specs.declared.actions.ActionKind.{ActionKind}
use Rattle.td_ast.specs.declared.actions.ActionKind.TheVariants as actions
use Rattle.td_ast.specs.declared.actions.ActionTree.{ActionTree}
use Rattle.td_ast.specs.declared.actions.ActionTree.TheVariants.{Done, Copied}
use Rattle.td_ast.specs.Trees.{Tree}
use Rattle.td_ast.specs.Statements.{Statement, Statements, Store, StoreField, Var, If, IfElse, Return, Abort, End, More, block_of}
use Rattle.td_grammar.specs.Spelling.{SpellsAll}
use Rattle.td_grammar.specs.Grammar.{spelled_by}
use Rattle.td_grammar.specs.Tokens.{word}
use Rattle.td_grammar.specs.Actions.{assigned, if_of, braced_of, statement_body, SpellsStatement, action_of, action_kinds, action}
use Rattle.td_grammar.proofs.Steady.{IsSteady, steady_self, steady_other, steady_both, steady_made, steady_maybe, steady_all, steady_either, nested_in}
use Rattle.td_grammar.proofs.Stmts.{steady_statement}
use Rattle.td_print_layout.specs.Pieces.{Word}
use Rattle.td_print_layout.specs.Actions.{assigned_pieces, in_braces, statement_pieces, block_pieces, action_kind, statement_after, action_pieces}
use Rattle.td_print_layout.specs.Unspanned.{unspanned_expression, unspanned_assigned, unspanned_statement, unspanned_block, unspanned_action}
use Rattle.td_print_layout.proofs.Back.{Back, under, blank, both, made, left, right, alone, some, nil, more, good, list_back}
use Rattle.td_print_layout.proofs.Words.{terminal_back, name_back, word_back}
use Rattle.td_print_layout.proofs.Expressions.{expression_back}

assigned_back : (a : Assigned) → Back assigned.Spells (assigned_pieces a) (λ r. unspanned_assigned r ≡ unspanned_assigned a)
unfolding assigned
assigned_back (Value v) = left (made (expression_back v) (λ r g. ap (λ (x : Tree). Value x) g))
assigned_back (FieldPtr s) = right (made (terminal_back kinds.FieldPtr refl) (λ r g. refl))

-- ---- blocks

-- what reads back as a block
abbrev pub SameBlock : Statements → List Statement → Type 0
SameBlock block read = unspanned_block (block_of read) ≡ unspanned_block block

braced_back : (b : Statements) → Back (SpellsAll SpellsStatement) (block_pieces b) (SameBlock b) → Back (braced_of (spelled_by SpellsStatement)).Spells (in_braces (block_pieces b)) (λ x. SameBlock b x.0)
braced_back b p = made (both (terminal_back kinds.OpenBrace refl) (both (blank p) (terminal_back kinds.CloseBrace refl))) (λ x g. g.1.0)

-- the block of `else`
abbrev pub Otherwise : Statements → Option (List Statement × Span) → Type 0
Otherwise b None = ⊥
Otherwise b (Some x) = SameBlock b x.0

pub if_same : (s at : Span) (c e : Tree) (b : Statements) (x : List Statement × Span) (o : Option (List Statement × Span)) → unspanned_expression c ≡ unspanned_expression e → SameBlock b x.0 → o ≡ None
    → unspanned_statement (if_of at c x o) ≡ unspanned_statement (If s e b)
if_same s at c e b x None p q n = cc (p, q)
if_same s at c e b x (Some y) p q n = absurd (cc (n))

pub if_else_same : (s at : Span) (c e : Tree) (b d : Statements) (x : List Statement × Span) (o : Option (List Statement × Span)) → unspanned_expression c ≡ unspanned_expression e → SameBlock b x.0 → Otherwise d o
    → unspanned_statement (if_of at c x o) ≡ unspanned_statement (IfElse s e b d)
if_else_same s at c e b d x None p q n = absurd n
if_else_same s at c e b d x (Some y) p q n = cc (p, q, n)

-- ---- statements

mutual
  statement_back : (x : Statement) → Back SpellsStatement (statement_pieces x) (λ r. unspanned_statement r ≡ unspanned_statement x)
  statement_back (Store s cell value) =
      under (nested_in statement_body steady_statement) (left (made
      (both (terminal_back kinds.Star refl) (both (name_back cell) (both (blank (terminal_back kinds.Assign refl)) (both (blank (assigned_back value)) (terminal_back kinds.Semicolon refl)))))
      (λ x g. cc (g.1.0, g.1.1.1.0))))
  statement_back (StoreField s cell field value) =
      under (nested_in statement_body steady_statement) (right (left (made
      (both (name_back cell) (both (terminal_back kinds.Arrow refl) (both (name_back field) (both (blank (terminal_back kinds.Assign refl)) (both (blank (assigned_back value)) (terminal_back kinds.Semicolon refl))))))
      (λ x g. cc (g.0, g.1.1.0, g.1.1.1.1.0)))))
  statement_back (Var s local star cell) =
      under (nested_in statement_body steady_statement) (right (right (left (made
      (both (terminal_back kinds.Var refl) (both (blank (name_back local)) (both (blank (terminal_back kinds.Assign refl)) (both (blank (terminal_back kinds.Star refl)) (both (name_back cell) (terminal_back kinds.Semicolon refl))))))
      (λ x g. cc (g.1.0, g.1.1.1.1.0))))))
  statement_back (If s condition block) =
      under (nested_in statement_body steady_statement) (right (right (right (left (made
      (both (terminal_back kinds.If refl) (both (blank (terminal_back kinds.OpenParen refl)) (both (expression_back condition) (both (terminal_back kinds.CloseParen refl)
      (alone (blank (braced_back block (block_back block))))))))
      (λ x g. if_same s x.0 x.1.1.0 condition block x.1.1.1.1.0 x.1.1.1.1.1 g.1.1.0 g.1.1.1.1.0 g.1.1.1.1.1))))))
  statement_back (IfElse s condition block other) =
      under (nested_in statement_body steady_statement) (right (right (right (left (made
      (both (terminal_back kinds.If refl) (both (blank (terminal_back kinds.OpenParen refl)) (both (expression_back condition) (both (terminal_back kinds.CloseParen refl)
      (both (blank (braced_back block (block_back block)))
      (some {H = Otherwise other} (made {H = λ x. SameBlock other x.0} (both (blank (terminal_back kinds.Else refl)) (blank (braced_back other (block_back other)))) (λ x g. g.1)) (λ x g. g)))))))
      (λ x g. if_else_same s x.0 x.1.1.0 condition block other x.1.1.1.1.0 x.1.1.1.1.1 g.1.1.0 g.1.1.1.1.0 g.1.1.1.1.1))))))
  statement_back (Return s value) =
      under (nested_in statement_body steady_statement) (right (right (right (right (left (made
      (both (terminal_back kinds.Return refl) (both (blank (expression_back value)) (terminal_back kinds.Semicolon refl)))
      (λ x g. cc (g.1.0))))))))
  statement_back (Abort s) =
      under (nested_in statement_body steady_statement) (right (right (right (right (right (made
      (both (terminal_back kinds.Abort refl) (terminal_back kinds.Semicolon refl))
      (λ x g. refl)))))))

  block_back : (b : Statements) → Back (SpellsAll SpellsStatement) (block_pieces b) (SameBlock b)
  block_back End = good nil (λ xs e. ap (λ (l : List Statement). unspanned_block (block_of l)) e)
  block_back (More x xs) = more (statement_back x) (blank (block_back xs)) (λ y ys e f. cc (e, f))

-- ---- actions

pub word_of_action : (k : ActionKind) → Back (word action_kinds action_of).Spells (Word (action_kind k) ∷ []) (λ x. x.0 ≡ k)
word_of_action actions.Act = word_back action_kinds action_of kinds.Act actions.Act refl
word_of_action actions.Check = word_back action_kinds action_of kinds.Check actions.Check refl
word_of_action actions.OnSuccess = word_back action_kinds action_of kinds.OnSuccess actions.OnSuccess refl

pub action_back : (a : ActionTree) → Back action.Spells (action_pieces a) (λ r. unspanned_action r ≡ unspanned_action a)
unfolding action
action_back (Done kind span statements) =
    left (made (both (word_of_action kind) (both (list_back SpellsStatement statement_after unspanned_statement (λ x. blank (statement_back x)) statements) (terminal_back kinds.CloseBrace refl)))
    (λ x g. cc (g.0, g.1.0)))
action_back (Copied span name) = right (made (both (terminal_back kinds.Copy refl) (both (blank (name_back name)) (terminal_back kinds.CloseBrace refl))) (λ x g. cc (g.1.0)))
