-- Statements and actions within the limits are kept.
use Rattle.std.proofs.Common.{◌≡◌, ℕ, zero, suc, false, List, [], ◌∷◌, Option, refl, ap}
use Rattle.td_num.specs.Lists.{Each}
use Rattle.td_ast.specs.declared.token.Span.{Span}
use Rattle.td_ast.specs.declared.token.TokenKind.TheVariants as kinds
use Rattle.td_ast.specs.declared.actions.Assigned.{Assigned}
use Rattle.td_ast.specs.declared.actions.Assigned.TheVariants.{Value, FieldPtr}
use Rattle.td_ast.specs.declared.actions.ActionKind.{ActionKind}
use Rattle.td_ast.specs.declared.actions.ActionTree.{ActionTree}
use Rattle.td_ast.specs.declared.actions.ActionTree.TheVariants.{Done, Copied}
use Rattle.td_ast.specs.Trees.{Tree, over}
use Rattle.td_ast.specs.Statements.{Statement, Statements, Store, StoreField, Var, If, IfElse, Return, Abort, End, More, block_of}
use Rattle.td_grammar.specs.Sets.{only}
use Rattle.td_grammar.specs.Grammar.{Grammar, ◌then◌, ◌making◌, too_deep, spelled_by, seen_as}
use Rattle.td_grammar.specs.Tokens.{terminal, name, word}
use Rattle.td_grammar.specs.declared.limits.TheConstants.{BRACES}
use Rattle.td_grammar.specs.Expressions.{expr}
use Rattle.td_grammar.specs.Actions.{assigned, if_of, statement_from, braced_of, SpellsStatement, begins, goes_on, statement_within, statement, action_of, action_kinds, action}
use Rattle.td_grammar.proofs.Stmts.{action_word}
use Rattle.td_print_layout.specs.Pieces.{Word}
use Rattle.td_print_layout.specs.Actions.{assigned_pieces, in_braces, statement_pieces, block_pieces, action_kind, statement_after, action_pieces}
use Rattle.td_print_layout.specs.Unspanned.{unspanned_assigned, unspanned_statement, unspanned_block, unspanned_action}
use Rattle.td_print_layout.proofs.Actions.{SameBlock, Otherwise, if_same, if_else_same, word_of_action}
use Rattle.td_print_layout.proofs.Kept.{Kept, AllKept, blank, both, made, alone, some, first, into, seen, nil, more, spaced_all, all, each_kept}
use Rattle.td_print_layout.proofs.Plainly.{plainly, never_one, terminal_kept, name_kept}
use Rattle.td_print_layout.proofs.Light.{IsLight, expression_kept}

-- ---- what is within the limits

abbrev pub LightAssigned : Assigned → Type 0
LightAssigned (Value e) = IsLight e
LightAssigned (FieldPtr s) = Unit {0}

-- a statement whose expressions are light, and whose blocks are so
abbrev pub FitsBy : (Statements → Type 0) → Statement → Type 0
FitsBy Inside (Store s c v) = LightAssigned v
FitsBy Inside (StoreField s c f v) = LightAssigned v
FitsBy Inside (Var s l t c) = Unit {0}
FitsBy Inside (If s e b) = IsLight e × Inside b
FitsBy Inside (IfElse s e b d) = IsLight e × Inside b × Inside d
FitsBy Inside (Return s e) = IsLight e
FitsBy Inside (Abort s) = Unit {0}

abbrev pub EachIn : (Statement → Type 0) → Statements → Type 0
EachIn F End = Unit {0}
EachIn F (More x xs) = F x × EachIn F xs

-- so many further braces may be open in it
abbrev pub Fits : ℕ → Statement → Type 0
Fits zero = FitsBy (λ b. ⊥)
Fits (suc n) = FitsBy (EachIn (Fits n))

-- ---- statements

light_solid : (expr making Value).reader.may_be_empty ≡ false
unfolding expr
light_solid = refl

assigned_kept : (a : Assigned) → LightAssigned a → Kept assigned (assigned_pieces a) (λ r. unspanned_assigned r ≡ unspanned_assigned a)
unfolding assigned expr
assigned_kept (Value v) f = first (terminal kinds.FieldPtr making FieldPtr) (made Value (expression_kept v f) (λ r g. ap (λ (x : Tree). Value x) g)) light_solid
assigned_kept (FieldPtr s) f = into assigned kinds.FieldPtr (made FieldPtr (terminal_kept kinds.FieldPtr refl) (λ r g. refl)) refl (λ t ts e. rw e refl) refl refl

-- ---- one statement, by what its blocks are

module _ (braced : Grammar (List Statement × Span)) (Inside : Statements → Type 0)
    (block_kept : (b : Statements) → Inside b → Kept (seen_as braced.Spells (only kinds.OpenBrace) [] braced) (in_braces (block_pieces b)) (λ x. SameBlock b x.0)) where
  abbrev W : Grammar Statement
  W = statement_from braced

  -- the block of `else`
  abbrev otherwise : Grammar (List Statement × Span)
  otherwise = (terminal kinds.Else then seen_as braced.Spells (only kinds.OpenBrace) [] braced) making λ (at, block). block

  abbrev if_made : Span × (Span × (Tree × (Span × ((List Statement × Span) × Option (List Statement × Span))))) → Statement
  if_made = λ (at, (opening, (condition, (closing, (block, other))))). if_of at condition block other

  from_kept : (x : Statement) → FitsBy Inside x → Kept W (statement_pieces x) (λ r. unspanned_statement r ≡ unspanned_statement x)
  unfolding assigned expr
  from_kept (Store s cell value) f =
      into W kinds.Star (made (λ (at, (cell, (assign, (value, end)))). Store (over at end) cell value)
      (both (terminal_kept kinds.Star refl) (both (name_kept cell) (both (blank (terminal_kept kinds.Assign refl)) (both (blank (assigned_kept value f)) (terminal_kept kinds.Semicolon refl) refl) refl) refl) refl)
      (λ x g. cc (g.1.0, g.1.1.1.0)))
      refl (λ t ts e. rw e refl) refl refl
  from_kept (StoreField s cell field value) f =
      into W (kinds.Name cell.text) (made (λ (cells, (arrow, (field, (assign, (value, end))))). StoreField (over cells.span end) cells field value)
      (both (name_kept cell) (both (terminal_kept kinds.Arrow refl) (both (name_kept field) (both (blank (terminal_kept kinds.Assign refl)) (both (blank (assigned_kept value f)) (terminal_kept kinds.Semicolon refl) refl) refl) refl) refl) refl)
      (λ x g. cc (g.0, g.1.1.0, g.1.1.1.1.0)))
      refl (λ t ts e. rw e refl) refl refl
  from_kept (Var s local star cell) f =
      into W kinds.Var (made (λ (at, (local, (assign, (star, (cell, end))))). Var (over at end) local star cell)
      (both (terminal_kept kinds.Var refl) (both (blank (name_kept local)) (both (blank (terminal_kept kinds.Assign refl)) (both (blank (terminal_kept kinds.Star refl)) (both (name_kept cell) (terminal_kept kinds.Semicolon refl) refl) refl) refl) refl) refl)
      (λ x g. cc (g.1.0, g.1.1.1.1.0)))
      refl (λ t ts e. rw e refl) refl refl
  from_kept (If s condition block) f =
      into W kinds.If (made if_made
      (both (terminal_kept kinds.If refl) (both (blank (terminal_kept kinds.OpenParen refl)) (both (expression_kept condition f.0) (both (terminal_kept kinds.CloseParen refl)
      (alone otherwise (blank (block_kept block f.1)) refl) refl) refl) refl) refl)
      (λ x g. if_same s x.0 x.1.1.0 condition block x.1.1.1.1.0 x.1.1.1.1.1 g.1.1.0 g.1.1.1.1.0 g.1.1.1.1.1))
      refl (λ t ts e. rw e refl) refl refl
  from_kept (IfElse s condition block other) f =
      into W kinds.If (made if_made
      (both (terminal_kept kinds.If refl) (both (blank (terminal_kept kinds.OpenParen refl)) (both (expression_kept condition f.0) (both (terminal_kept kinds.CloseParen refl)
      (both (blank (block_kept block f.1))
      (some {H = Otherwise other} refl (made {H = λ x. SameBlock other x.0} (λ (at, block). block) (both (blank (terminal_kept kinds.Else refl)) (blank (block_kept other f.2)) refl) (λ x g. g.1)) (λ x g. g)) refl) refl) refl) refl) refl)
      (λ x g. if_else_same s x.0 x.1.1.0 condition block other x.1.1.1.1.0 x.1.1.1.1.1 g.1.1.0 g.1.1.1.1.0 g.1.1.1.1.1))
      refl (λ t ts e. rw e refl) refl refl
  from_kept (Return s value) f =
      into W kinds.Return (made (λ (at, (value, end)). Return (over at end) value)
      (both (terminal_kept kinds.Return refl) (both (blank (expression_kept value f)) (terminal_kept kinds.Semicolon refl) refl) refl)
      (λ x g. cc (g.1.0)))
      refl (λ t ts e. rw e refl) refl refl
  from_kept (Abort s) f =
      into W kinds.Abort (made (λ (at, end). Abort (over at end)) (both (terminal_kept kinds.Abort refl) (terminal_kept kinds.Semicolon refl) refl) (λ x g. refl)) refl (λ t ts e. rw e refl) refl refl

-- ---- blocks

module _ (n : ℕ) (F : Statement → Type 0) (inner : (x : Statement) → F x → Kept (statement n) (statement_pieces x) (λ r. unspanned_statement r ≡ unspanned_statement x)) where
  block_all : (b : Statements) → EachIn F b → AllKept (statement n) refl refl (block_pieces b) (SameBlock b)
  block_all End f = record { read = λ tokens e. let r = (nil (statement n) refl refl).read tokens e in (r.0, r.1, r.2, ap (λ (l : List Statement). unspanned_block (block_of l)) r.3) }
  block_all (More x xs) f = more (statement n) refl refl (inner x f.0) (spaced_all (statement n) refl refl (block_all xs f.1)) (λ y ys e g. cc (e, g))

  braced_kept : (b : Statements) → EachIn F b → Kept (seen_as (braced_of (statement n)).Spells (only kinds.OpenBrace) [] (braced_of (statement n))) (in_braces (block_pieces b)) (λ x. SameBlock b x.0)
  braced_kept b f =
      seen (braced_of (statement n)).Spells (only kinds.OpenBrace) []
      (made _ (both (terminal_kept kinds.OpenBrace refl) (both (blank (all (statement n) refl refl (block_all b f))) (terminal_kept kinds.CloseBrace refl) refl) refl) (λ x g. g.1.0)) refl refl refl

-- ---- statements and actions

statement_kept : (n : ℕ) (x : Statement) → Fits n x → Kept (statement n) (statement_pieces x) (λ r. unspanned_statement r ≡ unspanned_statement x)
unfolding statement_within expr assigned
statement_kept zero x f =
    seen SpellsStatement begins goes_on
    (from_kept (too_deep (braced_of (spelled_by SpellsStatement)).Spells (only kinds.OpenBrace)) (λ b. ⊥) (λ b h. absurd h) x f) refl refl refl
statement_kept (suc n) x f =
    seen SpellsStatement begins goes_on (from_kept (braced_of (statement n)) (EachIn (Fits n)) (braced_kept n (Fits n) (statement_kept n)) x f) refl refl refl

abbrev pub FitsAction : ActionTree → Type 0
FitsAction (Done kind span statements) = Each (Fits BRACES) statements
FitsAction (Copied span name) = Unit {0}

abbrev copied : Grammar ActionTree
copied = (terminal kinds.Copy then name then terminal kinds.CloseBrace) making λ (at, (name, closing)). Copied at name

action_word_kept : (k : ActionKind) → Kept (word action_kinds action_of) (Word (action_kind k) ∷ []) (λ x. x.0 ≡ k)
action_word_kept k = plainly action_word never_one (word_of_action k)

after_kept : (x : Statement) → Fits BRACES x → Kept (statement BRACES) (statement_after x) (λ r. unspanned_statement r ≡ unspanned_statement x)
after_kept x f = blank (statement_kept BRACES x f)

pub action_kept : (a : ActionTree) → FitsAction a → Kept action (action_pieces a) (λ r. unspanned_action r ≡ unspanned_action a)
unfolding action
action_kept (Done kind span statements) f =
    first copied (made (λ ((kind, at), (statements, closing)). Done kind at statements)
    (both (action_word_kept kind) (both (each_kept (statement BRACES) refl refl statement_after unspanned_statement (Fits BRACES) after_kept statements f) (terminal_kept kinds.CloseBrace refl) refl) refl)
    (λ x g. cc (g.0, g.1.0))) refl
action_kept (Copied span name) f =
    into action kinds.Copy (made (λ (at, (name, closing)). Copied at name) (both (terminal_kept kinds.Copy refl) (both (blank (name_kept name)) (terminal_kept kinds.CloseBrace refl) refl) refl) (λ x g. cc (g.1.0)))
    refl (λ t ts e. rw e refl) refl refl
