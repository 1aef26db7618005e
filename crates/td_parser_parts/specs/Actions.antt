-- Parts of the productions of actions, as the code reads them; what is nested, by how many braces may be open.
use Rattle.std.specs.Prelude.{ℕ, zero, suc, List, [], ◌∷◌, Option}
use Rattle.td_ast.specs.declared.token.Span.{Span}
use Rattle.td_ast.specs.declared.token.TokenKind.TheVariants as kinds
use Rattle.td_ast.specs.declared.names.Name.{Name}
use Rattle.td_ast.specs.declared.actions.ActionKind.{ActionKind}
use Rattle.td_ast.specs.declared.actions.ActionTree.{ActionTree}
use Rattle.td_ast.specs.declared.actions.ActionTree.TheVariants.{Done, Copied}
use Rattle.td_ast.specs.declared.actions.Assigned.{Assigned}
use Rattle.td_ast.specs.Trees.{Tree, over}
use Rattle.td_ast.specs.Statements.{Statement, Store, StoreField, Var, Return, Abort}
use Rattle.td_grammar.specs.Grammar.{Grammar, ◌then◌, ◌making◌, maybe, all_of, too_deep, spelled_by}
use Rattle.td_grammar.specs.Tokens.{terminal, name, word}
use Rattle.td_grammar.specs.Expressions.{expr}
use Rattle.td_grammar.specs.Actions.{action_kinds, action_of, assigned, if_of, statement_from, braced_of, SpellsStatement, statement}
use Rattle.td_grammar.specs.declared.limits.TheConstants.{BRACES}
use Rattle.td_grammar.specs.Sets.{set_of, only}

abbrev pub braced_at : ℕ → Grammar (List Statement × Span)
braced_at zero = too_deep (braced_of (spelled_by SpellsStatement)).Spells (only kinds.OpenBrace)
braced_at (suc n) = braced_of (statement n)

abbrev pub other_at : ℕ → Grammar (List Statement × Span)
other_at n = (terminal kinds.Else then braced_at n) making λ (at, block). block

-- the condition of an `if`, from its parenthesis on
abbrev pub condition : Grammar (Span × (Tree × Span))
condition = terminal kinds.OpenParen then expr then terminal kinds.CloseParen

-- what an `if` does, after its condition
abbrev pub branches_at : ℕ → Grammar ((List Statement × Span) × Option (List Statement × Span))
branches_at n = braced_at n then maybe (other_at n)

abbrev pub store : Grammar Statement
store = (terminal kinds.Star then name then terminal kinds.Assign then assigned then terminal kinds.Semicolon) making λ (at, (cell, (assign, (value, end)))). Store (over at end) cell value

abbrev pub store_field : Grammar Statement
store_field = (name then terminal kinds.Arrow then name then terminal kinds.Assign then assigned then terminal kinds.Semicolon) making λ (cells, (arrow, (field, (assign, (value, end))))). StoreField (over cells.span end) cells field value

-- "=" "*" NAME ";"
abbrev pub load : Grammar (Span × (Span × (Name × Span)))
load = terminal kinds.Assign then terminal kinds.Star then name then terminal kinds.Semicolon

abbrev pub variable : Grammar Statement
variable = (terminal kinds.Var then name then terminal kinds.Assign then terminal kinds.Star then name then terminal kinds.Semicolon) making λ (at, (local, (assign, (star, (cell, end))))). Var (over at end) local star cell

abbrev pub if_at : ℕ → Grammar Statement
if_at n = (terminal kinds.If then terminal kinds.OpenParen then expr then terminal kinds.CloseParen then braced_at n then maybe (other_at n)) making λ (at, (opening, (condition, (closing, (block, other))))). if_of at condition block other

abbrev pub returning : Grammar Statement
returning = (terminal kinds.Return then expr then terminal kinds.Semicolon) making λ (at, (value, end)). Return (over at end) value

abbrev pub aborting : Grammar Statement
aborting = (terminal kinds.Abort then terminal kinds.Semicolon) making λ (at, end). Abort (over at end)

-- "=" rhs ";"
abbrev pub assignment : Grammar (Span × (Assigned × Span))
assignment = terminal kinds.Assign then assigned then terminal kinds.Semicolon

-- { stmt } "}"
abbrev pub braced_end_at : ℕ → Grammar (List Statement × Span)
braced_end_at n = all_of (statement n) then terminal kinds.CloseBrace

abbrev pub statement_at : ℕ → Grammar Statement
statement_at n = statement_from (braced_at n)

abbrev pub action_word : Grammar (ActionKind × Span)
action_word = word action_kinds action_of

abbrev pub done : Grammar ActionTree
done = (action_word then all_of (statement BRACES) then terminal kinds.CloseBrace) making λ ((kind, at), (statements, closing)). Done kind at statements

abbrev pub copied : Grammar ActionTree
copied = (terminal kinds.Copy then name then terminal kinds.CloseBrace) making λ (at, (name, closing)). Copied at name

-- the first token of an action
abbrev pub action_begins : List ℕ
action_begins = set_of (kinds.Act ∷ kinds.Check ∷ kinds.OnSuccess ∷ kinds.Copy ∷ [])
