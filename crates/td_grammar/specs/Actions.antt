-- The productions of actions (3D manual, "Actions").
use Rattle.std.specs.Prelude.{ℕ, zero, suc, List, [], ◌∷◌, Option, Some, None}
use Rattle.td_ast.specs.declared.token.Token.{Token}
use Rattle.td_ast.specs.declared.token.Span.{Span}
use Rattle.td_ast.specs.declared.token.TokenKind.{TokenKind}
use Rattle.td_ast.specs.declared.token.TokenKind.TheVariants as kinds
use Rattle.td_ast.specs.declared.actions.Assigned.{Assigned}
use Rattle.td_ast.specs.declared.actions.Assigned.TheVariants.{Value, FieldPtr}
use Rattle.td_ast.specs.declared.actions.ActionKind.{ActionKind}
use Rattle.td_ast.specs.declared.actions.ActionKind.TheVariants as actions
use Rattle.td_ast.specs.declared.actions.ActionTree.{ActionTree}
use Rattle.td_ast.specs.declared.actions.ActionTree.TheVariants.{Done, Copied}
use Rattle.td_ast.specs.Trees.{Tree, over}
use Rattle.td_ast.specs.Statements.{Statement, Store, StoreField, Var, If, IfElse, Return, Abort, block_of}
use Rattle.td_grammar.specs.Spelling.{SpellsNested}
use Rattle.td_grammar.specs.Grammar.{Grammar, ◌then◌, ◌making◌, maybe, all_of, ◌or◌, too_deep, spelled_by, seen_as}
use Rattle.td_grammar.specs.declared.limits.TheConstants.{BRACES}
use Rattle.td_grammar.specs.Sets.{set_of, only, any_name}
use Rattle.td_grammar.specs.Tokens.{terminal, name, word}
use Rattle.td_grammar.specs.Expressions.{expr}

-- rhs = expr | "field_ptr"
unfoldable pub assigned : Grammar Assigned
assigned = (expr making Value) or (terminal kinds.FieldPtr making FieldPtr)

abbrev pub if_of : Span → Tree → List Statement × Span → Option (List Statement × Span) → Statement
if_of at condition block None = If (over at block.1) condition (block_of block.0)
if_of at condition block (Some other) = IfElse (over at other.1) condition (block_of block.0) (block_of other.0)

-- stmt = "*" NAME "=" rhs ";" | NAME "->" NAME "=" rhs ";" | "var" NAME "=" "*" NAME ";"
--      | "if" "(" expr ")" braced [ "else" braced ] | "return" expr ";" | "abort" ";"
-- braced = "{" { stmt } "}"
abbrev pub statement_from : Grammar (List Statement × Span) → Grammar Statement
statement_from any_braced =
    let braced = seen_as any_braced.Spells (only kinds.OpenBrace) [] any_braced in
    ((terminal kinds.Star then name then terminal kinds.Assign then assigned then terminal kinds.Semicolon)
    making λ (at, (cell, (assign, (value, end)))). Store (over at end) cell value)
    or ((name then terminal kinds.Arrow then name then terminal kinds.Assign then assigned then terminal kinds.Semicolon)
    making λ (cells, (arrow, (field, (assign, (value, end))))). StoreField (over cells.span end) cells field value)
    or ((terminal kinds.Var then name then terminal kinds.Assign then terminal kinds.Star then name then terminal kinds.Semicolon)
    making λ (at, (local, (assign, (star, (cell, end))))). Var (over at end) local star cell)
    or ((terminal kinds.If then terminal kinds.OpenParen then expr then terminal kinds.CloseParen then braced
    then maybe ((terminal kinds.Else then braced) making λ (at, block). block))
    making λ (at, (opening, (condition, (closing, (block, other))))). if_of at condition block other)
    or ((terminal kinds.Return then expr then terminal kinds.Semicolon) making λ (at, (value, end)). Return (over at end) value)
    or ((terminal kinds.Abort then terminal kinds.Semicolon) making λ (at, end). Abort (over at end))

abbrev pub braced_of : Grammar Statement → Grammar (List Statement × Span)
braced_of statement = (terminal kinds.OpenBrace then all_of statement then terminal kinds.CloseBrace) making λ (opening, (statements, closing)). (statements, closing)

-- what a statement is, by what the statements in it are
abbrev pub statement_body : (Statement → List Token → Type 0) → Statement → List Token → Type 0
statement_body inner = (statement_from (braced_of (spelled_by inner))).Spells

abbrev pub SpellsStatement : Statement → List Token → Type 0
SpellsStatement = SpellsNested statement_body

-- the first token of a statement
abbrev pub begins : List ℕ
begins = set_of (any_name ∷ kinds.Star ∷ kinds.Var ∷ kinds.If ∷ kinds.Return ∷ kinds.Abort ∷ [])

-- what may go on with one
abbrev pub goes_on : List ℕ
goes_on = set_of (kinds.Else ∷ [])

-- a statement in which at most n braces are open at one time
unfoldable pub statement_within : ℕ → Grammar Statement
statement_within zero = statement_from (too_deep (braced_of (spelled_by SpellsStatement)).Spells (only kinds.OpenBrace))
statement_within (suc n) = statement_from (braced_of (seen_as SpellsStatement begins goes_on (statement_within n)))

abbrev pub statement : ℕ → Grammar Statement
statement n = seen_as SpellsStatement begins goes_on (statement_within n)

abbrev pub action_of : TokenKind → Option ActionKind
action_of kinds.Act = Some actions.Act
action_of kinds.Check = Some actions.Check
action_of kinds.OnSuccess = Some actions.OnSuccess
action_of _ = None

abbrev pub action_kinds : List ℕ
action_kinds = set_of (kinds.Act ∷ kinds.Check ∷ kinds.OnSuccess ∷ [])

-- action = ACTWORD { stmt } "}" | "{:copy" NAME "}" (own rules: at most 16 further braces are open at one time; `{:copy`)
unfoldable pub action : Grammar ActionTree
action =
    ((word action_kinds action_of then all_of (statement BRACES) then terminal kinds.CloseBrace) making λ ((kind, at), (statements, closing)). Done kind at statements)
    or ((terminal kinds.Copy then name then terminal kinds.CloseBrace) making λ (at, (name, closing)). Copied at name)
