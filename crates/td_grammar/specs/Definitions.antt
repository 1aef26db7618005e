-- The productions of definitions (3D manual, "Structs", "Enumerated types", "Tagged unions", "Actions").
use Rattle.std.specs.Prelude.{Bool, true, false, List, Option}
use Rattle.td_ast.specs.declared.token.TokenKind.TheVariants as kinds
use Rattle.td_ast.specs.declared.names.Name.{Name}
use Rattle.td_ast.specs.declared.names.NumberTree.{NumberTree}
use Rattle.td_ast.specs.declared.fields.FieldTree.{FieldTree}
use Rattle.td_ast.specs.declared.definitions.CaseTree.{CaseTree}
use Rattle.td_ast.specs.declared.definitions.ItemTree.{ItemTree}
use Rattle.td_ast.specs.declared.definitions.SlotKind.TheVariants as slots
use Rattle.td_ast.specs.declared.definitions.SlotTree.{SlotTree}
use Rattle.td_ast.specs.declared.definitions.Def.{Def}
use Rattle.td_ast.specs.declared.definitions.Def.TheVariants as defs
use Rattle.td_ast.specs.declared.definitions.ModuleTree.{ModuleTree}
use Rattle.td_ast.specs.Trees.{Tree}
use Rattle.td_grammar.specs.Sets.{only}
use Rattle.td_grammar.specs.Grammar.{Grammar, ◌then◌, ◌making◌, maybe, all_of, ◌or◌}
use Rattle.td_grammar.specs.Tokens.{terminal, name, literal, number_type, constant, plain}
use Rattle.td_grammar.specs.Expressions.{expr}
use Rattle.td_grammar.specs.Listed.{listed}
use Rattle.td_grammar.specs.Sequences.{some_of}
use Rattle.td_grammar.specs.Parameters.{head}
use Rattle.td_grammar.specs.Fields.{field}

-- closing = "}" NAME ";"
abbrev pub closing : Grammar Name
closing = (terminal kinds.CloseBrace then name then terminal kinds.Semicolon) making λ (brace, (name, end)). name

-- case = "case" const ":" field { field }
unfoldable pub case_tree : Grammar CaseTree
case_tree = (terminal kinds.Case then constant then terminal kinds.Colon then some_of field) making λ (at, (constant, (colon, fields))). record { constant = constant; fields = fields }

-- item = NAME ["=" const]
unfoldable pub item : Grammar ItemTree
item = (name then maybe ((terminal kinds.Assign then constant) making λ (assign, value). value)) making λ (name, value). record { name = name; value = value }

-- slot = (INT | "PUINT8") NAME ";"
unfoldable pub slot : Grammar SlotTree
slot = (((number_type making slots.Number) or (terminal kinds.Pointer making slots.Pointer)) then name then terminal kinds.Semicolon)
    making λ (kind, (name, end)). record { kind = kind; name = name }

-- "#define" NAME NUM
unfoldable pub define : Grammar Def
define = (terminal kinds.Define then name then literal) making λ (at, (name, value)). defs.Define (record { name = name; value = value })

-- enum_head = INT "enum" NAME "{"
abbrev pub enum_head : Grammar (NumberTree × Name)
enum_head = (number_type then terminal kinds.Enum then name then terminal kinds.OpenBrace) making λ (base, (at, (name, opening))). (base, name)

-- enum_head item { "," item } [","] "}" [";"]
unfoldable pub enumeration : Grammar Def
enumeration =
    (enum_head then listed (only kinds.Comma) item then terminal kinds.CloseBrace then maybe (terminal kinds.Semicolon))
    making λ ((base, name), (items, (closing, end))). defs.Enum (record { base = base; name = name; items = items })

-- NAME head "{" field { field } closing, after ["entrypoint"] "typedef" "struct"
unfoldable pub struct_rest : Grammar (Bool → Def)
struct_rest =
    (name then head then terminal kinds.OpenBrace then some_of field then closing)
    making λ (tag, (head, (opening, (fields, name)))) entry. defs.Struct (record { entry = entry; tag = tag; head = head; fields = fields; name = name })

-- subject = "switch" "(" expr ")" "{"
abbrev pub subject : Grammar Tree
subject = (terminal kinds.Switch then terminal kinds.OpenParen then expr then terminal kinds.CloseParen then terminal kinds.OpenBrace)
    making λ (at, (paren, (value, (close, opening)))). value

-- default_case = "default" ":" field { field }
abbrev pub default_case : Grammar (List FieldTree)
default_case = (terminal kinds.Default then terminal kinds.Colon then some_of field) making λ (at, (colon, fields)). fields

-- cases = subject case { case } [ default_case ] "}"
unfoldable pub cases : Grammar (Tree × List CaseTree × Option (List FieldTree))
cases = (subject then some_of case_tree then maybe default_case then terminal kinds.CloseBrace) making λ (value, (some, (default, closing))). (value, some, default)

-- "casetype" NAME head "{" cases closing
unfoldable pub casetype : Grammar (Bool → Def)
casetype =
    (terminal kinds.Casetype then name then head then terminal kinds.OpenBrace then cases then closing)
    making λ (at, (tag, (head, (opening, (body, name))))) entry.
    defs.Casetype (record { entry = entry; tag = tag; head = head; subject = body.0; cases = body.1; default = body.2; name = name })

-- plain NAME ";", after "typedef"
unfoldable pub alias_rest : Grammar Def
alias_rest = (plain then name then terminal kinds.Semicolon) making λ (target, (name, end)). defs.Alias (record { target = target; name = name })

-- without `entrypoint`
abbrev pub plainly : (Bool → Def) → Def
plainly made_of = made_of false

-- "typedef" (plain NAME ";" | "struct" ..)
unfoldable pub typedef : Grammar Def
typedef = (terminal kinds.Typedef then (alias_rest or ((terminal kinds.Struct then struct_rest) making λ (at, made_of). made_of false))) making λ (at, made). made

-- "entrypoint" ("typedef" "struct" .. | "casetype" ..)
unfoldable pub entrypoint : Grammar Def
entrypoint =
    (terminal kinds.Entrypoint then (((terminal kinds.Typedef then terminal kinds.Struct then struct_rest) making λ (at, (struct, made_of)). made_of) or casetype))
    making λ (at, made_of). made_of true

-- "output" "typedef" "struct" NAME "{" slot { slot } closing
unfoldable pub output : Grammar Def
output =
    (terminal kinds.Output then terminal kinds.Typedef then terminal kinds.Struct then name then terminal kinds.OpenBrace then some_of slot then closing)
    making λ (at, (typedef, (struct, (tag, (opening, (slots, name)))))). defs.Output (record { tag = tag; slots = slots; name = name })

-- def = "#define" .. | enum | "typedef" .. | casetype | "entrypoint" .. | "output" ..
unfoldable pub def : Grammar Def
def = define or enumeration or typedef or (casetype making plainly) or entrypoint or output

-- module = { def }
unfoldable pub module_text : Grammar ModuleTree
module_text = all_of def making λ definitions. record { definitions = definitions }
