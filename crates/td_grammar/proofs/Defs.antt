-- Definitions are exact and unambiguous. Cited by other crates.
use Rattle.std.proofs.Common.{refl}
use Rattle.td_ast.specs.declared.token.TokenKind.TheVariants as kinds
use Rattle.td_grammar.specs.Sets.{only}
use Rattle.td_grammar.specs.Expressions.{expr}
use Rattle.td_grammar.specs.Actions.{action}
use Rattle.td_grammar.specs.Listed.{listed}
use Rattle.td_grammar.specs.Tokens.{dotted, qualified, constant, plain}
use Rattle.td_grammar.specs.Sequences.{some_of, in_parentheses}
use Rattle.td_grammar.specs.Parameters.{is_byte, target, room, bytes, cell, place, param, head}
use Rattle.td_grammar.specs.Fields.{type_tree, source, extent, refinement, field}
use Rattle.td_grammar.specs.Definitions.{closing, enum_head, subject, default_case, cases, case_tree, item, slot, define, enumeration, struct_rest, casetype, alias_rest, typedef, entrypoint, output, def, module_text}
use Rattle.td_grammar.proofs.Exact.{IsExact}
use Rattle.td_grammar.proofs.Proper.{IsProper, terminal_proper, name_proper, literal_proper, number_type_proper, expr_proper, action_proper, sequel, making_proper, or_proper, either_proper, maybe_proper, all_proper, listed_proper}
use Rattle.td_grammar.proofs.Bytes.{byte_proper, wider_proper, bytes_tested, cell_tested}

dotted_proper : IsProper dotted
dotted_proper = making_proper _ _ (sequel (terminal_proper kinds.Dot refl) name_proper refl)

qualified_proper : IsProper qualified
qualified_proper = making_proper _ _ (sequel name_proper (maybe_proper dotted dotted_proper refl) refl)

constant_proper : IsProper constant
constant_proper = or_proper _ _ (making_proper _ _ literal_proper) (making_proper _ _ qualified_proper) refl refl refl

plain_proper : IsProper plain
plain_proper = or_proper _ _ (making_proper _ _ number_type_proper) (making_proper _ _ qualified_proper) refl refl refl

target_proper : IsProper target
target_proper = or_proper _ _ (making_proper _ _ wider_proper) (or_proper _ _ (making_proper _ _ (terminal_proper kinds.Pointer refl)) (making_proper _ _ qualified_proper) refl refl refl) refl refl refl

room_proper : IsProper room
room_proper = making_proper _ _ (sequel (terminal_proper kinds.OpenBracket refl) (sequel constant_proper (terminal_proper kinds.CloseBracket refl) refl) refl)

bytes_proper : IsProper bytes
bytes_proper = making_proper _ _ (sequel byte_proper (sequel (terminal_proper kinds.Star refl) (sequel name_proper (maybe_proper room room_proper refl) refl) refl) refl)

cell_proper : IsProper cell
cell_proper = making_proper _ _ (sequel target_proper (sequel (terminal_proper kinds.Star refl) name_proper refl) refl)

place_proper : IsProper place
place_proper = either_proper (λ t. is_byte t.kind) bytes cell bytes_proper cell_proper refl refl bytes_tested cell_tested

param_proper : IsProper param
unfolding param
param_proper =
    or_proper _ _ (making_proper _ _ (sequel plain_proper name_proper refl))
    (making_proper _ _ (sequel (terminal_proper kinds.Mutable refl) place_proper refl)) refl refl refl

params_proper : IsProper (in_parentheses param)
unfolding param
params_proper =
    making_proper _ _ (maybe_proper _ (making_proper _ _ (sequel (terminal_proper kinds.OpenParen refl)
    (sequel (making_proper _ _ (sequel param_proper (all_proper _ (making_proper _ _ (sequel (terminal_proper kinds.Comma refl) param_proper refl)) refl refl) refl)) (terminal_proper kinds.CloseParen refl) refl) refl)) refl)

arguments_proper : IsProper (in_parentheses expr)
unfolding expr
arguments_proper =
    making_proper _ _ (maybe_proper _ (making_proper _ _ (sequel (terminal_proper kinds.OpenParen refl)
    (sequel (making_proper _ _ (sequel expr_proper (all_proper _ (making_proper _ _ (sequel (terminal_proper kinds.Comma refl) expr_proper refl)) refl refl) refl)) (terminal_proper kinds.CloseParen refl) refl) refl)) refl)

head_proper : IsProper head
unfolding head param expr
head_proper = making_proper _ _ (sequel params_proper (maybe_proper _ (making_proper _ _ (sequel (terminal_proper kinds.Where refl) expr_proper refl)) refl) refl)

type_tree_proper : IsProper type_tree
unfolding type_tree expr
type_tree_proper =
    or_proper _ _ (making_proper _ _ number_type_proper)
    (or_proper _ _ (making_proper _ _ (terminal_proper kinds.Unit refl))
    (or_proper _ _ (making_proper _ _ (terminal_proper kinds.AllBytes refl))
    (or_proper _ _ (making_proper _ _ (terminal_proper kinds.AllZeros refl))
    (making_proper _ _ (sequel qualified_proper arguments_proper refl)) refl refl refl) refl refl refl) refl refl refl) refl refl refl

source_proper : IsProper source
unfolding source expr
source_proper = or_proper _ _ (making_proper _ _ (sequel (terminal_proper kinds.Star refl) name_proper refl)) (making_proper _ _ expr_proper) refl refl refl

extent_proper : IsProper extent
unfolding extent source expr
extent_proper =
    or_proper _ _ (making_proper _ _ (sequel (terminal_proper kinds.OpenBracket refl) (sequel expr_proper (terminal_proper kinds.CloseBracket refl) refl) refl))
    (or_proper _ _ (making_proper _ _ (sequel (terminal_proper kinds.ByteSize refl) (sequel expr_proper (terminal_proper kinds.CloseBracket refl) refl) refl))
    (or_proper _ _ (making_proper _ _ (sequel (terminal_proper kinds.SingleElement refl) (sequel expr_proper (terminal_proper kinds.CloseBracket refl) refl) refl))
    (or_proper _ _ (making_proper _ _ (sequel (terminal_proper kinds.Zeroterm refl) (sequel expr_proper (terminal_proper kinds.CloseBracket refl) refl) refl))
    (or_proper _ _ (making_proper _ _ (sequel (terminal_proper kinds.Colon refl) literal_proper refl))
    (making_proper _ _ (sequel (terminal_proper kinds.Assign refl) source_proper refl)) refl refl refl) refl refl refl) refl refl refl) refl refl refl) refl refl refl

refinement_proper : IsProper refinement
unfolding refinement expr
refinement_proper = making_proper _ _ (sequel (terminal_proper kinds.OpenBrace refl) (sequel expr_proper (terminal_proper kinds.CloseBrace refl) refl) refl)

field_proper : IsProper field
unfolding field type_tree extent source refinement action expr
field_proper =
    making_proper _ _ (sequel type_tree_proper (sequel name_proper (sequel (maybe_proper _ extent_proper refl) (sequel (maybe_proper _ refinement_proper refl)
    (sequel (maybe_proper _ action_proper refl) (terminal_proper kinds.Semicolon refl) refl) refl) refl) refl) refl)

fields_proper : IsProper (some_of field)
unfolding field type_tree
fields_proper = making_proper _ _ (sequel field_proper (all_proper field field_proper refl refl) refl)

case_proper : IsProper case_tree
unfolding case_tree field type_tree
case_proper = making_proper _ _ (sequel (terminal_proper kinds.Case refl) (sequel constant_proper (sequel (terminal_proper kinds.Colon refl) fields_proper refl) refl) refl)

some_cases_proper : IsProper (some_of case_tree)
unfolding case_tree field type_tree
some_cases_proper = making_proper _ _ (sequel case_proper (all_proper case_tree case_proper refl refl) refl)

item_proper : IsProper item
unfolding item
item_proper = making_proper _ _ (sequel name_proper (maybe_proper _ (making_proper _ _ (sequel (terminal_proper kinds.Assign refl) constant_proper refl)) refl) refl)

slot_proper : IsProper slot
unfolding slot
slot_proper = making_proper _ _ (sequel (or_proper _ _ (making_proper _ _ number_type_proper) (making_proper _ _ (terminal_proper kinds.Pointer refl)) refl refl refl) (sequel name_proper (terminal_proper kinds.Semicolon refl) refl) refl)

slots_proper : IsProper (some_of slot)
unfolding slot
slots_proper = making_proper _ _ (sequel slot_proper (all_proper slot slot_proper refl refl) refl)

define_proper : IsProper define
unfolding define
define_proper = making_proper _ _ (sequel (terminal_proper kinds.Define refl) (sequel name_proper literal_proper refl) refl)

closing_proper : IsProper closing
closing_proper = making_proper _ _ (sequel (terminal_proper kinds.CloseBrace refl) (sequel name_proper (terminal_proper kinds.Semicolon refl) refl) refl)

struct_rest_proper : IsProper struct_rest
unfolding struct_rest head param expr field type_tree
struct_rest_proper = making_proper _ _ (sequel name_proper (sequel head_proper (sequel (terminal_proper kinds.OpenBrace refl) (sequel fields_proper closing_proper refl) refl) refl) refl)

subject_proper : IsProper subject
unfolding expr
subject_proper =
    making_proper _ _ (sequel (terminal_proper kinds.Switch refl) (sequel (terminal_proper kinds.OpenParen refl) (sequel expr_proper (sequel (terminal_proper kinds.CloseParen refl) (terminal_proper kinds.OpenBrace refl) refl) refl) refl) refl)

default_proper : IsProper default_case
unfolding field type_tree
default_proper = making_proper _ _ (sequel (terminal_proper kinds.Default refl) (sequel (terminal_proper kinds.Colon refl) fields_proper refl) refl)

cases_proper : IsProper cases
unfolding cases case_tree field type_tree expr
cases_proper = making_proper _ _ (sequel subject_proper (sequel some_cases_proper (sequel (maybe_proper _ default_proper refl) (terminal_proper kinds.CloseBrace refl) refl) refl) refl)

casetype_proper : IsProper casetype
unfolding casetype cases case_tree field type_tree head param expr
casetype_proper =
    making_proper _ _ (sequel (terminal_proper kinds.Casetype refl) (sequel name_proper (sequel head_proper (sequel (terminal_proper kinds.OpenBrace refl) (sequel cases_proper closing_proper refl) refl) refl) refl) refl)

alias_rest_proper : IsProper alias_rest
unfolding alias_rest
alias_rest_proper = making_proper _ _ (sequel plain_proper (sequel name_proper (terminal_proper kinds.Semicolon refl) refl) refl)

typedef_proper : IsProper typedef
unfolding typedef alias_rest struct_rest
typedef_proper = making_proper _ _ (sequel (terminal_proper kinds.Typedef refl) (or_proper _ _ alias_rest_proper (making_proper _ _ (sequel (terminal_proper kinds.Struct refl) struct_rest_proper refl)) refl refl refl) refl)

entrypoint_proper : IsProper entrypoint
unfolding entrypoint casetype struct_rest
entrypoint_proper =
    making_proper _ _ (sequel (terminal_proper kinds.Entrypoint refl)
    (or_proper _ _ (making_proper _ _ (sequel (terminal_proper kinds.Typedef refl) (sequel (terminal_proper kinds.Struct refl) struct_rest_proper refl) refl)) casetype_proper refl refl refl) refl)

output_proper : IsProper output
unfolding output slot
output_proper =
    making_proper _ _ (sequel (terminal_proper kinds.Output refl) (sequel (terminal_proper kinds.Typedef refl) (sequel (terminal_proper kinds.Struct refl) (sequel name_proper (sequel (terminal_proper kinds.OpenBrace refl)
    (sequel slots_proper closing_proper refl) refl) refl) refl) refl) refl)

items_proper : IsProper (listed (only kinds.Comma) item)
unfolding item
items_proper = listed_proper item item_proper refl (only kinds.Comma) refl

enum_head_proper : IsProper enum_head
enum_head_proper = making_proper _ _ (sequel number_type_proper (sequel (terminal_proper kinds.Enum refl) (sequel name_proper (terminal_proper kinds.OpenBrace refl) refl) refl) refl)

enumeration_proper : IsProper enumeration
unfolding enumeration item
enumeration_proper =
    making_proper _ _ (sequel enum_head_proper (sequel items_proper (sequel (terminal_proper kinds.CloseBrace refl) (maybe_proper _ (terminal_proper kinds.Semicolon refl) refl) refl) refl) refl)

pub def_proper : IsProper def
unfolding def define enumeration typedef casetype entrypoint output alias_rest struct_rest
def_proper =
    or_proper _ _ define_proper (or_proper _ _ enumeration_proper (or_proper _ _ typedef_proper (or_proper _ _ (making_proper _ _ casetype_proper) (or_proper _ _ entrypoint_proper output_proper refl refl refl) refl refl refl) refl refl refl) refl refl refl) refl refl refl

pub module_text_proper : IsProper module_text
unfolding module_text cases def define enumeration typedef casetype entrypoint output alias_rest struct_rest head field type_tree expr case_tree slot
module_text_proper = making_proper _ _ (all_proper def def_proper refl refl)

-- ---- what is read of them

pub param_exact : IsExact param
param_exact = param_proper.exact

pub field_exact : IsExact field
field_exact = field_proper.exact

pub case_exact : IsExact case_tree
case_exact = case_proper.exact

pub item_exact : IsExact item
item_exact = item_proper.exact

pub slot_exact : IsExact slot
slot_exact = slot_proper.exact

pub define_exact : IsExact define
define_exact = define_proper.exact

pub enumeration_exact : IsExact enumeration
enumeration_exact = enumeration_proper.exact

pub alias_rest_exact : IsExact alias_rest
alias_rest_exact = alias_rest_proper.exact

pub output_exact : IsExact output
output_exact = output_proper.exact

pub def_exact : IsExact def
def_exact = def_proper.exact

pub module_text_exact : IsExact module_text
module_text_exact = module_text_proper.exact
