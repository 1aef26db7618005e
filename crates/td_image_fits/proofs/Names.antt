-- The names of a module are no more than the nodes of its text, and no longer than the text.
use Rattle.std.proofs.Common.{◌≡◌, ℕ, ◌+◌, ◌^◌, ◌<◌, ◌≤◌, map, Bool, true, false, if◌then◌else◌, List, [], ◌∷◌, ◌++◌, length, Option, Some, None, arith, length-append}
use Rattle.td_num.specs.Lists.{Each}
use Rattle.td_image_fits.specs.Imports.{Token, FieldTree, CaseTree, Def, ModuleTree, Module}
use Rattle.td_ast.specs.declared.parameters.ParamTree.{ParamTree}
use Rattle.td_ast.specs.declared.definitions.SlotTree.{SlotTree}
use Rattle.td_ast.specs.declared.definitions.Def.TheVariants.{Define, Enum, Alias, Struct, Casetype, Output}
use Rattle.td_lexer.specs.Splits.{Splits}
use Rattle.td_grammar.specs.Parts.{input_text}
use Rattle.td_grammar.specs.Laws.{EitherForm}
use Rattle.td_front_flat.specs.Names.{spelled}
use Rattle.td_front_flat.specs.Order.{names_of as parts_names}
use Rattle.td_front_flat.specs.Flat.{flat, spelled_names}
use Rattle.td_ast.specs.declared.parts.InputTree.{InputTree}
use Rattle.td_ast.specs.declared.parts.InputTree.TheVariants.{Module as Parsed, Parts}
use Rattle.td_limits.specs.declared.limits.Limit.TheVariants as limit
use Rattle.td_limits.specs.Excesses.{above, first_excess, definition_name}
use Rattle.td_limits.specs.Nodes.{inner_nodes, fields_nodes, default_nodes, cases_nodes, definition_nodes}
use Rattle.td_limits.specs.Counts.{most_fields, count_cases, count_params, definition_counts, count_excesses, counts_passed}
use Rattle.td_names.specs.Names.{is_seen, with_name}
use Rattle.td_elab_rules.specs.Records.{with_slots}
use Rattle.td_elab_rules.specs.Modules.{StandsFor, param_name, see_params, see_fields, see_cases, see_default, see_definition, all_names, names_of}
use Rattle.td_elab_rules.specs.Written.{names_written}
use Rattle.td_elab_rules.specs.Laws.{NamesAreWritten}
use Rattle.td_front_facts.proofs.Fields.{sum_total}
use Rattle.td_image_fits.proofs.Tokens.{IsShort}
use Rattle.td_image_fits.proofs.Lengths.{module_short, parts_short}
use Rattle.td_image_fits.proofs.Knowns.{all_nodes}
use Rattle.td_num.proofs.Lists.{all_among}
use Rattle.td_limits.proofs.Counting.{none_both, above_none as not_above}

-- ---- how many nodes

last_few : (n nodes : ℕ) (d : Def) → first_excess (definition_counts n nodes d) ≡ None → nodes ≤ 60000
last_few n nodes d h =
    let s = (definition_name d).span in
    let a = none_both (above 4000 n limit.Definitions s) _ h in
    let b = none_both (above 256 (most_fields d) limit.Fields s) _ a.1 in
    let c = none_both (above 256 (count_cases d) limit.Cases s) _ b.1 in
    let e = none_both (above 16 (count_params d) limit.Parameters s) _ c.1 in
    let f = none_both (above 60000 nodes limit.Nodes s) _ e.1 in
    not_above 60000 nodes limit.Nodes s f.0

nodes_few : (n nodes : ℕ) (ds : List Def) → nodes ≤ 60000 → first_excess (count_excesses n nodes ds) ≡ None → nodes + all_nodes ds ≤ 60000
nodes_few n nodes [] few h = omega (arith, few)
nodes_few n nodes (d ∷ ds) few h =
    let both = none_both (definition_counts (n + 1) (nodes + definition_nodes d) d) (count_excesses (n + 1) (nodes + definition_nodes d) ds) h in
    let x = nodes_few (n + 1) (nodes + definition_nodes d) ds (last_few (n + 1) (nodes + definition_nodes d) d both.0) both.1 in
    omega (arith, x)

pub tree_few : (t : ModuleTree) → counts_passed t ≡ None → all_nodes t.definitions ≤ 60000
tree_few t h = (let x = nodes_few 0 0 t.definitions (omega arith) h in omega (arith, x))

-- ---- how many names

with_count : (names : List (List ℕ)) (x : List ℕ) → length (with_name names x) ≤ 1 + length names
with_count names x = by (is_seen names x)
  where
    by : (b : Bool) → length (if b then names else names ++ x ∷ []) ≤ 1 + length names
    by true = omega arith
    by false = (let a = length-append names (x ∷ []) in omega (arith, a))

params_count : (names : List (List ℕ)) (ps : List ParamTree) → length (see_params names ps) ≤ length ps + length names
params_count names [] = omega arith
params_count names (p ∷ ps) = (let x = with_count names (param_name p).text in let y = params_count (with_name names (param_name p).text) ps in omega (arith, x, y))

fields_count : (names : List (List ℕ)) (fs : List FieldTree) → length (see_fields names fs) ≤ fields_nodes fs + length names
fields_count names [] = omega arith
fields_count names (f ∷ fs) =
    let x = with_count names f.name.text in
    let y = fields_count (with_name names f.name.text) fs in
    let a = sum_total (λ f. 1 + inner_nodes f) (f ∷ fs) in
    let b = sum_total (λ f. 1 + inner_nodes f) fs in
    omega (arith, x, y, a, b)

cases_count : (names : List (List ℕ)) (cs : List CaseTree) → length (see_cases names cs) ≤ cases_nodes cs + length names
cases_count names [] = omega arith
cases_count names (c ∷ cs) =
    let x = fields_count names c.fields in
    let y = cases_count (see_fields names c.fields) cs in
    let a = sum_total (λ c. 1 + fields_nodes c.fields) (c ∷ cs) in
    let b = sum_total (λ c. 1 + fields_nodes c.fields) cs in
    omega (arith, x, y, a, b)

default_count : (names : List (List ℕ)) (o : Option (List FieldTree)) → length (see_default names o) ≤ default_nodes o + length names
default_count names None = omega arith
default_count names (Some fs) = fields_count names fs

slots_count : (names : List (List ℕ)) (xs : List SlotTree) → length (with_slots names xs) ≤ length xs + length names
slots_count names [] = omega arith
slots_count names (x ∷ xs) = (let a = with_count names x.name.text in let b = slots_count (with_name names x.name.text) xs in omega (arith, a, b))

definition_count : (names : List (List ℕ)) (d : Def) → length (see_definition names d) ≤ definition_nodes d + length names
definition_count names (Define d) = omega arith
definition_count names (Enum d) = omega arith
definition_count names (Alias d) = omega arith
definition_count names (Struct d) =
    let a = params_count names d.head.params in
    let b = fields_count (see_params names d.head.params) d.fields in
    let c = with_count (see_fields (see_params names d.head.params) d.fields) d.name.text in
    omega (arith, a, b, c)
definition_count names (Casetype d) =
    let seen = see_params names d.head.params in
    let a = params_count names d.head.params in
    let b = cases_count seen d.cases in
    let c = default_count (see_cases seen d.cases) d.default in
    let e = with_count (see_default (see_cases seen d.cases) d.default) d.name.text in
    omega (arith, a, b, c, e)
definition_count names (Output d) = (let a = slots_count names d.slots in omega (arith, a))

all_count : (names : List (List ℕ)) (ds : List Def) → length (all_names names ds) ≤ all_nodes ds + length names
all_count names [] = omega arith
all_count names (d ∷ ds) = (let x = definition_count names d in let y = all_count (see_definition names d) ds in omega (arith, x, y))

pub names_few : (t : ModuleTree) → length (names_of t) ≤ all_nodes t.definitions
names_few t = (let x = all_count [] t.definitions in omega (arith, x))

-- ---- how long they are

pub names_short : NamesAreWritten → EitherForm → (text : List ℕ) (tokens : List Token) (input : InputTree) (m : Module) → length text < 2 ^ 32 → Splits text tokens → input_text.Spells input tokens → StandsFor (flat input) m
    → Each (λ name. length name ≤ length text) (spelled_names input m.names)
names_short written form text tokens (Parsed t) m short split spells stands =
    all_among (IsShort (length text)) (names_written t) m.names (module_short form text tokens t split spells) (written t m stands)
names_short written form text tokens (Parts parts) m short split spells stands =
    let tree = flat (Parts parts) in
    let names = parts_names parts in
    told m.names (all_among (λ x. length (spelled names x) ≤ length text) (names_written tree) m.names (parts_short form text tokens parts short split spells) (written tree m stands))
  where
    told : (xs : List (List ℕ)) → Each (λ x. length (spelled (parts_names parts) x) ≤ length text) xs → Each (λ name. length name ≤ length text) (map (spelled (parts_names parts)) xs)
    told [] h = tt
    told (x ∷ xs) h = (h.0, told xs h.1)
