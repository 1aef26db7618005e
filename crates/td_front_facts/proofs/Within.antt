-- The limits of a text are limits of its module. Cited by other crates.
use Rattle.std.proofs.Common.{◌≡◌, ℕ, ◌+◌, ◌≤◌, Bool, List, [], ◌∷◌, ◌++◌, length, map, Option, Some, None, refl, sym, subst, arith, length-append}
use Rattle.std.proofs.lemmas.List.{length-map}
use Rattle.td_num.specs.Lists.{Each}
use Rattle.td_front_facts.specs.Imports.{ItemTree, Def, Define, Enum, Alias, Struct, Casetype, Output, ModuleTree, Measure, TypeDef, Parameter, Meaning, Known}
use Rattle.td_ast.specs.declared.names.PlainTree.{PlainTree}
use Rattle.td_ast.specs.declared.names.PlainTree.TheVariants as plain
use Rattle.td_names.specs.Names.{looked_up, declared}
use Rattle.td_limits.specs.declared.limits.Limit.TheVariants as limit
use Rattle.td_limits.specs.Excesses.{above, first_excess, definition_name}
use Rattle.td_limits.specs.Measures.{Measures}
use Rattle.td_limits.specs.Counts.{most_fields, count_cases, count_params, definition_counts, count_excesses}
use Rattle.td_limits.specs.Nodes.{definition_nodes}
use Rattle.td_limits.specs.Depths.{plain_depth, uses_depth}
use Rattle.td_limits.specs.Weights as weights
use Rattle.td_limits.specs.Sizes.{measure_of, member, with_members, with_definition, definition_sizes, size_excesses}
use Rattle.td_core.specs.Weights.{definition_depth, depth_of, below_by, head_nodes, body_nodes, definitions_nodes, definition_weight, weight_of}
use Rattle.td_core.specs.WellFormed.{DefinitionWithin, IsWithin}
use Rattle.td_elab_rules.specs.declared.known.Meaning.TheVariants as meaning
use Rattle.td_elab_rules.specs.Known.{nothing_known, global_found, signature_at}
use Rattle.td_elab_rules.specs.Constants.{number_or_zero}
use Rattle.td_elab_rules.specs.Enums.{next_value, item_value, with_item, items_after, with_enum_name, after_enum}
use Rattle.td_elab_rules.specs.Aliases.{plain_type, alias_found, alias_meaning, meaning_or_none}
use Rattle.td_elab_rules.specs.Records.{slot_of}
use Rattle.td_elab_rules.specs.Fields.{fields_taken}
use Rattle.td_elab_rules.specs.Casetypes.{switch_taken}
use Rattle.td_elab_rules.specs.Definitions.{with_type, struct_head, struct_core, casetype_head, casetype_core, after, known_after}
use Rattle.td_elab_rules.specs.Modules.{names_of}
use Rattle.td_front_facts.specs.Laws.{HasLimits, ModulesAreWithin, NodesAreWithin, DepthsAreWithin, WeightsAreWithin}
use Rattle.td_front_facts.proofs.Fields.{total_append}
use Rattle.td_front_facts.proofs.Below.{last, most}
use Rattle.td_front_facts.proofs.Linked.{AreLinked, IsMeasured, slots_last, linked_definition, linked_record, linked_name, type_deep, type_heavy, type_there}
use Rattle.td_front_facts.proofs.Definitions.{IsSmaller, struct_smaller, casetype_smaller}
use Rattle.td_num.proofs.Lists.{each_append}
use Rattle.td_limits.proofs.Counting.{none_both, above_none as not_above}

-- ---- limits that aren't passed

-- a definition of the tree that passes no limit, as the n-th and with so many nodes up to its end
record DefWithin (n total : ℕ) (known : Measures) (d : Def) : Type 0 where
  definitions : n ≤ 4000
  fields : most_fields d ≤ 256
  cases : count_cases d ≤ 256
  params : count_params d ≤ 16
  nodes : total ≤ 60000
  cells : weights.count_cells known d ≤ 64
  depth : 1 + uses_depth known d ≤ 32
  weight : weights.definition_weight known d ≤ 1099511627776

def_within : (n nodes : ℕ) (known : Measures) (d : Def) → first_excess (definition_counts n nodes d) ≡ None
    → first_excess (definition_sizes (weights.count_cells known d) (measure_of known d) d) ≡ None → DefWithin n nodes known d
def_within n nodes known d c z =
    let s = (definition_name d).span in
    let c1 = none_both (above 4000 n limit.Definitions s) _ c in
    let c2 = none_both (above 256 (most_fields d) limit.Fields s) _ c1.1 in
    let c3 = none_both (above 256 (count_cases d) limit.Cases s) _ c2.1 in
    let c4 = none_both (above 16 (count_params d) limit.Parameters s) _ c3.1 in
    let c5 = none_both (above 60000 nodes limit.Nodes s) _ c4.1 in
    let z1 = none_both (above 64 (weights.count_cells known d) limit.Cells s) _ z in
    let z2 = none_both (above 32 (1 + uses_depth known d) limit.Depth s) _ z1.1 in
    record {
      definitions = not_above 4000 n limit.Definitions s c1.0;
      fields = not_above 256 (most_fields d) limit.Fields s c2.0;
      cases = not_above 256 (count_cases d) limit.Cases s c3.0;
      params = not_above 16 (count_params d) limit.Parameters s c4.0;
      nodes = not_above 60000 nodes limit.Nodes s c5.0;
      cells = not_above 64 (weights.count_cells known d) limit.Cells s z1.0;
      depth = not_above 32 (1 + uses_depth known d) limit.Depth s z2.0;
      weight = not_above 1099511627776 (weights.definition_weight known d) limit.Weight s z2.1;
    }

-- ---- what is known, within the limits

record KnownWithin (k : Known) (known : Measures) (total : ℕ) : Type 0 where
  few : length k.definitions ≤ k.count
  each : Each DefinitionWithin k.definitions
  nodes : definitions_nodes k.definitions ≤ total
  depths : (n : ℕ) → depth_of k.definitions n ≤ 32
  weights : (n : ℕ) → weight_of k.definitions n ≤ 1099511627776
  linked : AreLinked k.definitions k.records k.globals known

-- items
record SameTypes (a b : Known) : Type 0 where
  definitions : a.definitions ≡ b.definitions
  records : a.records ≡ b.records
  count : a.count ≡ b.count

items_same : (k : Known) (next : Option ℕ) (is : List ItemTree) → SameTypes (items_after k next is) k
items_same k next [] = record { definitions = refl; records = refl; count = refl }
items_same k next (i ∷ is) =
    let h = items_same (with_item k next i) (next_value (item_value k next i)) is in
    record { definitions = h.definitions; records = h.records; count = h.count }

items_linked : (k : Known) (known : Measures) (next : Option ℕ) (is : List ItemTree) → AreLinked k.definitions k.records k.globals known → AreLinked k.definitions k.records (items_after k next is).globals (with_members known is)
items_linked k known next [] h = h
items_linked k known next (i ∷ is) h =
    items_linked (with_item k next i) _ (next_value (item_value k next i)) is
    (linked_name k.definitions k.records k.globals known i.name.text (meaning.Member (number_or_zero (item_value k next i))) member (omega arith) h)

-- another name
plain_found : (o : Option Meaning) (k : Known) (j : ℕ) → alias_found k (global_found o) ≡ Some (meaning.Type j) → o ≡ Some (meaning.Type j)
plain_found None k j f = absurd cc
plain_found (Some (meaning.Constant n)) k j f = absurd cc
plain_found (Some (meaning.Member n)) k j f = absurd cc
plain_found (Some (meaning.Number t)) k j f = absurd cc
plain_found (Some (meaning.Enum t v)) k j f = absurd cc
plain_found (Some (meaning.Type i)) k j f = by (signature_at k i) f
  where
    by : (ps : List Parameter) → plain_type i ps ≡ Some (meaning.Type j) → Some (meaning.Type i) ≡ Some (meaning.Type j)
    by [] g = g
    by (p ∷ ps) g = absurd cc
plain_found (Some (meaning.Record r)) k j f = absurd cc

no_record : (k : Known) (p : Option Meaning) (r : ℕ) → alias_found k (global_found p) ≡ Some (meaning.Record r) → ⊥
no_record k None r f = cc
no_record k (Some (meaning.Constant n)) r f = cc
no_record k (Some (meaning.Member n)) r f = cc
no_record k (Some (meaning.Number t)) r f = cc
no_record k (Some (meaning.Enum t v)) r f = cc
no_record k (Some (meaning.Type i)) r f = by (signature_at k i) f
  where
    by : (ps : List Parameter) → plain_type i ps ≡ Some (meaning.Record r) → ⊥
    by [] g = cc
    by (p ∷ ps) g = cc
no_record k (Some (meaning.Record q)) r f = cc

alias_measured : (k : Known) (known : Measures) (t : PlainTree) (m : Measure) → AreLinked k.definitions k.records k.globals known
    → 1 ≤ m.cells → plain_depth known t ≤ m.depth → weights.plain_weight known t ≤ m.weight → IsMeasured k.definitions k.records (meaning_or_none (alias_meaning k t)) m
alias_measured k known (plain.Number t) m h one deep heavy = one
alias_measured k known (plain.Named n) m h one deep heavy = each (alias_meaning k (plain.Named n)) refl
  where
    each : (o : Option Meaning) → alias_meaning k (plain.Named n) ≡ o → IsMeasured k.definitions k.records (meaning_or_none o) m
    each None e = one
    each (Some (meaning.Constant c)) e = one
    each (Some (meaning.Member c)) e = one
    each (Some (meaning.Number t)) e = one
    each (Some (meaning.Enum t v)) e = one
    each (Some (meaning.Type j)) e =
        let is = plain_found (looked_up k.globals n.text) k j e in (
          type_there k.definitions k.records k.globals known h n.text j is,
          (omega (arith, type_deep k.definitions k.records k.globals known h n.text j is, deep), omega (arith, type_heavy k.definitions k.records k.globals known h n.text j is, heavy)),
        )
    each (Some (meaning.Record r)) e = absurd (no_record k (looked_up k.globals n.text) r e)

-- a struct or casetype
type_within : (k : Known) (known : Measures) (names : List (List ℕ)) (nodes : ℕ) (d : Def) (own : TypeDef) (name : List ℕ) (is_entry : Bool) (ps : List Parameter) (given : List (List ℕ)) (n : ℕ)
    → KnownWithin k known nodes → DefWithin n (nodes + definition_nodes d) known d → (link : AreLinked k.definitions k.records k.globals known) → IsSmaller names k known link d own
    → KnownWithin (with_type k is_entry name ps given own) (declared known name (measure_of known d)) (nodes + definition_nodes d)
type_within k known names nodes d own name is_entry ps given n h w link small =
    let more = length-append k.definitions (own ∷ []) in
    let it : DefinitionWithin own = record { params = omega (arith, small.params, w.params); cells = omega (arith, small.cells, w.cells); buffers = omega (arith, small.buffers, w.params); body = small.body w.fields w.cases } in
    let depth = small.depth in
    let weight = small.weight in
    record {
      few = omega (arith, more, h.few);
      each = each_append DefinitionWithin k.definitions (own ∷ []) h.each (it, tt);
      nodes = omega (arith, total_append (λ d. 1 + (head_nodes d + body_nodes d.body)) k.definitions (own ∷ []), h.nodes, small.nodes);
      depths = most definition_depth k.definitions own 32 h.depths (omega (arith, depth, w.depth));
      weights = most definition_weight k.definitions own 1099511627776 h.weights (omega (arith, weight, w.weight));
      linked =
          linked_name (k.definitions ++ own ∷ []) k.records k.globals known name (meaning.Type (length k.definitions)) (measure_of known d)
          (omega (arith, more), (omega (arith, last definition_depth k.definitions own, depth), omega (arith, last definition_weight k.definitions own, weight)))
          (λ x. linked_definition k.definitions k.records own (looked_up k.globals x) (looked_up known x) (link x));
    }

after_within : (names : List (List ℕ)) (k : Known) (known : Measures) (nodes n : ℕ) (d : Def) → KnownWithin k known nodes → DefWithin n (nodes + definition_nodes d) known d
    → KnownWithin (after names k d) (with_definition known d) (nodes + definition_nodes d)
after_within names k known nodes n (Define d) h w = record {
  few = omega (arith, h.few);
  each = h.each;
  nodes = omega (arith, h.nodes);
  depths = h.depths;
  weights = h.weights;
  linked = linked_name k.definitions k.records k.globals known d.name.text (meaning.Constant d.value.value) (measure_of known (Define d)) (omega arith) h.linked;
}
after_within names k known nodes n (Enum d) h w =
    let same = items_same (with_enum_name k d) (Some 0) d.items in
    let named = linked_name k.definitions k.records k.globals known d.name.text (meaning.Enum d.base.number (length k.listed)) (measure_of known (Enum d)) (omega arith) h.linked in
    let linked = items_linked (with_enum_name k d) (declared known d.name.text (measure_of known (Enum d))) (Some 0) d.items named in
    let globals = (items_after (with_enum_name k d) (Some 0) d.items).globals in
    let all = with_definition known (Enum d) in
    record {
      few = subst (λ x. length x ≤ k.count + 1) (sym same.definitions) (omega (arith, h.few));
      each = subst (Each DefinitionWithin) (sym same.definitions) h.each;
      nodes = subst (λ x. definitions_nodes x ≤ nodes + definition_nodes (Enum d)) (sym same.definitions) (omega (arith, h.nodes));
      depths = subst (λ x. (n : ℕ) → depth_of x n ≤ 32) (sym same.definitions) h.depths;
      weights = subst (λ x. (n : ℕ) → weight_of x n ≤ 1099511627776) (sym same.definitions) h.weights;
      linked =
          subst (λ x. AreLinked x (after_enum k d).records globals all) (sym same.definitions)
          (subst (λ x. AreLinked k.definitions x globals all) (sym same.records) linked);
    }
after_within names k known nodes n (Alias d) h w = record {
  few = omega (arith, h.few);
  each = h.each;
  nodes = omega (arith, h.nodes);
  depths = h.depths;
  weights = h.weights;
  linked =
      linked_name k.definitions k.records k.globals known d.name.text (meaning_or_none (alias_meaning k d.target)) (measure_of known (Alias d))
      (alias_measured k known d.target (measure_of known (Alias d)) h.linked (omega arith) (omega arith) (omega arith)) h.linked;
}
after_within names k known nodes n (Struct d) h w =
    let head = struct_head names k d in
    type_within k known names nodes (Struct d) (struct_core names k d) d.name.text d.entry head.parameters (fields_taken head.taken d.fields).all n h w h.linked (struct_smaller names k known h.linked d)
after_within names k known nodes n (Casetype d) h w =
    let head = casetype_head names k d in
    type_within k known names nodes (Casetype d) (casetype_core names k d) d.name.text d.entry head.parameters (switch_taken head.taken d).all n h w h.linked (casetype_smaller names k known h.linked d)
after_within names k known nodes n (Output d) h w =
    let slots = map slot_of d.slots in
    let count = length-map d.slots slot_of in
    record {
      few = omega (arith, h.few);
      each = h.each;
      nodes = omega (arith, h.nodes);
      depths = h.depths;
      weights = h.weights;
      linked =
          linked_name k.definitions (k.records ++ slots ∷ []) k.globals known d.name.text (meaning.Record (length k.records)) (measure_of known (Output d))
          (omega (arith, length-append k.records (slots ∷ [])), subst (λ x. length x ≤ length d.slots) (sym (slots_last k.records slots)) (omega (arith, count)))
          (λ x. linked_record k.definitions k.records slots (looked_up k.globals x) (looked_up known x) (h.linked x));
    }

count_after : (names : List (List ℕ)) (k : Known) (d : Def) → (after names k d).count ≡ k.count + 1
count_after names k (Define d) = refl
count_after names k (Enum d) = refl
count_after names k (Alias d) = refl
count_after names k (Struct d) = refl
count_after names k (Casetype d) = refl
count_after names k (Output d) = refl

-- ---- the whole text

record IsAllWithin (k : Known) : Type 0 where
  few : length k.definitions ≤ k.count
  count : k.count ≤ 4000
  each : Each DefinitionWithin k.definitions
  nodes : definitions_nodes k.definitions ≤ 60000
  depths : (n : ℕ) → depth_of k.definitions n ≤ 32
  weights : (n : ℕ) → weight_of k.definitions n ≤ 1099511627776

all_within : (names : List (List ℕ)) (k : Known) (known : Measures) (nodes : ℕ) (ds : List Def) → KnownWithin k known nodes → k.count ≤ 4000 → nodes ≤ 60000
    → first_excess (count_excesses k.count nodes ds) ≡ None → first_excess (size_excesses known ds) ≡ None → IsAllWithin (known_after names k ds)
all_within names k known nodes [] h count few c z = record { few = h.few; count = count; each = h.each; nodes = omega (arith, h.nodes, few); depths = h.depths; weights = h.weights }
all_within names k known nodes (d ∷ ds) h count few c z =
    let total = nodes + definition_nodes d in
    let c1 = none_both (definition_counts (k.count + 1) total d) (count_excesses (k.count + 1) total ds) c in
    let z1 = none_both (definition_sizes (weights.count_cells known d) (measure_of known d) d) (size_excesses (with_definition known d) ds) z in
    let w = def_within (k.count + 1) total known d c1.0 z1.0 in
    let same = count_after names k d in
    all_within names (after names k d) (with_definition known d) total ds (after_within names k known nodes (k.count + 1) d h w)
    (omega (arith, same, w.definitions)) (omega (arith, w.nodes))
    (subst (λ n. first_excess (count_excesses n total ds) ≡ None) (sym same) c1.1) z1.1

nothing_within : KnownWithin nothing_known [] 0
unfolding below_by
nothing_within = record { few = omega arith; each = tt; nodes = omega arith; depths = λ n. omega arith; weights = λ n. omega arith; linked = λ n. tt }

tree_within : (t : ModuleTree) → HasLimits t → IsAllWithin (known_after (names_of t) nothing_known t.definitions)
tree_within t h = all_within (names_of t) nothing_known [] 0 t.definitions nothing_within (omega arith) (omega arith) h.counts h.sizes

-- ---- the laws

pub modules_are_within : ModulesAreWithin
modules_are_within t m h s =
    let w = tree_within t h in
    subst IsWithin (sym s.1) (record { written = w.count; definitions = w.few; each = w.each })

pub nodes_are_within : NodesAreWithin
nodes_are_within t m h s = subst (λ x. definitions_nodes x.definitions ≤ 60000) (sym s.1) (tree_within t h).nodes

pub depths_are_within : DepthsAreWithin
depths_are_within t m h s = subst (λ x. (n : ℕ) → depth_of x.definitions n ≤ 32) (sym s.1) (tree_within t h).depths

pub weights_are_within : WeightsAreWithin
weights_are_within t m h s = subst (λ x. (n : ℕ) → weight_of x.definitions n ≤ 1099511627776) (sym s.1) (tree_within t h).weights
