-- A struct or casetype is within the limits of its tree.
use Rattle.std.proofs.Common.{◌≡◌, ℕ, suc, ◌+◌, ◌≤◌, List, [], ◌∷◌, length, Option, Some, None, refl, ap, arith}
use Rattle.td_num.specs.Lists.{Each}
use Rattle.td_front_facts.specs.Imports.{FieldTree, CaseTree, Def, Struct, Casetype, TypeDef, Known, Scope}
use Rattle.td_ast.specs.declared.definitions.StructTree.{StructTree}
use Rattle.td_ast.specs.declared.definitions.CasetypeTree.{CasetypeTree}
use Rattle.td_limits.specs.Measures.{Measures}
use Rattle.td_limits.specs.Counts.{longest_case, default_count, most_fields, count_cases, count_params}
use Rattle.td_limits.specs.Nodes as text
use Rattle.td_limits.specs.Depths.{uses_depth}
use Rattle.td_limits.specs.Weights as weights
use Rattle.td_core.specs.Weights.{definition_depth, depth_of, total, head_nodes, body_nodes, cases_nodes, default_nodes, definition_weight, weight_of}
use Rattle.td_core.specs.WellFormed.{OfSome, FieldsWithin, BodyWithin}
use Rattle.td_elab_rules.specs.Parameters.{no_head}
use Rattle.td_elab_rules.specs.Casetypes.{cases_core, default_core}
use Rattle.td_elab_rules.specs.Definitions.{struct_head, struct_scope, struct_core, casetype_head, casetype_core}
use Rattle.td_front_facts.proofs.Expressions.{core_nodes, some_nodes}
use Rattle.td_front_facts.proofs.Fields.{sum_total, fields_count, fields_nodes_within}
use Rattle.td_front_facts.proofs.Sizes.{fields_deep, cases_deep, default_deep, fields_heavy, cases_heavy, default_heavy}
use Rattle.td_front_facts.proofs.Heads.{params_count, buffers_count, cells_count}
use Rattle.td_front_facts.proofs.Linked.{AreLinked, type_deep, type_heavy}

module _ (names : List (List ℕ)) (k : Known) where
  cases_count : (s : Scope) (cs : List CaseTree) → length (cases_core names k s cs) ≡ length cs
  cases_count s [] = refl
  cases_count s (c ∷ cs) = ap suc (cases_count s cs)

  cases_within : (s : Scope) (cs : List CaseTree) → longest_case cs ≤ 256 → Each (λ c. FieldsWithin c.fields) (cases_core names k s cs)
  cases_within s [] h = tt
  cases_within s (c ∷ cs) h = (omega (arith, h, fields_count names k s c.fields), cases_within s cs (omega (arith, h)))

  default_within : (s : Scope) (d : Option (List FieldTree)) → default_count d ≤ 256 → OfSome FieldsWithin (default_core names k s d)
  default_within s None h = tt
  default_within s (Some fs) h = omega (arith, h, fields_count names k s fs)

  cases_small : (s : Scope) (cs : List CaseTree) → cases_nodes (cases_core names k s cs) ≤ total (λ c. 1 + text.fields_nodes c.fields) cs
  cases_small s [] = omega arith
  cases_small s (c ∷ cs) = omega (arith, fields_nodes_within names k s c.fields, cases_small s cs)

  default_small : (s : Scope) (d : Option (List FieldTree)) → default_nodes (default_core names k s d) ≤ text.default_nodes d
  default_small s None = omega arith
  default_small s (Some fs) = fields_nodes_within names k s fs

  module _ (known : Measures) (link : AreLinked k.definitions k.records k.globals known) where
    -- what holds of the core of a definition of the tree
    pub record IsSmaller (tree : Def) (own : TypeDef) : Type 0 where
      pub params : length own.params ≤ count_params tree
      pub cells : length own.cells ≤ weights.count_cells known tree
      pub buffers : length own.buffers ≤ count_params tree
      pub body : most_fields tree ≤ 256 → count_cases tree ≤ 256 → BodyWithin own.body
      pub nodes : 1 + (head_nodes own + body_nodes own.body) ≤ text.definition_nodes tree
      pub depth : definition_depth (depth_of k.definitions) (Some own) ≤ 1 + uses_depth known tree
      pub weight : definition_weight (weight_of k.definitions) (Some own) ≤ weights.definition_weight known tree

    pub struct_smaller : (d : StructTree) → IsSmaller (Struct d) (struct_core names k d)
    struct_smaller d =
        let s = struct_scope k (struct_head names k d).scope d.fields in
        let params = params_count names k no_head d.head.params in
        let guard = some_nodes k s d.head.condition in
        let deep = fields_deep k known names (depth_of k.definitions) (type_deep k.definitions k.records k.globals known link) s d.fields in
        let heavy = fields_heavy k known names (weight_of k.definitions) (type_heavy k.definitions k.records k.globals known link) s d.fields in
        record {
          params = omega (arith, params);
          cells = omega (arith, cells_count k known link names no_head d.head.params, sum_total (weights.param_cells known) d.head.params);
          buffers = omega (arith, buffers_count names k no_head d.head.params);
          body = λ few cases. omega (arith, few, fields_count names k s d.fields);
          nodes = omega (arith, params, guard, fields_nodes_within names k s d.fields);
          depth = omega (arith, deep);
          weight = omega (arith, params, guard, heavy);
        }

    pub casetype_smaller : (d : CasetypeTree) → IsSmaller (Casetype d) (casetype_core names k d)
    casetype_smaller d =
        let s = (casetype_head names k d).scope in
        let params = params_count names k no_head d.head.params in
        let guard = some_nodes k s d.head.condition in
        let switch = core_nodes k s d.subject in
        let deep = type_deep k.definitions k.records k.globals known link in
        let heavy = type_heavy k.definitions k.records k.globals known link in
        record {
          params = omega (arith, params);
          cells = omega (arith, cells_count k known link names no_head d.head.params, sum_total (weights.param_cells known) d.head.params);
          buffers = omega (arith, buffers_count names k no_head d.head.params);
          body =
              λ few cases.
              let none : default_count d.default ≤ 256 = omega (arith, few) in
              let each : longest_case d.cases ≤ 256 = omega (arith, few) in
              (omega (arith, cases, cases_count s d.cases), (cases_within s d.cases each, default_within s d.default none));
          nodes = omega (arith, params, guard, switch, cases_small s d.cases, sum_total (λ c. 1 + text.fields_nodes c.fields) d.cases, default_small s d.default);
          depth = omega (arith, cases_deep k known names (depth_of k.definitions) deep s d.cases, default_deep k known names (depth_of k.definitions) deep s d.default);
          weight = omega (
            arith,
            params,
            guard,
            switch,
            cases_heavy k known names (weight_of k.definitions) heavy s d.cases,
            sum_total (weights.case_weight known) d.cases,
            default_heavy k known names (weight_of k.definitions) heavy s d.default,
          );
        }
