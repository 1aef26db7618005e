-- A flat definition has as many nodes, fields, cases, parameters and statements as the written one.
use Rattle.std.proofs.Common.{◌≡◌, ℕ, ◌+◌, max, Bool, true, false, cond, List, [], ◌∷◌, Option, Some, None, map, length, sum, refl, ap, ap₂, arith}
use Rattle.std.proofs.lemmas.List.{length-map}
use Rattle.td_ast.specs.declared.fields.TypeKind.{TypeKind}
use Rattle.td_ast.specs.declared.fields.TypeKind.TheVariants as type
use Rattle.td_ast.specs.declared.fields.ExtentTree.{ExtentTree}
use Rattle.td_ast.specs.declared.fields.ExtentTree.TheVariants.{Bytes, ByteSize, SingleElement, Zeroterm, Bits, Given, OfCell}
use Rattle.td_front_flat_facts.specs.Imports.{FieldTree, ParamTree, CaseTree, Def, Define, Enum, Alias, Struct, Casetype, Output, Own}
use Rattle.td_ast.specs.declared.actions.Assigned.{Assigned}
use Rattle.td_ast.specs.declared.actions.Assigned.TheVariants.{Value, FieldPtr}
use Rattle.td_ast.specs.declared.actions.ActionTree.{ActionTree}
use Rattle.td_ast.specs.declared.actions.ActionTree.TheVariants.{Done, Copied}
use Rattle.td_ast.specs.Trees.{Tree, tree_size}
use Rattle.td_ast.specs.Trees as tree
use Rattle.td_ast.specs.Statements.{Statement, Store, StoreField, Var, If, IfElse, Return, Abort, Statements, End, More, block_of}
use Rattle.td_front_flat.specs.Expressions.{flat_tree, is_left, flat_given, flat_option, flat_assigned, scope_after, flat_statement, flat_block, flat_statements, flat_action}
use Rattle.td_front_flat.specs.Definitions.{flat_params, with_param, flat_kind, flat_extent, flat_field, flat_fields, with_field, flat_item, flat_case, flat_default, flat_slot, flat_definition, head_scope}
use Rattle.td_limits.specs.Excesses.{greatest}
use Rattle.td_limits.specs.Nodes.{option_nodes, assigned_nodes, statement_nodes, block_nodes, action_nodes, kind_nodes, extent_nodes, inner_nodes, fields_nodes, default_nodes, definition_nodes}
use Rattle.td_limits.specs.Counts.{default_count, most_fields, count_cases, count_params, fields_action, default_action, most_action}

map_same : {A : Type 0} (f : A → ℕ) (g : A → A) → ((x : A) → f (g x) ≡ f x) → (xs : List A) → map f (map g xs) ≡ map f xs
map_same f g same [] = refl
map_same f g same (x ∷ xs) = ap₂ (λ (n : ℕ) (ns : List ℕ). n ∷ ns) (same x) (map_same f g same xs)

module _ (own : Own) where
  tree_same : (scope : List (List ℕ)) (e : Tree) → tree_size (flat_tree own scope e) ≡ tree_size e
  tree_same scope (tree.Number at n base) = refl
  tree_same scope (tree.Truth at b) = refl
  tree_same scope (tree.Name at n) = refl
  tree_same scope (tree.FieldPos at word) = refl
  tree_same scope (tree.Sizeof at word z place) = refl
  tree_same scope (tree.RangeOkay at a b c) = let x = tree_same scope a in let y = tree_same scope b in let z = tree_same scope c in omega arith
  tree_same scope (tree.Unary at op word a) = let x = tree_same scope a in omega arith
  tree_same scope (tree.Binary at op word a b) = let x = tree_same scope a in let y = tree_same scope b in omega arith
  tree_same scope (tree.Choice at word c a b) = let x = tree_same scope c in let y = tree_same scope a in let z = tree_same scope b in omega arith

  option_same : (scope : List (List ℕ)) (o : Option Tree) → option_nodes (flat_option own scope o) ≡ option_nodes o
  option_same scope None = refl
  option_same scope (Some e) = tree_same scope e

  assigned_same : (scope : List (List ℕ)) (a : Assigned) → assigned_nodes (flat_assigned own scope a) ≡ assigned_nodes a
  assigned_same scope (Value e) = tree_same scope e
  assigned_same scope (FieldPtr at) = refl

  mutual
    statement_same : (params : List ParamTree) (scope : List (List ℕ)) (x : Statement) → statement_nodes (flat_statement own params scope x) ≡ statement_nodes x
    statement_same params scope (Store at p rhs) = ap (λ n. 1 + n) (assigned_same scope rhs)
    statement_same params scope (StoreField at p f rhs) = ap (λ n. 1 + n) (assigned_same scope rhs)
    statement_same params scope (Var at x star p) = refl
    statement_same params scope (If at e one) = ap₂ (λ (n m : ℕ). 1 + (n + m)) (tree_same scope e) (block_same params scope one)
    statement_same params scope (IfElse at e one other) =
        ap₂ (λ (n m : ℕ). 1 + (n + m)) (tree_same scope e) (ap₂ (λ (n m : ℕ). n + m) (block_same params scope one) (block_same params scope other))
    statement_same params scope (Return at e) = ap (λ n. 1 + n) (tree_same scope e)
    statement_same params scope (Abort at) = refl

    block_same : (params : List ParamTree) (scope : List (List ℕ)) (xs : Statements) → block_nodes (flat_block own params scope xs) ≡ block_nodes xs
    block_same params scope End = refl
    block_same params scope (More x rest) = ap₂ (λ (n m : ℕ). n + m) (statement_same params scope x) (block_same params (scope_after scope x) rest)

  statements_same : (params : List ParamTree) (scope : List (List ℕ)) (xs : List Statement) → block_nodes (block_of (flat_statements own params scope xs)) ≡ block_nodes (block_of xs)
  statements_same params scope [] = refl
  statements_same params scope (x ∷ xs) = ap₂ (λ (n m : ℕ). n + m) (statement_same params scope x) (statements_same params (scope_after scope x) xs)

  action_same : (params : List ParamTree) (scope : List (List ℕ)) (o : Option ActionTree) → action_nodes (flat_action own params scope o) ≡ action_nodes o
  action_same params scope None = refl
  action_same params scope (Some (Done kind at xs)) = statements_same params scope xs
  action_same params scope (Some (Copied at n)) = refl

  kind_same : (scope : List (List ℕ)) (k : TypeKind) → kind_nodes (flat_kind own scope k) ≡ kind_nodes k
  kind_same scope (type.Number t) = refl
  kind_same scope type.Unit = refl
  kind_same scope type.AllBytes = refl
  kind_same scope type.AllZeros = refl
  kind_same scope (type.Named n args) = ap sum (map_same tree_size (flat_tree own scope) (tree_same scope) args)

  given_same : (scope : List (List ℕ)) (e : Tree) → tree_size (flat_given own scope e) ≡ tree_size e
  given_same scope e = by_test (is_left e)
    where
      by_test : (b : Bool) → tree_size (cond b e (flat_tree own scope e)) ≡ tree_size e
      by_test true = refl
      by_test false = tree_same scope e

  extent_same : (scope : List (List ℕ)) (o : Option ExtentTree) → extent_nodes (flat_extent own scope o) ≡ extent_nodes o
  extent_same scope None = refl
  extent_same scope (Some (Bytes e)) = tree_same scope e
  extent_same scope (Some (ByteSize e)) = tree_same scope e
  extent_same scope (Some (SingleElement e)) = tree_same scope e
  extent_same scope (Some (Zeroterm e)) = tree_same scope e
  extent_same scope (Some (Bits n)) = refl
  extent_same scope (Some (Given e)) = given_same scope e
  extent_same scope (Some (OfCell star n)) = refl

  inner_same : (params : List ParamTree) (scope : List (List ℕ)) (f : FieldTree) → inner_nodes (flat_field own params scope f) ≡ inner_nodes f
  inner_same params scope f =
      ap₂ (λ (n m : ℕ). n + m) (kind_same scope f.type_tree.kind)
      (ap₂ (λ (n m : ℕ). n + m) (extent_same scope f.extent)
      (ap₂ (λ (n m : ℕ). n + m) (option_same (with_field scope f) f.refinement) (action_same params (with_field scope f) f.action)))

  -- what is the same of each field is so of all
  fields_same : (h : FieldTree → ℕ) (params : List ParamTree) → ((scope : List (List ℕ)) (f : FieldTree) → h (flat_field own params scope f) ≡ h f)
      → (scope : List (List ℕ)) (fs : List FieldTree) → map h (flat_fields own params scope fs) ≡ map h fs
  fields_same h params same scope [] = refl
  fields_same h params same scope (f ∷ fs) = ap₂ (λ (n : ℕ) (ns : List ℕ). n ∷ ns) (same scope f) (fields_same h params same (with_field scope f) fs)

  fields_long : (params : List ParamTree) (scope : List (List ℕ)) (fs : List FieldTree) → length (flat_fields own params scope fs) ≡ length fs
  fields_long params scope [] = refl
  fields_long params scope (f ∷ fs) = let ih = fields_long params (with_field scope f) fs in omega arith

  params_long : (scope : List (List ℕ)) (ps : List ParamTree) → length (flat_params own scope ps) ≡ length ps
  params_long scope [] = refl
  params_long scope (p ∷ ps) = let ih = params_long (with_param scope p) ps in omega arith

  nodes_same : (params : List ParamTree) (scope : List (List ℕ)) (fs : List FieldTree) → fields_nodes (flat_fields own params scope fs) ≡ fields_nodes fs
  nodes_same params scope fs = ap sum (fields_same (λ f. 1 + inner_nodes f) params (λ s f. ap (λ n. 1 + n) (inner_same params s f)) scope fs)

  actions_same : (params : List ParamTree) (scope : List (List ℕ)) (fs : List FieldTree) → fields_action (flat_fields own params scope fs) ≡ fields_action fs
  actions_same params scope fs = ap greatest (fields_same (λ f. action_nodes f.action) params (λ s f. action_same params (with_field s f) f.action) scope fs)

  default_nodes_same : (params : List ParamTree) (scope : List (List ℕ)) (o : Option (List FieldTree)) → default_nodes (flat_default own params scope o) ≡ default_nodes o
  default_nodes_same params scope None = refl
  default_nodes_same params scope (Some fs) = nodes_same params scope fs

  default_count_same : (params : List ParamTree) (scope : List (List ℕ)) (o : Option (List FieldTree)) → default_count (flat_default own params scope o) ≡ default_count o
  default_count_same params scope None = refl
  default_count_same params scope (Some fs) = fields_long params scope fs

  default_action_same : (params : List ParamTree) (scope : List (List ℕ)) (o : Option (List FieldTree)) → default_action (flat_default own params scope o) ≡ default_action o
  default_action_same params scope None = refl
  default_action_same params scope (Some fs) = actions_same params scope fs

  cases_same : (h : CaseTree → ℕ) (params : List ParamTree) (scope : List (List ℕ)) → ((c : CaseTree) → h (flat_case own params scope c) ≡ h c)
      → (cs : List CaseTree) → map h (map (flat_case own params scope) cs) ≡ map h cs
  cases_same h params scope same cs = map_same h (flat_case own params scope) same cs

-- definitions alike in what is counted of each
pub record AreAlike (a b : Def) : Type 0 where
  pub nodes : definition_nodes a ≡ definition_nodes b
  pub fields : most_fields a ≡ most_fields b
  pub cases : count_cases a ≡ count_cases b
  pub params : count_params a ≡ count_params b
  pub action : most_action a ≡ most_action b

pub flat_alike : (own : Own) (d : Def) → AreAlike (flat_definition own d) d
flat_alike own (Define d) = record { nodes = refl; fields = refl; cases = refl; params = refl; action = refl }
flat_alike own (Enum d) = record { nodes = ap (λ n. 1 + n) (length-map d.items (flat_item own)); fields = refl; cases = refl; params = refl; action = refl }
flat_alike own (Alias d) = record { nodes = refl; fields = refl; cases = refl; params = refl; action = refl }
flat_alike own (Struct d) =
    let scope = head_scope d.head in
    let ps = params_long own [] d.head.params in
    record {
      nodes =
          ap₂ (λ (n m : ℕ). 1 + (n + m)) (ap₂ (λ (n m : ℕ). n + m) ps (option_same own scope d.head.condition))
          (nodes_same own d.head.params scope d.fields);
      fields = fields_long own d.head.params scope d.fields;
      cases = refl;
      params = ps;
      action = actions_same own d.head.params scope d.fields;
    }
flat_alike own (Casetype d) =
    let scope = head_scope d.head in
    let params = d.head.params in
    let ps = params_long own [] params in
    record {
      nodes =
          ap₂ (λ (n m : ℕ). 1 + (n + m)) (ap₂ (λ (n m : ℕ). n + m) ps (option_same own scope d.head.condition))
          (ap₂ (λ (n m : ℕ). n + m) (tree_same own scope d.subject)
          (ap₂ (λ (n m : ℕ). n + m) (ap sum (cases_same own (λ c. 1 + fields_nodes c.fields) params scope (λ c. ap (λ n. 1 + n) (nodes_same own params scope c.fields)) d.cases))
          (default_nodes_same own params scope d.default)));
      fields =
          ap₂ (λ (n m : ℕ). max n m) (ap greatest (cases_same own (λ c. length c.fields) params scope (λ c. fields_long own params scope c.fields) d.cases))
          (default_count_same own params scope d.default);
      cases = length-map d.cases (flat_case own params scope);
      params = ps;
      action =
          ap₂ (λ (n m : ℕ). max n m) (ap greatest (cases_same own (λ c. fields_action c.fields) params scope (λ c. actions_same own params scope c.fields) d.cases))
          (default_action_same own params scope d.default);
    }
flat_alike own (Output d) = record { nodes = ap (λ n. 1 + n) (length-map d.slots (flat_slot own)); fields = length-map d.slots (flat_slot own); cases = refl; params = refl; action = refl }
