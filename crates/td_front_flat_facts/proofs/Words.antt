-- The names written in a flat tree are those of the parts, or with a part's number. Cited by other crates.
use Rattle.std.proofs.Common.{◌≡◌, ℕ, zero, suc, ◌<◌, Bool, true, false, cond, List, [], ◌∷◌, ◌++◌, length, Option, Some, None, map, flat_map, refl, inl, inr, arith}
use Rattle.std.specs.Prelude.{slice_get}
use Rattle.td_num.specs.Lists.{Each}
use Rattle.td_num.proofs.Lists.{each_at, each_append}
use Rattle.td_front_flat_facts.specs.Imports.{FieldTree, ParamTree, CaseTree, Def, Define, Enum, Alias, Struct, Casetype, Output, PartTree, Module, Parts, Own}
use Rattle.td_ast.specs.declared.parameters.ParamTree.TheVariants as param
use Rattle.td_ast.specs.declared.definitions.SlotTree.{SlotTree}
use Rattle.td_lexer.specs.Splits.{IsName}
use Rattle.td_names.specs.Names.{is_seen}
use Rattle.td_front_flat.specs.Names.{of_part, given}
use Rattle.td_front_flat.specs.Definitions.{flat_params, with_param, flat_fields, with_field, flat_case, flat_default, flat_slot, flat_definition, flat_part, own_of, head_scope}
use Rattle.td_front_flat.specs.Order.{names_of, graph_of, order}
use Rattle.td_front_flat.specs.Flat.{flat_at, flat_or_none, flat}
use Rattle.td_elab_rules.specs.Written.{params_written, fields_written, cases_written, default_written, slots_written, definition_written, definitions_written, names_written}
use Rattle.td_front_flat_facts.specs.Laws.{OfPart, IsFlat, NamesStayWords}

pub each_left : {A : Type 0} (P : A → Type 0) (xs ys : List A) → Each P (xs ++ ys) → Each P xs
each_left P [] ys h = tt
each_left P (x ∷ xs) ys h = (h.0, each_left P xs ys h.1)

pub each_right : {A : Type 0} (P : A → Type 0) (xs ys : List A) → Each P (xs ++ ys) → Each P ys
each_right P [] ys h = h
each_right P (x ∷ xs) ys h = each_right P xs ys h.1

written_append : (Q : List ℕ → Type 0) (ds es : List Def) → Each Q (definitions_written ds) → Each Q (definitions_written es) → Each Q (definitions_written (ds ++ es))
written_append Q [] es h k = k
written_append Q (d ∷ ds) es h k =
    each_append Q (definition_written d) (definitions_written (ds ++ es)) (each_left Q (definition_written d) (definitions_written ds) h)
    (written_append Q ds es (each_right Q (definition_written d) (definitions_written ds) h) k)

-- What holds of each name of a part as it stands, and with the part's number before it, holds of each name of the part's flat definitions.
module _ (P Q : List ℕ → Type 0) (own : Own) (stays : (x : List ℕ) → P x → Q x) (joins : (x : List ℕ) → P x → Q (of_part own.number x)) where
  given_is : (x : List ℕ) → P x → Q (given own x)
  given_is x h = by (is_seen own.literals x)
    where
      by : (b : Bool) → Q (cond b (of_part own.number x) x)
      by true = joins x h
      by false = stays x h

  params_are : (scope : List (List ℕ)) (ps : List ParamTree) → Each P (params_written ps) → Each Q (params_written (flat_params own scope ps))
  params_are scope [] h = tt
  params_are scope (param.Value t n ∷ ps) h = (given_is n.text h.0, params_are (with_param scope (param.Value t n)) ps h.1)
  params_are scope (param.Mutable t n ∷ ps) h = (given_is n.text h.0, params_are (with_param scope (param.Mutable t n)) ps h.1)
  params_are scope (param.Bytes n k ∷ ps) h = (given_is n.text h.0, params_are (with_param scope (param.Bytes n k)) ps h.1)

  fields_are : (params : List ParamTree) (scope : List (List ℕ)) (fs : List FieldTree) → Each P (fields_written fs) → Each Q (fields_written (flat_fields own params scope fs))
  fields_are params scope [] h = tt
  fields_are params scope (f ∷ fs) h = (given_is f.name.text h.0, fields_are params (with_field scope f) fs h.1)

  cases_are : (params : List ParamTree) (scope : List (List ℕ)) (cs : List CaseTree) → Each P (cases_written cs) → Each Q (cases_written (map (flat_case own params scope) cs))
  cases_are params scope [] h = tt
  cases_are params scope (c ∷ cs) h =
      each_append Q (fields_written (flat_fields own params scope c.fields)) (cases_written (map (flat_case own params scope) cs))
      (fields_are params scope c.fields (each_left P (fields_written c.fields) (cases_written cs) h))
      (cases_are params scope cs (each_right P (fields_written c.fields) (cases_written cs) h))

  default_is : (params : List ParamTree) (scope : List (List ℕ)) (o : Option (List FieldTree)) → Each P (default_written o) → Each Q (default_written (flat_default own params scope o))
  default_is params scope None h = tt
  default_is params scope (Some fs) h = fields_are params scope fs h

  slots_are : (xs : List SlotTree) → Each P (slots_written xs) → Each Q (slots_written (map (flat_slot own) xs))
  slots_are [] h = tt
  slots_are (x ∷ xs) h = (given_is x.name.text h.0, slots_are xs h.1)

  definition_is : (d : Def) → Each P (definition_written d) → Each Q (definition_written (flat_definition own d))
  definition_is (Define d) h = tt
  definition_is (Enum d) h = tt
  definition_is (Alias d) h = tt
  definition_is (Struct d) h = (
    joins d.name.text h.0,
    each_append Q (params_written (flat_params own [] d.head.params)) (fields_written (flat_fields own d.head.params (head_scope d.head) d.fields))
        (params_are [] d.head.params (each_left P (params_written d.head.params) (fields_written d.fields) h.1))
        (fields_are d.head.params (head_scope d.head) d.fields (each_right P (params_written d.head.params) (fields_written d.fields) h.1)),
  )
  definition_is (Casetype d) h =
      let scope = head_scope d.head in
      let body = each_right P (params_written d.head.params) (cases_written d.cases ++ default_written d.default) h.1 in (
        joins d.name.text h.0,
        each_append Q (params_written (flat_params own [] d.head.params))
            (cases_written (map (flat_case own d.head.params scope) d.cases) ++ default_written (flat_default own d.head.params scope d.default))
            (params_are [] d.head.params (each_left P (params_written d.head.params) (cases_written d.cases ++ default_written d.default) h.1))
            (each_append Q (cases_written (map (flat_case own d.head.params scope) d.cases)) (default_written (flat_default own d.head.params scope d.default))
            (cases_are d.head.params scope d.cases (each_left P (cases_written d.cases) (default_written d.default) body))
            (default_is d.head.params scope d.default (each_right P (cases_written d.cases) (default_written d.default) body))),
      )
  definition_is (Output d) h = slots_are d.slots h

  pub definitions_are : (ds : List Def) → Each P (definitions_written ds) → Each Q (definitions_written (map (flat_definition own) ds))
  definitions_are [] h = tt
  definitions_are (d ∷ ds) h =
      each_append Q (definition_written (flat_definition own d)) (definitions_written (map (flat_definition own) ds))
      (definition_is d (each_left P (definition_written d) (definitions_written ds) h))
      (definitions_are ds (each_right P (definition_written d) (definitions_written ds) h))

-- What holds of the names of each part's flat definitions holds of those of parts in any order.
module _ (parts : List PartTree) (R : PartTree → Type 0) (Q : List ℕ → Type 0) (of_one : (i : ℕ) (p : PartTree) → slice_get parts i ≡ Some p → R p → Each Q (definitions_written (flat_part (names_of parts) i p))) where
  part_is : (i : ℕ) → Each R parts → Each Q (definitions_written (flat_at parts i))
  part_is i h = by (slice_get parts i) refl
    where
      by : (o : Option PartTree) → slice_get parts i ≡ o → Each Q (definitions_written (flat_or_none (names_of parts) i o))
      by None e = tt
      by (Some p) e = of_one i p e (each_at R parts i p h e)

  pub parts_are : (numbers : List ℕ) → Each R parts → Each Q (definitions_written (flat_map (flat_at parts) numbers))
  parts_are [] h = tt
  parts_are (i ∷ is) h = written_append Q (flat_at parts i) (flat_map (flat_at parts) is) (part_is i h) (parts_are is h)

pub place_within : (parts : List PartTree) (i : ℕ) (p : PartTree) → slice_get parts i ≡ Some p → i < length parts
place_within [] i p e = absurd cc
place_within (q ∷ qs) zero p e = omega arith
place_within (q ∷ qs) (suc i) p e = let ih = place_within qs i p e in omega (arith, ih)

module _ (P : List ℕ → Type 0) (parts : List PartTree) where
  part_flat : (i : ℕ) (p : PartTree) → slice_get parts i ≡ Some p → OfPart P p → Each (IsFlat P (Parts parts)) (definitions_written (flat_part (names_of parts) i p))
  part_flat i p there (word, h) =
      definitions_are P (IsFlat P (Parts parts)) (own_of (names_of parts) i p) (λ x q. inl q) (λ x q. inr (i, x, place_within parts i p there, q, refl)) p.definitions h

  pub names_flat : Each (OfPart P) parts → Each (IsFlat P (Parts parts)) (names_written (flat (Parts parts)))
  names_flat h = parts_are parts (OfPart P) (IsFlat P (Parts parts)) part_flat (order (graph_of parts)) h

pub names_stay_words : NamesStayWords
names_stay_words (Module tree) h = h
names_stay_words (Parts parts) h = names_flat IsName parts h
