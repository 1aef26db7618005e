-- The names of a tree's module are written in the tree.
use Rattle.std.proofs.Common.{ℕ, Bool, true, false, if◌then◌else◌, List, [], ◌∷◌, ◌++◌, Option, Some, None, Contains, subst, sym, ap, arith}
use Rattle.std.proofs.lemmas.List.Elements.{Contains-get_or, Contains-append_right}
use Rattle.td_num.specs.Lists.{Each}
use Rattle.td_elab_rules.specs.Imports.{FieldTree, ParamTree, SlotTree, CaseTree, Def, Define, Enum, Alias, Struct, Casetype, Output}
use Rattle.td_names.specs.Names.{is_seen, with_name}
use Rattle.td_elab_rules.specs.Records.{with_slots}
use Rattle.td_elab_rules.specs.Modules.{param_name, see_params, see_fields, see_cases, see_default, see_definition, all_names}
use Rattle.td_elab_rules.specs.Written.{params_written, fields_written, cases_written, default_written, slots_written, definition_written, definitions_written, names_written}
use Rattle.td_elab_rules.specs.Laws.{NamesAreWritten}

module _ (P : List ℕ → Type 0) where
  push : (xs : List (List ℕ)) (x : List ℕ) → Each P xs → P x → Each P (xs ++ x ∷ [])
  push [] x h p = (p, tt)
  push (y ∷ ys) x h p = (h.0, push ys x h.1 p)

  left : (xs ys : List (List ℕ)) → Each P (xs ++ ys) → Each P xs
  left [] ys h = tt
  left (x ∷ xs) ys h = (h.0, left xs ys h.1)

  right : (xs ys : List (List ℕ)) → Each P (xs ++ ys) → Each P ys
  right [] ys h = h
  right (x ∷ xs) ys h = right xs ys h.1

  with_each : (names : List (List ℕ)) (x : List ℕ) → P x → Each P names → Each P (with_name names x)
  with_each names x p h = by (is_seen names x)
    where
      by : (b : Bool) → Each P (if b then names else names ++ x ∷ [])
      by true = h
      by false = push names x h p

  params_each : (names : List (List ℕ)) (ps : List ParamTree) → Each P (params_written ps) → Each P names → Each P (see_params names ps)
  params_each names [] w h = h
  params_each names (p ∷ ps) w h = params_each (with_name names (param_name p).text) ps w.1 (with_each names (param_name p).text w.0 h)

  fields_each : (names : List (List ℕ)) (fs : List FieldTree) → Each P (fields_written fs) → Each P names → Each P (see_fields names fs)
  fields_each names [] w h = h
  fields_each names (f ∷ fs) w h = fields_each (with_name names f.name.text) fs w.1 (with_each names f.name.text w.0 h)

  cases_each : (names : List (List ℕ)) (cs : List CaseTree) → Each P (cases_written cs) → Each P names → Each P (see_cases names cs)
  cases_each names [] w h = h
  cases_each names (c ∷ cs) w h =
      cases_each (see_fields names c.fields) cs (right (fields_written c.fields) (cases_written cs) w)
      (fields_each names c.fields (left (fields_written c.fields) (cases_written cs) w) h)

  default_each : (names : List (List ℕ)) (d : Option (List FieldTree)) → Each P (default_written d) → Each P names → Each P (see_default names d)
  default_each names None w h = h
  default_each names (Some fs) w h = fields_each names fs w h

  slots_each : (names : List (List ℕ)) (xs : List SlotTree) → Each P (slots_written xs) → Each P names → Each P (with_slots names xs)
  slots_each names [] w h = h
  slots_each names (x ∷ xs) w h = slots_each (with_name names x.name.text) xs w.1 (with_each names x.name.text w.0 h)

  definition_each : (names : List (List ℕ)) (d : Def) → Each P (definition_written d) → Each P names → Each P (see_definition names d)
  definition_each names (Define d) w h = h
  definition_each names (Enum d) w h = h
  definition_each names (Alias d) w h = h
  definition_each names (Struct d) w h =
      let ps = params_written d.head.params in
      with_each (see_fields (see_params names d.head.params) d.fields) d.name.text w.0
      (fields_each (see_params names d.head.params) d.fields (right ps (fields_written d.fields) w.1)
      (params_each names d.head.params (left ps (fields_written d.fields) w.1) h))
  definition_each names (Casetype d) w h =
      let ps = params_written d.head.params in
      let cs = cases_written d.cases in
      let rest = right ps (cs ++ default_written d.default) w.1 in
      let seen = see_params names d.head.params in
      with_each (see_default (see_cases seen d.cases) d.default) d.name.text w.0
      (default_each (see_cases seen d.cases) d.default (right cs (default_written d.default) rest)
      (cases_each seen d.cases (left cs (default_written d.default) rest)
      (params_each names d.head.params (left ps (cs ++ default_written d.default) w.1) h)))
  definition_each names (Output d) w h = slots_each names d.slots w h

  all_each : (names : List (List ℕ)) (ds : List Def) → Each P (definitions_written ds) → Each P names → Each P (all_names names ds)
  all_each names [] w h = h
  all_each names (d ∷ ds) w h =
      all_each (see_definition names d) ds (right (definition_written d) (definitions_written ds) w)
      (definition_each names d (left (definition_written d) (definitions_written ds) w) h)

there : (x : List ℕ) (xs : List (List ℕ)) (ys : List (List ℕ)) → Each (Contains xs) ys → Each (Contains (x ∷ xs)) ys
there x xs [] h = tt
there x xs (y ∷ ys) h = (Contains-append_right (x ∷ []) xs y h.0, there x xs ys h.1)

-- each is among them
itself : (xs : List (List ℕ)) → Each (Contains xs) xs
itself [] = tt
itself (x ∷ xs) = (Contains-get_or (x ∷ xs) 0 x (omega arith), there x xs xs (itself xs))

pub names_are_written : NamesAreWritten
names_are_written t m s =
    subst (Each (Contains (names_written t))) (sym (ap (λ x. x.names) s.1))
    (all_each (Contains (names_written t)) [] t.definitions (itself (names_written t)) tt)
