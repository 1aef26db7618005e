-- The names of the types of a module of a text: all words, or all two words joined by a dot.
use Rattle.std.proofs.Common.{◌≡◌, ◌⊎◌, inl, inr, ℕ, zero, suc, ◌+◌, ◌<◌, Bool, true, false, not, cond, List, [], ◌∷◌, ◌++◌, length, map, flat_map, Option, Some, None, refl, sym, ap, subst, arith}
use Rattle.std.specs.Prelude.{slice_get}
use Rattle.std.specs.Str.{bytes_eq}
use Rattle.std.proofs.lemmas.Slice.Eq.{bytes_eq-Decides}
use Rattle.td_num.specs.Lists.{Each}
use Rattle.td_num.proofs.Lists.{each_append, each_at}
use Rattle.td_front_facts.specs.Imports.{ItemTree, Def, Define, Enum, Alias, Struct, Casetype, Output, ModuleTree, PartTree, InputTree, NameId, TypeDef, Module, Known}
use Rattle.td_ast.specs.declared.parts.InputTree.TheVariants.{Module as Parsed, Parts}
use Rattle.td_names.specs.Names.{number_of}
use Rattle.td_core.specs.Entries.{bytes_or_none, name_bytes}
use Rattle.td_core.specs.WellFormed.{IsDefinitionNamed}
use Rattle.td_lexer.specs.Splits.{IsName, IsDotted}
use Rattle.td_elab_rules.specs.Known.{nothing_known}
use Rattle.td_elab_rules.specs.Enums.{next_value, item_value, with_item, items_after, with_enum_name}
use Rattle.td_elab_rules.specs.Definitions.{struct_core, casetype_core, after, known_after}
use Rattle.td_elab_rules.specs.Modules.{StandsFor, names_of, module_of}
use Rattle.td_elab_rules.specs.Written.{definition_written, definitions_written}
use Rattle.td_elab_rules.specs.Laws.{ModulesAreNamed}
use Rattle.td_front_flat.specs.declared.own.Own.{Own}
use Rattle.td_front_flat.specs.Definitions.{flat_definition, own_of}
use Rattle.td_front_order.specs.Order.{order}
use Rattle.td_front_flat.specs.Names.{spelled}
use Rattle.td_front_flat.specs.Order.{names_of as parts_names, graph_of}
use Rattle.td_front_flat.specs.Flat.{flat, flat_or_none, flat_at}
use Rattle.td_grammar.specs.Laws.{EitherForm}
use Rattle.td_front_flat_facts.specs.Laws.{OfPart, OfInput, IsNumbered, NumberedAreDotted}
use Rattle.td_front_flat_facts.proofs.Words.{place_within}
use Rattle.td_front_facts.specs.Laws.{spelled_bytes, TypesAreAlike}
use Rattle.td_front_facts.proofs.Words.{written_words}

-- ---- what stands at the number of a name

found : (names : List (List ℕ)) (x : List ℕ) → number_of names x < length names → slice_get names (number_of names x) ≡ Some x
found [] x lt = absurd (omega (arith, lt))
found (n ∷ names) x lt = by (bytes_eq x n) refl (found names x) lt
  where
    by : (b : Bool) → bytes_eq x n ≡ b → (number_of names x < length names → slice_get names (number_of names x) ≡ Some x) → cond (not b) (1 + number_of names x) 0 < length (n ∷ names)
        → slice_get (n ∷ names) (cond (not b) (1 + number_of names x) 0) ≡ Some x
    by true e ih l = ap (λ (y : List ℕ). Some y) (sym ((bytes_eq-Decides x n).0 e))
    by false e ih l =
        let next : 1 + number_of names x ≡ suc (number_of names x) = omega arith in
        subst (λ k. slice_get (n ∷ names) k ≡ Some x) (sym next) (ih (omega (arith, l)))

-- ---- the definitions of a module

module _ (P : List ℕ → Type 0) where
  -- it holds of the name of a struct or a casetype
  abbrev OfHead : Def → Type 0
  OfHead (Define d) = Unit {0}
  OfHead (Enum d) = Unit {0}
  OfHead (Alias d) = Unit {0}
  OfHead (Struct d) = P d.name.text
  OfHead (Casetype d) = P d.name.text
  OfHead (Output d) = Unit {0}

  module _ (names : List (List ℕ)) where
    abbrev IsOf : TypeDef → Type 0
    IsOf t = (x : List ℕ) × (t.name ≡ record { number = number_of names x }) × P x

    items_keep : (k : Known) (next : Option ℕ) (is : List ItemTree) → Each IsOf k.definitions → Each IsOf (items_after k next is).definitions
    items_keep k next [] h = h
    items_keep k next (i ∷ is) h = items_keep (with_item k next i) (next_value (item_value k next i)) is h

    after_of : (k : Known) (d : Def) → OfHead d → Each IsOf k.definitions → Each IsOf (after names k d).definitions
    after_of k (Define d) own h = h
    after_of k (Enum d) own h = items_keep (with_enum_name k d) (Some 0) d.items h
    after_of k (Alias d) own h = h
    after_of k (Struct d) own h = each_append IsOf k.definitions (struct_core names k d ∷ []) h ((d.name.text, refl, own), tt)
    after_of k (Casetype d) own h = each_append IsOf k.definitions (casetype_core names k d ∷ []) h ((d.name.text, refl, own), tt)
    after_of k (Output d) own h = h

    all_after : (k : Known) (ds : List Def) → Each OfHead ds → Each IsOf k.definitions → Each IsOf (known_after names k ds).definitions
    all_after k [] own h = h
    all_after k (d ∷ ds) own h = all_after (after names k d) ds own.1 (after_of k d own.0 h)

    there : (t : TypeDef) → IsOf t → t.name.number < length names → P (bytes_or_none (slice_get names t.name.number))
    there t (x, is, p) lt =
        let number : t.name.number ≡ number_of names x = ap (λ (n : NameId). n.number) is in
        let at : slice_get names t.name.number ≡ Some x = subst (λ n. slice_get names n ≡ Some x) (sym number) (found names x (omega (arith, lt, number))) in
        subst (λ o. P (bytes_or_none o)) (sym at) p

    all_there : (ts : List TypeDef) → Each IsOf ts → Each (IsDefinitionNamed (length names)) ts → Each (λ t. P (bytes_or_none (slice_get names t.name.number))) ts
    all_there [] h named = tt
    all_there (t ∷ ts) h named = (there t h.0 named.0.own, all_there ts h.1 named.1)

  of_module : ModulesAreNamed → (tree : ModuleTree) (m : Module) → StandsFor tree m → Each OfHead tree.definitions → Each (λ d. P (name_bytes m d.name)) m.definitions
  of_module named tree m stands heads =
      let is : module_of tree ≡ m = sym stands.1 in
      let own = subst (λ (x : Module). Each (IsDefinitionNamed (length x.names)) x.definitions) stands.1 (named tree m stands) in
      subst (λ (x : Module). Each (λ d. P (name_bytes x d.name)) x.definitions) is
      (all_there (names_of tree) (module_of tree).definitions (all_after (names_of tree) nothing_known tree.definitions heads tt) own)

-- ---- the names that are written

front : (P : List ℕ → Type 0) (xs ys : List (List ℕ)) → Each P (xs ++ ys) → Each P xs
front P [] ys h = tt
front P (x ∷ xs) ys h = (h.0, front P xs ys h.1)

back : (P : List ℕ → Type 0) (xs ys : List (List ℕ)) → Each P (xs ++ ys) → Each P ys
back P [] ys h = h
back P (x ∷ xs) ys h = back P xs ys h.1

plain_head : (d : Def) → Each IsName (definition_written d) → OfHead IsName d
plain_head (Define d) h = tt
plain_head (Enum d) h = tt
plain_head (Alias d) h = tt
plain_head (Struct d) h = h.0
plain_head (Casetype d) h = h.0
plain_head (Output d) h = tt

plain_heads : (ds : List Def) → Each IsName (definitions_written ds) → Each (OfHead IsName) ds
plain_heads [] h = tt
plain_heads (d ∷ ds) h = (plain_head d (front IsName (definition_written d) (definitions_written ds) h), plain_heads ds (back IsName (definition_written d) (definitions_written ds) h))

-- ---- those of parts

module _ (count : ℕ) (own : Own) (below : own.number < count) where
  numbered_head : (d : Def) → Each IsName (definition_written d) → OfHead (IsNumbered IsName count) (flat_definition own d)
  numbered_head (Define d) h = tt
  numbered_head (Enum d) h = tt
  numbered_head (Alias d) h = tt
  numbered_head (Struct d) h = (own.number, d.name.text, below, h.0, refl)
  numbered_head (Casetype d) h = (own.number, d.name.text, below, h.0, refl)
  numbered_head (Output d) h = tt

  numbered_heads : (ds : List Def) → Each IsName (definitions_written ds) → Each (OfHead (IsNumbered IsName count)) (map (flat_definition own) ds)
  numbered_heads [] h = tt
  numbered_heads (d ∷ ds) h =
      (numbered_head d (front IsName (definition_written d) (definitions_written ds) h), numbered_heads ds (back IsName (definition_written d) (definitions_written ds) h))

module _ (parts : List PartTree) (h : Each (OfPart IsName) parts) where
  abbrev IsOwn : List ℕ → Type 0
  IsOwn x = IsNumbered IsName (length parts) x

  numbered_at : (i : ℕ) → Each (OfHead IsOwn) (flat_at parts i)
  numbered_at i = by (slice_get parts i) refl
    where
      by : (o : Option PartTree) → slice_get parts i ≡ o → Each (OfHead IsOwn) (flat_or_none (parts_names parts) i o)
      by None e = tt
      by (Some p) e =
          let own = each_at (OfPart IsName) parts i p h e in
          numbered_heads (length parts) (own_of (parts_names parts) i p) (place_within parts i p e) p.definitions own.1

  numbered_all : (numbers : List ℕ) → Each (OfHead IsOwn) (flat_map (flat_at parts) numbers)
  numbered_all [] = tt
  numbered_all (i ∷ is) = each_append (OfHead IsOwn) (flat_at parts i) (flat_map (flat_at parts) is) (numbered_at i) (numbered_all is)

  not_empty : IsOwn [] → ⊥
  not_empty (k, own, lt, word, is) = cc

  -- as they are spelled
  module _ (dotted : NumberedAreDotted) where
    dotted_at : (names : List (List ℕ)) (i : ℕ) → IsOwn (bytes_or_none (slice_get names i)) → IsDotted (bytes_or_none (slice_get (map (spelled (parts_names parts)) names) i))
    dotted_at [] i own = absurd (not_empty own)
    dotted_at (x ∷ names) zero own = dotted parts x h own
    dotted_at (x ∷ names) (suc i) own = dotted_at names i own

    dotted_all : (names : List (List ℕ)) (ts : List TypeDef) → Each (λ d. IsOwn (bytes_or_none (slice_get names d.name.number))) ts
        → Each (λ d. IsDotted (bytes_or_none (slice_get (map (spelled (parts_names parts)) names) d.name.number))) ts
    dotted_all names [] own = tt
    dotted_all names (t ∷ ts) own = (dotted_at names t.name.number own.0, dotted_all names ts own.1)

-- ---- the law

abbrev AreAlike : InputTree → Module → Type 0
AreAlike input m = Each (λ d. IsName (spelled_bytes input m d.name)) m.definitions ⊎ Each (λ d. IsDotted (spelled_bytes input m d.name)) m.definitions

alike : ModulesAreNamed → NumberedAreDotted → (input : InputTree) (m : Module) → OfInput IsName input → StandsFor (flat input) m → AreAlike input m
alike named dotted (Parsed tree) m h stands = inl (of_module IsName named tree m stands (plain_heads tree.definitions h))
alike named dotted (Parts parts) m h stands =
    inr (dotted_all parts h dotted m.names m.definitions (of_module (IsNumbered IsName (length parts)) named (flat (Parts parts)) m stands (numbered_all parts h (order (graph_of parts)))))

pub types_are_alike : ModulesAreNamed → EitherForm → NumberedAreDotted → TypesAreAlike
types_are_alike named form dotted text tokens input m split spells stands = alike named dotted input m (written_words form text tokens input split spells) stands
