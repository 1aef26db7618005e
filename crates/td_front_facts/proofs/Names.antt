-- What holds of the names among tokens holds of the names that are written in the tree which they spell. Cited by other crates.
use Rattle.std.proofs.Common.{◌≡◌, inl, inr, ℕ, Bool, true, false, List, [], ◌∷◌, ◌++◌, Option, Some, None, subst}
use Rattle.td_num.specs.Lists.{Each}
use Rattle.td_front_facts.specs.Imports.{Token, Span, TokenKind, FieldTree, ParamTree, CaseTree, Def, ModuleTree, PartTree}
use Rattle.td_ast.specs.declared.token.TokenKind.TheVariants as kinds
use Rattle.td_ast.specs.declared.names.Name.{Name}
use Rattle.td_ast.specs.declared.names.NumberTree.{NumberTree}
use Rattle.td_ast.specs.declared.names.ConstTree.{ConstTree}
use Rattle.td_ast.specs.declared.definitions.SlotKind.TheVariants as slots
use Rattle.td_ast.specs.declared.definitions.SlotTree.{SlotTree}
use Rattle.td_ast.specs.Trees.{Tree}
use Rattle.td_core.specs.WellFormed.{OfSome}
use Rattle.td_grammar.specs.Grammar.{Grammar, ◌then◌, ◌making◌, maybe, all_of, ◌or◌, either_by}
use Rattle.td_grammar.specs.Sequences.{some_of, parted, list_of, in_parentheses}
use Rattle.td_grammar.specs.Sets.{only}
use Rattle.td_grammar.specs.Listed.{listed}
use Rattle.td_grammar.specs.Tokens.{terminal, name, name_of, literal, number_type, constant, plain}
use Rattle.td_grammar.specs.Expressions.{expr}
use Rattle.td_grammar.specs.Actions.{action}
use Rattle.td_grammar.specs.Parameters.{target, byte, room, bytes_of, bytes, cell, place, param, head}
use Rattle.td_grammar.specs.Fields.{type_tree, extent, refinement, field}
use Rattle.td_grammar.specs.Definitions.{closing, case_tree, item, slot, define, enum_head, enumeration, struct_rest, subject, default_case, cases, casetype, alias_rest, plainly, typedef, entrypoint, output, def, module_text}
use Rattle.td_grammar.specs.Parts.{module_word, part}
use Rattle.td_elab_rules.specs.Modules.{param_name}
use Rattle.td_elab_rules.specs.Written.{params_written, fields_written, cases_written, default_written, slots_written, definition_written, definitions_written, names_written}
use Rattle.td_front_facts.proofs.Tokens.{OfKind, OfToken}

module _ (P : List ℕ → Type 0) where
  -- what tokens spell, of whose names it holds
  Gives : {A : Type 0} → Grammar A → (A → Type 0) → Type 0
  Gives {A} g Q = (a : A) (tokens : List Token) → g.Spells a tokens → Each (OfToken P) tokens → Q a

  -- ---- the ways to combine productions

  front_each : (front back : List Token) → Each (OfToken P) (front ++ back) → Each (OfToken P) front
  front_each [] back h = tt
  front_each (x ∷ front) back h = (h.0, front_each front back h.1)

  back_each : (front back : List Token) → Each (OfToken P) (front ++ back) → Each (OfToken P) back
  back_each [] back h = h
  back_each (x ∷ front) back h = back_each front back h.1

  both : {A B : Type 0} (g : Grammar A) (k : Grammar B) (Q : A → Type 0) (R : B → Type 0) → Gives g Q → Gives k R → Gives (g then k) (λ x. Q x.0 × R x.1)
  unfolding Gives
  both g k Q R one other x tokens (front, back, is, first, second) t =
      let all = subst (Each (OfToken P)) is t in
      (one x.0 front first (front_each front back all), other x.1 back second (back_each front back all))

  -- the one holds no names that matter
  later : {A B : Type 0} (g : Grammar A) (k : Grammar B) (R : B → Type 0) → Gives k R → Gives (g then k) (λ x. R x.1)
  unfolding Gives
  later g k R other x tokens (front, back, is, first, second) t = other x.1 back second (back_each front back (subst (Each (OfToken P)) is t))

  sooner : {A B : Type 0} (g : Grammar A) (k : Grammar B) (Q : A → Type 0) → Gives g Q → Gives (g then k) (λ x. Q x.0)
  unfolding Gives
  sooner g k Q one x tokens (front, back, is, first, second) t = one x.0 front first (front_each front back (subst (Each (OfToken P)) is t))

  made : {A B : Type 0} (g : Grammar A) (f : A → B) (Q : A → Type 0) (R : B → Type 0) → Gives g Q → ((a : A) → Q a → R (f a)) → Gives (g making f) R
  unfolding Gives
  made g f Q R one goes b tokens (a, is, spelled) t = subst R is (goes a (one a tokens spelled t))

  -- a value that holds no names, whatever it is made of
  bare : {A B : Type 0} (g : Grammar A) (f : A → B) (R : B → Type 0) → ((a : A) → R (f a)) → Gives (g making f) R
  unfolding Gives
  bare g f R goes b tokens (a, is, spelled) t = subst R is (goes a)

  perhaps : {A : Type 0} (g : Grammar A) (Q : A → Type 0) → Gives g Q → Gives (maybe g) (OfSome Q)
  unfolding Gives
  perhaps g Q one None tokens h t = tt
  perhaps g Q one (Some a) tokens h t = one a tokens h t

  each : {A : Type 0} (g : Grammar A) (Q : A → Type 0) → Gives g Q → Gives (all_of g) (Each Q)
  unfolding Gives
  each g Q one [] tokens h t = tt
  each g Q one (x ∷ xs) tokens (front, back, is, first, rest) t =
      let all = subst (Each (OfToken P)) is t in
      (one x front first (front_each front back all), each g Q one xs back rest (back_each front back all))

  one_of : {A : Type 0} (g k : Grammar A) (Q : A → Type 0) → Gives g Q → Gives k Q → Gives (g or k) Q
  unfolding Gives
  one_of g k Q one other a tokens (inl h) t = one a tokens h t
  one_of g k Q one other a tokens (inr h) t = other a tokens h t

  by_first : {A : Type 0} (test : Token → Bool) (g k : Grammar A) (Q : A → Type 0) → Gives g Q → Gives k Q → Gives (either_by test g k) Q
  unfolding Gives
  by_first test g k Q one other a tokens (inl h) t = one a tokens h t
  by_first test g k Q one other a tokens (inr h) t = other a tokens h t

  some : {A : Type 0} (g : Grammar A) (Q : A → Type 0) → Gives g Q → Gives (some_of g) (Each Q)
  some g Q one = made _ _ _ (Each Q) (both g (all_of g) Q (Each Q) one (each g Q one)) (λ a h. h)

  in_list : {A : Type 0} (Q : A → Type 0) (o : Option (List A)) → OfSome (Each Q) o → Each Q (list_of o)
  in_list Q None h = tt
  in_list Q (Some xs) h = h

  bracketed : {A : Type 0} (g : Grammar A) (Q : A → Type 0) → Gives g Q → Gives (in_parentheses g) (Each Q)
  bracketed g Q one =
      let next : Gives ((terminal kinds.Comma then g) making λ (comma, next). next) Q = made _ _ _ Q (later (terminal kinds.Comma) g Q one) (λ a h. h) in
      let list : Gives (parted g) (Each Q) = made _ _ _ (Each Q) (both g _ Q (Each Q) one (each _ Q next)) (λ a h. h) in
      made _ _ (OfSome (Each Q)) (Each Q)
      (perhaps _ (Each Q) (made _ _ _ (Each Q) (later (terminal kinds.OpenParen) _ _ (sooner (parted g) (terminal kinds.CloseParen) (Each Q) list)) (λ a h. h))) (in_list Q)

  -- ---- names

  named : (kind : TokenKind) (span : Span) (n : Name) → name_of kind span ≡ Some n → OfKind P kind → P n.text
  named (kinds.Name text) span n e h = let same : text ≡ n.text = cc in subst P same h
  named _ span n e h = absurd cc

  name_gives : Gives name (λ n. P n.text)
  unfolding Gives
  name_gives n tokens (token, is, found) t = named token.kind token.span n found (subst (Each (OfToken P)) is t).0

  -- ---- productions

  abbrev OfParam : ParamTree → Type 0
  OfParam p = P (param_name p).text

  abbrev OfField : FieldTree → Type 0
  OfField f = P f.name.text

  abbrev OfCase : CaseTree → Type 0
  OfCase c = Each OfField c.fields

  abbrev OfSlot : SlotTree → Type 0
  OfSlot x = P x.name.text

  abbrev OfDefinition : Def → Type 0
  OfDefinition d = Each P (definition_written d)

  abbrev OfMaker : (Bool → Def) → Type 0
  OfMaker made_of = (entry : Bool) → OfDefinition (made_of entry)

  of_bytes : (number : NumberTree) (n : Name) (o : Option ConstTree) → P n.text → OfParam (bytes_of number n o)
  of_bytes number n None h = h
  of_bytes number n (Some count) h = h

  bytes_gives : Gives bytes OfParam
  bytes_gives =
      made _ _ _ OfParam (later byte _ _ (later (terminal kinds.Star) _ _ (sooner name (maybe room) _ name_gives))) (λ a h. of_bytes a.0 a.1.1.0 a.1.1.1 h)

  cell_gives : Gives cell OfParam
  cell_gives = made _ _ _ OfParam (later target _ _ (later (terminal kinds.Star) _ _ name_gives)) (λ a h. h)

  place_gives : Gives place OfParam
  place_gives = by_first _ bytes cell OfParam bytes_gives cell_gives

  param_gives : Gives param OfParam
  unfolding param
  param_gives =
      one_of _ _ OfParam (made _ _ _ OfParam (later plain _ _ name_gives) (λ a h. h))
      (made _ _ _ OfParam (later (terminal kinds.Mutable) place _ place_gives) (λ a h. h))

  head_gives : Gives head (λ h. Each OfParam h.params)
  unfolding head
  head_gives =
      made _ _ _ (λ h. Each OfParam h.params)
      (sooner (in_parentheses param) (maybe ((terminal kinds.Where then expr) making λ (at, condition). condition)) (Each OfParam) (bracketed param OfParam param_gives)) (λ a h. h)

  field_gives : Gives field OfField
  unfolding field
  field_gives =
      made _ _ _ OfField (later type_tree _ _ (sooner name (maybe extent then maybe refinement then maybe action then terminal kinds.Semicolon) _ name_gives)) (λ a h. h)

  closing_gives : Gives closing (λ n. P n.text)
  closing_gives = made _ _ _ (λ n. P n.text) (later (terminal kinds.CloseBrace) _ _ (sooner name (terminal kinds.Semicolon) _ name_gives)) (λ a h. h)

  case_gives : Gives case_tree OfCase
  unfolding case_tree
  case_gives =
      made _ _ _ OfCase (later (terminal kinds.Case) _ _ (later constant _ _ (later (terminal kinds.Colon) _ _ (some field OfField field_gives)))) (λ a h. h)

  default_gives : Gives default_case (Each OfField)
  default_gives = made _ _ _ (Each OfField) (later (terminal kinds.Default) _ _ (later (terminal kinds.Colon) _ _ (some field OfField field_gives))) (λ a h. h)

  slot_gives : Gives slot OfSlot
  unfolding slot
  slot_gives =
      made _ _ _ OfSlot
      (later ((number_type making slots.Number) or (terminal kinds.Pointer making slots.Pointer)) _ _ (sooner name (terminal kinds.Semicolon) _ name_gives)) (λ a h. h)

  abbrev OfCases : Tree × List CaseTree × Option (List FieldTree) → Type 0
  OfCases body = Each OfCase body.1 × OfSome (Each OfField) body.2

  cases_gives : Gives cases OfCases
  unfolding cases
  cases_gives =
      made _ _ _ OfCases
      (later subject _ _ (both (some_of case_tree) _ _ _ (some case_tree OfCase case_gives) (sooner (maybe default_case) (terminal kinds.CloseBrace) _ (perhaps default_case _ default_gives)))) (λ a h. h)

  -- ---- the names that are written

  in_both : (xs ys : List (List ℕ)) → Each P xs → Each P ys → Each P (xs ++ ys)
  in_both [] ys h g = g
  in_both (x ∷ xs) ys h g = (h.0, in_both xs ys h.1 g)

  of_params : (ps : List ParamTree) → Each OfParam ps → Each P (params_written ps)
  of_params [] h = tt
  of_params (p ∷ ps) h = (h.0, of_params ps h.1)

  of_fields : (fs : List FieldTree) → Each OfField fs → Each P (fields_written fs)
  of_fields [] h = tt
  of_fields (f ∷ fs) h = (h.0, of_fields fs h.1)

  of_cases : (cs : List CaseTree) → Each OfCase cs → Each P (cases_written cs)
  of_cases [] h = tt
  of_cases (c ∷ cs) h = in_both (fields_written c.fields) (cases_written cs) (of_fields c.fields h.0) (of_cases cs h.1)

  of_default : (d : Option (List FieldTree)) → OfSome (Each OfField) d → Each P (default_written d)
  of_default None h = tt
  of_default (Some fs) h = of_fields fs h

  of_slots : (xs : List SlotTree) → Each OfSlot xs → Each P (slots_written xs)
  of_slots [] h = tt
  of_slots (x ∷ xs) h = (h.0, of_slots xs h.1)

  of_definitions : (ds : List Def) → Each OfDefinition ds → Each P (definitions_written ds)
  of_definitions [] h = tt
  of_definitions (d ∷ ds) h = in_both (definition_written d) (definitions_written ds) h.0 (of_definitions ds h.1)

  -- ---- definitions

  struct_gives : Gives struct_rest OfMaker
  unfolding struct_rest
  struct_gives =
      made _ _ _ OfMaker (later name _ _ (both head _ _ _ head_gives (later (terminal kinds.OpenBrace) _ _ (both (some_of field) closing _ _ (some field OfField field_gives) closing_gives))))
      (λ a h entry. (h.1.1, in_both (params_written a.1.0.params) (fields_written a.1.1.1.0) (of_params a.1.0.params h.0) (of_fields a.1.1.1.0 h.1.0)))

  casetype_gives : Gives casetype OfMaker
  unfolding casetype
  casetype_gives =
      made _ _ _ OfMaker
      (later (terminal kinds.Casetype) _ _ (later name _ _ (both head _ _ _ head_gives (later (terminal kinds.OpenBrace) _ _ (both cases closing _ _ cases_gives closing_gives)))))
      (λ a h entry.
      let body = a.1.1.1.1.0 in (
        h.1.1,
        in_both (params_written a.1.1.0.params) (cases_written body.1 ++ default_written body.2) (of_params a.1.1.0.params h.0)
            (in_both (cases_written body.1) (default_written body.2) (of_cases body.1 h.1.0.0) (of_default body.2 h.1.0.1)),
      ))

  define_gives : Gives define OfDefinition
  unfolding define
  define_gives = bare (terminal kinds.Define then name then literal) _ OfDefinition (λ a. tt)

  enum_gives : Gives enumeration OfDefinition
  unfolding enumeration
  enum_gives = bare (enum_head then listed (only kinds.Comma) item then terminal kinds.CloseBrace then maybe (terminal kinds.Semicolon)) _ OfDefinition (λ a. tt)

  alias_gives : Gives alias_rest OfDefinition
  unfolding alias_rest
  alias_gives = bare (plain then name then terminal kinds.Semicolon) _ OfDefinition (λ a. tt)

  typedef_gives : Gives typedef OfDefinition
  unfolding typedef
  typedef_gives =
      made _ _ _ OfDefinition
      (later (terminal kinds.Typedef) _ _ (one_of alias_rest _ OfDefinition alias_gives (made _ _ _ OfDefinition (later (terminal kinds.Struct) struct_rest _ struct_gives) (λ a h. h false)))) (λ a h. h)

  entrypoint_gives : Gives entrypoint OfDefinition
  unfolding entrypoint
  entrypoint_gives =
      made _ _ _ OfDefinition
      (later (terminal kinds.Entrypoint) _ _ (one_of _ casetype OfMaker (made _ _ _ OfMaker (later (terminal kinds.Typedef) _ _ (later (terminal kinds.Struct) struct_rest _ struct_gives)) (λ a h. h)) casetype_gives))
      (λ a h. h true)

  output_gives : Gives output OfDefinition
  unfolding output
  output_gives =
      made _ _ _ OfDefinition
      (later (terminal kinds.Output) _ _ (later (terminal kinds.Typedef) _ _ (later (terminal kinds.Struct) _ _ (later name _ _ (later (terminal kinds.OpenBrace) _ _ (sooner (some_of slot) closing _ (some slot OfSlot slot_gives)))))))
      (λ a h. of_slots a.1.1.1.1.1.0 h)

  def_gives : Gives def OfDefinition
  unfolding def
  def_gives =
      one_of define _ OfDefinition define_gives (one_of enumeration _ OfDefinition enum_gives (one_of typedef _ OfDefinition typedef_gives
      (one_of (casetype making plainly) _ OfDefinition (made casetype plainly OfMaker OfDefinition casetype_gives (λ a h. h false)) (one_of entrypoint output OfDefinition entrypoint_gives output_gives))))

  module_gives : Gives module_text (λ t. Each P (names_written t))
  unfolding module_text
  module_gives = made (all_of def) _ (Each OfDefinition) (λ t. Each P (names_written t)) (each def OfDefinition def_gives) (λ a h. of_definitions a h)

  pub spelled_names : (t : ModuleTree) (tokens : List Token) → module_text.Spells t tokens → Each (OfToken P) tokens → Each P (names_written t)
  unfolding Gives
  spelled_names t tokens spelled h = module_gives t tokens spelled h

  -- ---- parts

  abbrev pub OfPart : PartTree → Type 0
  OfPart p = P p.name.text × Each P (definitions_written p.definitions)

  part_gives : Gives part OfPart
  unfolding part
  part_gives = made _ _ _ OfPart (later module_word _ _ (both name (all_of def) _ _ name_gives (each def OfDefinition def_gives))) (λ a h. (h.0, of_definitions a.1.1 h.1))

  pub spelled_parts : (parts : List PartTree) (tokens : List Token) → (some_of part).Spells parts tokens → Each (OfToken P) tokens → Each OfPart parts
  unfolding Gives
  spelled_parts parts tokens spelled h = some part OfPart part_gives parts tokens spelled h
