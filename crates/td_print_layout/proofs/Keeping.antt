-- The tokens of the canonical text of what was spelled within the limits are within the limits.
use Rattle.std.proofs.Common.{◌≡◌, suc, ◌+◌, take, true, false, List, [], ◌∷◌, ◌++◌, length, map, Option, Some, None, codes, refl, sym, ap, subst, ◌∙◌, inl, inr, arith}
use Rattle.std.specs.Prelude.{flat_map}
use Rattle.std.proofs.lemmas.List.{append-nil, length-append, take_at}
use Rattle.td_num.specs.Lists.{Each}
use Rattle.td_ast.specs.declared.token.Token.{Token}
use Rattle.td_ast.specs.declared.definitions.Def.{Def}
use Rattle.td_ast.specs.declared.token.TokenKind.TheVariants as kinds
use Rattle.td_ast.specs.declared.parts.PartTree.{PartTree}
use Rattle.td_ast.specs.declared.parts.InputTree.{InputTree}
use Rattle.td_ast.specs.declared.parts.InputTree.TheVariants.{Module, Parts}
use Rattle.td_grammar.specs.Limits.{IsWithinLimits}
use Rattle.td_grammar.specs.Reading.{Got, read_whole}
use Rattle.td_grammar.specs.Grammar.{Grammar, ◌making◌, maybe, all_of, ◌or◌}
use Rattle.td_grammar.specs.Sequences.{some_of}
use Rattle.td_grammar.specs.Definitions.{cases, define, enumeration, typedef, casetype, entrypoint, output, alias_rest, struct_rest, case_tree, item, slot, def}
use Rattle.td_grammar.specs.Parts.{module_word, part, alone, or_empty, input_text}
use Rattle.td_grammar.specs.Parameters.{head, param}
use Rattle.td_grammar.specs.Fields.{field, type_tree}
use Rattle.td_grammar.specs.Expressions.{expr}
use Rattle.td_grammar.proofs.Answers.{not_deep}
use Rattle.td_grammar.proofs.Inputs.{input_text_exact}
use Rattle.td_print_layout.specs.Pieces.{Word, LineEnd}
use Rattle.td_print_layout.specs.Sequences.{parted_by}
use Rattle.td_print_layout.specs.Definitions.{definition_pieces, definition_lines, part_lines, layout}
use Rattle.td_print_layout.specs.Unspanned.{unspanned_definition, unspanned_part}
use Rattle.td_print_layout.specs.Laws.{KeepsLimits}
use Rattle.td_print_layout.proofs.Clean.{Clean, Begun}
use Rattle.td_print_layout.proofs.Tokens.{one_token}
use Rattle.td_print_layout.proofs.Sequences.{IsFilled}
use Rattle.td_print_layout.proofs.Filled.{some_filled}
use Rattle.td_print_layout.proofs.Inputs.{SameDefinitions, SameInput, module_same, parts_same, empty_same}
use Rattle.td_print_layout.proofs.Kept.{Kept, blank, line, both, made, none, some, first, into, nil, more, all, each_all, each_kept}
use Rattle.td_print_layout.proofs.Plainly.{name_kept}
use Rattle.td_print_layout.proofs.Sources.{NoPass}
use Rattle.td_print_layout.proofs.KeptDefinitions.{FitsDefinition, definition_kept}
use Rattle.td_print_layout.proofs.FitDefinitions.{definition_fits, definitions_fit}
use Rattle.td_print_layout.proofs.Within.{tail_of, one_side, other_side, some_within}

-- a prefix that passes would be one up to some place
no_pass : (P : List Token → Type 0) → (P [] → ⊥) → (tokens : List Token) → IsWithinLimits P tokens → NoPass P tokens
no_pass P not_nothing tokens within [] back e p = not_nothing p
no_pass P not_nothing tokens within (t ∷ front) back e p =
    let size : length tokens ≡ suc (length front) + length back = ap length e ∙ length-append (t ∷ front) back in
    let one : take (length front + 1) tokens ≡ t ∷ front = rw e (take_at (t ∷ front) back (length front + 1) (omega arith)) in
    within (length front) (omega (arith, size)) (subst P (sym one) p)

-- ---- definitions

others_kept : (ds : List Def) → Each FitsDefinition ds → Kept (all_of def) (flat_map (λ x. (LineEnd ∷ []) ++ definition_pieces x) ds) (SameDefinitions ds)
unfolding def define enumeration item typedef casetype cases case_tree entrypoint output slot alias_rest struct_rest head param field type_tree expr
others_kept ds f = each_kept def refl refl (λ x. (LineEnd ∷ []) ++ definition_pieces x) unspanned_definition FitsDefinition (λ x g. line (definition_kept x g)) ds f

definitions_all : (ds : List Def) → Each FitsDefinition ds → Kept (all_of def) (definition_lines ds) (SameDefinitions ds)
unfolding def define enumeration item typedef casetype cases case_tree entrypoint output slot alias_rest struct_rest head param field type_tree expr
definitions_all [] f = all def refl refl (record { read = λ tokens e. let r = (nil def refl refl).read tokens e in (r.0, r.1, r.2, ap (λ (l : List Def). map unspanned_definition l) r.3) })
definitions_all (d ∷ ds) f =
    all def refl refl (more def refl refl (definition_kept d f.0)
    (each_all def refl refl (λ x. (LineEnd ∷ []) ++ definition_pieces x) unspanned_definition FitsDefinition (λ x g. line (definition_kept x g)) ds f.1) (λ y ys e g. cc (e, g)))

some_kept : (d : Def) (ds : List Def) → Each FitsDefinition (d ∷ ds) → Kept (some_of def) (definition_lines (d ∷ ds)) (SameDefinitions (d ∷ ds))
unfolding def define enumeration item typedef casetype cases case_tree entrypoint output slot alias_rest struct_rest head param field type_tree expr
some_kept d ds f = made _ (both (definition_kept d f.0) (others_kept ds f.1) refl) (λ z h. cc (h.0, h.1))

-- ---- parts

word_clean : (tokens : List Token) (t : Token) → tokens ≡ t ∷ [] → t.kind ≡ kinds.Name (codes "module") → Clean module_word t.span tokens
word_clean tokens t e f rest stops = rw (e, f) refl

word_begun : (tokens : List Token) (t : Token) → tokens ≡ t ∷ [] → t.kind ≡ kinds.Name (codes "module") → Begun module_word tokens
word_begun tokens t e f = rw (e, f) refl

word_kept : Kept module_word (Word (kinds.Name (codes "module")) ∷ []) (λ s. Unit {0})
word_kept = record { read = λ tokens e. let p = one_token tokens (kinds.Name (codes "module")) e in (p.0.span, word_clean tokens p.0 p.1 p.2, word_begun tokens p.0 p.1 p.2, tt) }

abbrev FitsPart : PartTree → Type 0
FitsPart p = Each FitsDefinition p.definitions

part_kept : (p : PartTree) → FitsPart p → Kept part (part_lines p) (λ r. unspanned_part r ≡ unspanned_part p)
unfolding part def define enumeration item typedef casetype cases case_tree entrypoint output slot alias_rest struct_rest head param field type_tree expr
part_kept p f = made _ (both word_kept (both (blank (name_kept p.name)) (line (line (definitions_all p.definitions f))) refl) refl) (λ x g. cc (g.1.0, g.1.1))

parts_kept : (ps : List PartTree) → IsFilled ps → Each FitsPart ps → Kept (some_of part) (parted_by (LineEnd ∷ []) part_lines ps) (λ r. map unspanned_part r ≡ map unspanned_part ps)
unfolding part def define enumeration item typedef casetype cases case_tree entrypoint output slot alias_rest struct_rest head param field type_tree expr
parts_kept [] filled f = absurd filled
parts_kept (p ∷ ps) filled f =
    made _ (both (part_kept p f.0) (each_kept part refl refl (λ x. (LineEnd ∷ []) ++ part_lines x) unspanned_part FitsPart (λ x g. line (part_kept x g)) ps f.1) refl) (λ z h. cc (h.0, h.1))

-- ---- inputs

abbrev FitsInput : InputTree → Type 0
FitsInput (Module tree) = Each FitsDefinition tree.definitions
FitsInput (Parts parts) = IsFilled parts × Each FitsPart parts

abbrev some_parts : Grammar InputTree
some_parts = some_of part making Parts

module_kept : (ds : List Def) → Each FitsDefinition ds → Kept input_text (definition_lines ds) (SameInput (alone ds))
unfolding input_text part def define enumeration item typedef casetype cases case_tree entrypoint output slot alias_rest struct_rest head param field type_tree expr
module_kept [] f = made or_empty (none ((some_of def making alone) or some_parts)) empty_same
module_kept (d ∷ ds) f =
    made or_empty (some {H = λ o. SameInput (alone (d ∷ ds)) (or_empty o)} refl (first some_parts (made {H = SameInput (alone (d ∷ ds))} alone (some_kept d ds f) (module_same (d ∷ ds))) refl) (λ i e. e)) (λ o e. e)

input_kept : (input : InputTree) → FitsInput input → Kept input_text (layout input) (SameInput input)
unfolding input_text part def define enumeration item typedef casetype cases case_tree entrypoint output slot alias_rest struct_rest head param field type_tree expr
input_kept (Module tree) f = module_kept tree.definitions f
input_kept (Parts []) f = absurd (f.0)
input_kept (Parts (p ∷ ps)) f =
    made or_empty (some {H = λ o. SameInput (Parts (p ∷ ps)) (or_empty o)} refl
    (into ((some_of def making alone) or some_parts) (kinds.Name (codes "module")) (made {H = SameInput (Parts (p ∷ ps))} Parts (parts_kept (p ∷ ps) f.0 f.1) (parts_same (p ∷ ps))) refl (λ t ts e. rw e refl) refl refl)
    (λ i e. e)) (λ o e. e)

part_fits : (p : PartTree) (tokens : List Token) → part.Spells p tokens → NoPass part.Passes tokens → FitsPart p
unfolding part
part_fits p tokens (x, e, s) w =
    let after1 = tail_of x.0 tokens s.0 s.1 s.2 s.3 w in
    let after2 = tail_of x.1.0 s.1 s.4.0 s.4.1 s.4.2 s.4.3 after1 in
    subst FitsPart e (definitions_fit x.1.1 s.4.1 s.4.4 after2)

input_fits : (input : InputTree) (source : List Token) → input_text.Spells input source → NoPass input_text.Passes source → FitsInput input
unfolding input_text
input_fits input source (o, e, s) w = subst FitsInput e (by_form o s)
  where
    by_form : (o : Option InputTree) → (maybe ((some_of def making alone) or some_parts)).Spells o source → FitsInput (or_empty o)
    by_form None s = tt
    by_form (Some i) (inl (ds, e, s)) = subst FitsInput e (some_within def FitsDefinition definition_fits ds source s (one_side _ _ source w))
    by_form (Some i) (inr (ps, e, s)) = subst FitsInput e (some_filled part ps source s, some_within part FitsPart part_fits ps source s (other_side _ _ source w))

-- what is read whole passes no limit
clean_within : (input : InputTree) (tokens : List Token) → Clean input_text input tokens → IsWithinLimits input_text.Passes tokens
clean_within input tokens clean = not_deep input_text input_text_exact tokens (λ over h. cc (h, whole))
  where
    whole : read_whole input_text.reader tokens ≡ Got input []
    whole = let first : input_text.reader.read tokens ≡ Got input [] = ap input_text.reader.read (sym (append-nil tokens)) ∙ clean [] refl in rw first refl

pub input_keeps_limits : KeepsLimits
input_keeps_limits input source tokens s within e =
    let fits = input_fits input source s (no_pass input_text.Passes input_text_exact.not_nothing source within) in
    let r = (input_kept input fits).read tokens e in
    clean_within r.0 tokens r.1
