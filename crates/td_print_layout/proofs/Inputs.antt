-- Inputs read back.
use Rattle.std.proofs.Common.{◌≡◌, List, [], ◌∷◌, ◌++◌, map, Option, Some, None, codes, refl, ap, subst, inl, inr}
use Rattle.std.specs.Prelude.{flat_map}
use Rattle.td_num.specs.Lists.{Each}
use Rattle.td_ast.specs.declared.token.Token.{Token}
use Rattle.td_ast.specs.declared.token.TokenKind.TheVariants as kinds
use Rattle.td_ast.specs.declared.definitions.Def.{Def}
use Rattle.td_ast.specs.declared.parts.PartTree.{PartTree}
use Rattle.td_ast.specs.declared.parts.InputTree.{InputTree}
use Rattle.td_ast.specs.declared.parts.InputTree.TheVariants.{Module, Parts}
use Rattle.td_grammar.specs.Spelling.{SpellsAll}
use Rattle.td_grammar.specs.Grammar.{◌making◌, maybe, ◌or◌}
use Rattle.td_grammar.specs.Sequences.{some_of}
use Rattle.td_grammar.specs.Definitions.{def}
use Rattle.td_grammar.specs.Parts.{module_word, part, alone, or_empty, input_text}
use Rattle.td_print_layout.specs.Pieces.{Word, LineEnd}
use Rattle.td_print_layout.specs.Sequences.{parted_by}
use Rattle.td_print_layout.specs.Definitions.{definition_pieces, definition_lines, part_lines, layout}
use Rattle.td_print_layout.specs.Unspanned.{unspanned_definition, unspanned_part, unspanned}
use Rattle.td_print_layout.specs.Laws.{ReadsBack}
use Rattle.td_print_layout.proofs.Tokens.{one_token}
use Rattle.td_print_layout.proofs.Back.{Back, good, blank, line, both, made, left, right, none, some, nil, more, each_back}
use Rattle.td_print_layout.proofs.Words.{name_back}
use Rattle.td_print_layout.proofs.Sequences.{IsFilled}
use Rattle.td_print_layout.proofs.Definitions.{IsFilledDefinition, definition_back}
use Rattle.td_print_layout.proofs.Filled.{some_filled, each_some, definition_filled, definitions_filled}

-- ---- definitions

abbrev pub SameDefinitions : List Def → List Def → Type 0
SameDefinitions ds read = map unspanned_definition read ≡ map unspanned_definition ds

-- definitions after the first
others_back : (ds : List Def) → Each IsFilledDefinition ds → Back (SpellsAll def.Spells) (flat_map (λ x. (LineEnd ∷ []) ++ definition_pieces x) ds) (SameDefinitions ds)
others_back ds f = each_back def.Spells (λ x. (LineEnd ∷ []) ++ definition_pieces x) unspanned_definition IsFilledDefinition (λ x g. line (definition_back x g)) ds f

definitions_back : (ds : List Def) → Each IsFilledDefinition ds → Back (SpellsAll def.Spells) (definition_lines ds) (SameDefinitions ds)
definitions_back [] f = good nil (λ r e. ap (λ (l : List Def). map unspanned_definition l) e)
definitions_back (d ∷ ds) f = more (definition_back d f.0) (others_back ds f.1) (λ y ys e g. cc (e, g))

some_back : (d : Def) (ds : List Def) → Each IsFilledDefinition (d ∷ ds) → Back (some_of def).Spells (definition_lines (d ∷ ds)) (SameDefinitions (d ∷ ds))
some_back d ds f = made (both (definition_back d f.0) (others_back ds f.1)) (λ z h. cc (h.0, h.1))

-- ---- parts

word_spelled : (tokens : List Token) (t : Token) → tokens ≡ t ∷ [] → t.kind ≡ kinds.Name (codes "module") → module_word.Spells t.span tokens
word_spelled tokens t e f = (t, e, rw f refl)

word_back : Back module_word.Spells (Word (kinds.Name (codes "module")) ∷ []) (λ s. Unit {0})
word_back = record { read = λ tokens e. let p = one_token tokens (kinds.Name (codes "module")) e in (p.0.span, word_spelled tokens p.0 p.1 p.2, tt) }

abbrev IsFilledPart : PartTree → Type 0
IsFilledPart p = Each IsFilledDefinition p.definitions

part_back : (p : PartTree) → IsFilledPart p → Back part.Spells (part_lines p) (λ r. unspanned_part r ≡ unspanned_part p)
unfolding part
part_back p f = made (both word_back (both (blank (name_back p.name)) (line (line (definitions_back p.definitions f))))) (λ x g. cc (g.1.0, g.1.1))

parts_back : (ps : List PartTree) → IsFilled ps → Each IsFilledPart ps → Back (some_of part).Spells (parted_by (LineEnd ∷ []) part_lines ps) (λ r. map unspanned_part r ≡ map unspanned_part ps)
parts_back [] filled f = absurd filled
parts_back (p ∷ ps) filled f =
    made (both (part_back p f.0) (each_back part.Spells (λ x. (LineEnd ∷ []) ++ part_lines x) unspanned_part IsFilledPart (λ x g. line (part_back x g)) ps f.1)) (λ z h. cc (h.0, h.1))

-- ---- inputs

abbrev IsFilledInput : InputTree → Type 0
IsFilledInput (Module tree) = Each IsFilledDefinition tree.definitions
IsFilledInput (Parts parts) = IsFilled parts × Each IsFilledPart parts

-- what reads back as an input
abbrev pub SameInput : InputTree → InputTree → Type 0
SameInput input read = unspanned read ≡ unspanned input

pub module_same : (ds : List Def) (read : List Def) → SameDefinitions ds read → SameInput (alone ds) (alone read)
module_same ds read e = cc (e)

pub parts_same : (ps : List PartTree) (read : List PartTree) → map unspanned_part read ≡ map unspanned_part ps → SameInput (Parts ps) (Parts read)
parts_same ps read e = cc (e)

pub empty_same : (o : Option InputTree) → o ≡ None → SameInput (alone []) (or_empty o)
empty_same o e = ap (λ (o : Option InputTree). unspanned (or_empty o)) e

module_back : (ds : List Def) → Each IsFilledDefinition ds → Back input_text.Spells (definition_lines ds) (SameInput (alone ds))
unfolding input_text
module_back [] f = made none empty_same
module_back (d ∷ ds) f =
    made (some {H = λ o. SameInput (alone (d ∷ ds)) (or_empty o)} (left (made {H = SameInput (alone (d ∷ ds))} (some_back d ds f) (module_same (d ∷ ds)))) (λ i e. e)) (λ o e. e)

input_back : (input : InputTree) → IsFilledInput input → Back input_text.Spells (layout input) (SameInput input)
unfolding input_text
input_back (Module tree) f = module_back tree.definitions f
input_back (Parts parts) f =
    made (some {H = λ o. SameInput (Parts parts) (or_empty o)} (right (made {H = SameInput (Parts parts)} (parts_back parts f.0 f.1) (parts_same parts))) (λ i e. e)) (λ o e. e)

part_filled : (p : PartTree) (tokens : List Token) → part.Spells p tokens → IsFilledPart p
unfolding part
part_filled p tokens (x, e, s) = subst IsFilledPart e (definitions_filled x.1.1 s.4.1 s.4.4)

input_filled : (input : InputTree) (tokens : List Token) → input_text.Spells input tokens → IsFilledInput input
unfolding input_text
input_filled input tokens (o, e, s) = subst IsFilledInput e (by_form o s)
  where
    by_form : (o : Option InputTree) → (maybe ((some_of def making alone) or (some_of part making Parts))).Spells o tokens → IsFilledInput (or_empty o)
    by_form None s = tt
    by_form (Some i) (inl (ds, e, s)) = subst IsFilledInput e (each_some def IsFilledDefinition definition_filled ds tokens s)
    by_form (Some i) (inr (ps, e, s)) = subst IsFilledInput e (some_filled part ps tokens s, each_some part IsFilledPart part_filled ps tokens s)

pub input_reads_back : ReadsBack
input_reads_back input source tokens s e = (input_back input (input_filled input source s)).read tokens e
