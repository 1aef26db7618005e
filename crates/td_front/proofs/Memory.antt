-- Where memory may be lacking: a text has a token, and its tree a definition.
use Rattle.std.proofs.Common.{◌≡◌, ℕ, suc, ◌+◌, ◌<◌, ◌≤◌, List, [], ◌∷◌, length, length-append, Result, Ok, Err, IsErrAnd, refl, sym, ap, subst, ◌∙◌, arith}
use Rattle.td_front.specs.Imports.{Token, ModuleTree, InputTree, LexError, BadByte as BadByteAt, OpenComment as OpenCommentAt, BigNumber as BigNumberAt, NoMemory as NoTokens, ParseError, FlatError, ElabError, KindError, ArithError}
use Rattle.td_ast.specs.declared.definitions.Def.{Def}
use Rattle.td_ast.specs.declared.parts.PartTree.{PartTree}
use Rattle.td_ast.specs.declared.parts.InputTree.TheVariants.{Module as Parsed, Parts}
use Rattle.td_lexer.specs.Splits.{Splits, HasToken}
use Rattle.td_grammar.specs.Definitions.{module_text}
use Rattle.td_grammar.specs.Parts.{part, input_text}
use Rattle.td_grammar.specs.Grammar.{Grammar, all_of}
use Rattle.td_grammar.specs.Sequences.{some_of}
use Rattle.td_grammar.specs.Laws.{OneTree, EitherForm}
use Rattle.td_parser.specs.declared.error.ParseError.TheVariants.{Unexpected as UnexpectedToken, Deep as DeepToken, NoMemory as NoTree}
use Rattle.td_elab_rules.specs.Known.{nothing_known}
use Rattle.td_elab_rules.specs.Definitions.{known_after}
use Rattle.td_elab_rules.specs.Modules.{all_names, module_from, module_of}
use Rattle.td_front_flat.specs.declared.error.FlatError.TheVariants.{Twice as TwiceAt, Cycle as CycleAt, NoMemory as NotFlat}
use Rattle.td_elab.specs.declared.elaborate.ElabError.TheVariants.{Broken as BrokenAt, NoMemory as NoModule}
use Rattle.td_kinds.specs.declared.error.KindError.TheVariants.{ZeroElement as ZeroElementAt, RestNotLast as RestNotLastAt, NoMemory as NoKinds}
use Rattle.td_arith.specs.declared.error.ArithError.TheVariants.{Unsafe as UnsafeAt, Room as RoomAt, Value as ValueAt, NoMemory as NoSafety}
use Rattle.td_front.specs.declared.error.FrontError.{FrontError}
use Rattle.td_front.specs.declared.error.FrontError.TheVariants.{NoMemory}
use Rattle.td_front.specs.Errors.{of_lexing, of_parsing, of_flattening, of_elaboration, of_kinds, of_arith}
use Rattle.td_front.specs.Passes.{RefusesTree}
use Rattle.td_front.specs.Inputs.{RefusedByCounts, IsFilled}
use Rattle.td_front.specs.ModuleText.{SpellsTree}

-- ---- errors

-- an error that is handed on was told
pub handed_on : {A B E P : Type 0} (r : Result B E) (e none : E) → IsErrAnd r (λ y. y ≡ e) → ((let s : Result A E = Err e in s ≡ Err none) → P) → r ≡ Err none → P
handed_on (Ok x) e none h told same = absurd h
handed_on (Err y) e none h told same = told (cc (h, same))

-- that there was no memory refuses no tree
pub refusal_told : (tree : ModuleTree) (e : FrontError) → RefusesTree tree e → e ≡ NoMemory → ⊥
refusal_told tree e h same = subst (RefusesTree tree) same h

-- nor an input
pub counts_told : (input : InputTree) (e : FrontError) → RefusedByCounts input e → e ≡ NoMemory → ⊥
counts_told input e h same = subst (RefusedByCounts input) same h

-- it was told by the pass
pub lexing_memory : (l : LexError) (e : FrontError) → e ≡ of_lexing l → e ≡ NoMemory → l ≡ NoTokens
lexing_memory (BadByteAt at) e is same = absurd (cc (is, same))
lexing_memory (OpenCommentAt at) e is same = absurd (cc (is, same))
lexing_memory (BigNumberAt at) e is same = absurd (cc (is, same))
lexing_memory NoTokens e is same = refl

pub parsing_memory : (text : List ℕ) (tokens : List Token) (l : ParseError) (e : FrontError) → e ≡ of_parsing text tokens l → e ≡ NoMemory → l ≡ NoTree
parsing_memory text tokens (UnexpectedToken token) e is same = absurd (cc (is, same))
parsing_memory text tokens (DeepToken token) e is same = absurd (cc (is, same))
parsing_memory text tokens NoTree e is same = refl

pub flattening_memory : (l : FlatError) (e : FrontError) → e ≡ of_flattening l → e ≡ NoMemory → l ≡ NotFlat
flattening_memory (TwiceAt span) e is same = absurd (cc (is, same))
flattening_memory (CycleAt span) e is same = absurd (cc (is, same))
flattening_memory NotFlat e is same = refl

pub elaboration_memory : (l : ElabError) (e : FrontError) → e ≡ of_elaboration l → e ≡ NoMemory → l ≡ NoModule
elaboration_memory (BrokenAt rule span) e is same = absurd (cc (is, same))
elaboration_memory NoModule e is same = refl

pub kinds_memory : (l : KindError) (e : FrontError) → e ≡ of_kinds l → e ≡ NoMemory → l ≡ NoKinds
kinds_memory (ZeroElementAt span) e is same = absurd (cc (is, same))
kinds_memory (RestNotLastAt span) e is same = absurd (cc (is, same))
kinds_memory NoKinds e is same = refl

pub arith_memory : (l : ArithError) (e : FrontError) → e ≡ of_arith l → e ≡ NoMemory → l ≡ NoSafety
arith_memory (UnsafeAt span op) e is same = absurd (cc (is, same))
arith_memory (RoomAt span) e is same = absurd (cc (is, same))
arith_memory (ValueAt span) e is same = absurd (cc (is, same))
arith_memory NoSafety e is same = refl

-- ---- tokens and definitions

-- a module with a definition is that of a tree with one
pub has_definition : (tree : ModuleTree) → 0 < length (module_of tree).definitions → 0 < length tree.definitions
has_definition tree h = by tree.definitions h
  where
    by : (ds : List Def) → 0 < length (module_from (all_names [] ds) (known_after (all_names [] ds) nothing_known ds)).definitions → 0 < length ds
    by [] h = h
    by (d ∷ ds) _ = omega arith

pub has_token : (text : List ℕ) (tokens : List Token) → Splits text tokens → 0 < length tokens → HasToken text
has_token text tokens split some = (tokens, split.0, [], split.1, some)

-- no tokens spell the module without definitions
none_spelled : module_text.Spells (record { definitions = [] }) []
unfolding module_text
none_spelled = ([], refl, refl)

-- so a text of which memory may be wanted has a token
pub input_token : OneTree → EitherForm → (text : List ℕ) (input : InputTree) → SpellsTree text input → IsFilled input → HasToken text
input_token one form text input h filled = by h.tokens h.split h.spelled
  where
    by : (tokens : List Token) → Splits text tokens → input_text.Spells input tokens → HasToken text
    by [] split spelled =
        let none : Parsed (record { definitions = [] }) ≡ input = one [] (Parsed (record { definitions = [] })) input (form.1 (record { definitions = [] }) [] none_spelled) spelled in
        absurd (omega (arith, subst IsFilled (sym none) filled))
    by (token ∷ tokens) split spelled = has_token text (token ∷ tokens) split (omega arith)

-- ---- how many parts

abbrev IsSpelledBySome : {A : Type 0} → Grammar A → Type 0
IsSpelledBySome {A} g = (a : A) (tokens : List Token) → g.Spells a tokens → 0 < length tokens

no_more_of : {A : Type 0} (g : Grammar A) → IsSpelledBySome g → (xs : List A) (tokens : List Token) → (all_of g).Spells xs tokens → length xs ≤ length tokens
no_more_of g some [] tokens h = omega arith
no_more_of g some (x ∷ xs) tokens (front, back, is, first, rest) =
    let few = no_more_of g some xs back rest in
    let one = some x front first in
    let long : length tokens ≡ length front + length back = ap length is ∙ length-append front back in
    omega (arith, few, one, long)

part_by_some : IsSpelledBySome part
unfolding part
part_by_some p tokens (a, made, (front, back, is, first, second)) =
    let one : length front ≡ 1 = ap length first.1 in
    let long : length tokens ≡ length front + length back = ap length is ∙ length-append front back in
    omega (arith, one, long)

-- parts are no more than tokens
pub few_parts : EitherForm → (parts : List PartTree) (tokens : List Token) → input_text.Spells (Parts parts) tokens → length parts ≤ length tokens
few_parts form parts tokens spelled = by parts (form.2 parts tokens spelled)
  where
    by : (parts : List PartTree) → (some_of part).Spells parts tokens → length parts ≤ length tokens
    by parts (a, made, (front, back, is, first, second)) =
        let one = part_by_some a.0 front first in
        let few = no_more_of part part_by_some a.1 back second in
        let long : length tokens ≡ length front + length back = ap length is ∙ length-append front back in
        let all : suc (length a.1) ≡ length parts = ap length made in
        omega (arith, one, few, long, all)
