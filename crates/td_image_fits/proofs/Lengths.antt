-- The name of a part, a dot and a name that is written in it are together no longer than the text, so no name of its module is longer.
use Rattle.std.proofs.Common.{◌≡◌, ℕ, zero, suc, ◌+◌, ◌^◌, ◌<◌, ◌≤◌, Bool, true, false, List, [], ◌∷◌, ◌++◌, length, get_or, Some, None, codes, bytes_eq, refl, ap, ◌∙◌, subst, sym, arith, length-append}
use Rattle.std.specs.Prelude.{if◌then◌else◌, slice_get}
use Rattle.std.proofs.lemmas.Slice.Eq.{bytes_eq-Decides}
use Rattle.td_num.specs.Lists.{Each}
use Rattle.td_image_fits.specs.Imports.{Token, Span, TokenKind, ModuleTree}
use Rattle.td_ast.specs.declared.token.TokenKind.TheVariants as kinds
use Rattle.td_ast.specs.declared.names.Name.{Name}
use Rattle.td_ast.specs.declared.parts.PartTree.{PartTree}
use Rattle.td_ast.specs.declared.parts.InputTree.TheVariants.{Module, Parts}
use Rattle.td_lexer.specs.Splits.{IsName, SplitsUpTo, Splits}
use Rattle.td_lexer.specs.Splits.SplitsUpTo.{splits_here, splits_passed, splits_token}
use Rattle.td_grammar.specs.Grammar.{all_of}
use Rattle.td_grammar.specs.Sequences.{some_of}
use Rattle.td_grammar.specs.Tokens.{name, name_of}
use Rattle.td_grammar.specs.Definitions.{module_text}
use Rattle.td_grammar.specs.Parts.{module_of_kind, module_word, part, input_text}
use Rattle.td_grammar.specs.Laws.{EitherForm}
use Rattle.td_front_flat.specs.Names.{of_part, spelled}
use Rattle.td_front_flat.specs.Definitions.{own_of, flat_part}
use Rattle.td_front_flat.specs.Order.{names_of, graph_of, order}
use Rattle.td_front_flat.specs.Flat.{flat}
use Rattle.td_elab_rules.specs.Written.{definitions_written, names_written}
use Rattle.td_front_facts.proofs.Tokens.{OfKind, OfToken}
use Rattle.td_front_facts.proofs.Names.{spelled_names}
use Rattle.td_front_facts.proofs.Words.{written_words}
use Rattle.td_front_flat_facts.specs.Laws.{OfPart}
use Rattle.td_front_flat_facts.proofs.Words.{definitions_are, parts_are, place_within}
use Rattle.td_front_flat_facts.proofs.Spellings.{place, place_is, numbered_spelled, words_are_spelled_so}
use Rattle.td_image_fits.proofs.Tokens.{IsShort, token_short}

-- ---- how long the names among tokens are

name_length : TokenKind → ℕ
name_length (kinds.Name text) = length text
name_length _ = 0

abbrev weight : List Token → ℕ
weight [] = 0
weight (token ∷ tokens) = name_length token.kind + weight tokens

weight_append : (xs ys : List Token) → weight (xs ++ ys) ≡ weight xs + weight ys
weight_append [] ys = omega arith
weight_append (x ∷ xs) ys = (let w = weight_append xs ys in omega (arith, w))

kind_low : (most : ℕ) (kind : TokenKind) → OfKind (IsShort most) kind → name_length kind ≤ most
unfolding name_length
kind_low most (kinds.Name text) h = h
kind_low most _ h = omega arith

kind_short : (most : ℕ) (kind : TokenKind) → name_length kind ≤ most → OfKind (IsShort most) kind
unfolding name_length
kind_short most (kinds.Name text) h = h
kind_short most _ h = tt

all_short : (most : ℕ) (tokens : List Token) → weight tokens ≤ most → Each (OfToken (IsShort most)) tokens
all_short most [] h = tt
all_short most (token ∷ tokens) h = (kind_short most token.kind (omega (arith, h)), all_short most tokens (omega (arith, h)))

text_weight : {at to : ℕ} {bytes last : List ℕ} {tokens : List Token} → SplitsUpTo at bytes tokens to last → weight tokens ≤ length bytes
text_weight splits_here = omega arith
text_weight (splits_passed {bytes = front} {rest = rest} h more) = (let a = length-append front rest in let w = text_weight more in omega (arith, a, w))
text_weight (splits_token {bytes = front} {rest = rest} {kind = kind} h more) =
    let a = length-append front rest in
    let w = text_weight more in
    let k = kind_low (length front) kind (token_short (length front) h.0 (omega arith)) in
    omega (arith, a, w, k)

-- ---- parts

name_weight : (n : Name) (tokens : List Token) → name.Spells n tokens → weight tokens ≡ length n.text
unfolding name_length
name_weight n tokens (token, is, found) = subst (λ ts. weight ts ≡ length n.text) (sym is) (by token.kind found)
  where
    by : (kind : TokenKind) → name_of kind token.span ≡ Some n → name_length kind + 0 ≡ length n.text
    by (kinds.Name text) e = (let same : text ≡ n.text = cc in let l = ap length same in omega (arith, l))
    by _ e = absurd cc

word_weight : (at : Span) (tokens : List Token) → module_word.Spells at tokens → 1 ≤ weight tokens
unfolding name_length
word_weight at tokens (token, is, found) = subst (λ ts. 1 ≤ weight ts) (sym is) (by token.kind found)
  where
    long : (text : List ℕ) (b : Bool) → bytes_eq text (codes "module") ≡ b → (if b then Some token.span else None) ≡ Some at → 1 ≤ length text + 0
    long text true e f = (let l : length text ≡ 6 = ap length ((bytes_eq-Decides text (codes "module")).0 e) in omega (arith, l))
    long text false e f = absurd cc

    by : (kind : TokenKind) → module_of_kind kind token.span ≡ Some at → 1 ≤ name_length kind + 0
    by (kinds.Name text) e = long text (bytes_eq text (codes "module")) refl e
    by _ e = absurd cc

-- the name of a part, a dot and each name that is written in it have no more bytes than these
abbrev IsRoomy : ℕ → PartTree → Type 0
IsRoomy most p = (own : ℕ) × (length p.name.text + 1 + own ≤ most) × Each (IsShort own) (definitions_written p.definitions)

part_roomy : (most : ℕ) (p : PartTree) (tokens : List Token) → part.Spells p tokens → weight tokens ≤ most → IsRoomy most p
unfolding part module_text
part_roomy most p tokens ((at, (n, ds)), made, (front, back, is, word, (head, rest, parted, named, spelled))) low =
    let a = ap weight is in
    let b = weight_append front back in
    let c = ap weight parted in
    let d = weight_append head rest in
    let w = word_weight at front word in
    let l = name_weight n head named in
    subst (IsRoomy most) made
    (weight rest, omega (arith, a, b, c, d, w, l, low), spelled_names (IsShort (weight rest)) (record { definitions = ds }) rest (ds, refl, spelled) (all_short (weight rest) rest (omega arith)))

parts_roomy : (most : ℕ) (ps : List PartTree) (tokens : List Token) → (all_of part).Spells ps tokens → weight tokens ≤ most → Each (IsRoomy most) ps
parts_roomy most [] tokens h low = tt
parts_roomy most (p ∷ ps) tokens (front, back, is, first, others) low =
    let a = ap weight is in
    let b = weight_append front back in
    (part_roomy most p front first (omega (arith, a, b, low)), parts_roomy most ps back others (omega (arith, a, b, low)))

some_roomy : (most : ℕ) (ps : List PartTree) (tokens : List Token) → (some_of part).Spells ps tokens → weight tokens ≤ most → Each (IsRoomy most) ps
some_roomy most ps tokens ((p, others), made, (front, back, is, first, rest)) low =
    let a = ap weight is in
    let b = weight_append front back in
    subst (Each (IsRoomy most)) made (part_roomy most p front first (omega (arith, a, b, low)), parts_roomy most others back rest (omega (arith, a, b, low)))

-- each part takes a byte
part_light : (p : PartTree) (tokens : List Token) → part.Spells p tokens → 1 ≤ weight tokens
unfolding part module_text
part_light p tokens ((at, (n, ds)), made, (front, back, is, word, (head, rest, parted, named, spelled))) =
    let a = ap weight is in
    let b = weight_append front back in
    let w = word_weight at front word in
    omega (arith, a, b, w)

parts_light : (ps : List PartTree) (tokens : List Token) → (all_of part).Spells ps tokens → length ps ≤ weight tokens
parts_light [] tokens h = omega arith
parts_light (p ∷ ps) tokens (front, back, is, first, others) =
    let a = ap weight is in
    let b = weight_append front back in
    let one = part_light p front first in
    let few = parts_light ps back others in
    omega (arith, a, b, one, few)

some_light : (ps : List PartTree) (tokens : List Token) → (some_of part).Spells ps tokens → length ps ≤ weight tokens
some_light ps tokens ((p, others), made, (front, back, is, first, rest)) =
    let a = ap weight is in
    let b = weight_append front back in
    let one = part_light p front first in
    let few = parts_light others back rest in
    subst (λ qs. length qs ≤ weight tokens) made (omega (arith, a, b, one, few))

-- ---- as they are spelled

abbrev pub IsToldShort : ℕ → List (List ℕ) → List ℕ → Type 0
IsToldShort most names x = length (spelled names x) ≤ most

-- a word, and short
abbrev IsShortWord : ℕ → List ℕ → Type 0
IsShortWord own x = IsName x × IsShort own x

each_both : (own : ℕ) (xs : List (List ℕ)) → Each IsName xs → Each (IsShort own) xs → Each (IsShortWord own) xs
each_both own [] h k = tt
each_both own (x ∷ xs) h k = ((h.0, k.0), each_both own xs h.1 k.1)

named_there : (parts : List PartTree) (i : ℕ) (p : PartTree) → slice_get parts i ≡ Some p → get_or (names_of parts) i [] ≡ p.name.text
named_there [] i p e = absurd cc
named_there (q ∷ parts) zero p e = let same : q ≡ p = cc in ap (λ (x : PartTree). x.name.text) same
named_there (q ∷ parts) (suc i) p e = named_there parts i p e

-- words, and with its name short
abbrev IsFitting : ℕ → PartTree → Type 0
IsFitting most p = OfPart IsName p × IsRoomy most p

each_fitting : (most : ℕ) (parts : List PartTree) → Each (OfPart IsName) parts → Each (IsRoomy most) parts → Each (IsFitting most) parts
each_fitting most [] h k = tt
each_fitting most (p ∷ ps) h k = ((h.0, k.0), each_fitting most ps h.1 k.1)

module _ (most : ℕ) (parts : List PartTree) (few : length parts < 2 ^ 32) where
  alone : (own : ℕ) → own ≤ most → (x : List ℕ) → IsShortWord own x → IsToldShort most (names_of parts) x
  alone own room x (word, h) = (let l = ap length (words_are_spelled_so (names_of parts) x word) in omega (arith, l, h, room))

  joined : (i : ℕ) (p : PartTree) → slice_get parts i ≡ Some p → (own : ℕ) → length p.name.text + 1 + own ≤ most → (x : List ℕ) → IsShortWord own x → IsToldShort most (names_of parts) (of_part i x)
  joined i p there own room x (word, h) =
      let lt : i < 4294967296 = (let below = place_within parts i p there in omega (arith, below, few)) in
      let name : get_or (names_of parts) (place i) [] ≡ p.name.text = ap (λ k. get_or (names_of parts) k []) (place_is i lt) ∙ named_there parts i p there in
      let told : spelled (names_of parts) (of_part i x) ≡ p.name.text ++ 46 ∷ x = numbered_spelled (names_of parts) i x ∙ ap (λ front. front ++ 46 ∷ x) name in
      let a = length-append p.name.text (46 ∷ x) in
      let l = ap length told in
      omega (arith, a, l, h, room)

  part_short : (i : ℕ) (p : PartTree) → slice_get parts i ≡ Some p → IsFitting most p → Each (IsToldShort most (names_of parts)) (definitions_written (flat_part (names_of parts) i p))
  part_short i p there (words, (own, room, short)) =
      definitions_are (IsShortWord own) (IsToldShort most (names_of parts)) (own_of (names_of parts) i p) (alone own (omega (arith, room))) (joined i p there own room) p.definitions
      (each_both own (definitions_written p.definitions) words.1 short)

pub module_short : EitherForm → (text : List ℕ) (tokens : List Token) (t : ModuleTree) → Splits text tokens → input_text.Spells (Module t) tokens → Each (IsShort (length text)) (names_written t)
module_short form text tokens t split spelled =
    spelled_names (IsShort (length text)) t tokens (form.0 t tokens spelled) (all_short (length text) tokens (text_weight split.1))

pub parts_short : EitherForm → (text : List ℕ) (tokens : List Token) (parts : List PartTree) → length text < 2 ^ 32 → Splits text tokens → input_text.Spells (Parts parts) tokens
    → Each (IsToldShort (length text) (names_of parts)) (names_written (flat (Parts parts)))
parts_short form text tokens parts short split spelled =
    let most = length text in
    let spells = form.2 parts tokens spelled in
    let weighs = text_weight split.1 in
    let light = some_light parts tokens spells in
    let few : length parts < 2 ^ 32 = omega (arith, light, weighs, short) in
    parts_are parts (IsFitting most) (IsToldShort most (names_of parts)) (part_short most parts few) (order (graph_of parts))
    (each_fitting most parts (written_words form text tokens (Parts parts) split spelled) (some_roomy most parts tokens spells weighs))
