-- The names of a module of a text as they are spelled: words, or two words joined by a dot, and no two alike. Cited by other crates.
use Rattle.std.proofs.Common.{◌≡◌, ℕ, zero, suc, List, [], ◌∷◌, map, Some, None, inl, inr, refl, sym, subst, ◌∙◌}
use Rattle.std.specs.Prelude.{slice_get}
use Rattle.td_num.specs.Lists.{Each, AreApart}
use Rattle.td_num.proofs.Lists.{all_among, each_at, each_map}
use Rattle.td_front_facts.specs.Imports.{Token, PartTree, InputTree, Module}
use Rattle.td_ast.specs.declared.parts.InputTree.TheVariants.{Module as Parsed, Parts}
use Rattle.td_lexer.specs.Splits.{Splits, IsName, IsLongName}
use Rattle.td_grammar.specs.Parts.{input_text}
use Rattle.td_grammar.specs.Laws.{EitherForm}
use Rattle.td_elab_rules.specs.Modules.{StandsFor}
use Rattle.td_elab_rules.specs.Written.{names_written}
use Rattle.td_elab_rules.specs.Laws.{NamesAreWritten, NamesAreApart}
use Rattle.td_front_flat.specs.Names.{spelled}
use Rattle.td_front_flat.specs.Order.{names_of, first_twice}
use Rattle.td_front_flat.specs.Flat.{flat}
use Rattle.td_front_flat_facts.specs.Laws.{OfPart, OfInput, IsFlat, NamesStayWords, WordsAreSpelledSo, NumberedAreDotted, NamesStayApart}
use Rattle.td_front_facts.specs.Laws.{NamesAreWords, PlainNamesAreWords, SpelledNamesAreApart}
use Rattle.td_front_facts.proofs.Tokens.{splitting_words}
use Rattle.td_front_facts.proofs.Names.{spelled_names, spelled_parts}

pub written_words : EitherForm → (text : List ℕ) (tokens : List Token) (input : InputTree) → Splits text tokens → input_text.Spells input tokens → OfInput IsName input
written_words form text tokens (Parsed t) split spelled = spelled_names IsName t tokens (form.0 t tokens spelled) (splitting_words text tokens split)
written_words form text tokens (Parts parts) split spelled = spelled_parts IsName parts tokens (form.2 parts tokens spelled) (splitting_words text tokens split)

-- the names of a module as they stand in the one tree
names_flat : NamesAreWritten → NamesStayWords → (input : InputTree) (m : Module) → OfInput IsName input → StandsFor (flat input) m → Each (IsFlat IsName input) m.names
names_flat written stay input m words stands = all_among (IsFlat IsName input) (names_written (flat input)) m.names (stay input words) (written (flat input) m stands)

module _ {A B : Type 0} (P : A → Type 0) (Q : B → Type 0) (f : A → B) (moved : (x : A) → P x → Q (f x)) where
  each_mapped : (xs : List A) → Each P xs → Each Q (map f xs)
  each_mapped [] h = tt
  each_mapped (x ∷ xs) h = (moved x h.0, each_mapped xs h.1)

-- ---- words

long_told : WordsAreSpelledSo → NumberedAreDotted → (parts : List PartTree) → Each (OfPart IsName) parts → (x : List ℕ) → IsFlat IsName (Parts parts) x → IsLongName (spelled (names_of parts) x)
long_told words dotted parts h x (inl word) = subst IsLongName (sym (words (names_of parts) x word)) (inl word)
long_told words dotted parts h x (inr numbered) = inr (dotted parts x h numbered)

pub names_are_words : NamesAreWritten → EitherForm → NamesStayWords → WordsAreSpelledSo → NumberedAreDotted → NamesAreWords
names_are_words written form stay words dotted text tokens (Parsed t) m split spells stands =
    each_map IsName IsLongName m.names (λ x h. inl h) (names_flat written stay (Parsed t) m (written_words form text tokens (Parsed t) split spells) stands)
names_are_words written form stay words dotted text tokens (Parts parts) m split spells stands =
    let h = written_words form text tokens (Parts parts) split spells in
    each_mapped (IsFlat IsName (Parts parts)) IsLongName (spelled (names_of parts)) (long_told words dotted parts h) m.names (names_flat written stay (Parts parts) m h stands)

pub plain_names_are_words : NamesAreWritten → EitherForm → PlainNamesAreWords
plain_names_are_words written form text tokens t m split spelled stands =
    all_among IsName (names_written t) m.names (written_words form text tokens (Parsed t) split spelled) (written t m stands)

-- ---- no two alike

record IsMapped {A B : Type 0} (f : A → B) (xs : List A) (i : ℕ) (y : B) : Type 0 where
  from : A
  there : slice_get xs i ≡ Some from
  told : f from ≡ y

mapped_from : {A B : Type 0} (f : A → B) (xs : List A) (i : ℕ) (y : B) → slice_get (map f xs) i ≡ Some y → IsMapped f xs i y
mapped_from f [] i y e = absurd cc
mapped_from f (x ∷ xs) zero y e = record { from = x; there = refl; told = cc }
mapped_from f (x ∷ xs) (suc i) y e = let h = mapped_from f xs i y e in record { from = h.from; there = h.there; told = h.told }

names_apart : NamesStayApart → (parts : List PartTree) (names : List (List ℕ)) → first_twice [] parts ≡ None → Each (OfPart IsName) parts → Each (IsFlat IsName (Parts parts)) names
    → AreApart names → AreApart (map (spelled (names_of parts)) names)
names_apart stay parts names once words flat apart i j name e f =
    let a = mapped_from (spelled (names_of parts)) names i name e in
    let b = mapped_from (spelled (names_of parts)) names j name f in
    let one = each_at (IsFlat IsName (Parts parts)) names i a.from flat a.there in
    let other = each_at (IsFlat IsName (Parts parts)) names j b.from flat b.there in
    let same = stay parts a.from b.from once words one other (a.told ∙ sym b.told) in
    apart i j a.from a.there (subst (λ x. slice_get names j ≡ Some x) (sym same) b.there)

pub spelled_names_are_apart : NamesAreWritten → NamesAreApart → EitherForm → NamesStayWords → NamesStayApart → SpelledNamesAreApart
spelled_names_are_apart written apart form stay told text tokens (Parsed t) m split spells linked stands = apart t m stands
spelled_names_are_apart written apart form stay told text tokens (Parts parts) m split spells linked stands =
    let h = written_words form text tokens (Parts parts) split spells in
    names_apart told parts m.names linked.0 h (names_flat written stay (Parts parts) m h stands) (apart (flat (Parts parts)) m stands)
