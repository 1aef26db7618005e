-- What the whole answers, from what its passes do.
use Rattle.std.proofs.Common.{◌≡◌, ℕ, List, Result, Ok, Err, IfOk, IfErr, MatchResult, ◌⊎◌, inl, inr, refl, sym, subst}
use Rattle.td_front.specs.Imports.{Module, LexError, BadByte as BadByteAt, OpenComment as OpenCommentAt, BigNumber as BigNumberAt, NoMemory as NoTokens, Token, ParseError}
use Rattle.td_lexer.specs.Splits.{Splits, IsRefused}
use Rattle.td_grammar.specs.Spelling.{IsFirstRefused}
use Rattle.td_grammar.specs.Limits.{IsFirstDeep, IsWithinLimits}
use Rattle.td_grammar.specs.Parts.{input_text}
use Rattle.td_parser.specs.declared.error.ParseError.TheVariants.{Unexpected as UnexpectedToken, Deep as DeepToken, NoMemory as NoTree}
use Rattle.td_front.specs.declared.error.FrontError.{FrontError}
use Rattle.td_front.specs.declared.error.FrontError.TheVariants.{NoMemory}
use Rattle.td_front.specs.Errors.{of_lexing, of_parsing}
use Rattle.td_front.specs.ModuleText.{IsModuleText, IsTextOf, RefusedBy}
use Rattle.td_front.specs.declared.check.CheckedInput.{CheckedInput}
use Rattle.td_front.specs.Checked.{IsChecked}
use Rattle.td_front.specs.Laws.{OneModuleEach, OneRefusalEach, NeverBoth, ModulesAreChecked}

-- there was no memory, or it is a refusal of the text
abbrev pub Stops : List ℕ → FrontError → Type 0
Stops text e = (e ≡ NoMemory) ⊎ RefusedBy text e

-- a refusal of the bytes is one of the text
pub of_bytes : (text : List ℕ) (l : LexError) (e : FrontError) → e ≡ of_lexing l → (l ≡ NoTokens) ⊎ IsRefused text l → Stops text e
of_bytes text l e is h = subst (Stops text) (sym is) (by l h)
  where
    by : (l : LexError) → (l ≡ NoTokens) ⊎ IsRefused text l → Stops text (of_lexing l)
    by (BadByteAt at) (inl k) = cc
    by (BadByteAt at) (inr k) = inr k
    by (OpenCommentAt at) (inl k) = cc
    by (OpenCommentAt at) (inr k) = inr k
    by (BigNumberAt at) (inl k) = cc
    by (BigNumberAt at) (inr k) = inr k
    by NoTokens k = inl refl

-- a refusal of the tokens is one of the text
pub of_tokens : (text : List ℕ) (tokens : List Token) → Splits text tokens → (l : ParseError)
    → ((place : ℕ) → l ≡ UnexpectedToken place → IsFirstRefused input_text.Spells tokens place × IsWithinLimits input_text.Passes tokens)
    → ((place : ℕ) → l ≡ DeepToken place → IsFirstDeep input_text.Passes tokens place)
    → (e : FrontError) → e ≡ of_parsing text tokens l → Stops text e
of_tokens text tokens split l refused deep e is = subst (Stops text) (sym is) (by l refused deep)
  where
    by : (l : ParseError)
        → ((place : ℕ) → l ≡ UnexpectedToken place → IsFirstRefused input_text.Spells tokens place × IsWithinLimits input_text.Passes tokens)
        → ((place : ℕ) → l ≡ DeepToken place → IsFirstDeep input_text.Passes tokens place)
        → Stops text (of_parsing text tokens l)
    by (UnexpectedToken token) r d = let h = r token refl in inr (tokens, split, h.0, h.1, refl)
    by (DeepToken token) r d = inr (tokens, split, d token refl, refl)
    by NoTree r d = inl refl

-- the module for which the text stands is the answer
pub complete_from : (text : List ℕ) → OneModuleEach → NeverBoth → (r : Result CheckedInput FrontError) → IfOk r (λ f. IsTextOf text f.input f.module) → IfErr r (Stops text) → (m : Module) → IsModuleText text m → MatchResult r (λ found. found.module ≡ m) (λ e. e ≡ NoMemory)
complete_from text one never (Ok found) stands stops m h = one text found.module m stands.0 h
complete_from text one never (Err e) stands (inl p) m h = p
complete_from text one never (Err e) stands (inr p) m h = absurd (never text m e h p)

-- the refusal of the text is the answer
pub exact_from : (text : List ℕ) → OneRefusalEach → NeverBoth → (r : Result CheckedInput FrontError) → IfOk r (λ f. IsTextOf text f.input f.module) → IfErr r (Stops text) → (e : FrontError) → RefusedBy text e → MatchResult r (λ found. ⊥) (λ found. (found ≡ e) ⊎ (found ≡ NoMemory))
exact_from text one never (Ok found) stands stops e h = never text found.module e stands.0 h
exact_from text one never (Err x) stands (inl p) e h = inr p
exact_from text one never (Err x) stands (inr p) e h = inl (one text x e p h)

-- what holds of each module that a text stands for holds of the answer
pub checked_from : (text : List ℕ) → ModulesAreChecked → (r : Result CheckedInput FrontError) → IfOk r (λ f. IsTextOf text f.input f.module) → IfOk r (λ f. IsChecked f.module)
checked_from text checked (Ok found) stands = checked text found.module stands.0
checked_from text checked (Err e) stands = tt
