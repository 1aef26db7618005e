-- What a text is answered: it stands for one module or has one refusal.
use Rattle.std.proofs.Common.{◌≡◌, ℕ, List, Result, Ok, Err, ◌⊎◌, inl, inr, ◌↔◌, refl, sym, ap, subst, ◌∙◌}
use Rattle.td_front.specs.Imports.{Token, ModuleTree, InputTree, Module, LexError, BadByte as BadByteAt, OpenComment as OpenCommentAt, BigNumber as BigNumberAt, NoMemory as NoTokens}
use Rattle.td_ast.specs.declared.parts.InputTree.TheVariants.{Module as Parsed}
use Rattle.td_lexer.specs.Scanner.{tokens_of}
use Rattle.td_lexer.specs.Splits.{Splits, IsRefused}
use Rattle.td_grammar.specs.Spelling.{IsFirstRefused}
use Rattle.td_grammar.specs.Limits.{IsFirstDeep, IsWithinLimits}
use Rattle.td_grammar.specs.Parts.{input_text}
use Rattle.td_grammar.specs.Laws.{Answer, Tree, Refused, TooDeep, EachAnswered, OneTree, OneRefused, OneTooDeep, NeverBoth as NeverBothSpelled}
use Rattle.td_elab_rules.specs.Modules.{module_of}
use Rattle.td_front_flat.specs.Flat.{flat, IsLinked}
use Rattle.td_front.specs.declared.error.FrontError.{FrontError}
use Rattle.td_front.specs.declared.error.FrontError.TheVariants.{BadByte, OpenComment, BigNumber, Unexpected, Deep, Limit, Broken, Cycle, ZeroElement, RestNotLast, Unsafe, Room, Value, NoMemory}
use Rattle.td_front.specs.Errors.{of_lexing}
use Rattle.td_front.specs.Passes.{IsAdmitted, RefusesTree}
use Rattle.td_front.specs.Inputs.{HasInputCounts, RefusesInput, input_module}
use Rattle.td_front.specs.ModuleText.{SpellsTree, IsModuleText, beginning_of, RefusedTree, RefusedBy}
use Rattle.td_front.specs.Laws.{IsAnsweredAs}
use Rattle.td_front.proofs.Trees.{Judgement, Decided, decided}
use Rattle.td_front.proofs.Inputs.{Parting, judged_input, admitted_input, refused_input, DecidedInput, decided_input, alone_refused}

-- what the crates below say of tokens, trees, breaches and parts
pub record Below : Type 0 where
  pub tokens : (text : List ℕ) (tokens : List Token) → (tokens_of text ≡ Ok tokens) ↔ Splits text tokens
  pub refusals : (text : List ℕ) (error : LexError) → (tokens_of text ≡ Err error) ↔ IsRefused text error
  pub answered : EachAnswered
  pub one_tree : OneTree
  pub one_refused : OneRefused
  pub one_deep : OneTooDeep
  pub never_both : NeverBothSpelled
  pub parting : Parting

-- ---- the answer

abbrev parsed : Below → (text : List ℕ) (tokens : List Token) → Answer input_text tokens → Judgement
parsed below text tokens (Tree input spelled within) = judged_input below.parting input
parsed below text tokens (Refused place first within) = Err (Unexpected place (beginning_of text tokens place))
parsed below text tokens (TooDeep place first) = Err (Deep place (beginning_of text tokens place))

abbrev lexed : Below → (text : List ℕ) → Result (List Token) LexError → Judgement
lexed below text (Ok tokens) = parsed below text tokens (below.answered tokens)
lexed below text (Err error) = Err (of_lexing error)

abbrev answer : Below → List ℕ → Judgement
answer below text = lexed below text (tokens_of text)

to_parsed : (below : Below) (text : List ℕ) (tokens : List Token) → Splits text tokens → answer below text ≡ parsed below text tokens (below.answered tokens)
to_parsed below text tokens split = ap (lexed below text) ((below.tokens text tokens).1 split)

-- ---- trees

deep_within : (tokens : List Token) (place : ℕ) → IsFirstDeep input_text.Passes tokens place → IsWithinLimits input_text.Passes tokens → ⊥
deep_within tokens place deep within = within place deep.within deep.here

parsed_tree : (below : Below) (text : List ℕ) (tokens : List Token) (input : InputTree) → input_text.Spells input tokens → IsWithinLimits input_text.Passes tokens → (a : Answer input_text tokens) → parsed below text tokens a ≡ judged_input below.parting input
parsed_tree below text tokens input spelled within (Tree other also w) = ap (judged_input below.parting) (below.one_tree tokens other input also spelled)
parsed_tree below text tokens input spelled within (Refused place first w) = absurd (below.never_both tokens input place spelled first)
parsed_tree below text tokens input spelled within (TooDeep place first) = absurd (deep_within tokens place first within)

to_judged : (below : Below) (text : List ℕ) (input : InputTree) → SpellsTree text input → answer below text ≡ judged_input below.parting input
to_judged below text input h = to_parsed below text h.tokens h.split ∙ parsed_tree below text h.tokens input h.spelled h.within (below.answered h.tokens)

-- ---- tokens that spell none

parsed_refused : (below : Below) (text : List ℕ) (tokens : List Token) (place : ℕ) → IsFirstRefused input_text.Spells tokens place → IsWithinLimits input_text.Passes tokens → (a : Answer input_text tokens) → parsed below text tokens a ≡ Err (Unexpected place (beginning_of text tokens place))
parsed_refused below text tokens place first within (Tree tree spelled w) = absurd (below.never_both tokens tree place spelled first)
parsed_refused below text tokens place first within (Refused other also w) = ap (λ (p : ℕ). let r : Judgement = Err (Unexpected p (beginning_of text tokens p)) in r) (below.one_refused tokens other place also first)
parsed_refused below text tokens place first within (TooDeep other deep) = absurd (deep_within tokens other deep within)

parsed_deep : (below : Below) (text : List ℕ) (tokens : List Token) (place : ℕ) → IsFirstDeep input_text.Passes tokens place → (a : Answer input_text tokens) → parsed below text tokens a ≡ Err (Deep place (beginning_of text tokens place))
parsed_deep below text tokens place deep (Tree tree spelled w) = absurd (deep_within tokens place deep w)
parsed_deep below text tokens place deep (Refused other also w) = absurd (deep_within tokens place deep w)
parsed_deep below text tokens place deep (TooDeep other also) = ap (λ (p : ℕ). let r : Judgement = Err (Deep p (beginning_of text tokens p)) in r) (below.one_deep tokens other place also deep)

-- ---- texts

stands_answer : (below : Below) (text : List ℕ) (m : Module) → IsModuleText text m → answer below text ≡ Ok m
stands_answer below text m h =
    to_judged below text h.input h.spells ∙ admitted_input below.parting h.input h.admitted ∙ ap (λ (x : Module). let r : Judgement = Ok x in r) (sym h.module_is)

lexed_answer : (below : Below) (text : List ℕ) (l : LexError) → IsRefused text l → answer below text ≡ Err (of_lexing l)
lexed_answer below text l h = ap (lexed below text) ((below.refusals text l).1 h)

tree_answer : (below : Below) (text : List ℕ) (e : FrontError) → RefusedTree text e → answer below text ≡ Err e
tree_answer below text e h = to_judged below text h.0 h.1 ∙ refused_input below.parting h.0 e h.2

refused_answer : (below : Below) (text : List ℕ) (e : FrontError) → RefusedBy text e → answer below text ≡ Err e
refused_answer below text (BadByte at) h = lexed_answer below text (BadByteAt at) h
refused_answer below text (OpenComment at) h = lexed_answer below text (OpenCommentAt at) h
refused_answer below text (BigNumber at) h = lexed_answer below text (BigNumberAt at) h
refused_answer below text (Unexpected token at) h =
    to_parsed below text h.0 h.1 ∙ parsed_refused below text h.0 token h.2 h.3 (below.answered h.0) ∙ ap (λ (n : ℕ). let r : Judgement = Err (Unexpected token n) in r) (sym h.4)
refused_answer below text (Deep token at) h =
    to_parsed below text h.0 h.1 ∙ parsed_deep below text h.0 token h.2 (below.answered h.0) ∙ ap (λ (n : ℕ). let r : Judgement = Err (Deep token n) in r) (sym h.3)
refused_answer below text (Limit limit span) h = tree_answer below text (Limit limit span) h
refused_answer below text (Broken rule span) h = tree_answer below text (Broken rule span) h
refused_answer below text (Cycle span) h = tree_answer below text (Cycle span) h
refused_answer below text (ZeroElement span) h = tree_answer below text (ZeroElement span) h
refused_answer below text (RestNotLast span) h = tree_answer below text (RestNotLast span) h
refused_answer below text (Unsafe span op) h = tree_answer below text (Unsafe span op) h
refused_answer below text (Room span) h = tree_answer below text (Room span) h
refused_answer below text (Value span) h = tree_answer below text (Value span) h
refused_answer below text NoMemory h = absurd h

-- ---- the laws

pub one_module : Below → (text : List ℕ) (m n : Module) → IsModuleText text m → IsModuleText text n → m ≡ n
one_module below text m n h k = let one = stands_answer below text m h in let two = stands_answer below text n k in cc

pub one_refusal : Below → (text : List ℕ) (e f : FrontError) → RefusedBy text e → RefusedBy text f → e ≡ f
one_refusal below text e f h k = let one = refused_answer below text e h in let two = refused_answer below text f k in cc

pub never_both : Below → (text : List ℕ) (m : Module) (e : FrontError) → IsModuleText text m → RefusedBy text e → ⊥
never_both below text m e h k = let one = stands_answer below text m h in let two = refused_answer below text e k in cc

-- neither by counts, nor by parts, nor by the one tree
nowhere : {A B : Type 0} → ⊥ ⊎ (A × (⊥ ⊎ (B × ⊥))) → ⊥
nowhere (inl h) = h
nowhere (inr (has, inl h)) = h
nowhere (inr (has, inr (linked, h))) = h

-- a refusal of what it spells is one of the text
pub of_input : (text : List ℕ) (input : InputTree) → SpellsTree text input → (e : FrontError) → RefusesInput input e → RefusedBy text e
of_input text input spells (BadByte at) h = absurd (nowhere h)
of_input text input spells (OpenComment at) h = absurd (nowhere h)
of_input text input spells (BigNumber at) h = absurd (nowhere h)
of_input text input spells (Unexpected token at) h = absurd (nowhere h)
of_input text input spells (Deep token at) h = absurd (nowhere h)
of_input text input spells (Limit limit span) h = (input, spells, h)
of_input text input spells (Broken rule span) h = (input, spells, h)
of_input text input spells (Cycle span) h = (input, spells, h)
of_input text input spells (ZeroElement span) h = (input, spells, h)
of_input text input spells (RestNotLast span) h = (input, spells, h)
of_input text input spells (Unsafe span op) h = (input, spells, h)
of_input text input spells (Room span) h = (input, spells, h)
of_input text input spells (Value span) h = (input, spells, h)
of_input text input spells NoMemory h = absurd (nowhere h)

abbrev pub OneOfBoth : List ℕ → Type 0
OneOfBoth text = ((m : Module) × IsModuleText text m) ⊎ ((e : FrontError) × RefusedBy text e)

input_decided : (text : List ℕ) (input : InputTree) → SpellsTree text input → DecidedInput input → OneOfBoth text
input_decided text input spells (inl admitted) = inl (input_module input, record { input = input; spells = spells; admitted = admitted; module_is = refl })
input_decided text input spells (inr (e, h)) = inr (e, of_input text input spells e h)

tokens_decided : Below → (text : List ℕ) (tokens : List Token) → Splits text tokens → Answer input_text tokens → OneOfBoth text
tokens_decided below text tokens split (Tree input spelled within) =
    input_decided text input (record { tokens = tokens; split = split; spelled = spelled; within = within }) (decided_input below.parting input)
tokens_decided below text tokens split (Refused place first within) = inr (Unexpected place (beginning_of text tokens place), (tokens, split, first, within, refl))
tokens_decided below text tokens split (TooDeep place first) = inr (Deep place (beginning_of text tokens place), (tokens, split, first, refl))

lexed_decided : (text : List ℕ) (l : LexError) → IsRefused text l → OneOfBoth text
lexed_decided text (BadByteAt at) h = inr (BadByte at, h)
lexed_decided text (OpenCommentAt at) h = inr (OpenComment at, h)
lexed_decided text (BigNumberAt at) h = inr (BigNumber at, h)
lexed_decided text NoTokens h = absurd h.4

pub always_one : Below → (text : List ℕ) → OneOfBoth text
always_one below text = by (tokens_of text) refl
  where
    by : (r : Result (List Token) LexError) → tokens_of text ≡ r → OneOfBoth text
    by (Ok tokens) e = tokens_decided below text tokens ((below.tokens text tokens).0 e) (below.answered tokens)
    by (Err l) e = lexed_decided text l ((below.refusals text l).0 e)

-- ---- as the one tree

-- a text that stands for this module where its tree is admitted, and is refused as it is
answered_as : Below → (text : List ℕ) (tree : ModuleTree) (stood : Module) → (IsAdmitted tree → IsModuleText text stood) → ((e : FrontError) → RefusesTree tree e → RefusedBy text e) → IsAnsweredAs text tree stood
answered_as below text tree stood admitted refused = by (decided below.parting.firsts tree)
  where
    by : Decided tree → IsAnsweredAs text tree stood
    by (inl a) = record {
      stands = λ m. (
        (λ h. (a, one_module below text m stood h (admitted a))),
        (λ h. subst (IsModuleText text) (sym h.1) (admitted h.0)),
      );
      refused = λ e. ((λ h. absurd (never_both below text stood e (admitted a) h)), refused e);
    }
    by (inr (f, r)) = record {
      stands = λ m. ((λ h. absurd (never_both below text m f h (refused f r))), (λ h. subst (IsModuleText text) (sym h.1) (admitted h.0)));
      refused = λ e. ((λ h. subst (RefusesTree tree) (one_refusal below text f e (refused f r) h) r), refused e);
    }

pub parts_flat : Below → (text : List ℕ) (input : InputTree) → SpellsTree text input → HasInputCounts input → IsLinked input → IsAnsweredAs text (flat input) (input_module input)
parts_flat below text input spells has linked =
    answered_as below text (flat input) (input_module input) (λ a. record { input = input; spells = spells; admitted = (has, linked, a); module_is = refl })
    (λ e h. of_input text input spells e (inr (has, inr (linked, h))))

pub modules_alone : Below → (text : List ℕ) (tree : ModuleTree) → SpellsTree text (Parsed tree) → IsAnsweredAs text tree (module_of tree)
modules_alone below text tree spells =
    answered_as below text tree (module_of tree) (λ a. record { input = Parsed tree; spells = spells; admitted = (a.0.0.0.0, tt, a); module_is = refl })
    (λ e h. of_input text (Parsed tree) spells e (alone_refused tree e h))
