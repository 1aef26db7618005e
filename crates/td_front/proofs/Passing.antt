-- What the passes over an input answer, from what each does.
use Rattle.std.proofs.Common.{◌≡◌, ℕ, ◌-◌, ◌^◌, ◌<◌, List, length, Result, Ok, Err, OnOk, IfOk, IfErr, ◌⊎◌, inl, inr, ◌↔◌, refl, sym, subst, arith}
use Rattle.td_front.specs.Imports.{Token, ModuleTree, InputTree, Module, LexError, FlatError}
use Rattle.td_ast.specs.declared.parts.InputTree.TheVariants.{Module as Parsed, Parts}
use Rattle.td_lexer.specs.Scanner.{tokens_of}
use Rattle.td_lexer.specs.Splits.{Splits}
use Rattle.td_grammar.specs.Laws.{EitherForm}
use Rattle.td_front_flat.specs.declared.error.FlatError.TheVariants.{Twice as TwiceAt, Cycle as CycleAt, NoMemory as NotFlat}
use Rattle.td_front_flat.specs.Flat.{flat, IsFault, IsLinked}
use Rattle.td_front.specs.declared.error.FrontError.{FrontError}
use Rattle.td_front.specs.declared.error.FrontError.TheVariants.{NoMemory}
use Rattle.td_front.specs.Errors.{of_flattening}
use Rattle.td_front.specs.Passes.{RefusesTree}
use Rattle.td_front.specs.Inputs.{HasInputCounts, HasFewParts, IsAdmittedInput, RefusedByParts, RefusesInput, input_module}
use Rattle.td_front.specs.ModuleText.{SpellsTree, IsTextOf, RefusedBy}
use Rattle.td_front.proofs.Counts.{few_tokens}
use Rattle.td_front.proofs.Memory.{few_parts}
use Rattle.td_front.proofs.Texts.{of_input}

-- why parts are no tree, as an error of the whole
pub fault_told : (input : InputTree) (l : FlatError) (e : FrontError) → e ≡ of_flattening l → IsFault input l → (e ≡ NoMemory) ⊎ RefusedByParts input e
fault_told input (TwiceAt span) e is h = let P : FrontError → Type 0 = λ x. (x ≡ NoMemory) ⊎ RefusedByParts input x in subst P (sym is) (inr h)
fault_told input (CycleAt span) e is h = let P : FrontError → Type 0 = λ x. (x ≡ NoMemory) ⊎ RefusedByParts input x in subst P (sym is) (inr h)
fault_told input NotFlat e is h = inl is

-- what parts are refused by refuses the input
pub by_parts : (input : InputTree) → HasInputCounts input → (e : FrontError) → (e ≡ NoMemory) ⊎ RefusedByParts input e → (e ≡ NoMemory) ⊎ RefusesInput input e
by_parts input has e (inl h) = inl h
by_parts input has e (inr h) = inr (inr (has, inl h))

-- and so does what refuses its one tree
pub by_tree : (input : InputTree) → HasInputCounts input → IsLinked input → (tree : ModuleTree) → tree ≡ flat input → (e : FrontError) → (e ≡ NoMemory) ⊎ RefusesTree tree e → (e ≡ NoMemory) ⊎ RefusesInput input e
by_tree input has linked tree is e (inl h) = inl h
by_tree input has linked tree is e (inr h) = inr (inr (has, inr (linked, subst (λ t. RefusesTree t e) is h)))

-- ---- the text

-- what a text spells has no more parts than the text has bytes
pub few_inputs : EitherForm → ((text : List ℕ) (tokens : List Token) → (let r : Result (List Token) LexError = tokens_of text in r ≡ Ok tokens) ↔ Splits text tokens)
    → (text : List ℕ) (input : InputTree) → length text < 2 ^ 32 - 1 → SpellsTree text input → HasFewParts input
few_inputs form law text (Parsed tree) short h = tt
few_inputs form law text (Parts parts) short h =
    let few = few_parts form parts h.tokens h.spelled in
    let within = few_tokens text 0 0 h.tokens ((law text h.tokens).1 h.split) in
    omega (arith, few, within, short)

pub stands_from : (text : List ℕ) (input : InputTree) → SpellsTree text input → (r : Result Module FrontError) → OnOk r (IsAdmittedInput input) → IfOk r (λ m. m ≡ input_module input) → IfOk r (λ m. IsTextOf text input m)
stands_from text input spells (Ok m) admitted is = (record { input = input; spells = spells; admitted = admitted; module_is = is }, refl)
stands_from text input spells (Err e) admitted is = tt

pub refused_from : (text : List ℕ) (input : InputTree) → SpellsTree text input → (r : Result Module FrontError) → IfErr r (λ e. (e ≡ NoMemory) ⊎ RefusesInput input e) → IfErr r (λ e. (e ≡ NoMemory) ⊎ RefusedBy text e)
refused_from text input spells (Ok m) h = tt
refused_from text input spells (Err e) (inl h) = inl h
refused_from text input spells (Err e) (inr h) = inr (of_input text input spells e h)
