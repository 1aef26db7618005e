-- What holds of the module of a text, whose names are spelled: names aside, it is what its one tree stands for. Cited by other crates.
use Rattle.std.proofs.Common.{◌≡◌, ℕ, List, length, refl, sym, subst}
use Rattle.std.proofs.lemmas.List.{length-map}
use Rattle.td_num.specs.Lists.{Each}
use Rattle.td_front.specs.Imports.{InputTree, Module}
use Rattle.td_ast.specs.declared.parts.InputTree.TheVariants.{Module as Parsed, Parts}
use Rattle.td_core.specs.WellFormed.{IsWhole, IsWithin, IsDefinitionNamed}
use Rattle.td_elab_rules.specs.Modules.{StandsFor, module_of}
use Rattle.td_elab_rules.specs.Laws.{ModulesAreFormed, ModulesAreCopying, ModulesAreWhole, ModulesAreSorted, FieldsAreWhole, ModulesAreNamed}
use Rattle.td_front_flat.specs.Names.{spelled}
use Rattle.td_front_flat.specs.Order.{names_of}
use Rattle.td_front_flat.specs.Flat.{flat, spelled_names}
use Rattle.td_front_facts.specs.Laws.{HasLimits, NamesAreWords, TypesAreAlike, SpelledNamesAreApart, ModulesAreWithin, NodesAreWithin, DepthsAreWithin, WeightsAreWithin, StepsAreSizes}
use Rattle.td_front.specs.Checked.{IsChecked}
use Rattle.td_front.specs.Passes.{IsAdmitted}
use Rattle.td_front.specs.Inputs.{IsAdmittedInput, with_names, input_module}
use Rattle.td_front.specs.ModuleText.{SpellsTree}
use Rattle.td_front.specs.Laws.{ModulesAreChecked}

-- what the crates below say of modules
pub record Below : Type 0 where
  pub formed : ModulesAreFormed
  pub copying : ModulesAreCopying
  pub sorted : ModulesAreSorted
  pub whole : ModulesAreWhole
  pub fields : FieldsAreWhole
  pub steps : StepsAreSizes
  pub named : ModulesAreNamed
  pub apart : SpelledNamesAreApart
  pub words : NamesAreWords
  pub types : TypesAreAlike
  pub within : ModulesAreWithin
  pub nodes : NodesAreWithin
  pub depth : DepthsAreWithin
  pub weight : WeightsAreWithin

-- as many names are spelled
pub as_many : (input : InputTree) (names : List (List ℕ)) → length (spelled_names input names) ≡ length names
as_many (Parsed tree) names = refl
as_many (Parts parts) names = length-map names (spelled (names_of parts))

told_whole : (names : List (List ℕ)) (m : Module) → IsWhole m → IsWhole (with_names names m)
told_whole names m h = record { parts = h.parts; entries = h.entries }

told_within : (names : List (List ℕ)) (m : Module) → IsWithin m → IsWithin (with_names names m)
told_within names m h = record { written = h.written; definitions = h.definitions; each = h.each }

of_input : Below → (text : List ℕ) (input : InputTree) → SpellsTree text input → IsAdmittedInput input → IsChecked (input_module input)
of_input below text input spells admitted =
    let tree = flat input in
    let m = module_of tree in
    let told = spelled_names input m.names in
    let passed : IsAdmitted tree = admitted.2 in
    let stands : StandsFor tree m = (passed.0.0.0.1, refl) in
    let limits : HasLimits tree = record { counts = passed.0.0.0.0; sizes = passed.1 } in
    record {
      formed = below.formed tree m stands;
      copying = below.copying tree m stands;
      sorted = below.sorted tree m stands;
      whole = told_whole told m (below.whole tree m stands);
      fields = below.fields tree m stands;
      steps = below.steps tree m stands;
      named = subst (λ n. Each (IsDefinitionNamed n) m.definitions) (sym (as_many input m.names)) (below.named tree m stands);
      apart = below.apart text spells.tokens input m spells.split spells.spelled admitted.1 stands;
      words = below.words text spells.tokens input m spells.split spells.spelled stands;
      types = below.types text spells.tokens input m spells.split spells.spelled stands;
      within = told_within told m (below.within tree m limits stands);
      nodes = below.nodes tree m limits stands;
      depth = below.depth tree m limits stands;
      weight = below.weight tree m limits stands;
      kinds = passed.0.0.1;
      safe = passed.0.1;
    }

pub checked : Below → ModulesAreChecked
checked below text m h = subst IsChecked (sym h.module_is) (of_input below text h.input h.spells h.admitted)
