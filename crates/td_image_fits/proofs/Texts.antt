-- The module of a text is small.
use Rattle.std.proofs.Common.{◌≡◌, ℕ, List, ◌^◌, ◌<◌, ◌≤◌, [], length, refl, sym, subst, arith}
use Rattle.td_num.specs.Lists.{Each}
use Rattle.td_image_fits.specs.Imports.{ModuleTree}
use Rattle.td_elab_rules.specs.Modules.{breaches, module_of}
use Rattle.td_elab_rules.specs.Laws.{NamesAreWritten}
use Rattle.td_grammar.specs.Laws.{EitherForm}
use Rattle.td_front_flat.specs.Flat.{flat, spelled_names}
use Rattle.td_front.specs.Inputs.{with_names}
use Rattle.td_front.proofs.Checked.{as_many}
use Rattle.td_front.specs.Passes.{IsAdmitted}
use Rattle.td_front_facts.specs.Laws.{HasLimits}
use Rattle.td_front_facts.proofs.Within.{modules_are_within}
use Rattle.td_image_fits.specs.Small.{IsSmall}
use Rattle.td_image_fits.specs.Laws.{ModulesAreSmall}
use Rattle.td_image_fits.proofs.Knowns.{tree_small}
use Rattle.td_image_fits.proofs.Names.{tree_few, names_few, names_short}
use Rattle.td_num.proofs.Lists.{each_map}

small_tree : (t : ModuleTree) (told : List (List ℕ)) → HasLimits t → breaches t ≡ [] → length told ≡ length (module_of t).names → Each (λ name. length name < 2 ^ 32) told → IsSmall (with_names told (module_of t))
small_tree t told limits none many short =
    let few = tree_few t limits.counts in
    let names = names_few t in
    let own = tree_small t none in
    let written = (modules_are_within t (module_of t) limits (none, refl)).written in
    record {
      names = omega (arith, names, few, many);
      short = short;
      enums = let x = own.enums in omega (arith, x, written);
      values = let x = own.values in omega (arith, x, few);
      entries = let x = own.entry_points in omega (arith, x, written);
      numbers = own.numbers;
      cases = own.cases;
      steps = own.steps;
    }

pub modules_are_small : NamesAreWritten → EitherForm → ModulesAreSmall
modules_are_small law form text m short h =
    let tree = flat h.input in
    let found = module_of tree in
    let told = spelled_names h.input found.names in
    let admitted : IsAdmitted tree = h.admitted.2 in
    let none = admitted.0.0.0.1 in
    let limits : HasLimits tree = record { counts = admitted.0.0.0.0; sizes = admitted.1 } in
    let names = names_short law form text h.spells.tokens h.input found short h.spells.split h.spells.spelled (none, refl) in
    let few : Each (λ name. length name < 2 ^ 32) told = each_map (λ name. length name ≤ length text) (λ name. length name < 2 ^ 32) told (λ name l. omega (arith, l, short)) names in
    subst IsSmall (sym h.module_is) (small_tree tree told limits none (as_many h.input found.names) few)
