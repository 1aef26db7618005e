use Rattle.std.proofs.Common.{◌<◌, List, [], ◌∷◌, length, subst, ap, ◌∙◌, arith}
use Rattle.td_ast.specs.declared.definitions.Def.{Def}
use Rattle.td_elab_rules.specs.Modules.{all_names}
use Rattle.td_elab.proofs.Chains.{on_err_always}
use Rattle.td_elab.proofs.elaborate.module.Goals as goal

-- where there is a name, there is a definition
some_definition : (ds : List Def) → 0 < length (all_names [] ds) → 0 < length ds
some_definition [] h = h
some_definition (d ∷ ds) h = omega arith

pub returns-in_err-full_names-clause-memory : goal.returns-in_err-full_names-clause-memory
returns-in_err-full_names-clause-memory c =
    let names = c.in_ok-names.ensures.names ∙ ap (λ ds. all_names [] ds) c.as_slice-trees.ensures in
    on_err_always c.from_residual-in_err-full_names.result
    (some_definition c.args.tree.now.definitions (subst (λ n. 0 < length n) names c.in_err-full_names.ensures.memory))
