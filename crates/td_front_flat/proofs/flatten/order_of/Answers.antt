use Rattle.std.proofs.Common.{◌≡◌, None, map, sym, ap, subst, refl, ◌∙◌}
use Rattle.std.proofs.lemmas.Result.{IfOk-weaker, IfErr-weaker}
use Rattle.td_front_flat.specs.Uses.{part_uses}
use Rattle.td_front_flat.specs.Flat.{IsLinked, IsFault}
use Rattle.td_front_flat.specs.Firsts.{IsFirstPlace, IsCycleFault}
use Rattle.td_ast.specs.declared.parts.InputTree.TheVariants.{Parts}
use Rattle.td_front_order.specs.Order.{IsWithin, order}
use Rattle.td_front_flat.specs.Order.{names_of, numbers_of, graph_of}
use Rattle.td_front_flat.proofs.Linking.{graph_is, is_within, moved, none_cyclic, cycle_fault, moved_fault}
use Rattle.td_front_flat.proofs.flatten.order_of.Goals as goal

pub order_in-requires-clause-within : goal.order_in-requires-clause-within
order_in-requires-clause-within c =
    let parts = c.args.parts.now in
    let all : c.as_slice.result.now ≡ map part_uses parts = c.as_slice.ensures ∙ c.in_ok-all.ensures in
    let graph : c.as_slice-2.result.now ≡ graph_of parts =
    c.as_slice-2.ensures ∙ c.in_ok-graph.ensures ∙ ap (λ us. map (numbers_of c.args.names.now) us) all
    ∙ ap (λ ns. map (numbers_of ns) (map part_uses parts)) c.requires.names ∙ graph_is parts in
    subst IsWithin (sym graph) (is_within parts)

pub returns-clause-ok : goal.returns-clause-ok
returns-clause-ok c =
    let parts = c.args.parts.now in
    let names = c.args.names.now in
    let g = c.as_slice-2.result.now in
    let us = c.as_slice-3.result.now in
    let all : c.as_slice.result.now ≡ map part_uses parts = c.as_slice.ensures ∙ c.in_ok-all.ensures in
    let graph : g ≡ graph_of parts =
    c.as_slice-2.ensures ∙ c.in_ok-graph.ensures ∙ ap (λ us. map (numbers_of names) us) all
    ∙ ap (λ ns. map (numbers_of ns) (map part_uses parts)) c.requires.names ∙ graph_is parts in
    let uses : us ≡ map part_uses parts = c.as_slice-3.ensures ∙ c.in_ok-all.ensures in
    IfOk-weaker c.order_in.result (λ numbers. IsFirstPlace names g us None × (numbers ≡ order g)) (λ numbers. IsLinked (Parts parts) × (numbers ≡ order (graph_of parts)))
    (λ numbers h. ((c.requires.distinct, none_cyclic parts (moved names (names_of parts) g (graph_of parts) us (map part_uses parts) None None c.requires.names graph uses refl h.0)), h.1 ∙ ap order graph))
    c.order_in.ensures.ok

pub returns-clause-err : goal.returns-clause-err
returns-clause-err c =
    let parts = c.args.parts.now in
    let names = c.args.names.now in
    let g = c.as_slice-2.result.now in
    let us = c.as_slice-3.result.now in
    let all : c.as_slice.result.now ≡ map part_uses parts = c.as_slice.ensures ∙ c.in_ok-all.ensures in
    let graph : g ≡ graph_of parts =
    c.as_slice-2.ensures ∙ c.in_ok-graph.ensures ∙ ap (λ us. map (numbers_of names) us) all
    ∙ ap (λ ns. map (numbers_of ns) (map part_uses parts)) c.requires.names ∙ graph_is parts in
    let uses : us ≡ map part_uses parts = c.as_slice-3.ensures ∙ c.in_ok-all.ensures in
    IfErr-weaker c.order_in.result (IsCycleFault names g us) (IsFault (Parts parts))
    (λ e h. cycle_fault parts e c.requires.distinct (moved_fault names (names_of parts) g (graph_of parts) us (map part_uses parts) e c.requires.names graph uses h))
    c.order_in.ensures.err
