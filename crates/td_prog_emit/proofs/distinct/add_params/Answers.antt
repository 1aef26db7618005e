use Rattle.std.proofs.Common.{◌<◌, List, length, map, subst, sym, ap, ◌∙◌, arith}
use Rattle.td_prog_emit.proofs.Apart.{named_more}
use Rattle.td_prog_emit.proofs.Indexed.{taken_all}
use Rattle.td_core.specs.declared.module.Param.{Param}
use Rattle.td_prog_text.specs.Entries.{own}
use Rattle.td_prog_text.specs.Names.{distinct}
use Rattle.td_prog_emit.proofs.distinct.add_params.Goals as goal

pub add-requires : goal.add-requires
add-requires c =
    let h : c.loop-k.k < length c.args.entry.now.params = omega (arith, c.loop-k-test.true, c.len-k-end.ensures) in
    subst (λ (p : Param). p.name.number < length c.args.parts.now.names) (sym c.param_at.ensures) (c.requires c.loop-k.k h)

pub loop-k-preserved : goal.loop-k-preserved
loop-k-preserved c =
    let h : c.loop-k.k < length c.args.entry.now.params = omega (arith, c.loop-k-test.true, c.len-k-end.ensures) in
    named_more (λ (p : Param). own c.args.parts.now p.name) _ _ _ c.args.entry.now.params c.loop-k.k _ c.param_at.result c.loop-k.invariant c.param_at.ensures (c.in_ok-add.ensures {u = tt}) h

pub returns : goal.returns
returns c = c.loop-k.invariant ∙ ap (λ (l : List Param). distinct c.args.out.now.items (map (λ (p : Param). own c.args.parts.now p.name) l)) (taken_all c.args.entry.now.params c.loop-k.k (omega (arith, c.loop-k.auto.k-end, c.loop-k-test.false, c.len-k-end.ensures)))
