use Rattle.std.proofs.Common.{◌+◌, ◌-◌, [], length, drop, ap, ◌∙◌, arith}
use Rattle.std.proofs.lemmas.List.{length-take}
use Rattle.td_image_upgrade.proofs.Sites.{few_sites, few_used, end_within}
use Rattle.td_image_upgrade.proofs.upgrade.upgrade_routine.Goals as goal

pub overflow_add-end : goal.overflow_add-end
overflow_add-end c =
    let w = end_within c.args.parts.now c.requires.divided c.args.n c.requires.n in
    omega (arith, w, c.requires.from, c.length_of.ensures, c.requires.divided.few)

pub code_of-code-requires-clause-end : goal.code_of-code-requires-clause-end
code_of-code-requires-clause-end c =
    let w = end_within c.args.parts.now c.requires.divided c.args.n c.requires.n in
    omega (arith, w, c.requires.from, c.length_of.ensures)

pub put_code-requires : goal.put_code-requires
put_code-requires c =
    let p = c.args.parts.now in
    let w = end_within p c.requires.divided c.args.n c.requires.n in
    let b = c.len-base.ensures ∙ ap length c.requires.sites in
    let s = few_sites p c.args.n in
    let u = ap length c.in_ok-use_sites.ensures.used in
    let f = few_used (length p.sites) c.code_of-code.result.now [] in
    let l = ap length c.code_of-code.ensures in
    let t = length-take (c.args.from + c.length_of.result - c.args.from) (drop c.args.from p.instructions) in
    omega (arith, w, c.requires.from, c.length_of.ensures, c.requires.divided.few, b, s, u, f, l, t)
