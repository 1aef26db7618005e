use Rattle.std.proofs.Common.{sym, ap, ◌∙◌, ◌+◌, ◌∷◌, ◌++◌, drop, append_assoc, arith}
use Rattle.std.proofs.lemmas.List.{append-nil}
use Rattle.td_elab_rules.specs.Types.{args_buffers}
use Rattle.td_elab_types.specs.Runs.{buffer_of}
use Rattle.td_elab_types.proofs.Sides.{buffers_step, buffers_out, next_at, none_at}
use Rattle.td_elab_types.proofs.buffers.add_buffers.Goals as goal
use Rattle.td_num.proofs.Truths.{all_dropped as done}
use Rattle.td_num.proofs.Lists.{drop_next as split}

pub loop-i-preserved : goal.loop-i-preserved
loop-i-preserved c =
    let l = c.loop-i in
    let k = c.args.known.now in
    let s = c.args.scope.now in
    let p = c.in-Some.parameter in
    let x = c.index-args-i.result in
    let ps = drop (l.i + 1) c.args.parameters.now in
    let es = drop (l.i + 1) c.args.args.now in
    ap (λ t. t ++ args_buffers k s ps es) c.in_ok-add_buffer-in-Some.ensures
    ∙ ap (λ t. (l.buffers ++ t) ++ args_buffers k s ps es) c.buffer_of.ensures
    ∙ append_assoc l.buffers (buffer_of k s p x) (args_buffers k s ps es)
    ∙ ap (λ t. l.buffers ++ t) (sym (buffers_step k s p ps x es))
    ∙ ap (λ q. l.buffers ++ args_buffers k s q (x ∷ es)) (sym (next_at c.args.parameters.now l.i p c.in-Some.ensures))
    ∙ ap (λ q. l.buffers ++ args_buffers k s (drop l.i c.args.parameters.now) q) (sym (split c.args.args.now l.i x (omega arith) c.index-args-i.is))
    ∙ l.invariant

pub returns-in-None-clause-buffers : goal.returns-in-None-clause-buffers
returns-in-None-clause-buffers c =
    let l = c.loop-i in
    let es = drop l.i c.args.args.now in
    sym (append-nil l.buffers)
    ∙ ap (λ q. l.buffers ++ args_buffers c.args.known.now c.args.scope.now q es) (sym (none_at c.args.parameters.now l.i c.in-None.ensures))
    ∙ l.invariant

pub returns-clause-buffers : goal.returns-clause-buffers
returns-clause-buffers c =
    let l = c.loop-i in
    let k = c.args.known.now in
    let s = c.args.scope.now in
    let ps = drop l.i c.args.parameters.now in
    sym (append-nil l.buffers)
    ∙ ap (λ t. l.buffers ++ t) (sym (buffers_out k s ps))
    ∙ ap (λ q. l.buffers ++ args_buffers k s ps q) (sym (done c.args.args.now l.i (omega arith)))
    ∙ l.invariant
