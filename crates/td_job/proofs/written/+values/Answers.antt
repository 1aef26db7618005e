use Rattle.std.proofs.Common.{◌+◌, ◌∷◌, drop, sym, ◌∙◌, arith}
use Rattle.std.proofs.lemmas.List.{drop_more}
use Rattle.td_job.proofs.Forms.{part_depth}
use Rattle.td_job.proofs.written.+values.Goals as goal

pub read_values-read_value-requires : goal.read_values-read_value-requires
read_values-read_value-requires t c =
    let vs = c.args.values.now in
    let i = c.loop-value.value-index in
    let v = c.value-item.result in
    let split = drop_more vs i v c.loop-value-test.true ∙ (λ k. sym c.value-item.is k ∷ drop (i + 1) vs) in
    let less = part_depth vs (drop (i + 1) vs) i v split in
    (omega (arith, c.decreases, less), tt)
