use Rattle.std.proofs.Common.{◌≡◌, ap, ◌∙◌, take, drop, min, length, arith}
use Rattle.td_core.specs.Outcome.{copies_by}
use Rattle.td_meaning_plain.proofs.Copied.{take_least, drop_least}
use Rattle.td_meaning_plain.proofs.meaning.outcome_from.Goals as goal

pub returns-clause-ok : goal.returns-clause-ok
returns-clause-ok c =
    let a = c.args in
    let cells = a.slate.cells.items in
    let n = a.count in
    let least : c.min.result ≡ min n (length cells) = omega (arith, c.min.ensures, c.len.ensures) in
    let own = c.in_ok-copy_of.ensures.ok ∙ c.split_at.ensures.front ∙ ap (take c.min.result) c.as_slice.ensures.value ∙ take_least n c.min.result cells least in
    let rest = c.in_ok-copies_by.ensures.ok ∙ ap (copies_by a.bytes.now) (c.split_at.ensures.back ∙ ap (drop c.min.result) c.as_slice.ensures.value ∙ drop_least n c.min.result cells least) in
    λ k. record { verdict = a.verdict; trace = a.slate.trace; cells = own k; copies = rest k }
