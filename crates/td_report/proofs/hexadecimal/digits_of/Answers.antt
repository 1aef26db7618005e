use Rattle.std.proofs.Common.{◌+◌, ◌-◌, ℕ, ap, drop, set, length-set, ◌∙◌}
use Rattle.td_report.proofs.Digits.{digits_more, rest_more}
use Rattle.td_report.proofs.hexadecimal.digits_of.Goals as goal

pub loop-count-preserved : goal.loop-count-preserved
loop-count-preserved c =
    let more = digits_more c.loop-count.digits c.loop-count.count c.args.value c.loop-count.rest c.loop-count-test.true c.loop-count.invariant.size c.loop-count.invariant.rest c.loop-count.invariant.digits in
    record {
      rest = rest_more c.args.value c.loop-count.rest c.loop-count.count c.loop-count.invariant.rest;
      size = length-set c.loop-count.digits (15 - c.loop-count.count) c.digit_of.result ∙ c.loop-count.invariant.size;
      digits = ap (λ (d : ℕ). drop (16 - (c.loop-count.count + 1)) (set c.loop-count.digits (15 - c.loop-count.count) d)) c.digit_of.ensures ∙ more;
    }
