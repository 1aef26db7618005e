use Rattle.std.proofs.Common.{◌∙◌}
use Rattle.td_code.proofs.Packed.{spelled, of_text}
use Rattle.td_code.proofs.compile.packed_image.Goals as goal

pub returns-clause-spelled : goal.returns-clause-spelled
returns-clause-spelled c =
    spelled c.code_within_the_limits_has_an_image.ensures c.code_is_within.ensures c.in_ok-verified.verified c.args.m.now c.of.result c.requires
    (record { written = c.in_ok-verified.ensures.written; sound = c.code-code.ensures.sound; means = c.in_ok-verified.ensures.means }) c.in_ok-verified.ensures.code.code
    (c.of.ensures ∙ c.in_ok-image.ensures.spelled)

pub returns-clause-packed : goal.returns-clause-packed
returns-clause-packed c =
    λ text short stands.
    of_text c.modules_are_small.ensures text c.args.m.now c.of.result
    (spelled c.code_within_the_limits_has_an_image.ensures c.code_is_within.ensures c.in_ok-verified.verified c.args.m.now c.of.result c.requires
    (record { written = c.in_ok-verified.ensures.written; sound = c.code-code.ensures.sound; means = c.in_ok-verified.ensures.means }) c.in_ok-verified.ensures.code.code
    (c.of.ensures ∙ c.in_ok-image.ensures.spelled)) short stands
