use Rattle.std.proofs.Common.{ap, ◌∙◌}
use Rattle.td_ir.specs.Listing.{listing}
use Rattle.td_code.proofs.compile.code_listing.Goals as goal

pub returns : goal.returns
returns c = (
  c.in_ok-verified.verified,
  record { written = c.in_ok-verified.ensures.written; sound = c.code.ensures.sound; means = c.in_ok-verified.ensures.means },
  c.of.ensures ∙ rw c.into_bytes.ensures.value (c.in_ok-text.ensures ∙ ap listing c.code.ensures.same),
)
