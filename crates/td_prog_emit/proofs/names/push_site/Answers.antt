use Rattle.td_prog_emit.proofs.names.push_site.Goals as goal
use Rattle.std.proofs.Common.{ap}
use Rattle.td_ir.specs.Run.{spot_named}
use Rattle.td_ir.specs.declared.tables.Site.{Site}
use Rattle.std.specs.Prelude.{slice_index_or, []}
use Rattle.td_prog_emit.proofs.Texts.{recut}
use Rattle.td_prog_text.specs.Expressions.{text}
use Rattle.td_prog_text.specs.Statements as lines

pub returns : goal.returns
returns c = recut c.push_named.ensures (ap (λ (s : Site). text (lines.site c.args.parts.now.names s.ty (spot_named (slice_index_or c.args.parts.now.names s.field.number []) s.field))) c.site_at-named.ensures)
