use Rattle.std.proofs.Common.{ap, is_some, ◌∙◌}
use Rattle.td_names.proofs.Tables.{place_looked}
use Rattle.td_names.proofs.table.Table.contains.Goals as goal

pub returns : goal.returns
returns g c = c.is_some.ensures ∙ ap is_some c.place.ensures ∙ place_looked 0 c.args.self.now c.args.name.now
