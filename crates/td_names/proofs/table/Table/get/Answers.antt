use Rattle.std.proofs.Common.{sym, ◌∙◌}
use Rattle.td_names.proofs.Tables.{placed_nowhere, value_found}
use Rattle.td_names.proofs.table.Table.get.Goals as goal

pub returns-in-None : goal.returns-in-None
returns-in-None g c = sym (placed_nowhere 0 c.args.self.now c.args.name.now (sym c.in-None.ensures))

pub returns-in-Some : goal.returns-in-Some
returns-in-Some g c = c.value_at.ensures ∙ value_found c.args.self.now c.args.name.now c.in-Some.place (sym c.in-Some.ensures)
