use Rattle.std.proofs.Common.{rules}
use Rattle.td_c.proofs.call.run_noted.Goals as goal

pub returns-clause-ran : goal.returns-clause-ran
returns-clause-ran g c = record {
  fits = search rules;
  validated = search rules;
  rest = search rules;
  unloaded = search rules;
  cells_stay = search rules;
  room_stays = search rules;
  noted = search rules;
}
