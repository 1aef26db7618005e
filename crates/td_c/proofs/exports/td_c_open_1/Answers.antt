use Rattle.std.proofs.Common.{rules, inr}
use Rattle.std.specs.Arc.{arc_value}
use Rattle.td_c.proofs.exports.td_c_open_1.Goals as goal

-- where there was no memory for a slot, the bytes are an image
pub returns-in-Ok-clause-refused : goal.returns-in-Ok-clause-refused
returns-in-Ok-clause-refused c = record {
  answer = search rules;
  memory = λ h. inr (arc_value c.in-Ok.session.code, c.in-Ok.ensures.found);
  magic = search rules;
  version = search rules;
  short = search rules;
  field = search rules;
  rest = search rules;
  refused = search rules;
  no_place = search rules;
  no_rule = search rules;
}
