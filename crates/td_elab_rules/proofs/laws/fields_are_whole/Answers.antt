use Rattle.td_elab_rules.proofs.FieldsWhole.{fields_are_whole}
use Rattle.td_elab_rules.proofs.laws.fields_are_whole.Goals as goal

pub returns : goal.returns
returns c = fields_are_whole
