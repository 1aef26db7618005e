use Rattle.td_front_facts.proofs.Types.{types_are_alike}
use Rattle.td_front_facts.proofs.laws.types_are_alike.Goals as goal

pub returns : goal.returns
returns c = types_are_alike c.modules_are_named.ensures c.either_form.ensures.form c.names_are_spelled.ensures.numbered
