use Rattle.std.proofs.Common.{sym, ◌∙◌}
use Rattle.td_elab_rules.proofs.laws.one_module.Goals as goal

pub returns : goal.returns
returns c = λ t a b s r. s.1 ∙ sym r.1
