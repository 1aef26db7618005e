use Rattle.td_code.proofs.Means.{lowerable, written_does}
use Rattle.td_code.proofs.compile.code_of.Goals as goal

pub lower-requires : goal.lower-requires
lower-requires c = lowerable c.args.m.now c.requires

pub returns-clause-means : goal.returns-clause-means
returns-clause-means c = written_does c.lower.result c.args.m.now c.evaluated_is_sound.ensures c.arguments_fit.ensures c.requires c.lower.ensures.code c.lower.ensures.means
