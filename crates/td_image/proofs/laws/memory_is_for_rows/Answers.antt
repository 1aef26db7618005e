use Rattle.td_image.proofs.Counted.{none_for_counts}
use Rattle.td_image.proofs.laws.memory_is_for_rows.Goals as goal

pub returns : goal.returns
returns c = none_for_counts
