use Rattle.td_prog_laws.proofs.Frames.{few_frames}
use Rattle.td_prog_laws.proofs.laws.few_frames.Goals as goal

pub returns : goal.returns
returns c = few_frames
