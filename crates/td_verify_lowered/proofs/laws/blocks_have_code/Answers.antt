use Rattle.td_lower_blocks.specs.Constructs.{body}
use Rattle.td_lower_blocks.proofs.Ending.{ends_some, ends_body}
use Rattle.td_verify_lowered.proofs.laws.blocks_have_code.Goals as goal

pub returns : goal.returns
returns c = λ b. ends_some (body b) (ends_body b)
