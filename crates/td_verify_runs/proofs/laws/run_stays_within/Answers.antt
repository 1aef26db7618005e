use Rattle.td_verify_runs.proofs.Runs.{run_stays_within}
use Rattle.td_verify_runs.proofs.laws.run_stays_within.Goals as goal

pub returns : goal.returns
returns c = λ p n args cells message pos out code sound h e. run_stays_within p code (c.sound_code_is_safe.ensures p code sound) n h args cells message pos out e
