use Rattle.td_verify_runs.proofs.Runs.{run_is_bounded}
use Rattle.td_verify_runs.proofs.laws.run_is_bounded.Goals as goal

pub returns : goal.returns
returns c = run_is_bounded c.sound_code_is_safe.ensures
