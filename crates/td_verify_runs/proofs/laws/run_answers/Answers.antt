use Rattle.td_verify_runs.proofs.Runs.{run_answers}
use Rattle.td_verify_runs.proofs.laws.run_answers.Goals as goal

pub returns : goal.returns
returns c = λ p n args cells message code sound h. run_answers p code (c.sound_code_is_safe.ensures p code sound) n h args cells message
