use Rattle.td_try_code.proofs.machine.put_run.Given as goal

abbrev pub ghosts-validated : goal.ghosts-validated
ghosts-validated a = record { name = a.blank.name; parts = a.blank.parts }
