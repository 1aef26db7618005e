use Rattle.td_run.proofs.validation.validate_recorded.Given as goal

abbrev pub ghosts-validate_counted : goal.ghosts-validate_counted
ghosts-validate_counted g a = record { name = a.tally.blank.name; parts = a.tally.blank.parts }
