use Rattle.td_meaning_plain.proofs.numbers.+falling_on.Given as goal

abbrev pub decreases-falling_on : goal.decreases-falling_on
decreases-falling_on l = l.width
