use Rattle.td_meaning_plain.proofs.numbers.+rising_at.Given as goal

abbrev pub decreases-rising_at : goal.decreases-rising_at
decreases-rising_at l = l.width
