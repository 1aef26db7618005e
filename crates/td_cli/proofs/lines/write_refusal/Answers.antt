use Rattle.td_cli.proofs.lines.write_refusal.Goals as goal

pub returns-in-TooLong : goal.returns-in-TooLong
returns-in-TooLong g c = rw c.in-TooLong.is c.front_line.ensures
