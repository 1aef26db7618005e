use Rattle.td_c_ends.proofs.lines.write_refusal.Goals as goal

pub returns-in-BadName : goal.returns-in-BadName
returns-in-BadName g c = rw c.in-BadName.is c.front_line.ensures

pub returns-in-TooLong : goal.returns-in-TooLong
returns-in-TooLong g c = rw c.in-TooLong.is c.front_line-in-TooLong.ensures
