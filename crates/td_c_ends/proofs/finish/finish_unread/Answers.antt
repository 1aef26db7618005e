use Rattle.td_c_ends.proofs.finish.finish_unread.Goals as goal

pub returns-in-Fault : goal.returns-in-Fault
returns-in-Fault g c = rw c.in-Fault.is c.finish_with_line.ensures
