use Rattle.td_stream.proofs.stream.Stream.+take_turned.Given as goal

abbrev pub decreases-take_turned : goal.decreases-take_turned
decreases-take_turned g l = l.count
