use Rattle.td_chain.proofs.step.step.Goals as goal

pub returns-clause-goes : goal.returns-clause-goes
returns-clause-goes c = λ bytes w a. c.place.ensures.goes c.args.queue.now c.args.regions.now bytes a
