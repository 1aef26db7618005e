use Rattle.td_lexer.proofs.Answered.{answered, answered_complete, answered_refused, answered_cause, answered_memory}
use Rattle.td_lexer.proofs.lexing.lex.Goals as goal

pub returns-clause-answer : goal.returns-clause-answer
returns-clause-answer c = answered c.args.bytes.now c.read_all.result c.read_all.ensures.tokens c.read_all.ensures.stops

pub returns-clause-complete : goal.returns-clause-complete
returns-clause-complete c = answered_complete c.args.bytes.now c.read_all.result c.read_all.ensures.tokens c.read_all.ensures.stops

pub returns-clause-refused : goal.returns-clause-refused
returns-clause-refused c = answered_refused c.args.bytes.now c.read_all.result c.read_all.ensures.tokens c.read_all.ensures.stops

pub returns-clause-cause : goal.returns-clause-cause
returns-clause-cause c = answered_cause c.args.bytes.now c.read_all.result c.read_all.ensures.stops

pub returns-clause-memory : goal.returns-clause-memory
returns-clause-memory c = answered_memory c.args.bytes.now c.read_all.result c.read_all.ensures.stops
