use Rattle.std.proofs.Common.{rules}
use Rattle.td_stream.specs.Layouts.{AreWithin}
use Rattle.td_c.proofs.Answered.{answered_inside}
use Rattle.td_c.proofs.call.validate_within.Goals as goal

pub returns-clause-answered : goal.returns-clause-answered
returns-clause-answered c =
    answered_inside c.end-words.result.1 (AreWithin c.args.count c.args.layout.now) (search rules) (c.requires.inside.0 (search rules)) c.validate-answer.ensures.answered
