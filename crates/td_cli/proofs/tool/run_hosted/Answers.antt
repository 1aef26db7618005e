use Rattle.td_cli_command.specs.declared.command.Command.TheVariants.{Host}
use Rattle.td_cli.specs.CallEnds.{passage}
use Rattle.td_cli.proofs.Calls.{answered_call}
use Rattle.td_cli.proofs.tool.run_hosted.Goals as goal

pub returns : goal.returns
returns g c =
    λ words means.
    answered_call words Host c.answer_hosted.result (passage g.S.Source.state c.args.src.now c.answer_hosted.new.src) (passage g.O.Sink.state c.args.out.now c.answer_hosted.new.out) (passage g.E.Sink.state c.args.err.now c.answer_hosted.new.err) means (record {
      ends = c.answer_hosted.ensures.ends words means;
      usage = c.answer_hosted.ensures.usage;
      good = c.answer_hosted.ensures.good;
      bad = c.answer_hosted.ensures.bad;
      taken = c.answer_hosted.ensures.taken;
    })
