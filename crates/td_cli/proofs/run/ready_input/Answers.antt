use Rattle.std.specs.Prelude.{option_map}
use Rattle.td_report_facts.proofs.Words.{over_with}
use Rattle.td_cli.proofs.run.ready_input.Goals as goal

pub prepare-requires-clause-over : goal.prepare-requires-clause-over
prepare-requires-clause-over c =
    over_with c.args.input.now.job (option_map (λ l. l.now) c.as_ref-layout.result) c.as_slice-words.result.now c.as_ref-layout.ensures.value c.as_slice-words.ensures c.requires.room
