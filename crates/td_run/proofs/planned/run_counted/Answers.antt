use Rattle.std.proofs.Common.{◌≤◌, List, length, sym, ap, ◌∙◌, subst}
use Rattle.td_run.specs.Imports.{Stretch}
use Rattle.td_stream.specs.Layouts.{count_in, loadable, layout_or_plain}
use Rattle.td_run.proofs.planned.run_counted.Goals as goal

pub run_prepared-ran-requires-clause-room : goal.run_prepared-ran-requires-clause-room
run_prepared-ran-requires-clause-room g c =
    let words = c.args.prepared.words in
    let at = c.message_in-message.ensures c.args.length c.plain-plain.ensures.layout in
    subst (λ (l : List Stretch). count_in l ≤ loadable words.layout (length words.opening)) (sym at) c.requires.room

pub returns-clause-run : goal.returns-clause-run
returns-clause-run g c = c.run_prepared-ran.ensures.run c.args.length (c.message_in-message.ensures c.args.length c.plain-plain.ensures.layout ∙ ap (layout_or_plain c.args.length) (sym c.requires.same))
