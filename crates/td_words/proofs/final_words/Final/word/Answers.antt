use Rattle.std.proofs.Common.{ap, ◌∙◌}
use Rattle.std.specs.Prelude.{slice_index}
use Rattle.std.specs.Slots.{slots_items}
use Rattle.td_words.proofs.Ends.{reads}
use Rattle.td_words.proofs.final_words.Final.word.Goals as goal

pub returns : goal.returns
returns c = reads (slots_items c.self.inside.closed.words) c.args.i c.word.result c.word.ensures ∙ ap (λ l. slice_index l c.args.i) c.self.view_is
