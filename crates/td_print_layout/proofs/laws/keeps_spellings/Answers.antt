use Rattle.td_print_layout.proofs.SoundDefinitions.{input_keeps_spellings}
use Rattle.td_print_layout.proofs.laws.keeps_spellings.Goals as goal

pub returns : goal.returns
returns c = input_keeps_spellings
