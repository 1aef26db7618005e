use Rattle.td_print_layout.proofs.Inputs.{input_reads_back}
use Rattle.td_print_layout.proofs.laws.reads_back.Goals as goal

pub returns : goal.returns
returns c = input_reads_back
