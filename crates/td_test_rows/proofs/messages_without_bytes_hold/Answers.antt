use Rattle.std.proofs.Common.{refl}
use Rattle.td_meaning.specs.Meaning.{below, fields_meaning, parts_meaning, elements}
use Rattle.td_kinds.specs.Kinds.{kinds_below}
use Rattle.td_test_rows.proofs.messages_without_bytes_hold.Goals as goal

pub returns : goal.returns
unfolding kinds_below below fields_meaning parts_meaning elements
returns c = refl
