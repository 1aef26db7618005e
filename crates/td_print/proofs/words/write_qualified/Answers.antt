use Rattle.std.proofs.Common.{refl}
use Rattle.td_print_layout.proofs.Dots.{name_text}
use Rattle.td_print.proofs.words.write_qualified.Goals as goal

pub returns : goal.returns
returns c = rw (name_text c.args.text.now) (simp (c.in_ok-write.ensures {u = tt}, c.as_slice.ensures) refl)
