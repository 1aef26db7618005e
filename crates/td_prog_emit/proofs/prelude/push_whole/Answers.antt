use Rattle.std.proofs.Common.{refl}
use Rattle.td_prog_emit.proofs.Texts.{joined, recut}
use Rattle.td_prog_emit.proofs.prelude.push_whole.Goals as goal

pub returns : goal.returns
returns c = recut (joined (c.in_ok-push_numeral_in.ensures {u = tt}) (joined (c.in_ok-push_numeral_in-2.ensures {u = tt}) (joined (c.in_ok-push_byte.ensures {u = tt}) (joined (c.in_ok-push_byte-2.ensures {u = tt}) (joined (c.in_ok-push_byte-3.ensures {u = tt}) (joined (c.in_ok-push_byte-4.ensures {u = tt}) (joined (c.in_ok-push_byte-5.ensures {u = tt}) (joined (c.in_ok-push_byte-6.ensures {u = tt}) (joined (c.in_ok-push_byte-7.ensures {u = tt}) (joined (c.in_ok-push_byte-8.ensures {u = tt}) (joined (c.in_ok-push_numeral_in-3.ensures {u = tt}) (joined (c.in_ok-push_numeral_in-4.ensures {u = tt}) c.push_numeral_in-5.ensures)))))))))))) refl
