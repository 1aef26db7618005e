use Rattle.std.proofs.Common.{refl, append_assoc}
use Rattle.std.proofs.lemmas.List.{append-nil}
use Rattle.td_print.proofs.parameters.write_parameter.Goals as goal

pub returns-in_ok-write_room-in-Bytes : goal.returns-in_ok-write_room-in-Bytes
returns-in_ok-write_room-in-Bytes c =
    rw (c.in-Bytes.is)
    (simp (c.in_ok-write_room-in-Bytes.ensures {u = tt}, c.in_ok-write_between-in-Bytes.ensures {u = tt}, append_assoc, append-nil) refl)
