use Rattle.td_report_facts.proofs.Rooms.{copies_have_room}
use Rattle.td_report_facts.proofs.laws.copies_have_room.Goals as goal

pub returns : goal.returns
returns c = copies_have_room c.evaluated_is_sound.ensures c.copies_are_within.ensures
