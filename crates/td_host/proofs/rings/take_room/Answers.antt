use Rattle.std.proofs.Common.{length, ap, ◌∙◌}
use Rattle.td_stream.specs.Copies.{rooms_of}
use Rattle.td_stream.proofs.Rooms.{rooms_again}
use Rattle.td_host.proofs.rings.take_room.Goals as goal

pub returns-clause-memory : goal.returns-clause-memory
returns-clause-memory c =
    let d = c.in_ok-descr.ensures in
    let m = c.in_ok-message.ensures in
    record {
      descr = record { trace_room = d.trace_room; cell_room = d.cell_room; buffer_room = d.buffer_room; copy_rooms = ap rooms_of d.copies };
      message = record {
        trace_room = m.trace_room;
        cell_room = m.cell_room;
        buffer_room = m.buffer_room ∙ ap length c.as_slice-rooms.ensures;
        copy_rooms = ap rooms_of m.copies ∙ (rooms_again c.as_slice-rooms.result.now ∙ c.as_slice-rooms.ensures);
      };
    }
