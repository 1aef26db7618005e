use Rattle.std.proofs.Common.{◌≡◌, length, ap, ◌∙◌, arith}
use Rattle.td_stream.specs.Copies.{rooms_of}
use Rattle.td_vm.specs.Imports.{Parts}
use Rattle.td_ir.specs.Entries.{buffers_of}
use Rattle.td_vm.specs.Need.{entry_rooms, most_rooms}
use Rattle.td_vm.specs.Frames.{FrameView}
use Rattle.td_vm.proofs.Rooms.{entry_few}
use Rattle.td_vm.proofs.validate.Frame.into_outcome.Goals as goal

pub held_by_first-requires-clause-count : goal.held_by_first-requires-clause-count
held_by_first-requires-clause-count c =
    let a = c.args in
    let rooms : rooms_of c.self.inside.copies.items ≡ most_rooms a.code.now = ap (λ (x : FrameView). rooms_of x.copies) c.self.view_is ∙ c.requires.armed.rooms in
    let few = entry_few a.code.now a.entry.number c.self.inside.copies.items c.requires.there rooms in
    let count : c.buffer_count-buffers.result ≡ length (entry_rooms a.code.now a.entry.number) = c.buffer_count-buffers.ensures ∙ ap (λ (x : Parts). buffers_of x a.entry) c.runnable.ensures.same in
    omega (arith, few, count)
