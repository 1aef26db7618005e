use Rattle.std.proofs.Common.{arith, ◌≡◌, length, ap, ◌∙◌}
use Rattle.std.proofs.lemmas.List.{length-map}
use Rattle.td_num.specs.Numbers.{places_from}
use Rattle.td_stream.specs.Copies.{empty_with}
use Rattle.td_vm.specs.Imports.{Parts}
use Rattle.td_vm.specs.Need.{most_room, most_buffers, most_rooms}
use Rattle.td_vm.proofs.Places.{length_places}
use Rattle.td_vm.proofs.validate.copies_for.Goals as goal

-- as many rooms as the most buffers
many_rooms : (c : Parts) → length (most_rooms c) ≡ most_buffers c
many_rooms c = length-map (places_from 0 (most_buffers c)) (most_room c) ∙ length_places (most_buffers c) 0

pub returns-clause-copy_memory : goal.returns-clause-copy_memory
returns-clause-copy_memory c = c.in_ok-copies.ensures.memory ∙ ap length (c.deref.ensures.value ∙ c.in_ok-rooms.ensures) ∙ many_rooms c.args.parts.now

pub returns-clause-few : goal.returns-clause-few
returns-clause-few c =
    let many : length c.in_ok-copies.copies.items ≡ most_buffers c.args.parts.now =
    ap length c.in_ok-copies.ensures.buffers
    ∙ length-map c.deref.result.now empty_with
    ∙ ap length (c.deref.ensures.value ∙ c.in_ok-rooms.ensures)
    ∙ many_rooms c.args.parts.now in
    omega (arith, many, c.in_ok-kept.ensures.exact, c.most_buffers_of.ensures)
