use Rattle.std.proofs.Common.{◌≡◌, ◌+◌, length, map, ap, ◌∙◌, subst}
use Rattle.td_stream.specs.Copies.{rooms_of, empty_with}
use Rattle.td_stream.proofs.Rooms.{rooms_again}
use Rattle.td_vm.specs.Imports.{Parts}
use Rattle.td_vm.specs.Need.{most_need, most_entry_cells, most_buffers, most_rooms, registers, cells, level}
use Rattle.td_vm.specs.Frames.{AreBegins}
use Rattle.td_vm.proofs.validate.Frame.arm.Goals as goal

pub returns-in-Ok-clause-armed : goal.returns-in-Ok-clause-armed
returns-in-Ok-clause-armed c =
    let same = c.runnable-parts.ensures.same in
    let C = c.args.code.now in
    let needs = c.in_ok-needs.ensures in
    let lists = c.in_ok-lists.ensures in
    let first : c.in_ok-needs.needs.registers ≡ most_need (registers C) C = needs.registers ∙ ap (λ (x : Parts). most_need (registers x) x) same in
    let second : c.in_ok-needs.needs.places ≡ most_need (cells C) C = needs.places ∙ ap (λ (x : Parts). most_need (cells x) x) same in
    let third : c.in_ok-needs.needs.levels ≡ most_need level C = needs.levels ∙ ap (λ (x : Parts). most_need level x) same in
    let fourth : c.most_cells.result ≡ most_entry_cells C = c.most_cells.ensures ∙ ap most_entry_cells same in
    record {
      begins = subst (λ (x : Parts). AreBegins x c.in_ok-begins.begins.items) same c.in_ok-begins.ensures.begins;
      register_room = lists.registers ∙ first;
      place_room = lists.places ∙ second;
      trace_room = lists.levels ∙ third;
      cell_room = lists.cells ∙ fourth;
      memory = let r = lists.register_memory ∙ first in
          let p = lists.place_memory ∙ second in
          let k = lists.cell_memory ∙ fourth in
          let t = lists.level_memory ∙ third in
          let b = c.in_ok-begins.ensures.memory ∙ ap (λ (x : Parts). length x.routines + 1) same in
          let m = c.in-Ok.ensures.copy_memory ∙ ap most_buffers same in
          let l = c.in-Ok.ensures.memory ∙ ap most_buffers same in
          λ i. record { registers = r i; places = p i; cells = k i; trace = t i; begins = b i; copies = m i; kept = l i };
      rooms = ap rooms_of (c.in-Ok.ensures.copies ∙ ap (λ (x : Parts). map empty_with (most_rooms x)) same) ∙ rooms_again (most_rooms C);
    }
