use Rattle.std.proofs.Common.{◌≡◌, ◌-◌, ◌++◌, length, take, drop, sym, ap, ◌∙◌, arith, slice_index}
use Rattle.std.proofs.lemmas.List.{length-take-le, length-drop, map-append, take_all}
use Rattle.td_ir.specs.Tables.{buffer_cells}
use Rattle.td_ir.specs.Run.{places_by}
use Rattle.td_vm.proofs.machine.set_places.Goals as goal

pub set_cell_places-requires-clause-fits : goal.set_cell_places-requires-clause-fits
set_cell_places-requires-clause-fits c = c.split_at_mut-front.ensures.front_len ∙ sym (length-take-le c.args.count c.args.map.now c.requires.count)

pub set_buffer_places-requires-clause-fits : goal.set_buffer_places-requires-clause-fits
set_buffer_places-requires-clause-fits c =
    let rest = length-drop c.args.count c.args.map.now in
    omega (arith, rest, c.split_at_mut-front.ensures.back_len, c.requires.fits, c.requires.count)

pub returns : goal.returns
returns c =
    let a = c.args in
    let rest = drop a.count a.map.now in
    let long = length-drop a.count a.map.now in
    let all : take (length a.map.now - a.count) rest ≡ rest = take_all (length a.map.now - a.count) rest (omega (arith, long)) in
    (λ i. c.set_cell_places.ensures i ++ (c.set_buffer_places.ensures ∙ ap (λ xs. places_by a.places.now (buffer_cells a.cells xs)) all) i)
    ∙ sym (map-append (slice_index c.args.places.now) (take c.args.count c.args.map.now) (buffer_cells c.args.cells (drop c.args.count c.args.map.now)))
