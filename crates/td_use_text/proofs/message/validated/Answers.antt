use Rattle.std.proofs.Common.{◌*◌, ◌≤◌, [], length, sym, subst, ◌∙◌, arith}
use Rattle.td_ir.specs.Entries.{Fits, buffers_of}
use Rattle.td_vm.specs.Frames.{outcome_in}
use Rattle.td_use_text.proofs.Carrying.{carried}
use Rattle.td_use_text.proofs.Meaning.{means}
use Rattle.td_use_text.proofs.message.validated.Goals as goal

pub set_cells-requires : goal.set_cells-requires
set_cells-requires c =
    let code = c.args.compiled.now.code in
    let cells = c.args.cells.now in
    let fits = c.arguments_fit.ensures code c.args.compiled.now.module c.args.entry [] cells c.requires.code c.requires.entry c.requires.begins.no_arguments c.requires.begins.cells_fit in
    let room = c.fitting_cells_have_room.ensures code c.args.entry [] cells fits in
    let armed = c.requires.armed.cell_room in
    rw armed room

pub validate_recorded-verdict-requires-clause-fits : goal.validate_recorded-verdict-requires-clause-fits
validate_recorded-verdict-requires-clause-fits c =
    let code = c.args.compiled.now.code in
    let fits = c.arguments_fit.ensures code c.args.compiled.now.module c.args.entry [] c.args.cells.now c.requires.code c.requires.entry c.requires.begins.no_arguments c.requires.begins.cells_fit in
    subst (Fits code c.args.entry []) (sym c.set_cells.ensures.cells) fits

pub returns-clause-run : goal.returns-clause-run
returns-clause-run c =
    let done = c.validate_recorded-verdict in
    let loads = done.new.loads.list in
    let opened = c.in_ok-planned.planned in
    let words = c.in_ok-words.words in
    let message = c.args.message.now in
    let planned = c.loads_are_planned.ensures opened done.new.words c.in_ok-planned.ensures.loads done.ensures.reaches in
    let enough : length message ≤ 8 * length words = omega (arith, c.in_ok-words.ensures.ok.count, c.count.ensures, c.plain-layout.ensures.count) in
    let carrying = carried message words c.count.result opened done.new.words loads planned (c.in_ok-planned.ensures.opening ∙ c.as_slice.ensures) c.in_ok-planned.ensures.stores c.in_ok-planned.ensures.layout done.ensures.loads
    c.in_ok-words.ensures.ok enough (c.plain_carries.ensures (length message) message loads) in
    record {
      rising = done.ensures.validated.rising;
      carried = carrying;
      meant = means c.args.compiled.now.code c.args.compiled.now.module c.args.entry (length message) loads c.args.cells.now c.set_cells.new.self.cells c.plain-layout.result
          (outcome_in done.new.frame (buffers_of c.args.compiled.now.code c.args.entry) done.result)
          c.set_cells.ensures.cells c.plain-layout.ensures.layout c.requires.short c.requires.means c.requires.entry c.requires.begins done.ensures.validated
          message (λ i. omega (arith, c.type_inv.message i)) carrying;
    }
