use Rattle.std.proofs.Common.{ℕ, List, length, sym, ap, ◌∙◌, subst, arith}
use Rattle.std.specs.Prelude.{slice_index_or}
use Rattle.std.proofs.lemmas.Option.{slice_get_within}
use Rattle.td_num.proofs.Lists.{lent}
use Rattle.td_core.specs.declared.module.Entry.{Entry}
use Rattle.td_core.specs.declared.outcome.Outcome.{Outcome}
use Rattle.td_stream.specs.Copies.{held_by, rooms_of}
use Rattle.td_stream.specs.Room.{LoadsView}
use Rattle.td_posts.specs.Posts.{zeros}
use Rattle.td_ir.specs.Entries.{Fits, buffers_of}
use Rattle.td_vm.specs.Frames.{FrameView, outcome_in}
use Rattle.td_takes.specs.Codes.{IsCodeAt, IsMessageCode}
use Rattle.td_takes.proofs.Messages.{message_by, entry_at}
use Rattle.td_takes.proofs.Roomy.{meant_of, copies_fit, kept_fits, kept_same}
use Rattle.td_takes.proofs.validate.validate_message.Goals as goal

abbrev none : Entry
none = record { number = 0 }

-- there is a version, and so the first of the entry points
pub bounds-entries-0 : goal.bounds-entries-0
unfolding IsMessageCode
bounds-entries-0 c =
    let job = c.args.validator.now.job.now in
    let code : (entry : Entry) × IsCodeAt c.args.validator.now.code.now job 0 entry = c.requires.code in
    let inside = slice_get_within job.entries 0 code.0 code.1.version.1 in
    let same = ap length c.as_slice-entries.ensures in
    omega (arith, inside, same)

pub set_cells-requires : goal.set_cells-requires
unfolding IsMessageCode
set_cells-requires c =
    let job = c.args.validator.now.job.now in
    let code : (entry : Entry) × IsCodeAt c.args.validator.now.code.now job 0 entry = c.requires.code in
    let less = c.fitting_cells_have_room.ensures c.args.validator.now.code.now code.0 job.args (zeros job.cells) code.1.can.fits in
    let long = ap length (c.as_slice.ensures.value ∙ c.requires.room.1) in
    omega (arith, less, long, c.requires.armed.cell_room)

pub validate_slot-verdict-requires-clause-fits : goal.validate_slot-verdict-requires-clause-fits
unfolding IsMessageCode
validate_slot-verdict-requires-clause-fits c =
    let job = c.args.validator.now.job.now in
    let code : (entry : Entry) × IsCodeAt c.args.validator.now.code.now job 0 entry = c.requires.code in
    let zero = c.set_cells.ensures.cells ∙ (c.as_slice.ensures.value ∙ c.requires.room.1) in
    let begins = entry_at job.entries c.as_slice-entries.result.now 0 code.0 none c.as_slice-entries.ensures code.1.version.1 in
    subst (λ (x : List ℕ × List ℕ × Entry). Fits c.args.validator.now.code.now x.2 x.0 x.1) (λ i. (sym c.as_slice-args.ensures i, sym zero i, sym begins i)) code.1.can.fits

pub keep_copies-requires : goal.keep_copies-requires
unfolding IsMessageCode
keep_copies-requires c =
    let job = c.args.validator.now.job.now in
    let code : (entry : Entry) × IsCodeAt c.args.validator.now.code.now job 0 entry = c.requires.code in
    let v = c.validate_slot-verdict in
    let zero = c.set_cells.ensures.cells ∙ (c.as_slice.ensures.value ∙ c.requires.room.1) in
    let used : Entry = slice_index_or c.as_slice-entries.result.now 0 none in
    let begins = entry_at job.entries c.as_slice-entries.result.now 0 code.0 none c.as_slice-entries.ensures code.1.version.1 in
    let k : ℕ = buffers_of c.args.validator.now.code.now used in
    let o : Outcome = outcome_in v.new.frame k v.result in
    let fetched = meant_of job c.args.validator.now.code.now code.1.format code.0 used c.one-layout.result v.new.loads.list c.as_slice-args.result.now c.set_cells.new.self.cells o
    code.1.can begins c.as_slice-args.ensures zero c.message_is_short.ensures v.ensures.validated in
    kept_fits job.rooms k c.copies.result.now v.new.frame.copies c.as_mut_slice.result.now (c.as_mut_slice.ensures.value ∙ c.requires.room.2) c.copies.ensures
    (copies_fit job code.1.format code.0 c.one-layout.result v.new.loads.list o code.1.can.roomy c.message_is_short.ensures fetched)

pub returns-clause-message : goal.returns-clause-message
unfolding IsMessageCode
returns-clause-message c =
    let job = c.args.validator.now.job.now in
    let code : (entry : Entry) × IsCodeAt c.args.validator.now.code.now job 0 entry = c.requires.code in
    let v = c.validate_slot-verdict in
    let frame : FrameView = v.new.frame in
    let zero = c.set_cells.ensures.cells ∙ (c.as_slice.ensures.value ∙ c.requires.room.1) in
    let used : Entry = slice_index_or c.as_slice-entries.result.now 0 none in
    let begins = entry_at job.entries c.as_slice-entries.result.now 0 code.0 none c.as_slice-entries.ensures code.1.version.1 in
    let k : ℕ = buffers_of c.args.validator.now.code.now used in
    let o : Outcome = outcome_in frame k v.result in
    let fetched = meant_of job c.args.validator.now.code.now code.1.format code.0 used c.one-layout.result v.new.loads.list c.as_slice-args.result.now c.set_cells.new.self.cells o
    code.1.can begins c.as_slice-args.ensures zero c.message_is_short.ensures v.ensures.validated in
    let fit = copies_fit job code.1.format code.0 c.one-layout.result v.new.loads.list o code.1.can.roomy c.message_is_short.ensures fetched in
    let all = lent c.args.room.copies.buffers.len c.keep_copies.new.copies c.args.room.copies.buffers.items (c.keep_copies.auto.copies ∙ c.as_mut_slice.ensures.len) in
    let held =
    ap held_by all
    ∙ (c.keep_copies.ensures.held
    ∙ kept_same job.rooms k c.copies.result.now frame.copies c.as_mut_slice.result.now (c.as_mut_slice.ensures.value ∙ c.requires.room.2) c.copies.ensures fit) in
    message_by job code.1.format code.0 c.args.place c.args.size c.reply_of.result c.one-layout.result v.new.loads.list o
    code.1.version c.reply_of.ensures.guest c.reply_of.ensures.version c.reply_of.ensures.layout c.one-layout.ensures (ap (λ (l : LoadsView). l.list) c.reply_of.ensures.loads)
    (c.reply_of.ensures.outcome ∙ ap (λ (x : List (List ℕ)). record { verdict = v.result; trace = frame.trace; cells = frame.cells; copies = x }) held)
    fetched

-- no list was let grow, and no buffer
pub returns-clause-memory : goal.returns-clause-memory
returns-clause-memory c =
    let all = lent c.args.room.copies.buffers.len c.keep_copies.new.copies c.args.room.copies.buffers.items (c.keep_copies.auto.copies ∙ c.as_mut_slice.ensures.len) in
    let m = c.reply_of.ensures.memory in
    record { trace = m.trace; cells = m.cells; buffers = m.buffers; rooms = m.rooms ∙ (ap rooms_of all ∙ (c.keep_copies.ensures.rooms ∙ ap rooms_of c.as_mut_slice.ensures.value)) }
