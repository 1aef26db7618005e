use Rattle.std.proofs.Common.{◌≡◌, ◌<◌, List, length, Some, sym, ap, ◌∙◌, arith}
use Rattle.std.specs.Prelude.{slice_get, slice_index_or}
use Rattle.std.proofs.lemmas.Option.{slice_get_within, slice_get-get_or}
use Rattle.td_core.specs.declared.module.Entry.{Entry}
use Rattle.td_ir.specs.declared.tables.Parts.{Parts}
use Rattle.td_host_actors.specs.Replies.{IsJobCode, JobCode}
use Rattle.td_host_actors.specs.Acting.{most_frames}
use Rattle.td_host_actors.proofs.Versions.{few_frames, code_at, still_armed}
use Rattle.td_host_actors.proofs.worker.answer_now.Goals as goal

abbrev none : Entry
none = record { number = 0 }

pub bounds-as_slice-number : goal.bounds-as_slice-number
unfolding IsJobCode
bounds-as_slice-number g c =
    let v = c.current-version.result.now in
    let code : JobCode c.args.desk.now.codes.codes c.args.desk.now.job = c.requires.code in
    let inside = slice_get_within c.args.desk.now.codes.codes v.number v.code c.current-version.ensures.code in
    let same = ap length c.as_slice.ensures in
    omega (arith, inside, code.as_many_entries, same)

pub bounds-frames-number : goal.bounds-frames-number
bounds-frames-number g c =
    let v = c.current-version.result.now in
    let inside = slice_get_within c.args.desk.now.codes.codes v.number v.code c.current-version.ensures.code in
    omega (arith, inside, c.requires.armed.as_many)

pub answer-requires-clause-code : goal.answer-requires-clause-code
unfolding IsJobCode
answer-requires-clause-code g c =
    let v = c.current-version.result.now in
    let job = c.args.desk.now.job in
    let codes : List Parts = c.args.desk.now.codes.codes in
    let code : JobCode codes job = c.requires.code in
    let inside = slice_get_within codes v.number v.code c.current-version.ensures.code in
    let less : v.number < length job.entries = omega (arith, inside, code.as_many_entries) in
    let begins : slice_get job.entries v.number ≡ Some (slice_index_or c.as_slice.result.now v.number none) =
    slice_get-get_or job.entries v.number none less ∙ ap (λ (l : List Entry). Some (slice_index_or l v.number none)) (sym c.as_slice.ensures) in
    code_at codes job v.number v.code (slice_index_or c.as_slice.result.now v.number none) c.requires.code c.current-version.ensures.code begins

pub answer-requires-clause-armed : goal.answer-requires-clause-armed
answer-requires-clause-armed g c =
    let v = c.current-version.result.now in
    c.requires.armed.each v.number v.code c.index-frames-number.result c.current-version.ensures.code

pub answer-requires-clause-fits : goal.answer-requires-clause-fits
answer-requires-clause-fits g c =
    let v = c.current-version.result.now in
    let codes : List Parts = c.args.desk.now.codes.codes in
    let armed = c.requires.armed.each v.number v.code c.index-frames-number.result c.current-version.ensures.code in
    let few = few_frames codes v.number v.code c.current-version.ensures.code in
    (most_frames codes, omega (arith, armed.trace_room, few), c.requires.fits)

pub returns-clause-armed : goal.returns-clause-armed
returns-clause-armed g c =
    let v = c.current-version.result.now in
    still_armed c.args.desk.now.codes.codes c.args.frames.now v.number v.code c.answer.new.frame c.requires.armed c.current-version.ensures.code c.answer.ensures.armed
