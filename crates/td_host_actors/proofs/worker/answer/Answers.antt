use Rattle.std.proofs.Common.{◌≡◌, ℕ, ◌≤◌, List, length, refl, sym, ap, ◌∙◌, subst, arith, Option, None, Some}
use Rattle.td_core.specs.declared.outcome.TraceFrame.{TraceFrame}
use Rattle.td_posts.specs.declared.mail.Mail.{Mail}
use Rattle.std.specs.Option.{unwrap_or}
use Rattle.std.specs.List.{All}
use Rattle.td_num.proofs.Lists.{lent}
use Rattle.td_posts.specs.declared.name.PostName.{PostName}
use Rattle.td_posts.specs.Laws.{AreNamed}
use Rattle.td_posts.specs.Posts.{list_of, layout_of, all_mails, mail_named, zeros}
use Rattle.td_stream.specs.declared.load.Load.{Load}
use Rattle.td_stream.specs.declared.stretch.Stretch.{Stretch}
use Rattle.td_stream.specs.Layouts.{count_in, AreWithin}
use Rattle.td_core.specs.declared.outcome.Outcome.{Outcome}
use Rattle.td_ir.specs.Entries.{Fits as FitsEntry, buffers_of}
use Rattle.td_stream.specs.Copies.{held_by, rooms_of}
use Rattle.td_vm.specs.Frames.{FrameView, outcome_in}
use Rattle.td_takes.specs.Codes.{IsMeantUnder}
use Rattle.td_takes.proofs.Roomy.{meant_of, copies_fit, kept_fits, kept_same}
use Rattle.td_host_actors.proofs.Named.{some_same, named_met, named_is}
use Rattle.td_host_actors.proofs.Posting.{laid_is}
use Rattle.td_host_actors.proofs.worker.answer.Goals as goal

-- what is looked up is the post's mail, and what it is validated by is its layout
record Laid (m n : Mail) (list : Option (List Stretch)) (used : List Stretch) : Type 0 where
  pub same : m ≡ n
  pub list_is : list ≡ list_of n
  pub used_is : used ≡ layout_of n

laid : (mails all : List Mail) (name : PostName) (m n : Mail) (list : Option (List Stretch)) (single used : List Stretch) → mails ≡ all → mail_named name all ≡ Some m → mail_named name mails ≡ Some n
    → list ≡ list_of m → (n.layout ≡ None → single ≡ layout_of n) → used ≡ unwrap_or list single → Laid m n list used
laid mails all name m n list single used same is found has at chosen =
    let mail_is : m ≡ n = some_same m n (sym is ∙ (ap (mail_named name) (sym same) ∙ found)) in
    let list_is : list ≡ list_of n = has ∙ ap list_of mail_is in
    record { same = mail_is; list_is = list_is; used_is = chosen ∙ laid_is n.base n.length n.layout list single list_is at }

-- each post of a job is the first of its name
pub mail_of-requires : goal.mail_of-requires
mail_of-requires g c = subst (λ (l : List Mail). AreNamed l) (sym (c.as_slice-mails.ensures.value ∙ c.requires.mails)) (c.each_mail_is_named.ensures c.args.desk.now.job.guests)

pub set_cells-requires : goal.set_cells-requires
set_cells-requires g c =
    let job = c.args.desk.now.job in
    let code = c.requires.code.can in
    let less = c.fitting_cells_have_room.ensures c.args.version.now.code c.args.entry job.args (zeros job.cells) code.fits in
    let long = ap length (c.as_slice.ensures.value ∙ c.requires.fits.2.cells) in
    omega (arith, less, long, c.requires.armed.cell_room)

pub validate_slot-verdict-requires-clause-inside : goal.validate_slot-verdict-requires-clause-inside
validate_slot-verdict-requires-clause-inside g c = subst (AreWithin c.args.desk.now.shared.count) (sym (laid c.as_slice-mails.result.now (all_mails 1 c.args.desk.now.job.guests) c.args.post.name c.requires.fits.2.mail c.in-Some.mail.now c.args.post.room.layout c.at_word-single.result c.list_or-laid.result.now (c.as_slice-mails.ensures.value ∙ c.requires.mails) c.requires.fits.2.is c.in-Some.ensures c.requires.fits.2.layout c.at_word-single.ensures c.list_or-laid.ensures).used_is) (named_met (λ (m : Mail). AreWithin c.args.desk.now.shared.count (layout_of m)) c.args.post.name c.as_slice-mails.result.now c.in-Some.mail.now c.in-Some.ensures (subst (All (λ (m : Mail). AreWithin c.args.desk.now.shared.count (layout_of m))) (sym c.as_slice-mails.ensures.value) c.requires.inside))

pub validate_slot-verdict-requires-clause-armed : goal.validate_slot-verdict-requires-clause-armed
validate_slot-verdict-requires-clause-armed g c = c.set_cells.ensures.armed c.args.version.now.code c.requires.armed

pub validate_slot-verdict-requires-clause-fits : goal.validate_slot-verdict-requires-clause-fits
validate_slot-verdict-requires-clause-fits g c =
    let code = c.requires.code.can in
    let zero = c.set_cells.ensures.cells ∙ (c.as_slice.ensures.value ∙ c.requires.fits.2.cells) in
    subst (λ (x : List ℕ × List ℕ). FitsEntry c.args.version.now.code c.args.entry x.0 x.1) (λ i. (sym c.as_slice-args.ensures i, sym zero i)) code.fits

pub validate_slot-verdict-requires-clause-room : goal.validate_slot-verdict-requires-clause-room
validate_slot-verdict-requires-clause-room g c =
    let lies = laid c.as_slice-mails.result.now (all_mails 1 c.args.desk.now.job.guests) c.args.post.name c.requires.fits.2.mail c.in-Some.mail.now c.args.post.room.layout c.at_word-single.result c.list_or-laid.result.now (c.as_slice-mails.ensures.value ∙ c.requires.mails) c.requires.fits.2.is c.in-Some.ensures c.requires.fits.2.layout c.at_word-single.ensures c.list_or-laid.ensures in
    subst (λ (l : List Stretch). count_in l ≤ c.args.post.room.loads.room) (ap layout_of lies.same ∙ sym lies.used_is) c.requires.fits.2.room

pub keep-requires-clause-room : goal.keep-requires-clause-room
keep-requires-clause-room g c = omega (arith, c.validate_slot-verdict.ensures.armed.trace_room, c.requires.fits.1, c.requires.fits.2.memory.trace_room, c.requires.armed.trace_room)

pub keep-requires-clause-cells : goal.keep-requires-clause-cells
keep-requires-clause-cells g c =
    ap length (c.as_mut_slice.ensures.value ∙ sym (c.set_cells.ensures.cells ∙ c.as_slice.ensures.value)) ∙ sym c.validate_slot-verdict.ensures.cell_count

pub keep_copies-requires : goal.keep_copies-requires
keep_copies-requires g c =
    let job = c.args.desk.now.job in
    let at = c.requires.code in
    let v = c.validate_slot-verdict in
    let code = c.args.version.now.code in
    let entry = c.args.entry in
    let zero = c.set_cells.ensures.cells ∙ (c.as_slice.ensures.value ∙ c.requires.fits.2.cells) in
    let k : ℕ = buffers_of code entry in
    let o : Outcome = outcome_in v.new.frame k v.result in
    let fetched = meant_of job code at.format entry entry c.list_or-laid.result.now v.new.loads.list c.as_slice-args.result.now c.set_cells.new.self.cells o
    at.can refl c.as_slice-args.ensures zero c.message_is_short.ensures v.ensures.validated in
    kept_fits job.rooms k c.copies.result.now v.new.frame.copies c.as_mut_slice-2.result.now (c.as_mut_slice-2.ensures.value ∙ c.requires.fits.2.copies) c.copies.ensures
    (copies_fit job at.format entry c.list_or-laid.result.now v.new.loads.list o at.can.roomy c.message_is_short.ensures fetched)

pub returns-clause-answered : goal.returns-clause-answered
returns-clause-answered g c =
    let job = c.args.desk.now.job in
    let at = c.requires.code in
    let v = c.validate_slot-verdict in
    let code = c.args.version.now.code in
    let entry = c.args.entry in
    let frame : FrameView = v.new.frame in
    let loads : List Load = v.new.loads.list in
    let lies = laid c.as_slice-mails.result.now (all_mails 1 job.guests) c.args.post.name c.requires.fits.2.mail c.in-Some.mail.now c.args.post.room.layout c.at_word-single.result c.list_or-laid.result.now (c.as_slice-mails.ensures.value ∙ c.requires.mails) c.requires.fits.2.is c.in-Some.ensures c.requires.fits.2.layout c.at_word-single.ensures c.list_or-laid.ensures in
    let cells = lent c.args.post.room.cells.len c.keep.new.cells c.args.post.room.cells.items (c.keep.auto.cells ∙ c.as_mut_slice.ensures.len) ∙ c.keep.ensures.cells in
    let is : mail_named c.args.post.name c.as_slice-mails.result.now ≡ Some c.in-Some.mail.now = c.in-Some.ensures in
    let zero = c.set_cells.ensures.cells ∙ (c.as_slice.ensures.value ∙ c.requires.fits.2.cells) in
    let k : ℕ = buffers_of code entry in
    let o : Outcome = outcome_in frame k v.result in
    let fetched = meant_of job code at.format entry entry c.list_or-laid.result.now loads c.as_slice-args.result.now c.set_cells.new.self.cells o
    at.can refl c.as_slice-args.ensures zero c.message_is_short.ensures v.ensures.validated in
    let fit = copies_fit job at.format entry c.list_or-laid.result.now loads o at.can.roomy c.message_is_short.ensures fetched in
    let all = lent c.args.post.room.copies.buffers.len c.keep_copies.new.copies c.args.post.room.copies.buffers.items (c.keep_copies.auto.copies ∙ c.as_mut_slice-2.ensures.len) in
    let held =
    ap held_by all
    ∙ (c.keep_copies.ensures.held
    ∙ kept_same job.rooms k c.copies.result.now frame.copies c.as_mut_slice-2.result.now (c.as_mut_slice-2.ensures.value ∙ c.requires.fits.2.copies) c.copies.ensures fit) in
    record {
      mail = c.in-Some.mail.now;
      is = ap (mail_named c.args.post.name) (sym (c.as_slice-mails.ensures.value ∙ c.requires.mails)) ∙ is;
      reply = record {
        format = at.format;
        entry = entry;
        version = at.version;
        under = record {
          name = sym (named_is c.args.post.name c.as_slice-mails.result.now c.in-Some.mail.now is);
          layout = lies.list_is;
          fetched = subst (λ (x : List TraceFrame × List ℕ × List (List ℕ) × List Stretch). IsMeantUnder job at.format entry x.3 loads (record { verdict = v.result; trace = x.0; cells = x.1; copies = x.2 }))
              (λ i. (sym c.keep.ensures.trace i, sym cells i, sym held i, lies.used_is i)) fetched;
        };
      };
    }

-- no list was let grow, and no buffer
pub returns-clause-memory : goal.returns-clause-memory
returns-clause-memory g c =
    let all = lent c.args.post.room.copies.buffers.len c.keep_copies.new.copies c.args.post.room.copies.buffers.items (c.keep_copies.auto.copies ∙ c.as_mut_slice-2.ensures.len) in
    record { trace = c.keep.ensures.memory; cells = refl; buffers = refl; rooms = ap rooms_of all ∙ (c.keep_copies.ensures.rooms ∙ ap rooms_of c.as_mut_slice-2.ensures.value) }

pub at_word-single-requires : goal.at_word-single-requires
at_word-single-requires g c = named_met (λ (m : Mail). AreWithin c.args.desk.now.shared.count (layout_of m)) c.args.post.name c.as_slice-mails.result.now c.in-Some.mail.now c.in-Some.ensures (subst (All (λ (m : Mail). AreWithin c.args.desk.now.shared.count (layout_of m))) (sym c.as_slice-mails.ensures.value) c.requires.inside)
