use Rattle.std.proofs.Common.{ℕ, List, refl, ap, Err, subst, sym}
use Rattle.td_io.specs.Causes.{ReadWhole}
use Rattle.td_cli.specs.declared.status.Status.TheVariants as at
use Rattle.td_cli_command.specs.declared.command.Command.TheVariants.{Read}
use Rattle.td_cli.specs.CallEnds.{passage}
use Rattle.td_cli.proofs.Calls.{WasRead, WasUnread, was_taken, input_ends, input_never, unread_ends, unread_never, unread_good, admits_read, refuses_read, ok_no_error}
use Rattle.td_cli.proofs.tool.answer_source.Goals as goal
use Rattle.td_num.proofs.Equals.{same_error}

-- ---- the source was read to its end

pub returns-in-Ok-clause-ends : goal.returns-in-Ok-clause-ends
returns-in-Ok-clause-ends g c =
    λ words means.
    let P : List ℕ → Type 0 = λ bytes. ReadWhole (g.S.Source.state c.args.src.now).left bytes in
    let read : WasRead (passage g.S.Source.state c.args.src.now c.read_whole.new.src) c.deref.result.now = record {
      held = subst P (sym c.deref.ensures.value) c.in-Ok.ensures.whole;
      end = c.in-Ok.ensures.end;
      quiet = c.in-Ok.ensures.quiet (λ same. ok_no_error _ _ same);
      within = c.in-Ok.ensures.within (λ same. ok_no_error _ _ same);
    } in
    input_ends words (Read c.args.reading) (passage g.S.Source.state c.args.src.now c.read_whole.new.src) c.deref.result.now (passage g.O.Sink.state c.args.out.now c.answer_input.new.out) (passage g.E.Sink.state c.args.err.now c.answer_input.new.err) c.answer_input.result means (was_taken words (Read c.args.reading) (passage g.S.Source.state c.args.src.now c.read_whole.new.src) c.deref.result.now means tt read) c.answer_input.ensures.ends

pub returns-in-Ok-clause-usage : goal.returns-in-Ok-clause-usage
returns-in-Ok-clause-usage g c =
    input_never (Read c.args.reading) c.deref.result.now (passage g.O.Sink.state c.args.out.now c.answer_input.new.out) (passage g.E.Sink.state c.args.err.now c.answer_input.new.err) c.answer_input.result at.Usage (λ e. cc) (λ e. cc) (λ e. cc) (λ e. cc) c.answer_input.ensures.ends

pub returns-in-Ok-clause-good : goal.returns-in-Ok-clause-good
returns-in-Ok-clause-good g c =
    λ input told admits.
    let P : List ℕ → Type 0 = λ bytes. ReadWhole (g.S.Source.state c.args.src.now).left bytes in
    c.answer_input.ensures.good (admits_read (Read c.args.reading) (g.S.Source.state c.args.src.now).left input c.deref.result.now told (subst P (sym c.deref.ensures.value) c.in-Ok.ensures.whole) admits)

pub returns-in-Ok-clause-bad : goal.returns-in-Ok-clause-bad
returns-in-Ok-clause-bad g c =
    λ input refusal told refuses.
    let P : List ℕ → Type 0 = λ bytes. ReadWhole (g.S.Source.state c.args.src.now).left bytes in
    c.answer_input.ensures.bad refusal (refuses_read (Read c.args.reading) (g.S.Source.state c.args.src.now).left input c.deref.result.now refusal told (subst P (sym c.deref.ensures.value) c.in-Ok.ensures.whole) refuses)

-- ---- it wasn't

pub returns-in-Err-clause-ends : goal.returns-in-Err-clause-ends
returns-in-Err-clause-ends g c =
    λ words means.
    let was : WasUnread (passage g.S.Source.state c.args.src.now c.read_whole.new.src) c.in-Err.error = record {
      fault = λ same. c.in-Err.ensures.fault (ap Err same);
      quiet = λ no. c.in-Err.ensures.quiet (λ same. no (same_error _ _ same));
      long = λ same. c.in-Err.ensures.long (ap Err same);
      within = λ no. c.in-Err.ensures.within (λ same. no (same_error _ _ same));
    } in
    unread_ends words (Read c.args.reading) (passage g.S.Source.state c.args.src.now c.read_whole.new.src) c.in-Err.error (passage g.O.Sink.state c.args.out.now c.args.out.now) (passage g.E.Sink.state c.args.err.now c.finish_unread.new.err) c.finish_unread.result means tt was (c.finish_unread.ensures, refl)

pub returns-in-Err-clause-usage : goal.returns-in-Err-clause-usage
returns-in-Err-clause-usage g c =
    unread_never c.in-Err.error (passage g.E.Sink.state c.args.err.now c.finish_unread.new.err) c.finish_unread.result at.Usage (λ e. cc) (λ e. cc) (λ e. cc) (λ e. cc) c.finish_unread.ensures

pub returns-in-Err-clause-good : goal.returns-in-Err-clause-good
returns-in-Err-clause-good g c =
    λ input told admits.
    unread_good (Read c.args.reading) (g.S.Source.state c.args.src.now).left c.in-Err.error input (passage g.E.Sink.state c.args.err.now c.finish_unread.new.err) c.finish_unread.result tt told admits (λ same. c.in-Err.ensures.long (ap Err same)) c.finish_unread.ensures

pub returns-in-Err-clause-bad : goal.returns-in-Err-clause-bad
returns-in-Err-clause-bad g c =
    λ input refusal told refuses.
    unread_never c.in-Err.error (passage g.E.Sink.state c.args.err.now c.finish_unread.new.err) c.finish_unread.result at.Done (λ e. cc) (λ e. cc) (λ e. cc) (λ e. cc) c.finish_unread.ensures
