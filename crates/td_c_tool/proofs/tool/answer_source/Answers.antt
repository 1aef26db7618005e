use Rattle.std.proofs.Common.{ℕ, List, refl, ap, Err, subst, sym}
use Rattle.td_num.proofs.Equals.{same_error}
use Rattle.td_io.specs.Causes.{ReadWhole}
use Rattle.td_c_ends.specs.Passages.{passage}
use Rattle.td_c_tool.proofs.Calls.{WasRead, WasUnread, read_call, unread_call, ok_no_error}
use Rattle.td_c_tool.proofs.tool.answer_source.Goals as goal

pub returns-in-Ok : goal.returns-in-Ok
returns-in-Ok g c =
    λ words means.
    let P : List ℕ → Type 0 = λ bytes. ReadWhole (g.S.Source.state c.args.src.now).left bytes in
    let read : WasRead (passage g.S.Source.state c.args.src.now c.read_whole.new.src) c.deref.result.now = record {
      held = subst P (sym c.deref.ensures.value) c.in-Ok.ensures.whole;
      end = c.in-Ok.ensures.end;
      quiet = c.in-Ok.ensures.quiet (λ same. ok_no_error _ _ same);
      within = c.in-Ok.ensures.within (λ same. ok_no_error _ _ same);
      taken = c.in-Ok.ensures.taken;
    } in
    read_call words c.args.command.now (passage g.S.Source.state c.args.src.now c.read_whole.new.src) c.deref.result.now (passage g.O.Sink.state c.args.out.now c.answer_input.new.out) (passage g.E.Sink.state c.args.err.now c.answer_input.new.err) c.answer_input.result
    means c.requires read c.answer_input.ensures

pub returns-in-Err : goal.returns-in-Err
returns-in-Err g c =
    λ words means.
    let was : WasUnread (passage g.S.Source.state c.args.src.now c.read_whole.new.src) c.in-Err.error = record {
      fault = λ same. c.in-Err.ensures.fault (ap Err same);
      quiet = λ no. c.in-Err.ensures.quiet (λ same. no (same_error _ _ same));
      long = λ same. c.in-Err.ensures.long (ap Err same);
      within = λ no. c.in-Err.ensures.within (λ same. no (same_error _ _ same));
      taken = c.in-Err.ensures.taken;
    } in
    unread_call words c.args.command.now (passage g.S.Source.state c.args.src.now c.read_whole.new.src) c.in-Err.error (passage g.O.Sink.state c.args.out.now c.args.out.now) (passage g.E.Sink.state c.args.err.now c.finish_unread.new.err) c.finish_unread.result
    means c.requires was (c.finish_unread.ensures, refl)
