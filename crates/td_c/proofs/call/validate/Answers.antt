use Rattle.std.proofs.Common.{rules, subst, refl, IfSome}
use Rattle.std.specs.Arc.{arc_value}
use Rattle.td_ir.specs.Entries.{buffers_of}
use Rattle.td_vm.specs.Frames.{IsRestEmpty}
use Rattle.td_session.specs.Validated.{IsValidated}
use Rattle.td_c.specs.Asked.{entry_asked, args_of, cells_of, copied_by}
use Rattle.td_c.proofs.call.validate.Goals as goal

pub returns-in-Some-clause-answered : goal.returns-in-Some-clause-answered
returns-in-Some-clause-answered g c =
    let a = c.args in
    let ran = c.run_call-found.ensures.ran in
    let loads = g.W.Words.loads c.run_call-found.new.words in
    record {
      asked_well = (λ _. record { inside = tt; args = search rules; cells = search rules; fits = ran.fits.0 (search rules) }, λ _. refl);
      validated =
          subst (λ o. IfSome o (λ v. IsValidated (arc_value a.session.now.code) (entry_asked a.call.now) (args_of a.call.now) (cells_of a.call.now) a.layout.now
          loads (record { verdict = v.0; trace = c.run_call-found.new.session.frame.trace; cells = cells_of c.run_call-found.new.call; copies = copied_by (arc_value a.session.now.code) (entry_asked a.call.now) c.run_call-found.new.session.frame }) v.1))
          c.in-Some.is ran.validated;
      rest =
          subst (λ o. IfSome o (λ v. IsRestEmpty (arc_value a.session.now.code) (buffers_of (arc_value a.session.now.code) (entry_asked a.call.now)) c.run_call-found.new.session.frame))
          c.in-Some.is ran.rest;
      told = search rules;
      same = search rules;
      refused = search rules;
      unloaded = search rules;
      call_stays = search rules;
      room_stays = search rules;
      noted = search rules;
    }
