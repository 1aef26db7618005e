use Rattle.std.proofs.Common.{◌≡◌, length, arith, subst}
use Rattle.td_meaning.specs.Meaning.{meaning}
use Rattle.td_meaning.specs.Copies.{opened}
use Rattle.td_ir.specs.Entries.{buffers_of, opened_by}
use Rattle.td_ir.specs.Run.{run}
use Rattle.td_vm.specs.Frames.{outcome_in}
use Rattle.td_run.proofs.Behaving.{behaves}
use Rattle.td_run.proofs.validation.validate_counted.Goals as goal

pub returns-clause-validated : goal.returns-clause-validated
returns-clause-validated g c =
    let a = c.args in
    let code = a.code.now in
    let cells = a.frame.now.cells in
    let e = c.validate-verdict.ensures.fetched in
    record {
      rising = e.rising;
      inside = e.inside;
      holds = λ b carries. record {
        ran = (let r = e.holds b carries in record { outcome_is = r.outcome_is; exact = r.exact; counted = omega arith });
        meant = λ m of sound.
            behaves a.layout.now (length cells) b (g.W.Words.loads c.validate-verdict.new.words) (run code a.entry a.args.now (opened_by code a.entry cells) b) (meaning m a.entry a.args.now (opened m a.entry cells) b)
            (outcome_in c.validate-verdict.new.frame (buffers_of code a.entry) c.validate-verdict.result) _ _ (e.holds b carries)
            (c.code_means.ensures code m a.entry a.args.now cells b of c.requires.fits (omega (arith, carries.size, c.message_is_short.ensures)) sound);
      };
    }

pub returns-clause-told : goal.returns-clause-told
returns-clause-told g c =
    λ b carries. (let r = c.validate-verdict.ensures.fetched.holds b carries in
    subst (λ n. g.C.Counter.tells c.end.result n) (let e : c.validate-verdict.new.steps ≡ (run c.args.code.now c.args.entry c.args.args.now (opened_by c.args.code.now c.args.entry c.args.frame.now.cells) b).steps = omega (arith, r.counted) in e) c.end.ensures)
