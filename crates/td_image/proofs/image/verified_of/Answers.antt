use Rattle.std.proofs.Common.{inr, sym, subst}
use Rattle.td_image.specs.declared.error.ImageError.{ImageError}
use Rattle.td_image.specs.Answer as answer
use Rattle.td_image.proofs.Answering.{verifier_told}
use Rattle.td_image.proofs.image.verified_of.Goals as goal

pub returns-in-Err-clause-refused : goal.returns-in-Err-clause-refused
returns-in-Err-clause-refused c =
    subst (λ (e : ImageError). answer.IsRefused c.args.bytes.now e) (sym c.of_verify_error.ensures)
    (verifier_told c.args.bytes.now c.in_ok-code.code c.in-Err.error c.in_ok-code.ensures.found c.in-Err.ensures.refused.1)

pub returns-in-Err-clause-memory : goal.returns-in-Err-clause-memory
returns-in-Err-clause-memory c = λ h. c.in_ok-code.ensures.header

pub returns-in-Err-clause-rows : goal.returns-in-Err-clause-rows
returns-in-Err-clause-rows c = λ h. inr (c.in_ok-code.code, c.in_ok-code.ensures.found)
