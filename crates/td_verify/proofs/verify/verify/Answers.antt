use Rattle.std.specs.Prelude.{Result, Ok, Err, IfErr}
use Rattle.td_ir.specs.declared.tables.Parts.{Parts}
use Rattle.td_verify.specs.Verify.{IsNamed, IsHandedBack}
use Rattle.td_verify.specs.declared.rule.VerifyError.{VerifyError}
use Rattle.td_verify.specs.declared.rule.VerifyError.TheVariants as error
use Rattle.td_verify.proofs.verify.verify.Goals as goal

-- the answer where there was memory is an answer
named : (c p : Parts) (e : VerifyError) → IsNamed c (p, e) → IsHandedBack c (p, e)
named c p error.NoMemory h = absurd h.1
named c p (error.Breaks b) h = h

answered : (c : Parts) (r : Result Parts (Parts × VerifyError)) → IfErr r (λ x. IsNamed c x) → IfErr r (λ x. IsHandedBack c x)
answered c (Ok v) h = h
answered c (Err x) h = named c x.0 x.1 h

pub returns-in-Ok-clause-refused : goal.returns-in-Ok-clause-refused
returns-in-Ok-clause-refused c = answered c.args.code c.answer.result c.answer.ensures.refused
