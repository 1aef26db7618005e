use Rattle.std.proofs.lemmas.Result.{err_from_is_err_and}
use Rattle.td_formats.specs.declared.format.Format.TheVariants.{Tcp, Rndis}
use Rattle.td_cli.proofs.Benches.{some_text}
use Rattle.td_cli.proofs.bench.prepare_all.Goals as goal

pub returns-in_err-tcp-clause-cause : goal.returns-in_err-tcp-clause-cause
returns-in_err-tcp-clause-cause c =
    let p = err_from_is_err_and c.from_residual-in_err-tcp.result c.from_residual-in_err-tcp.ensures.1 in
    rw (p.1, p.2) (some_text Tcp c.in_err-tcp.field-0.0 c.in_err-tcp.ensures.cause)

pub returns-in_err-rndis-clause-cause : goal.returns-in_err-rndis-clause-cause
returns-in_err-rndis-clause-cause c =
    let p = err_from_is_err_and c.from_residual-in_err-rndis.result c.from_residual-in_err-rndis.ensures.1 in
    rw (p.1, p.2) (some_text Rndis c.in_err-rndis.field-0.0 c.in_err-rndis.ensures.cause)
