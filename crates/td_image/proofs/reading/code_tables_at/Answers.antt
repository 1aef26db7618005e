use Rattle.std.proofs.Common.{inl, inr, ◌≡◌, List, Ok, subst}
use Rattle.std.proofs.lemmas.Result.{err_from_is_err_and}
use Rattle.td_image.specs.Imports.{Routine}
use Rattle.td_image.specs.Format.{times}
use Rattle.td_image.specs.Image.{entry}
use Rattle.td_image.proofs.reading.code_tables_at.Goals as goal

pub returns-in_err-routines-clause-memory : goal.returns-in_err-routines-clause-memory
returns-in_err-routines-clause-memory c =
    let p = err_from_is_err_and c.from_residual.result c.from_residual.ensures.1 in
    rw (p.1, p.2) (λ ran. inl (c.in_err-routines.ensures.memory ran))

pub returns-in_err-entries-clause-memory : goal.returns-in_err-entries-clause-memory
returns-in_err-entries-clause-memory c =
    let p = err_from_is_err_and c.from_residual-in_err-entries.result c.from_residual-in_err-entries.ensures.1 in
    rw (p.1, p.2) (λ ran. inr (c.in_ok-routines.routines, c.in_ok-routines.rest.now, c.in_ok-routines.ensures.read, inl (subst (λ (rs : List Routine). (times c.args.counts.entries (entry c.args.counts.names rs)).RunsOut c.in_ok-routines.rest.now) c.as_slice.ensures (c.in_err-entries.ensures.memory ran))))

pub returns-in_err-instructions-clause-memory : goal.returns-in_err-instructions-clause-memory
returns-in_err-instructions-clause-memory c =
    let p = err_from_is_err_and c.from_residual-in_err-instructions.result c.from_residual-in_err-instructions.ensures.1 in
    rw (p.1, p.2) (λ ran. inr (c.in_ok-routines.routines, c.in_ok-routines.rest.now, c.in_ok-routines.ensures.read, inr (c.in_ok-entries.entries, c.in_ok-entries.rest.now, subst (λ (rs : List Routine). (times c.args.counts.entries (entry c.args.counts.names rs)).read c.in_ok-routines.rest.now ≡ Ok (c.in_ok-entries.entries, c.in_ok-entries.rest.now)) c.as_slice.ensures c.in_ok-entries.ensures.read, c.in_err-instructions.ensures.memory ran)))
