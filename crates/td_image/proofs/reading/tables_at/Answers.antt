use Rattle.std.proofs.Common.{inl, inr}
use Rattle.std.proofs.lemmas.Result.{err_from_is_err_and}
use Rattle.td_image.proofs.reading.tables_at.Goals as goal

pub returns-in_err-names-clause-memory : goal.returns-in_err-names-clause-memory
returns-in_err-names-clause-memory c =
    let p = err_from_is_err_and c.from_residual.result c.from_residual.ensures.1 in
    rw (p.1, p.2) (λ ran. inl (c.in_err-names.ensures.memory ran))

pub returns-in_err-sites-clause-memory : goal.returns-in_err-sites-clause-memory
returns-in_err-sites-clause-memory c =
    let p = err_from_is_err_and c.from_residual-in_err-sites.result c.from_residual-in_err-sites.ensures.1 in
    rw (p.1, p.2) (λ ran. inr (c.in_ok-names.names, c.in_ok-names.rest.now, c.in_ok-names.ensures.read, inl (c.in_err-sites.ensures.memory ran)))

pub returns-in_err-maps-clause-memory : goal.returns-in_err-maps-clause-memory
returns-in_err-maps-clause-memory c =
    let p = err_from_is_err_and c.from_residual-in_err-maps.result c.from_residual-in_err-maps.ensures.1 in
    rw (p.1, p.2) (λ ran. inr (c.in_ok-names.names, c.in_ok-names.rest.now, c.in_ok-names.ensures.read, inr (c.in_ok-sites.sites, c.in_ok-sites.rest.now, c.in_ok-sites.ensures.read, inl (c.in_err-maps.ensures.memory ran))))

pub returns-in_err-sets-clause-memory : goal.returns-in_err-sets-clause-memory
returns-in_err-sets-clause-memory c =
    let p = err_from_is_err_and c.from_residual-in_err-sets.result c.from_residual-in_err-sets.ensures.1 in
    rw (p.1, p.2) (λ ran. inr (c.in_ok-names.names, c.in_ok-names.rest.now, c.in_ok-names.ensures.read, inr (c.in_ok-sites.sites, c.in_ok-sites.rest.now, c.in_ok-sites.ensures.read, inr (c.in_ok-maps.maps, c.in_ok-maps.rest.now, c.in_ok-maps.ensures.read, inl (c.in_err-sets.ensures.memory ran)))))

pub returns-in_err-code-clause-memory : goal.returns-in_err-code-clause-memory
returns-in_err-code-clause-memory c =
    let p = err_from_is_err_and c.from_residual-in_err-code.result c.from_residual-in_err-code.ensures.1 in
    rw (p.1, p.2) (λ ran. inr (c.in_ok-names.names, c.in_ok-names.rest.now, c.in_ok-names.ensures.read, inr (c.in_ok-sites.sites, c.in_ok-sites.rest.now, c.in_ok-sites.ensures.read, inr (c.in_ok-maps.maps, c.in_ok-maps.rest.now, c.in_ok-maps.ensures.read, inr (c.in_ok-sets.sets, c.in_ok-sets.rest.now, c.in_ok-sets.ensures.read, c.in_err-code.ensures.memory ran)))))
