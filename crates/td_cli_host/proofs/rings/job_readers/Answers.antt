use Rattle.std.proofs.Common.{◌≡◌, ◌*◌, ◌<◌, List, [], length, sym, ◌∙◌, subst}
use Rattle.std.proofs.lemmas.Bool.{eqb-true, eqb-false}
use Rattle.std.proofs.lemmas.List.{nil_from_length}
use Rattle.std.proofs.lemmas.List.Elements.{All-nil}
use Rattle.std.specs.List.{All}
use Rattle.td_num.proofs.Lists.{got}
use Rattle.td_posts.specs.declared.ring.RingJob.{RingJob}
use Rattle.td_descr.specs.Ring.{ReaderView}
use Rattle.td_host.specs.Gathered.{IsReaderBy}
use Rattle.td_cli_host.proofs.Ringed.{no_readers, ring_of_none, ring_of_some, some_listed}
use Rattle.td_cli_host.proofs.rings.job_readers.Goals as goal

pub returns-then-is_empty-clause-readers : goal.returns-then-is_empty-clause-readers
returns-then-is_empty-clause-readers c =
    let job = c.args.job.now in
    let none : job.rings ≡ [] = sym c.as_slice-rings.ensures ∙ nil_from_length c.as_slice-rings.result.now (eqb-true _ _ (sym c.is_empty.ensures ∙ c.if-is_empty.true)) in
    no_readers (8 * length job.words) job.rings c.new.result.items none c.new.ensures.items

pub returns-then-is_empty-clause-by : goal.returns-then-is_empty-clause-by
returns-then-is_empty-clause-by c =
    let job = c.args.job.now in
    let none : job.rings ≡ [] = sym c.as_slice-rings.ensures ∙ nil_from_length c.as_slice-rings.result.now (eqb-true _ _ (sym c.is_empty.ensures ∙ c.if-is_empty.true)) in
    let first = got job.formats 0 c.requires.some_version in
    (first.0, ring_of_none job.rings first.0 none, subst (λ (ds : List ReaderView). All (IsReaderBy first.0) ds) (sym c.new.ensures.items) (All-nil (IsReaderBy first.0)))

pub returns-clause-by : goal.returns-clause-by
returns-clause-by c =
    let job = c.args.job.now in
    let rings : List RingJob = job.rings in
    let listed : 0 < length c.as_slice-rings.result.now = some_listed c.as_slice-rings.result.now (eqb-false _ _ (sym c.is_empty.ensures ∙ c.if-is_empty.false)) in
    let some : 0 < length rings = subst (λ (rs : List RingJob). 0 < length rs) c.as_slice-rings.ensures listed in
    (c.in_ok-module.«module», ring_of_some rings c.in_ok-module.«module» some c.in_ok-module.ensures.«module», c.in-Ok.ensures.by)
