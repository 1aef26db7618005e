use Rattle.std.proofs.Common.{◌+◌, List, [], ◌∷◌, ◌++◌, get_or, take, refl, sym, subst}
use Rattle.std.specs.List.{All}
use Rattle.std.proofs.lemmas.List.{take_more, take_all}
use Rattle.std.proofs.lemmas.List.Elements.{All-nil, All-cons, All-append}
use Rattle.td_posts.specs.declared.ring.RingJob.{RingJob}
use Rattle.td_descr.specs.Ring.{ReaderView}
use Rattle.td_host.specs.Gathered.{IsReaderOf, AreReadersOf, IsReaderBy}
use Rattle.td_cli_host.proofs.Ringed.{no_readers, readers_more}
use Rattle.td_cli_host.proofs.rings.readers_of.Goals as goal

pub loop-ring-init : goal.loop-ring-init
loop-ring-init c = record {
  readers = no_readers c.args.room [] c.new-descrs.result.items refl c.new-descrs.ensures.items;
  by = subst (λ (ds : List ReaderView). All (IsReaderBy c.args.m.now) ds) (sym c.new-descrs.ensures.items) (All-nil (IsReaderBy c.args.m.now));
}

pub loop-ring-preserved : goal.loop-ring-preserved
loop-ring-preserved c =
    let l = c.loop-ring in
    let rings : List RingJob = c.args.rings.now in
    let r : RingJob = record { base = 0; entries = 0; most = 0; takes = 0 } in
    let d : ReaderView = c.in_ok-descr.descr in
    let one : IsReaderOf c.args.room (get_or rings l.ring-index r) d = c.in_ok-descr.ensures.reads in
    let more = readers_more c.args.room (take l.ring-index rings) l.descrs.items (get_or rings l.ring-index r) d l.invariant.readers one in
    let placed = subst (λ (rs : List RingJob). AreReadersOf c.args.room rs (l.descrs.items ++ d ∷ [])) (sym (take_more rings l.ring-index r c.loop-ring-test.true)) more in
    let by = All-append (IsReaderBy c.args.m.now) l.descrs.items (d ∷ []) l.invariant.by (All-cons (IsReaderBy c.args.m.now) d [] c.in_ok-descr.ensures.by (All-nil (IsReaderBy c.args.m.now))) in
    record {
      readers = subst (λ (ds : List ReaderView). AreReadersOf c.args.room (take (l.ring-index + 1) rings) ds) (sym c.in_ok-push.ensures.items) placed;
      by = subst (λ (ds : List ReaderView). All (IsReaderBy c.args.m.now) ds) (sym c.in_ok-push.ensures.items) by;
    }

pub returns-clause-readers : goal.returns-clause-readers
returns-clause-readers c =
    let l = c.loop-ring in
    subst (λ (rs : List RingJob). AreReadersOf c.args.room rs l.descrs.items) (take_all l.ring-index c.args.rings.now c.loop-ring-test.false) l.invariant.readers
