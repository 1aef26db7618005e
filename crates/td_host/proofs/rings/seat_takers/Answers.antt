use Rattle.std.proofs.Common.{rules, ◌≡◌, ◌*◌, ◌<◌, List, length, map, refl, sym, ap, ◌∙◌, subst, arith}
use Rattle.std.specs.Prelude.{slice_index_or}
use Rattle.td_posts.specs.declared.ring.RingJob.{RingJob}
use Rattle.td_posts.specs.Servable.{IsRingWithin}
use Rattle.td_descr.specs.Ring.{ReaderView}
use Rattle.std.specs.List.{All}
use Rattle.td_host_actors.specs.declared.actor.Actor.TheVariants as kind
use Rattle.td_host_actors.specs.Acting.{IsTakeRoom, first_frames}
use Rattle.td_host_actors.specs.Actors.{service_at}
use Rattle.td_host.specs.Gathered.{IsReaderOf, reader_frames}
use Rattle.td_host.proofs.TakeMemory.{frames_at, pushed}
use Rattle.td_host.proofs.Arms.{no_taker, one_taker, all_takers}
use Rattle.td_host.proofs.Takers.{dropped, none_left, as_many_readers, reader_at}
use Rattle.td_host.proofs.rings.seat_takers.Goals as goal

abbrev none_ring : RingJob
none_ring = record { base = 0; entries = 0; most = 0; takes = 0 }

pub loop-descr-init : goal.loop-descr-init
loop-descr-init g c =
    let a = c.args in
    let k = a.heads.now in
    let same : c.into_iter-descr-iterator.result.rest.items ≡ a.descrs.items = search rules in
    record {
      ringing = no_taker a.desk.now.shared (service_at a.desk.now) a.desk.now.job a.descrs.items a.actors.now.items k.seat a.actors.now.items refl c.requires.seat;
      rest = sym same;
      counted = let e = ap length same in omega arith;
      few =
          let many = as_many_readers (8 * length a.desk.now.job.words) a.desk.now.job.rings a.descrs.items c.requires.readers in
          let few = c.requires.few in
          omega (arith, many, few);
      posts = refl;
      takes = refl;
      drawer = refl;
      memory = λ rooms. rooms;
    }

pub bounds-as_slice-n : goal.bounds-as_slice-n
bounds-as_slice-n g c =
    let a = c.args in
    let l = c.loop-descr in
    let at = dropped a.descrs.items l.n c.in-Some.descr c.next.new.self.rest.items c.in-Some.descr (l.invariant.rest ∙ c.in-Some.ensures.steps.0) in
    let many = as_many_readers (8 * length a.desk.now.job.words) a.desk.now.job.rings a.descrs.items c.requires.readers in
    let less = at.less in
    let rings : length c.as_slice.result.now ≡ length a.desk.now.job.rings = search rules in
    omega (arith, less, many, rings)

pub taker_for-requires-clause-within : goal.taker_for-requires-clause-within
taker_for-requires-clause-within g c =
    let a = c.args in
    let l = c.loop-descr in
    let rings : List RingJob = a.desk.now.job.rings in
    let at = dropped a.descrs.items l.n c.in-Some.descr c.next.new.self.rest.items c.in-Some.descr (l.invariant.rest ∙ c.in-Some.ensures.steps.0) in
    let many = as_many_readers (8 * length a.desk.now.job.words) rings a.descrs.items c.requires.readers in
    let less = at.less in
    let lt : l.n < length rings = omega (arith, less, many) in
    let ring : RingJob = slice_index_or c.as_slice.result.now l.n none_ring in
    let is : slice_index_or rings l.n none_ring ≡ ring = ap (λ (x : List RingJob). slice_index_or x l.n none_ring) (sym c.as_slice.ensures) in
    subst (IsRingWithin (length a.desk.now.job.words)) is (c.requires.within l.n none_ring lt)

pub taker_for-requires-clause-reader : goal.taker_for-requires-clause-reader
taker_for-requires-clause-reader g c =
    let a = c.args in
    let l = c.loop-descr in
    let rings : List RingJob = a.desk.now.job.rings in
    let at = dropped a.descrs.items l.n c.in-Some.descr c.next.new.self.rest.items c.in-Some.descr (l.invariant.rest ∙ c.in-Some.ensures.steps.0) in
    let many = as_many_readers (8 * length a.desk.now.job.words) rings a.descrs.items c.requires.readers in
    let less = at.less in
    let lt : l.n < length rings = omega (arith, less, many) in
    let ring : RingJob = slice_index_or c.as_slice.result.now l.n none_ring in
    let is : slice_index_or rings l.n none_ring ≡ ring = ap (λ (x : List RingJob). slice_index_or x l.n none_ring) (sym c.as_slice.ensures) in
    subst (λ (x : RingJob × ReaderView). IsReaderOf (8 * length a.desk.now.job.words) x.0 x.1) (λ i. (is i, at.is i)) (reader_at (8 * length a.desk.now.job.words) rings a.descrs.items l.n none_ring c.in-Some.descr c.requires.readers lt)

pub loop-descr-preserved : goal.loop-descr-preserved
loop-descr-preserved g c =
    let a = c.args in
    let l = c.loop-descr in
    let i = l.invariant in
    let rings : List RingJob = a.desk.now.job.rings in
    let at = dropped a.descrs.items l.n c.in-Some.descr c.next.new.self.rest.items c.in-Some.descr (i.rest ∙ c.in-Some.ensures.steps.0) in
    let many = as_many_readers (8 * length a.desk.now.job.words) rings a.descrs.items c.requires.readers in
    let less = at.less in
    let lt : l.n < length rings = omega (arith, less, many) in
    let ring : RingJob = slice_index_or c.as_slice.result.now l.n none_ring in
    let is : slice_index_or rings l.n none_ring ≡ ring = ap (λ (x : List RingJob). slice_index_or x l.n none_ring) (sym c.as_slice.ensures) in
    let t = c.in_ok-taker.ensures in
    let reader = reader_at (8 * length a.desk.now.job.words) rings a.descrs.items l.n none_ring c.in-Some.descr c.requires.readers lt in
    record {
      ringing = one_taker a.desk.now.shared (service_at a.desk.now) a.desk.now.job a.descrs.items a.actors.now.items l.n ring none_ring c.in-Some.descr c.in-Some.descr l.heads.seat c.split_reader-seat.new.host l.actors.items c.push.new.self.items c.in_ok-taker.taker
          i.ringing lt less is at.is t.number t.ring t.descr (ap (λ (x : ReaderView). x.room) (sym at.is) ∙ reader.room) c.split_reader-seat.ensures.host (t.seat ∙ c.split_reader-seat.ensures.seat) t.ready c.in_ok-push.ensures.items;
      rest = sym at.more;
      counted = let e = ap length c.in-Some.ensures.steps.0 in let f = i.counted in omega arith;
      few = i.few;
      posts = i.posts;
      takes = i.takes;
      drawer = i.drawer;
      memory = λ rooms.
          let frames = first_frames a.desk.now.codes.codes in
          let ns = map reader_frames a.descrs.items in
          let here = subst (λ k. All (IsTakeRoom frames k a.desk.now.job) c.in_ok-taker.taker.rooms.items) (sym (frames_at a.descrs.items l.n c.in_ok-taker.taker.number c.in-Some.descr less at.is t.number)) t.memory in
          pushed frames ns a.desk.now.job l.actors.items c.push.new.self.items (kind.Ring c.in_ok-taker.taker) c.in_ok-push.ensures.items (i.memory rooms) here;
    }

pub returns-clause-seated : goal.returns-clause-seated
returns-clause-seated g c =
    let a = c.args in
    let l = c.loop-descr in
    let none : length l.descr-iterator.rest.items ≡ 0 = sym l.descr-iterator.rest.ok.0 ∙ c.in-None.ensures.steps.0 in
    let left = none_left a.descrs.items l.n l.descr-iterator.rest.items l.invariant.rest none in
    let many = as_many_readers (8 * length a.desk.now.job.words) a.desk.now.job.rings a.descrs.items c.requires.readers in
    all_takers a.desk.now.shared (service_at a.desk.now) a.desk.now.job a.descrs.items a.actors.now.items l.n l.heads.seat l.actors.items l.invariant.ringing (omega (arith, left, many)) left

pub returns-clause-memory : goal.returns-clause-memory
returns-clause-memory g c = c.loop-descr.invariant.memory
