use Rattle.std.proofs.Common.{ℕ, List, length, sym, ap, ◌∙◌, subst, arith}
use Rattle.std.specs.Prelude.{slice_index_or}
use Rattle.std.proofs.lemmas.List.{length-map}
use Rattle.td_vm.specs.Frames.{FrameView}
use Rattle.td_swap.specs.declared.version.Version.{Version}
use Rattle.td_swap.specs.Versions.{version_code}
use Rattle.td_takes.specs.Takes.{AreRooms}
use Rattle.std.specs.List.{All}
use Rattle.td_host_actors.specs.Acting.{IsTakeRoom}
use Rattle.td_host_actors.proofs.Versions.{version_at}
use Rattle.td_host.proofs.TakeMemory.{first_is}
use Rattle.td_host.proofs.rings.taker_for.Goals as goal

pub bounds-versions-0 : goal.bounds-versions-0
bounds-versions-0 g c =
    let vs : List Version = c.versions-versions.result.now in
    let n = length-map vs version_code in
    let m = ap length c.versions-versions.ensures.codes in
    let some = c.requires.some in
    omega (arith, n, m, some)

pub returns-in-Ok-rooms_and_takes-clause-ready : goal.returns-in-Ok-rooms_and_takes-clause-ready
returns-in-Ok-rooms_and_takes-clause-ready g c =
    let a = c.args in
    let desk = a.desk.now in
    let vs : List Version = c.versions-versions.result.now in
    let v : Version = c.index-versions-0.result in
    let n = length-map vs version_code in
    let m = ap length c.versions-versions.ensures.codes in
    let some = c.requires.some in
    let first = version_at vs desk.codes.codes 0 v c.versions-versions.ensures.codes (omega (arith, n, m, some)) in
    let r = c.requires.reader in
    let within = c.requires.within.inside in
    let frames = c.trace_room-frames.ensures ∙ c.in-Ok.ensures.armed.trace_room in
    let desc_frames = c.trace_room-desc_frames.ensures ∙ (ap (λ (f : FrameView). f.trace_room) c.frame.ensures.frame ∙ c.frame.ensures.armed.trace_room) in
    record {
      own = c.requires.own;
      entries = r.entries;
      most = r.most;
      few = c.requires.within.few_entries;
      inside = omega (arith, within, c.requires.count);
      bytes = omega (arith, r.room, c.requires.count);
      none = r.none;
      code = (slice_index_or vs 0 v).code;
      first = first;
      armed = c.in-Ok.ensures.armed;
      rooms = subst (λ (x : ℕ × ℕ). AreRooms desk.job x.0 x.1 a.ring.most c.in-Ok-rooms_and_takes.rooms.items) (λ i. (frames i, desc_frames i)) c.in-Ok-rooms_and_takes.ensures.rooms;
      as_many = c.in-Ok-rooms_and_takes.ensures.as_many;
      empty = c.in-Ok-rooms_and_takes.ensures.empty;
      space = c.in-Ok-rooms_and_takes.ensures.space;
    }

pub returns-in-Ok-rooms_and_takes-clause-memory : goal.returns-in-Ok-rooms_and_takes-clause-memory
returns-in-Ok-rooms_and_takes-clause-memory g c =
    let a = c.args in
    let desk = a.desk.now in
    let vs : List Version = c.versions-versions.result.now in
    let v : Version = c.index-versions-0.result in
    let n = length-map vs version_code in
    let m = ap length c.versions-versions.ensures.codes in
    let some = c.requires.some in
    let first = version_at vs desk.codes.codes 0 v c.versions-versions.ensures.codes (omega (arith, n, m, some)) in
    let frames = c.trace_room-frames.ensures ∙ (c.in-Ok.ensures.armed.trace_room ∙ sym (first_is desk.codes.codes (slice_index_or vs 0 v).code first)) in
    let desc_frames = c.trace_room-desc_frames.ensures ∙ (ap (λ (f : FrameView). f.trace_room) c.frame.ensures.frame ∙ c.frame.ensures.armed.trace_room) in
    subst (λ (x : ℕ × ℕ). All (IsTakeRoom x.0 x.1 desk.job) c.in-Ok-rooms_and_takes.rooms.items) (λ i. (frames i, desc_frames i)) c.in-Ok-rooms_and_takes.ensures.memory
