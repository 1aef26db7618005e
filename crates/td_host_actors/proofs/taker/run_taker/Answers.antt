use Rattle.std.proofs.Common.{List, length, sym, ap, subst, arith}
use Rattle.std.proofs.lemmas.List.{length-map}
use Rattle.std.proofs.lemmas.Option.{slice_get_within}
use Rattle.td_ir.specs.declared.tables.Parts.{Parts}
use Rattle.td_vm.specs.Frames.{IsArmed}
use Rattle.td_swap.specs.declared.version.Version.{Version}
use Rattle.td_swap.specs.Versions.{version_code}
use Rattle.td_takes.specs.Codes.{IsMessageCode}
use Rattle.td_takes.specs.Takes.{AreRooms, frames_of}
use Rattle.td_host_actors.proofs.Versions.{message_code, first_code}
use Rattle.td_host_actors.proofs.taker.run_taker.Goals as goal

pub bounds-versions-0 : goal.bounds-versions-0
bounds-versions-0 g c =
    let vs : List Version = c.versions-versions.result.now in
    let n = length-map vs version_code in
    let m = ap length c.versions-versions.ensures.codes in
    let inside = slice_get_within c.args.desk.now.codes.codes 0 c.requires.ready.code c.requires.ready.first in
    omega (arith, n, m, inside)

pub run_ring-requires-clause-code : goal.run_ring-requires-clause-code
run_ring-requires-clause-code g c =
    let r = c.requires.ready in
    let cs : List Parts = c.args.desk.now.codes.codes in
    let is = first_code c.versions-versions.result.now cs r.code c.index-versions-0.result c.versions-versions.ensures.codes r.first in
    subst (λ (x : Parts). IsMessageCode x c.args.desk.now.job) (sym is) (message_code cs c.args.desk.now.job r.code c.requires.code r.first)

pub run_ring-requires-clause-ready : goal.run_ring-requires-clause-ready
run_ring-requires-clause-ready g c =
    let r = c.requires.ready in
    let is = first_code c.versions-versions.result.now c.args.desk.now.codes.codes r.code c.index-versions-0.result c.versions-versions.ensures.codes r.first in
    record {
      own = r.own;
      entries = r.entries;
      most = r.most;
      few = r.few;
      inside = r.inside;
      bytes = r.bytes;
      armed = subst (λ (x : Parts). IsArmed x c.args.taker.now.frame) (sym is) r.armed;
    }

pub run_ring-requires-clause-rooms : goal.run_ring-requires-clause-rooms
run_ring-requires-clause-rooms g c =
    let r = c.requires.ready in
    let t = c.args.taker.now in
    let is = first_code c.versions-versions.result.now c.args.desk.now.codes.codes r.code c.index-versions-0.result c.versions-versions.ensures.codes r.first in
    subst (λ (x : Parts). AreRooms c.args.desk.now.job (frames_of x) (frames_of t.descr.code) t.ring.most t.rooms.items) (sym is) r.rooms
