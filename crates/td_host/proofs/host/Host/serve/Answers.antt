use Rattle.std.proofs.Common.{rules, ◌≡◌, Some}
use Rattle.std.specs.List.{All}
use Rattle.td_host_actors.specs.Acting.{first_frames}
use Rattle.td_host.specs.Gathered.{IsDescribedBy, HasTakeRooms}
use Rattle.td_host.proofs.Hosting.{there}
use Rattle.td_host.proofs.host.Host.serve.Goals as goal

pub returns-clause-served : goal.returns-clause-served
returns-clause-served g c m described =
    let e = c.serve_all-finished.ensures in
    let is : c.args.self.now.crew ≡ Some c.in-Some.crew = search rules in
    (e.own.0, e.own.1, e.versions_own.0, e.versions_own.1, e.served m (there (λ k. All (IsDescribedBy m) k.actors.items) c.args.self.now.crew c.in-Some.crew is described))

pub returns-clause-memory : goal.returns-clause-memory
returns-clause-memory g c = c.serve_all-finished.ensures.memory

pub returns-clause-take_memory : goal.returns-clause-take_memory
returns-clause-take_memory g c ns has =
    let desk = c.args.self.now.desk in
    let is : c.args.self.now.crew ≡ Some c.in-Some.crew = search rules in
    c.serve_all-finished.ensures.take_memory ns (there (λ k. All (HasTakeRooms (first_frames desk.codes.codes) ns desk.job) k.actors.items) c.args.self.now.crew c.in-Some.crew is has)
