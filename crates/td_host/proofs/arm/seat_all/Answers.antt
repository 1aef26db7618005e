use Rattle.std.proofs.Common.{ℕ, List, length, map, sym, ap, ◌∙◌, arith, length-append}
use Rattle.td_words.specs.Seats.{HostState}
use Rattle.td_host_actors.specs.declared.actor.Actor.TheVariants as kind
use Rattle.td_host_actors.specs.Acting.{first_frames}
use Rattle.td_host.specs.Gathered.{host_at, reader_frames}
use Rattle.td_host.proofs.TakeMemory.{before_have, pushed}
use Rattle.td_host.proofs.Arms.{arms, makes_all}
use Rattle.td_host.proofs.Bounds.{bounded}
use Rattle.td_host.proofs.Takings.{all_described}
use Rattle.td_host.proofs.arm.seat_all.Goals as goal

pub seat_workers-requires-clause-seat : goal.seat_workers-requires-clause-seat
seat_workers-requires-clause-seat g c =
    c.requires.opened.seat ∙ ap (λ (o : List ℕ). host_at c.args.desk.now.shared.table o 0) (sym (ap (λ (s : HostState). s.view.opened) c.requires.opened.seat))

pub seat_workers-requires-clause-takes : goal.seat_workers-requires-clause-takes
seat_workers-requires-clause-takes g c = c.requires.opened.takes

pub seat_workers-requires-clause-drawer : goal.seat_workers-requires-clause-drawer
seat_workers-requires-clause-drawer g c = c.requires.opened.drawer

pub seat_guests-requires-clause-seat : goal.seat_guests-requires-clause-seat
seat_guests-requires-clause-seat g c =
    let w = c.in_ok-seat_workers.ensures.seated in
    let opened = ap (λ (s : HostState). s.view.opened) c.requires.opened.seat in
    w.is_seat ∙ (λ i. host_at c.args.desk.now.shared.table (opened i) (sym w.as_many i))

pub seat_guests-requires-clause-posts : goal.seat_guests-requires-clause-posts
seat_guests-requires-clause-posts g c = c.in_ok-seat_workers.ensures.posts ∙ c.requires.opened.posts

pub seat_guests-requires-clause-bounded : goal.seat_guests-requires-clause-bounded
seat_guests-requires-clause-bounded g c = bounded c.args.desk.now.job c.requires.servable

pub seat_guests-requires-clause-count : goal.seat_guests-requires-clause-count
seat_guests-requires-clause-count g c = c.requires.opened.count

pub seat_takers-requires-clause-seat : goal.seat_takers-requires-clause-seat
seat_takers-requires-clause-seat g c =
    let w = c.in_ok-seat_guests.ensures.seated in
    w.is_seat ∙ ap (host_at c.args.desk.now.shared.table c.args.desk.now.job.words) (sym (ap length w.are ∙ length-append _ _))

pub seat_takers-requires-clause-count : goal.seat_takers-requires-clause-count
seat_takers-requires-clause-count g c = c.requires.opened.count

pub seat_takers-requires-clause-within : goal.seat_takers-requires-clause-within
seat_takers-requires-clause-within g c = c.requires.servable.rings_inside

pub seat_takers-requires-clause-few : goal.seat_takers-requires-clause-few
seat_takers-requires-clause-few g c = c.requires.servable.few_rings

pub seat_guests-requires-clause-fitting_are_named : goal.seat_guests-requires-clause-fitting_are_named
seat_guests-requires-clause-fitting_are_named g c = c.requires.fitting_are_named

pub returns-clause-armed : goal.returns-clause-armed
returns-clause-armed g c =
    let some = c.requires.servable.some_worker in
    let len = c.in_ok-guest_gates.ensures.len in
    let opened = ap (λ (s : HostState). s.view.opened) c.requires.opened.seat in
    let t = c.in_ok-seat_takers.ensures in
    (c.seat_takers.new.actors.items, c.in_ok-push.ensures.items, arms _ _ _ _ _ _ _ _ _ _ _ _ _ _ _ _ _ _ _ _ _ _ c.in_ok-seat_workers.ensures.seated opened (omega arith) (omega arith) c.in_ok-seat_guests.ensures.seated c.in_ok-seat_guests.ensures.takes c.in_ok-seat_guests.ensures.drawer t.seated t.posts t.takes t.drawer)

pub returns-clause-swap : goal.returns-clause-swap
returns-clause-swap g c =
    let len = c.in_ok-guest_gates.ensures.len in
    makes_all c.args.desk.now.codes _ _ c.args.desk.now.job.workers c.in_ok-seat_workers.ensures.swap (omega arith)

pub returns-clause-described : goal.returns-clause-described
returns-clause-described g c m by =
    all_described m _ _ _ _ _ _ _ _ _ _ _ _ _ _ _ _ _ _ _ c.in_ok-seat_workers.ensures.seated c.in_ok-seat_guests.ensures.seated c.in_ok-seat_takers.ensures.seated by c.in_ok-push.ensures.items

pub returns-clause-take_memory : goal.returns-clause-take_memory
returns-clause-take_memory g c =
    let a = c.args in
    let frames = first_frames a.desk.now.codes.codes in
    let ns = map reader_frames a.descrs.items in
    let before = before_have frames ns a.desk.now.job _ _ _ _ _ _ _ _ _ _ _ _ _ c.in_ok-seat_workers.ensures.seated c.in_ok-seat_guests.ensures.seated in
    pushed frames ns a.desk.now.job c.seat_takers.new.actors.items c.push.new.self.items (kind.Publisher a.publisher) c.in_ok-push.ensures.items (c.in_ok-seat_takers.ensures.memory before) tt
