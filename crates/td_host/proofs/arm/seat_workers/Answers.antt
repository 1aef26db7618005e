use Rattle.std.proofs.Common.{rules, ◌≡◌, ◌+◌, length, refl, ap, ◌∙◌, arith}
use Rattle.td_swap.specs.Views.{new_view}
use Rattle.td_swap.specs.Seats.{SwapState, swap_state, then_split}
use Rattle.td_host_actors.specs.Actors.{service_at}
use Rattle.td_host.proofs.Arms.{no_worker, one_worker}
use Rattle.td_host.proofs.arm.seat_workers.Goals as goal

pub loop-gate-init : goal.loop-gate-init
loop-gate-init g c =
    let a = c.args in
    let k = a.heads.now in
    let r = c.requires in
    let same : c.into_iter-gate-iterator.result.rest.items ≡ a.gates.items = search rules in
    record {
      n = 0;
      seated = no_worker a.desk.now.shared a.desk.now.ring (service_at a.desk.now) k.seat.view.opened k.seat k.takes k.drawer a.actors.now.items r.empty r.seat r.takes r.drawer;
      counted = let e = ap length same in omega arith;
      posts = refl;
      swap = r.swap;
    }

pub loop-gate-preserved : goal.loop-gate-preserved
loop-gate-preserved g c =
    let a = c.args in
    let l = c.loop-gate in
    let i = l.invariant in
    let r = c.in_ok-frames in
    record {
      n = i.n + 1;
      seated = one_worker a.desk.now.shared a.desk.now.ring (service_at a.desk.now) a.heads.now.seat.view.opened i.n l.heads.seat c.split_reader.new.host l.heads.takes c.split_take.new.pass l.heads.drawer c.split.new.seat l.actors.items c.push.new.self.items
          (record { seat = c.split_reader.result; pass = c.split_take.result; drawer = c.split.result; swap = c.split-own.result; frames = r.frames; replies = r.replies; gate = c.in-Some.gate }) i.seated
          c.split_reader.ensures.host c.split_reader.ensures.seat c.split_take.ensures.kept c.split_take.ensures.given c.split.ensures.kept c.split.ensures.given (c.split-own.ensures.given ∙ ap (λ (s : SwapState). swap_state s.table (new_view s.view.count)) i.swap) r.ensures.armed r.ensures.none r.ensures.room c.in_ok-push.ensures.items;
      counted = let e = ap length c.in-Some.ensures.steps.0 in let f = i.counted in omega arith;
      posts = i.posts;
      swap = c.split-own.ensures.made ∙ ap then_split i.swap;
    }
