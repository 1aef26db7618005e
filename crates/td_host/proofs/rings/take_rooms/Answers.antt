use Rattle.std.proofs.Common.{length, ap, ◌∙◌, subst, sym, arith, length-append}
use Rattle.std.specs.List.{All}
use Rattle.std.proofs.lemmas.List.Elements.{All-nil, All-push}
use Rattle.td_takes.specs.Takes.{AreRooms}
use Rattle.td_host_actors.specs.Acting.{IsTakeRoom}
use Rattle.td_host.proofs.Takers.{rooms_push, no_rooms}
use Rattle.td_host.proofs.rings.take_rooms.Goals as goal

pub loop-take-init : goal.loop-take-init
loop-take-init c =
    let a = c.args in
    record {
      rooms = no_rooms a.job.now a.frames a.desc_frames a.ring.most c.new-rooms.result.items c.new-rooms.ensures.items;
      as_many = ap length c.new-rooms.ensures.items;
      memory = subst (All (IsTakeRoom a.frames a.desc_frames a.job.now)) (sym c.new-rooms.ensures.items) (All-nil (IsTakeRoom a.frames a.desc_frames a.job.now));
    }

pub loop-take-preserved : goal.loop-take-preserved
loop-take-preserved c =
    let a = c.args in
    let l = c.loop-take in
    let more = c.in_ok-push_back.ensures.items in
    let e = ap length more ∙ length-append l.rooms.items _ in
    let many = l.invariant.as_many in
    record {
      rooms = subst (AreRooms a.job.now a.frames a.desc_frames a.ring.most) (sym more) (rooms_push a.job.now a.frames a.desc_frames a.ring.most l.rooms.items c.in_ok-take_room.field-0 l.invariant.rooms c.in_ok-take_room.ensures.room);
      as_many = omega (arith, e, many);
      memory = subst (All (IsTakeRoom a.frames a.desc_frames a.job.now)) (sym more)
          (All-push (IsTakeRoom a.frames a.desc_frames a.job.now) l.rooms.items c.in_ok-take_room.field-0 l.invariant.memory c.in_ok-take_room.ensures.memory);
    }
