use Rattle.std.proofs.Common.{◌≡◌, List, ◌∷◌, ◌++◌, length, drop, option_to_list, refl, sym, ap, ◌∙◌, subst, arith}
use Rattle.td_ir.specs.declared.tables.Parts.{Parts}
use Rattle.td_takes.specs.declared.take.TakeRoom.{TakeRoom}
use Rattle.td_takes.specs.Takes.{IsRoom, frames_of}
use Rattle.td_takes.specs.declared.take.Take.{Take}
use Rattle.td_takes.specs.Memory.{KeepRooms}
use Rattle.td_takes.proofs.Running.{begins, goes_on, first_room, no_takes, rooms_push, rooms_left}
use Rattle.td_takes.proofs.rings.run_ring.Goals as goal

pub loop-i-init : goal.loop-i-init
loop-i-init c =
    let a = c.args in
    record {
      running = begins a.validator.now.job.now a.descr.now.code a.descr.now.room a.ring.now.job.now a.ring.now.number a.seat.now a.descr.now a.takes.now.items c.requires.empty c.requires.none;
      ready = c.requires.ready;
      rooms = c.requires.rooms;
      as_many = let n = c.requires.as_many in omega (arith, n);
      space = c.requires.space;
      memory = no_takes a.rooms.now.items a.takes.now.items c.requires.empty;
      left = sym (ap (λ (ts : List Take). drop (length ts) a.rooms.now.items) c.requires.empty);
    }

pub take_once-take-requires-clause-rooms : goal.take_once-take-requires-clause-rooms
take_once-take-requires-clause-rooms c =
    let a = c.args in
    let l = c.loop-i in
    let out : l.rooms.items ≡ c.in-Some.room ∷ c.pop_front.new.self.items = c.pop_front.ensures.items ∙ ap (λ o. option_to_list o ++ c.pop_front.new.self.items) c.in-Some.is in
    let first = first_room a.validator.now.job.now (frames_of a.validator.now.code.now) (frames_of a.descr.now.code) a.ring.now.job.now.most l.rooms.items c.pop_front.new.self.items c.in-Some.room l.invariant.rooms out in
    subst (λ (x : Parts). IsRoom a.validator.now.job.now (frames_of a.validator.now.code.now) (frames_of x) a.ring.now.job.now.most c.in-Some.room) (sym l.invariant.running.code) first.0

pub loop-i-preserved : goal.loop-i-preserved
loop-i-preserved c =
    let a = c.args in
    let l = c.loop-i in
    let v = l.invariant in
    let t = c.take_once-take in
    let out : l.rooms.items ≡ c.in-Some.room ∷ c.pop_front.new.self.items = c.pop_front.ensures.items ∙ ap (λ o. option_to_list o ++ c.pop_front.new.self.items) c.in-Some.is in
    let rest = first_room a.validator.now.job.now (frames_of a.validator.now.code.now) (frames_of a.descr.now.code) a.ring.now.job.now.most l.rooms.items c.pop_front.new.self.items c.in-Some.room v.rooms out in
    let shorter = ap (λ (rs : List TakeRoom). length rs) out in
    record {
      running = goes_on a.validator.now.job.now a.descr.now.code a.descr.now.room a.ring.now.job.now a.ring.now.number l.i a.seat.now l.seat t.new.seat a.descr.now l.descr t.new.descr l.takes.items c.push_reserved.new.self.items t.result
          v.running (t.ensures.ready.own ∙ sym v.ready.own) t.ensures.descr t.ensures.ring t.ensures.number t.ensures.take t.ensures.read refl refl c.push_reserved.ensures.items;
      ready = t.ensures.ready;
      rooms = rest.1;
      as_many = let n = v.as_many in omega (arith, n, shorter);
      space = omega (arith, v.space, c.push_reserved.ensures.capacity);
      memory = subst (KeepRooms a.rooms.now.items) (sym c.push_reserved.ensures.items)
          (rooms_push a.rooms.now.items c.pop_front.new.self.items l.takes.items c.in-Some.room t.result v.memory (sym v.left ∙ out) t.ensures.memory);
      left = rooms_left a.rooms.now.items c.pop_front.new.self.items l.takes.items c.in-Some.room t.result (sym v.left ∙ out) ∙ ap (λ (ts : List Take). drop (length ts) a.rooms.now.items) (sym c.push_reserved.ensures.items);
    }
