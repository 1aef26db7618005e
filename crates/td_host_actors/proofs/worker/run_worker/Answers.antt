use Rattle.std.proofs.Common.{rules, ◌<◌, ◌≤◌, length, vec_capacity, List, refl, sym, ap, ◌∙◌, subst, arith}
use Rattle.std.specs.List.{All}
use Rattle.std.proofs.lemmas.List.Elements.{All-nil, All-push}
use Rattle.td_host_actors.specs.Acting.{AreArmed, IsInRoom, most_frames, RanWorker}
use Rattle.td_ring.specs.Ring.{PassState}
use Rattle.td_ring.specs.Tickets.{DrawerState}
use Rattle.td_posts.specs.declared.mail.Mail.{Mail}
use Rattle.td_posts.specs.declared.reply.Reply.{Reply}
use Rattle.td_vm.specs.Frames.{FrameView}
use Rattle.td_swap.specs.Seats.{IsOwn}
use Rattle.td_live.specs.Live.{HasLoaded}
use Rattle.td_host_actors.specs.Replies.{layout_in}
use Rattle.td_num.proofs.Lists.{lent}
use Rattle.td_host_actors.proofs.Works.{begins, answers, ends_drawn, ends_full, in_room}
use Rattle.td_host_actors.proofs.worker.run_worker.Goals as goal

pub loop-seat-init : goal.loop-seat-init
loop-seat-init g c =
    let w = c.args.worker.now in
    let mails : List Mail = c.as_slice-mails.result.now in
    record {
      seat = refl;
      pass = refl;
      drawer = refl;
      swap = c.requires.own.3;
      armed = subst (λ (fs : List FrameView). AreArmed c.args.desk.now.codes.codes fs) (sym c.as_mut_slice-frames.ensures.value) c.requires.armed;
      room = subst (λ (ms : List Mail). length ms ≤ vec_capacity w.replies) (sym c.as_slice-mails.ensures.value) c.requires.room;
      memory = subst (All (IsInRoom c.args.desk.now.codes.codes c.args.desk.now.job)) (sym c.requires.empty) (All-nil (IsInRoom c.args.desk.now.codes.codes c.args.desk.now.job));
      done = begins c.args.desk.now.job (length mails) w.seat w.pass w.drawer w.swap w.replies.items c.requires.empty;
    }

pub returns-then-draw-count-clause-ran : goal.returns-then-draw-count-clause-ran
returns-then-draw-count-clause-ran g c =
    let w = c.args.worker.now in
    let mails : List Mail = c.as_slice-mails.result.now in
    let l = c.loop-seat in
    let enough : length mails ≤ c.draw.result = search rules in
    subst (λ (ms : List Mail). RanWorker c.args.desk.now.job (length ms) w.seat l.seat w.pass l.pass w.drawer c.draw.new.seat w.swap l.swap l.replies.items) c.as_slice-mails.ensures.value
    (ends_drawn c.args.desk.now.job (length mails) w.seat l.seat w.pass l.pass w.drawer l.drawer w.swap l.swap l.replies.items l.invariant.done c.draw.new.seat c.draw.result c.draw.ensures enough)

pub loop-seat-preserved : goal.loop-seat-preserved
loop-seat-preserved g c =
    let w = c.args.worker.now in
    let job = c.args.desk.now.job in
    let mails : List Mail = c.as_slice-mails.result.now in
    let l = c.loop-seat in
    let i = l.invariant in
    let r = c.answer_now-reply.result in
    let e = c.answer_now-reply.ensures in
    let less : c.draw.result < length mails = search rules in
    let free : length l.replies.items < length mails = search rules in
    let In : Reply → Type 0 = IsInRoom c.args.desk.now.codes.codes job in
    let kept : In r = in_room (most_frames c.args.desk.now.codes.codes) job.cells job.rooms c.take-post.result.room r e.memory (c.requires.named_fit c.take-post.result c.take-post.ensures.named).memory in
    let read = subst (λ (ms : List Mail). HasLoaded (layout_in ms r) l.seat c.answer_now-reply.new.seat r.loads.list) c.requires.mails e.read in
    record {
      seat = e.table ∙ i.seat;
      pass = ap (λ (h : PassState). h.queue) c.take-post.ensures.pass ∙ i.pass;
      drawer = ap (λ (d : DrawerState). d.table) c.draw.ensures ∙ i.drawer;
      swap = subst (IsOwn c.args.desk.now.codes) (sym e.swap) i.swap;
      armed = e.armed;
      room = omega (arith, i.room, c.push_reserved.ensures.capacity);
      memory = subst (All In) (sym c.push_reserved.ensures.items) (All-push In l.replies.items r i.memory kept);
      done = answers job (length mails) w.seat l.seat w.pass l.pass w.drawer l.drawer w.swap l.swap l.replies.items i.done c.answer_now-reply.new.seat c.take-post.new.pass c.draw.new.seat c.answer_now-reply.new.swap c.draw.result c.take-post.result r c.push_reserved.new.self.items
          c.draw.ensures less c.take-post.ensures.pass e.name e.answered read e.swap free c.push_reserved.ensures.items;
    }

pub returns-clause-ran : goal.returns-clause-ran
returns-clause-ran g c =
    let w = c.args.worker.now in
    let mails : List Mail = c.as_slice-mails.result.now in
    let l = c.loop-seat in
    let full : length mails ≤ length l.replies.items = search rules in
    subst (λ (ms : List Mail). RanWorker c.args.desk.now.job (length ms) w.seat l.seat w.pass l.pass w.drawer l.drawer w.swap l.swap l.replies.items) c.as_slice-mails.ensures.value
    (ends_full c.args.desk.now.job (length mails) w.seat l.seat w.pass l.pass w.drawer l.drawer w.swap l.swap l.replies.items l.invariant.done full)

-- the frames, which were lent as a slice, are armed as they were
pub returns-then-draw-count-clause-armed : goal.returns-then-draw-count-clause-armed
returns-then-draw-count-clause-armed g c =
    let w = c.args.worker.now in
    let l = c.loop-seat in
    let codes = c.args.desk.now.codes.codes in
    let many = l.invariant.armed.as_many ∙ (sym c.requires.armed.as_many ∙ (ap (λ (fs : List FrameView). length fs) (sym c.as_mut_slice-frames.ensures.value) ∙ c.as_mut_slice-frames.ensures.len)) in
    subst (λ (fs : List FrameView). AreArmed codes fs) (sym (lent w.frames.len l.frames w.frames.items many)) l.invariant.armed

pub returns-clause-armed : goal.returns-clause-armed
returns-clause-armed g c =
    let w = c.args.worker.now in
    let l = c.loop-seat in
    let codes = c.args.desk.now.codes.codes in
    let many = l.invariant.armed.as_many ∙ (sym c.requires.armed.as_many ∙ (ap (λ (fs : List FrameView). length fs) (sym c.as_mut_slice-frames.ensures.value) ∙ c.as_mut_slice-frames.ensures.len)) in
    subst (λ (fs : List FrameView). AreArmed codes fs) (sym (lent w.frames.len l.frames w.frames.items many)) l.invariant.armed
