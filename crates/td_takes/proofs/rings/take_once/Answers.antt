use Rattle.std.proofs.Common.{◌≡◌, ◌*◌, ◌≤◌, List, ◌++◌, sym, ap, ◌∙◌, subst}
use Rattle.td_stream.specs.declared.load.Load.{Load}
use Rattle.td_descr.specs.declared.next.Look.{Look}
use Rattle.td_descr.specs.Ring.{ReaderView, standing}
use Rattle.td_takes.specs.Takes.{IsAnswer, HasDone, ring_steps, message_steps, loads_of}
use Rattle.td_takes.proofs.Messages.{take_of, answered_by, loads_by, reader_by, three_cells, done_then}
use Rattle.td_takes.proofs.rings.take_once.Goals as goal

pub desc_reply-desc-requires-clause-cells : goal.desc_reply-desc-requires-clause-cells
desc_reply-desc-requires-clause-cells c = three_cells _ _ _ _ c.look_ring-next.ensures.answers

pub returns-clause-ready : goal.returns-clause-ready
returns-clause-ready c =
    let r = c.requires.ready in
    let went = reader_by _ _ _ _ c.look_ring-next.ensures.answers in
    record {
      own = c.message_of-message.ensures.table ∙ (c.look_ring-next.ensures.table ∙ r.own);
      entries = ap (λ (x : ReaderView). x.entries) went ∙ r.entries;
      most = ap (λ (x : ReaderView). x.most) went ∙ r.most;
      few = r.few;
      inside = r.inside;
      bytes = subst (λ n. n ≤ 8 * c.args.validator.now.shared.now.count) (sym (ap (λ (x : ReaderView). x.room) went)) r.bytes;
      armed = c.message_of-message.ensures.armed;
    }

pub returns-clause-descr : goal.returns-clause-descr
returns-clause-descr c = reader_by _ _ _ _ c.look_ring-next.ensures.answers

pub returns-clause-take : goal.returns-clause-take
returns-clause-take c m code =
    let a = c.args in
    let l = c.look_ring-next in
    let d = a.descr.now in
    let answers = answered_by m a.ring.now.job.now.most a.ring.now.number a.number c.message_of-message.result (standing a.ring.now.job.now.entries d.taken l.new.descr.last.head) d l.new.descr l.result c.desc_reply-desc.result c.requires.ready.most code l.ensures.answers c.desc_reply-desc.ensures.kept in
    record {
      answers = subst (λ (x : Look). IsAnswer (standing a.ring.now.job.now.entries d.taken x.head) m d.room a.ring.now.job.now.most d.taken (take_of a.ring.now.number a.number x.head l.result c.desc_reply-desc.result c.message_of-message.result)) (sym c.last.ensures) answers;
      message = c.message_of-message.ensures.message;
      numbered = (c.desc_reply-desc.ensures.number, c.message_of-message.ensures.number);
    }

pub returns-clause-read : goal.returns-clause-read
returns-clause-read c =
    let a = c.args in
    let l = c.look_ring-next in
    let m = c.message_of-message in
    let d = c.desc_reply-desc.result in
    let same : l.new.descr.last.loads ≡ loads_of d = loads_by _ _ _ _ _ l.ensures.answers c.desc_reply-desc.ensures.kept in
    subst (λ (x : Look). HasDone a.seat.now m.new.seat (ring_steps a.ring.now.job.now a.descr.now.taken x.head (loads_of d) ++ message_steps l.result m.result)) (sym c.last.ensures)
    (done_then a.seat.now l.new.seat m.new.seat (ring_steps a.ring.now.job.now a.descr.now.taken l.new.descr.last.head (loads_of d)) (message_steps l.result m.result)
    (subst (λ (x : List Load). HasDone a.seat.now l.new.seat (ring_steps a.ring.now.job.now a.descr.now.taken l.new.descr.last.head x)) same l.ensures.read)
    m.ensures.read)

pub returns-clause-memory : goal.returns-clause-memory
returns-clause-memory c = record { descr = c.desc_reply-desc.ensures.memory; message = c.message_of-message.ensures.memory }
