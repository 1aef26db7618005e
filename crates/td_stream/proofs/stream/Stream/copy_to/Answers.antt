use Rattle.std.proofs.Common.{◌+◌, refl, sym, ◌∙◌, subst, arith}
use Rattle.td_stream.specs.Loads.{Carries}
use Rattle.td_stream.specs.StreamInvariant.{position}
use Rattle.td_stream.proofs.Places.{look_join}
use Rattle.td_stream.proofs.Copied.{bytes_more}
use Rattle.td_stream.proofs.stream.Stream.copy_to.Goals as goal
use Rattle.td_stream.proofs.Stages.{later_trans}

pub bytes-preserved : goal.bytes-preserved
bytes-preserved g c =
    let i = c.bytes.invariant in
    let e = c.copy_next-done.ensures in
    let o = e.moves in
    let r = c.args.self.now in
    let s = c.bytes.self in
    let t = c.copy_next-done.new.self in
    let p = position r in
    let k = c.bytes.done in
    let m = c.copy_next-done.result in
    record {
      later = later_trans g.met.W.Words.reaches_on r s t i.later o.later;
      whole = o.whole;
      end = o.ends ∙ i.end;
      reached = omega (arith, e.most, i.reached);
      pos = omega (arith, i.pos, o.at);
      looked = look_join r s t p (position s) k m (k + m) i.looked o.looked i.pos refl;
      room = e.room ∙ i.room;
      count = omega (arith, e.count, i.count);
      held = λ b h.
          let later = subst (λ n. Carries n b (g.W.Words.loads t.words.now)) (sym i.later.layout) h in
          let before = subst (λ n. Carries n b (g.W.Words.loads s.words.now)) i.later.layout (o.later.earlier b later) in
          bytes_more b p k m (position s) c.bytes.buffer.held c.copy_next-done.new.buffer.held (i.held b before) i.pos (e.held b later);
    }
