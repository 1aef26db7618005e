use Rattle.std.proofs.Common.{◌≡◌, List, ◌++◌, Option, Some, refl, sym, ap, ◌∙◌, subst}
use Rattle.td_core.specs.declared.outcome.Verdict.{Verdict}
use Rattle.td_stream.specs.declared.load.Load.{Load}
use Rattle.td_stream.specs.Copies.{BufferView, held_by}
use Rattle.td_stream.specs.Room.{LoadsView}
use Rattle.td_vm.specs.Frames.{FrameView}
use Rattle.td_descr.specs.declared.next.Look.{Look}
use Rattle.td_descr.specs.Ring.{frame_outcome}
use Rattle.td_takes.specs.Kept.{KeptBy}
use Rattle.td_takes.proofs.rings.desc_reply.Goals as goal

pub returns-in-Some-clause-kept : goal.returns-in-Some-clause-kept
returns-in-Some-clause-kept c =
    let d = c.args.descr.now in
    let r = c.reply_of in
    let verdict : d.last.verdict ≡ Some c.in-Some.verdict = sym (ap (λ (x : Look). x.verdict) c.last-last.ensures) ∙ c.in-Some.is in
    subst (λ (v : Option Verdict). KeptBy v d.last d.frame (Some r.result)) (sym verdict) (
      r.result,
      refl,
      record {
        guest = r.ensures.guest;
        version = r.ensures.version;
        layout = r.ensures.layout;
        outcome =
            r.ensures.outcome
            ∙ ap (λ (x : List BufferView). record { verdict = c.in-Some.verdict; trace = c.frame.result.now.trace; cells = c.frame.result.now.cells; copies = held_by x }) c.requires.room.2
            ∙ ap (λ (x : FrameView). frame_outcome x c.in-Some.verdict) c.frame.ensures.frame;
        loads = ap (λ (x : LoadsView). x.list) r.ensures.loads ∙ (c.put.ensures.list ∙ (ap (λ (l : List Load). l ++ c.last-last.result.now.loads) c.requires.room.0.empty ∙ ap (λ (x : Look). x.loads) c.last-last.ensures));
      },
    )

pub returns-in-Some-clause-memory : goal.returns-in-Some-clause-memory
returns-in-Some-clause-memory c =
    let m = c.reply_of.ensures.memory in
    record { trace = m.trace; cells = m.cells; buffers = m.buffers; rooms = m.rooms }
