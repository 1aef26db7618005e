use Rattle.td_prog_emit.proofs.blocks.push_blocks.Goals as goal
use Rattle.std.proofs.Common.{◌≡◌, ◌≤◌, ◌<◌, ◌+◌, ◌-◌, ℕ, ap, subst, sym, ◌∙◌, arith}
use Rattle.td_ir.specs.Tables.{begin, end_of, lengths_of}
use Rattle.td_prog_emit.proofs.Standing.{all_written, loop_next, step_written}
use Rattle.td_prog_text.specs.Statements.{goes}
use Rattle.td_verify.specs.Verify.{IsIn}

pub loop-pc-preserved : goal.loop-pc-preserved
loop-pc-preserved c =
    let f = c.requires.first in
    let t = c.requires.end in
    let low : c.args.first ≤ c.loop-pc.pc = omega arith in
    let less = c.loop-pc-test.true in
    let from : begin (lengths_of c.args.parts.now) c.args.n ≤ c.loop-pc.pc = omega (arith, f, low) in
    let to : c.loop-pc.pc < end_of c.args.parts.now c.args.n = omega (arith, t, less) in
    let place : IsIn c.args.parts.now c.args.n c.loop-pc.pc = record { routine = c.requires.routine; from = from; to = to } in
    let same : c.args.first + (c.loop-pc.pc - c.args.first) ≡ c.loop-pc.pc = omega (arith, low) in
    let inside : c.loop-pc.pc - c.args.first < c.args.end - c.args.first = omega (arith, low, less) in
    record {
      loop = loop_next c.args.parts.now c.requires.sound c.requires.safe c.args.n c.loop-pc.pc c.instruction_at.result c.shape_of.result c.loop-pc.looped c.looped_after-looped.result place c.instruction_at.ensures c.shape_of.ensures c.loop-pc.invariant.loop c.looped_after-looped.ensures;
      left = λ whole marked.
          step_written c.args.parts.now c.requires.sound c.requires.safe c.args.n whole _ c.loop-pc.out.items c.push_place.new.out.items c.loop-pc.pc _ c.loop-pc.looped c.requires.code place
          (marked (c.loop-pc.pc - c.args.first) (subst (λ (k : ℕ). c.loop-pc.pc - c.args.first < k) (sym c.requires.count) inside) ∙ ap (λ (k : ℕ). goes k whole) same)
          c.loop-pc.invariant.loop (c.in_ok-push_place.ensures {u = tt} whole).on_ok (c.loop-pc.invariant.left whole marked);
    }

pub returns : goal.returns
returns c whole marked = record {
  on_ok = all_written c.args.parts.now c.requires.sound c.requires.safe c.args.n whole c.args.out.now.items c.loop-pc.out.items c.loop-pc.pc c.args.first c.args.end c.requires.code c.requires.routine c.requires.first c.requires.end c.loop-pc-test.false (c.loop-pc.invariant.left whole marked);
}
