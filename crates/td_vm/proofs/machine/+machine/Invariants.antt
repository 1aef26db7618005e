use Rattle.std.proofs.Common.{◌≡◌, ℕ, suc, ◌+◌, ◌-◌, ◌*◌, ◌<◌, ◌≤◌, true}
use Rattle.td_ir.specs.Tables.{first_of, end_of as end_at}
use Rattle.td_ir.specs.State.{State, Exit, after}
use Rattle.td_ir.specs.Run.{turns, block}
use Rattle.td_verify.specs.Shape.{shapes_of}
use Rattle.td_verify.specs.Brackets.{opened, window_bytes}
use Rattle.td_verify.specs.Verify.{IsIn}
use Rattle.td_verify.specs.Safe.{looped}
use Rattle.td_stream.specs.StreamInvariant.{IsStream, Later, position, end_of}
use Rattle.td_vm_step.specs.Stepping.{state_of, Ran, InWindow, IsLent, Hold}
use Rattle.td_verify_runs.specs.Stretches.{Idle}
use Rattle.td_vm.specs.Machine.{HasRoom, IsKept}
use Rattle.td_vm.proofs.machine.+machine.Given as goal

abbrev pub decreases-run_block : goal.decreases-run_block
decreases-run_block g l = 2 * (first_of l.stretch.now.level.now.code.parts.now l.stretch.now.level.now.n + (end_at l.stretch.now.level.now.code.parts.now l.stretch.now.level.now.n - l.stretch.now.first))

abbrev pub decreases-call : goal.decreases-call
decreases-call g l = 2 * end_at l.level.now.code.parts.now l.callee.routine + 1

abbrev pub decreases-run_turns : goal.decreases-run_turns
decreases-run_turns g l = 2 * (first_of l.stretch.now.level.now.code.parts.now l.stretch.now.level.now.n + (end_at l.stretch.now.level.now.code.parts.now l.stretch.now.level.now.n - l.stretch.now.first)) - 1

abbrev pub invariant-run_block-steps : goal.invariant-run_block-steps
invariant-run_block-steps g l = record {
  room : HasRoom l.stretch.level.now l.spare l.regs l.slate;
  lent : IsLent l.fn.slate l.slate;
  held : Hold g.W.Words.loads l.fn.stream l.stream l.stretch.level.now.first l.fn.slate l.slate;
  kept : IsKept l.fn.spare l.spare;
  place : IsIn l.stretch.level.now.code.parts.now l.stretch.level.now.n l.pc;
  on : l.stretch.first ≤ l.pc;
  under : l.pc < l.stretch.to;
  later : Later g.W.Words.loads g.W.Words.reaches l.fn.stream l.stream;
  whole : IsStream g.W.Words.loads g.W.Words.size l.stream;
  window : InWindow l.act l.stream;
  outer : l.act.outer ≤ l.fn.act.outer;
  kind : looped l.stretch.level.now.code.parts.now l.pc ≡ looped l.stretch.level.now.code.parts.now l.stretch.first;
  fixed : looped l.stretch.level.now.code.parts.now l.stretch.first ≡ true → opened (shapes_of l.stretch.level.now.code.parts.now) l.pc ≡ opened (shapes_of l.stretch.level.now.code.parts.now) l.stretch.first;
  end : looped l.stretch.level.now.code.parts.now l.stretch.first ≡ true → end_of l.stream ≡ end_of l.fn.stream;
  narrow : position l.fn.stream + window_bytes (opened (shapes_of l.stretch.level.now.code.parts.now) l.pc) ≤ end_of l.stream;
  idle : position l.fn.stream ≡ position l.stream → Idle l.stretch.level.now.code.parts.now l.stretch.level.now.n l.stretch.first l.pc;
  same : Ran g.W.Words.loads l.fn.stream l.stream l.fn.steps l.steps (λ b touched taken. block l.stretch.level.now.code.parts.now b l.stretch.level.now.n l.stretch.level.now.places.now l.stretch.first (state_of l.fn.regs l.fn.slate.cells.now l.fn.act l.fn.stream) ≡ after touched taken (block l.stretch.level.now.code.parts.now b l.stretch.level.now.n l.stretch.level.now.places.now l.pc (state_of l.regs l.slate.cells.now l.act l.stream)));
}

abbrev pub decreases-run_block-steps : goal.decreases-run_block-steps
decreases-run_block-steps g l = l.stretch.to - l.pc

abbrev pub invariant-run_turns-turns : goal.invariant-run_turns-turns
invariant-run_turns-turns g l = record {
  room : HasRoom l.stretch.level.now l.spare l.regs l.slate;
  lent : IsLent l.fn.slate l.slate;
  held : Hold g.W.Words.loads l.fn.stream l.stream l.stretch.level.now.first l.fn.slate l.slate;
  kept : IsKept l.fn.spare l.spare;
  later : Later g.W.Words.loads g.W.Words.reaches l.fn.stream l.stream;
  whole : IsStream g.W.Words.loads g.W.Words.size l.stream;
  window : InWindow l.act l.stream;
  outer : l.act.outer ≤ l.fn.act.outer;
  end : end_of l.stream ≡ end_of l.fn.stream;
  same : (k : ℕ) × (end_of l.stream - position l.stream < k) × (Ran g.W.Words.loads l.fn.stream l.stream l.fn.steps l.steps (λ b touched taken. (behind : State → Exit) → turns (suc (end_of l.fn.stream - position l.fn.stream)) (block l.stretch.level.now.code.parts.now b l.stretch.level.now.n l.stretch.level.now.places.now (l.stretch.first + 1)) behind (state_of l.fn.regs l.fn.slate.cells.now l.fn.act l.fn.stream) ≡ after touched taken (turns k (block l.stretch.level.now.code.parts.now b l.stretch.level.now.n l.stretch.level.now.places.now (l.stretch.first + 1)) behind (state_of l.regs l.slate.cells.now l.act l.stream))));
}

abbrev pub decreases-run_turns-turns : goal.decreases-run_turns-turns
decreases-run_turns-turns g l = end_of l.stream - position l.stream
