use Rattle.std.proofs.Common.{◌≡◌, ◌*◌, ◌≤◌, length, vec_capacity}
use Rattle.td_chain.specs.Loaded.{Looked}
use Rattle.td_chain.specs.Places.{IsAt, IsOpen}
use Rattle.td_chain.proofs.Walking.{Walked}
use Rattle.td_chain.proofs.walk.walk_chain.Given as goal

abbrev pub invariant-loop-step : goal.invariant-loop-step
invariant-loop-step g l = record {
  looked : Looked g.W.Memory.loads g.W.Memory.reaches (IsOpen l.queue l.regions) (4 * l.step) l.fn.words l.words l.fn.loads l.loads;
  at : IsAt l.queue l.regions (8 * g.W.Memory.size l.words) l.at;
  few : length l.pieces.items ≤ l.step;
  capacity : vec_capacity l.pieces ≡ vec_capacity l.fn.pieces;
  walked : Walked l.queue l.regions l.head l.loads.list l.step l.pieces.items l.at;
}
