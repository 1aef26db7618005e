use Rattle.std.proofs.Common.{◌≡◌, ℕ, ◌-◌, List}
use Rattle.td_stream.specs.Loads.{Carries}
use Rattle.td_stream.specs.StreamInvariant.{IsStream, Later, loads_of, layout_of, position, end_of}
use Rattle.td_meaning.specs.Meaning.{zeros_meaning}
use Rattle.td_direct.specs.Validates.{Reads}
use Rattle.td_direct.proofs.zeros.validate_zeros.Given as goal

abbrev pub invariant-loop-turn : goal.invariant-loop-turn
invariant-loop-turn g l = record {
  later : Later g.W.Words.loads g.W.Words.reaches l.fn.stream l.stream;
  whole : IsStream g.W.Words.loads g.W.Words.size l.stream;
  end : end_of l.stream ≡ end_of l.fn.stream;
  left : l.count - l.turn ≡ end_of l.stream - position l.stream;
  step : (b cells : List ℕ) → Carries (layout_of l.fn.stream) b (loads_of g.W.Words.loads l.stream) → Reads g.W.Words.loads l.fn.stream l.stream (zeros_meaning b (end_of l.fn.stream) (position l.fn.stream) cells) (zeros_meaning b (end_of l.stream) (position l.stream) cells);
}
