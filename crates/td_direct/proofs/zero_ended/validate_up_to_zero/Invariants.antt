use Rattle.std.proofs.Common.{◌≡◌, ℕ, ◌-◌, ◌*◌, ◌≤◌, List, min}
use Rattle.td_num.specs.Numbers.{bytes_in}
use Rattle.td_stream.specs.Loads.{Carries}
use Rattle.td_stream.specs.StreamInvariant.{IsStream, Later, loads_of, layout_of, position, end_of}
use Rattle.td_meaning.proofs.Zeros.{zero_turns}
use Rattle.td_direct.specs.Validates.{Reads}
use Rattle.td_direct.proofs.zero_ended.validate_up_to_zero.Given as goal

abbrev pub invariant-loop-turn : goal.invariant-loop-turn
invariant-loop-turn g l = record {
  later : Later g.W.Words.loads g.W.Words.reaches l.fn.stream l.stream;
  whole : IsStream g.W.Words.loads g.W.Words.size l.stream;
  end : end_of l.stream ≡ end_of l.fn.stream;
  left : (min l.bound l.room - l.turn) * bytes_in l.number_type.width ≤ end_of l.stream - position l.stream;
  step : (b cells : List ℕ) → Carries (layout_of l.fn.stream) b (loads_of g.W.Words.loads l.stream) → Reads g.W.Words.loads l.fn.stream l.stream (zero_turns l.number_type b l.reason (position l.fn.stream) (min l.bound l.room) (position l.fn.stream) cells) (zero_turns l.number_type b l.reason (position l.fn.stream) (min l.bound l.room - l.turn) (position l.stream) cells);
}
