use Rattle.std.proofs.Common.{◌≡◌, ℕ, ◌+◌, ◌-◌, ◌≤◌, List, length, map, slice_index}
use Rattle.td_num.specs.Numbers.{places_from}
use Rattle.td_stream.specs.Loads.{Carries}
use Rattle.td_stream.specs.StreamInvariant.{IsStream, Later, Looked, position, end_of, layout_of, loads_of}
use Rattle.td_stream.proofs.stream.Stream.copy_to.Given as goal

abbrev pub invariant-bytes : goal.invariant-bytes
invariant-bytes g l = record {
  later : Later g.W.Words.loads g.W.Words.reaches l.fn.self l.self;
  whole : IsStream g.W.Words.loads g.W.Words.size l.self;
  end : end_of l.self ≡ end_of l.fn.self;
  reached : l.done ≤ l.n;
  pos : position l.self ≡ position l.fn.self + l.done;
  looked : Looked g.W.Words.loads l.fn.self l.self (places_from (position l.fn.self) l.done);
  room : l.buffer.room ≡ l.fn.buffer.room;
  count : length l.buffer.held ≡ l.done;
  held : (b : List ℕ) → Carries (layout_of l.fn.self) b (loads_of g.W.Words.loads l.self) → l.buffer.held ≡ map (slice_index b) (places_from (position l.fn.self) l.done);
}

abbrev pub decreases-bytes : goal.decreases-bytes
decreases-bytes g l = l.n - l.done
