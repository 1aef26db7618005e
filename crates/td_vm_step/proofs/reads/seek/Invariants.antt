use Rattle.std.proofs.Common.{◌≡◌, ℕ, ◌+◌, ◌-◌, ◌*◌, List}
use Rattle.td_num.specs.Numbers.{places_from}
use Rattle.td_num.specs.Lists.{first_where}
use Rattle.td_stream.specs.Loads.{Carries}
use Rattle.td_stream.specs.StreamInvariant.{IsStream, Later, Looked, position, end_of, layout_of, loads_of}
use Rattle.td_ir.specs.Values.{numbers_from}
use Rattle.td_vm_step.specs.Stepping.{sought}
use Rattle.td_vm_step.proofs.Elements.{shifted}
use Rattle.td_vm_step.proofs.reads.seek.Given as goal

abbrev pub invariant-loop-k : goal.invariant-loop-k
invariant-loop-k g l = record {
  later : Later g.W.Words.loads g.W.Words.reaches l.fn.stream l.stream;
  whole : IsStream g.W.Words.loads g.W.Words.size l.stream;
  end : end_of l.stream ≡ end_of l.fn.stream;
  pos : position l.stream ≡ position l.fn.stream + l.k * l.width;
  counted : l.steps ≡ l.fn.steps + l.k;
  looked : Looked g.W.Words.loads l.fn.stream l.stream (places_from (position l.fn.stream) (l.k * l.width));
  first : (b : List ℕ) → Carries (layout_of l.fn.stream) b (loads_of g.W.Words.loads l.stream) → first_where (sought l.zero) (numbers_from b (position l.fn.stream) l.width l.n) ≡ shifted l.k (first_where (sought l.zero) (numbers_from b (position l.stream) l.width (l.n - l.k)));
}
