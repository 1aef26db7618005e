use Rattle.std.proofs.Common.{◌-◌, ◌≤◌, length, take}
use Rattle.td_io.specs.States.{Takes}
use Rattle.td_io.proofs.writing.write_all.Given as goal

abbrev pub invariant-loop-done : goal.invariant-loop-done
invariant-loop-done g l = record {
  within : l.done ≤ length l.text;
  taken : Takes (g.O.Sink.state l.fn.out) (g.O.Sink.state l.out) (take l.done l.text);
}

abbrev pub decreases-loop-done : goal.decreases-loop-done
decreases-loop-done g l = length l.text - l.done
