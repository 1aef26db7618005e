-- Sources and sinks over readers and writers (own rule).
use Rattle.td_io.specs.declared.faults.Faults.{Faults}

-- the reader or the writer, and the faults of its calls so far
pub record Counted (Inner : Type 0) : Type 0 where
  pub inner : Inner
  pub faults : Faults
