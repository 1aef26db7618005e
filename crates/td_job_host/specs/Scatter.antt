-- What is counted over the stretches of a message.
use Rattle.std.specs.Prelude.{ℕ, List, length}
use Rattle.td_job_host.specs.Imports.{Stretch}
use Rattle.td_stream.specs.Layouts.{length_in, count_in}
use Rattle.td_job_host.specs.declared.scatter.Measure.{Measure}
use Rattle.td_job_host.specs.declared.scatter.Measure.TheVariants.{Stretches, Bytes, Words}

abbrev pub measured : Measure → List Stretch → ℕ
measured Stretches layout = length layout
measured Bytes layout = length_in layout
measured Words layout = count_in layout
