use Rattle.std.proofs.Common.{◌≡◌, ◌+◌, ◌*◌, ◌≤◌, drop}
use Rattle.serde_json.specs.View.{items_view}
use Rattle.td_stream.specs.Layouts.{length_in}
use Rattle.td_job.specs.Stretches.{each_stretch, each_stretch_faults}
use Rattle.td_job.proofs.stretches.check_each_stretch.Given as goal

-- what is left of the elements, from here, decides
abbrev pub invariant-loop-index : goal.invariant-loop-index
invariant-loop-index l =
    let rest = items_view (drop l.index l.values) in
    record {
      faults : each_stretch_faults l.given 0 (items_view l.values) ≡ each_stretch_faults l.given l.index rest;
      sizes : length_in (each_stretch (items_view l.values)) ≡ l.sum + length_in (each_stretch rest);
      small : l.sum ≤ 4294967295 * l.index;
    }
