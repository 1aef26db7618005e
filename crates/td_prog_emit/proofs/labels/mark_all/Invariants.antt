use Rattle.std.proofs.Common.{◌≡◌, ℕ, ◌+◌, ◌<◌, length, false, flat_map, take}
use Rattle.std.specs.Prelude.{slice_index_or}
use Rattle.td_num.specs.Lists.{is_among}
use Rattle.td_prog_emit.proofs.labels.mark_all.Given as goal
use Rattle.td_prog_emit.specs.Labels.{targets}

abbrev pub invariant-loop-at : goal.invariant-loop-at
invariant-loop-at l = (k : ℕ) → k < length l.marks → slice_index_or l.marks k false ≡ is_among (flat_map targets (take l.at l.instructions)) (l.first + k)
