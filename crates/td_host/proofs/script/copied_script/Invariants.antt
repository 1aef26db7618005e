use Rattle.std.proofs.Common.{◌≡◌, ◌≤◌, take, length, vec_capacity}
use Rattle.td_host.proofs.script.copied_script.Given as goal

-- the steps so far, in the memory that was there
abbrev pub invariant-loop-step : goal.invariant-loop-step
invariant-loop-step l = record {
  items : l.steps.items ≡ take l.step-index l.script;
  room : length l.script ≤ vec_capacity l.steps;
}
