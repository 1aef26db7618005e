use Rattle.std.proofs.Common.{◌≡◌}
use Rattle.serde_json.specs.Find.{as_object}
use Rattle.serde_json.specs.View.{view, members_view}
use Rattle.td_job.specs.Jobs.{first_unknown, first_unknown_in}
use Rattle.td_job.proofs.checks.unknown_name.Given as goal

abbrev pub invariant-loop-name : goal.invariant-loop-name
invariant-loop-name l = first_unknown l.keys (as_object (view l.job)) ≡ first_unknown_in l.keys (members_view l.name-iterator)
