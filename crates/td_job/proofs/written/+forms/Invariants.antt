use Rattle.std.proofs.Common.{◌≡◌, ◌+◌, ◌*◌, drop}
use Rattle.serde_json.specs.Data.{depth, items_depth}
use Rattle.serde_json.specs.View.{view, items_view}
use Rattle.td_job.specs.Written.{worse, forms_of}
use Rattle.td_job.proofs.written.+forms.Given as goal

abbrev pub decreases-form_of : goal.decreases-form_of
decreases-form_of l = 2 * depth (view l.value.now)

abbrev pub decreases-forms_of : goal.decreases-forms_of
decreases-forms_of l = 2 * items_depth (items_view l.values.now) + 1

abbrev pub invariant-forms_of-loop-value : goal.invariant-forms_of-loop-value
invariant-forms_of-loop-value l = record {
  so_far : forms_of (items_view l.values) ≡ worse l.form (forms_of (items_view (drop l.value-index l.values)));
}
