use Rattle.std.proofs.Common.{rules, ◌≡◌, sym, subst}
use Rattle.serde_json.specs.View.{view}
use Rattle.td_core.specs.Entries.{entry_definition}
use Rattle.td_core.specs.Formed.{AllFit, params_at, cells_at}
use Rattle.td_job.specs.declared.error.Key.TheVariants as key
use Rattle.td_job.specs.Fields.{field_of}
use Rattle.td_job.specs.Values.{given_args, given_cells}
use Rattle.td_job.proofs.Numbers.{args_fit, cells_fit}
use Rattle.td_job.proofs.valued.start_job.Goals as goal

pub bytes_of_value-requires-clause-args : goal.bytes_of_value-requires-clause-args
bytes_of_value-requires-clause-args c =
    let job = view c.args.job.now in
    let d = entry_definition c.args.m.now c.in_ok-entry.entry.number in
    let args : c.as_slice.result.now ≡ given_args d job = search rules in
    subst (AllFit (params_at d)) (sym args) (args_fit (params_at d) (field_of key.Args job) c.in_ok-entry.ensures.ok.args)

pub bytes_of_value-requires-clause-cells : goal.bytes_of_value-requires-clause-cells
bytes_of_value-requires-clause-cells c =
    let job = view c.args.job.now in
    let d = entry_definition c.args.m.now c.in_ok-entry.entry.number in
    let cells : c.as_slice-2.result.now ≡ given_cells d job = search rules in
    subst (AllFit (cells_at d)) (sym cells) (cells_fit (cells_at d) (field_of key.Cells job) c.in_ok-entry.ensures.ok.cells)
