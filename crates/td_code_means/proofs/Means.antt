-- The code of a module does what the module means, from each of its entry points.
use Rattle.std.proofs.Common.{length, sym, ap, ◌∙◌, subst}
use Rattle.td_core.specs.Entries.{entry_definition}
use Rattle.td_core.specs.Formed.{AllFit, params_at, cells_at}
use Rattle.td_ir.specs.Entries.{AreArguments, AreValues}
use Rattle.td_code_means.specs.Laws.{CodeDoesAsMeant}
use Rattle.td_code_means.proofs.Fitting.{args_back, cells_back}
use Rattle.td_code_means.proofs.Entries.{entry_is}

pub code_does_as_meant : CodeDoesAsMeant
code_does_as_meant c m code of entry args cells message fits bytes short =
    let at = entry_is c m code of.written entry.number fits.there in
    let d = at.definition in
    let args_fit : AllFit (params_at (entry_definition m entry.number)) args =
    subst (λ o. AllFit (params_at o) args) (sym at.is)
    (args_back d.params args (fits.arg_count ∙ ap length at.params) (subst (λ ps. AreArguments ps args (length args)) at.params fits.args_fit)) in
    let cells_fit : AllFit (cells_at (entry_definition m entry.number)) cells =
    subst (λ o. AllFit (cells_at o) cells) (sym at.is)
    (cells_back d.cells cells (fits.cell_count ∙ ap length at.cells) (subst (λ cs. AreValues cs cells (length cells)) at.cells fits.cells_fit)) in
    of.means entry args cells message at.there args_fit cells_fit bytes short
