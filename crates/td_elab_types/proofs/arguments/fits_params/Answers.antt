use Rattle.td_elab_types.proofs.Sides.{unlike_params}
use Rattle.td_elab_types.proofs.arguments.fits_params.Goals as goal

pub returns-then-params-terms : goal.returns-then-params-terms
returns-then-params-terms c = unlike_params c.args.params.now c.args.terms.now c.if-params-terms.true
