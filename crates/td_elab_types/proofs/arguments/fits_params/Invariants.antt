use Rattle.std.proofs.Common.{◌≡◌, drop, length}
use Rattle.td_elab_rules.specs.Types.{fits_params}
use Rattle.td_elab_types.proofs.arguments.fits_params.Given as goal

abbrev pub invariant-loop-i : goal.invariant-loop-i
invariant-loop-i l = record {
  same : length l.params ≡ length l.terms;
  rest : fits_params (drop l.i l.params) (drop l.i l.terms) ≡ fits_params l.params l.terms;
}
