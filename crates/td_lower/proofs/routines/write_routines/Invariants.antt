use Rattle.std.proofs.Common.{◌≡◌, slice_get}
use Rattle.td_lower_blocks.specs.Lowered.{first_site}
use Rattle.td_lower.specs.Code.{unit_in, code_to, routines_to}
use Rattle.td_lower.proofs.routines.write_routines.Given as goal

-- the code and the routines of the definitions so far
abbrev pub invariant-loop-n : goal.invariant-loop-n
invariant-loop-n l = record {
  code : l.code ≡ code_to (λ n. unit_in (slice_get l.definitions n)) l.definitions l.n;
  routines : l.routines ≡ routines_to (λ n. unit_in (slice_get l.definitions n)) l.definitions l.n;
  first : l.first ≡ first_site l.definitions l.n;
}
