use Rattle.std.proofs.Common.{◌≡◌, length}
use Rattle.td_prog_text.specs.Names.{trimmed}
use Rattle.td_prog_emit.proofs.identifiers.trimmed.Given as goal

abbrev pub invariant-loop-front : goal.invariant-loop-front
invariant-loop-front l = trimmed l.rest ≡ trimmed l.name

abbrev pub decreases-loop-front : goal.decreases-loop-front
decreases-loop-front l = length l.rest
