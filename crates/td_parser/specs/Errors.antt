-- The errors of tokens that have no tree.
use Rattle.std.specs.Prelude.{◌≡◌, ℕ, ◌-◌, ◌≤◌, length}
use Rattle.td_parser_expr.specs.declared.failure.Failure.{Failure}
use Rattle.td_parser_expr.specs.declared.failure.Failure.TheVariants as failures
use Rattle.td_parser.specs.declared.error.ParseError.{ParseError}
use Rattle.td_parser.specs.declared.error.ParseError.TheVariants.{Unexpected, Deep, NoMemory}

-- no more tokens are left than there were
abbrev pub IsFailureWithin : ℕ → Failure → Type 0
IsFailureWithin count failures.OutOfMemory = Unit {0}
IsFailureWithin count (failures.Unexpected rest) = length rest.now ≤ count
IsFailureWithin count (failures.TooDeep rest) = length rest.now ≤ count

-- the error of a failure: the place of a token is the count of those before it
abbrev pub IsErrorOf : ℕ → Failure → ParseError → Type 0
IsErrorOf count failures.OutOfMemory error = error ≡ NoMemory
IsErrorOf count (failures.Unexpected rest) error = error ≡ Unexpected (count - length rest.now)
IsErrorOf count (failures.TooDeep rest) error = error ≡ Deep (count - length rest.now)
