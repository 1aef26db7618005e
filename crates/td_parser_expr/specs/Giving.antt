-- What a function of the parser gives, by what reading gives.
use Rattle.std.specs.Prelude.{◌≡◌, Result, Ok, Err}
use Rattle.td_grammar.specs.Reading.{Outcome, Bad, Deep}
use Rattle.td_parser_expr.specs.declared.failure.Failure.{Failure}
use Rattle.td_parser_expr.specs.declared.failure.Failure.TheVariants as failures

-- it stopped where reading stops, unless memory ran out
abbrev pub Fails : {A : Type 0} → Failure → Outcome A → Type 0
Fails failures.OutOfMemory read = Unit {0}
Fails (failures.Unexpected rest) read = read ≡ Bad rest.now
Fails (failures.TooDeep rest) read = read ≡ Deep rest.now

-- what it returned, seen by view, is what reading gives
abbrev pub Gives : {X A : Type 0} → (X → Outcome A) → Result X Failure → Outcome A → Type 0
Gives view (Ok x) read = read ≡ view x
Gives view (Err failure) read = Fails failure read

-- it stopped where reading stops: it takes no memory
abbrev pub Stops : {A : Type 0} → Failure → Outcome A → Type 0
Stops failures.OutOfMemory read = ⊥
Stops (failures.Unexpected rest) read = read ≡ Bad rest.now
Stops (failures.TooDeep rest) read = read ≡ Deep rest.now

-- the same of a function that takes no memory
abbrev pub Reads : {X A : Type 0} → (X → Outcome A) → Result X Failure → Outcome A → Type 0
Reads view (Ok x) read = read ≡ view x
Reads view (Err failure) read = Stops failure read
