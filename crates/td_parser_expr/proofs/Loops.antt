-- A loop that reads any number of a production fails with it. Cited by other crates.
use Rattle.std.proofs.Common.{◌≡◌, true, false, List}
use Rattle.td_ast.specs.declared.token.Token.{Token}
use Rattle.td_grammar.specs.Sets.{comes}
use Rattle.td_grammar.specs.Reading.{Outcome}
use Rattle.td_grammar.specs.Grammar.{Grammar, all_of}
use Rattle.td_grammar.proofs.Exact.{IsExact}
use Rattle.td_grammar.proofs.Loops.{with_all, loop_bad, loop_deep}
use Rattle.td_parser_expr.specs.declared.failure.Failure.{Failure}
use Rattle.td_parser_expr.specs.declared.failure.Failure.TheVariants as failures
use Rattle.td_parser_expr.specs.Giving.{Fails}

pub loop_fails : {A : Type 0} (g : Grammar A) → IsExact g → g.reader.may_be_empty ≡ false → (front : List A) (tokens : List Token) (total : Outcome (List A)) (failure : Failure)
    → comes g.reader.begins tokens ≡ true → Fails failure (g.reader.read tokens) → with_all front ((all_of g).reader.read tokens) ≡ total → Fails failure total
loop_fails g G solid front tokens total failures.OutOfMemory b h so_far = tt
loop_fails g G solid front tokens total (failures.Unexpected rest) b h so_far = loop_bad g G solid front tokens total rest.now b h so_far
loop_fails g G solid front tokens total (failures.TooDeep rest) b h so_far = loop_deep g G solid front tokens total rest.now b h so_far
