use Rattle.std.proofs.Common.{◌≡◌, Some, refl, sym, ◌∙◌, codes, arith}
use Rattle.std.proofs.lemmas.Bool.Decides.{nat_tests}
use Rattle.clap.specs.Words.{found_of, rows_of, subcommand_rows_of, subcommand_name_of}
use Rattle.clap.proofs.WalkLemmas.{first_value-rows}
use Rattle.td_cli_command.proofs.Matches.{bench_entered, number_found, no_text}
use Rattle.td_cli_command.proofs.command.number_of.Goals as goal

pub returns-in-Some-get_str : goal.returns-in-Some-get_str
returns-in-Some-get_str c =
    let m = c.args.matches.now in
    let own = rows_of (found_of c.in-Some.own.now) in
    let name : subcommand_name_of m ≡ Some (codes "bench") = c.in-Some.ensures.found.0 refl in
    let entry = bench_entered m own name c.in-Some.ensures.rows in
    let three : c.args.count ≡ 3 = grind (arith, nat_tests, c.if-count-ne-BENCH_WORDS.false) in
    let text = sym (c.in-Some-get_str.ensures ∙ first_value-rows (found_of c.in-Some.own.now) (codes "N")) in
    number_found c.messages_of.result c.args.count (subcommand_rows_of m) own c.in-Some-get_str.text.now entry three text c.messages_of.ensures

pub returns-in-None-get_str : goal.returns-in-None-get_str
returns-in-None-get_str c =
    let m = c.args.matches.now in
    let own = rows_of (found_of c.in-Some.own.now) in
    let name : subcommand_name_of m ≡ Some (codes "bench") = c.in-Some.ensures.found.0 refl in
    let entry = bench_entered m own name c.in-Some.ensures.rows in
    no_text c.args.count (subcommand_rows_of m) own entry (c.in-None-get_str.ensures ∙ first_value-rows (found_of c.in-Some.own.now) (codes "N"))
