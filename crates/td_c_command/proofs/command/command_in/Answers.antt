use Rattle.std.proofs.Common.{◌∙◌, codes}
use Rattle.clap.specs.Words.{found_of, rows_of, subcommand_rows_of}
use Rattle.clap.specs.declared.parser.matches.ArgMatches.TheViews.{out-ArgMatches}
use Rattle.clap.proofs.WalkLemmas.{first_value-rows}
use Rattle.td_c_command.proofs.Words.{entered, command_found}
use Rattle.td_c_command.proofs.command.command_in.Goals as goal

pub returns-in-Some : goal.returns-in-Some
returns-in-Some c =
    let m = c.args.matches.now in
    let rows = rows_of (found_of c.in-Some.own.now) in
    let entry = entered (out-ArgMatches m).subcommand c.in-Some.word.now rows c.in-Some.ensures.name c.in-Some.ensures.rows in
    let name = c.get_str.ensures ∙ first_value-rows (found_of c.in-Some.own.now) (codes "NAME") in
    command_found c.command_by.result (subcommand_rows_of m) c.in-Some.word.now rows _ entry name c.command_by.ensures
