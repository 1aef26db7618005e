use Rattle.std.proofs.Common.{◌≡◌, ℕ}
use Rattle.td_cli_command.proofs.Matches.{parsed_other, parsed_same, only_number}
use Rattle.td_cli_command.proofs.command.messages_of.Goals as goal

pub returns-in-Ok : goal.returns-in-Ok
returns-in-Ok c =
    only_number c.messages_in.result c.in-Ok.number c.args.text.now (λ n few is. parsed_same n c.in-Ok.number c.args.text.now c.parse.result few is c.parse.ensures.value.0 c.in-Ok.is) c.messages_in.ensures

pub returns-in-Err : goal.returns-in-Err
returns-in-Err c = λ n is low high. parsed_other n c.args.text.now c.in-Err.field-0 high is c.in-Err.ensures.value.0
