use Rattle.std.proofs.Common.{◌≡◌, ap, ◌∙◌, sym, map, List, ℕ, [], inl, inr, subst, string_bytes, Global}
use Rattle.clap.specs.Words.{app_of, App, kind_of, subcommand_rows_of}
use Rattle.clap.specs.Faults.{is_simple_and_free, fault_of}
use Rattle.clap.specs.Simple.{is_simple, subcommand_of}
use Rattle.clap.specs.Kinds.{Kinds, IsAmong}
use Rattle.clap.specs.declared.error.kind.ErrorKind.TheVariants.{OutOfMemory}
use Rattle.td_c_command.specs.Command.{command_app}
use Rattle.td_c_command.proofs.Words.{is_simple_tool, is_free_tool, parsed_means, none_meant}
use Rattle.td_c_command.proofs.command.command_of.Goals as goal

pub returns-in-Ok : goal.returns-in-Ok
returns-in-Ok c =
    let words : List (List ℕ) = map (string_bytes {Z = Global}) c.args.words.now in
    let free : fault_of command_app words ≡ [] = ap (λ (a : App). fault_of a words) (sym c.in_ok-tool.ensures) ∙ c.in-Ok.ensures.kinds (ap is_simple_and_free c.in_ok-tool.ensures ∙ is_free_tool) in
    let matches = c.in-Ok.ensures.matches (ap is_simple c.in_ok-tool.ensures ∙ is_simple_tool) in
    let rows = subcommand_rows_of c.in-Ok.matches in
    let is : subcommand_of command_app words ≡ rows = ap (λ (a : App). subcommand_of a words) (sym c.in_ok-tool.ensures) ∙ sym matches.1 in
    parsed_means words rows c.command_in.result free is c.command_in.ensures

pub returns-in-Err : goal.returns-in-Err
returns-in-Err c =
    let words : List (List ℕ) = map (string_bytes {Z = Global}) c.args.words.now in
    let kinds = c.in-Err.ensures.kinds (ap is_simple_and_free c.in_ok-tool.ensures ∙ is_free_tool) in
    none_meant words c.meant_by.result (kind_of c.in-Err.error ≡ OutOfMemory) c.meant_by.ensures (λ other command means.
    let none : fault_of (app_of c.in_ok-tool.tool) words ≡ [] = ap (λ (a : App). fault_of a words) c.in_ok-tool.ensures ∙ means.0 in
    elim kinds [ inl memory ↦ other memory | inr among ↦ subst (λ (ks : Kinds). IsAmong (kind_of c.in-Err.error) ks) none among ])
