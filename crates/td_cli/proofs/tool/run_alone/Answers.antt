use Rattle.std.proofs.Common.{◌≡◌, ◌⊎◌, inl, inr, refl, sym, map, List, ℕ, string_bytes, Global, Option, Some, None}
use Rattle.std.specs.Prelude.{IfSome}
use Rattle.td_cli_command.specs.declared.command.Command.TheVariants.{Host}
use Rattle.td_cli.specs.declared.status.Status.{Status}
use Rattle.td_cli.specs.declared.status.Status.TheVariants as at
use Rattle.td_cli_command.specs.Command.{Means, MeansNone}
use Rattle.td_cli.specs.CallEnds.{passage}
use Rattle.td_cli.specs.InputEnds.{EndsWith}
use Rattle.td_cli.specs.Lines.{memory_line}
use Rattle.td_cli_command.proofs.OneCommand.{in_range, one_command}
use Rattle.td_cli.proofs.Calls.{usage_call, memory_call, never_read}
use Rattle.td_cli.proofs.tool.run_alone.Goals as goal

pub answer_command-requires : goal.answer_command-requires
answer_command-requires g c =
    let words : List (List ℕ) = map (string_bytes {Z = Global}) c.args.words.now in
    let means : Means words c.in-Ok-Some.command = rw c.in-Ok-Some.field-0-is at c.in-Ok-Some.ensures in
    in_range words c.in-Ok-Some.command means

pub returns-in-Ok-Some-clause-ends : goal.returns-in-Ok-Some-clause-ends
returns-in-Ok-Some-clause-ends g c =
    let words : List (List ℕ) = map (string_bytes {Z = Global}) c.args.words.now in
    let means : Means words c.in-Ok-Some.command = rw c.in-Ok-Some.field-0-is at c.in-Ok-Some.ensures in
    c.answer_command.ensures.ends words means

pub returns-in-Ok-Some-clause-host : goal.returns-in-Ok-Some-clause-host
returns-in-Ok-Some-clause-host g c = λ is_host.
    let words : List (List ℕ) = map (string_bytes {Z = Global}) c.args.words.now in
    let means : Means words c.in-Ok-Some.command = rw c.in-Ok-Some.field-0-is at c.in-Ok-Some.ensures in
    let none = c.answer_command.ensures.host (one_command words c.in-Ok-Some.command Host means is_host) in
    rw none tt

pub returns-in-Ok-None-clause-ends : goal.returns-in-Ok-None-clause-ends
returns-in-Ok-None-clause-ends g c =
    let words : List (List ℕ) = map (string_bytes {Z = Global}) c.args.words.now in
    let none : MeansNone words = rw c.in-Ok-None.field-0-is at c.in-Ok-None.ensures in
    usage_call words c.finish_with_line.result (passage g.S.Source.state c.args.src.now c.args.src.now) (passage g.O.Sink.state c.args.out.now c.args.out.now) (passage g.E.Sink.state c.args.err.now c.finish_with_line.new.err) none (never_read g.S.Source.state c.args.src.now) (c.finish_with_line.ensures, refl)

pub returns-in-Ok-None-clause-host : goal.returns-in-Ok-None-clause-host
returns-in-Ok-None-clause-host g c = λ is_host.
    let words : List (List ℕ) = map (string_bytes {Z = Global}) c.args.words.now in
    let none : MeansNone words = rw c.in-Ok-None.field-0-is at c.in-Ok-None.ensures in
    absurd (none Host is_host)

pub returns-in-Err-clause-ends : goal.returns-in-Err-clause-ends
returns-in-Err-clause-ends g c =
    let words : List (List ℕ) = map (string_bytes {Z = Global}) c.args.words.now in
    memory_call words c.finish_out_of_memory.result (passage g.S.Source.state c.args.src.now c.args.src.now) (passage g.O.Sink.state c.args.out.now c.args.out.now) (passage g.E.Sink.state c.args.err.now c.finish_out_of_memory.new.err) (never_read g.S.Source.state c.args.src.now) (c.finish_out_of_memory.ensures, refl)

pub returns-in-Err-clause-host : goal.returns-in-Err-clause-host
returns-in-Err-clause-host g c = λ is_host. elim c.finish_out_of_memory.ensures [ inl taken ↦ inl taken.0 | inr failed ↦ inr failed.0 ]
