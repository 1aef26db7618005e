use Rattle.std.proofs.Common.{List, ℕ, map, string_bytes, Global, refl}
use Rattle.td_c_command.specs.Command.{Means, MeansNone}
use Rattle.td_c_ends.specs.Passages.{passage}
use Rattle.td_c_tool.proofs.Calls.{usage_call, memory_call, never_read}
use Rattle.td_c_tool.proofs.tool.run_tdc.Goals as goal

pub returns-in-Ok-Some : goal.returns-in-Ok-Some
returns-in-Ok-Some g c =
    let words : List (List ℕ) = map (string_bytes {Z = Global}) c.args.words.now in
    let means : Means words c.in-Ok-Some.command = rw c.in-Ok-Some.field-0-is at c.in-Ok-Some.ensures in
    c.answer_command-status.ensures words means

pub returns-in-Ok-None : goal.returns-in-Ok-None
returns-in-Ok-None g c =
    let words : List (List ℕ) = map (string_bytes {Z = Global}) c.args.words.now in
    let none : MeansNone words = rw c.in-Ok-None.field-0-is at c.in-Ok-None.ensures in
    usage_call words c.finish_usage.result (passage g.S.Source.state c.args.src.now c.args.src.now) (passage g.O.Sink.state c.args.out.now c.args.out.now) (passage g.E.Sink.state c.args.err.now c.finish_usage.new.err) none (never_read g.S.Source.state c.args.src.now) (c.finish_usage.ensures, refl)

pub returns-in-Err : goal.returns-in-Err
returns-in-Err g c =
    let words : List (List ℕ) = map (string_bytes {Z = Global}) c.args.words.now in
    memory_call words c.finish_out_of_memory.result (passage g.S.Source.state c.args.src.now c.args.src.now) (passage g.O.Sink.state c.args.out.now c.args.out.now) (passage g.E.Sink.state c.args.err.now c.finish_out_of_memory.new.err) (never_read g.S.Source.state c.args.src.now) (c.finish_out_of_memory.ensures, refl)
