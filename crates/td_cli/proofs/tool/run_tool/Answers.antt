use Rattle.std.proofs.Common.{List, ℕ, map, string_bytes, Global}
use Rattle.td_cli.proofs.Calls.{handed_call}
use Rattle.td_cli.proofs.tool.run_tool.Goals as goal

pub returns-in-None : goal.returns-in-None
returns-in-None g c =
    let words : List (List ℕ) = map (string_bytes {Z = Global}) c.args.words.now in
    let handed = c.in-None.ensures.ends in
    handed_call words c.run_hosted.result g.S.Source.state g.O.Sink.state g.E.Sink.state
    c.args.src.now c.run_alone.new.src c.run_hosted.new.src c.args.out.now c.run_alone.new.out c.run_hosted.new.out c.args.err.now c.run_alone.new.err c.run_hosted.new.err
    handed (c.run_hosted.ensures words handed.means)
