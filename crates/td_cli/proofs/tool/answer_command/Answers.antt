use Rattle.std.proofs.Common.{List, ℕ, refl, subst}
use Rattle.td_cli_command.specs.declared.command.Command.{Command}
use Rattle.td_cli_command.specs.declared.command.Command.TheVariants.{Read, Bench}
use Rattle.td_cli_command.specs.Command.{Means}
use Rattle.td_cli.specs.CallEnds.{passage}
use Rattle.td_cli.proofs.Calls.{answered_call, bench_call}
use Rattle.td_cli.proofs.tool.answer_command.Goals as goal

pub returns-in-Read-clause-ends : goal.returns-in-Read-clause-ends
returns-in-Read-clause-ends g c =
    λ words means.
    let P : Command → Type 0 = λ k. Means words k in
    let is : Means words (Read c.in-Read.reading) = subst P c.in-Read.is means in
    answered_call words (Read c.in-Read.reading) c.answer_source.result (passage g.S.Source.state c.args.src.now c.answer_source.new.src) (passage g.O.Sink.state c.args.out.now c.answer_source.new.out) (passage g.E.Sink.state c.args.err.now c.answer_source.new.err) is (record {
      ends = c.answer_source.ensures.ends words is;
      usage = c.answer_source.ensures.usage;
      good = c.answer_source.ensures.good;
      bad = c.answer_source.ensures.bad;
      taken = c.answer_source.ensures.taken;
    })

pub returns-in-Bench-clause-ends : goal.returns-in-Bench-clause-ends
returns-in-Bench-clause-ends g c =
    λ words means.
    let P : Command → Type 0 = λ k. Means words k in
    let is : Means words (Bench c.in-Bench.n) = subst P c.in-Bench.is means in
    bench_call words c.in-Bench.n c.answer_bench.result g.S.Source.state c.args.src.now (passage g.O.Sink.state c.args.out.now c.answer_bench.new.out) (passage g.E.Sink.state c.args.err.now c.answer_bench.new.err) is c.answer_bench.ensures.ends c.answer_bench.ensures.good c.answer_bench.ensures.bad

pub returns-in-Host-clause-ends : goal.returns-in-Host-clause-ends
returns-in-Host-clause-ends g c =
    λ words means.
    let P : Command → Type 0 = λ k. Means words k in
    record { means = subst P c.in-Host.is means; unread = refl; no_output = refl; no_line = refl }
