use Rattle.std.proofs.Common.{List, map, sym, ap, ◌∙◌, subst}
use Rattle.std.specs.List.{All}
use Rattle.td_ir.specs.declared.tables.Parts.{Parts}
use Rattle.td_posts.specs.declared.job.HostJob.{HostJob}
use Rattle.td_posts.specs.declared.reply.Reply.{Reply}
use Rattle.td_takes.specs.declared.take.Take.{Take}
use Rattle.td_host_actors.specs.Acting.{IsInRoom, IsTakeInRoom, first_frames}
use Rattle.td_host.specs.Gathered.{reader_frames}
use Rattle.td_host.specs.Hosts.{IsServedJob}
use Rattle.td_host.proofs.Hosting.{same_job, served_job}
use Rattle.td_host.proofs.job.serve_under.Goals as goal

pub returns-clause-served : goal.returns-clause-served
returns-clause-served g c m by =
    let e = c.into_served.ensures in
    subst (λ (x : HostJob × List Reply × List Take). IsServedJob m x.0 x.1 x.2) (λ i. ((same_job c.serve.ensures.desk ∙ c.in_ok-host.ensures.job) i, sym e.replies i, sym e.takes i))
    (served_job m c.serve.new.self (c.serve.ensures.served m (c.in_ok-host.ensures.described m by)))

pub returns-clause-job : goal.returns-clause-job
returns-clause-job g c = c.into_served.ensures.job ∙ (same_job c.serve.ensures.desk ∙ c.in_ok-host.ensures.job)

pub returns-clause-memory : goal.returns-clause-memory
returns-clause-memory g c =
    let desk = c.serve.ensures.desk in
    subst (λ (x : List Parts × HostJob × List Reply). All (IsInRoom x.0 x.1) x.2)
    (λ i. ((ap (λ d. d.codes.codes) desk ∙ c.in_ok-host.ensures.codes) i, (same_job desk ∙ c.in_ok-host.ensures.job) i, sym c.into_served.ensures.replies i)) c.serve.ensures.memory

pub returns-clause-take_memory : goal.returns-clause-take_memory
returns-clause-take_memory g c =
    let desk = c.serve.ensures.desk in
    let ns = map reader_frames c.args.descrs.items in
    subst (λ (x : List Parts × HostJob × List Take). All (IsTakeInRoom (first_frames x.0) ns x.1) x.2)
    (λ i. ((ap (λ d. d.codes.codes) desk ∙ c.in_ok-host.ensures.codes) i, (same_job desk ∙ c.in_ok-host.ensures.job) i, sym c.into_served.ensures.takes i))
    (c.serve.ensures.take_memory ns c.in_ok-host.ensures.take_memory)
