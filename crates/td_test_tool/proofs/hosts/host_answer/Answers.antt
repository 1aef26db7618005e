use Rattle.std.proofs.Common.{◌≡◌, List, subst, sym, ap, ◌∙◌}
use Rattle.std.specs.List.{All}
use Rattle.td_core.specs.declared.module.Module.{Module}
use Rattle.td_core.specs.declared.module.Entry.{Entry}
use Rattle.td_posts.specs.declared.job.HostJob.{HostJob}
use Rattle.td_posts.specs.declared.reply.Reply.{Reply}
use Rattle.td_report_host.specs.Report.{HasMessageWords, HasTakenWords, HasVersion}
use Rattle.td_cli_host.specs.ServedInput.{CanBeShown}
use Rattle.td_test_tool.proofs.hosts.host_answer.Goals as goal

pub host_report-written-requires-clause-words : goal.host_report-written-requires-clause-words
host_report-written-requires-clause-words g c =
    let job : HostJob = c.in-Ok.given.job in
    let by = c.in-Ok-job_readers.ensures.by in
    let made = c.in_ok-served.served in
    let shown : CanBeShown job.formats job.entries made.replies made.takes = c.served_can_be_shown.ensures by.0 job made.replies made.takes (c.in_ok-served.ensures.served by.0 by.2) in
    subst (λ (rs : List Reply). All HasMessageWords rs) (sym c.as_slice-3.ensures) shown.words

pub host_report-written-requires-clause-versions : goal.host_report-written-requires-clause-versions
host_report-written-requires-clause-versions g c =
    let job : HostJob = c.in-Ok.given.job in
    let by = c.in-Ok-job_readers.ensures.by in
    let made = c.in_ok-served.served in
    let shown : CanBeShown job.formats job.entries made.replies made.takes = c.served_can_be_shown.ensures by.0 job made.replies made.takes (c.in_ok-served.ensures.served by.0 by.2) in
    let formats : c.as_slice.result.now ≡ job.formats = c.as_slice.ensures ∙ ap (λ (j : HostJob). j.formats) c.in_ok-served.ensures.job in
    let entries : c.as_slice-2.result.now ≡ job.entries = c.as_slice-2.ensures ∙ ap (λ (j : HostJob). j.entries) c.in_ok-served.ensures.job in
    subst (λ (x : List Module × List Entry × List Reply). All (HasVersion x.0 x.1) x.2) (λ i. (sym formats i, sym entries i, sym c.as_slice-3.ensures i)) shown.versions

pub host_report-written-requires-clause-taken : goal.host_report-written-requires-clause-taken
host_report-written-requires-clause-taken g c =
    let job : HostJob = c.in-Ok.given.job in
    let by = c.in-Ok-job_readers.ensures.by in
    let made = c.in_ok-served.served in
    let shown : CanBeShown job.formats job.entries made.replies made.takes = c.served_can_be_shown.ensures by.0 job made.replies made.takes (c.in_ok-served.ensures.served by.0 by.2) in
    subst (All HasTakenWords) (sym c.as_slice-4.ensures) shown.taken
