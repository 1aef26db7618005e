-- What the lines of a host's report determine: those of its replies, and those of its takes.
use Rattle.std.proofs.Common.{◌≡◌, ℕ, List, ◌++◌, flat_map, Option, sym, ◌∙◌, lit<}
use Rattle.std.proofs.lemmas.Grind.{flat_map-append}
use Rattle.std.specs.List.{All}
use Rattle.td_report_host.specs.Imports.{Module, Entry, Reply, Take}
use Rattle.td_report.specs.Report.{line}
use Rattle.td_report.specs.Laws.{HasWords}
use Rattle.td_report.proofs.Cutting.{AreLines, lines_append, same_lines}
use Rattle.td_report.proofs.Lines.{differ}
use Rattle.td_report_host.specs.Report.{host_report}
use Rattle.td_report_host.specs.Laws.{IsReportable, IsReportableTake, HostReportsDetermineReplies}
use Rattle.td_report_host.proofs.Lines.{Others, cut_seam}
use Rattle.td_report_host.proofs.Replies.{reply_lines, replies_by_lines, replies_are_lines, replies_others, same_replies}
use Rattle.td_report_host.proofs.Taking.{take_lines, takes_by_lines, takes_are_lines, apart_from_rings, seam, same_takes}

abbrev all_lines : List Module → List Entry → List Reply → Option (Module × Entry) → List Take → List (List ℕ)
all_lines ms es rs ring ts = reply_lines ms es rs ++ take_lines ms es ring ts

host_by_lines : (ms : List Module) (es : List Entry) (rs : List Reply) (ring : Option (Module × Entry)) (ts : List Take) → host_report ms es rs ring ts ≡ flat_map line (all_lines ms es rs ring ts)
host_by_lines ms es rs ring ts =
    (λ i. replies_by_lines ms es rs i ++ takes_by_lines ms es ring ts i) ∙ sym (flat_map-append line (reply_lines ms es rs) (take_lines ms es ring ts))

host_are_lines : (ms : List Module) (es : List Entry) (rs : List Reply) (ring : Option (Module × Entry)) (ts : List Take) → All HasWords ms → All (IsReportable ms es) rs → All (IsReportableTake ms es ring) ts → AreLines (all_lines ms es rs ring ts)
host_are_lines ms es rs ring ts words hr ht =
    lines_append (reply_lines ms es rs) (take_lines ms es ring ts) (replies_are_lines ms es rs words hr) (takes_are_lines ms es ring ts words ht)

before_takes : (ms : List Module) (es : List Entry) (rs : List Reply) → All (Others 103) (reply_lines ms es rs)
before_takes ms es rs = replies_others 103 ms es rs apart_from_rings (λ e. differ 103 115 (lit< tt) (sym e)) (λ e. differ 103 108 (lit< tt) (sym e))

pub host_reports_determine_replies : HostReportsDetermineReplies
host_reports_determine_replies ms es fs rs qs ring other ts us words none hr hq alike ht hu same =
    let lines : reply_lines ms es rs ++ take_lines ms es ring ts ≡ reply_lines ms fs qs ++ take_lines ms fs other us =
    same_lines (all_lines ms es rs ring ts) (all_lines ms fs qs other us) (host_are_lines ms es rs ring ts words hr ht) (host_are_lines ms fs qs other us words hq hu)
    (sym (host_by_lines ms es rs ring ts) ∙ same ∙ host_by_lines ms fs qs other us) in
    let parts =
    cut_seam 103 (reply_lines ms es rs) (take_lines ms es ring ts) (reply_lines ms fs qs) (take_lines ms fs other us)
    (before_takes ms es rs) (seam ms es ring ts) (before_takes ms fs qs) (seam ms fs other us) lines in
    (same_replies ms es fs rs qs words none hr hq parts.0, same_takes ms es fs ring other alike words none ts us ht hu parts.1)
