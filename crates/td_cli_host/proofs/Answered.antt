-- What was served of an input can be read back from its report.
use Rattle.std.proofs.Common.{◌≡◌, ℕ, ◌+◌, ◌*◌, ◌<◌, ◌≤◌, ◌^◌, List, [], ◌∷◌, length, Option, Some, None, refl, sym, ap, ◌∙◌, subst, arith}
use Rattle.std.specs.List.{All}
use Rattle.std.proofs.lemmas.List.Elements.{All-nil, All-weaker}
use Rattle.td_core.specs.declared.module.Module.{Module}
use Rattle.td_core.specs.declared.module.Entry.{Entry}
use Rattle.td_front.specs.Checked.{IsChecked}
use Rattle.td_front.specs.Laws.{OneModuleEach}
use Rattle.td_report.specs.Laws.{HasWords, HasNoSpotWord}
use Rattle.td_posts.specs.declared.job.HostJob.{HostJob}
use Rattle.td_posts.specs.declared.ring.RingJob.{RingJob}
use Rattle.td_posts.specs.Posts.{all_mails}
use Rattle.td_posts.specs.Servable.{IsRingWithin}
use Rattle.td_words.specs.declared.view.SeatView.{SeatView}
use Rattle.td_words.specs.History.{loads}
use Rattle.td_takes.specs.declared.take.Take.{Take}
use Rattle.td_takes.specs.TakesServed.{AreTaken, all_takes, TakesServed}
use Rattle.td_host.specs.Served.{In}
use Rattle.td_report_host.specs.Report.{host_report}
use Rattle.td_report_host.specs.Laws.{IsReportable, IsReportableTake, AreOneModule, HostReportsDetermineReplies}
use Rattle.td_report_facts.specs.Laws.{IsHostSized}
use Rattle.td_cli_input.specs.Marker.{module_part, job_part}
use Rattle.td_cli_input.proofs.Sounds.{all_checked}
use Rattle.td_cli_host.specs.Rings.{ring_bytes, IsRingModule, IsRingOf, descriptor_entry}
use Rattle.td_cli_host.specs.Laws.{AreReportable, ServedAreReportable, HostReportsDetermineServed, ServedCanBeShown}
use Rattle.td_cli_host.proofs.Reported.{Below, SmallPair, all_message_words, all_versions, replies_small, takers_small, all_numbered, all_reportable}
use Rattle.td_cli_host.proofs.Takes.{BelowTakes, IsSmallRing, takes_reportable, takes_named}

pub can_be_shown : ServedCanBeShown
can_be_shown m job replies takes served =
    let all = served.4.served in
    record {
      words = all_message_words job (all_mails 1 job.guests) replies all.replies_are;
      versions = all_versions job (all_mails 1 job.guests) replies all.replies_are;
      taken = takes_named job job.rings m (8 * length job.words) takes all.seats.takers all.takes_are;
    }

-- what the crates below say
pub record BelowServed : Type 0 where
  pub replies : Below
  pub takes : BelowTakes

small_rings : (words : ℕ) (rings : List RingJob) → All (IsRingWithin words) rings → All IsSmallRing rings
small_rings words rings h = All-weaker (IsRingWithin words) IsSmallRing (λ ring within. record { most = within.short; takes = within.few_takes }) rings h

-- without rings nothing is taken
none_taken : (job : HostJob) (m : Module) (room : ℕ) (takes : List Take) (takers : List SeatView) → TakesServed job [] m room takes takers → takes ≡ []
unfolding AreTaken all_takes
none_taken job m room takes takers h = h.takes_are ∙ by takers h.shares h.are
  where
    by : (vs : List SeatView) (shares : List (List Take)) → AreTaken job m room 1 [] vs shares → all_takes shares ≡ []
    by [] [] h = refl
    by [] (ts ∷ shares) h = absurd h
    by (v ∷ vs) shares h = absurd h

module _ (below : BelowServed) (top : Module) (job : HostJob) (checked : All IsChecked job.formats) (sized : IsHostSized top job) (d : Module) where
  -- the takes of these rings can be read back
  taken_reportable : (rings : List RingJob) (room : ℕ) (ring : Option Module) (takes : List Take) (takers : List SeatView) → IsRingOf rings d ring → All IsSmallRing rings → length rings ≤ 16
      → (0 < length rings → room < 2 ^ 32) → TakesServed job rings d room takes takers → ((v : SeatView) → In v takers → All SmallPair (loads v.steps)) → All (IsReportableTake job.formats job.entries (descriptor_entry ring)) takes
  taken_reportable [] room ring takes takers is limits few narrow served small =
      subst (All (IsReportableTake job.formats job.entries (descriptor_entry ring))) (sym (none_taken job d room takes takers served)) (All-nil (IsReportableTake job.formats job.entries (descriptor_entry ring)))
  taken_reportable (r ∷ rings) room ring takes takers is limits few narrow served small =
      let own : IsChecked d = below.replies.checked ring_bytes d is.0.0 in
      let all = takes_reportable below.replies below.takes top job checked sized d own is.0.1 room (narrow (omega arith)) (r ∷ rings) takes takers limits few served small in
      subst (λ (o : Option Module). All (IsReportableTake job.formats job.entries (descriptor_entry o)) takes) (sym is.1) all

pub served_are_reportable : BelowServed → ServedAreReportable
served_are_reportable below input formats entries replies ring takes s =
    let m = s.m in
    let job = s.job in
    let given = s.input_is in
    let served = s.served.4.served in
    let host = s.served.0 in
    let sized : IsHostSized m job = below.replies.sized (job_part input given.place) m job given.good in
    let checked : All IsChecked job.formats = all_checked m (below.replies.checked (module_part input given.place) m given.text) below.replies.checked job.formats sized.kept.values.stand in
    let few : 1 + length job.guests ≤ 17 = let guests = sized.kept.few_guests in omega (arith, guests) in
    let all = all_reportable below.replies m job checked sized (all_mails 1 job.guests) replies served.replies_are (replies_small m job replies host sized served.seats)
    (all_numbered 4096 17 1 job.guests sized.kept.few_posts few) sized.kept.short sized.stretches in
    let taken = taken_reportable below m job checked sized s.descriptors job.rings (8 * length job.words) ring takes served.seats.takers s.ring_is (small_rings (length job.words) job.rings sized.kept.rings) sized.kept.few_rings s.narrow served.takes_are (takers_small m job replies host sized served.seats) in
    let own : AreReportable job.formats job.entries replies ring takes = record {
      words = All-weaker IsChecked HasWords (λ f h. (below.replies.words f h).0) job.formats checked;
      no_spot_word = All-weaker IsChecked HasNoSpotWord (λ f h. (below.replies.words f h).1) job.formats checked;
      each = all;
      taken = taken;
    } in
    subst (λ (fs : List Module). AreReportable fs entries replies ring takes) (sym s.formats_are) (subst (λ (es : List Entry). AreReportable job.formats es replies ring takes) (sym s.entries_are) own)

-- ---- the module of descriptors of two inputs

abbrev module_of : Option (Module × Entry) → Option Module
module_of None = None
module_of (Some p) = Some p.0

module_back : (ring : Option Module) → module_of (descriptor_entry ring) ≡ ring
module_back None = refl
module_back (Some d) = refl

abbrev or_module : Option Module → Module → Module
or_module None d = d
or_module (Some m) d = m

no_module : (m : Module) → None ≡ Some m → ⊥
no_module m e = absurd (cc)

-- what is given is the module of descriptors
ring_given : (rings : List RingJob) (d : Module) (ring : Option Module) (m : Module) (e : Entry) → IsRingOf rings d ring → descriptor_entry ring ≡ Some (m, e) → IsRingModule m
ring_given [] d ring m e is given = absurd (no_module m (sym is ∙ (sym (module_back ring) ∙ ap module_of given)))
ring_given (r ∷ rings) d ring m e is given =
    subst IsRingModule (ap (λ (o : Option Module). or_module o d) (sym is.1 ∙ (sym (module_back ring) ∙ ap module_of given))) is.0

pub host_reports_determine_served : OneModuleEach → ServedAreReportable → HostReportsDetermineReplies → HostReportsDetermineServed
host_reports_determine_served one_module law determine one other text a b same =
    let first = law one a.formats a.entries a.replies a.ring a.takes a.served in
    let second = law other b.formats b.entries b.replies b.ring b.takes b.served in
    let others : All (IsReportable a.formats b.entries) b.replies = subst (λ (fs : List Module). All (IsReportable fs b.entries) b.replies) (sym same) second.each in
    let taken : All (IsReportableTake a.formats b.entries (descriptor_entry b.ring)) b.takes = subst (λ (fs : List Module). All (IsReportableTake fs b.entries (descriptor_entry b.ring)) b.takes) (sym same) second.taken in
    let are_one : AreOneModule (descriptor_entry a.ring) (descriptor_entry b.ring) =
    λ m k e f left right. one_module ring_bytes m k (ring_given a.served.job.rings a.served.descriptors a.ring m e a.served.ring_is left).0 (ring_given b.served.job.rings b.served.descriptors b.ring k f b.served.ring_is right).0 in
    let equal : host_report a.formats a.entries a.replies (descriptor_entry a.ring) a.takes ≡ host_report a.formats b.entries b.replies (descriptor_entry b.ring) b.takes =
    sym a.text_is ∙ b.text_is ∙ ap (λ (fs : List Module). host_report fs b.entries b.replies (descriptor_entry b.ring) b.takes) (sym same) in
    determine a.formats a.entries b.entries a.replies b.replies (descriptor_entry a.ring) (descriptor_entry b.ring) a.takes b.takes first.words first.no_spot_word first.each others are_one first.taken taken equal
