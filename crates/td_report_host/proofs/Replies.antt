-- What the lines of the replies in a host's report determine.
use Rattle.std.proofs.Common.{◌≡◌, ◌≢◌, ℕ, ◌<◌, ◌^◌, List, [], ◌∷◌, ◌++◌, map, flat_map, length, drop, zero, suc, ◌≤◌, cond, Bool, true, false, true≢false, refl, sym, ap, ◌∙◌, append_assoc, arith, lit<, codes, decimal}
use Rattle.std.specs.Prelude.{nat_lt, slice_get}
use Rattle.std.proofs.lemmas.Bool.{lt-ltb}
use Rattle.std.proofs.lemmas.Option.{slice_get_within}
use Rattle.std.proofs.lemmas.Fmt.{decimal_injective}
use Rattle.std.proofs.lemmas.Grind.{flat_map-append}
use Rattle.std.proofs.lemmas.List.Elements.{All-head, All-tail, All-cons, All-nil}
use Rattle.std.specs.List.{All}
use Rattle.std.proofs.lemmas.List.{append-nil}
use Rattle.td_report_host.specs.Imports.{Module, Entry, Reply}
use Rattle.td_report.specs.Report.{line}
use Rattle.td_report.specs.Laws.{HasWords, HasNoSpotWord}
use Rattle.td_report.proofs.Cutting.{above_append, AreLines, lines_append}
use Rattle.td_report.proofs.Lines.{differ, decimal_above}
use Rattle.td_report.proofs.Determining.{both_all}
use Rattle.td_report_host.specs.Report.{reply_line, version_line, reply_report}
use Rattle.td_report_host.specs.Laws.{ReportedRun, reported_run, ReportedReply, reported_reply, IsReportable}
use Rattle.td_report_host.proofs.Lines.{Others, IsSeam, cut_seam, pair_words, pair_above, same_pair}
use Rattle.td_report_host.proofs.RunLines.{IsApart, words_under, under_by_lines, under_are_lines, under_others, same_under}

-- ---- the line of a reply

abbrev reply_words : Reply → List ℕ
reply_words r = pair_words (codes "reply ") r.guest r.number

reply_is : (r : Reply) → reply_line r.guest r.number ≡ line (reply_words r)
unfolding reply_line
reply_is r = refl

-- ---- the line of its version

abbrev version_words : ℕ → List ℕ
version_words v = codes "version " ++ decimal v

-- it is there where there are several versions
abbrev version_lines : ℕ → ℕ → List (List ℕ)
version_lines versions v = cond (nat_lt 1 versions) (version_words v ∷ []) []

version_by_lines : (versions v : ℕ) → version_line versions v ≡ flat_map line (version_lines versions v)
unfolding version_line
version_by_lines versions v = by (nat_lt 1 versions)
  where
    by : (b : Bool) → cond b (line (version_words v)) [] ≡ flat_map line (cond b (version_words v ∷ []) [])
    by true = sym (append-nil (line (version_words v)))
    by false = refl

version_others : (c versions v : ℕ) → 115 ≢ c → All (Others c) (version_lines versions v)
version_others c versions v apart = by (nat_lt 1 versions)
  where
    by : (b : Bool) → All (Others c) (cond b (version_words v ∷ []) [])
    by true = All-cons (Others c) (version_words v) [] (λ e. apart e) (All-nil (Others c))
    by false = All-nil (Others c)

version_are_lines : (versions v : ℕ) → v < 2 ^ 64 → AreLines (version_lines versions v)
version_are_lines versions v small = by (nat_lt 1 versions)
  where
    by : (b : Bool) → AreLines (cond b (version_words v ∷ []) [])
    by true = (above_append 10 (codes "version ") (decimal v) (search arith) (decimal_above 10 v (omega arith) small), tt)
    by false = tt

at_most_one : (n : ℕ) → nat_lt 1 n ≡ false → n ≤ 1
at_most_one zero t = omega arith
at_most_one (suc zero) t = omega arith
at_most_one (suc (suc n)) t = absurd (true≢false (sym (lt-ltb 1 (suc (suc n)) (omega arith)) ∙ t))

-- the same lines are of one version, which is the only one where there is no line
same_version : (versions v w : ℕ) (xs ys : List (List ℕ)) → v < versions → w < versions → v < 2 ^ 64 → w < 2 ^ 64 → version_lines versions v ++ xs ≡ version_lines versions w ++ ys → (v ≡ w) × (xs ≡ ys)
same_version versions v w xs ys lv lw sv sw = by (nat_lt 1 versions) refl
  where
    by : (b : Bool) → nat_lt 1 versions ≡ b → cond b (version_words v ∷ []) [] ++ xs ≡ cond b (version_words w ∷ []) [] ++ ys → (v ≡ w) × (xs ≡ ys)
    by true t e =
        let first : version_words v ≡ version_words w = cc in
        let rest : xs ≡ ys = cc in
        (decimal_injective v w sv sw (ap (drop 8) first), rest)
    by false t e = let few : versions ≤ 1 = at_most_one versions t in (omega (arith, few, lv, lw), e)

-- ---- all lines of a reply

abbrev later_words : List Module → List Entry → Reply → List (List ℕ)
later_words ms es r = version_lines (length ms) r.version ++ words_under (slice_get ms r.version) (slice_get es r.version) r

-- the lines of all replies
abbrev pub reply_lines : List Module → List Entry → List Reply → List (List ℕ)
reply_lines ms es replies = flat_map (λ r. reply_words r ∷ later_words ms es r) replies

reply_by_lines : (ms : List Module) (es : List Entry) (r : Reply) → reply_report ms es r ≡ flat_map line (reply_words r ∷ later_words ms es r)
unfolding reply_report
reply_by_lines ms es r =
    let own = slice_get ms r.version in
    let begins = slice_get es r.version in
    let v = version_lines (length ms) r.version in
    let w = words_under own begins r in
    (λ i. reply_is r i ++ version_by_lines (length ms) r.version i ++ under_by_lines own begins r i)
    ∙ (append_assoc (line (reply_words r)) (flat_map line v) (flat_map line w) ∙ ap (λ l. line (reply_words r) ++ l) (sym (flat_map-append line v w)))

pub replies_by_lines : (ms : List Module) (es : List Entry) (replies : List Reply) → flat_map (reply_report ms es) replies ≡ flat_map line (reply_lines ms es replies)
replies_by_lines ms es [] = refl
replies_by_lines ms es (r ∷ replies) =
    let own = reply_words r ∷ later_words ms es r in
    ap (λ l. l ++ flat_map (reply_report ms es) replies) (reply_by_lines ms es r)
    ∙ ap (λ l. flat_map line own ++ l) (replies_by_lines ms es replies)
    ∙ sym (flat_map-append line own (reply_lines ms es replies))

later_are_lines : (ms : List Module) (es : List Entry) (r : Reply) → All HasWords ms → IsReportable ms es r → AreLines (later_words ms es r)
later_are_lines ms es r words h =
    lines_append (version_lines (length ms) r.version) (words_under (slice_get ms r.version) (slice_get es r.version) r)
    (version_are_lines (length ms) r.version h.version)
    (under_are_lines ms es r.version h.format h.entry r words h.is_format h.is_entry h.run)

later_others : (c : ℕ) (ms : List Module) (es : List Entry) (r : Reply) → IsApart c → 115 ≢ c → All (Others c) (later_words ms es r)
later_others c ms es r apart other =
    both_all (Others c) (version_lines (length ms) r.version) (words_under (slice_get ms r.version) (slice_get es r.version) r)
    (version_others c (length ms) r.version other) (under_others c (slice_get ms r.version) (slice_get es r.version) r apart)

pub replies_are_lines : (ms : List Module) (es : List Entry) (replies : List Reply) → All HasWords ms → All (IsReportable ms es) replies → AreLines (reply_lines ms es replies)
replies_are_lines ms es [] words h = tt
replies_are_lines ms es (r ∷ replies) words h =
    let here = All-head (IsReportable ms es) r replies h in
    lines_append (reply_words r ∷ later_words ms es r) (reply_lines ms es replies)
    (pair_above (codes "reply ") r.guest r.number (search arith) here.guest here.number, later_are_lines ms es r words here)
    (replies_are_lines ms es replies words (All-tail (IsReportable ms es) r replies h))

-- no line of a reply has such a fourth byte
pub replies_others : (c : ℕ) (ms : List Module) (es : List Entry) (replies : List Reply) → IsApart c → 115 ≢ c → 108 ≢ c → All (Others c) (reply_lines ms es replies)
replies_others c ms es [] apart version reply = All-nil (Others c)
replies_others c ms es (r ∷ replies) apart version reply =
    both_all (Others c) (reply_words r ∷ later_words ms es r) (reply_lines ms es replies)
    (All-cons (Others c) (reply_words r) (later_words ms es r) (λ e. reply e) (later_others c ms es r apart version))
    (replies_others c ms es replies apart version reply)

-- ---- cut where the line of a reply begins

seam : (ms : List Module) (es : List Entry) (replies : List Reply) → IsSeam 108 (reply_lines ms es replies)
seam ms es [] = tt
seam ms es (r ∷ replies) = refl

apart_from_replies : IsApart 108
apart_from_replies = record {
  verdict = differ 101 108 (lit< tt);
  frame = λ e. differ 108 109 (lit< tt) (sym e);
  out = differ 32 108 (lit< tt);
  copy = λ e. differ 108 121 (lit< tt) (sym e);
  load = differ 100 108 (lit< tt);
}

before_reply : (ms : List Module) (es : List Entry) (r : Reply) → All (Others 108) (later_words ms es r)
before_reply ms es r = later_others 108 ms es r apart_from_replies (λ e. differ 108 115 (lit< tt) (sym e))

same_reply : (ms : List Module) (es fs : List Entry) (r q : Reply) → All HasWords ms → All HasNoSpotWord ms → IsReportable ms es r → IsReportable ms fs q
    → reply_words r ≡ reply_words q → later_words ms es r ≡ later_words ms fs q → reported_reply r ≡ reported_reply q
same_reply ms es fs r q words none hr hq first rest =
    let numbers = same_pair (codes "reply ") r.guest r.number q.guest q.number hr.guest hr.number hq.guest hq.number first in
    let version =
    same_version (length ms) r.version q.version (words_under (slice_get ms r.version) (slice_get es r.version) r) (words_under (slice_get ms q.version) (slice_get fs q.version) q)
    (slice_get_within ms r.version hr.format hr.is_format) (slice_get_within ms q.version hq.format hq.is_format) hr.version hq.version rest in
    let back : q.version ≡ r.version = sym version.0 in
    let run : reported_run r ≡ reported_run q =
    same_under ms es fs r.version hr.format hq.format hr.entry hq.entry r q words none hr.is_format (ap (slice_get ms) version.0 ∙ hq.is_format) hr.is_entry (ap (slice_get fs) version.0 ∙ hq.is_entry) hr.run hq.run
    (version.1 ∙ ap (λ n. words_under (slice_get ms n) (slice_get fs n) q) back) in
    let make : ℕ → ℕ → ℕ → ReportedRun → ReportedReply =
    λ guest number version run. record { guest = guest; number = number; version = version; outcome = run.outcome; loads = run.loads } in
    λ i. make (numbers.0 i) (numbers.1 i) (version.0 i) (run i)

pub same_replies : (ms : List Module) (es fs : List Entry) (rs qs : List Reply) → All HasWords ms → All HasNoSpotWord ms → All (IsReportable ms es) rs → All (IsReportable ms fs) qs
    → reply_lines ms es rs ≡ reply_lines ms fs qs → map reported_reply rs ≡ map reported_reply qs
same_replies ms es fs [] [] words none hr hq same = refl
same_replies ms es fs [] (q ∷ qs) words none hr hq same = absurd (cc)
same_replies ms es fs (r ∷ rs) [] words none hr hq same = absurd (cc)
same_replies ms es fs (r ∷ rs) (q ∷ qs) words none hr hq same =
    let R : Reply → Type 0 = IsReportable ms es in
    let Q : Reply → Type 0 = IsReportable ms fs in
    let first : reply_words r ≡ reply_words q = cc in
    let later : later_words ms es r ++ reply_lines ms es rs ≡ later_words ms fs q ++ reply_lines ms fs qs = cc in
    let parts =
    cut_seam 108 (later_words ms es r) (reply_lines ms es rs) (later_words ms fs q) (reply_lines ms fs qs)
    (before_reply ms es r) (seam ms es rs) (before_reply ms fs q) (seam ms fs qs) later in
    let here = same_reply ms es fs r q words none (All-head R r rs hr) (All-head Q q qs hq) first parts.0 in
    let others = same_replies ms es fs rs qs words none (All-tail R r rs hr) (All-tail Q q qs hq) parts.1 in
    cc
