-- What the lines of the takes in a host's report determine.
use Rattle.std.proofs.Common.{◌≡◌, ℕ, ◌<◌, List, [], ◌∷◌, ◌++◌, map, flat_map, Option, Some, None, refl, sym, ap, ◌∙◌, subst, append_assoc, arith, lit<, codes, decimal, slice_index}
use Rattle.std.specs.Prelude.{slice_get}
use Rattle.std.specs.Option.{option_map}
use Rattle.std.proofs.lemmas.Fmt.{decimal_injective}
use Rattle.std.proofs.lemmas.Grind.{flat_map-append}
use Rattle.std.proofs.lemmas.List.Elements.{All-head, All-tail, All-cons, All-nil}
use Rattle.std.specs.List.{All}
use Rattle.td_report_host.specs.Imports.{Module, Entry, Verdict, Accept, Reject, Reply, Next, Idle, Overrun, Bad, Message, Take}
use Rattle.td_core.specs.declared.outcome.Reason.TheVariants.{NotEnough}
use Rattle.td_report.specs.Report.{line, hex_digits}
use Rattle.td_report.specs.Laws.{HasWords, HasNoSpotWord}
use Rattle.td_report.proofs.Cutting.{Above, above_append, after, AreLines, lines_append}
use Rattle.td_report.proofs.Hexadecimals.{hex_above, same_value}
use Rattle.td_report.proofs.Lines.{first_of, differ, decimal_above, verdict_words}
use Rattle.td_report.proofs.Determining.{both_all}
use Rattle.td_report_host.specs.Report.{ring_line, head_line, message_line, descr_report, message_report, answer_report, take_report}
use Rattle.td_report_host.specs.Laws.{ReportedRun, reported_run, ReportedTake, reported_take, IsReportableRun, IsReportableDescr, IsReportableAnswer, IsReportableTake, AreOneModule}
use Rattle.td_report_host.proofs.Lines.{Others, IsSeam, cut_seam, pair_words, pair_above, same_pair}
use Rattle.td_report_host.proofs.RunLines.{IsApart, run_words, words_under, run_by_lines, under_by_lines, run_are_lines, under_are_lines, run_others, under_others, same_run, same_under}

-- ---- the lines of a take

abbrev ring_words : Take → List ℕ
ring_words t = pair_words (codes "ring ") t.ring t.number

abbrev head_words : ℕ → List ℕ
head_words head = codes "head " ++ hex_digits 16 head

abbrev message_words : ℕ → List ℕ
message_words number = codes "message " ++ decimal number

abbrev descr_lines : Option (Module × Entry) → Option Reply → List (List ℕ)
descr_lines None d = []
descr_lines (Some ring) None = []
descr_lines (Some ring) (Some d) = run_words ring.0 ring.1 d

abbrev message_lines : List Module → List Entry → Option Reply → List (List ℕ)
message_lines ms es None = []
message_lines ms es (Some r) = words_under (slice_get ms 0) (slice_get es 0) r

abbrev answer_lines : List Module → List Entry → Option (Module × Entry) → Next → Option Reply → Option Reply → List (List ℕ)
answer_lines ms es ring (Idle made) d r = codes "idle" ∷ []
answer_lines ms es ring (Overrun made) d r = codes "overrun" ∷ []
answer_lines ms es ring (Bad reason pos) d r = descr_lines ring d
answer_lines ms es ring (Message number place size id) d r = descr_lines ring d ++ message_words number ∷ message_lines ms es r

abbrev later_lines : List Module → List Entry → Option (Module × Entry) → Take → List (List ℕ)
later_lines ms es ring t = head_words t.head ∷ answer_lines ms es ring t.next t.descr t.message

-- the lines of all takes
abbrev pub take_lines : List Module → List Entry → Option (Module × Entry) → List Take → List (List ℕ)
take_lines ms es ring takes = flat_map (λ t. ring_words t ∷ later_lines ms es ring t) takes

-- ---- they are the text

ring_is : (t : Take) → ring_line t.ring t.number ≡ line (ring_words t)
unfolding ring_line
ring_is t = refl

head_is : (head : ℕ) → head_line head ≡ line (head_words head)
unfolding head_line
head_is head = refl

message_is : (number : ℕ) → message_line number ≡ line (message_words number)
unfolding message_line
message_is number = refl

descr_by_lines : (ring : Option (Module × Entry)) (d : Option Reply) → descr_report ring d ≡ flat_map line (descr_lines ring d)
descr_by_lines None d = refl
descr_by_lines (Some ring) None = refl
descr_by_lines (Some ring) (Some d) = run_by_lines ring.0 ring.1 d

message_by_lines : (ms : List Module) (es : List Entry) (r : Option Reply) → message_report ms es r ≡ flat_map line (message_lines ms es r)
message_by_lines ms es None = refl
message_by_lines ms es (Some r) = under_by_lines (slice_get ms 0) (slice_get es 0) r

answer_by_lines : (ms : List Module) (es : List Entry) (ring : Option (Module × Entry)) (n : Next) (d r : Option Reply) → answer_report ms es ring n d r ≡ flat_map line (answer_lines ms es ring n d r)
answer_by_lines ms es ring (Idle made) d r = refl
answer_by_lines ms es ring (Overrun made) d r = refl
answer_by_lines ms es ring (Bad reason pos) d r = descr_by_lines ring d
answer_by_lines ms es ring (Message number place size id) d r =
    let first = descr_lines ring d in
    let last = message_lines ms es r in
    (λ i. descr_by_lines ring d i ++ message_is number i ++ message_by_lines ms es r i)
    ∙ append_assoc (flat_map line first) (line (message_words number)) (flat_map line last)
    ∙ sym (flat_map-append line first (message_words number ∷ last))

take_by_lines : (ms : List Module) (es : List Entry) (ring : Option (Module × Entry)) (t : Take) → take_report ms es ring t ≡ flat_map line (ring_words t ∷ later_lines ms es ring t)
unfolding take_report
take_by_lines ms es ring t =
    (λ i. ring_is t i ++ head_is t.head i ++ answer_by_lines ms es ring t.next t.descr t.message i)
    ∙ append_assoc (line (ring_words t)) (line (head_words t.head)) (flat_map line (answer_lines ms es ring t.next t.descr t.message))

pub takes_by_lines : (ms : List Module) (es : List Entry) (ring : Option (Module × Entry)) (takes : List Take) → flat_map (take_report ms es ring) takes ≡ flat_map line (take_lines ms es ring takes)
takes_by_lines ms es ring [] = refl
takes_by_lines ms es ring (t ∷ takes) =
    let own = ring_words t ∷ later_lines ms es ring t in
    ap (λ l. l ++ flat_map (take_report ms es ring) takes) (take_by_lines ms es ring t)
    ∙ ap (λ l. flat_map line own ++ l) (takes_by_lines ms es ring takes)
    ∙ sym (flat_map-append line own (take_lines ms es ring takes))

-- ---- they have no line feed

descr_words : (ring : Option (Module × Entry)) (d : Reply) → (h : IsReportableDescr ring d) → descr_lines ring (Some d) ≡ run_words h.format h.entry d
descr_words ring d h = ap (λ (x : Option (Module × Entry)). descr_lines x (Some d)) h.is_ring

descr_are_lines : (ring : Option (Module × Entry)) (d : Reply) → IsReportableDescr ring d → AreLines (descr_lines ring (Some d))
descr_are_lines ring d h = subst AreLines (sym (descr_words ring d h)) (run_are_lines h.format h.entry d h.words h.run)

answer_are_lines : (ms : List Module) (es : List Entry) (ring : Option (Module × Entry)) (head : ℕ) (n : Next) (d r : Option Reply) → All HasWords ms → IsReportableAnswer ms es ring head n d r
    → AreLines (answer_lines ms es ring n d r)
answer_are_lines ms es ring head (Idle made) d r words h = (search arith, tt)
answer_are_lines ms es ring head (Overrun made) d r words h = (search arith, tt)
answer_are_lines ms es ring head (Bad reason pos) None r words h = absurd h
answer_are_lines ms es ring head (Bad reason pos) (Some d) r words h = descr_are_lines ring d h.0
answer_are_lines ms es ring head (Message number place size id) None r words h = absurd h
answer_are_lines ms es ring head (Message number place size id) (Some d) None words h = absurd h
answer_are_lines ms es ring head (Message number place size id) (Some d) (Some r) words h =
    let message = h.3 in
    lines_append (descr_lines ring (Some d)) (message_words number ∷ message_lines ms es (Some r)) (descr_are_lines ring d h.0) (
      above_append 10 (codes "message ") (decimal number) (search arith) (decimal_above 10 number (omega arith) h.2),
      under_are_lines ms es 0 message.format message.entry r words message.is_format message.is_entry message.run,
    )

head_above : (head : ℕ) → Above 10 (head_words head)
head_above head = above_append 10 (codes "head ") (hex_digits 16 head) (search arith) (hex_above 16 head)

pub takes_are_lines : (ms : List Module) (es : List Entry) (ring : Option (Module × Entry)) (takes : List Take) → All HasWords ms → All (IsReportableTake ms es ring) takes → AreLines (take_lines ms es ring takes)
takes_are_lines ms es ring [] words h = tt
takes_are_lines ms es ring (t ∷ takes) words h =
    let T : Take → Type 0 = IsReportableTake ms es ring in
    let here = All-head T t takes h in
    lines_append (ring_words t ∷ later_lines ms es ring t) (take_lines ms es ring takes)
    (pair_above (codes "ring ") t.ring t.number (search arith) here.of_ring here.number, (head_above t.head, answer_are_lines ms es ring t.head t.next t.descr t.message words here.answer))
    (takes_are_lines ms es ring takes words (All-tail T t takes h))

-- ---- cut where the line of a take begins

pub apart_from_rings : IsApart 103
apart_from_rings = record {
  verdict = differ 101 103 (lit< tt);
  frame = λ e. differ 103 109 (lit< tt) (sym e);
  out = differ 32 103 (lit< tt);
  copy = λ e. differ 103 121 (lit< tt) (sym e);
  load = differ 100 103 (lit< tt);
}

pub seam : (ms : List Module) (es : List Entry) (ring : Option (Module × Entry)) (takes : List Take) → IsSeam 103 (take_lines ms es ring takes)
seam ms es ring [] = tt
seam ms es ring (t ∷ takes) = refl

descr_others : (c : ℕ) (ring : Option (Module × Entry)) (d : Option Reply) → IsApart c → All (Others c) (descr_lines ring d)
descr_others c None d apart = All-nil (Others c)
descr_others c (Some ring) None apart = All-nil (Others c)
descr_others c (Some ring) (Some d) apart = run_others c ring.0 ring.1 d apart

message_others : (c : ℕ) (ms : List Module) (es : List Entry) (r : Option Reply) → IsApart c → All (Others c) (message_lines ms es r)
message_others c ms es None apart = All-nil (Others c)
message_others c ms es (Some r) apart = under_others c (slice_get ms 0) (slice_get es 0) r apart

answer_others : (ms : List Module) (es : List Entry) (ring : Option (Module × Entry)) (n : Next) (d r : Option Reply) → All (Others 103) (answer_lines ms es ring n d r)
answer_others ms es ring (Idle made) d r = All-cons (Others 103) (codes "idle") [] (λ e. differ 101 103 (lit< tt) e) (All-nil (Others 103))
answer_others ms es ring (Overrun made) d r = All-cons (Others 103) (codes "overrun") [] (λ e. differ 103 114 (lit< tt) (sym e)) (All-nil (Others 103))
answer_others ms es ring (Bad reason pos) d r = descr_others 103 ring d apart_from_rings
answer_others ms es ring (Message number place size id) d r =
    both_all (Others 103) (descr_lines ring d) (message_words number ∷ message_lines ms es r) (descr_others 103 ring d apart_from_rings)
    (All-cons (Others 103) (message_words number) (message_lines ms es r) (λ e. differ 103 115 (lit< tt) (sym e)) (message_others 103 ms es r apart_from_rings))

later_others : (ms : List Module) (es : List Entry) (ring : Option (Module × Entry)) (t : Take) → All (Others 103) (later_lines ms es ring t)
later_others ms es ring t = All-cons (Others 103) (head_words t.head) (answer_lines ms es ring t.next t.descr t.message) (λ e. differ 100 103 (lit< tt) e) (answer_others ms es ring t.next t.descr t.message)

-- ---- what an answer's lines say

-- the first byte of the first line tells the four answers apart
abbrev begins_with : List (List ℕ) → ℕ
begins_with [] = 0
begins_with (l ∷ lines) = first_of l

abbrev mark_of : Next → ℕ
mark_of (Idle made) = 105
mark_of (Overrun made) = 111
mark_of (Bad reason pos) = 114
mark_of (Message number place size id) = 97

verdict_begins : (ring : Option (Module × Entry)) (d : Reply) (more : List (List ℕ)) → IsReportableDescr ring d → begins_with (descr_lines ring (Some d) ++ more) ≡ first_of (verdict_words d.verdict)
verdict_begins ring d more h = ap (λ l. begins_with (l ++ more)) (descr_words ring d h)

marked : (ms : List Module) (es : List Entry) (ring : Option (Module × Entry)) (head : ℕ) (n : Next) (d r : Option Reply) → IsReportableAnswer ms es ring head n d r → begins_with (answer_lines ms es ring n d r) ≡ mark_of n
marked ms es ring head (Idle made) d r h = refl
marked ms es ring head (Overrun made) d r h = refl
marked ms es ring head (Bad reason pos) None r h = absurd h
marked ms es ring head (Bad reason pos) (Some d) r h = ap begins_with (descr_words ring d h.0) ∙ ap (λ (v : Verdict). first_of (verdict_words v)) h.1
marked ms es ring head (Message number place size id) None r h = absurd h
marked ms es ring head (Message number place size id) (Some d) None h = absurd h
marked ms es ring head (Message number place size id) (Some d) (Some r) h =
    verdict_begins ring d (message_words number ∷ message_lines ms es (Some r)) h.0 ∙ ap (λ (v : Verdict). first_of (verdict_words v)) h.1.1

same_descr : (ring other : Option (Module × Entry)) (d e : Reply) → AreOneModule ring other → IsReportableDescr ring d → IsReportableDescr other e → descr_lines ring (Some d) ≡ descr_lines other (Some e) → reported_run d ≡ reported_run e
same_descr ring other d e alike hd he same =
    let m = hd.format in
    let one : he.format ≡ m = sym (alike m he.format hd.entry he.entry hd.is_ring he.is_ring) in
    same_run m hd.entry he.entry d e hd.words hd.no_spot_word hd.run (subst (λ (x : Module). IsReportableRun x he.entry e) one he.run)
    (sym (descr_words ring d hd) ∙ same ∙ descr_words other e he ∙ ap (λ (x : Module). run_words x he.entry e) one)

abbrev refused_by : Verdict → Next
refused_by (Accept pos) = Bad NotEnough pos
refused_by (Reject reason pos) = Bad reason pos

abbrev taken_by : ℕ → List ℕ → Next
taken_by number cells = Message number (slice_index cells 0) (slice_index cells 1) (slice_index cells 2)

-- the answer, and what is said of the descriptor and of the message
abbrev IsSaid : Next → Option Reply → Option Reply → Next → Option Reply → Option Reply → Type 0
IsSaid n d r k e q = (n ≡ k) × (option_map reported_run d ≡ option_map reported_run e) × (option_map reported_run r ≡ option_map reported_run q)

no_replies : {d r e q : Option Reply} → d ≡ None → r ≡ None → e ≡ None → q ≡ None → (option_map reported_run d ≡ option_map reported_run e) × (option_map reported_run r ≡ option_map reported_run q)
no_replies hd hr he hq = (ap (option_map reported_run) (hd ∙ sym he), ap (option_map reported_run) (hr ∙ sym hq))

module _ (ms : List Module) (es fs : List Entry) (ring other : Option (Module × Entry)) (alike : AreOneModule ring other) (words : All HasWords ms) (none : All HasNoSpotWord ms) where
  same_message : (head head' number place size id number' place' size' id' : ℕ) (d e r q : Reply)
      → IsReportableAnswer ms es ring head (Message number place size id) (Some d) (Some r) → IsReportableAnswer ms fs other head' (Message number' place' size' id') (Some e) (Some q)
      → answer_lines ms es ring (Message number place size id) (Some d) (Some r) ≡ answer_lines ms fs other (Message number' place' size' id') (Some e) (Some q)
      → IsSaid (Message number place size id) (Some d) (Some r) (Message number' place' size' id') (Some e) (Some q)
  same_message head head' number place size id number' place' size' id' d e r q hn hk same =
      let apart : IsApart 115 = record {
        verdict = differ 101 115 (lit< tt);
        frame = differ 109 115 (lit< tt);
        out = differ 32 115 (lit< tt);
        copy = λ e. differ 115 121 (lit< tt) (sym e);
        load = differ 100 115 (lit< tt);
      } in
      let parts =
      cut_seam 115 (descr_lines ring (Some d)) (message_words number ∷ message_lines ms es (Some r)) (descr_lines other (Some e)) (message_words number' ∷ message_lines ms fs (Some q))
      (descr_others 115 ring (Some d) apart) refl (descr_others 115 other (Some e) apart) refl same in
      let first : message_words number ≡ message_words number' = let lines = parts.1 in cc in
      let rest : message_lines ms es (Some r) ≡ message_lines ms fs (Some q) = let lines = parts.1 in cc in
      let descr = same_descr ring other d e alike hn.0 hk.0 parts.0 in
      let one = hn.3 in
      let two = hk.3 in
      let message = same_under ms es fs 0 one.format two.format one.entry two.entry r q words none one.is_format two.is_format one.is_entry two.is_entry one.run two.run rest in
      let count : number ≡ number' = decimal_injective number number' hn.2 hk.2 (after (codes "message ") (decimal number) (decimal number') first) in
      let cells : place ∷ size ∷ id ∷ [] ≡ place' ∷ size' ∷ id' ∷ [] = sym hn.1.2 ∙ ap (λ (x : ReportedRun). x.outcome.cells) descr ∙ hk.1.2 in
      (λ i. taken_by (count i) (cells i), ap Some descr, ap Some message)

  same_answer : (head head' : ℕ) (n k : Next) (d e r q : Option Reply) → head ≡ head' → IsReportableAnswer ms es ring head n d r → IsReportableAnswer ms fs other head' k e q
      → mark_of n ≡ mark_of k → answer_lines ms es ring n d r ≡ answer_lines ms fs other k e q → IsSaid n d r k e q
  same_answer head head' (Idle a) (Idle b) d e r q heads hn hk mark same = let more = no_replies hn.1 hn.2 hk.1 hk.2 in (ap Idle (hn.0 ∙ heads ∙ sym hk.0), more.0, more.1)
  same_answer head head' (Idle a) (Overrun b) d e r q heads hn hk mark same = absurd (differ 105 111 (lit< tt) mark)
  same_answer head head' (Idle a) (Bad s b) d e r q heads hn hk mark same = absurd (differ 105 114 (lit< tt) mark)
  same_answer head head' (Idle a) (Message x y z w) d e r q heads hn hk mark same = absurd (differ 97 105 (lit< tt) (sym mark))
  same_answer head head' (Overrun a) (Idle b) d e r q heads hn hk mark same = absurd (differ 105 111 (lit< tt) (sym mark))
  same_answer head head' (Overrun a) (Overrun b) d e r q heads hn hk mark same = let more = no_replies hn.1 hn.2 hk.1 hk.2 in (ap Overrun (hn.0 ∙ heads ∙ sym hk.0), more.0, more.1)
  same_answer head head' (Overrun a) (Bad s b) d e r q heads hn hk mark same = absurd (differ 111 114 (lit< tt) mark)
  same_answer head head' (Overrun a) (Message x y z w) d e r q heads hn hk mark same = absurd (differ 97 111 (lit< tt) (sym mark))
  same_answer head head' (Bad s a) (Idle b) d e r q heads hn hk mark same = absurd (differ 105 114 (lit< tt) (sym mark))
  same_answer head head' (Bad s a) (Overrun b) d e r q heads hn hk mark same = absurd (differ 111 114 (lit< tt) (sym mark))
  same_answer head head' (Bad s a) (Bad t b) None e r q heads hn hk mark same = absurd hn
  same_answer head head' (Bad s a) (Bad t b) (Some d) None r q heads hn hk mark same = absurd hk
  same_answer head head' (Bad s a) (Bad t b) (Some d) (Some e) r q heads hn hk mark same =
      let descr = same_descr ring other d e alike hn.0 hk.0 same in
      let verdict : Reject s a ≡ Reject t b = sym hn.1 ∙ ap (λ (x : ReportedRun). x.outcome.verdict) descr ∙ hk.1 in
      (ap refused_by verdict, ap Some descr, ap (option_map reported_run) (hn.2 ∙ sym hk.2))
  same_answer head head' (Bad s a) (Message x y z w) d e r q heads hn hk mark same = absurd (differ 97 114 (lit< tt) (sym mark))
  same_answer head head' (Message x y z w) (Idle b) d e r q heads hn hk mark same = absurd (differ 97 105 (lit< tt) mark)
  same_answer head head' (Message x y z w) (Overrun b) d e r q heads hn hk mark same = absurd (differ 97 111 (lit< tt) mark)
  same_answer head head' (Message x y z w) (Bad t b) d e r q heads hn hk mark same = absurd (differ 97 114 (lit< tt) mark)
  same_answer head head' (Message x y z w) (Message x' y' z' w') None e r q heads hn hk mark same = absurd hn
  same_answer head head' (Message x y z w) (Message x' y' z' w') (Some d) e None q heads hn hk mark same = absurd hn
  same_answer head head' (Message x y z w) (Message x' y' z' w') (Some d) None (Some r) q heads hn hk mark same = absurd hk
  same_answer head head' (Message x y z w) (Message x' y' z' w') (Some d) (Some e) (Some r) None heads hn hk mark same = absurd hk
  same_answer head head' (Message x y z w) (Message x' y' z' w') (Some d) (Some e) (Some r) (Some q) heads hn hk mark same =
      same_message head head' x y z w x' y' z' w' d e r q hn hk same

  same_take : (t u : Take) → IsReportableTake ms es ring t → IsReportableTake ms fs other u → ring_words t ≡ ring_words u → later_lines ms es ring t ≡ later_lines ms fs other u → reported_take t ≡ reported_take u
  same_take t u ht hu first rest =
      let numbers = same_pair (codes "ring ") t.ring t.number u.ring u.number ht.of_ring ht.number hu.of_ring hu.number first in
      let words : head_words t.head ≡ head_words u.head = cc in
      let head : t.head ≡ u.head = same_value t.head u.head ht.head hu.head (after (codes "head ") (hex_digits 16 t.head) (hex_digits 16 u.head) words) in
      let lines : answer_lines ms es ring t.next t.descr t.message ≡ answer_lines ms fs other u.next u.descr u.message = cc in
      let mark : mark_of t.next ≡ mark_of u.next =
      sym (marked ms es ring t.head t.next t.descr t.message ht.answer) ∙ ap begins_with lines ∙ marked ms fs other u.head u.next u.descr u.message hu.answer in
      let said = same_answer t.head u.head t.next u.next t.descr u.descr t.message u.message head ht.answer hu.answer mark lines in
      let make : ℕ → ℕ → ℕ → Next → Option ReportedRun → Option ReportedRun → ReportedTake =
      λ ring number head next descr message. record { ring = ring; number = number; head = head; next = next; descr = descr; message = message } in
      λ i. make (numbers.0 i) (numbers.1 i) (head i) (said.0 i) (said.1 i) (said.2 i)

  pub same_takes : (ts us : List Take) → All (IsReportableTake ms es ring) ts → All (IsReportableTake ms fs other) us → take_lines ms es ring ts ≡ take_lines ms fs other us → map reported_take ts ≡ map reported_take us
  same_takes [] [] ht hu same = refl
  same_takes [] (u ∷ us) ht hu same = absurd (cc)
  same_takes (t ∷ ts) [] ht hu same = absurd (cc)
  same_takes (t ∷ ts) (u ∷ us) ht hu same =
      let T : Take → Type 0 = IsReportableTake ms es ring in
      let U : Take → Type 0 = IsReportableTake ms fs other in
      let first : ring_words t ≡ ring_words u = cc in
      let later : later_lines ms es ring t ++ take_lines ms es ring ts ≡ later_lines ms fs other u ++ take_lines ms fs other us = cc in
      let parts =
      cut_seam 103 (later_lines ms es ring t) (take_lines ms es ring ts) (later_lines ms fs other u) (take_lines ms fs other us)
      (later_others ms es ring t) (seam ms es ring ts) (later_others ms fs other u) (seam ms fs other us) later in
      let here = same_take t u (All-head T t ts ht) (All-head U u us hu) first parts.0 in
      let others = same_takes ts us (All-tail T t ts ht) (All-tail U u us hu) parts.1 in
      cc
