-- Each take of a served job can be read back from its report.
use Rattle.std.proofs.Common.{◌≡◌, inl, inr, ℕ, ◌+◌, ◌*◌, ◌<◌, ◌≤◌, ◌^◌, List, [], ◌∷◌, ◌++◌, length, Option, Some, None, true, slice_index, refl, sym, ap, ◌∙◌, subst, arith, ◌%◌}
use Rattle.std.specs.Prelude.{IfSome}
use Rattle.std.specs.List.{All}
use Rattle.std.proofs.lemmas.List.Elements.{All-nil, All-cons, All-head, All-tail, All-append, All-weaker}
use Rattle.std.proofs.lemmas.List.{take_all}
use Rattle.td_num.specs.Lists.{AreBytes}
use Rattle.td_num.proofs.Digits.{are_bytes as bytes_of}
use Rattle.td_core.specs.declared.module.Module.{Module}
use Rattle.td_core.specs.declared.module.Entry.{Entry}
use Rattle.td_core.specs.declared.outcome.Verdict.{Verdict}
use Rattle.td_core.specs.declared.outcome.Verdict.TheVariants.{Accept, Reject}
use Rattle.td_core.specs.declared.outcome.Outcome.{Outcome}
use Rattle.td_core.specs.Outcome.{Ending, Accepted, Rejected, outcome_of}
use Rattle.td_stream.specs.declared.load.Load.{Load}
use Rattle.td_stream.specs.declared.stretch.Stretch.{Stretch}
use Rattle.td_stream.specs.Layouts.{plain, IsNumberOf}
use Rattle.td_stream.specs.Loads.{Inside}
use Rattle.td_meaning.specs.Meaning.{meaning}
use Rattle.td_meaning.specs.Copies.{opened, outcome}
use Rattle.td_meaning.proofs.Copying.{opened_alone}
use Rattle.td_meaning.specs.Throughout.{OnEnding}
use Rattle.td_front.specs.Checked.{IsChecked}
use Rattle.td_words.specs.declared.view.Access.{Access}
use Rattle.td_words.specs.declared.view.Access.TheVariants.{Load as LoadOf, Store}
use Rattle.td_words.specs.declared.view.SeatView.{SeatView}
use Rattle.td_words.specs.History.{loads}
use Rattle.td_posts.specs.declared.reply.Reply.{Reply}
use Rattle.td_posts.specs.declared.ring.RingJob.{RingJob}
use Rattle.td_posts.specs.declared.job.HostJob.{HostJob}
use Rattle.td_posts.specs.Posts.{outcome_in, zeros}
use Rattle.td_live.specs.Live.{steps_for}
use Rattle.td_report.specs.Laws.{IsShownLoad}
use Rattle.td_report_facts.specs.Laws.{IsSizedLayout, IsHostSized, IsReportableOutcome, OutcomesAreReportable}
use Rattle.td_report_facts.proofs.Laid.{SmallLoad, of_64_bits, plainly_shown, shown_by_stretches}
use Rattle.td_descr.specs.declared.next.Next.{Next}
use Rattle.td_descr.specs.declared.next.Next.TheVariants.{Idle, Overrun, Bad, Message}
use Rattle.td_descr.specs.declared.next.Standing.{Standing}
use Rattle.td_descr.specs.declared.next.Standing.TheVariants.{Nothing, Lost, Waiting}
use Rattle.td_descr.specs.Words.{load_of, raised}
use Rattle.td_descr.specs.Ring.{standing, desc_entry, desc_args, desc_cells, desc_bytes, answer, CellsAreWithin}
use Rattle.td_descr.specs.Shape.{has_ring_shape, ShapeAcceptsWithin, ShapeFits, ShapeHasNoBuffers}
use Rattle.td_takes.specs.declared.take.Take.{Take}
use Rattle.td_takes.specs.Takes.{ring_layout, message_layout, ring_steps, message_steps, take_steps, all_steps, loads_of, taken_after, IsDescriptor, IsMessage, HasMessage, IsAnswer, IsTake, AreTakes}
use Rattle.td_takes.specs.TakesServed.{AreTaken, all_takes, TakesServed}
use Rattle.td_host.specs.Served.{In}
use Rattle.td_report_host.specs.Report.{HasMessageWords, HasTakenWords}
use Rattle.td_report_host.specs.Laws.{IsReportableDescr, IsReportableMessage, IsReportableAnswer, IsReportableTake}
use Rattle.td_cli_input.proofs.Sounds.{at_version}
use Rattle.td_cli_host.proofs.Reported.{Below, SmallPair}
use Rattle.td_cli_host.proofs.Ringed.{entry_there}

-- ---- what was loaded

-- each of these steps that is a load gave a value of 64 bits
abbrev SmallSteps : List Access → Type 0
SmallSteps steps = All SmallPair (loads steps)

small_left : (xs ys : List Access) → SmallSteps (xs ++ ys) → SmallSteps xs
small_left [] ys h = All-nil SmallPair
small_left (LoadOf i v ∷ xs) ys h = All-cons SmallPair (i, v) (loads xs) (All-head SmallPair (i, v) (loads (xs ++ ys)) h) (small_left xs ys (All-tail SmallPair (i, v) (loads (xs ++ ys)) h))
small_left (Store i v ∷ xs) ys h = small_left xs ys h

small_right : (xs ys : List Access) → SmallSteps (xs ++ ys) → SmallSteps ys
small_right [] ys h = h
small_right (LoadOf i v ∷ xs) ys h = small_right xs ys (All-tail SmallPair (i, v) (loads (xs ++ ys)) h)
small_right (Store i v ∷ xs) ys h = small_right xs ys h

steps_small : (layout : List Stretch) (ls : List Load) → SmallSteps (steps_for layout ls) → All SmallLoad ls
steps_small layout [] h = All-nil SmallLoad
steps_small layout (l ∷ ls) h = All-cons SmallLoad l ls (All-head SmallPair _ (loads (steps_for layout ls)) h) (steps_small layout ls (All-tail SmallPair _ (loads (steps_for layout ls)) h))

raised_small : (base : ℕ) (ls : List Load) → All SmallLoad (raised base ls) → All SmallLoad ls
raised_small base [] h = All-nil SmallLoad
raised_small base (l ∷ ls) h = All-cons SmallLoad l ls (All-head SmallLoad _ (raised base ls) h) (raised_small base ls (All-tail SmallLoad _ (raised base ls) h))

-- ---- what is accepted as a descriptor

three : (cells : List ℕ) → length cells ≡ 3 → cells ≡ slice_index cells 0 ∷ slice_index cells 1 ∷ slice_index cells 2 ∷ []
three [] e = absurd (omega (arith, e))
three (a ∷ []) e = absurd (omega (arith, e))
three (a ∷ b ∷ []) e = absurd (omega (arith, e))
three (a ∷ b ∷ c ∷ []) e = refl
three (a ∷ b ∷ c ∷ d ∷ cells) e = absurd (omega (arith, e))

after_one : (taken : ℕ) (n : Next) → taken_after taken n ≤ taken + 1
after_one taken (Idle made) = omega arith
after_one taken (Overrun made) = omega arith
after_one taken (Bad reason pos) = omega arith
after_one taken (Message number place size id) = omega arith

-- what the crates below say of descriptors
pub record BelowTakes : Type 0 where
  pub told : OutcomesAreReportable
  pub fits : ShapeFits
  pub within : ShapeAcceptsWithin
  pub none : ShapeHasNoBuffers

-- limits of a ring
pub record IsSmallRing (ring : RingJob) : Type 0 where
  pub most : ring.most ≤ 1048576
  pub takes : ring.takes ≤ 4096

module _ (below : Below) (more : BelowTakes) (top : Module) (job : HostJob) (checked : All IsChecked job.formats) (sized : IsHostSized top job) (m : Module) (own : IsChecked m) (shape : has_ring_shape m ≡ true) (room : ℕ) (narrow : room < 2 ^ 32) where
  abbrev ring_module : Option (Module × Entry)
  ring_module = Some (m, desc_entry)

  -- some list of sixteen bytes that carries the loads of a descriptor
  abbrev Carried : ℕ → Reply → Type 0
  Carried most d = (b : List ℕ) × AreBytes b × (length b ≤ 1048576) × (outcome m desc_entry (desc_args room most) desc_cells b ≡ outcome_in d)

  carried : (most : ℕ) (d : Reply) → IsDescriptor m room most d → Carried most d
  carried most d h =
      let message = below.carry (plain desc_bytes) d.loads.list h.fetched.rising in
      let b = message.0 in
      let bytes : AreBytes b = bytes_of b message.2 in
      let size = message.1.size in
      let short : length b ≤ 1048576 = omega (arith, size) in
      (b, bytes, short, (h.fetched.holds b message.1 bytes).same)

  descr_told : (most : ℕ) (d : Reply) → most ≤ 1048576 → IsDescriptor m room most d → IsReportableOutcome m desc_entry (outcome_in d)
  descr_told most d low h =
      let c = carried most d h in
      let fit = more.fits m shape room most narrow (omega (arith, low)) in
      subst (IsReportableOutcome m desc_entry) c.3 (more.told m desc_entry (desc_args room most) desc_cells c.0 own (entry_there m shape) fit.0 fit.1 c.1 c.2)

  descr_loads : (most : ℕ) (d : Reply) → IsDescriptor m room most d → All SmallLoad d.loads.list → All (IsShownLoad d.layout) d.loads.list
  descr_loads most d h small =
      subst (λ (o : Option (List Stretch)). All (IsShownLoad o) d.loads.list) (sym h.is.list)
      (plainly_shown d.loads.list (of_64_bits (plain desc_bytes) d.loads.list (omega arith) h.fetched.inside small))

  descr_reportable : (most : ℕ) (d : Reply) → most ≤ 1048576 → IsDescriptor m room most d → All SmallLoad d.loads.list → IsReportableDescr ring_module d
  descr_reportable most d low h small =
      let told = descr_told most d low h in
      let words = below.words m own in
      record {
        format = m;
        entry = desc_entry;
        is_ring = refl;
        words = words.0;
        no_spot_word = words.1;
        run = record { named = told.named; frames = told.frames; cells = told.cells; copies = told.copies; loads = descr_loads most d h small };
      }

  descr_within : (most pos : ℕ) (d : Reply) → IsDescriptor m room most d → d.verdict ≡ Accept pos → CellsAreWithin room most d.cells.items
  descr_within most pos d h accepts =
      let c = carried most d h in
      let end : List ℕ → Ending = λ cells. (meaning m desc_entry (desc_args room most) cells c.0).ending in
      let alone = opened_alone m desc_entry desc_cells (more.none m shape) in
      let within : OnEnding (end (opened m desc_entry desc_cells)) (λ q cells. CellsAreWithin room most cells) =
      subst (λ (cells : List ℕ). OnEnding (end cells) (λ q cells. CellsAreWithin room most cells)) (sym alone) (more.within m shape room most c.0 c.1) in
      by c.0 (end (opened m desc_entry desc_cells)) c.3 within
    where
      by : (b : List ℕ) (e : Ending) → outcome_of 3 b e ≡ outcome_in d → OnEnding e (λ q cells. CellsAreWithin room most cells) → CellsAreWithin room most d.cells.items
      by b (Accepted q cells) same w = subst (CellsAreWithin room most) (sym (take_all 3 cells (let n = w.count in omega (arith, n))) ∙ ap (λ (o : Outcome). o.cells) same) w
      by b (Rejected reason q trace cells) same w = let verdict : Reject reason q ≡ d.verdict = ap (λ (o : Outcome). o.verdict) same in absurd (cc)

  -- ---- a message

  message_reportable : (place size : ℕ) (r : Reply) → place < 2 ^ 64 → size ≤ 1048576 → IsMessage job place size r → All SmallLoad r.loads.list → IsReportableMessage job.formats job.entries r
  message_reportable place size r low short h small =
      let layout : List Stretch = message_layout place size in
      let message = below.carry layout r.loads.list h.fetched.rising in
      let b = message.0 in
      let bytes : AreBytes b = bytes_of b message.2 in
      let length_is = message.1.size in
      let long : length b ≤ 1048576 = omega (arith, length_is, short) in
      let format = at_version job.formats 0 h.format checked h.version.0 in
      let told : IsReportableOutcome h.format h.entry (outcome h.format h.entry job.args (zeros job.cells) b) = below.told top job b 0 h.format h.entry h.version format sized bytes long in
      let own_told : IsReportableOutcome h.format h.entry (outcome_in r) = subst (IsReportableOutcome h.format h.entry) (h.fetched.holds b message.1 bytes).same told in
      let is_sized : IsSizedLayout layout = record { few = omega arith; places = All-cons (λ (s : Stretch). s.place < 2 ^ 64) (record { place = place; size = size }) [] low (All-nil (λ (s : Stretch). s.place < 2 ^ 64)) } in
      let limit : size + 0 ≤ 1048576 = omega (arith, short) in
      record {
        format = h.format;
        entry = h.entry;
        is_format = h.version.0;
        is_entry = h.version.1;
        run = record {
          named = own_told.named;
          frames = own_told.frames;
          cells = own_told.cells;
          copies = own_told.copies;
          loads = subst (λ (o : Option (List Stretch)). All (IsShownLoad o) r.loads.list) (sym h.is.list)
              (shown_by_stretches layout r.loads.list is_sized limit h.fetched.inside (of_64_bits layout r.loads.list limit h.fetched.inside small));
        };
      }

  -- ---- a take

  abbrev AnswerTold : ℕ → Next → Option Reply → Option Reply → Type 0
  AnswerTold head next descr message = IsReportableAnswer job.formats job.entries ring_module head next descr message

  no_descr : (t : Take) (n : Next) → t.next ≡ n → t.descr ≡ None → AnswerTold t.head n None t.message → AnswerTold t.head t.next t.descr t.message
  no_descr t n next descr h = subst (λ (x : Next × Option Reply). AnswerTold t.head x.0 x.1 t.message) (λ i. (sym next i, sym descr i)) h

  accepted : (most taken pos : ℕ) (head : ℕ) (d : Reply) (message : Option Reply) → most ≤ 1048576 → taken < 2 ^ 64 → IsDescriptor m room most d → All SmallLoad d.loads.list → d.verdict ≡ Accept pos
      → HasMessage job (answer taken (Accept pos) d.cells.items) message → SmallSteps (message_steps (answer taken (Accept pos) d.cells.items) message) → AnswerTold head (answer taken (Accept pos) d.cells.items) (Some d) message
  accepted most taken pos head d None low few h small accepts has steps = absurd has
  accepted most taken pos head d (Some r) low few h small accepts has steps =
      let cells = d.cells.items in
      let within = descr_within most pos d h accepts in
      let place = within.place in
      let size = within.few in
      let layout = message_layout (slice_index cells 0) (slice_index cells 1) in (
        descr_reportable most d low h small,
        (pos, accepts, three cells h.cells),
        few,
        message_reportable (slice_index cells 0) (slice_index cells 1) r (omega (arith, place, narrow)) (omega (arith, size, low)) has (steps_small layout r.loads.list steps),
      )

  waiting : (most taken : ℕ) (t : Take) (d : Reply) → most ≤ 1048576 → taken < 2 ^ 64 → IsDescriptor m room most d → All SmallLoad d.loads.list → t.descr ≡ Some d → t.next ≡ answer taken d.verdict d.cells.items
      → HasMessage job t.next t.message → SmallSteps (message_steps t.next t.message) → AnswerTold t.head t.next t.descr t.message
  waiting most taken t d low few h small descr next has steps = by d.verdict refl
    where
      by : (v : Verdict) → d.verdict ≡ v → AnswerTold t.head t.next t.descr t.message
      by (Accept pos) e =
          let is : t.next ≡ answer taken (Accept pos) d.cells.items = next ∙ ap (λ (v : Verdict). answer taken v d.cells.items) e in
          subst (λ (x : Next × Option Reply). AnswerTold t.head x.0 x.1 t.message) (λ i. (sym is i, sym descr i))
          (accepted most taken pos t.head d t.message low few h small e (subst (λ (n : Next). HasMessage job n t.message) is has) (subst (λ (n : Next). SmallSteps (message_steps n t.message)) is steps))
      by (Reject reason pos) e =
          let is : t.next ≡ Bad reason pos = next ∙ ap (λ (v : Verdict). answer taken v d.cells.items) e in
          subst (λ (x : Next × Option Reply). AnswerTold t.head x.0 x.1 t.message) (λ i. (sym is i, sym descr i))
          (descr_reportable most d low h small, e, subst (λ (n : Next). HasMessage job n t.message) is has)

  answered : (s : Standing) (most taken : ℕ) (t : Take) → most ≤ 1048576 → taken < 2 ^ 64 → IsAnswer s m room most taken t → HasMessage job t.next t.message → All SmallLoad (loads_of t.descr) → SmallSteps (message_steps t.next t.message)
      → AnswerTold t.head t.next t.descr t.message
  answered Nothing most taken t low few h has small steps = no_descr t (Idle t.head) h.0 h.1 (refl, refl, subst (λ (n : Next). HasMessage job n t.message) h.0 has)
  answered Lost most taken t low few h has small steps = no_descr t (Overrun t.head) h.0 h.1 (refl, refl, subst (λ (n : Next). HasMessage job n t.message) h.0 has)
  answered Waiting most taken t low few h has small steps = waiting most taken t h.0 low few h.2 (subst (λ (o : Option Reply). All SmallLoad (loads_of o)) h.1 small) h.1 h.3 has steps

  abbrev TakeTold : Take → Type 0
  TakeTold t = IsReportableTake job.formats job.entries ring_module t

  take_reportable : (ring : RingJob) (taken : ℕ) (t : Take) → IsSmallRing ring → taken < 2 ^ 64 → t.ring < 2 ^ 64 → t.number < 2 ^ 64 → IsTake job m room ring taken t → SmallSteps (take_steps ring taken t) → TakeTold t
  take_reportable ring taken t limits few low number h steps =
      let first = ring_steps ring taken t.head (loads_of t.descr) in
      let second = message_steps t.next t.message in
      let looked = small_left first second steps in
      let ring_loads = raised (1 + 2 * (taken % ring.entries)) (loads_of t.descr) in
      let all = steps_small (ring_layout ring) (load_of 0 t.head ∷ ring_loads) looked in
      let head : t.head < 2 ^ 64 = All-head SmallLoad (load_of 0 t.head) ring_loads all in
      let descr = raised_small (1 + 2 * (taken % ring.entries)) (loads_of t.descr) (All-tail SmallLoad (load_of 0 t.head) ring_loads all) in
      record {
        of_ring = low;
        number = number;
        head = head;
        answer = answered (standing ring.entries taken t.head) ring.most taken t limits.most few h.answers h.message descr (small_right first second steps);
      }

  ring_reportable : (ring : RingJob) (k n taken : ℕ) (ts : List Take) → IsSmallRing ring → k < 2 ^ 64 → n + length ts ≤ 2 ^ 63 → taken + length ts ≤ 2 ^ 63 → AreTakes job m room ring k n taken ts → SmallSteps (all_steps ring taken ts) → All TakeTold ts
  unfolding AreTakes all_steps
  ring_reportable ring k n taken [] limits low many few h steps = All-nil TakeTold
  ring_reportable ring k n taken (t ∷ ts) limits low many few h steps =
      let is_ring = h.0 in
      let is_number = h.1 in
      let after = after_one taken t.next in
      let first = take_steps ring taken t in
      let rest = all_steps ring (taken_after taken t.next) ts in
      All-cons TakeTold t ts
      (take_reportable ring taken t limits (omega (arith, few)) (omega (arith, is_ring, low)) (omega (arith, is_number, many)) h.2 (small_left first rest steps))
      (ring_reportable ring k (n + 1) (taken_after taken t.next) ts limits low (omega (arith, many)) (omega (arith, few, after)) h.3 (small_right first rest steps))

  rings_reportable : (k : ℕ) (rings : List RingJob) (vs : List SeatView) (tss : List (List Take)) → All IsSmallRing rings → k + length rings ≤ 2 ^ 63 → AreTaken job m room k rings vs tss → ((v : SeatView) → In v vs → SmallSteps v.steps) → All TakeTold (all_takes tss)
  unfolding AreTaken all_takes In
  rings_reportable k [] [] [] limits few h small = All-nil TakeTold
  rings_reportable k [] [] (ts ∷ tss) limits few h small = absurd h
  rings_reportable k [] (v ∷ vs) tss limits few h small = absurd h
  rings_reportable k (ring ∷ rings) [] tss limits few h small = absurd h
  rings_reportable k (ring ∷ rings) (v ∷ vs) [] limits few h small = absurd h
  rings_reportable k (ring ∷ rings) (v ∷ vs) (ts ∷ tss) limits few h small =
      let own_limits = All-head IsSmallRing ring rings limits in
      let takes = own_limits.takes in
      let many : length ts ≡ ring.takes = h.2 in
      All-append TakeTold ts (all_takes tss)
      (ring_reportable ring k 1 0 ts own_limits (omega (arith, few)) (omega (arith, many, takes)) (omega (arith, many, takes)) h.3 (subst SmallSteps h.1 (small v (inl refl))))
      (rings_reportable (k + 1) rings vs tss (All-tail IsSmallRing ring rings limits) (omega (arith, few)) h.4 (λ u q. small u (inr q)))

  -- all takes of the rings' seats, whose loads gave values of 64 bits
  pub takes_reportable : (rings : List RingJob) (takes : List Take) (takers : List SeatView) → All IsSmallRing rings → length rings ≤ 16 → TakesServed job rings m room takes takers → ((v : SeatView) → In v takers → SmallSteps v.steps) → All TakeTold takes
  takes_reportable rings takes takers limits few h small = subst (All TakeTold) (sym h.takes_are) (rings_reportable 1 rings takers h.shares limits (omega (arith, few)) h.are small)

-- ---- a report can name what was loaded

-- with no list of stretches any word can be named
no_list : (o : Option (List Stretch)) (ls : List Load) → o ≡ None → All (λ (l : Load). IsNumberOf o l.word) ls
no_list o ls none = subst (λ (x : Option (List Stretch)). All (λ (l : Load). IsNumberOf x l.word) ls) (sym none) (All-weaker (λ (l : Load). Unit {0}) (λ (l : Load). IsNumberOf None l.word) (λ l h. tt) ls (λ i d h. tt))

of_list : (o : Option (List Stretch)) (layout : List Stretch) (ls : List Load) → o ≡ Some layout → Inside layout ls → All (λ (l : Load). IsNumberOf o l.word) ls
of_list o layout ls is inside = subst (λ (x : Option (List Stretch)). All (λ (l : Load). IsNumberOf x l.word) ls) (sym is) inside

descr_named : (s : Standing) (m : Module) (room most taken : ℕ) (t : Take) → IsAnswer s m room most taken t → IfSome t.descr HasMessageWords
descr_named Nothing m room most taken t h = subst (λ (o : Option Reply). IfSome o HasMessageWords) (sym h.1) tt
descr_named Lost m room most taken t h = subst (λ (o : Option Reply). IfSome o HasMessageWords) (sym h.1) tt
descr_named Waiting m room most taken t h = subst (λ (o : Option Reply). IfSome o HasMessageWords) (sym h.1) (no_list h.0.layout h.0.loads.list h.2.is.list)

message_named : (job : HostJob) (n : Next) (message : Option Reply) → HasMessage job n message → IfSome message HasMessageWords
message_named job (Idle made) message h = subst (λ (o : Option Reply). IfSome o HasMessageWords) (sym h) tt
message_named job (Overrun made) message h = subst (λ (o : Option Reply). IfSome o HasMessageWords) (sym h) tt
message_named job (Bad reason pos) message h = subst (λ (o : Option Reply). IfSome o HasMessageWords) (sym h) tt
message_named job (Message number place size id) None h = absurd h
message_named job (Message number place size id) (Some r) h = of_list r.layout (message_layout place size) r.loads.list h.is.list h.fetched.inside

ring_named : (job : HostJob) (m : Module) (room : ℕ) (ring : RingJob) (k n taken : ℕ) (ts : List Take) → AreTakes job m room ring k n taken ts → All HasTakenWords ts
unfolding AreTakes
ring_named job m room ring k n taken [] h = All-nil HasTakenWords
ring_named job m room ring k n taken (t ∷ ts) h =
    let words : HasTakenWords t = record {
      descr = descr_named (standing ring.entries taken t.head) m room ring.most taken t h.2.answers;
      message = message_named job t.next t.message h.2.message;
    } in
    All-cons HasTakenWords t ts words (ring_named job m room ring k (n + 1) (taken_after taken t.next) ts h.3)

rings_named : (job : HostJob) (m : Module) (room k : ℕ) (rings : List RingJob) (vs : List SeatView) (tss : List (List Take)) → AreTaken job m room k rings vs tss → All HasTakenWords (all_takes tss)
unfolding AreTaken all_takes
rings_named job m room k [] [] [] h = All-nil HasTakenWords
rings_named job m room k [] [] (ts ∷ tss) h = absurd h
rings_named job m room k [] (v ∷ vs) tss h = absurd h
rings_named job m room k (ring ∷ rings) [] tss h = absurd h
rings_named job m room k (ring ∷ rings) (v ∷ vs) [] h = absurd h
rings_named job m room k (ring ∷ rings) (v ∷ vs) (ts ∷ tss) h =
    All-append HasTakenWords ts (all_takes tss) (ring_named job m room ring k 1 0 ts h.3) (rings_named job m room (k + 1) rings vs tss h.4)

-- the loads of each take's replies are of words of their messages
pub takes_named : (job : HostJob) (rings : List RingJob) (m : Module) (room : ℕ) (takes : List Take) (takers : List SeatView) → TakesServed job rings m room takes takers → All HasTakenWords takes
takes_named job rings m room takes takers h = subst (All HasTakenWords) (sym h.takes_are) (rings_named job m room 1 rings takers h.shares h.are)
