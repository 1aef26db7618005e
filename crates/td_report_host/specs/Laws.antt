-- What the report of a host determines: equal reports are of replies and takes of which it says the same.
use Rattle.std.specs.Prelude.{◌≡◌, ℕ, ◌<◌, ◌^◌, List, [], ◌∷◌, map, slice_get, Option, Some, None}
use Rattle.std.specs.List.{All}
use Rattle.std.specs.Option.{option_map}
use Rattle.td_report_host.specs.Imports.{Module, Entry, Outcome, Accept, Reject, Reply, Next, Idle, Overrun, Bad, Message, Take}
use Rattle.td_report.specs.Laws.{HasWords, HasNoSpotWord, IsNamedOutcome, HasFrames, HasCells, HasCopies, IsShownLoad, ShownLoad, shown_loads}
use Rattle.td_posts.specs.Posts.{outcome_in}
use Rattle.td_report_host.specs.Report.{host_report}

-- ---- what a report says
-- of a validation: its outcome, and each load by what is said of it
pub record ReportedRun : Type 0 where
  pub outcome : Outcome
  pub loads : List ShownLoad

abbrev pub reported_run : Reply → ReportedRun
reported_run r = record { outcome = outcome_in r; loads = shown_loads r.layout r.loads.list }

-- of a reply: all of it, each load by what is said of it
pub record ReportedReply : Type 0 where
  pub guest : ℕ
  pub number : ℕ
  pub version : ℕ
  pub outcome : Outcome
  pub loads : List ShownLoad

abbrev pub reported_reply : Reply → ReportedReply
reported_reply r = record { guest = r.guest; number = r.number; version = r.version; outcome = outcome_in r; loads = shown_loads r.layout r.loads.list }

-- of a take: all of it, and of its two replies their validations
pub record ReportedTake : Type 0 where
  pub ring : ℕ
  pub number : ℕ
  pub head : ℕ
  pub next : Next
  pub descr : Option ReportedRun
  pub message : Option ReportedRun

abbrev pub reported_take : Take → ReportedTake
reported_take t =
    record {
      ring = t.ring;
      number = t.number;
      head = t.head;
      next = t.next;
      descr = option_map reported_run t.descr;
      message = option_map reported_run t.message;
    }

-- ---- what can be read back
-- a validation of this entry point's cells and copy buffers and this module's names, within 64 bits
pub record IsReportableRun (m : Module) (entry : Entry) (r : Reply) : Type 0 where
  pub named : IsNamedOutcome m (outcome_in r)
  pub frames : HasFrames r.verdict r.trace.items
  pub cells : HasCells m entry (outcome_in r)
  pub copies : HasCopies m entry (outcome_in r)
  pub loads : All (IsShownLoad r.layout) r.loads.list

-- a reply under one of these versions, of its entry point's cells and its module's names, within 64 bits
pub record IsReportable (formats : List Module) (entries : List Entry) (r : Reply) : Type 0 where
  pub format : Module
  pub entry : Entry
  pub is_format : slice_get formats r.version ≡ Some format
  pub is_entry : slice_get entries r.version ≡ Some entry
  pub guest : r.guest < 2 ^ 64
  pub number : r.number < 2 ^ 64
  pub version : r.version < 2 ^ 64
  pub run : IsReportableRun format entry r

-- the outcome of a descriptor, by the module and the entry point of descriptors
pub record IsReportableDescr (ring : Option (Module × Entry)) (d : Reply) : Type 0 where
  pub format : Module
  pub entry : Entry
  pub is_ring : ring ≡ Some (format, entry)
  pub words : HasWords format
  pub no_spot_word : HasNoSpotWord format
  pub run : IsReportableRun format entry d

-- the outcome of a message, under version 0
pub record IsReportableMessage (formats : List Module) (entries : List Entry) (r : Reply) : Type 0 where
  pub format : Module
  pub entry : Entry
  pub is_format : slice_get formats 0 ≡ Some format
  pub is_entry : slice_get entries 0 ≡ Some entry
  pub run : IsReportableRun format entry r

-- a descriptor that was accepted, and these are its cells
abbrev pub HasAccepted : Reply → ℕ → ℕ → ℕ → Type 0
HasAccepted d place size id = (pos : ℕ) × (d.verdict ≡ Accept pos) × (d.cells.items ≡ place ∷ size ∷ id ∷ [])

-- the answer is the count's, and there is no descriptor and no message; or it is the descriptor's, which accepts exactly where there is
-- a message, at the place and of the size and number that are its cells
abbrev pub IsReportableAnswer : List Module → List Entry → Option (Module × Entry) → ℕ → Next → Option Reply → Option Reply → Type 0
IsReportableAnswer formats entries ring head (Idle made) descr message = (made ≡ head) × (descr ≡ None) × (message ≡ None)
IsReportableAnswer formats entries ring head (Overrun made) descr message = (made ≡ head) × (descr ≡ None) × (message ≡ None)
IsReportableAnswer formats entries ring head (Bad reason pos) None message = ⊥
IsReportableAnswer formats entries ring head (Bad reason pos) (Some d) message = IsReportableDescr ring d × (d.verdict ≡ Reject reason pos) × (message ≡ None)
IsReportableAnswer formats entries ring head (Message number place size id) None message = ⊥
IsReportableAnswer formats entries ring head (Message number place size id) (Some d) None = ⊥
IsReportableAnswer formats entries ring head (Message number place size id) (Some d) (Some r) =
    IsReportableDescr ring d × HasAccepted d place size id × (number < 2 ^ 64) × IsReportableMessage formats entries r

-- a take under these versions, its descriptor by this module and entry point, within 64 bits
pub record IsReportableTake (formats : List Module) (entries : List Entry) (ring : Option (Module × Entry)) (t : Take) : Type 0 where
  pub of_ring : t.ring < 2 ^ 64
  pub number : t.number < 2 ^ 64
  pub head : t.head < 2 ^ 64
  pub answer : IsReportableAnswer formats entries ring t.head t.next t.descr t.message

-- where both are given, they are of one module
abbrev pub AreOneModule : Option (Module × Entry) → Option (Module × Entry) → Type 0
AreOneModule ring other = (m k : Module) (e f : Entry) → ring ≡ Some (m, e) → other ≡ Some (k, f) → m ≡ k

-- where no field is named `where` or `switch`, equal reports are of replies with equal guests, numbers, versions and outcomes, and of takes
-- with equal rings, numbers, counts, answers and outcomes, each with loads of which a report says the same
abbrev pub HostReportsDetermineReplies : Type 0
HostReportsDetermineReplies =
    (ms : List Module) (es fs : List Entry) (rs qs : List Reply) (ring other : Option (Module × Entry)) (ts us : List Take) → All HasWords ms → All HasNoSpotWord ms
    → All (IsReportable ms es) rs → All (IsReportable ms fs) qs → AreOneModule ring other → All (IsReportableTake ms es ring) ts → All (IsReportableTake ms fs other) us
    → host_report ms es rs ring ts ≡ host_report ms fs qs other us → (map reported_reply rs ≡ map reported_reply qs) × (map reported_take ts ≡ map reported_take us)
