-- Replies of a take by what was validated.
use Rattle.std.proofs.Common.{◌≡◌, ℕ, ◌+◌, List, [], ◌++◌, Option, Some, None, length, refl, sym, ap, ◌∙◌, subst, append_assoc, arith}
use Rattle.std.specs.Prelude.{slice_get, slice_index_or}
use Rattle.std.proofs.lemmas.Option.{same_Some, slice_get_within, slice_get-get_or}
use Rattle.td_core.specs.declared.module.Module.{Module}
use Rattle.td_core.specs.declared.module.Entry.{Entry}
use Rattle.td_core.specs.declared.outcome.Outcome.{Outcome}
use Rattle.td_core.specs.declared.outcome.Verdict.{Verdict}
use Rattle.td_core.specs.declared.outcome.Verdict.TheVariants.{Accept, Reject}
use Rattle.td_stream.specs.declared.load.Load.{Load}
use Rattle.std.proofs.Common.{append-nil as append_nil}
use Rattle.td_stream.specs.declared.stretch.Stretch.{Stretch}
use Rattle.td_ir.specs.declared.tables.Parts.{Parts}
use Rattle.td_vm.specs.Frames.{FrameView}
use Rattle.td_words.specs.declared.view.Access.{Access}
use Rattle.td_words.specs.Views.{seat_view}
use Rattle.td_words.specs.Seats.{SeatState, seat_state}
use Rattle.td_posts.specs.declared.job.HostJob.{HostJob}
use Rattle.td_posts.specs.declared.reply.Reply.{Reply}
use Rattle.td_posts.specs.Posts.{IsVersion, version_in, outcome_in}
use Rattle.td_descr.specs.declared.next.Next.{Next}
use Rattle.td_descr.specs.declared.next.Look.{Look}
use Rattle.td_descr.specs.declared.next.Standing.{Standing}
use Rattle.td_descr.specs.declared.next.Standing.TheVariants.{Nothing, Lost, Waiting}
use Rattle.td_descr.specs.Ring.{ReaderView, Answers, IsValidated, answer, frame_outcome}
use Rattle.td_takes.specs.declared.take.Take.{Take}
use Rattle.td_takes.specs.Codes.{IsMeantUnder}
use Rattle.td_takes.specs.Kept.{IsOutcome, KeptBy, IsKept}
use Rattle.td_takes.specs.Takes.{message_layout, Describes, IsMessage, IsDescriptor, IsAnswer, HasDone, loads_of, taken_after, IfJudged}

-- ---- the message
pub message_by : (job : HostJob) (m : Module) (entry : Entry) (place size : ℕ) (r : Reply) (layout : List Stretch) (loads : List Load) (o : Outcome)
    → IsVersion job 0 m entry → r.guest ≡ 0 → version_in r ≡ 0 → r.layout ≡ Some layout → layout ≡ message_layout place size → r.loads.list ≡ loads → outcome_in r ≡ o
    → IsMeantUnder job m entry layout loads o → IsMessage job place size r
message_by job m entry place size r layout loads o version guest first lies e f g fetched = record {
  is = record { guest = guest; version = first; list = lies ∙ ap (λ l. Some l) e };
  format = m;
  entry = entry;
  version = version;
  fetched = subst (λ (x : List Stretch × List Load × Outcome). IsMeantUnder job m entry x.0 x.1 x.2) (λ i. (e i, sym f i, sym g i)) fetched;
}

-- an entry point that a list has at a place stands there
pub entry_at : (entries lent : List Entry) (n : ℕ) (entry d : Entry) → lent ≡ entries → slice_get entries n ≡ Some entry → slice_index_or lent n d ≡ entry
entry_at entries lent n entry d e f =
    ap (λ (l : List Entry). slice_index_or l n d) e ∙ same_Some (slice_index_or entries n d) entry (sym (slice_get-get_or entries n d (slice_get_within entries n entry f)) ∙ f)

-- ---- steps of a seat
pub done_nothing : (s : SeatState) → HasDone s s []
done_nothing s = ap (λ l. seat_state s.table (seat_view s.view.opened s.view.number s.view.guest l)) (sym (append_nil s.view.steps))

pub done_then : (s t u : SeatState) (xs ys : List Access) → HasDone s t xs → HasDone t u ys → HasDone s u (xs ++ ys)
done_then s t u xs ys e f =
    f ∙ (ap (λ (x : SeatState). seat_state x.table (seat_view x.view.opened x.view.number x.view.guest (x.view.steps ++ ys))) e
    ∙ ap (λ l. seat_state s.table (seat_view s.view.opened s.view.number s.view.guest l)) (append_assoc s.view.steps xs ys))

-- ---- the descriptor
-- where there was a verdict, it left three cells
pub three_cells : (st : Standing) (r s : ReaderView) (next : Next) → Answers st r s next → IfJudged s.last.verdict (length s.frame.cells ≡ 3)
three_cells Nothing r s next h = subst (λ (x : Option Verdict). IfJudged x (length s.frame.cells ≡ 3)) (sym (ap (λ (x : ReaderView). x.last.verdict) h.1)) tt
three_cells Lost r s next h = subst (λ (x : Option Verdict). IfJudged x (length s.frame.cells ≡ 3)) (sym (ap (λ (x : ReaderView). x.last.verdict) h.1)) tt
three_cells Waiting r s next h = subst (λ (x : Option Verdict). IfJudged x (length s.frame.cells ≡ 3)) (sym h.1) h.2.cells

abbrev pub take_of : ℕ → ℕ → ℕ → Next → Option Reply → Option Reply → Take
take_of k number head next d message = record { ring = k; number = number; head = head; next = next; descr = d; message = message }

kept_by : (v w : Option Verdict) (look : Look) (frame : FrameView) (d : Option Reply) → v ≡ w → KeptBy v look frame d → KeptBy w look frame d
kept_by v w look frame d e h = subst (λ x. KeptBy x look frame d) e h

-- the reply of a descriptor that was validated so
described : (m : Module) (c : Parts) (room most : ℕ) (look : Look) (frame : FrameView) (verdict : Verdict) (d : Reply)
    → Describes m c room most → IsValidated c room most look.loads (frame_outcome frame verdict) → IsOutcome d look frame verdict → IsDescriptor m room most d
described m c room most look frame verdict d code v o =
    let t = subst (λ (x : List Load × Outcome). IsValidated c room most x.0 x.1) (λ i. (sym o.loads i, sym o.outcome i)) v in
    let w = t.validated in
    record {
      is = record { guest = o.guest; version = o.version; list = o.layout };
      cells = t.cells;
      fetched = record {
        rising = w.rising;
        inside = w.inside;
        holds = λ b h bytes. let e = h.size in (w.holds b h).meant m code.code (code.sound b bytes (omega (arith, e)));
      };
    }

pub answered_by : (m : Module) (most k number : ℕ) (message : Option Reply) (st : Standing) (r s : ReaderView) (next : Next) (d : Option Reply)
    → r.most ≡ most → Describes m r.code r.room most → Answers st r s next → IsKept s.last s.frame d
    → IsAnswer st m r.room most r.taken (take_of k number s.last.head next d message)
answered_by m most k number message Nothing r s next d e code h i = (h.0, kept_by s.last.verdict None s.last s.frame d (ap (λ (x : ReaderView). x.last.verdict) h.1) i)
answered_by m most k number message Lost r s next d e code h i = (h.0, kept_by s.last.verdict None s.last s.frame d (ap (λ (x : ReaderView). x.last.verdict) h.1) i)
answered_by m most k number message Waiting r s next d e code h i =
    let j = kept_by s.last.verdict (Some h.0) s.last s.frame d h.1 i in
    let verdict = ap (λ (o : Outcome). o.verdict) j.2.outcome in
    let cells = ap (λ (o : Outcome). o.cells) j.2.outcome in (
      j.0,
      j.1,
      described m r.code r.room most s.last s.frame h.0 j.0 code (subst (λ n. IsValidated r.code r.room n s.last.loads (frame_outcome s.frame h.0)) e h.2) j.2,
      h.3 ∙ (λ n. answer r.taken (sym verdict n) (sym cells n)),
    )

-- the descriptor's loads are those of its reply
pub loads_by : (st : Standing) (r s : ReaderView) (next : Next) (d : Option Reply) → Answers st r s next → IsKept s.last s.frame d → s.last.loads ≡ loads_of d
loads_by Nothing r s next d h i =
    ap (λ (x : ReaderView). x.last.loads) h.1 ∙ sym (ap loads_of (kept_by s.last.verdict None s.last s.frame d (ap (λ (x : ReaderView). x.last.verdict) h.1) i))
loads_by Lost r s next d h i =
    ap (λ (x : ReaderView). x.last.loads) h.1 ∙ sym (ap loads_of (kept_by s.last.verdict None s.last s.frame d (ap (λ (x : ReaderView). x.last.verdict) h.1) i))
loads_by Waiting r s next d h i =
    let j = kept_by s.last.verdict (Some h.0) s.last s.frame d h.1 i in
    sym (ap loads_of j.1 ∙ j.2.loads)

-- what becomes of the reader
after_verdict : (taken : ℕ) (v : Verdict) (cells : List ℕ) → taken_after taken (answer taken v cells) ≡ taken + 1
after_verdict taken (Accept pos) cells = refl
after_verdict taken (Reject reason pos) cells = refl

pub reader_by : (st : Standing) (r s : ReaderView) (next : Next) → Answers st r s next → s ≡ record r { taken = taken_after r.taken next; frame = s.frame; last = s.last }
reader_by Nothing r s next h =
    h.1 ∙ (λ n. record r { taken = taken_after r.taken (sym h.0 n); frame = sym (ap (λ (x : ReaderView). x.frame) h.1) n; last = sym (ap (λ (x : ReaderView). x.last) h.1) n })
reader_by Lost r s next h =
    h.1 ∙ (λ n. record r { taken = taken_after r.taken (sym h.0 n); frame = sym (ap (λ (x : ReaderView). x.frame) h.1) n; last = sym (ap (λ (x : ReaderView). x.last) h.1) n })
reader_by Waiting r s next h =
    h.4 ∙ ap (λ n. record r { taken = n; frame = s.frame; last = s.last }) (sym (ap (taken_after r.taken) h.3 ∙ after_verdict r.taken h.0 s.frame.cells))
