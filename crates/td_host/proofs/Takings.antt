-- What the takers of all rings did, from what each did.
use Rattle.std.proofs.Common.{◌≡◌, ℕ, suc, ◌+◌, ◌*◌, false, List, [], ◌∷◌, ◌++◌, map, length, Option, refl, sym, ap, ◌∙◌, subst, ⊎_elim, length-append}
use Rattle.std.specs.List.{All}
use Rattle.std.proofs.lemmas.List.Elements.{All-nil, All-cons, All-head, All-tail, All-append, All-push}
use Rattle.std.proofs.lemmas.List.Sums.{sum_by-cons}
use Rattle.td_core.specs.declared.module.Module.{Module}
use Rattle.td_ir.specs.declared.tables.Parts.{Parts}
use Rattle.atomic_table.specs.Seated.{TableId}
use Rattle.td_words.specs.declared.view.SeatView.{SeatView}
use Rattle.td_words.specs.declared.view.Access.{Access}
use Rattle.td_words.specs.History.{stores}
use Rattle.td_words.specs.Views.{seat_view}
use Rattle.td_words.specs.Seats.{SeatState, BufferState, HostState, seat_state}
use Rattle.td_ring.specs.declared.post.Post.{Post}
use Rattle.td_ring.specs.Ring.{PassState, RingState}
use Rattle.td_ring.specs.Tickets.{DrawerState}
use Rattle.td_swap.specs.Seats.{PublishState}
use Rattle.td_posts.specs.declared.job.Step.{Step}
use Rattle.td_posts.specs.declared.job.HostJob.{HostJob}
use Rattle.td_posts.specs.declared.ring.RingJob.{RingJob}
use Rattle.td_posts.specs.declared.reply.Reply.{Reply}
use Rattle.td_posts.specs.declared.mail.Mail.{Mail}
use Rattle.td_descr.specs.Words.{load_of, raised}
use Rattle.td_descr.specs.Ring.{ReaderView, desc_word}
use Rattle.td_descr.specs.declared.next.Next.{Next}
use Rattle.td_descr.specs.declared.next.Next.TheVariants.{Idle, Overrun, Bad, Message}
use Rattle.td_takes.specs.declared.take.Take.{Take}
use Rattle.td_takes.specs.Takes.{Describes, AreTakes, RanRing, HasDone, all_steps, take_steps, taken_after, ring_steps, ring_layout, message_layout, message_steps, loads_of}
use Rattle.td_takes.specs.TakesServed.{AreTaken, all_takes}
use Rattle.td_host_actors.specs.declared.actor.Actor.{Actor}
use Rattle.td_host_actors.specs.declared.actor.Actor.TheVariants as kind
use Rattle.td_host_actors.specs.Acting.{read_seat}
use Rattle.td_host_actors.specs.Actors.{Service}
use Rattle.td_host_actors.proofs.Works.{stores-append, no_stores}
use Rattle.td_host.specs.Served.{In}
use Rattle.td_host.specs.Hosts.{takes_in}
use Rattle.td_host.specs.Gathered.{view_of, takes_of_all, all_replies, IsDescribedBy, IsReaderBy, FreshWorkers, FreshGuests, FreshTaker, FreshTakers, WorkersSeated, GuestsSeated, TakersSeated}
use Rattle.td_host.proofs.Ends.{put_parts, take_parts, draw_parts, swap_lists, swaps_made, cons_opt, DidAll}

-- a taker stores nothing
message_stores : (next : Next) (message : Option Reply) → stores (message_steps next message) ≡ []
message_stores (Idle made) message = refl
message_stores (Overrun made) message = refl
message_stores (Bad reason pos) message = refl
message_stores (Message number place size id) message = no_stores (message_layout place size) (loads_of message)

take_stores : (ring : RingJob) (taken : ℕ) (t : Take) → stores (take_steps ring taken t) ≡ []
take_stores ring taken t =
    stores-append (ring_steps ring taken t.head (loads_of t.descr)) (message_steps t.next t.message)
    ∙ ((λ i. no_stores (ring_layout ring) (load_of 0 t.head ∷ raised (desc_word ring.entries taken) (loads_of t.descr)) i ++ message_stores t.next t.message i))

all_store_nothing : (ring : RingJob) (taken : ℕ) (ts : List Take) → stores (all_steps ring taken ts) ≡ []
unfolding all_steps
all_store_nothing ring taken [] = refl
all_store_nothing ring taken (t ∷ ts) =
    stores-append (take_steps ring taken t) (all_steps ring (taken_after taken t.next) ts)
    ∙ (λ i. take_stores ring taken t i ++ all_store_nothing ring (taken_after taken t.next) ts i)

by_most : (m : Module) (c : Parts) (room a b : ℕ) → a ≡ b → Describes m c room a → Describes m c room b
by_most m c room a b e h = subst (Describes m c room) e h

-- the same takes, by other names of the ring, its number and the room
same_takes : (job : HostJob) (m : Module) (ts : List Take) (ring ring' : RingJob) (k k' room room' : ℕ) → ring ≡ ring' → k ≡ k' → room ≡ room' → AreTakes job m room ring k 1 0 ts → AreTakes job m room' ring' k' 1 0 ts
same_takes job m ts ring ring' k k' room room' a b c h = subst (λ (z : ℕ × RingJob × ℕ). AreTakes job m z.0 z.1 z.2 1 0 ts) (λ i. (c i, a i, b i)) h

-- a reader's seat that made just these steps
steps_made : (s t : SeatState) (table : TableId) (opened : List ℕ) (n : ℕ) (steps : List Access) → s ≡ read_seat table opened n [] → HasDone s t steps → t.view ≡ seat_view opened n false steps
steps_made s t table opened n steps e h =
    ap (λ (z : SeatState). z.view) (h ∙ ap (λ (z : SeatState). seat_state z.table (seat_view z.view.opened z.view.number z.view.guest (z.view.steps ++ steps))) e)

module _ {G : Type 0} (job : HostJob) (mails : List Mail) where
  -- the takers of these rings, from this number on, made all takes of theirs, and did nothing else
  pub record TakersDone (number : ℕ) (rings : List RingJob) (olds ds : List (Actor G)) : Type 0 where
    pub shares : List (List Take)
    pub are : (m : Module) → All (IsDescribedBy m) olds → AreTaken job m (8 * length job.words) number rings (map view_of ds) shares
    pub made : takes_of_all ds ≡ all_takes shares
    pub few : length (takes_of_all ds) ≡ takes_in rings
    pub as_many : length ds ≡ length rings
    pub taking : All (λ (v : SeatView). (v.guest ≡ false) × (stores v.steps ≡ [])) (map view_of ds)
    pub quiet : (u : SeatView) → In u (map view_of ds) → stores u.steps ≡ []
    pub no_puts : put_parts ds ≡ []
    pub no_takes : take_parts ds ≡ []
    pub no_draws : draw_parts ds ≡ []
    pub no_replies : all_replies ds ≡ []
    pub no_swaps : swap_lists ds ≡ []
    pub none_made : swaps_made ds ≡ 0

  module _ (shared : BufferState) (service : Service) where
    pub takers_done : (number : ℕ) (rings : List RingJob) (readers : List ReaderView) (ds bs : List (Actor G)) → FreshTakers shared service job.words number rings readers ds → DidAll job mails ds bs → TakersDone number rings ds bs
    unfolding DidAll FreshTakers AreTaken all_takes takes_of_all In cons_opt put_parts take_parts draw_parts all_replies swap_lists swaps_made
    takers_done number [] [] [] [] f d = record {
      shares = [];
      are = λ m a. tt;
      made = refl;
      few = refl;
      as_many = refl;
      taking = All-nil (λ (v : SeatView). (v.guest ≡ false) × (stores v.steps ≡ []));
      quiet = λ u e. absurd e;
      no_puts = refl;
      no_takes = refl;
      no_draws = refl;
      no_replies = refl;
      no_swaps = refl;
      none_made = refl;
    }
    takers_done number [] [] [] (b ∷ bs) f d = absurd d
    takers_done number [] [] (a ∷ ds) bs f d = absurd f
    takers_done number [] (x ∷ readers) ds bs f d = absurd f
    takers_done number (p ∷ ps) [] ds bs f d = absurd f
    takers_done number (p ∷ ps) (x ∷ readers) [] bs f d = absurd f
    takers_done number (p ∷ ps) (x ∷ readers) (kind.Worker w ∷ ds) bs f d = absurd f
    takers_done number (p ∷ ps) (x ∷ readers) (kind.Guest g ∷ ds) bs f d = absurd f
    takers_done number (p ∷ ps) (x ∷ readers) (kind.Publisher q ∷ ds) bs f d = absurd f
    takers_done number (p ∷ ps) (x ∷ readers) (kind.Ring t ∷ ds) [] f d = absurd d
    takers_done number (p ∷ ps) (x ∷ readers) (kind.Ring t ∷ ds) (kind.Worker w ∷ bs) f d = absurd d.0
    takers_done number (p ∷ ps) (x ∷ readers) (kind.Ring t ∷ ds) (kind.Guest g ∷ bs) f d = absurd d.0
    takers_done number (p ∷ ps) (x ∷ readers) (kind.Ring t ∷ ds) (kind.Publisher q ∷ bs) f d = absurd d.0
    takers_done number (p ∷ ps) (x ∷ readers) (kind.Ring t ∷ ds) (kind.Ring u ∷ bs) f d =
        let y : FreshTaker shared service job.words number p x t = f.0 in
        let ran : RanRing job t.descr.code t.descr.room t.ring t.number t.seat u.seat u.takes.items = d.0 in
        let r = takers_done (number + 1) ps readers ds bs f.1 d.1 in
        let ts : List Take = u.takes.items in
        let steps : List Access = all_steps p 0 ts in
        let room : t.descr.room ≡ 8 * length job.words = ap (λ (z : ReaderView). z.room) y.is_reader ∙ y.room in
        let view : u.seat.view ≡ seat_view job.words y.seat_number false steps =
        steps_made t.seat u.seat shared.table job.words y.seat_number steps y.is_seat (subst (λ (z : RingJob). HasDone t.seat u.seat (all_steps z 0 ts)) y.is_ring ran.steps) in
        let many : length ts ≡ p.takes = ran.as_many ∙ ap (λ (z : RingJob). z.takes) y.is_ring in
        let quiet : stores u.seat.view.steps ≡ [] = ap (λ (z : SeatView). stores z.steps) view ∙ all_store_nothing p 0 ts in
        record {
          shares = ts ∷ r.shares;
          are = λ m a. (
            ap (λ (z : SeatView). z.guest) view,
            ap (λ (z : SeatView). z.steps) view,
            many,
            same_takes job m ts t.ring p t.number number t.descr.room (8 * length job.words) y.is_ring y.is_number room
                (ran.are m (by_most m t.descr.code t.descr.room t.descr.most t.ring.most y.ready.most (All-head (IsDescribedBy m) (kind.Ring t) ds a))),
            r.are m (All-tail (IsDescribedBy m) (kind.Ring t) ds a),
          );
          made = ap (λ l. ts ++ l) r.made;
          few = length-append ts (takes_of_all bs) ∙ ((λ i. many i + r.few i) ∙ sym (sum_by-cons (λ (z : RingJob). z.takes) p ps));
          as_many = ap suc r.as_many;
          taking = All-cons (λ (v : SeatView). (v.guest ≡ false) × (stores v.steps ≡ [])) u.seat.view (map view_of bs) (ap (λ (z : SeatView). z.guest) view, quiet) r.taking;
          quiet = λ v e. ⊎_elim (λ (q : u.seat.view ≡ v). ap (λ (z : SeatView). stores z.steps) (sym q) ∙ quiet) (λ (q : In v (map view_of bs)). r.quiet v q) e;
          no_puts = r.no_puts;
          no_takes = r.no_takes;
          no_draws = r.no_draws;
          no_replies = r.no_replies;
          no_swaps = r.no_swaps;
          none_made = ap (λ n. 0 + n) r.none_made;
        }

-- readers of a module are takers' of it
module _ {G : Type 0} (m : Module) where
  workers_described : (shared : BufferState) (ring : RingState) (service : Service) (opened : List ℕ) (ds : List (Actor G)) → FreshWorkers shared ring service opened ds → All (IsDescribedBy m) ds
  unfolding FreshWorkers
  workers_described shared ring service opened [] f = All-nil (IsDescribedBy m)
  workers_described shared ring service opened (kind.Worker w ∷ ds) f = All-cons (IsDescribedBy m) (kind.Worker w) ds tt (workers_described shared ring service opened ds f.1)
  workers_described shared ring service opened (kind.Guest g ∷ ds) f = absurd f
  workers_described shared ring service opened (kind.Ring t ∷ ds) f = absurd f
  workers_described shared ring service opened (kind.Publisher q ∷ ds) f = absurd f

  guests_described : (names : Post → Type 0) (shared : BufferState) (ring : RingState) (opened : List ℕ) (number n k : ℕ) (ss : List (List Step)) (ds : List (Actor G)) → FreshGuests names shared ring opened number n k ss ds → All (IsDescribedBy m) ds
  unfolding FreshGuests
  guests_described names shared ring opened number n k [] [] f = All-nil (IsDescribedBy m)
  guests_described names shared ring opened number n k [] (a ∷ ds) f = absurd f
  guests_described names shared ring opened number n k (s ∷ ss) [] f = absurd f
  guests_described names shared ring opened number n k (s ∷ ss) (kind.Worker w ∷ ds) f = absurd f
  guests_described names shared ring opened number n k (s ∷ ss) (kind.Ring t ∷ ds) f = absurd f
  guests_described names shared ring opened number n k (s ∷ ss) (kind.Publisher q ∷ ds) f = absurd f
  guests_described names shared ring opened number n k (s ∷ ss) (kind.Guest g ∷ ds) f =
      All-cons (IsDescribedBy m) (kind.Guest g) ds tt (guests_described names shared ring opened (number + 1) (f.0.seat_number + 1) (f.0.pass_number + 1) ss ds f.1)

  takers_described : (shared : BufferState) (service : Service) (opened : List ℕ) (number : ℕ) (rings : List RingJob) (readers : List ReaderView) (ds : List (Actor G)) → FreshTakers shared service opened number rings readers ds
      → All (IsReaderBy m) readers → All (IsDescribedBy m) ds
  unfolding FreshTakers
  takers_described shared service opened number [] [] [] f a = All-nil (IsDescribedBy m)
  takers_described shared service opened number [] [] (x ∷ ds) f a = absurd f
  takers_described shared service opened number [] (d ∷ readers) ds f a = absurd f
  takers_described shared service opened number (p ∷ ps) [] ds f a = absurd f
  takers_described shared service opened number (p ∷ ps) (d ∷ readers) [] f a = absurd f
  takers_described shared service opened number (p ∷ ps) (d ∷ readers) (kind.Worker w ∷ ds) f a = absurd f
  takers_described shared service opened number (p ∷ ps) (d ∷ readers) (kind.Guest g ∷ ds) f a = absurd f
  takers_described shared service opened number (p ∷ ps) (d ∷ readers) (kind.Publisher q ∷ ds) f a = absurd f
  takers_described shared service opened number (p ∷ ps) (d ∷ readers) (kind.Ring t ∷ ds) f a =
      All-cons (IsDescribedBy m) (kind.Ring t) ds (subst (IsReaderBy m) (sym f.0.is_reader) (All-head (IsReaderBy m) d readers a))
      (takers_described shared service opened (number + 1) ps readers ds f.1 (All-tail (IsReaderBy m) d readers a))

  -- .. and so it is with all that act, where the publisher stands last
  pub all_described : (names : Post → Type 0) (shared : BufferState) (ring : RingState) (service : Service) (job : HostJob) (opened : List ℕ) (count : ℕ) (seat seat' seat'' : HostState) (posts takes : PassState) (drawer : DrawerState)
      (workers before actors all : List (Actor G)) (readers : List ReaderView) (q : PublishState)
      → WorkersSeated shared ring service opened count seat takes drawer workers → GuestsSeated names shared ring job workers seat' posts before → TakersSeated shared service job readers before seat'' actors
      → All (IsReaderBy m) readers → all ≡ actors ++ kind.Publisher q ∷ [] → All (IsDescribedBy m) all
  all_described names shared ring service job opened count seat seat' seat'' posts takes drawer workers before actors all readers q w g t by e =
      let some = All-append (IsDescribedBy m) workers g.guests (workers_described shared ring service opened workers w.fresh) (guests_described names shared ring job.words 1 0 0 job.guests g.guests g.fresh) in
      let more = All-append (IsDescribedBy m) before t.takers (subst (All (IsDescribedBy m)) (sym g.are) some) (takers_described shared service job.words 1 job.rings readers t.takers t.fresh by) in
      subst (All (IsDescribedBy m)) (sym e) (All-push (IsDescribedBy m) actors (kind.Publisher q) (subst (All (IsDescribedBy m)) (sym t.are) more) tt)
