-- What serving asks of its parts, from how the host is armed.
use Rattle.std.proofs.Common.{◌≡◌, ℕ, ◌+◌, ◌<◌, ◌^◌, List, [], ◌∷◌, ◌++◌, length, refl, sym, ap, ◌∙◌, subst, arith, length-append}
use Rattle.std.specs.Prelude.{slice_index_or}
use Rattle.std.specs.List.{All}
use Rattle.std.proofs.lemmas.List.Elements.{All-nil, All-cons, All-append, All-push}
use Rattle.td_words.specs.History.{stores}
use Rattle.td_words.specs.Seats.{SeatState, BufferState, HostState}
use Rattle.td_ring.specs.declared.post.Post.{Post}
use Rattle.td_ring.specs.Ring.{PassState, RingState}
use Rattle.td_ring.specs.Tickets.{DrawerState}
use Rattle.td_posts.specs.declared.job.Step.{Step}
use Rattle.td_posts.specs.declared.mail.Mail.{Mail}
use Rattle.td_posts.specs.declared.job.HostJob.{HostJob}
use Rattle.td_posts.specs.Posts.{mails_of}
use Rattle.td_swap.specs.Views.{new_view}
use Rattle.td_swap.specs.Seats.{PublishState, SwapState, swap_state}
use Rattle.td_host.specs.Hosts.{first_publisher}
use Rattle.td_host_actors.specs.declared.actor.Actor.{Actor}
use Rattle.td_host_actors.specs.declared.actor.Actor.TheVariants as kind
use Rattle.td_host_actors.specs.Acting.{RoomsFor, StoresInside, guest_seat, read_seat, post_pass, take_pass, ticket_seat, RanScript, RanPublisher, RanWorker}
use Rattle.td_host_actors.specs.Actors.{Service, IsActorReady, Did}
use Rattle.td_posts.specs.declared.ring.RingJob.{RingJob}
use Rattle.td_descr.specs.Ring.{ReaderView}
use Rattle.td_takes.specs.Takes.{RanRing}
use Rattle.td_host.specs.Gathered.{IsAt, FreshWorkers, FreshGuests, FreshTakers, Armed}
use Rattle.td_host.proofs.Ends.{DidAll, did_all, did_both}

module _ {G : Type 0} (names : Post → Type 0) (shared : BufferState) (ring : RingState) (service : Service) where
  workers_ready : (opened : List ℕ) (ds : List (Actor G)) → FreshWorkers shared ring service opened ds → All (IsActorReady names shared ring service) ds
  unfolding FreshWorkers
  workers_ready opened [] f = All-nil (IsActorReady names shared ring service)
  workers_ready opened (kind.Guest g ∷ ds) f = absurd f
  workers_ready opened (kind.Ring t ∷ ds) f = absurd f
  workers_ready opened (kind.Publisher q ∷ ds) f = absurd f
  workers_ready opened (kind.Worker w ∷ ds) f =
      let x = f.0 in
      All-cons (IsActorReady names shared ring service) (kind.Worker w) ds
      (ap (λ (s : SeatState). s.table) x.is_seat, ap (λ (h : PassState). h.queue) x.is_pass, ap (λ (d : DrawerState). d.table) x.is_drawer, (ap (λ (d : SwapState). d.table) x.is_swap, ap (λ (d : SwapState). d.view.count) x.is_swap), x.armed, x.no_reply, x.room)
      (workers_ready opened ds f.1)

  guests_ready : (opened : List ℕ) (number n m : ℕ) (ss : List (List Step)) (ds : List (Actor G)) → FreshGuests names shared ring opened number n m ss ds → All (IsActorReady names shared ring service) ds
  unfolding FreshGuests
  guests_ready opened number n m [] [] f = All-nil (IsActorReady names shared ring service)
  guests_ready opened number n m [] (a ∷ ds) f = absurd f
  guests_ready opened number n m (s ∷ ss) [] f = absurd f
  guests_ready opened number n m (s ∷ ss) (kind.Worker w ∷ ds) f = absurd f
  guests_ready opened number n m (s ∷ ss) (kind.Ring t ∷ ds) f = absurd f
  guests_ready opened number n m (s ∷ ss) (kind.Publisher q ∷ ds) f = absurd f
  guests_ready opened number n m (s ∷ ss) (kind.Guest g ∷ ds) f =
      let x = f.0 in
      All-cons (IsActorReady names shared ring service) (kind.Guest g) ds (
        ap (λ (t : SeatState). t.table) x.is_seat,
        ap (λ (h : PassState). h.queue) x.is_pass,
        subst (StoresInside shared.count) (sym x.is_script) x.stays,
        subst (λ (l : List Step). length l < 2 ^ 32) (sym x.is_script) x.few,
        ap (λ (t : SeatState). stores t.view.steps) x.is_seat,
        subst (λ (y : ℕ × List Step). RoomsFor names (mails_of y.0 y.1) g.rooms.items) (λ i. (sym x.is_number i, sym x.is_script i)) x.has_rooms,
      )
      (guests_ready opened (number + 1) (x.seat_number + 1) (x.pass_number + 1) ss ds f.1)

  takers_ready : (opened : List ℕ) (number : ℕ) (rings : List RingJob) (readers : List ReaderView) (ds : List (Actor G)) → FreshTakers shared service opened number rings readers ds → All (IsActorReady names shared ring service) ds
  unfolding FreshTakers
  takers_ready opened number [] [] [] f = All-nil (IsActorReady names shared ring service)
  takers_ready opened number [] [] (x ∷ ds) f = absurd f
  takers_ready opened number [] (d ∷ readers) ds f = absurd f
  takers_ready opened number (p ∷ ps) [] ds f = absurd f
  takers_ready opened number (p ∷ ps) (d ∷ readers) [] f = absurd f
  takers_ready opened number (p ∷ ps) (d ∷ readers) (kind.Worker w ∷ ds) f = absurd f
  takers_ready opened number (p ∷ ps) (d ∷ readers) (kind.Guest g ∷ ds) f = absurd f
  takers_ready opened number (p ∷ ps) (d ∷ readers) (kind.Publisher q ∷ ds) f = absurd f
  takers_ready opened number (p ∷ ps) (d ∷ readers) (kind.Ring t ∷ ds) f =
      All-cons (IsActorReady names shared ring service) (kind.Ring t) ds f.0.ready (takers_ready opened (number + 1) ps readers ds f.1)

  -- with the publisher, who published nothing yet, behind them
  pub all_ready : (olds all : List (Actor G)) (q : PublishState) → All (IsActorReady names shared ring service) olds → all ≡ olds ++ kind.Publisher q ∷ [] → q ≡ first_publisher service.codes → 0 < length service.codes.codes
      → All (IsActorReady names shared ring service) all
  all_ready olds all q are e is some = subst (All (IsActorReady names shared ring service)) (sym e)
      (All-push (IsActorReady names shared ring service) olds (kind.Publisher q) are
      ((ap (λ (s : PublishState). s.table) is, ap (λ (s : PublishState). s.view.count) is), ap (λ (s : PublishState). s.view.number) is, some))

  pub ready : (job : HostJob) (seat : HostState) (posts takes : PassState) (drawer : DrawerState) (olds : List (Actor G)) → Armed names shared ring service job seat posts takes drawer olds → All (IsActorReady names shared ring service) olds
  ready job seat posts takes drawer olds a = subst (All (IsActorReady names shared ring service)) (sym a.are)
      (All-append (IsActorReady names shared ring service) a.workers (a.guests ++ a.takers) (workers_ready job.words a.workers a.fresh_workers)
      (All-append (IsActorReady names shared ring service) a.guests a.takers (guests_ready job.words 1 0 0 job.guests a.guests a.fresh_guests) (takers_ready job.words 1 job.rings a.readers a.takers a.fresh_takers)))

  module _ (job : HostJob) (mails : List Mail) where
    workers_at : (opened : List ℕ) (ds es : List (Actor G)) → FreshWorkers shared ring service opened ds → DidAll job mails ds es → All (IsAt shared ring service.tickets service.codes) es
    unfolding FreshWorkers DidAll
    workers_at opened [] [] f d = All-nil (IsAt shared ring service.tickets service.codes)
    workers_at opened [] (y ∷ es) f d = absurd d
    workers_at opened (kind.Guest g ∷ ds) es f d = absurd f
    workers_at opened (kind.Ring t ∷ ds) es f d = absurd f
    workers_at opened (kind.Publisher q ∷ ds) es f d = absurd f
    workers_at opened (kind.Worker x ∷ ds) [] f d = absurd d
    workers_at opened (kind.Worker x ∷ ds) (kind.Guest h ∷ es) f d = absurd d.0
    workers_at opened (kind.Worker x ∷ ds) (kind.Ring t ∷ es) f d = absurd d.0
    workers_at opened (kind.Worker x ∷ ds) (kind.Publisher q ∷ es) f d = absurd d.0
    workers_at opened (kind.Worker x ∷ ds) (kind.Worker v ∷ es) f d =
        let y = f.0 in
        let p : RanWorker job (length mails) x.seat v.seat x.pass v.pass x.drawer v.drawer x.swap v.swap v.replies.items = d.0 in
        let table : x.seat.table ≡ shared.table = ap (λ (z : SeatState). z.table) y.is_seat in
        let queue : x.pass.queue ≡ ring.queue = ap (λ (z : PassState). z.queue) y.is_pass in
        let desk : x.drawer.table ≡ service.tickets = ap (λ (z : DrawerState). z.table) y.is_drawer in
        let words : x.swap.table ≡ service.codes.table = ap (λ (z : SwapState). z.table) y.is_swap in
        let versions : ℕ = length service.codes.codes in
        let loaded = p.is_swap versions (y.is_swap ∙ ap (λ t. swap_state t (new_view versions)) (sym words)) in
        All-cons (IsAt shared ring service.tickets service.codes) (kind.Worker v) es (
          ap (λ (z : SeatState). z.table) (p.is_seat opened y.seat_number (y.is_seat ∙ ap (λ t. read_seat t opened y.seat_number []) (sym table))) ∙ table,
          ap (λ (z : PassState). z.queue) (p.is_pass y.pass_number (y.is_pass ∙ ap (λ q. take_pass q y.pass_number []) (sym queue))) ∙ queue,
          ap (λ (z : DrawerState). z.table) (p.is_drawer y.drawer_number (y.is_drawer ∙ ap (λ q. ticket_seat q y.drawer_number []) (sym desk))) ∙ desk,
          (ap (λ (z : SwapState). z.table) loaded ∙ words, ap (λ (z : SwapState). z.view.count) loaded),
        )
        (workers_at opened ds es f.1 d.1)

    guests_at : (opened : List ℕ) (number n m : ℕ) (ss : List (List Step)) (ds es : List (Actor G)) → FreshGuests names shared ring opened number n m ss ds → DidAll job mails ds es → All (IsAt shared ring service.tickets service.codes) es
    unfolding FreshGuests DidAll
    guests_at opened number n m [] [] [] f d = All-nil (IsAt shared ring service.tickets service.codes)
    guests_at opened number n m [] [] (y ∷ es) f d = absurd d
    guests_at opened number n m [] (x ∷ ds) es f d = absurd f
    guests_at opened number n m (s ∷ ss) [] es f d = absurd f
    guests_at opened number n m (s ∷ ss) (kind.Worker w ∷ ds) es f d = absurd f
    guests_at opened number n m (s ∷ ss) (kind.Ring t ∷ ds) es f d = absurd f
    guests_at opened number n m (s ∷ ss) (kind.Publisher q ∷ ds) es f d = absurd f
    guests_at opened number n m (s ∷ ss) (kind.Guest g ∷ ds) [] f d = absurd d
    guests_at opened number n m (s ∷ ss) (kind.Guest g ∷ ds) (kind.Worker w ∷ es) f d = absurd d.0
    guests_at opened number n m (s ∷ ss) (kind.Guest g ∷ ds) (kind.Ring t ∷ es) f d = absurd d.0
    guests_at opened number n m (s ∷ ss) (kind.Guest g ∷ ds) (kind.Publisher q ∷ es) f d = absurd d.0
    guests_at opened number n m (s ∷ ss) (kind.Guest g ∷ ds) (kind.Guest h ∷ es) f d =
        let x = f.0 in
        let p : RanScript g.number g.script g.seat h.seat g.pass h.pass = d.0 in
        let table : g.seat.table ≡ shared.table = ap (λ (z : SeatState). z.table) x.is_seat in
        let queue : g.pass.queue ≡ ring.queue = ap (λ (z : PassState). z.queue) x.is_pass in
        All-cons (IsAt shared ring service.tickets service.codes) (kind.Guest h) es (
          ap (λ (z : SeatState). z.table) (p.is_seat opened x.seat_number (x.is_seat ∙ ap (λ t. guest_seat t opened x.seat_number []) (sym table))) ∙ table,
          ap (λ (z : PassState). z.queue) (p.is_pass x.pass_number (x.is_pass ∙ ap (λ q. post_pass q x.pass_number []) (sym queue))) ∙ queue,
        )
        (guests_at opened (number + 1) (x.seat_number + 1) (x.pass_number + 1) ss ds es f.1 d.1)

    takers_at : (opened : List ℕ) (number : ℕ) (rings : List RingJob) (readers : List ReaderView) (ds es : List (Actor G)) → FreshTakers shared service opened number rings readers ds → DidAll job mails ds es → All (IsAt shared ring service.tickets service.codes) es
    unfolding FreshTakers DidAll
    takers_at opened number [] [] [] [] f d = All-nil (IsAt shared ring service.tickets service.codes)
    takers_at opened number [] [] [] (y ∷ es) f d = absurd d
    takers_at opened number [] [] (x ∷ ds) es f d = absurd f
    takers_at opened number [] (x ∷ readers) ds es f d = absurd f
    takers_at opened number (p ∷ ps) [] ds es f d = absurd f
    takers_at opened number (p ∷ ps) (x ∷ readers) [] es f d = absurd f
    takers_at opened number (p ∷ ps) (x ∷ readers) (kind.Worker w ∷ ds) es f d = absurd f
    takers_at opened number (p ∷ ps) (x ∷ readers) (kind.Guest g ∷ ds) es f d = absurd f
    takers_at opened number (p ∷ ps) (x ∷ readers) (kind.Publisher q ∷ ds) es f d = absurd f
    takers_at opened number (p ∷ ps) (x ∷ readers) (kind.Ring t ∷ ds) [] f d = absurd d
    takers_at opened number (p ∷ ps) (x ∷ readers) (kind.Ring t ∷ ds) (kind.Worker w ∷ es) f d = absurd d.0
    takers_at opened number (p ∷ ps) (x ∷ readers) (kind.Ring t ∷ ds) (kind.Guest g ∷ es) f d = absurd d.0
    takers_at opened number (p ∷ ps) (x ∷ readers) (kind.Ring t ∷ ds) (kind.Publisher q ∷ es) f d = absurd d.0
    takers_at opened number (p ∷ ps) (x ∷ readers) (kind.Ring t ∷ ds) (kind.Ring u ∷ es) f d =
        let ran : RanRing job t.descr.code t.descr.room t.ring t.number t.seat u.seat u.takes.items = d.0 in
        All-cons (IsAt shared ring service.tickets service.codes) (kind.Ring u) es (ap (λ (z : SeatState). z.table) ran.steps ∙ f.0.ready.own) (takers_at opened (number + 1) ps readers ds es f.1 d.1)

    pub at_all : (seat : HostState) (posts takes : PassState) (drawer : DrawerState) (olds news : List (Actor G)) → Armed names shared ring service job seat posts takes drawer olds → DidAll job mails olds news → All (IsAt shared ring service.tickets service.codes) news
    at_all seat posts takes drawer olds news a did =
        let b = did_both job mails a.workers (a.guests ++ a.takers) news (subst (λ l. DidAll job mails l news) a.are did) in
        let e = did_both job mails a.guests a.takers b.1 b.4 in
        let At : Actor G → Type 0 = IsAt shared ring service.tickets service.codes in
        subst (All At) (sym (b.2 ∙ ap (λ l. b.0 ++ l) e.2))
        (All-append At b.0 (e.0 ++ e.1)
        (workers_at job.words a.workers b.0 a.fresh_workers b.3)
        (All-append At e.0 e.1
        (guests_at job.words 1 0 0 job.guests a.guests e.0 a.fresh_guests e.3)
        (takers_at job.words 1 job.rings a.readers a.takers e.1 a.fresh_takers e.4)))

-- ---- the publisher, behind the others
module _ {G : Type 0} (job : HostJob) (mails : List Mail) where
  -- what the others did, and that the publisher published all versions
  pub record Parted (olds all : List (Actor G)) (q : PublishState) : Type 0 where
    pub news : List (Actor G)
    pub publisher : PublishState
    pub are : all ≡ news ++ kind.Publisher publisher ∷ []
    pub did : DidAll job mails olds news
    pub ran : RanPublisher q publisher

  pub parted : (olds befores all : List (Actor G)) (q : PublishState) → befores ≡ olds ++ kind.Publisher q ∷ [] → length all ≡ length befores
      → ((i : ℕ) (d : Actor G) → i < length befores → Did job mails (slice_index_or befores i d) (slice_index_or all i d)) → Parted olds all q
  unfolding DidAll
  parted olds befores all q e len did =
      let b = did_both job mails olds (kind.Publisher q ∷ []) all (subst (λ l. DidAll job mails l all) e (did_all job mails befores all len did)) in
      last b.0 b.1 b.2 b.3 b.4
    where
      last : (ls rs : List (Actor G)) → all ≡ ls ++ rs → DidAll job mails olds ls → DidAll job mails (kind.Publisher q ∷ []) rs → Parted olds all q
      last ls [] e d f = absurd f
      last ls (kind.Worker w ∷ rs) e d f = absurd f.0
      last ls (kind.Guest g ∷ rs) e d f = absurd f.0
      last ls (kind.Ring t ∷ rs) e d f = absurd f.0
      last ls (kind.Publisher r ∷ []) e d f = record { news = ls; publisher = r; are = e; did = d; ran = f.0 }
      last ls (kind.Publisher r ∷ (x ∷ rs)) e d f = absurd f.1

publisher_in : {G : Type 0} → PublishState → Actor G → PublishState
publisher_in p (kind.Worker w) = p
publisher_in p (kind.Guest g) = p
publisher_in p (kind.Ring t) = p
publisher_in p (kind.Publisher q) = q

tail_of : {A : Type 0} → List A → List A
tail_of [] = []
tail_of (x ∷ xs) = xs

head_or : {A : Type 0} → A → List A → A
head_or d [] = d
head_or d (x ∷ xs) = x

-- a list with one element more at its end is of one list and one element
pub one_end : {A : Type 0} (xs ys : List A) (a b : A) → xs ++ a ∷ [] ≡ ys ++ b ∷ [] → (xs ≡ ys) × (a ≡ b)
unfolding tail_of head_or
one_end [] [] a b e = (refl, ap (head_or a) e)
one_end [] (y ∷ ys) a b e = let n = ap length e in let m = length-append ys (b ∷ []) in absurd (omega (arith, n, m))
one_end (x ∷ xs) [] a b e = let n = ap length e in let m = length-append xs (a ∷ []) in absurd (omega (arith, n, m))
one_end (x ∷ xs) (y ∷ ys) a b e =
    let r = one_end xs ys a b (ap tail_of e) in
    let h : x ≡ y = ap (head_or x) e in
    ((λ i. h i ∷ r.0 i), r.1)

pub same_publisher : {G : Type 0} (p q : PublishState) → ◌≡◌ {A = Actor G} (kind.Publisher p) (kind.Publisher q) → p ≡ q
unfolding publisher_in
same_publisher {G} p q e = ap (publisher_in {G = G} p) e
