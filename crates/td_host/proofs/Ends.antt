-- What all actors did, from what each did.
use Rattle.std.proofs.Common.{◌≡◌, ◌⊎◌, ℕ, suc, ◌+◌, ◌*◌, ◌<◌, ◌≤◌, true, false, cond, List, [], ◌∷◌, ◌++◌, map, length, Option, Some, None, refl, sym, ap, ◌∙◌, subst, inl, inr, ⊎_elim, arith, add-zero, add_assoc, append_assoc, length-append}
use Rattle.std.specs.Prelude.{slice_index_or}
use Rattle.std.specs.List.{All, Contains, sum_by}
use Rattle.std.proofs.Math.Nat.{suc-mul}
use Rattle.std.proofs.lemmas.Bool.{lt-ltb, le-ltb}
use Rattle.std.proofs.lemmas.List.{map-append, append-nil}
use Rattle.std.proofs.lemmas.List.Elements.{All-nil, All-cons, All-head, All-tail, All-append, Contains-append_left, Contains-append_right, Contains-get_or}
use Rattle.std.proofs.lemmas.List.Sums.{sum_by-append, sum_by-cons}
use Rattle.td_words.specs.declared.view.SeatView.{SeatView}
use Rattle.td_words.specs.declared.view.HostView.{HostView}
use Rattle.td_words.specs.History.{loads, stores}
use Rattle.td_words.specs.Views.{seat_view, host_view, with_ended}
use Rattle.td_words.specs.Seats.{SeatState, BufferState}
use Rattle.td_ring.specs.declared.roll.Part.{Part}
use Rattle.td_ring.specs.declared.roll.Head.{Head}
use Rattle.td_ring.specs.Roll.{part_of, head_of, owned}
use Rattle.td_ring.specs.declared.post.Post.{Post}
use Rattle.td_ring.specs.Heads.{with_ended as part_ended}
use Rattle.td_ring.specs.Ring.{PassState, RingState, ring_view}
use Rattle.td_ring.specs.Tickets.{DrawerState, ticket_view}
use Rattle.td_posts.specs.declared.job.Step.{Step}
use Rattle.td_posts.specs.declared.job.Step.TheVariants as step
use Rattle.td_posts.specs.declared.mail.Mail.{Mail}
use Rattle.td_posts.specs.declared.reply.Reply.{Reply}
use Rattle.td_posts.specs.declared.job.HostJob.{HostJob}
use Rattle.td_posts.specs.Posts.{all_mails, stores_of, reply_name, version_in}
use Rattle.td_swap.specs.declared.view.SwapView.{SwapView}
use Rattle.td_swap.specs.Views.{swap_view, new_view}
use Rattle.td_swap.specs.Seats.{SwapState, swap_state}
use Rattle.td_host_actors.specs.declared.actor.Actor.{Actor}
use Rattle.td_host_actors.specs.declared.actor.Actor.TheVariants as kind
use Rattle.td_host_actors.specs.Replies.{pieces}
use Rattle.td_host.specs.Served.{In, ArePieces, joined, AreStored, ArePosted, AnswerTakes}
use Rattle.td_host_actors.specs.Acting.{acts_of, guest_seat, read_seat, post_pass, take_pass, ticket_seat, RanScript, RanWorker, Answered}
use Rattle.td_host_actors.specs.Actors.{Service, Did}
use Rattle.td_host.specs.Gathered.{view_of, put_one, take_one, draw_one, swap_one, seats_all, puts_all, takes_all, draws_all, swaps_all, all_replies, takes_of_all, FreshWorkers, FreshGuests}
use Rattle.td_host.proofs.Shares.{one_below}

stores_acts : (script : List Step) → stores (acts_of script) ≡ stores_of script
unfolding acts_of stores_of
stores_acts [] = refl
stores_acts (step.Store w v ∷ steps) = ap (λ l. (w, v) ∷ l) (stores_acts steps)
stores_acts (step.Post b l ∷ steps) = stores_acts steps
stores_acts (step.Scatter l ∷ steps) = stores_acts steps

loads_acts : (script : List Step) → loads (acts_of script) ≡ []
unfolding acts_of
loads_acts [] = refl
loads_acts (step.Store w v ∷ steps) = loads_acts steps
loads_acts (step.Post b l ∷ steps) = loads_acts steps
loads_acts (step.Scatter l ∷ steps) = loads_acts steps

pub owned-append : {A : Type 0} (ps qs : List (Part A)) → owned (ps ++ qs) ≡ owned ps ++ owned qs
unfolding owned
owned-append [] qs = refl
owned-append (p ∷ ps) qs = ap (λ l. p.own ++ l) (owned-append ps qs) ∙ sym (append_assoc p.own (owned ps) (owned qs))

-- one more, where there is one
unfoldable pub cons_opt : {A : Type 0} → Option A → List A → List A
cons_opt None xs = xs
cons_opt (Some x) xs = x ∷ xs

none_counted : (n : ℕ) (above : List ℕ) → All (λ (k : ℕ). n ≤ k) above → sum_by (one_below n) above ≡ 0
none_counted n [] more = refl
none_counted n (k ∷ above) more =
    let c = sum_by-cons (one_below n) k above in
    let z : one_below n k ≡ 0 = ap (λ b. cond b 1 0) (le-ltb k n (All-head (λ (x : ℕ). n ≤ x) k above more)) in
    let r = none_counted n above (All-tail (λ (x : ℕ). n ≤ x) k above more) in
    omega arith

all_counted : (n : ℕ) (below above : List ℕ) → All (λ (k : ℕ). k < n) below → All (λ (k : ℕ). n ≤ k) above → sum_by (one_below n) (below ++ above) ≡ length below
all_counted n [] above all more = none_counted n above more
all_counted n (k ∷ below) above all more =
    let c = sum_by-cons (one_below n) k (below ++ above) in
    let lt : k < n = All-head (λ (x : ℕ). x < n) k below all in
    let o : one_below n k ≡ 1 = ap (λ b. cond b 1 0) (lt-ltb k n lt) in
    let r = all_counted n below above (All-tail (λ (x : ℕ). x < n) k below all) more in
    omega arith

one_more_few : (a b c n m : ℕ) → a ≡ b + c → b ≤ n → c ≤ m → a ≤ m + n
one_more_few a b c n m e h k = omega arith

-- nothing more was gathered
with_none : (v : SwapView) → v ≡ swap_view v.count (v.made + 0) v.loads (v.ended ++ [])
with_none v = λ i. swap_view v.count (sym (add-zero v.made) i) v.loads (sym (append-nil v.ended) i)

module _ {G : Type 0} where
  -- the part that an actor hands back, of each kind
  abbrev pub put_of : Actor G → Option (Part Post)
  put_of (kind.Worker w) = None
  put_of (kind.Guest g) = g.pass.view.put
  put_of (kind.Ring t) = None
  put_of (kind.Publisher p) = None

  abbrev pub take_of : Actor G → Option (Part Post)
  take_of (kind.Worker w) = w.pass.view.take
  take_of (kind.Guest g) = None
  take_of (kind.Ring t) = None
  take_of (kind.Publisher p) = None

  abbrev pub draw_of : Actor G → Option (Part ℕ)
  draw_of (kind.Worker w) = w.drawer.view.draws
  draw_of (kind.Guest g) = None
  draw_of (kind.Ring t) = None
  draw_of (kind.Publisher p) = None

  -- the lists of numbers that it hands back
  abbrev pub swaps_of : Actor G → List (List ℕ)
  swaps_of (kind.Worker w) = w.swap.view.loads ∷ w.swap.view.ended
  swaps_of (kind.Guest g) = []
  swaps_of (kind.Ring t) = []
  swaps_of (kind.Publisher p) = []

  -- how many seats at the version word its own one made
  abbrev pub made_of : Actor G → ℕ
  made_of (kind.Worker w) = w.swap.view.made
  made_of (kind.Guest g) = 0
  made_of (kind.Ring t) = 0
  made_of (kind.Publisher p) = 0

  unfoldable pub put_parts : List (Actor G) → List (Part Post)
  put_parts [] = []
  put_parts (a ∷ ds) = cons_opt (put_of a) (put_parts ds)

  unfoldable pub take_parts : List (Actor G) → List (Part Post)
  take_parts [] = []
  take_parts (a ∷ ds) = cons_opt (take_of a) (take_parts ds)

  unfoldable pub draw_parts : List (Actor G) → List (Part ℕ)
  draw_parts [] = []
  draw_parts (a ∷ ds) = cons_opt (draw_of a) (draw_parts ds)

  unfoldable pub swap_lists : List (Actor G) → List (List ℕ)
  swap_lists [] = []
  swap_lists (a ∷ ds) = swaps_of a ++ swap_lists ds

  unfoldable pub swaps_made : List (Actor G) → ℕ
  swaps_made [] = 0
  swaps_made (a ∷ ds) = made_of a + swaps_made ds

  -- ---- what is gathered
  pub seats_are : (h : HostView) (ds : List (Actor G)) → seats_all h ds ≡ host_view h.opened h.made (h.ended ++ map view_of ds)
  unfolding seats_all
  seats_are h [] = ap (host_view h.opened h.made) (sym (append-nil h.ended))
  seats_are h (a ∷ ds) = seats_are (with_ended h (view_of a)) ds ∙ ap (host_view h.opened h.made) (append_assoc h.ended (view_of a ∷ []) (map view_of ds))

  put_one_is : (h : Head Post) (p t : Option (Part Post)) (th : Option (Head Post)) (a : Actor G) → put_one (ring_view (Some h) p th t) a ≡ ring_view (part_ended (Some h) (put_of a)) p th t
  put_one_is h p t th (kind.Worker w) = refl
  put_one_is h p t th (kind.Guest g) = refl
  put_one_is h p t th (kind.Ring r) = refl
  put_one_is h p t th (kind.Publisher q) = refl

  take_one_is : (h : Head Post) (p t : Option (Part Post)) (ph : Option (Head Post)) (a : Actor G) → take_one (ring_view ph p (Some h) t) a ≡ ring_view ph p (part_ended (Some h) (take_of a)) t
  take_one_is h p t ph (kind.Worker w) = refl
  take_one_is h p t ph (kind.Guest g) = refl
  take_one_is h p t ph (kind.Ring r) = refl
  take_one_is h p t ph (kind.Publisher q) = refl

  draw_one_is : (h : Head ℕ) (d : Option (Part ℕ)) (a : Actor G) → draw_one (ticket_view (Some h) d) a ≡ ticket_view (part_ended (Some h) (draw_of a)) d
  draw_one_is h d (kind.Worker w) = refl
  draw_one_is h d (kind.Guest g) = refl
  draw_one_is h d (kind.Ring r) = refl
  draw_one_is h d (kind.Publisher q) = refl

  swap_one_is : (v : SwapView) (a : Actor G) → swap_one v a ≡ swap_view v.count (v.made + made_of a) v.loads (v.ended ++ swaps_of a)
  swap_one_is v (kind.Worker w) = refl
  swap_one_is v (kind.Guest g) = with_none v
  swap_one_is v (kind.Ring r) = with_none v
  swap_one_is v (kind.Publisher q) = with_none v

  pub swaps_are : (v : SwapView) (ds : List (Actor G)) → swaps_all v ds ≡ swap_view v.count (v.made + swaps_made ds) v.loads (v.ended ++ swap_lists ds)
  unfolding swaps_all swap_lists swaps_made
  swaps_are v [] = with_none v
  swaps_are v (a ∷ ds) =
      ap (λ x. swaps_all x ds) (swap_one_is v a)
      ∙ (swaps_are (swap_view v.count (v.made + made_of a) v.loads (v.ended ++ swaps_of a)) ds
      ∙ (λ i. swap_view v.count (add_assoc v.made (made_of a) (swaps_made ds) i) v.loads (append_assoc v.ended (swaps_of a) (swap_lists ds) i)))

  pub puts_are : (made : ℕ) (ended : List (Part Post)) (p t : Option (Part Post)) (th : Option (Head Post)) (ds : List (Actor G))
      → puts_all (ring_view (Some (head_of made ended)) p th t) ds ≡ ring_view (Some (head_of made (ended ++ put_parts ds))) p th t
  unfolding puts_all put_parts cons_opt
  puts_are made ended p t th [] = ap (λ e. ring_view (Some (head_of made e)) p th t) (sym (append-nil ended))
  puts_are made ended p t th (a ∷ ds) = ap (λ v. puts_all v ds) (put_one_is (head_of made ended) p t th a) ∙ here (λ e. puts_are made e p t th ds) (put_of a)
    where
      here : ((e : List (Part Post)) → puts_all (ring_view (Some (head_of made e)) p th t) ds ≡ ring_view (Some (head_of made (e ++ put_parts ds))) p th t) → (o : Option (Part Post)) → puts_all (ring_view (part_ended (Some (head_of made ended)) o) p th t) ds ≡ ring_view (Some (head_of made (ended ++ cons_opt o (put_parts ds)))) p th t
      here rec None = rec ended
      here rec (Some x) = rec (ended ++ x ∷ []) ∙ ap (λ e. ring_view (Some (head_of made e)) p th t) (append_assoc ended (x ∷ []) (put_parts ds))

  pub takes_are : (made : ℕ) (ended : List (Part Post)) (p t : Option (Part Post)) (ph : Option (Head Post)) (ds : List (Actor G))
      → takes_all (ring_view ph p (Some (head_of made ended)) t) ds ≡ ring_view ph p (Some (head_of made (ended ++ take_parts ds))) t
  unfolding takes_all take_parts cons_opt
  takes_are made ended p t ph [] = ap (λ e. ring_view ph p (Some (head_of made e)) t) (sym (append-nil ended))
  takes_are made ended p t ph (a ∷ ds) = ap (λ v. takes_all v ds) (take_one_is (head_of made ended) p t ph a) ∙ here (λ e. takes_are made e p t ph ds) (take_of a)
    where
      here : ((e : List (Part Post)) → takes_all (ring_view ph p (Some (head_of made e)) t) ds ≡ ring_view ph p (Some (head_of made (e ++ take_parts ds))) t) → (o : Option (Part Post)) → takes_all (ring_view ph p (part_ended (Some (head_of made ended)) o) t) ds ≡ ring_view ph p (Some (head_of made (ended ++ cons_opt o (take_parts ds)))) t
      here rec None = rec ended
      here rec (Some x) = rec (ended ++ x ∷ []) ∙ ap (λ e. ring_view ph p (Some (head_of made e)) t) (append_assoc ended (x ∷ []) (take_parts ds))

  pub draws_are : (made : ℕ) (ended : List (Part ℕ)) (d : Option (Part ℕ)) (ds : List (Actor G))
      → draws_all (ticket_view (Some (head_of made ended)) d) ds ≡ ticket_view (Some (head_of made (ended ++ draw_parts ds))) d
  unfolding draws_all draw_parts cons_opt
  draws_are made ended d [] = ap (λ e. ticket_view (Some (head_of made e)) d) (sym (append-nil ended))
  draws_are made ended d (a ∷ ds) = ap (λ v. draws_all v ds) (draw_one_is (head_of made ended) d a) ∙ here (λ e. draws_are made e d ds) (draw_of a)
    where
      here : ((e : List (Part ℕ)) → draws_all (ticket_view (Some (head_of made e)) d) ds ≡ ticket_view (Some (head_of made (e ++ draw_parts ds))) d) → (o : Option (Part ℕ)) → draws_all (ticket_view (part_ended (Some (head_of made ended)) o) d) ds ≡ ticket_view (Some (head_of made (ended ++ cons_opt o (draw_parts ds)))) d
      here rec None = rec ended
      here rec (Some x) = rec (ended ++ x ∷ []) ∙ ap (λ e. ticket_view (Some (head_of made e)) d) (append_assoc ended (x ∷ []) (draw_parts ds))

  -- ---- what each did
  module _ (job : HostJob) (mails : List Mail) where
    unfoldable pub DidAll : List (Actor G) → List (Actor G) → Type 0
    DidAll [] [] = Unit {0}
    DidAll [] (y ∷ ys) = ⊥
    DidAll (x ∷ xs) [] = ⊥
    DidAll (x ∷ xs) (y ∷ ys) = Did job mails x y × DidAll xs ys

    pub did_all : (xs ys : List (Actor G)) → length ys ≡ length xs → ((i : ℕ) (d : Actor G) → i < length xs → Did job mails (slice_index_or xs i d) (slice_index_or ys i d)) → DidAll xs ys
    unfolding DidAll
    did_all [] [] e f = tt
    did_all [] (y ∷ ys) e f = absurd (omega arith)
    did_all (x ∷ xs) [] e f = absurd (omega arith)
    did_all (x ∷ xs) (y ∷ ys) e f = (f 0 x (omega arith), did_all xs ys (omega arith) (λ i d lt. f (suc i) d (omega arith)))

    -- those of the first list, and those of the second
    pub did_both : (xs zs ys : List (Actor G)) → DidAll (xs ++ zs) ys → (ls : List (Actor G)) × (rs : List (Actor G)) × (ys ≡ ls ++ rs) × DidAll xs ls × DidAll zs rs
    unfolding DidAll
    did_both [] zs ys d = ([], ys, refl, tt, d)
    did_both (x ∷ xs) zs [] d = absurd d
    did_both (x ∷ xs) zs (y ∷ ys) d =
        let r = did_both xs zs ys d.1 in
        (y ∷ r.0, r.1, ap (λ l. y ∷ l) r.2, (d.0, r.3), r.4)

    -- ---- guests
    pub record GuestsDone (number n m : ℕ) (ss : List (List Step)) (ds : List (Actor G)) : Type 0 where
      pub stored_by : AreStored n ss (map view_of ds)
      pub posted : ArePosted number m ss (put_parts ds)
      pub as_many : length (put_parts ds) ≡ length ds
      pub no_takes : take_parts ds ≡ []
      pub no_draws : draw_parts ds ≡ []
      pub no_replies : all_replies ds ≡ []
      pub no_swaps : swap_lists ds ≡ []
      pub none_made : swaps_made ds ≡ 0
      pub no_taking : takes_of_all ds ≡ []

    module _ (names : Post → Type 0) (shared : BufferState) (ring : RingState) (opened : List ℕ) where
      pub guests_done : (number n m : ℕ) (ss : List (List Step)) (ds bs : List (Actor G)) → FreshGuests names shared ring opened number n m ss ds → DidAll ds bs → GuestsDone number n m ss bs
      unfolding DidAll FreshGuests AreStored ArePosted cons_opt put_parts take_parts draw_parts all_replies takes_of_all swap_lists swaps_made
      guests_done number n m [] [] [] f d = record { stored_by = tt; posted = tt; as_many = refl; no_takes = refl; no_draws = refl; no_replies = refl; no_swaps = refl; none_made = refl; no_taking = refl }
      guests_done number n m [] [] (b ∷ bs) f d = absurd d
      guests_done number n m [] (a ∷ ds) bs f d = absurd f
      guests_done number n m (s ∷ ss) [] bs f d = absurd f
      guests_done number n m (s ∷ ss) (kind.Worker w ∷ ds) bs f d = absurd f
      guests_done number n m (s ∷ ss) (kind.Ring t ∷ ds) bs f d = absurd f
      guests_done number n m (s ∷ ss) (kind.Publisher q ∷ ds) bs f d = absurd f
      guests_done number n m (s ∷ ss) (kind.Guest g ∷ ds) [] f d = absurd d
      guests_done number n m (s ∷ ss) (kind.Guest g ∷ ds) (kind.Worker w ∷ bs) f d = absurd d.0
      guests_done number n m (s ∷ ss) (kind.Guest g ∷ ds) (kind.Ring t ∷ bs) f d = absurd d.0
      guests_done number n m (s ∷ ss) (kind.Guest g ∷ ds) (kind.Publisher q ∷ bs) f d = absurd d.0
      guests_done number n m (s ∷ ss) (kind.Guest g ∷ ds) (kind.Guest h ∷ bs) f d =
          let x = f.0 in
          let p : RanScript number s g.seat h.seat g.pass h.pass = subst (λ (y : ℕ × List Step). RanScript y.0 y.1 g.seat h.seat g.pass h.pass) (λ i. (x.is_number i, x.is_script i)) d.0 in
          let r = guests_done (number + 1) (x.seat_number + 1) (x.pass_number + 1) ss ds bs f.1 d.1 in
          let table : g.seat.table ≡ shared.table = ap (λ (z : SeatState). z.table) x.is_seat in
          let queue : g.pass.queue ≡ ring.queue = ap (λ (z : PassState). z.queue) x.is_pass in
          let seat = p.is_seat opened x.seat_number (x.is_seat ∙ ap (λ t. guest_seat t opened x.seat_number []) (sym table)) in
          let pass = p.is_pass x.pass_number (x.is_pass ∙ ap (λ q. post_pass q x.pass_number []) (sym queue)) in
          let view : h.seat.view ≡ seat_view opened x.seat_number true (acts_of s) = ap (λ (z : SeatState). z.view) seat in
          let put : h.pass.view.put ≡ Some (part_of x.pass_number p.posts) = ap (λ (z : PassState). z.view.put) pass in
          let parts : cons_opt h.pass.view.put (put_parts bs) ≡ part_of x.pass_number p.posts ∷ put_parts bs = ap (λ o. cons_opt o (put_parts bs)) put in
          record {
            stored_by = subst (λ v. AreStored n (s ∷ ss) (v ∷ map view_of bs)) (sym view) (refl, x.seat_rises, stores_acts s, loads_acts s, r.stored_by);
            posted = subst (ArePosted number m (s ∷ ss)) (sym parts) (x.pass_rises, p.labels, r.posted);
            as_many = ap length parts ∙ ap suc r.as_many;
            no_takes = r.no_takes;
            no_draws = r.no_draws;
            no_replies = r.no_replies;
            no_swaps = r.no_swaps;
            none_made = ap (λ n. 0 + n) r.none_made;
            no_taking = r.no_taking;
          }

    -- ---- workers
    pub record WorkersDone (ds : List (Actor G)) : Type 0 where
      pub shares : List (List Reply)
      pub are_pieces : ArePieces (all_mails 1 job.guests) (map view_of ds) shares
      pub divided : joined shares ≡ all_replies ds
      pub answered : All (Answered job) (all_replies ds)
      pub names : map reply_name (all_replies ds) ≡ map (λ (p : Post). p.name) (owned (take_parts ds))
      pub of_takes : AnswerTakes (take_parts ds) shares
      pub reading : All (λ (v : SeatView). (v.guest ≡ false) × (stores v.steps ≡ [])) (map view_of ds)
      pub quiet : (u : SeatView) → In u (map view_of ds) → stores u.steps ≡ []
      pub counts : sum_by (one_below (length mails)) (owned (draw_parts ds)) ≡ length (owned (take_parts ds))
      pub some : 0 < length ds → (length mails ≤ length (owned (take_parts ds))) ⊎ ((last : ℕ) × Contains (owned (draw_parts ds)) last × (length mails ≤ last))
      pub few : length (all_replies ds) ≤ length ds * length mails
      pub as_many_takes : length (take_parts ds) ≡ length ds
      pub as_many_draws : length (draw_parts ds) ≡ length ds
      pub no_puts : put_parts ds ≡ []
      pub numbers : swap_lists ds ≡ map (map version_in) shares
      pub none_made : swaps_made ds ≡ 0
      pub no_taking : takes_of_all ds ≡ []

    module _ (shared : BufferState) (ring : RingState) (service : Service) (opened : List ℕ) where
      pub workers_done : (ds bs : List (Actor G)) → FreshWorkers shared ring service opened ds → DidAll ds bs → WorkersDone bs
      unfolding DidAll FreshWorkers cons_opt In ArePieces AnswerTakes joined all_replies takes_of_all put_parts take_parts draw_parts swap_lists swaps_made owned
      workers_done [] [] f d = record {
        shares = [];
        are_pieces = tt;
        divided = refl;
        answered = All-nil (Answered job);
        names = refl;
        of_takes = tt;
        reading = All-nil (λ (v : SeatView). (v.guest ≡ false) × (stores v.steps ≡ []));
        quiet = λ u e. absurd e;
        counts = refl;
        some = λ lt. absurd (omega arith);
        few = omega arith;
        as_many_takes = refl;
        as_many_draws = refl;
        no_puts = refl;
        numbers = refl;
        none_made = refl;
        no_taking = refl;
      }
      workers_done [] (b ∷ bs) f d = absurd d
      workers_done (kind.Guest g ∷ ds) bs f d = absurd f
      workers_done (kind.Ring t ∷ ds) bs f d = absurd f
      workers_done (kind.Publisher q ∷ ds) bs f d = absurd f
      workers_done (kind.Worker w ∷ ds) [] f d = absurd d
      workers_done (kind.Worker w ∷ ds) (kind.Guest h ∷ bs) f d = absurd d.0
      workers_done (kind.Worker w ∷ ds) (kind.Ring t ∷ bs) f d = absurd d.0
      workers_done (kind.Worker w ∷ ds) (kind.Publisher q ∷ bs) f d = absurd d.0
      workers_done (kind.Worker w ∷ ds) (kind.Worker v ∷ bs) f d =
          let x = f.0 in
          let p : RanWorker job (length mails) w.seat v.seat w.pass v.pass w.drawer v.drawer w.swap v.swap v.replies.items = d.0 in
          let r = workers_done ds bs f.1 d.1 in
          let n = length mails in
          let table : w.seat.table ≡ shared.table = ap (λ (z : SeatState). z.table) x.is_seat in
          let queue : w.pass.queue ≡ ring.queue = ap (λ (z : PassState). z.queue) x.is_pass in
          let words : w.swap.table ≡ service.codes.table = ap (λ (z : SwapState). z.table) x.is_swap in
          let desk : w.drawer.table ≡ service.tickets = ap (λ (z : DrawerState). z.table) x.is_drawer in
          let seat = p.is_seat opened x.seat_number (x.is_seat ∙ ap (λ t. read_seat t opened x.seat_number []) (sym table)) in
          let pass = p.is_pass x.pass_number (x.is_pass ∙ ap (λ q. take_pass q x.pass_number []) (sym queue)) in
          let drawer = p.is_drawer x.drawer_number (x.is_drawer ∙ ap (λ q. ticket_seat q x.drawer_number []) (sym desk)) in
          let versions : ℕ = length service.codes.codes in
          let loaded = p.is_swap versions (x.is_swap ∙ ap (λ t. swap_state t (new_view versions)) (sym words)) in
          let view : v.seat.view ≡ seat_view opened x.seat_number false p.steps = ap (λ (z : SeatState). z.view) seat in
          let draws = p.below ++ p.above in
          let took : cons_opt v.pass.view.take (take_parts bs) ≡ part_of x.pass_number p.posts ∷ take_parts bs = ap (λ (z : PassState). cons_opt z.view.take (take_parts bs)) pass in
          let drew : cons_opt v.drawer.view.draws (draw_parts bs) ≡ part_of x.drawer_number draws ∷ draw_parts bs = ap (λ (z : DrawerState). cons_opt z.view.draws (draw_parts bs)) drawer in
          let rs = v.replies.items in
          record {
            shares = rs ∷ r.shares;
            are_pieces = subst (λ y. (loads y.steps ≡ pieces (all_mails 1 job.guests) rs) × ArePieces (all_mails 1 job.guests) (map view_of bs) r.shares) (sym view) (p.loaded, r.are_pieces);
            divided = ap (λ l. rs ++ l) r.divided;
            answered = All-append (Answered job) rs (all_replies bs) p.answered r.answered;
            names = map-append reply_name rs (all_replies bs) ∙ ((λ i. p.names i ++ r.names i) ∙ (sym (map-append (λ (y : Post). y.name) p.posts (owned (take_parts bs))) ∙ ap (λ l. map (λ (y : Post). y.name) (owned l)) (sym took)));
            of_takes = subst (λ (l : List (Part Post)). AnswerTakes l (rs ∷ r.shares)) (sym took) (p.names, r.of_takes);
            reading = All-cons (λ (y : SeatView). (y.guest ≡ false) × (stores y.steps ≡ [])) v.seat.view (map view_of bs) (ap (λ (y : SeatView). y.guest) view, ap (λ (y : SeatView). stores y.steps) view ∙ p.stored) r.reading;
            quiet = λ u e. ⊎_elim (λ (q : v.seat.view ≡ u). ap (λ (y : SeatView). stores y.steps) (sym q ∙ view) ∙ p.stored) (λ (q : In u (map view_of bs)). r.quiet u q) e;
            counts =
                let a = ap (λ l. sum_by (one_below n) (owned l)) drew in
                let b = sum_by-append (one_below n) draws (owned (draw_parts bs)) in
                let c = all_counted n p.below p.above p.all_below p.all_above in
                let e = ap (λ l. length (owned l)) took in
                let g = length-append p.posts (owned (take_parts bs)) in
                let h = r.counts in
                let k = p.as_many in
                omega arith;
            some = λ lt. ⊎_elim
                (λ (q : 0 < length p.above).
                let last : ℕ = slice_index_or p.above 0 0 in
                inr (last, subst (λ l. Contains (owned l) last) (sym drew) (Contains-append_left draws (owned (draw_parts bs)) last (Contains-append_right p.below p.above last (Contains-get_or p.above 0 0 q))), p.all_above 0 0 q))
                (λ (q : n ≤ length p.posts).
                let e = ap (λ l. length (owned l)) took in
                let g = length-append p.posts (owned (take_parts bs)) in
                inl (omega arith))
                p.enough;
            few = subst (λ k. length (rs ++ all_replies bs) ≤ k) (sym (suc-mul (length bs) n)) (one_more_few (length (rs ++ all_replies bs)) (length rs) (length (all_replies bs)) n (length bs * n) (length-append rs (all_replies bs)) p.few r.few);
            as_many_takes = ap length took ∙ ap suc r.as_many_takes;
            as_many_draws = ap length drew ∙ ap suc r.as_many_draws;
            no_puts = r.no_puts;
            numbers = λ i. (loaded i).view.loads ∷ ((loaded i).view.ended ++ r.numbers i);
            none_made = λ i. (loaded i).view.made + r.none_made i;
            no_taking = r.no_taking;
          }
