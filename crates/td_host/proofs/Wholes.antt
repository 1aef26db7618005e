-- All posts are served, from what each actor did and what the ring, the tickets and the buffer tell.
use Rattle.std.proofs.Common.{◌≡◌, ℕ, suc, ◌+◌, ◌*◌, ◌<◌, ◌≤◌, ◌^◌, ◌-◌, List, [], ◌∷◌, ◌++◌, map, length, Option, Some, None, refl, sym, ap, ◌∙◌, subst, ⊎_elim, arith, add-zero, zero-add, add_assoc, append_assoc, length-append}
use Rattle.std.specs.List.{All, Contains, sum_by}
use Rattle.std.specs.List.Sorted.{IsPermutation}
use Rattle.std.proofs.lemmas.List.{map-append, length-map, append-nil}
use Rattle.std.proofs.lemmas.List.Elements.{All-nil}
use Rattle.std.proofs.lemmas.List.Sorted.{IsPermutation-map, All-permutation, sum_by-IsPermutation}
use Rattle.td_num.proofs.Lists.{all_right}
use Rattle.td_posts.specs.declared.name.PostName.{PostName}
use Rattle.td_words.specs.declared.view.HostView.{HostView}
use Rattle.td_words.specs.Views.{host_view}
use Rattle.td_words.specs.History.{Entry as HistoryEntry}
use Rattle.td_words.specs.Gathered.{Fetched, IsHistoryOf}
use Rattle.td_words.specs.Seats.{BufferState, HostState}
use Rattle.td_ring.specs.declared.roll.Part.{Part}
use Rattle.td_ring.specs.declared.roll.Head.{Head}
use Rattle.td_ring.specs.Roll.{Entry, part_of, head_of, owned}
use Rattle.td_ring.specs.declared.post.Post.{Post}
use Rattle.td_ring.specs.declared.view.RingView.{RingView}
use Rattle.td_ring.specs.declared.view.TicketView.{TicketView}
use Rattle.td_ring.specs.Ring.{PassState, RingState, ring_view, with_takes, Settled}
use Rattle.td_ring.specs.Tickets.{DrawerState, ticket_view, Drawn}
use Rattle.td_posts.specs.declared.job.Step.{Step}
use Rattle.td_posts.specs.declared.mail.Mail.{Mail}
use Rattle.td_posts.specs.declared.reply.Reply.{Reply}
use Rattle.td_posts.specs.declared.job.HostJob.{HostJob}
use Rattle.td_posts.specs.Posts.{mails_of, all_mails, reply_name, version_in}
use Rattle.td_swap.specs.declared.view.SwapView.{SwapView}
use Rattle.td_swap.specs.declared.view.PublisherView.{PublisherView}
use Rattle.td_swap.specs.Views.{publisher_view, swap_view, new_view, IsVersionRun, AreVersions}
use Rattle.td_host.specs.Versioned.{Versioned, ServedVersions}
use Rattle.td_core.specs.declared.module.Module.{Module}
use Rattle.td_takes.specs.declared.take.Take.{Take}
use Rattle.td_host_actors.specs.declared.actor.Actor.{Actor}
use Rattle.td_host_actors.specs.Replies.{label, mail_label}
use Rattle.td_host.specs.Served.{ArePosted, joined, AnswerTakes, Served}
use Rattle.td_host_actors.specs.Acting.{Answered}
use Rattle.td_host_actors.specs.Actors.{Service, replies_of}
use Rattle.td_host.specs.Gathered.{view_of, seats_all, puts_all, takes_all, draws_all, swaps_all, all_replies, takes_of, takes_of_all, IsDescribedBy, Armed}
use Rattle.td_host.proofs.Shares.{all_taken, drawn_all, drawn_below}
use Rattle.td_host.proofs.Ends.{put_of, take_of, draw_of, swaps_of, made_of, put_parts, take_parts, draw_parts, swap_lists, swaps_made, swaps_are, seats_are, puts_are, takes_are, draws_are, DidAll, did_both, GuestsDone, guests_done, WorkersDone, workers_done, cons_opt}
use Rattle.td_host.proofs.Takings.{TakersDone, takers_done}
use Rattle.td_host.specs.Hosts.{takes_in}
use Rattle.td_host.proofs.Unique.{replies_to}
use Rattle.td_host.proofs.Fetching.{fetches}

-- what the guests posted is what the scripts have
labels_all : (g m : ℕ) (ss : List (List Step)) (ps : List (Part Post)) → ArePosted g m ss ps → map label (owned ps) ≡ map mail_label (all_mails g ss)
unfolding ArePosted owned all_mails
labels_all g m [] [] p = refl
labels_all g m [] (x ∷ ps) p = absurd p
labels_all g m (s ∷ ss) [] p = absurd p
labels_all g m (s ∷ ss) (x ∷ ps) p =
    map-append label x.own (owned ps) ∙ ((λ i. p.1 i ++ labels_all (g + 1) (x.number + 1) ss ps p.2 i) ∙ sym (map-append mail_label (mails_of g s) (all_mails (g + 1) ss)))

names_posts : (ps : List Post) → map (λ (p : Post). p.name) ps ≡ map (λ (x : PostName × ℕ). x.0) (map label ps)
names_posts [] = refl
names_posts (p ∷ ps) = ap (λ l. p.name ∷ l) (names_posts ps)

names_mails : (ms : List Mail) → map (λ (m : Mail). m.name) ms ≡ map (λ (x : PostName × ℕ). x.0) (map mail_label ms)
names_mails [] = refl
names_mails (m ∷ ms) = ap (λ l. m.name ∷ l) (names_mails ms)

cons-append : {A : Type 0} (o : Option A) (xs ys zs : List A) → zs ≡ xs ++ ys → cons_opt o zs ≡ cons_opt o xs ++ ys
unfolding cons_opt
cons-append None xs ys zs e = e
cons-append (Some x) xs ys zs e = ap (λ l. x ∷ l) e

same_shares : (ps : List (Part Post)) (shares : List (List Reply)) → AnswerTakes ps shares → length shares ≡ length ps
unfolding AnswerTakes
same_shares [] [] a = refl
same_shares [] (x ∷ xs) a = absurd a
same_shares (p ∷ ps) [] a = absurd a
same_shares (p ∷ ps) (x ∷ xs) a = ap suc (same_shares ps xs a.1)

joined-map : {A B : Type 0} (f : A → B) (xss : List (List A)) → joined (map (map f) xss) ≡ map f (joined xss)
unfolding joined
joined-map f [] = refl
joined-map f (xs ∷ xss) = ap (λ l. map f xs ++ l) (joined-map f xss) ∙ sym (map-append f xs (joined xss))

module _ {G : Type 0} where
  puts-append : (xs ys : List (Actor G)) → put_parts (xs ++ ys) ≡ put_parts xs ++ put_parts ys
  unfolding put_parts
  puts-append [] ys = refl
  puts-append (x ∷ xs) ys = cons-append (put_of x) (put_parts xs) (put_parts ys) (put_parts (xs ++ ys)) (puts-append xs ys)

  takes-append : (xs ys : List (Actor G)) → take_parts (xs ++ ys) ≡ take_parts xs ++ take_parts ys
  unfolding take_parts
  takes-append [] ys = refl
  takes-append (x ∷ xs) ys = cons-append (take_of x) (take_parts xs) (take_parts ys) (take_parts (xs ++ ys)) (takes-append xs ys)

  draws-append : (xs ys : List (Actor G)) → draw_parts (xs ++ ys) ≡ draw_parts xs ++ draw_parts ys
  unfolding draw_parts
  draws-append [] ys = refl
  draws-append (x ∷ xs) ys = cons-append (draw_of x) (draw_parts xs) (draw_parts ys) (draw_parts (xs ++ ys)) (draws-append xs ys)

  replies-append : (xs ys : List (Actor G)) → all_replies (xs ++ ys) ≡ all_replies xs ++ all_replies ys
  unfolding all_replies
  replies-append [] ys = refl
  replies-append (x ∷ xs) ys = ap (λ l. replies_of x ++ l) (replies-append xs ys) ∙ sym (append_assoc (replies_of x) (all_replies xs) (all_replies ys))

  numbers-append : (xs ys : List (Actor G)) → swap_lists (xs ++ ys) ≡ swap_lists xs ++ swap_lists ys
  unfolding swap_lists
  numbers-append [] ys = refl
  numbers-append (x ∷ xs) ys = ap (λ l. swaps_of x ++ l) (numbers-append xs ys) ∙ sym (append_assoc (swaps_of x) (swap_lists xs) (swap_lists ys))

  made-append : (xs ys : List (Actor G)) → swaps_made (xs ++ ys) ≡ swaps_made xs + swaps_made ys
  unfolding swaps_made
  made-append [] ys = sym (zero-add (swaps_made ys))
  made-append (x ∷ xs) ys = ap (λ n. made_of x + n) (made-append xs ys) ∙ sym (add_assoc (made_of x) (swaps_made xs) (swaps_made ys))

  takings-append : (xs ys : List (Actor G)) → takes_of_all (xs ++ ys) ≡ takes_of_all xs ++ takes_of_all ys
  unfolding takes_of_all
  takings-append [] ys = refl
  takings-append (x ∷ xs) ys = ap (λ l. takes_of x ++ l) (takings-append xs ys) ∙ sym (append_assoc (takes_of x) (takes_of_all xs) (takes_of_all ys))

  module _ (job : HostJob) (mails : List Mail) where
    did_length : (xs ys : List (Actor G)) → DidAll job mails xs ys → length ys ≡ length xs
    unfolding DidAll
    did_length [] [] d = refl
    did_length [] (y ∷ ys) d = absurd d
    did_length (x ∷ xs) [] d = absurd d
    did_length (x ∷ xs) (y ∷ ys) d = ap suc (did_length xs ys d.1)

  module _ (names : Post → Type 0) (shared : BufferState) (ring : RingState) (service : Service) (job : HostJob) (mails : List Mail)
      (seat : HostState) (posts takes : PassState) (drawer : DrawerState) (olds news : List (Actor G)) where
    pub record Halves : Type 0 where
      pub workers : List (Actor G)
      pub guests : List (Actor G)
      pub takers : List (Actor G)
      pub are : news ≡ workers ++ (guests ++ takers)
      pub worked : WorkersDone job mails workers
      pub stored_by : GuestsDone job mails 1 0 0 job.guests guests
      pub before : List (Actor G)
      pub taken_by : TakersDone job mails 1 job.rings before takers
      pub described : (m : Module) → All (IsDescribedBy m) olds → All (IsDescribedBy m) before
      pub as_many : length workers ≡ job.workers
      pub some_worker : 0 < length workers
      pub host : seat.view ≡ host_view job.words (length workers + (length guests + length takers)) []
      pub post_head : posts.view ≡ ring_view (Some (head_of (length guests + 1) [])) (Some (part_of 0 [])) None None
      pub take_head : takes.view ≡ ring_view None None (Some (head_of (length workers + 1) [])) (Some (part_of 0 []))
      pub ticket_head : drawer.view ≡ ticket_view (Some (head_of (length workers + 1) [])) (Some (part_of 0 []))

    pub halves : Armed names shared ring service job seat posts takes drawer olds → DidAll job mails olds news → Halves
    halves a did =
        let b = did_both job mails a.workers (a.guests ++ a.takers) news (subst (λ l. DidAll job mails l news) a.are did) in
        let e = did_both job mails a.guests a.takers b.1 b.4 in
        let ls = b.0 in
        let rs = e.0 in
        let ts = e.1 in
        let w : length ls ≡ length a.workers = did_length job mails a.workers ls b.3 in
        let g : length rs ≡ length a.guests = did_length job mails a.guests rs e.3 in
        let t : length ts ≡ length a.takers = did_length job mails a.takers ts e.4 in
        let some = a.some_worker in
        record {
          workers = ls;
          guests = rs;
          takers = ts;
          are = b.2 ∙ ap (λ l. ls ++ l) e.2;
          worked = workers_done job mails shared ring service job.words a.workers ls a.fresh_workers b.3;
          stored_by = guests_done job mails names shared ring job.words 1 0 0 job.guests a.guests rs a.fresh_guests e.3;
          before = a.takers;
          taken_by = takers_done job mails shared service 1 job.rings a.readers a.takers ts a.fresh_takers e.4;
          described = λ m all. all_right (IsDescribedBy m) a.guests a.takers (all_right (IsDescribedBy m) a.workers (a.guests ++ a.takers) (subst (All (IsDescribedBy m)) a.are all));
          as_many = w ∙ a.as_many;
          some_worker = omega arith;
          host = ap (λ (k : HostState). k.view) a.host ∙ (λ i. host_view job.words (sym w i + (sym g i + sym t i)) []);
          post_head = ap (λ (h : PassState). h.view) a.post_head ∙ (λ i. ring_view (Some (head_of (sym g i + 1) [])) (Some (part_of 0 [])) None None);
          take_head = ap (λ (h : PassState). h.view) a.take_head ∙ (λ i. ring_view None None (Some (head_of (sym w i + 1) [])) (Some (part_of 0 [])));
          ticket_head = ap (λ (d : DrawerState). d.view) a.ticket_head ∙ (λ i. ticket_view (Some (head_of (sym w i + 1) [])) (Some (part_of 0 [])));
        }

    module _ (h : Halves) where
      -- of the three lists only one has any
      of_middle : {A : Type 0} (of : List (Actor G) → List A) → ((xs ys : List (Actor G)) → of (xs ++ ys) ≡ of xs ++ of ys) → of h.workers ≡ [] → of h.takers ≡ [] → of news ≡ of h.guests
      of_middle of split none none' =
          ap of h.are ∙ (split h.workers (h.guests ++ h.takers) ∙ ((λ i. none i ++ split h.guests h.takers i) ∙ (ap (λ l. of h.guests ++ l) none' ∙ append-nil (of h.guests))))

      of_first : {A : Type 0} (of : List (Actor G) → List A) → ((xs ys : List (Actor G)) → of (xs ++ ys) ≡ of xs ++ of ys) → of h.guests ≡ [] → of h.takers ≡ [] → of news ≡ of h.workers
      of_first of split none none' =
          ap of h.are ∙ (split h.workers (h.guests ++ h.takers) ∙ (ap (λ l. of h.workers ++ l) (split h.guests h.takers ∙ (λ i. none i ++ none' i)) ∙ append-nil (of h.workers)))

      of_last : {A : Type 0} (of : List (Actor G) → List A) → ((xs ys : List (Actor G)) → of (xs ++ ys) ≡ of xs ++ of ys) → of h.workers ≡ [] → of h.guests ≡ [] → of news ≡ of h.takers
      of_last of split none none' =
          ap of h.are ∙ (split h.workers (h.guests ++ h.takers) ∙ ((λ i. none i ++ split h.guests h.takers i) ∙ (λ i. none' i ++ of h.takers)))

      puts_right : put_parts news ≡ put_parts h.guests
      puts_right = of_middle put_parts puts-append h.worked.no_puts h.taken_by.no_puts

      takes_left : take_parts news ≡ take_parts h.workers
      takes_left = of_first take_parts takes-append h.stored_by.no_takes h.taken_by.no_takes

      draws_left : draw_parts news ≡ draw_parts h.workers
      draws_left = of_first draw_parts draws-append h.stored_by.no_draws h.taken_by.no_draws

      replies_left : all_replies news ≡ all_replies h.workers
      replies_left = of_first all_replies replies-append h.stored_by.no_replies h.taken_by.no_replies

      takings_last : takes_of_all news ≡ takes_of_all h.takers
      takings_last = of_last takes_of_all takings-append h.worked.no_taking h.stored_by.no_taking

      -- the takers made as many takes as the rings have
      pub made_few : length (takes_of_all news) ≡ takes_in job.rings
      made_few = ap length takings_last ∙ h.taken_by.few

      -- the workers made no more replies than each of them one to each post
      pub found_few : length (all_replies news) ≤ job.workers * length mails
      found_few =
          subst (λ k. length (all_replies news) ≤ k) (ap (λ k. k * length mails) h.as_many)
          (subst (λ k. k ≤ length h.workers * length mails) (sym (ap length replies_left)) h.worked.few)

      -- the ring's view at the end
      pub ring_is : with_takes (puts_all posts.view news) (takes_all takes.view news)
          ≡ ring_view (Some (head_of (length h.guests + 1) (put_parts h.guests))) (Some (part_of 0 [])) (Some (head_of (length h.workers + 1) (take_parts h.workers))) (Some (part_of 0 []))
      ring_is =
          (λ i. with_takes (puts_all (h.post_head i) news) (takes_all (h.take_head i) news))
          ∙ ((λ i. with_takes (puts_are (length h.guests + 1) [] (Some (part_of 0 [])) None None news i) (takes_are (length h.workers + 1) [] None (Some (part_of 0 [])) None news i))
          ∙ (λ i. ring_view (Some (head_of (length h.guests + 1) (puts_right i))) (Some (part_of 0 [])) (Some (head_of (length h.workers + 1) (takes_left i))) (Some (part_of 0 []))))

      pub tickets_are : draws_all drawer.view news ≡ ticket_view (Some (head_of (length h.workers + 1) (draw_parts h.workers))) (Some (part_of 0 []))
      tickets_are = ap (λ v. draws_all v news) h.ticket_head ∙ (draws_are (length h.workers + 1) [] (Some (part_of 0 [])) news ∙ ap (λ l. ticket_view (Some (head_of (length h.workers + 1) l)) (Some (part_of 0 []))) draws_left)

      pub seats_are_both : seats_all seat.view news ≡ host_view job.words (length h.workers + (length h.guests + length h.takers)) (map view_of h.workers ++ (map view_of h.guests ++ map view_of h.takers))
      seats_are_both =
          let n = length h.workers + (length h.guests + length h.takers) in
          ap (λ v. seats_all v news) h.host ∙ (seats_are (host_view job.words n []) news
          ∙ ap (host_view job.words n) (ap (map view_of) h.are ∙ (map-append view_of h.workers (h.guests ++ h.takers) ∙ ap (λ l. map view_of h.workers ++ l) (map-append view_of h.guests h.takers))))

      labels : map label (owned (put_parts h.guests)) ≡ map mail_label (all_mails 1 job.guests)
      labels = labels_all 1 0 job.guests (put_parts h.guests) h.stored_by.posted

      -- what was taken is what was posted, and nothing is left
      pub taken : (v : RingView) (items : List Post) → v ≡ with_takes (puts_all posts.view news) (takes_all takes.view news) → Settled v items
          → (w : TicketView) (log : List (Entry ℕ)) → w ≡ draws_all drawer.view news → Drawn w log → mails ≡ all_mails 1 job.guests → length mails < 2 ^ 64
          → IsPermutation (owned (take_parts h.workers)) (owned (put_parts h.guests)) × Settled v []
      taken v items v_is settled w log w_is drawn is few =
          let r = v_is ∙ ring_is in
          let t = w_is ∙ tickets_are in
          let hp : Head Post = head_of (length h.guests + 1) (put_parts h.guests) in
          let ht : Head Post = head_of (length h.workers + 1) (take_parts h.workers) in
          let hd : Head ℕ = head_of (length h.workers + 1) (draw_parts h.workers) in
          let p : Part Post = part_of 0 [] in
          let q : Part ℕ = part_of 0 [] in
          let n = length mails in
          let a = h.stored_by.as_many in
          let b = h.worked.as_many_takes in
          let c = h.worked.as_many_draws in
          let perm = drawn_all w log hd q drawn (ap (λ (x : TicketView). x.head) t) (ap (λ (x : TicketView). x.draws) t) refl (ap (λ k. k + 1) c) in
          let draws = owned (draw_parts h.workers) in
          let counts = h.worked.counts in
          let many : n ≤ length (owned (take_parts h.workers)) =
          ⊎_elim
          (λ (q : n ≤ length (owned (take_parts h.workers))). q)
          (λ (q : (last : ℕ) × Contains draws last × (n ≤ last)). let z = drawn_below n (length log) q.0 draws few perm q.1 q.2 in omega arith)
          (h.worked.some h.some_worker) in
          let l : length (owned (put_parts h.guests)) ≡ n =
          sym (length-map (owned (put_parts h.guests)) label) ∙ (ap length labels ∙ (length-map (all_mails 1 job.guests) mail_label ∙ ap length (sym is))) in
          all_taken v items hp ht p p settled (ap (λ (x : RingView). x.put_head) r) (ap (λ (x : RingView). x.put) r) (ap (λ (x : RingView). x.take_head) r) (ap (λ (x : RingView). x.take) r)
          refl refl (ap (λ k. k + 1) a) (ap (λ k. k + 1) b) (omega arith)

      -- as many replies of each name as posts
      pub same_names : IsPermutation (owned (take_parts h.workers)) (owned (put_parts h.guests)) → mails ≡ all_mails 1 job.guests
          → (f : PostName → ℕ) → sum_by f (map reply_name (all_replies news)) ≡ sum_by f (map (λ (m : Mail). m.name) mails)
      same_names perm is f =
          let name : Post → PostName = λ (p : Post). p.name in
          let a = ap (λ l. sum_by f (map reply_name l)) replies_left in
          let b = ap (sum_by f) h.worked.names in
          let c = sum_by-IsPermutation f (map name (owned (take_parts h.workers))) (map name (owned (put_parts h.guests))) (IsPermutation-map name (owned (take_parts h.workers)) (owned (put_parts h.guests)) perm) in
          let d : map name (owned (put_parts h.guests)) ≡ map (λ (m : Mail). m.name) mails =
          names_posts (owned (put_parts h.guests)) ∙ (ap (map (λ (x : PostName × ℕ). x.0)) labels ∙ (sym (names_mails (all_mails 1 job.guests)) ∙ ap (map (λ (m : Mail). m.name)) (sym is))) in
          a ∙ (b ∙ (sym c ∙ ap (sum_by f) d))

      pub served : (m : Module) → All (IsDescribedBy m) olds → IsPermutation (owned (take_parts h.workers)) (owned (put_parts h.guests)) → mails ≡ all_mails 1 job.guests
          → (v : RingView) → v ≡ with_takes (puts_all posts.view news) (takes_all takes.view news) → Settled v []
          → (k : HostView) → k ≡ seats_all seat.view news → (length k.ended ≡ k.made → Fetched k) → (log : List HistoryEntry) → IsHistoryOf k log
          → (replies : List Reply) → map reply_name replies ≡ map (λ (m : Mail). m.name) mails → IsPermutation (all_replies news) replies
          → (made : List Take) → made ≡ takes_of_all news → Served m job replies made k v
      served m described perm is v v_is settled k k_is fetched log told replies named order made made_is =
          let r = v_is ∙ ring_is in
          let e = k_is ∙ seats_are_both in
          let order' = subst (λ l. IsPermutation l replies) replies_left order in
          let ended = ap (λ (x : HostView). x.ended) e in
          let vs = map view_of h.workers in
          let us = map view_of h.guests in
          let ts = map view_of h.takers in
          let all_ended : length k.ended ≡ k.made =
          (let a = ap length ended ∙ length-append vs (us ++ ts) in
          let a' = length-append us ts in
          let b = length-map h.workers view_of in
          let c = length-map h.guests view_of in
          let c' = length-map h.takers view_of in
          let d = ap (λ (x : HostView). x.made) e in
          omega (arith, a, a', b, c, c', d)) in
          let opened = ap (λ (x : HostView). x.opened) e in
          record {
            replies_are = replies_to job replies (named ∙ ap (map (λ (m : Mail). m.name)) is) (All-permutation (Answered job) (all_replies h.workers) replies order' h.worked.answered);
            seats = record {
              readers = vs;
              guests = us;
              takers = ts;
              ended = ended;
              all_ended = all_ended;
              opened = opened;
              history = log;
              told = told;
              as_many = length-map h.workers view_of ∙ h.as_many;
              reading = h.worked.reading;
              divided = record { shares = h.worked.shares; are_pieces = h.worked.are_pieces; each_once = subst (λ l. IsPermutation l replies) (sym h.worked.divided) order' };
              stored_by = h.stored_by.stored_by;
              as_many_takers = length-map h.takers view_of ∙ h.taken_by.as_many;
              taking = h.taken_by.taking;
              fetched = fetches job k vs us ts ended opened (fetched all_ended) h.worked.quiet h.stored_by.stored_by h.taken_by.quiet;
            };
            passes_are = record {
              posts = head_of (length h.guests + 1) (put_parts h.guests);
              takes = head_of (length h.workers + 1) (take_parts h.workers);
              post_head = ap (λ (x : RingView). x.put_head) r;
              take_head = ap (λ (x : RingView). x.take_head) r;
              no_post = ap (λ (x : RingView). x.put) r;
              no_take = ap (λ (x : RingView). x.take) r;
              all_posts = ap (λ n. n + 1) h.stored_by.as_many;
              all_takes = ap (λ n. n + 1) h.worked.as_many_takes;
              posted = h.stored_by.posted;
              as_many = h.worked.as_many_takes ∙ h.as_many;
              taken = perm;
              settled = settled;
            };
            answered = h.worked.of_takes;
            takes_are = record { shares = h.taken_by.shares; are = h.taken_by.are m (h.described m described); takes_are = made_is ∙ (takings_last ∙ h.taken_by.made) };
          }

      -- no seat that an actor had made another
      none_made : swaps_made news ≡ 0
      none_made =
          ap swaps_made h.are ∙ (made-append h.workers (h.guests ++ h.takers)
          ∙ ((λ i. h.worked.none_made i + made-append h.guests h.takers i) ∙ (λ i. 0 + (h.stored_by.none_made i + h.taken_by.none_made i))))

      -- the lists of numbers are the versions of the replies
      numbers_are : (count made : ℕ) → swaps_all (swap_view count made [] []) news ≡ swap_view count made [] (map (map version_in) h.worked.shares)
      numbers_are count made =
          let lists : swap_lists news ≡ map (map version_in) h.worked.shares = of_first swap_lists numbers-append h.stored_by.no_swaps h.taken_by.no_swaps ∙ h.worked.numbers in
          let same : made + swaps_made news ≡ made = ap (λ (n : ℕ). made + n) none_made ∙ add-zero made in
          swaps_are (swap_view count made [] []) news ∙ (λ i. swap_view count (same i) [] (lists i))

      pub versioned : (count : ℕ) → count ≡ length job.formats → (w : SwapView) → w ≡ swaps_all (swap_view count job.workers [] []) news → AreVersions w
          → (q : PublisherView) → q ≡ publisher_view count (count - 1)
          → (replies : List Reply) → IsPermutation (all_replies news) replies → Versioned job replies h.worked.shares w q
      versioned count counted w w_is runs q q_is replies order =
          let e = w_is ∙ numbers_are count job.workers in
          let ended = ap (λ (x : SwapView). x.ended) e in
          let shares = h.worked.shares in
          let whole : IsPermutation (joined shares) replies = subst (λ l. IsPermutation l replies) (replies_left ∙ sym h.worked.divided) order in
          let is_count : w.count ≡ length job.formats = ap (λ (x : SwapView). x.count) e ∙ counted in
          record {
            count = is_count;
            no_load = ap (λ (x : SwapView). x.loads) e;
            made = ap (λ (x : SwapView). x.made) e;
            as_many = ap length ended ∙ (length-map shares (map version_in) ∙ (same_shares (take_parts h.workers) shares h.worked.of_takes ∙ (h.worked.as_many_takes ∙ h.as_many)));
            each_own = ended;
            each_once = subst (λ l. IsPermutation l (map version_in replies)) (sym (ap joined ended ∙ joined-map version_in shares)) (IsPermutation-map version_in (joined shares) replies whole);
            runs = subst (λ n. All (IsVersionRun n) w.ended) is_count runs.1;
            published = q_is ∙ ap (λ n. publisher_view n (n - 1)) counted;
          }

      pub served_versions : (m : Module) → All (IsDescribedBy m) olds → (perm : IsPermutation (owned (take_parts h.workers)) (owned (put_parts h.guests))) → mails ≡ all_mails 1 job.guests
          → (v : RingView) → v ≡ with_takes (puts_all posts.view news) (takes_all takes.view news) → Settled v []
          → (k : HostView) → k ≡ seats_all seat.view news → (length k.ended ≡ k.made → Fetched k) → (log : List HistoryEntry) → IsHistoryOf k log
          → (replies : List Reply) → map reply_name replies ≡ map (λ (m : Mail). m.name) mails → IsPermutation (all_replies news) replies
          → (count : ℕ) → count ≡ length job.formats → (w : SwapView) → w ≡ swaps_all (swap_view count job.workers [] []) news → AreVersions w
          → (q : PublisherView) → q ≡ publisher_view count (count - 1) → (made : List Take) → made ≡ takes_of_all news → ServedVersions m job replies made k v w q
      unfolding served
      served_versions m described perm is v v_is settled k k_is fetched log told replies named order count counted w w_is runs q q_is made made_is = record {
        served = served m described perm is v v_is settled k k_is fetched log told replies named order made made_is;
        versioned = versioned count counted w w_is runs q q_is replies order;
      }

-- a seat that loaded nothing yet
pub no_versions : (count : ℕ) → AreVersions (new_view count)
no_versions count = (((λ i j d le lt. absurd (omega (arith, lt))), All-nil (λ (n : ℕ). n < count)), All-nil (IsVersionRun count))
