-- How a host is armed.
use Rattle.std.proofs.Common.{◌≡◌, ℕ, zero, suc, ◌+◌, ◌*◌, ◌<◌, ◌≤◌, ◌^◌, true, false, List, [], ◌∷◌, ◌++◌, length, drop, refl, sym, ap, ◌∙◌, subst, arith, append_assoc, length-append}
use Rattle.std.specs.Prelude.{slice_index_or, slice_get, vec_capacity, Option, Some, None, map, max, option_map}
use Rattle.std.proofs.lemmas.Option.{slice_get_within, slice_get-map, slice_get-get_or, get_or_from_slice_get}
use mathlib.Core.Logic.{dite}
use native.Mathlib.Decide.{ℕ_discrete}
use Rattle.std.specs.List.{All}
use Rattle.std.proofs.lemmas.List.{drop_more, drop_all, append-nil}
use Rattle.std.proofs.lemmas.List.Elements.{All-contains, Contains-append_left, Contains-append_right, Contains-get_or}
use Rattle.td_words.specs.Views.{new_seat, one_more}
use Rattle.td_words.specs.Seats.{BufferState, HostState, with_view, seat_state}
use Rattle.td_ring.specs.declared.post.Post.{Post}
use Rattle.td_ring.specs.Ring.{PassState, RingState, pass_with, one_more_put, new_put, one_more_take, new_take}
use Rattle.td_ring.specs.Tickets.{DrawerState, drawer_with, one_more as one_more_draw, new_seat as new_drawer}
use Rattle.td_posts.specs.declared.job.Step.{Step}
use Rattle.td_posts.specs.declared.job.Step.TheVariants as step
use Rattle.td_posts.specs.declared.mail.Mail.{Mail}
use Rattle.td_posts.specs.declared.reply.Reply.{Reply}
use Rattle.td_posts.specs.declared.job.HostJob.{HostJob}
use Rattle.td_posts.specs.declared.ring.RingJob.{RingJob}
use Rattle.td_descr.specs.Ring.{ReaderView}
use Rattle.td_posts.specs.Posts.{post_name, mails_from, mails_of, all_mails}
use Rattle.td_host_actors.specs.declared.actor.Actor.{Actor}
use Rattle.td_host_actors.specs.declared.actor.Actor.TheVariants as kind
use Rattle.td_host_actors.specs.declared.actor.Worker.{Worker}
use Rattle.td_host_actors.specs.declared.actor.Guest.{Guest}
use Rattle.td_host_actors.specs.declared.actor.Taker.{Taker}
use Rattle.td_vm.specs.Frames.{FrameView, IsArmed}
use Rattle.td_ir.specs.declared.tables.Parts.{Parts}
use Rattle.td_vm.specs.Need.{most_need, level}
use Rattle.td_swap.specs.declared.version.Version.{Version}
use Rattle.td_swap.specs.Versions.{version_code}
use Rattle.td_swap.specs.Views.{new_view}
use Rattle.td_swap.specs.Versions.{CodesState}
use Rattle.td_swap.specs.Seats.{SwapState, swap_state}
use Rattle.td_host_actors.specs.Actors.{Service, IsTakerReady}
use Rattle.td_host_actors.specs.Acting.{most_frames, AreArmed, RoomsFor, StoresInside, post_of}
use Rattle.td_host_actors.proofs.Posting.{Posting, mail_by, mails_post}
use Rattle.td_host.specs.Gathered.{FreshWorker, FreshWorkers, FreshGuest, FreshGuests, FreshTaker, FreshTakers, WorkersSeated, GuestsSeated, TakersSeated, Armed, host_at, posts_at, takes_at, draws_at, swap_at}

-- ---- posts of a script that is gone through
pub record Listing (guest : ℕ) (whole : List Step) (before mails : List Mail) (rest : List Step) (number made : ℕ) : Type 0 where
  pub is : mails ++ mails_from guest (number + 1) made rest ≡ before ++ mails_of guest whole
  pub counted : number + made + length rest ≡ length whole

module _ (guest : ℕ) (whole : List Step) (before : List Mail) where
  pub lists_none : Listing guest whole before before whole 0 0
  lists_none = record { is = refl; counted = let e : 0 + 0 + length whole ≡ length whole = omega arith in e }

  module _ (mails : List Mail) (rest rest' : List Step) (number made : ℕ) (p : Listing guest whole before mails rest number made) where
    pub lists_store : (w v : ℕ) → rest ≡ step.Store w v ∷ rest' → Listing guest whole before mails rest' number (made + 1)
    unfolding mails_from
    lists_store w v e = record {
      is = ap (λ l. mails ++ mails_from guest (number + 1) made l) (sym e) ∙ p.is;
      counted = let c = p.counted in let d = ap length e in omega arith;
    }

    pub lists_post : (s : Step) (mails' : List Mail) → Posting s → rest ≡ s ∷ rest' → mails' ≡ mails ++ mail_by (post_name guest (number + 1)) made s ∷ [] → Listing guest whole before mails' rest' (number + 1) made
    lists_post s mails' posting e f = record {
      is = ap (λ x. x ++ mails_from guest (number + 1 + 1) made rest') f ∙ (append_assoc mails (mail_by (post_name guest (number + 1)) made s ∷ []) (mails_from guest (number + 1 + 1) made rest')
          ∙ (ap (λ x. mails ++ x) (sym (ap (mails_from guest (number + 1) made) e ∙ mails_post guest (number + 1) made s rest' posting)) ∙ p.is));
      counted = let c = p.counted in let d = ap length e in omega arith;
    }

    pub lists_all : rest ≡ [] → mails ≡ before ++ mails_of guest whole
    unfolding mails_from
    lists_all e = sym (append-nil mails) ∙ (ap (λ x. mails ++ mails_from guest (number + 1) made x) (sym e) ∙ p.is)

-- ---- all posts
pub all_none : (ss : List (List Step)) → [] ++ all_mails 1 (drop 0 ss) ≡ all_mails 1 ss
all_none ss = refl

pub all_more : (ss : List (List Step)) (i : ℕ) (d : List Step) (mails mails' : List Mail) → i < length ss → mails ++ all_mails (i + 1) (drop i ss) ≡ all_mails 1 ss → mails' ≡ mails ++ mails_of (i + 1) (slice_index_or ss i d)
    → mails' ++ all_mails (i + 1 + 1) (drop (i + 1) ss) ≡ all_mails 1 ss
unfolding all_mails
all_more ss i d mails mails' lt e f =
    ap (λ x. x ++ all_mails (i + 1 + 1) (drop (i + 1) ss)) f ∙ (append_assoc mails (mails_of (i + 1) (slice_index_or ss i d)) (all_mails (i + 1 + 1) (drop (i + 1) ss)) ∙ (ap (λ x. mails ++ all_mails (i + 1) x) (sym (drop_more ss i d lt)) ∙ e))

pub all_over : (ss : List (List Step)) (i : ℕ) (mails : List Mail) → length ss ≤ i → mails ++ all_mails (i + 1) (drop i ss) ≡ all_mails 1 ss → mails ≡ all_mails 1 ss
unfolding all_mails
all_over ss i mails le e = sym (append-nil mails) ∙ (ap (λ x. mails ++ all_mails (i + 1) x) (sym (drop_all i ss le)) ∙ e)

-- what holds of all posts holds of those of each guest
pub of_guest : (P : Mail → Type 0) (g : ℕ) (ss : List (List Step)) (k : ℕ) (d : List Step) → k < length ss → All P (all_mails g ss) → All P (mails_of (g + k) (slice_index_or ss k d))
unfolding all_mails
of_guest P g [] k d lt a = absurd (omega arith)
of_guest P g (s ∷ ss) zero d lt a = let e : g ≡ g + 0 = omega arith in subst (λ n. All P (mails_of n s)) e (left (mails_of g s) (all_mails (g + 1) ss) a)
  where
    left : (xs ys : List Mail) → All P (xs ++ ys) → All P xs
    left xs ys a k d lt = All-contains P (xs ++ ys) (slice_index_or xs k d) a (Contains-append_left xs ys (slice_index_or xs k d) (Contains-get_or xs k d lt))
of_guest P g (s ∷ ss) (suc k) d lt a = let e : (g + 1) + k ≡ g + suc k = omega arith in subst (λ n. All P (mails_of n (slice_index_or ss k d))) e (of_guest P (g + 1) ss k d (omega arith) (right (mails_of g s) (all_mails (g + 1) ss) a))
  where
    right : (xs ys : List Mail) → All P (xs ++ ys) → All P ys
    right xs ys a k d lt = All-contains P (xs ++ ys) (slice_index_or ys k d) a (Contains-append_right xs ys (slice_index_or ys k d) (Contains-get_or ys k d lt))

-- ---- rooms
pub record Rooming (names : Post → Type 0) (P : Mail → Type 0) (guest : ℕ) (whole : List Step) (rooms : List Reply) (rest : List Step) (number : ℕ) : Type 0 where
  pub made : ℕ
  pub more : (tail : List Reply) → RoomsFor names (mails_from guest (number + 1) made rest) tail → RoomsFor names (mails_of guest whole) (rooms ++ tail)
  pub met : All P (mails_from guest (number + 1) made rest)
  pub counted : number + made + length rest ≡ length whole

module _ (names : Post → Type 0) (P : Mail → Type 0) (guest : ℕ) (whole : List Step) where
  pub rooms_none : All P (mails_of guest whole) → Rooming names P guest whole [] whole 0
  rooms_none met = record { made = 0; more = λ tail r. r; met = met; counted = let e : 0 + 0 + length whole ≡ length whole = omega arith in e }

  module _ (rooms : List Reply) (rest rest' : List Step) (number : ℕ) (p : Rooming names P guest whole rooms rest number) where
    pub rooms_store : (w v : ℕ) → rest ≡ step.Store w v ∷ rest' → Rooming names P guest whole rooms rest' number
    unfolding mails_from
    rooms_store w v e = record {
      made = p.made + 1;
      more = λ tail r. p.more tail (subst (λ l. RoomsFor names (mails_from guest (number + 1) p.made l) tail) (sym e) r);
      met = subst (λ l. All P (mails_from guest (number + 1) p.made l)) e p.met;
      counted = let c = p.counted in let d = ap length e in omega arith;
    }

    pub rooms_post : (s : Step) (r : Reply) (rooms' : List Reply) → Posting s → rest ≡ s ∷ rest' → rooms' ≡ rooms ++ r ∷ []
        → ((made : ℕ) → P (mail_by (post_name guest (number + 1)) made s) → names (post_of (mail_by (post_name guest (number + 1)) made s) r)) → Rooming names P guest whole rooms' rest' (number + 1)
    unfolding RoomsFor
    rooms_post s r rooms' posting e f fits =
        let m : Mail = mail_by (post_name guest (number + 1)) p.made s in
        let ms = mails_from guest (number + 1 + 1) p.made rest' in
        let is : mails_from guest (number + 1) p.made rest ≡ m ∷ ms = ap (mails_from guest (number + 1) p.made) e ∙ mails_post guest (number + 1) p.made s rest' posting in
        let met : All P (m ∷ ms) = subst (All P) is p.met in
        record {
          made = p.made;
          more = λ tail h. subst (RoomsFor names (mails_of guest whole)) (sym (ap (λ x. x ++ tail) f ∙ append_assoc rooms (r ∷ []) tail))
              (p.more (r ∷ tail) (subst (λ (x : List Mail). RoomsFor names x (r ∷ tail)) (sym is) (fits p.made (met 0 m (omega arith)), h)));
          met = λ k d lt. met (suc k) d (omega arith);
          counted = let c = p.counted in let d = ap length e in omega arith;
        }

    pub rooms_all : rest ≡ [] → RoomsFor names (mails_of guest whole) rooms
    unfolding mails_from RoomsFor
    rooms_all e = subst (RoomsFor names (mails_of guest whole)) (append-nil rooms) (p.more [] (subst (λ x. RoomsFor names (mails_from guest (number + 1) p.made x) []) (sym e) tt))

-- ---- the seat that makes those of the workers
pub makes_all : (codes : CodesState) (swap : SwapState) (made workers : ℕ) → swap ≡ swap_at codes made → made ≡ workers → swap ≡ swap_at codes workers
makes_all codes swap made workers is all = is ∙ ap (swap_at codes) all

-- ---- workers and guests
module _ {G : Type 0} where
  fresh-push : (shared : BufferState) (ring : RingState) (service : Service) (opened : List ℕ) (ws : List (Actor G)) (w : Worker G) → FreshWorkers shared ring service opened ws → FreshWorker shared ring service opened w → FreshWorkers shared ring service opened (ws ++ kind.Worker w ∷ [])
  unfolding FreshWorkers
  fresh-push shared ring service opened [] w f x = (x, tt)
  fresh-push shared ring service opened (kind.Worker v ∷ ws) w f x = (f.0, fresh-push shared ring service opened ws w f.1 x)
  fresh-push shared ring service opened (kind.Guest g ∷ ws) w f x = absurd f
  fresh-push shared ring service opened (kind.Ring t ∷ ws) w f x = absurd f
  fresh-push shared ring service opened (kind.Publisher q ∷ ws) w f x = absurd f

  module _ (shared : BufferState) (ring : RingState) (service : Service) (opened : List ℕ) where
    pub no_worker : (seat : HostState) (takes : PassState) (drawer : DrawerState) (ws : List (Actor G)) → ws ≡ [] → seat ≡ host_at shared.table opened 0 → takes ≡ takes_at ring.queue 1 → drawer ≡ draws_at service.tickets 1
        → WorkersSeated shared ring service opened 0 seat takes drawer ws
    unfolding FreshWorkers
    no_worker seat takes drawer ws e a b c = record { as_many = ap length e; fresh = subst (FreshWorkers shared ring service opened) (sym e) tt; is_seat = a; is_takes = b; is_drawer = c }

    pub one_worker : (n : ℕ) (seat seat' : HostState) (takes takes' : PassState) (drawer drawer' : DrawerState) (ws ws' : List (Actor G)) (w : Worker G) → WorkersSeated shared ring service opened n seat takes drawer ws
        → seat' ≡ with_view seat (one_more seat.view) → w.seat ≡ seat_state seat.table (new_seat seat.view false)
        → takes' ≡ pass_with takes (one_more_take takes.view) → w.pass ≡ pass_with takes (new_take takes.view)
        → drawer' ≡ drawer_with drawer (one_more_draw drawer.view) → w.drawer ≡ drawer_with drawer (new_drawer drawer.view)
        → w.swap ≡ swap_state service.codes.table (new_view (length service.codes.codes)) → AreArmed service.codes.codes w.frames.items → w.replies.items ≡ [] → service.posts ≤ vec_capacity w.replies → ws' ≡ ws ++ kind.Worker w ∷ [] → WorkersSeated shared ring service opened (n + 1) seat' takes' drawer' ws'
    one_worker n seat seat' takes takes' drawer drawer' ws ws' w p es ew et ep ed eq fresh armed none room e = record {
      as_many = ap length e ∙ (length-append ws (kind.Worker w ∷ []) ∙ ap (λ k. k + 1) p.as_many);
      fresh = subst (FreshWorkers shared ring service opened) (sym e) (fresh-push shared ring service opened ws w p.fresh record {
        seat_number = n;
        pass_number = 1 + n;
        drawer_number = 1 + n;
        is_seat = ew ∙ ap (λ (k : HostState). seat_state k.table (new_seat k.view false)) p.is_seat;
        is_pass = ep ∙ ap (λ (h : PassState). pass_with h (new_take h.view)) p.is_takes;
        is_drawer = eq ∙ ap (λ (d : DrawerState). drawer_with d (new_drawer d.view)) p.is_drawer;
        is_swap = fresh;
        armed = armed;
        no_reply = none;
        room = room;
      });
      is_seat = es ∙ ap (λ (k : HostState). with_view k (one_more k.view)) p.is_seat;
      is_takes = et ∙ (ap (λ (h : PassState). pass_with h (one_more_take h.view)) p.is_takes ∙ ap (takes_at ring.queue) (let z : 1 + n + 1 ≡ 1 + (n + 1) = omega arith in z));
      is_drawer = ed ∙ (ap (λ (d : DrawerState). drawer_with d (one_more_draw d.view)) p.is_drawer ∙ ap (draws_at service.tickets) (let z : 1 + n + 1 ≡ 1 + (n + 1) = omega arith in z));
    }

  module _ (names : Post → Type 0) (shared : BufferState) (ring : RingState) (job : HostJob) (workers : List (Actor G)) where
    pub record Seating (n : ℕ) (seat : HostState) (posts : PassState) (actors : List (Actor G)) : Type 0 where
      pub guests : List (Actor G)
      pub are : actors ≡ workers ++ guests
      pub as_many : length guests ≡ n
      pub seat_bound : ℕ
      pub pass_bound : ℕ
      pub seat_below : seat_bound ≤ length workers + n
      pub pass_below : pass_bound ≤ 1 + n
      pub more : (tail : List (Actor G)) → FreshGuests names shared ring job.words (n + 1) seat_bound pass_bound (drop n job.guests) tail → FreshGuests names shared ring job.words 1 0 0 job.guests (guests ++ tail)
      pub is_seat : seat ≡ host_at shared.table job.words (length workers + n)
      pub is_posts : posts ≡ posts_at ring.queue (1 + n)

    pub no_guest : (seat : HostState) (posts : PassState) (actors : List (Actor G)) → actors ≡ workers → seat ≡ host_at shared.table job.words (length workers) → posts ≡ posts_at ring.queue 1 → Seating 0 seat posts actors
    no_guest seat posts actors e a b = record {
      guests = [];
      are = e ∙ sym (append-nil workers);
      as_many = refl;
      seat_bound = 0;
      pass_bound = 0;
      seat_below = omega arith;
      pass_below = omega arith;
      more = λ tail f. f;
      is_seat = a ∙ ap (host_at shared.table job.words) (let z : length workers ≡ length workers + 0 = omega arith in z);
      is_posts = b;
    }

    pub one_guest : (n : ℕ) (d : List Step) (seat seat' : HostState) (posts posts' : PassState) (actors actors' : List (Actor G)) (g : Guest G) → Seating n seat posts actors → n < length job.guests
        → g.number ≡ n + 1 → g.script ≡ slice_index_or job.guests n d
        → seat' ≡ with_view seat (one_more seat.view) → g.seat ≡ seat_state seat.table (new_seat seat.view true)
        → posts' ≡ pass_with posts (one_more_put posts.view) → g.pass ≡ pass_with posts (new_put posts.view)
        → StoresInside shared.count (slice_index_or job.guests n d) → length (slice_index_or job.guests n d) < 2 ^ 32
        → RoomsFor names (mails_of (n + 1) (slice_index_or job.guests n d)) g.rooms.items
        → actors' ≡ actors ++ kind.Guest g ∷ [] → Seating (n + 1) seat' posts' actors'
    unfolding FreshGuests
    one_guest n d seat seat' posts posts' actors actors' g p lt number script es eg ep eq stays few rooms e =
        let s = slice_index_or job.guests n d in
        let w = length workers in
        let x : FreshGuest names shared ring job.words (n + 1) p.seat_bound p.pass_bound s g = record {
          seat_number = w + n;
          pass_number = 1 + n;
          seat_rises = p.seat_below;
          pass_rises = p.pass_below;
          is_number = number;
          is_script = script;
          is_seat = eg ∙ ap (λ (k : HostState). seat_state k.table (new_seat k.view true)) p.is_seat;
          is_pass = eq ∙ ap (λ (h : PassState). pass_with h (new_put h.view)) p.is_posts;
          stays = stays;
          few = few;
          has_rooms = rooms;
        } in
        record {
          guests = p.guests ++ kind.Guest g ∷ [];
          are = e ∙ (ap (λ l. l ++ kind.Guest g ∷ []) p.are ∙ append_assoc workers p.guests (kind.Guest g ∷ []));
          as_many = length-append p.guests (kind.Guest g ∷ []) ∙ ap (λ k. k + 1) p.as_many;
          seat_bound = w + n + 1;
          pass_bound = 1 + n + 1;
          seat_below = omega arith;
          pass_below = omega arith;
          more = λ tail f. subst (FreshGuests names shared ring job.words 1 0 0 job.guests) (sym (append_assoc p.guests (kind.Guest g ∷ []) tail))
              (p.more (kind.Guest g ∷ tail) (subst (λ l. FreshGuests names shared ring job.words (n + 1) p.seat_bound p.pass_bound l (kind.Guest g ∷ tail)) (sym (drop_more job.guests n d lt)) (x, f)));
          is_seat = es ∙ (ap (λ (k : HostState). with_view k (one_more k.view)) p.is_seat ∙ ap (host_at shared.table job.words) (let z : w + n + 1 ≡ w + (n + 1) = omega arith in z));
          is_posts = ep ∙ (ap (λ (h : PassState). pass_with h (one_more_put h.view)) p.is_posts ∙ ap (posts_at ring.queue) (let z : 1 + n + 1 ≡ 1 + (n + 1) = omega arith in z));
        }

    pub all_guests : (n : ℕ) (seat : HostState) (posts : PassState) (actors : List (Actor G)) → Seating n seat posts actors → length job.guests ≡ n → GuestsSeated names shared ring job workers seat posts actors
    unfolding FreshGuests
    all_guests n seat posts actors p e = record {
      guests = p.guests;
      are = p.are;
      fresh = subst (FreshGuests names shared ring job.words 1 0 0 job.guests) (append-nil p.guests) (p.more [] (subst (λ l. FreshGuests {G = G} names shared ring job.words (n + 1) p.seat_bound p.pass_bound l []) (sym (drop_all n job.guests (let z = e in omega arith))) tt));
      is_seat = p.is_seat ∙ ap (λ k. host_at shared.table job.words (length workers + k)) (sym p.as_many);
      is_posts = p.is_posts ∙ ap (λ k. posts_at ring.queue (1 + k)) (sym p.as_many);
    }

  module _ (shared : BufferState) (service : Service) (job : HostJob) (whole : List ReaderView) (before : List (Actor G)) where
    -- takers were made for the first n rings
    pub record Ringing (n : ℕ) (seat : HostState) (actors : List (Actor G)) : Type 0 where
      pub takers : List (Actor G)
      pub are : actors ≡ before ++ takers
      pub as_many : length takers ≡ n
      pub more : (tail : List (Actor G)) → FreshTakers shared service job.words (n + 1) (drop n job.rings) (drop n whole) tail → FreshTakers shared service job.words 1 job.rings whole (takers ++ tail)
      pub is_seat : seat ≡ host_at shared.table job.words (length before + n)

    pub no_taker : (seat : HostState) (actors : List (Actor G)) → actors ≡ before → seat ≡ host_at shared.table job.words (length before) → Ringing 0 seat actors
    no_taker seat actors e a = record {
      takers = [];
      are = e ∙ sym (append-nil before);
      as_many = refl;
      more = λ tail f. f;
      is_seat = a ∙ ap (host_at shared.table job.words) (let z : length before ≡ length before + 0 = omega arith in z);
    }

    pub one_taker : (n : ℕ) (ring dr : RingJob) (d : ReaderView) (dd : ReaderView) (seat seat' : HostState) (actors actors' : List (Actor G)) (t : Taker) → Ringing n seat actors
        → n < length job.rings → n < length whole → slice_index_or job.rings n dr ≡ ring → slice_index_or whole n dd ≡ d
        → t.number ≡ n + 1 → t.ring ≡ ring → t.descr ≡ d → d.room ≡ 8 * length job.words
        → seat' ≡ with_view seat (one_more seat.view) → t.seat ≡ seat_state seat.table (new_seat seat.view false)
        → IsTakerReady shared service.codes.codes service.job t → actors' ≡ actors ++ kind.Ring t ∷ [] → Ringing (n + 1) seat' actors'
    unfolding FreshTakers
    one_taker n ring dr d dd seat seat' actors actors' t p lt lt' at at' number is reader room es et ready e =
        let w = length before in
        let x : FreshTaker shared service job.words (n + 1) ring d t = record {
          seat_number = w + n;
          is_number = number;
          is_ring = is;
          is_reader = reader;
          room = room;
          is_seat = et ∙ ap (λ (k : HostState). seat_state k.table (new_seat k.view false)) p.is_seat;
          ready = ready;
        } in
        let rings : drop n job.rings ≡ ring ∷ drop (n + 1) job.rings = drop_more job.rings n dr lt ∙ ap (λ r. r ∷ drop (n + 1) job.rings) at in
        let readers : drop n whole ≡ d ∷ drop (n + 1) whole = drop_more whole n dd lt' ∙ ap (λ r. r ∷ drop (n + 1) whole) at' in
        record {
          takers = p.takers ++ kind.Ring t ∷ [];
          are = e ∙ (ap (λ l. l ++ kind.Ring t ∷ []) p.are ∙ append_assoc before p.takers (kind.Ring t ∷ []));
          as_many = length-append p.takers (kind.Ring t ∷ []) ∙ ap (λ k. k + 1) p.as_many;
          more = λ tail f. subst (FreshTakers shared service job.words 1 job.rings whole) (sym (append_assoc p.takers (kind.Ring t ∷ []) tail))
              (p.more (kind.Ring t ∷ tail) (subst (λ (l : List RingJob × List ReaderView). FreshTakers shared service job.words (n + 1) l.0 l.1 (kind.Ring t ∷ tail)) (λ i. (sym rings i, sym readers i)) (x, f)));
          is_seat = es ∙ (ap (λ (k : HostState). with_view k (one_more k.view)) p.is_seat ∙ ap (host_at shared.table job.words) (let z : w + n + 1 ≡ w + (n + 1) = omega arith in z));
        }

    pub all_takers : (n : ℕ) (seat : HostState) (actors : List (Actor G)) → Ringing n seat actors → length job.rings ≤ n → length whole ≤ n → TakersSeated shared service job whole before seat actors
    unfolding FreshTakers
    all_takers n seat actors p e e' = record {
      takers = p.takers;
      are = p.are;
      fresh = subst (FreshTakers shared service job.words 1 job.rings whole) (append-nil p.takers)
          (p.more [] (subst (λ (l : List RingJob × List ReaderView). FreshTakers {G = G} shared service job.words (n + 1) l.0 l.1 []) (λ i. (sym (drop_all n job.rings e) i, sym (drop_all n whole e') i)) tt));
      is_seat = p.is_seat ∙ ap (λ k. host_at shared.table job.words (length before + k)) (sym p.as_many);
    }

  pub arms : (names : Post → Type 0) (shared : BufferState) (ring : RingState) (service : Service) (job : HostJob) (opened : List ℕ) (count : ℕ) (seat seat' seat'' : HostState) (posts' posts'' takes takes' takes'' : PassState) (drawer drawer' drawer'' : DrawerState) (workers before actors : List (Actor G)) (readers : List ReaderView)
      → WorkersSeated shared ring service opened count seat takes drawer workers → opened ≡ job.words → 0 < count → count ≡ job.workers → GuestsSeated names shared ring job workers seat' posts' before → takes' ≡ takes → drawer' ≡ drawer
      → TakersSeated shared service job readers before seat'' actors → posts'' ≡ posts' → takes'' ≡ takes' → drawer'' ≡ drawer'
      → Armed names shared ring service job seat'' posts'' takes'' drawer'' actors
  arms names shared ring service job opened count seat seat' seat'' posts' posts'' takes takes' takes'' drawer drawer' drawer'' workers before actors readers w is_opened some all g t d x p' t' d' =
      let many : 1 + count ≡ length workers + 1 = (let z = w.as_many in omega arith) in
      let seated = ap length g.are ∙ length-append workers g.guests in
      let places : length before + length x.takers ≡ length workers + (length g.guests + length x.takers) = omega (arith, seated) in
      record {
        workers = workers;
        guests = g.guests;
        takers = x.takers;
        readers = readers;
        are = x.are ∙ (ap (λ l. l ++ x.takers) g.are ∙ append_assoc workers g.guests x.takers);
        as_many = w.as_many ∙ all;
        some_worker = (let z = w.as_many in omega arith);
        fresh_workers = subst (λ o. FreshWorkers shared ring service o workers) is_opened w.fresh;
        fresh_guests = g.fresh;
        fresh_takers = x.fresh;
        host = x.is_seat ∙ ap (host_at shared.table job.words) places;
        post_head = p' ∙ (g.is_posts ∙ ap (posts_at ring.queue) (let z : 1 + length g.guests ≡ length g.guests + 1 = omega arith in z));
        take_head = t' ∙ (t ∙ (w.is_takes ∙ ap (takes_at ring.queue) many));
        ticket_head = d' ∙ (d ∙ (w.is_drawer ∙ ap (draws_at service.tickets) many));
      }

-- ---- frames for the codes so far
pub record Framing (cs : List Parts) (n : ℕ) (frames : List FrameView) : Type 0 where
  pub as_many : length frames ≡ n
  pub each : (k : ℕ) (c : Parts) (d : FrameView) → k < n → slice_get cs k ≡ Some c → IsArmed c (slice_index_or frames k d)

pub no_frame : (cs : List Parts) → Framing cs 0 []
no_frame cs = record { as_many = refl; each = λ k c d lt. absurd (omega (arith, lt)) }

code_or : Parts → Option Parts → Parts
code_or d None = d
code_or d (Some x) = x

same_code : (a b : Parts) → Some a ≡ Some b → a ≡ b
unfolding code_or
same_code a b e = ap (code_or a) e

pub one_frame : (cs : List Parts) (n : ℕ) (frames frames' : List FrameView) (c : Parts) (f : FrameView) → Framing cs n frames → slice_get cs n ≡ Some c → IsArmed c f → frames' ≡ frames ++ f ∷ [] → Framing cs (n + 1) frames'
one_frame cs n frames frames' c f p is armed e = subst (Framing cs (n + 1)) (sym e) record {
  as_many = length-append frames (f ∷ []) ∙ ap (λ k. k + 1) p.as_many;
  each = λ k x d lt at. dite (ℕ_discrete k n)
      (λ same. subst (λ (y : Parts × FrameView). IsArmed y.0 y.1)
      (λ i. (same_code c x (sym is ∙ (ap (slice_get cs) (sym same) ∙ at)) i, sym (ap (λ j. slice_index_or (frames ++ f ∷ []) j d) (same ∙ sym p.as_many) ∙ at_end frames f d) i)) armed)
      (λ other.
      let less : k < n = omega (arith, lt, other) in
      subst (IsArmed x) (sym (before_end frames f k d (let z = p.as_many in omega (arith, less, z)))) (p.each k x d less at));
}
  where
    at_end : (fs : List FrameView) (f d : FrameView) → slice_index_or (fs ++ f ∷ []) (length fs) d ≡ f
    at_end [] f d = refl
    at_end (x ∷ fs) f d = at_end fs f d

    before_end : (fs : List FrameView) (f : FrameView) (k : ℕ) (d : FrameView) → k < length fs → slice_index_or (fs ++ f ∷ []) k d ≡ slice_index_or fs k d
    before_end [] f k d lt = absurd (omega (arith, lt))
    before_end (x ∷ fs) f zero d lt = refl
    before_end (x ∷ fs) f (suc k) d lt = before_end fs f k d (omega (arith, lt))

pub all_frames : (cs : List Parts) (n : ℕ) (frames : List FrameView) → Framing cs n frames → n ≡ length cs → AreArmed cs frames
all_frames cs n frames p e = record {
  as_many = p.as_many ∙ e;
  each = λ k c d at. p.each k c d (let z = slice_get_within cs k c at in omega (arith, z, e)) at;
}

-- the code of a version is that of its number
pub code_at : (vs : List Version) (cs : List Parts) (n : ℕ) (v : Version) → map version_code vs ≡ cs → n < length vs → slice_index_or vs n v ≡ v → slice_get cs n ≡ Some v.code
code_at vs cs n v e lt is = ap (λ l. slice_get l n) (sym e) ∙ (slice_get-map version_code vs n ∙ ap (option_map version_code) (slice_get-get_or vs n v lt ∙ ap Some is))

-- ---- the frames that a failure has at most, of the codes so far
pub next_most : (cs : List Parts) (n : ℕ) (c : Parts) (most most' : ℕ) → slice_get cs n ≡ Some c → max (most_frames (drop n cs)) most ≡ most_frames cs → most' ≡ max (most_need level c) most
    → max (most_frames (drop (n + 1) cs)) most' ≡ most_frames cs
next_most cs n c most most' at so_far new =
    let split : drop n cs ≡ c ∷ drop (n + 1) cs = drop_more cs n c (slice_get_within cs n c at) ∙ ap (λ x. x ∷ drop (n + 1) cs) (get_or_from_slice_get cs n c c at) in
    let first : most_frames (drop n cs) ≡ max (most_need level c) (most_frames (drop (n + 1) cs)) = ap most_frames split in
    regroup (most_frames (drop n cs)) (most_need level c) (most_frames (drop (n + 1) cs)) most most' (most_frames cs) first so_far new
  where
    regroup : (all one rest so new whole : ℕ) → all ≡ max one rest → max all so ≡ whole → new ≡ max one so → max rest new ≡ whole
    regroup all one rest so new whole a b c = omega (arith, a, b, c)
