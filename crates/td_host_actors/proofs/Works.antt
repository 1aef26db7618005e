-- A worker in the middle of its work. Cited by other crates.
use Rattle.std.proofs.Common.{◌≡◌, ℕ, ◌+◌, ◌<◌, ◌≤◌, List, [], ◌∷◌, ◌++◌, length, map, Some, refl, sym, ap, ◌∙◌, subst, inl, inr, arith, append_assoc, length-append}
use Rattle.std.proofs.lemmas.List.{map-append, length-map, append-nil}
use Rattle.std.specs.List.{All}
use Rattle.std.proofs.lemmas.List.Elements.{All-nil, All-cons, All-push}
use Rattle.td_stream.specs.declared.load.Load.{Load}
use Rattle.td_stream.specs.declared.stretch.Stretch.{Stretch}
use Rattle.td_stream.specs.Layouts.{buffer_word}
use Rattle.td_posts.specs.declared.name.PostName.{PostName}
use Rattle.td_words.specs.declared.view.Access.{Access}
use Rattle.td_words.specs.declared.view.Access.TheVariants as access
use Rattle.td_words.specs.Views.{seat_view}
use Rattle.td_words.specs.History.{loads, stores}
use Rattle.td_words.specs.Seats.{SeatState, seat_state}
use Rattle.td_ring.specs.declared.post.Post.{Post}
use Rattle.td_ring.specs.Ring.{PassState, pass_with, did_take}
use Rattle.td_ring.specs.Tickets.{DrawerState, drawer_with, did_draw}
use Rattle.td_posts.specs.declared.mail.Mail.{Mail}
use Rattle.td_posts.specs.declared.reply.Reply.{Reply}
use Rattle.td_posts.specs.declared.job.HostJob.{HostJob}
use Rattle.td_posts.specs.Posts.{layout_of, all_mails, mail_named, reply_name, version_in}
use Rattle.td_swap.specs.Views.{swap_view, new_view}
use Rattle.td_swap.specs.Seats.{SwapState, swap_state, then_loaded}
use Rattle.td_live.specs.Live.{steps_for, HasLoaded}
use Rattle.td_host_actors.specs.Replies.{pieces, placed, layout_in, layout_or}
use Rattle.td_takes.specs.Memory.{KeepsMemory}
use Rattle.td_host_actors.specs.Acting.{HasMemory, Answered, read_seat, take_pass, ticket_seat, RanWorker}

loads-append : (xs ys : List Access) → loads (xs ++ ys) ≡ loads xs ++ loads ys
loads-append [] ys = refl
loads-append (access.Load j x ∷ xs) ys = ap (λ l. (j, x) ∷ l) (loads-append xs ys)
loads-append (access.Store j x ∷ xs) ys = loads-append xs ys

-- td_host cites this and that a reader stores nothing
pub stores-append : (xs ys : List Access) → stores (xs ++ ys) ≡ stores xs ++ stores ys
stores-append [] ys = refl
stores-append (access.Load j x ∷ xs) ys = stores-append xs ys
stores-append (access.Store j x ∷ xs) ys = ap (λ l. (j, x) ∷ l) (stores-append xs ys)

loads_placed : (layout : List Stretch) (more : List Load) → loads (steps_for layout more) ≡ placed layout more
unfolding placed
loads_placed layout [] = refl
loads_placed layout (l ∷ ls) = ap (λ t. (buffer_word layout l.word, l.value) ∷ t) (loads_placed layout ls)

pub no_stores : (layout : List Stretch) (more : List Load) → stores (steps_for layout more) ≡ []
no_stores layout [] = refl
no_stores layout (l ∷ ls) = no_stores layout ls

pub pieces-push : (mails : List Mail) (rs : List Reply) (r : Reply) → pieces mails (rs ++ r ∷ []) ≡ pieces mails rs ++ placed (layout_in mails r) r.loads.list
unfolding pieces
pieces-push mails [] r = append-nil (placed (layout_in mails r) r.loads.list)
pieces-push mails (s ∷ rs) r = ap (λ l. placed (layout_in mails s) s.loads.list ++ l) (pieces-push mails rs r) ∙ sym (append_assoc (placed (layout_in mails s) s.loads.list) (pieces mails rs) (placed (layout_in mails r) r.loads.list))

pub layout_is : (mails : List Mail) (name : PostName) (m : Mail) (r : Reply) → reply_name r ≡ name → mail_named name mails ≡ Some m → layout_in mails r ≡ layout_of m
layout_is mails name m r e f = ap layout_or (ap (λ n. mail_named n mails) e ∙ f)

-- a reply in the memory of a room has memory for what the room has
pub in_room : (frames cells : ℕ) (rooms : List ℕ) (room r : Reply) → KeepsMemory room r → HasMemory frames cells rooms room → HasMemory frames cells rooms r
in_room frames cells rooms room r k m = record { trace_room = k.trace ∙ m.trace_room; cell_room = k.cells ∙ m.cell_room; buffer_room = k.buffers ∙ m.buffer_room; copy_rooms = k.rooms ∙ m.copy_rooms }

pub record RunningWorker (job : HostJob) (count : ℕ) (seat0 seat : SeatState) (pass0 pass : PassState) (drawer0 drawer : DrawerState) (swap0 swap : SwapState) (replies : List Reply) : Type 0 where
  pub steps : List Access
  pub posts : List Post
  pub below : List ℕ
  pub is_seat : (opened : List ℕ) (n : ℕ) → seat0 ≡ read_seat seat0.table opened n [] → seat ≡ read_seat seat0.table opened n steps
  pub is_pass : (n : ℕ) → pass0 ≡ take_pass pass0.queue n [] → pass ≡ take_pass pass0.queue n posts
  pub is_drawer : (n : ℕ) → drawer0 ≡ ticket_seat drawer0.table n [] → drawer ≡ ticket_seat drawer0.table n below
  pub is_swap : (versions : ℕ) → swap0 ≡ swap_state swap0.table (new_view versions) → swap ≡ swap_state swap0.table (swap_view versions 0 (map version_in replies) [])
  pub loaded : loads steps ≡ pieces (all_mails 1 job.guests) replies
  pub stored : stores steps ≡ []
  pub names : map reply_name replies ≡ map (λ (p : Post). p.name) posts
  pub answered : All (Answered job) replies
  pub all_below : All (λ (k : ℕ). k < count) below
  pub as_many : length below ≡ length posts
  pub few : length replies ≤ count

module _ (job : HostJob) (count : ℕ) where
  pub begins : (seat : SeatState) (pass : PassState) (drawer : DrawerState) (swap : SwapState) (replies : List Reply) → replies ≡ [] → RunningWorker job count seat seat pass pass drawer drawer swap swap replies
  unfolding pieces
  begins seat pass drawer swap replies none = subst (RunningWorker job count seat seat pass pass drawer drawer swap swap) (sym none) record {
    steps = [];
    posts = [];
    below = [];
    is_seat = λ opened n e. e;
    is_pass = λ n e. e;
    is_drawer = λ n e. e;
    is_swap = λ versions e. e;
    loaded = refl;
    stored = refl;
    names = refl;
    answered = All-nil (Answered job);
    all_below = All-nil (λ (k : ℕ). k < count);
    as_many = refl;
    few = omega arith;
  }

  module _ (seat0 seat : SeatState) (pass0 pass : PassState) (drawer0 drawer : DrawerState) (swap0 swap : SwapState) (replies : List Reply) (w : RunningWorker job count seat0 seat pass0 pass drawer0 drawer swap0 swap replies) where
    pub answers : (seat' : SeatState) (pass' : PassState) (drawer' : DrawerState) (swap' : SwapState) (k : ℕ) (p : Post) (r : Reply) (replies' : List Reply)
        → drawer' ≡ drawer_with drawer (did_draw drawer.view k) → k < count
        → pass' ≡ pass_with pass (did_take pass.view p) → reply_name r ≡ p.name → Answered job r
        → HasLoaded (layout_in (all_mails 1 job.guests) r) seat seat' r.loads.list → swap' ≡ then_loaded swap (version_in r) → length replies < count → replies' ≡ replies ++ r ∷ []
        → RunningWorker job count seat0 seat' pass0 pass' drawer0 drawer' swap0 swap' replies'
    answers seat' pass' drawer' swap' k p r replies' drew less took name answered read looked free is =
        let mails = all_mails 1 job.guests in
        let layout = layout_in mails r in
        let more : List Access = steps_for layout r.loads.list in
        subst (RunningWorker job count seat0 seat' pass0 pass' drawer0 drawer' swap0 swap') (sym is) record {
          steps = w.steps ++ more;
          posts = w.posts ++ p ∷ [];
          below = w.below ++ k ∷ [];
          is_seat = λ opened n e. read ∙ ap (λ (s : SeatState). seat_state s.table (seat_view s.view.opened s.view.number s.view.guest (s.view.steps ++ more))) (w.is_seat opened n e);
          is_pass = λ n e. took ∙ ap (λ (h : PassState). pass_with h (did_take h.view p)) (w.is_pass n e);
          is_drawer = λ n e. drew ∙ ap (λ (d : DrawerState). drawer_with d (did_draw d.view k)) (w.is_drawer n e);
          is_swap = λ versions e. looked ∙ (ap (λ (x : SwapState). then_loaded x (version_in r)) (w.is_swap versions e) ∙ ap (λ l. swap_state swap0.table (swap_view versions 0 l [])) (sym (map-append version_in replies (r ∷ []))));
          loaded = loads-append w.steps more ∙ ((λ i. w.loaded i ++ loads_placed layout r.loads.list i) ∙ sym (pieces-push mails replies r));
          stored = stores-append w.steps more ∙ (λ i. w.stored i ++ no_stores layout r.loads.list i);
          names = map-append reply_name replies (r ∷ []) ∙ ((λ i. w.names i ++ name i ∷ []) ∙ sym (map-append (λ (x : Post). x.name) w.posts (p ∷ [])));
          answered = All-push (Answered job) replies r w.answered answered;
          all_below = All-push (λ (x : ℕ). x < count) w.below k w.all_below less;
          as_many = length-append w.below (k ∷ []) ∙ (ap (λ n. n + 1) w.as_many ∙ sym (length-append w.posts (p ∷ [])));
          few = let n = length-append replies (r ∷ []) in omega (arith, n, free);
        }

    -- it drew a ticket that isn't below the count
    pub ends_drawn : (drawer' : DrawerState) (k : ℕ) → drawer' ≡ drawer_with drawer (did_draw drawer.view k) → count ≤ k → RanWorker job count seat0 seat pass0 pass drawer0 drawer' swap0 swap replies
    ends_drawn drawer' k drew enough = record {
      steps = w.steps;
      posts = w.posts;
      below = w.below;
      above = k ∷ [];
      is_seat = w.is_seat;
      is_pass = w.is_pass;
      is_drawer = λ n e. drew ∙ ap (λ (d : DrawerState). drawer_with d (did_draw d.view k)) (w.is_drawer n e);
      is_swap = w.is_swap;
      loaded = w.loaded;
      stored = w.stored;
      names = w.names;
      answered = w.answered;
      all_below = w.all_below;
      all_above = All-cons (λ (x : ℕ). count ≤ x) k [] enough (All-nil (λ (x : ℕ). count ≤ x));
      as_many = w.as_many;
      few = w.few;
      enough = inl (omega arith);
    }

    -- it answered as many posts as there are
    pub ends_full : count ≤ length replies → RanWorker job count seat0 seat pass0 pass drawer0 drawer swap0 swap replies
    ends_full full =
        let same : length replies ≡ length w.posts = sym (length-map replies reply_name) ∙ (ap length w.names ∙ length-map w.posts (λ (x : Post). x.name)) in
        record {
          steps = w.steps;
          posts = w.posts;
          below = w.below;
          above = [];
          is_seat = w.is_seat;
          is_pass = w.is_pass;
          is_drawer = λ n e. w.is_drawer n e ∙ ap (ticket_seat drawer0.table n) (sym (append-nil w.below));
          is_swap = w.is_swap;
          loaded = w.loaded;
          stored = w.stored;
          names = w.names;
          answered = w.answered;
          all_below = w.all_below;
          all_above = All-nil (λ (x : ℕ). count ≤ x);
          as_many = w.as_many;
          few = w.few;
          enough = inr (omega (arith, full, same));
        }
