-- A guest in the middle of its script.
use Rattle.std.proofs.Common.{◌≡◌, ℕ, ◌+◌, ◌<◌, List, [], ◌∷◌, ◌++◌, length, map, refl, sym, ap, ◌∙◌, subst, arith, append_assoc}
use Rattle.std.proofs.lemmas.List.{map-append, append-nil}
use Rattle.td_words.specs.declared.view.Access.{Access}
use Rattle.td_words.specs.declared.view.Access.TheVariants as access
use Rattle.td_words.specs.History.{stores}
use Rattle.td_words.specs.Seats.{SeatState, then_did}
use Rattle.td_ring.specs.declared.post.Post.{Post}
use Rattle.td_ring.specs.Ring.{PassState, pass_with, did_post}
use Rattle.td_posts.specs.declared.job.Step.{Step}
use Rattle.td_posts.specs.declared.job.Step.TheVariants as step
use Rattle.td_posts.specs.declared.mail.Mail.{Mail}
use Rattle.td_posts.specs.declared.reply.Reply.{Reply}
use Rattle.td_posts.specs.Posts.{post_name, mails_from, mails_of}
use Rattle.td_host_actors.specs.Replies.{label, mail_label}
use Rattle.td_host_actors.specs.Acting.{RoomsFor, post_of, acts_of, StoresInside, guest_seat, post_pass, RanScript}
use Rattle.td_host_actors.proofs.Posting.{Posting, mail_by, post_by, mails_post, acts_post, stays_post, label_is}

stores-push : (xs : List Access) (i v : ℕ) → length (stores (xs ++ access.Store i v ∷ [])) ≡ length (stores xs) + 1
stores-push [] i v = refl
stores-push (access.Load j w ∷ xs) i v = stores-push xs i v
stores-push (access.Store j w ∷ xs) i v = let e = stores-push xs i v in omega arith

pub record RunningScript (names : Post → Type 0) (guest count : ℕ) (rest whole : List Step) (seat0 seat : SeatState) (pass0 pass : PassState) (rooms : List Reply) (number made : ℕ) : Type 0 where
  pub steps : List Access
  pub posts : List Post
  pub table : seat.table ≡ seat0.table
  pub queue : pass.queue ≡ pass0.queue
  pub is_seat : (opened : List ℕ) (n : ℕ) → seat0 ≡ guest_seat seat0.table opened n [] → seat ≡ guest_seat seat0.table opened n steps
  pub is_pass : (n : ℕ) → pass0 ≡ post_pass pass0.queue n [] → pass ≡ post_pass pass0.queue n posts
  pub is_made : length (stores seat.view.steps) ≡ made
  pub acts : steps ++ acts_of rest ≡ acts_of whole
  pub labels : map label posts ++ map mail_label (mails_from guest (number + 1) made rest) ≡ map mail_label (mails_of guest whole)
  pub is_rooms : RoomsFor names (mails_from guest (number + 1) made rest) rooms
  pub stays : StoresInside count rest
  pub counted : number + made + length rest ≡ length whole

module _ (names : Post → Type 0) (guest count : ℕ) where
  pub begins : (whole : List Step) (seat : SeatState) (pass : PassState) (rooms : List Reply) → stores seat.view.steps ≡ [] → RoomsFor names (mails_of guest whole) rooms → StoresInside count whole
      → RunningScript names guest count whole whole seat seat pass pass rooms 0 0
  begins whole seat pass rooms none has stays = record {
    steps = [];
    posts = [];
    table = refl;
    queue = refl;
    is_seat = λ opened n e. e;
    is_pass = λ n e. e;
    is_made = ap length none;
    acts = refl;
    labels = refl;
    is_rooms = has;
    stays = stays;
    counted = let e : 0 + 0 + length whole ≡ length whole = omega arith in e;
  }

  module _ (whole : List Step) (seat0 seat : SeatState) (pass0 pass : PassState) (rooms : List Reply) (number made : ℕ) where
    abbrev At : List Step → Type 0
    At rest = RunningScript names guest count rest whole seat0 seat pass0 pass rooms number made

    pub inside : (rest rest' : List Step) (w v : ℕ) → RunningScript names guest count rest whole seat0 seat pass0 pass rooms number made → rest ≡ step.Store w v ∷ rest' → w < count
    unfolding StoresInside
    inside rest rest' w v p e = (subst (StoresInside count) e p.stays).0

    pub room : (rest rest' : List Step) (s : Step) → Posting s → RunningScript names guest count rest whole seat0 seat pass0 pass rooms number made → rest ≡ s ∷ rest'
        → RoomsFor names (mail_by (post_name guest (number + 1)) made s ∷ mails_from guest (number + 1 + 1) made rest') rooms
    room rest rest' s posting p e = subst (λ (ms : List Mail). RoomsFor names ms rooms) (ap (mails_from guest (number + 1) made) e ∙ mails_post guest (number + 1) made s rest' posting) p.is_rooms

    pub small : (rest rest' : List Step) (s : Step) → RunningScript names guest count rest whole seat0 seat pass0 pass rooms number made → rest ≡ s ∷ rest' → number + made + 1 + length rest' ≡ length whole
    small rest rest' s p e = let c = p.counted in let d = ap length e in omega arith

    pub stores_one : (rest rest' : List Step) (w v : ℕ) (seat' : SeatState) → RunningScript names guest count rest whole seat0 seat pass0 pass rooms number made → rest ≡ step.Store w v ∷ rest'
        → seat' ≡ then_did seat (access.Store w v) → RunningScript names guest count rest' whole seat0 seat' pass0 pass rooms number (made + 1)
    unfolding mails_from acts_of StoresInside
    stores_one rest rest' w v seat' p e did =
        let q : At (step.Store w v ∷ rest') = subst At e p in
        record {
          steps = q.steps ++ access.Store w v ∷ [];
          posts = q.posts;
          table = ap (λ (s : SeatState). s.table) did ∙ q.table;
          queue = q.queue;
          is_seat = λ opened n f. did ∙ ap (λ (s : SeatState). then_did s (access.Store w v)) (q.is_seat opened n f);
          is_pass = q.is_pass;
          is_made = ap (λ (s : SeatState). length (stores s.view.steps)) did ∙ (stores-push seat.view.steps w v ∙ ap (λ n. n + 1) q.is_made);
          acts = append_assoc q.steps (access.Store w v ∷ []) (acts_of rest') ∙ q.acts;
          labels = q.labels;
          is_rooms = q.is_rooms;
          stays = q.stays.1;
          counted = let c = q.counted in omega arith;
        }

    pub posts_one : (rest rest' : List Step) (s : Step) (pass' : PassState) (r : Reply) (rooms' : List Reply) → Posting s → RunningScript names guest count rest whole seat0 seat pass0 pass rooms number made → rest ≡ s ∷ rest' → rooms ≡ r ∷ rooms'
        → pass' ≡ pass_with pass (did_post pass.view (post_by (post_name guest (number + 1)) made r)) → RunningScript names guest count rest' whole seat0 seat pass0 pass' rooms' (number + 1) made
    unfolding RoomsFor
    posts_one rest rest' s pass' r rooms' posting p e f did =
        let q : At (s ∷ rest') = subst At e p in
        let name = post_name guest (number + 1) in
        let m : Mail = mail_by name made s in
        let ms : List Mail = mails_from guest (number + 1 + 1) made rest' in
        let x : Post = post_by name made r in
        let has : RoomsFor names (m ∷ ms) rooms = room rest rest' s posting p e in
        record {
          steps = q.steps;
          posts = q.posts ++ x ∷ [];
          table = q.table;
          queue = ap (λ (h : PassState). h.queue) did ∙ q.queue;
          is_seat = q.is_seat;
          is_pass = λ n g. did ∙ ap (λ (h : PassState). pass_with h (did_post h.view x)) (q.is_pass n g);
          is_made = q.is_made;
          acts = ap (λ l. q.steps ++ l) (sym (acts_post s rest' posting)) ∙ q.acts;
          labels = ap (λ l. l ++ map mail_label ms) (map-append label q.posts (x ∷ [])) ∙ (append_assoc (map label q.posts) (label x ∷ []) (map mail_label ms)
              ∙ (ap (λ t. map label q.posts ++ t ∷ map mail_label ms) (sym (label_is name made s)) ∙ (ap (λ (l : List Mail). map label q.posts ++ map mail_label l) (sym (mails_post guest (number + 1) made s rest' posting)) ∙ q.labels)));
          is_rooms = (subst (RoomsFor names (m ∷ ms)) f has).1;
          stays = stays_post count s rest' posting q.stays;
          counted = let c = q.counted in omega arith;
        }

    pub ends : (rest : List Step) → RunningScript names guest count rest whole seat0 seat pass0 pass rooms number made → rest ≡ [] → RanScript guest whole seat0 seat pass0 pass
    unfolding mails_from acts_of
    ends rest p e =
        let q : At [] = subst At e p in
        record {
          posts = q.posts;
          labels = sym (append-nil (map label q.posts)) ∙ q.labels;
          is_seat = λ opened n f. q.is_seat opened n f ∙ ap (guest_seat seat0.table opened n) (sym (append-nil q.steps) ∙ q.acts);
          is_pass = q.is_pass;
        }

-- a room is there for the first of the posts that are left
pub none_for : (names : Post → Type 0) (m : Mail) (ms : List Mail) (rooms : List Reply) → RoomsFor names (m ∷ ms) rooms → length rooms ≡ 0 → ⊥
unfolding RoomsFor
none_for names m ms [] has e = has
none_for names m ms (r ∷ rooms) has e = absurd (omega arith)

pub first_for : (names : Post → Type 0) (m : Mail) (ms : List Mail) (rooms : List Reply) (r : Reply) (rest : List Reply) → RoomsFor names (m ∷ ms) rooms → rooms ≡ r ∷ rest → names (post_of m r)
unfolding RoomsFor
first_for names m ms rooms r rest has is = (subst (RoomsFor names (m ∷ ms)) is has).0
