-- The host in the middle of its gathering.
use Rattle.std.proofs.Common.{◌≡◌, ℕ, ◌+◌, ◌≤◌, List, [], ◌∷◌, ◌++◌, length, Option, Some, None, refl, sym, ap, ◌∙◌, subst, arith, append_assoc, length-append}
use Rattle.std.specs.List.{All}
use Rattle.std.proofs.lemmas.List.Elements.{All-head, All-tail}
use Rattle.std.proofs.lemmas.List.{append-nil}
use Rattle.td_words.specs.Views.{with_ended}
use Rattle.td_words.specs.Seats.{BufferState, HostState, with_view}
use Rattle.td_ring.specs.declared.roll.Part.{Part}
use Rattle.td_ring.specs.declared.roll.Head.{Head}
use Rattle.td_ring.specs.declared.post.Post.{Post}
use Rattle.td_ring.specs.declared.view.RingView.{RingView}
use Rattle.atomic_table.specs.Seated.{TableId}
use Rattle.td_ring.specs.declared.view.TicketView.{TicketView}
use Rattle.td_ring.specs.Heads.{HasHead, with_ended as part_ended}
use Rattle.td_ring.specs.Ring.{PassState, RingState, pass_with}
use Rattle.td_ring.specs.Tickets.{DrawerState, drawer_with}
use Rattle.td_posts.specs.declared.reply.Reply.{Reply}
use Rattle.td_takes.specs.declared.take.Take.{Take}
use Rattle.td_swap.specs.declared.view.SwapView.{SwapView}
use Rattle.td_swap.specs.Versions.{CodesState}
use Rattle.td_swap.specs.Views.{AreVersions}
use Rattle.td_swap.specs.Seats.{SwapState, IsOwn, swap_state}
use Rattle.td_host_actors.specs.declared.actor.Actor.{Actor}
use Rattle.td_host_actors.specs.declared.actor.Actor.TheVariants as kind
use Rattle.td_host_actors.specs.Actors.{replies_of}
use Rattle.td_host.specs.Gathered.{view_of, IsAt, put_one, take_one, draw_one, swap_one, takes_of, seats_all, puts_all, takes_all, draws_all, swaps_all, all_replies, takes_of_all}

put_keeps : (h : Option (Head Post)) (p : Option (Part Post)) → HasHead h → HasHead (part_ended h p)
put_keeps None p e = e
put_keeps (Some h) None e = e
put_keeps (Some h) (Some p) e = refl

draw_keeps : (h : Option (Head ℕ)) (p : Option (Part ℕ)) → HasHead h → HasHead (part_ended h p)
draw_keeps None p e = e
draw_keeps (Some h) None e = e
draw_keeps (Some h) (Some p) e = refl

module _ {G : Type 0} where
  no_actor : (xs : List (Actor G)) → length xs ≡ 0 → xs ≡ []
  no_actor [] e = refl
  no_actor (x ∷ xs) e = absurd (omega arith)

  -- where there is room for all replies there is some for the first actor's, and then for the others'
  pub first_room : (room : ℕ) (found : List Reply) (rest : List (Actor G)) (a : Actor G) (rest' : List (Actor G)) → rest ≡ a ∷ rest'
      → length found + length (all_replies rest) ≤ room → length found + length (replies_of a) ≤ room
  unfolding all_replies
  first_room room found rest a rest' e fits =
      let l : length (all_replies rest) ≡ length (replies_of a ++ all_replies rest') = ap (λ xs. length (all_replies xs)) e in
      let m = length-append (replies_of a) (all_replies rest') in
      omega (arith, fits, l, m)

  pub rest_room : (room room' : ℕ) (found found' : List Reply) (rest : List (Actor G)) (a : Actor G) (rest' : List (Actor G)) → rest ≡ a ∷ rest' → found' ≡ found ++ replies_of a → room ≤ room'
      → length found + length (all_replies rest) ≤ room → length found' + length (all_replies rest') ≤ room'
  unfolding all_replies
  rest_room room room' found found' rest a rest' e f more fits =
      let l : length (all_replies rest) ≡ length (replies_of a ++ all_replies rest') = ap (λ xs. length (all_replies xs)) e in
      let m = length-append (replies_of a) (all_replies rest') in
      let n : length found' ≡ length found + length (replies_of a) = ap length f ∙ length-append found (replies_of a) in
      omega (arith, fits, more, l, m, n)

  -- .. and so it is with room for all takes
  pub first_take_room : (room : ℕ) (made : List Take) (rest : List (Actor G)) (a : Actor G) (rest' : List (Actor G)) → rest ≡ a ∷ rest'
      → length made + length (takes_of_all rest) ≤ room → length made + length (takes_of a) ≤ room
  unfolding takes_of_all
  first_take_room room made rest a rest' e fits =
      let l : length (takes_of_all rest) ≡ length (takes_of a ++ takes_of_all rest') = ap (λ xs. length (takes_of_all xs)) e in
      let m = length-append (takes_of a) (takes_of_all rest') in
      omega (arith, fits, l, m)

  pub rest_take_room : (room room' : ℕ) (made made' : List Take) (rest : List (Actor G)) (a : Actor G) (rest' : List (Actor G)) → rest ≡ a ∷ rest' → made' ≡ made ++ takes_of a → room ≤ room'
      → length made + length (takes_of_all rest) ≤ room → length made' + length (takes_of_all rest') ≤ room'
  unfolding takes_of_all
  rest_take_room room room' made made' rest a rest' e f more fits =
      let l : length (takes_of_all rest) ≡ length (takes_of a ++ takes_of_all rest') = ap (λ xs. length (takes_of_all xs)) e in
      let m = length-append (takes_of a) (takes_of_all rest') in
      let n : length made' ≡ length made + length (takes_of a) = ap length f ∙ length-append made (takes_of a) in
      omega (arith, fits, more, l, m, n)

  -- what was made so far and what the rest made is what all made
  abbrev pub MadeSoFar : (whole : List (Actor G)) (made0 : List Take) (rest : List (Actor G)) (made : List Take) → Type 0
  MadeSoFar whole made0 rest made = made ++ takes_of_all rest ≡ made0 ++ takes_of_all whole

  pub makes : (whole : List (Actor G)) (made0 : List Take) (rest : List (Actor G)) (made : List Take) (a : Actor G) (rest' : List (Actor G)) (made' : List Take)
      → MadeSoFar whole made0 rest made → rest ≡ a ∷ rest' → made' ≡ made ++ takes_of a → MadeSoFar whole made0 rest' made'
  unfolding takes_of_all
  makes whole made0 rest made a rest' made' so e f =
      ap (λ l. l ++ takes_of_all rest') f ∙ (append_assoc made (takes_of a) (takes_of_all rest') ∙ (ap (λ xs. made ++ takes_of_all xs) (sym e) ∙ so))

  pub made_all : (whole : List (Actor G)) (made0 : List Take) (rest : List (Actor G)) (made : List Take) → MadeSoFar whole made0 rest made → length rest ≡ 0 → made ≡ made0 ++ takes_of_all whole
  unfolding takes_of_all
  made_all whole made0 rest made so e = sym (append-nil made) ∙ (ap (λ xs. made ++ takes_of_all xs) (sym (no_actor rest e)) ∙ so)

  put_head : (v : RingView) (a : Actor G) → HasHead v.put_head → HasHead (put_one v a).put_head
  put_head v (kind.Worker w) e = e
  put_head v (kind.Guest g) e = put_keeps v.put_head g.pass.view.put e
  put_head v (kind.Ring t) e = e
  put_head v (kind.Publisher q) e = e

  take_head : (v : RingView) (a : Actor G) → HasHead v.take_head → HasHead (take_one v a).take_head
  take_head v (kind.Guest g) e = e
  take_head v (kind.Ring t) e = e
  take_head v (kind.Publisher q) e = e
  take_head v (kind.Worker w) e = put_keeps v.take_head w.pass.view.take e

  draw_head : (v : TicketView) (a : Actor G) → HasHead v.head → HasHead (draw_one v a).head
  draw_head v (kind.Guest g) e = e
  draw_head v (kind.Ring t) e = e
  draw_head v (kind.Publisher q) e = e
  draw_head v (kind.Worker w) e = draw_keeps v.head w.drawer.view.draws e

  still_count : (v : SwapView) (a : Actor G) → (swap_one v a).count ≡ v.count
  still_count v (kind.Worker w) = refl
  still_count v (kind.Guest g) = refl
  still_count v (kind.Ring t) = refl
  still_count v (kind.Publisher q) = refl

  module _ (shared : BufferState) (ring : RingState) (tickets : TableId) (codes : CodesState) (whole : List (Actor G)) (seat0 : HostState) (posts0 takes0 : PassState) (drawer0 : DrawerState) (swap0 : SwapState) (found0 : List Reply) where
    pub record Gathering (rest : List (Actor G)) (seat : HostState) (posts takes : PassState) (drawer : DrawerState) (swap : SwapState) (found : List Reply) : Type 0 where
      pub seat_own : seat.table ≡ seat0.table
      pub posts_own : posts.queue ≡ posts0.queue
      pub takes_own : takes.queue ≡ takes0.queue
      pub drawer_own : drawer.table ≡ drawer0.table
      pub swap_same : swap.table ≡ swap0.table
      pub swap_own : IsOwn codes swap
      pub versions : AreVersions swap.view
      pub heads : HasHead posts.view.put_head × HasHead takes.view.take_head × HasHead drawer.view.head
      pub seats : seats_all seat.view rest ≡ seats_all seat0.view whole
      pub puts : puts_all posts.view rest ≡ puts_all posts0.view whole
      pub takings : takes_all takes.view rest ≡ takes_all takes0.view whole
      pub draws : draws_all drawer.view rest ≡ draws_all drawer0.view whole
      pub numbers : swaps_all swap.view rest ≡ swaps_all swap0.view whole
      pub replies : found ++ all_replies rest ≡ found0 ++ all_replies whole
      pub at : All (IsAt shared ring tickets codes) rest

    pub begins : HasHead posts0.view.put_head × HasHead takes0.view.take_head × HasHead drawer0.view.head → All (IsAt shared ring tickets codes) whole → IsOwn codes swap0 → AreVersions swap0.view → Gathering whole seat0 posts0 takes0 drawer0 swap0 found0
    begins heads at own versions = record { seat_own = refl; posts_own = refl; takes_own = refl; drawer_own = refl; swap_same = refl; swap_own = own; versions = versions; heads = heads; seats = refl; puts = refl; takings = refl; draws = refl; numbers = refl; replies = refl; at = at }

    module _ (rest : List (Actor G)) (seat : HostState) (posts takes : PassState) (drawer : DrawerState) (swap : SwapState) (found : List Reply) (p : Gathering rest seat posts takes drawer swap found) where
      pub first : (a : Actor G) (rest' : List (Actor G)) → rest ≡ a ∷ rest' → IsAt shared ring tickets codes a
      first a rest' e = All-head (IsAt shared ring tickets codes) a rest' (subst (All (IsAt shared ring tickets codes)) e p.at)

      pub gathers : (a : Actor G) (rest' : List (Actor G)) (seat' : HostState) (posts' takes' : PassState) (drawer' : DrawerState) (swap' : SwapState) (found' : List Reply) → rest ≡ a ∷ rest'
          → seat' ≡ with_view seat (with_ended seat.view (view_of a)) → posts' ≡ pass_with posts (put_one posts.view a) → takes' ≡ pass_with takes (take_one takes.view a) → drawer' ≡ drawer_with drawer (draw_one drawer.view a)
          → swap' ≡ swap_state swap.table (swap_one swap.view a) → AreVersions swap'.view → found' ≡ found ++ replies_of a → Gathering rest' seat' posts' takes' drawer' swap' found'
      unfolding seats_all puts_all takes_all draws_all swaps_all all_replies
      gathers a rest' seat' posts' takes' drawer' swap' found' e es ep et ed ew ev ef =
          let q : Gathering (a ∷ rest') seat posts takes drawer swap found = subst (λ l. Gathering l seat posts takes drawer swap found) e p in
          record {
            seat_own = ap (λ (k : HostState). k.table) es ∙ q.seat_own;
            posts_own = ap (λ (h : PassState). h.queue) ep ∙ q.posts_own;
            takes_own = ap (λ (h : PassState). h.queue) et ∙ q.takes_own;
            drawer_own = ap (λ (d : DrawerState). d.table) ed ∙ q.drawer_own;
            swap_same = ap (λ (d : SwapState). d.table) ew ∙ q.swap_same;
            swap_own = (ap (λ (d : SwapState). d.table) ew ∙ q.swap_own.0, ap (λ (d : SwapState). d.view.count) ew ∙ (still_count swap.view a ∙ q.swap_own.1));
            versions = ev;
            heads = (
              subst (λ (h : PassState). HasHead h.view.put_head) (sym ep) (put_head posts.view a q.heads.0),
              subst (λ (h : PassState). HasHead h.view.take_head) (sym et) (take_head takes.view a q.heads.1),
              subst (λ (d : DrawerState). HasHead d.view.head) (sym ed) (draw_head drawer.view a q.heads.2),
            );
            seats = ap (λ (k : HostState). seats_all k.view rest') es ∙ q.seats;
            puts = ap (λ (h : PassState). puts_all h.view rest') ep ∙ q.puts;
            takings = ap (λ (h : PassState). takes_all h.view rest') et ∙ q.takings;
            draws = ap (λ (d : DrawerState). draws_all d.view rest') ed ∙ q.draws;
            numbers = ap (λ (d : SwapState). swaps_all d.view rest') ew ∙ q.numbers;
            replies = ap (λ l. l ++ all_replies rest') ef ∙ (append_assoc found (replies_of a) (all_replies rest') ∙ q.replies);
            at = All-tail (IsAt shared ring tickets codes) a rest' q.at;
          }

      pub ends : length rest ≡ 0
          → (seat ≡ with_view seat0 (seats_all seat0.view whole)) × (posts ≡ pass_with posts0 (puts_all posts0.view whole)) × (takes ≡ pass_with takes0 (takes_all takes0.view whole))
          × (drawer ≡ drawer_with drawer0 (draws_all drawer0.view whole)) × (found ≡ found0 ++ all_replies whole) × (swap ≡ swap_state swap0.table (swaps_all swap0.view whole))
      unfolding seats_all puts_all takes_all draws_all swaps_all all_replies
      ends e =
          let q : Gathering [] seat posts takes drawer swap found = subst (λ l. Gathering l seat posts takes drawer swap found) (no_actor rest e) p in (
            (λ i. record { table = q.seat_own i; view = q.seats i }),
            (λ i. record { queue = q.posts_own i; view = q.puts i }),
            (λ i. record { queue = q.takes_own i; view = q.takings i }),
            (λ i. record { table = q.drawer_own i; view = q.draws i }),
            sym (append-nil found) ∙ q.replies,
            (λ i. record { table = q.swap_same i; view = q.numbers i }),
          )
