use Rattle.std.proofs.Common.{rules, ◌≡◌, ℕ, [], ◌+◌, ◌*◌, ◌-◌, ◌<◌, ◌≤◌, ◌^◌, List, ◌++◌, length, map, vec_capacity, sym, ap, ◌∙◌, subst, arith}
use Rattle.std.specs.List.{All, sum_by}
use Rattle.std.specs.List.Sorted.{IsPermutation}
use Rattle.td_num.proofs.Lists.{lent, all_left}
use Rattle.td_words.specs.Gathered.{Fetched, IsHistoryOf}
use Rattle.td_words.specs.Seats.{HostState}
use Rattle.td_ring.specs.Ring.{PassState, with_takes}
use Rattle.td_ring.specs.Tickets.{DrawerState}
use Rattle.td_posts.specs.declared.reply.Reply.{Reply}
use Rattle.td_posts.specs.declared.mail.Mail.{Mail}
use Rattle.td_posts.specs.Posts.{reply_name}
use Rattle.td_swap.specs.Views.{publisher_view, swap_view, AreVersions}
use Rattle.td_swap.specs.Seats.{PublishState, SwapState, publish_state}
use Rattle.td_host_actors.specs.Replies.{IsJobCode, JobCode}
use Rattle.td_host_actors.specs.declared.actor.Actor.TheVariants as kind
use Rattle.td_takes.specs.declared.take.Take.{Take}
use Rattle.td_host_actors.specs.Acting.{IsInRoom, first_frames}
use Rattle.td_host_actors.specs.Actors.{service_at}
use Rattle.td_host.specs.Gathered.{IsAt, seats_all, puts_all, takes_all, draws_all, swaps_all, all_replies, takes_of_all, IsDescribedBy, HasTakeRooms}
use Rattle.td_host.proofs.Serves.{ready, all_ready, at_all, parted, one_end, same_publisher}
use Rattle.td_host.specs.Hosts.{takes_in}
use Rattle.td_host.proofs.Wholes.{halves, found_few, made_few, taken, same_names, served_versions, no_versions}
use Rattle.td_host.proofs.Memory.{put}
use Rattle.td_host.proofs.TakeMemory.{made_in_rooms}
use Rattle.td_host.proofs.serve.serve_all.Goals as goal

pub run_all-requires-clause-ready : goal.run_all-requires-clause-ready
run_all-requires-clause-ready g c =
    let d = c.args.desk.now in
    let k = c.args.crew.into.heads in
    let r = c.requires.crew in
    let names = g.J.Naming.names in
    λ _ _. all_ready names d.shared d.ring (service_at d) r.actors c.as_mut_slice.result.now r.publisher
    (ready names d.shared d.ring (service_at d) d.job k.seat k.posts k.takes k.drawer r.actors r.armed) (c.as_mut_slice.ensures.value ∙ r.are) r.is_publisher c.requires.some

pub take_publisher-publisher-requires : goal.take_publisher-publisher-requires
take_publisher-publisher-requires g c =
    let d = c.args.desk.now in
    let crew = c.args.crew in
    let k = crew.into.heads in
    let r = c.requires.crew in
    let names = g.J.Naming.names in
    let olds = r.actors in
    let all = c.run_all.new.actors in
    let w = lent crew.actors.len all crew.actors.items (c.run_all.auto.actors ∙ c.as_mut_slice.ensures.len) in
    let x = parted d.job d.mails.items olds c.as_mut_slice.result.now all r.publisher (c.as_mut_slice.ensures.value ∙ r.are) c.run_all.auto.actors c.run_all.ensures.did in
    (x.news, x.publisher, w ∙ x.are)

pub gather_all-requires-clause-at : goal.gather_all-requires-clause-at
gather_all-requires-clause-at g c =
    let d = c.args.desk.now in
    let crew = c.args.crew in
    let k = crew.into.heads in
    let r = c.requires.crew in
    let names = g.J.Naming.names in
    let olds = r.actors in
    let all = c.run_all.new.actors in
    let w = lent crew.actors.len all crew.actors.items (c.run_all.auto.actors ∙ c.as_mut_slice.ensures.len) in
    let x = parted d.job d.mails.items olds c.as_mut_slice.result.now all r.publisher (c.as_mut_slice.ensures.value ∙ r.are) c.run_all.auto.actors c.run_all.ensures.did in
    let end = one_end x.news c.take_publisher-publisher.new.actors.items _ _ (sym (w ∙ x.are) ∙ c.take_publisher-publisher.ensures) in
    subst (All (IsAt d.shared d.ring d.tickets d.codes)) end.0
    (at_all names d.shared d.ring (service_at d) d.job d.mails.items k.seat k.posts k.takes k.drawer olds x.news r.armed x.did)

pub gather_all-requires-clause-ready : goal.gather_all-requires-clause-ready
gather_all-requires-clause-ready g c =
    let r = c.requires.crew in
    record {
      seat = ap (λ (s : HostState). s.table) r.armed.host;
      posts = ap (λ (p : PassState). p.queue) r.armed.post_head;
      takes = ap (λ (p : PassState). p.queue) r.armed.take_head;
      drawer = ap (λ (p : DrawerState). p.table) r.armed.ticket_head;
      first = search rules;
      own = (ap (λ (s : SwapState). s.table) r.is_swap, ap (λ (s : SwapState). s.view.count) r.is_swap);
      versions = subst (λ (s : SwapState). AreVersions s.view) (sym r.is_swap) (no_versions _);
    }

pub gather_all-requires-clause-room : goal.gather_all-requires-clause-room
gather_all-requires-clause-room g c =
    let d = c.args.desk.now in
    let crew = c.args.crew in
    let k = crew.into.heads in
    let r = c.requires.crew in
    let names = g.J.Naming.names in
    let olds = r.actors in
    let all = c.run_all.new.actors in
    let w = lent crew.actors.len all crew.actors.items (c.run_all.auto.actors ∙ c.as_mut_slice.ensures.len) in
    let x = parted d.job d.mails.items olds c.as_mut_slice.result.now all r.publisher (c.as_mut_slice.ensures.value ∙ r.are) c.run_all.auto.actors c.run_all.ensures.did in
    let news = x.news in
    let end = one_end x.news c.take_publisher-publisher.new.actors.items _ _ (sym (w ∙ x.are) ∙ c.take_publisher-publisher.ensures) in
    let v = sym end.0 in
    let h = halves names d.shared d.ring (service_at d) d.job d.mails.items k.seat k.posts k.takes k.drawer olds news r.armed x.did in
    let few = found_few names d.shared d.ring (service_at d) d.job d.mails.items k.seat k.posts k.takes k.drawer olds news h in
    let none : length crew.into.found.items ≡ 0 = ap length r.none_found in
    room_for (length crew.into.found.items) (length (all_replies news)) (d.job.workers * length d.mails.items) (vec_capacity crew.into.found) _ none few r.found_room (ap (λ l. length (all_replies l)) v)
  where
    room_for : (found new most room lent : ℕ) → found ≡ 0 → new ≤ most → most ≤ room → lent ≡ new → found + lent ≤ room
    room_for found new most room lent a b c e = omega arith

pub gather_all-requires-clause-take_room : goal.gather_all-requires-clause-take_room
gather_all-requires-clause-take_room g c =
    let d = c.args.desk.now in
    let crew = c.args.crew in
    let k = crew.into.heads in
    let r = c.requires.crew in
    let names = g.J.Naming.names in
    let olds = r.actors in
    let all = c.run_all.new.actors in
    let w = lent crew.actors.len all crew.actors.items (c.run_all.auto.actors ∙ c.as_mut_slice.ensures.len) in
    let x = parted d.job d.mails.items olds c.as_mut_slice.result.now all r.publisher (c.as_mut_slice.ensures.value ∙ r.are) c.run_all.auto.actors c.run_all.ensures.did in
    let news = x.news in
    let end = one_end x.news c.take_publisher-publisher.new.actors.items _ _ (sym (w ∙ x.are) ∙ c.take_publisher-publisher.ensures) in
    let v = sym end.0 in
    let h = halves names d.shared d.ring (service_at d) d.job d.mails.items k.seat k.posts k.takes k.drawer olds news r.armed x.did in
    let few = made_few names d.shared d.ring (service_at d) d.job d.mails.items k.seat k.posts k.takes k.drawer olds news h in
    let none : length crew.into.takes.items ≡ 0 = ap length r.no_take in
    room_for (length crew.into.takes.items) (length (takes_of_all news)) (takes_in d.job.rings) (vec_capacity crew.into.takes) _ none few r.take_room (ap (λ l. length (takes_of_all l)) v)
  where
    room_for : (made new all room lent : ℕ) → made ≡ 0 → new ≡ all → all ≤ room → lent ≡ new → made + lent ≤ room
    room_for made new all room lent a b c e = omega arith

pub put_in_order-requires-clause-each : goal.put_in_order-requires-clause-each
put_in_order-requires-clause-each g c = λ f.
    let d = c.args.desk.now in
    let crew = c.args.crew in
    let k = crew.into.heads in
    let r = c.requires.crew in
    let names = g.J.Naming.names in
    let olds = r.actors in
    let all = c.run_all.new.actors in
    let w = lent crew.actors.len all crew.actors.items (c.run_all.auto.actors ∙ c.as_mut_slice.ensures.len) in
    let x = parted d.job d.mails.items olds c.as_mut_slice.result.now all r.publisher (c.as_mut_slice.ensures.value ∙ r.are) c.run_all.auto.actors c.run_all.ensures.did in
    let news = x.news in
    let end = one_end x.news c.take_publisher-publisher.new.actors.items _ _ (sym (w ∙ x.are) ∙ c.take_publisher-publisher.ensures) in
    let v = sym end.0 in
    let h = halves names d.shared d.ring (service_at d) d.job d.mails.items k.seat k.posts k.takes k.drawer olds news r.armed x.did in
    let e = c.gather_all.ensures in
    let few : length d.mails.items < 2 ^ 64 = search (rules, arith) in
    let v_is = ap (λ (p : PassState). p.view) c.settle.ensures.view ∙ ((λ i. with_takes (e.posts i).view (e.takes i).view) ∙ (λ i. with_takes (puts_all k.posts.view (v i)) (takes_all k.takes.view (v i)))) in
    let w_is = ap (λ (p : DrawerState). p.view) e.drawer ∙ ap (draws_all k.drawer.view) v in
    let both = taken names d.shared d.ring (service_at d) d.job d.mails.items k.seat k.posts k.takes k.drawer olds news h c.settle.new.pass.view c.settle.ensures.told.0 v_is c.settle.ensures.told.1 c.gather_all.new.into.heads.drawer.view c.tell.ensures.told.0 w_is c.tell.ensures.told.1 c.requires.mails few in
    let perm = both.0 in
    let found : c.gather_all.new.into.found.items ≡ all_replies news = e.found ∙ ((λ i. r.none_found i ++ all_replies (v i))) in
    let same = same_names names d.shared d.ring (service_at d) d.job d.mails.items k.seat k.posts k.takes k.drawer olds news h perm c.requires.mails f in
    subst (λ (y : List Reply × List Mail). sum_by f (map reply_name y.0) ≡ sum_by f (map (λ (m : Mail). m.name) y.1)) (λ i. (sym found i, sym c.as_slice.ensures.value i)) same

pub put_in_order-requires-clause-room : goal.put_in_order-requires-clause-room
put_in_order-requires-clause-room g c = subst (λ (l : List Mail). length l ≤ vec_capacity c.args.crew.replies) (sym c.as_slice.ensures.value) c.requires.crew.reply_room

pub returns-clause-served : goal.returns-clause-served
unfolding IsJobCode
returns-clause-served g c m described =
    let d = c.args.desk.now in
    let crew = c.args.crew in
    let k = crew.into.heads in
    let r = c.requires.crew in
    let names = g.J.Naming.names in
    let olds = r.actors in
    let all = c.run_all.new.actors in
    let w = lent crew.actors.len all crew.actors.items (c.run_all.auto.actors ∙ c.as_mut_slice.ensures.len) in
    let x = parted d.job d.mails.items olds c.as_mut_slice.result.now all r.publisher (c.as_mut_slice.ensures.value ∙ r.are) c.run_all.auto.actors c.run_all.ensures.did in
    let news = x.news in
    let end = one_end x.news c.take_publisher-publisher.new.actors.items _ _ (sym (w ∙ x.are) ∙ c.take_publisher-publisher.ensures) in
    let v = sym end.0 in
    let h = halves names d.shared d.ring (service_at d) d.job d.mails.items k.seat k.posts k.takes k.drawer olds news r.armed x.did in
    let e = c.gather_all.ensures in
    let few : length d.mails.items < 2 ^ 64 = search (rules, arith) in
    let v_is = ap (λ (p : PassState). p.view) c.settle.ensures.view ∙ ((λ i. with_takes (e.posts i).view (e.takes i).view) ∙ (λ i. with_takes (puts_all k.posts.view (v i)) (takes_all k.takes.view (v i)))) in
    let w_is = ap (λ (p : DrawerState). p.view) e.drawer ∙ ap (draws_all k.drawer.view) v in
    let both = taken names d.shared d.ring (service_at d) d.job d.mails.items k.seat k.posts k.takes k.drawer olds news h c.settle.new.pass.view c.settle.ensures.told.0 v_is c.settle.ensures.told.1 c.gather_all.new.into.heads.drawer.view c.tell.ensures.told.0 w_is c.tell.ensures.told.1 c.requires.mails few in
    let perm = both.0 in
    let found : c.gather_all.new.into.found.items ≡ all_replies news = e.found ∙ ((λ i. r.none_found i ++ all_replies (v i))) in
    let k_is = ap (λ (p : HostState). p.view) (c.learn.ensures.same ∙ e.seat) ∙ ap (seats_all k.seat.view) v in
    let fetched = subst (λ (p : HostState). length p.view.ended ≡ p.view.made → Fetched p.view) (sym c.learn.ensures.same) c.learn.ensures.fetched in
    let told = subst (λ (p : HostState). IsHistoryOf p.view c.learn.ensures.told.0) (sym c.learn.ensures.same) c.learn.ensures.told.1 in
    let rs : c.of.result ≡ c.put_in_order.new.replies.items = c.of.ensures in
    let named = ap (map reply_name) rs ∙ (c.put_in_order.ensures.names ∙ ap (map (λ (m : Mail). m.name)) c.as_slice.ensures.value) in
    let order = subst (λ (y : List Reply × List Reply). IsPermutation y.0 y.1) (λ i. (found i, sym rs i)) c.put_in_order.ensures.order in
    let n = length d.codes.codes in
    let code : JobCode d.codes.codes d.job = c.requires.code in
    let numbers = ap (λ (s : SwapState). s.view) e.swap ∙ (ap (λ (s : SwapState). swaps_all s.view c.take_publisher-publisher.new.actors.items) r.is_swap ∙ ap (swaps_all (swap_view n d.job.workers [] [])) v) in
    let publisher = sym (same_publisher x.publisher c.take_publisher-publisher.result end.1) ∙ (x.ran ∙ ap (λ (s : PublishState). publish_state s.table (publisher_view s.view.count (s.view.count - 1))) r.is_publisher) in
    let by = all_left (IsDescribedBy m) olds _ (subst (All (IsDescribedBy m)) r.are described) in
    let made : c.of-2.result ≡ takes_of_all news = c.of-2.ensures ∙ (e.made ∙ (λ i. r.no_take i ++ takes_of_all (v i))) in
    served_versions names d.shared d.ring (service_at d) d.job d.mails.items k.seat k.posts k.takes k.drawer olds news h m by perm c.requires.mails c.settle.new.pass.view v_is both.1 c.learn.new.host.view k_is fetched c.learn.ensures.told.0 told c.of.result named order
    n code.as_many c.gather_all.new.into.swap.view numbers e.versions c.take_publisher-publisher.result.view (ap (λ (s : PublishState). s.view) publisher) c.of-2.result made

pub returns-clause-own : goal.returns-clause-own
returns-clause-own g c =
    let a = c.requires.crew.armed in
    let e = c.gather_all.ensures in (
      ap (λ (p : HostState). p.table) (c.learn.ensures.same ∙ e.seat) ∙ ap (λ (p : HostState). p.table) a.host,
      ap (λ (p : PassState). p.queue) c.settle.ensures.view ∙ (ap (λ (p : PassState). p.queue) e.posts ∙ ap (λ (p : PassState). p.queue) a.post_head),
    )

pub returns-clause-versions_own : goal.returns-clause-versions_own
returns-clause-versions_own g c =
    let d = c.args.desk.now in
    let crew = c.args.crew in
    let k = crew.into.heads in
    let r = c.requires.crew in
    let names = g.J.Naming.names in
    let olds = r.actors in
    let all = c.run_all.new.actors in
    let w = lent crew.actors.len all crew.actors.items (c.run_all.auto.actors ∙ c.as_mut_slice.ensures.len) in
    let x = parted d.job d.mails.items olds c.as_mut_slice.result.now all r.publisher (c.as_mut_slice.ensures.value ∙ r.are) c.run_all.auto.actors c.run_all.ensures.did in
    let end = one_end x.news c.take_publisher-publisher.new.actors.items _ _ (sym (w ∙ x.are) ∙ c.take_publisher-publisher.ensures) in
    let publisher = sym (same_publisher x.publisher c.take_publisher-publisher.result end.1) ∙ (x.ran ∙ ap (λ (s : PublishState). publish_state s.table (publisher_view s.view.count (s.view.count - 1))) r.is_publisher) in (
      ap (λ (s : SwapState). s.table) c.gather_all.ensures.swap ∙ ap (λ (s : SwapState). s.table) r.is_swap,
      ap (λ (s : PublishState). s.table) publisher,
    )

pub returns-clause-memory : goal.returns-clause-memory
returns-clause-memory g c =
    let d = c.args.desk.now in
    let crew = c.args.crew in
    let all = c.run_all.new.actors in
    let news = c.take_publisher-publisher.new.actors.items in
    let w = lent crew.actors.len all crew.actors.items (c.run_all.auto.actors ∙ c.as_mut_slice.ensures.len) in
    let found : c.gather_all.new.into.found.items ≡ all_replies news = c.gather_all.ensures.found ∙ ap (λ (l : List Reply). l ++ all_replies news) c.requires.crew.none_found in
    subst (All (IsInRoom d.codes.codes d.job)) (sym c.of.ensures)
    (put (IsInRoom d.codes.codes d.job) all news (kind.Publisher c.take_publisher-publisher.result) (length c.as_mut_slice.result.now) c.gather_all.new.into.found.items c.put_in_order.new.replies.items c.run_all.auto.actors c.run_all.ensures.memory (sym w ∙ c.take_publisher-publisher.ensures) found c.put_in_order.ensures.order)

pub returns-clause-take_memory : goal.returns-clause-take_memory
returns-clause-take_memory g c ns rooms =
    let d = c.args.desk.now in
    let crew = c.args.crew in
    let all = c.run_all.new.actors in
    let olds = c.as_mut_slice.result.now in
    let news = c.take_publisher-publisher.new.actors.items in
    let frames = first_frames d.codes.codes in
    let w = lent crew.actors.len all crew.actors.items (c.run_all.auto.actors ∙ c.as_mut_slice.ensures.len) in
    let have = subst (All (HasTakeRooms frames ns d.job)) (sym c.as_mut_slice.ensures.value) rooms in
    let made : c.of-2.result ≡ takes_of_all news = c.of-2.ensures ∙ (c.gather_all.ensures.made ∙ ap (λ (l : List Take). l ++ takes_of_all news) c.requires.crew.no_take) in
    made_in_rooms frames ns d.job d.mails.items olds all news (kind.Publisher c.take_publisher-publisher.result) c.of-2.result c.run_all.auto.actors c.run_all.ensures.did c.run_all.ensures.take_memory have
    (sym w ∙ c.take_publisher-publisher.ensures) made
