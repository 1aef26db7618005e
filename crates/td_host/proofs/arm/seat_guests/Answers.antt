use Rattle.std.proofs.Common.{rules, ◌≡◌, ◌+◌, ◌<◌, List, Some, length, refl, sym, ap, ◌∙◌, subst, arith}
use Rattle.std.specs.Prelude.{slice_index_or}
use Rattle.std.specs.List.{All}
use Rattle.td_posts.specs.declared.job.Step.{Step}
use Rattle.td_posts.specs.declared.mail.Mail.{Mail}
use Rattle.td_posts.specs.Posts.{mails_of, all_mails, mail_named}
use Rattle.td_host_actors.specs.Acting.{RoomsFor, StoresInside}
use Rattle.td_posts.proofs.Unique.{each_first}
use Rattle.td_host.proofs.Arms.{of_guest, no_guest, one_guest, all_guests}
use Rattle.td_host.proofs.arm.seat_guests.Goals as goal

pub loop-gate-init : goal.loop-gate-init
loop-gate-init g c =
    let a = c.args in
    let k = a.heads.now in
    let r = c.requires in
    let same : c.into_iter-gate-iterator.result.rest.items ≡ a.gates.items = search rules in
    record {
      seating = no_guest g.J.Naming.names a.desk.now.shared a.desk.now.ring a.desk.now.job a.actors.now.items k.seat k.posts a.actors.now.items refl r.seat r.posts;
      counted = let e = ap length same ∙ r.gates in omega arith;
      takes = refl;
      drawer = refl;
    }

pub script_and_rooms-requires-clause-first : goal.script_and_rooms-requires-clause-first
script_and_rooms-requires-clause-first g c =
    let a = c.args in
    let l = c.loop-gate in
    let n = l.n in
    let guests : List (List Step) = a.desk.now.job.guests in
    let P : Mail → Type 0 = λ (m : Mail). mail_named m.name (all_mails 1 guests) ≡ Some m in
    let d : List Step = c.index-as_slice-n.result in
    let e = ap length c.in-Some.ensures.steps.0 in
    let f = l.invariant.counted in
    let lt : n < length guests = omega arith in
    let is : slice_index_or guests n d ≡ c.as_slice-script.result.now = search rules in
    let one : 1 + n ≡ n + 1 = omega arith in
    subst (All P) (λ i. mails_of (one i) (is i)) (of_guest P 1 guests n d lt (each_first guests))

pub loop-gate-preserved : goal.loop-gate-preserved
loop-gate-preserved g c =
    let a = c.args in
    let l = c.loop-gate in
    let n = l.n in
    let i = l.invariant in
    let names = g.J.Naming.names in
    let guests : List (List Step) = a.desk.now.job.guests in
    let d : List Step = c.index-as_slice-n.result in
    let e = ap length c.in-Some.ensures.steps.0 in
    let f = i.counted in
    let lt : n < length guests = omega arith in
    let is : slice_index_or guests n d ≡ c.as_slice-script.result.now = search rules in
    record {
      seating = one_guest names a.desk.now.shared a.desk.now.ring a.desk.now.job a.actors.now.items n d l.heads.seat c.split_guest.new.host l.heads.posts c.split_post.new.pass l.actors.items c.push.new.self.items
          (record { number = n + 1; script = c.in_ok-copy.copy; seat = c.split_guest.result; pass = c.split_post.result; rooms = c.in_ok-copy.rooms; gate = c.in-Some.gate })
          i.seating lt refl (c.in_ok-copy.ensures.script ∙ sym is) c.split_guest.ensures.host c.split_guest.ensures.seat c.split_post.ensures.kept c.split_post.ensures.given
          (subst (λ k. StoresInside k (slice_index_or guests n d)) (sym c.requires.count) (c.requires.bounded.stays n d lt)) (c.requires.bounded.short n d lt)
          (subst (λ s. RoomsFor names (mails_of (n + 1) s) c.in_ok-copy.rooms.items) (sym is) c.in_ok-copy.ensures.rooms) c.in_ok-push.ensures.items;
      counted = omega arith;
      takes = i.takes;
      drawer = i.drawer;
    }

pub returns-clause-seated : goal.returns-clause-seated
returns-clause-seated g c =
    let a = c.args in
    let l = c.loop-gate in
    let e : length l.gate-iterator.rest.items ≡ 0 = sym l.gate-iterator.rest.ok.0 ∙ c.in-None.ensures.steps.0 in
    let f = l.invariant.counted in
    all_guests g.J.Naming.names a.desk.now.shared a.desk.now.ring a.desk.now.job a.actors.now.items l.n l.heads.seat l.heads.posts l.actors.items l.invariant.seating (let z : length a.desk.now.job.guests ≡ l.n = omega arith in z)
