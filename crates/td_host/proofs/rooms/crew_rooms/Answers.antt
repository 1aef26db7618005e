use Rattle.std.proofs.Common.{rules, ◌≡◌, ◌*◌, ◌≤◌, List, length, vec_capacity, sym, subst, arith}
use Rattle.std.specs.List.{All}
use Rattle.std.proofs.lemmas.List.Elements.{All-weaker}
use Rattle.td_posts.specs.declared.ring.RingJob.{RingJob}
use Rattle.td_posts.specs.declared.limits.TheConstants.{MOST_RINGS, MOST_TAKES}
use Rattle.td_posts.specs.Servable.{IsRingWithin}
use Rattle.td_host.specs.Hosts.{takes_in}
use Rattle.td_host.proofs.rooms.crew_rooms.Goals as goal

pub reply_rooms-requires-clause-posts : goal.reply_rooms-requires-clause-posts
reply_rooms-requires-clause-posts g c = omega (arith, c.args.desk.now.mails.ok.0, c.requires.posts)

pub takes_for-requires-clause-few : goal.takes_for-requires-clause-few
takes_for-requires-clause-few g c = subst (λ (l : List RingJob). length l ≤ MOST_RINGS) (sym c.as_slice.ensures) c.requires.servable.few_rings

pub takes_for-requires-clause-short : goal.takes_for-requires-clause-short
takes_for-requires-clause-short g c =
    let Short : RingJob → Type 0 = λ r. r.takes ≤ MOST_TAKES in
    subst (All Short) (sym c.as_slice.ensures)
    (All-weaker (IsRingWithin (length c.args.desk.now.job.words)) Short (λ r w. w.few_takes) c.args.desk.now.job.rings c.requires.servable.rings_inside)

pub returns-in-Ok-clause-frames : goal.returns-in-Ok-clause-frames
returns-in-Ok-clause-frames g c = c.in_ok-frames.ensures

pub returns-in-Ok-clause-none_found : goal.returns-in-Ok-clause-none_found
returns-in-Ok-clause-none_found g c = c.in_ok-found.ensures.found.0

pub returns-in-Ok-clause-found_room : goal.returns-in-Ok-clause-found_room
returns-in-Ok-clause-found_room g c =
    let count : c.len.result ≡ length c.args.desk.now.mails.items = search rules in
    subst (λ k. c.args.desk.now.job.workers * k ≤ vec_capacity c.in_ok-found.found) count c.in_ok-found.ensures.found.1

pub returns-in-Ok-clause-no_reply : goal.returns-in-Ok-clause-no_reply
returns-in-Ok-clause-no_reply g c = c.in_ok-found.ensures.replies.0

pub returns-in-Ok-clause-reply_room : goal.returns-in-Ok-clause-reply_room
returns-in-Ok-clause-reply_room g c =
    let mails = c.args.desk.now.mails.ok.0 in
    omega (arith, mails, c.in_ok-found.ensures.replies.1)

pub returns-in-Ok-clause-no_take : goal.returns-in-Ok-clause-no_take
returns-in-Ok-clause-no_take g c = c.in-Ok.ensures.none

pub returns-in-Ok-clause-take_room : goal.returns-in-Ok-clause-take_room
returns-in-Ok-clause-take_room g c = subst (λ (l : List RingJob). takes_in l ≤ vec_capacity c.in-Ok.takes) c.as_slice.ensures c.in-Ok.ensures.room
