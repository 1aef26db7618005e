use Rattle.std.proofs.Common.{◌<◌, ◌^◌, List, length, sym, ap, ◌∙◌, subst, arith}
use Rattle.std.specs.List.{All}
use Rattle.td_posts.specs.declared.job.Step.{Step}
use Rattle.td_posts.specs.Posts.{all_mails}
use Rattle.td_host.specs.Gathered.{host_at}
use Rattle.td_host.proofs.Bounds.{bounded}
use Rattle.td_host.proofs.desk.open_for.Goals as goal

pub mails_of_all-requires-clause-short : goal.mails_of_all-requires-clause-short
mails_of_all-requires-clause-short g c = subst (All (λ (s : List Step). length s < 2 ^ 32)) (sym c.as_slice.ensures) (bounded c.args.job.now c.requires).short

pub returns-clause-mails : goal.returns-clause-mails
returns-clause-mails g c = c.in_ok-mails.ensures ∙ ap (all_mails 1) c.as_slice.ensures

pub returns-clause-count : goal.returns-clause-count
returns-clause-count g c = c.in_ok-opened.ensures.count ∙ ap length c.as_slice-2.ensures

pub returns-clause-ring_room : goal.returns-clause-ring_room
returns-clause-ring_room g c = omega (arith, c.in_ok-opened.ensures.room, c.max-room.ensures, c.len.ensures)

pub returns-clause-seat : goal.returns-clause-seat
returns-clause-seat g c = c.in_ok-opened.ensures.seat ∙ ap (λ w. host_at c.in_ok-opened.opened.shared.table w 0) c.as_slice-2.ensures
