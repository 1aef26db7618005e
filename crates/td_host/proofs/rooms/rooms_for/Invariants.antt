use Rattle.std.proofs.Common.{◌≡◌, drop, Some}
use Rattle.td_posts.specs.declared.mail.Mail.{Mail}
use Rattle.td_posts.specs.Posts.{all_mails, mail_named}
use Rattle.td_host.proofs.Arms.{Rooming}
use Rattle.td_host.proofs.rooms.rooms_for.Given as goal

abbrev pub invariant-loop-step : goal.invariant-loop-step
invariant-loop-step g l =
    Rooming g.J.Naming.names (λ (m : Mail). mail_named m.name (all_mails 1 l.job.guests) ≡ Some m) l.guest l.script l.rooms.items (drop l.step-index l.script) l.number
