use Rattle.std.proofs.Common.{◌≡◌, drop}
use Rattle.td_posts.specs.Posts.{mail_named}
use Rattle.td_posts.proofs.mail.mail_named.Given as goal

abbrev pub invariant-loop-mail : goal.invariant-loop-mail
invariant-loop-mail l = mail_named l.name l.mails ≡ mail_named l.name (drop l.mail-index l.mails)
