-- What holds of the posts of a job.
use Rattle.std.specs.Prelude.{◌≡◌, List, Some}
use Rattle.std.specs.List.{All}
use Rattle.td_posts.specs.declared.job.Step.{Step}
use Rattle.td_posts.specs.declared.mail.Mail.{Mail}
use Rattle.td_posts.specs.Posts.{all_mails, mail_named}

-- each post is the first of its name
abbrev pub AreNamed : List Mail → Type 0
AreNamed mails = All (λ (m : Mail). mail_named m.name mails ≡ Some m) mails

-- so are the posts of all scripts of a job
abbrev pub EachMailIsNamed : Type 0
EachMailIsNamed = (scripts : List (List Step)) → AreNamed (all_mails 1 scripts)
