-- The first post of a name, in a list that is gone through.
use Rattle.std.proofs.Common.{◌≡◌, true, false, cond, List, [], ◌∷◌, ap, ◌∙◌, Some, None}
use Rattle.td_posts.specs.declared.name.PostName.{PostName}
use Rattle.td_posts.specs.declared.mail.Mail.{Mail}
use Rattle.td_posts.specs.Posts.{mail_named, same_name}

pub named_over : (name : PostName) (l : List Mail) → l ≡ [] → mail_named name l ≡ None
unfolding mail_named
named_over name l e = ap (mail_named name) e

pub named_here : (name : PostName) (l rest : List Mail) (m : Mail) → l ≡ m ∷ rest → same_name m.name name ≡ true → mail_named name l ≡ Some m
unfolding mail_named
named_here name l rest m e t = ap (mail_named name) e ∙ ap (λ b. cond b (Some m) (mail_named name rest)) t

pub named_later : (name : PostName) (l rest : List Mail) (m : Mail) → l ≡ m ∷ rest → same_name m.name name ≡ false → mail_named name l ≡ mail_named name rest
unfolding mail_named
named_later name l rest m e t = ap (mail_named name) e ∙ ap (λ b. cond b (Some m) (mail_named name rest)) t
