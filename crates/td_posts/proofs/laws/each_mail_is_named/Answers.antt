use Rattle.td_posts.proofs.Unique.{each_first}
use Rattle.td_posts.proofs.laws.each_mail_is_named.Goals as goal

pub returns : goal.returns
returns c = each_first
