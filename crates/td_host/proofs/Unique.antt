-- The replies of a job are to its posts, one to each, as these have distinct names.
use Rattle.std.proofs.Common.{◌≡◌, List, [], ◌∷◌, length, map, Some, sym, ap, ◌∙◌, subst, arith}
use Rattle.std.specs.List.{All}
use Rattle.std.proofs.lemmas.List.Elements.{All-head, All-tail}
use Rattle.td_posts.specs.declared.name.PostName.{PostName}
use Rattle.td_posts.specs.declared.mail.Mail.{Mail}
use Rattle.td_posts.specs.declared.reply.Reply.{Reply}
use Rattle.td_posts.specs.declared.job.HostJob.{HostJob}
use Rattle.td_posts.specs.Posts.{all_mails, mail_named, reply_name}
use Rattle.td_posts.proofs.Unique.{each_first}
use Rattle.td_host_actors.specs.Replies.{IsReplyTo}
use Rattle.td_host.specs.Served.{RepliesTo}
use Rattle.td_host_actors.specs.Acting.{Answered}
use Rattle.td_host_actors.proofs.Named.{some_same}

module _ (job : HostJob) where
  replies_each : (ms : List Mail) (rs : List Reply) → map reply_name rs ≡ map (λ (m : Mail). m.name) ms → All (Answered job) rs → All (λ (m : Mail). mail_named m.name (all_mails 1 job.guests) ≡ Some m) ms → RepliesTo job ms rs
  unfolding RepliesTo
  replies_each [] [] e a f = tt
  replies_each [] (r ∷ rs) e a f = absurd (let l = ap length e in omega arith)
  replies_each (m ∷ ms) [] e a f = absurd (let l = ap length e in omega arith)
  replies_each (m ∷ ms) (r ∷ rs) e a f =
      let P : Mail → Type 0 = λ (x : Mail). mail_named x.name (all_mails 1 job.guests) ≡ Some x in
      let h : Answered job r = All-head (Answered job) r rs a in
      let name : reply_name r ≡ m.name = ap (head_name (reply_name r)) e in
      let same : h.mail ≡ m = some_same h.mail m (sym h.is ∙ (ap (λ n. mail_named n (all_mails 1 job.guests)) name ∙ All-head P m ms f)) in (
        subst (λ x. IsReplyTo job x r) same h.reply,
        replies_each ms rs (ap tail_names e) (All-tail (Answered job) r rs a) (All-tail P m ms f),
      )
    where
      head_name : PostName → List PostName → PostName
      head_name d [] = d
      head_name d (n ∷ ns) = n

      tail_names : List PostName → List PostName
      tail_names [] = []
      tail_names (n ∷ ns) = ns

  pub replies_to : (rs : List Reply) → map reply_name rs ≡ map (λ (m : Mail). m.name) (all_mails 1 job.guests) → All (Answered job) rs → RepliesTo job (all_mails 1 job.guests) rs
  replies_to rs e a = replies_each (all_mails 1 job.guests) rs e a (each_first job.guests)
