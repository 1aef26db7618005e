use Rattle.std.proofs.Common.{rules, ◌≡◌, ◌+◌, List, [], ◌∷◌, ◌++◌, drop, ap, ◌∙◌, arith}
use Rattle.std.proofs.lemmas.List.{drop_all}
use Rattle.td_posts.specs.declared.job.Step.{Step}
use Rattle.td_posts.specs.declared.job.Step.TheVariants as step
use Rattle.td_posts.specs.declared.mail.Mail.{Mail}
use Rattle.td_host_actors.proofs.Posting.{from_here}
use Rattle.td_host.proofs.Arms.{lists_store, lists_post, lists_all}
use Rattle.td_host.proofs.arm.add_mails.Goals.{in-Store, in-Post+in_ok-push-in-Post, in-Scatter+in_ok-push-in-Scatter}
use Rattle.td_host.proofs.arm.add_mails.Goals as goal

pub loop-step-preserved : goal.loop-step-preserved
loop-step-preserved c =
    let a = c.args in
    let l = c.loop-step in
    let n = l.step-index in
    let script : List Step = a.script.now in
    let rest = drop (n + 1) script in
    let e : drop n script ≡ c.step-item.result ∷ rest = from_here script n c.step-item.result c.loop-step-test.true c.step-item.is in
    elim c.match-step.branch [
      | in-Store w ↦ (
          let f : drop n script ≡ step.Store w.in-Store.word w.in-Store.value ∷ rest = e ∙ ap (λ (s : Step). s ∷ rest) w.in-Store.is in
          search (rules, w, lists_store a.guest script a.mails.now.items l.mails.items (drop n script) rest l.number l.made l.invariant w.in-Store.word w.in-Store.value f))
      | in-Post+in_ok-push-in-Post w ↦ (
          let s : Step = step.Post w.in-Post.base w.in-Post.length in
          let f : drop n script ≡ s ∷ rest = e ∙ ap (λ (x : Step). x ∷ rest) w.in-Post.is in
          search (rules, w, lists_post a.guest script a.mails.now.items l.mails.items (drop n script) rest l.number l.made l.invariant s w.push.new.self.items tt f w.in_ok-push-in-Post.ensures.items))
      | in-Scatter+in_ok-push-in-Scatter w ↦ (
          let s : Step = step.Scatter w.in-Scatter.layout in
          let f : drop n script ≡ s ∷ rest = e ∙ ap (λ (x : Step). x ∷ rest) w.in-Scatter.is in
          search (rules, w, lists_post a.guest script a.mails.now.items l.mails.items (drop n script) rest l.number l.made l.invariant s w.push-in-Scatter.new.self.items tt f (w.in_ok-push-in-Scatter.ensures.items ∙ ap (λ (m : Mail). l.mails.items ++ m ∷ []) w.scattered.ensures)))
    ]

pub returns : goal.returns
returns c =
    let a = c.args in
    let l = c.loop-step in
    let n = l.step-index in
    lists_all a.guest a.script.now a.mails.now.items l.mails.items (drop n a.script.now) a.script.now l.number l.made l.invariant (drop_all n a.script.now (omega (arith, c.loop-step-test.false)))
