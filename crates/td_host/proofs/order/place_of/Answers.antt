use Rattle.std.proofs.Common.{rules, ◌≡◌, false, subst, arith}
use Rattle.std.specs.List.{All}
use Rattle.std.proofs.lemmas.List.{take_all}
use Rattle.std.proofs.lemmas.List.Elements.{All-more}
use Rattle.td_posts.specs.declared.reply.Reply.{Reply}
use Rattle.td_posts.specs.Posts.{same_name, reply_name}
use Rattle.td_host.proofs.order.place_of.Goals as goal

pub loop-i-preserved : goal.loop-i-preserved
loop-i-preserved c =
    let P : Reply → Type 0 = λ (r : Reply). same_name (reply_name r) c.args.name ≡ false in
    let one : P c.index-replies-i.result = search rules in
    All-more P c.args.replies.now c.loop-i.i c.index-replies-i.result c.loop-i-test.true c.loop-i.invariant (search (rules, one))

pub returns : goal.returns
returns c = subst (All (λ (r : Reply). same_name (reply_name r) c.args.name ≡ false)) (take_all c.loop-i.i c.args.replies.now (omega (arith, c.loop-i-test.false))) c.loop-i.invariant
