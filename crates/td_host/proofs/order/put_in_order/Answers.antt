use Rattle.std.proofs.Common.{◌≡◌, ◌+◌, ◌<◌, List, ◌∷◌, drop, false, length, sym, ap, ◌∙◌, subst, arith}
use Rattle.std.specs.Prelude.{slice_index_or}
use Rattle.std.specs.List.{All}
use Rattle.std.proofs.lemmas.List.{drop_more}
use Rattle.td_posts.specs.declared.mail.Mail.{Mail}
use Rattle.td_posts.specs.declared.reply.Reply.{Reply}
use Rattle.td_posts.specs.Posts.{same_name, reply_name}
use Rattle.td_host.proofs.Orders.{Ordering, begins, counted, some_left, orders, ends}
use Rattle.td_host.proofs.order.put_in_order.Goals as goal

pub loop-mail-init : goal.loop-mail-init
loop-mail-init c =
    let mails : List Mail = c.args.mails.now in
    let found : List Reply = c.args.found.items in
    let left : List Reply = c.sort_unstable_by.new.self.items in
    record {
      ordering = subst (λ (l : List Reply). Ordering mails found 0 l left) (sym c.requires.empty) (begins mails found left c.requires.each c.sort_unstable_by.ensures.permutation);
      room = c.requires.room;
    }

pub push_reserved-requires : goal.push_reserved-requires
push_reserved-requires c =
    let l = c.loop-mail in
    let n = counted c.args.mails.now c.args.found.items l.mail-index l.replies.items l.left.items l.invariant.ordering (omega (arith, c.loop-mail-test.true)) in
    omega (arith, n, l.replies.ok.0, l.invariant.room, c.loop-mail-test.true)

pub unreachable-requires : goal.unreachable-requires
unreachable-requires c =
    let n = c.loop-mail.mail-index in
    let mails : List Mail = c.args.mails.now in
    let m : Mail = c.mail-item.result in
    let e : drop n mails ≡ m ∷ drop (n + 1) mails = drop_more mails n m c.loop-mail-test.true ∙ ap (λ (x : Mail). x ∷ drop (n + 1) mails) (sym c.mail-item.is) in
    let other : All (λ (r : Reply). same_name (reply_name r) m.name ≡ false) c.loop-mail.left.items = subst (All (λ (r : Reply). same_name (reply_name r) m.name ≡ false)) c.as_slice.ensures.value c.in_default.ensures in
    some_left mails c.args.found.items n c.loop-mail.replies.items c.loop-mail.left.items m (drop (n + 1) mails) c.loop-mail.invariant.ordering e other

pub loop-mail-preserved : goal.loop-mail-preserved
loop-mail-preserved c =
    let n = c.loop-mail.mail-index in
    let mails : List Mail = c.args.mails.now in
    let m : Mail = slice_index_or mails n c.mail-item.result in
    let e = c.in-Some.ensures in
    let x = c.swap_remove.result in
    let left : List Reply = c.loop-mail.left.items in
    let below : c.in-Some.place < length left = subst (λ (l : List Reply). c.in-Some.place < length l) c.as_slice.ensures.value e.0 in
    let same : reply_name (slice_index_or left c.in-Some.place x) ≡ m.name = subst (λ (l : List Reply). reply_name (slice_index_or l c.in-Some.place x) ≡ c.mail-item.result.name) c.as_slice.ensures.value (e.1 x) ∙ ap (λ (y : Mail). y.name) c.mail-item.is in
    record {
      ordering = orders mails c.args.found.items n c.loop-mail.replies.items left c.mail-item.result c.in-Some.place x c.push_reserved.new.self.items c.swap_remove.new.self.items c.loop-mail.invariant.ordering c.loop-mail-test.true
          below c.swap_remove.ensures.value (ap reply_name c.swap_remove.ensures.value ∙ same) c.swap_remove.ensures.items c.push_reserved.ensures.items;
      room = omega (arith, c.loop-mail.invariant.room, c.push_reserved.ensures.capacity);
    }

pub returns-clause-order : goal.returns-clause-order
returns-clause-order c = (ends c.args.mails.now c.args.found.items c.loop-mail.mail-index c.loop-mail.replies.items c.loop-mail.left.items c.loop-mail.invariant.ordering (omega (arith, c.loop-mail-test.false))).1

pub returns-clause-names : goal.returns-clause-names
returns-clause-names c = (ends c.args.mails.now c.args.found.items c.loop-mail.mail-index c.loop-mail.replies.items c.loop-mail.left.items c.loop-mail.invariant.ordering (omega (arith, c.loop-mail-test.false))).0
