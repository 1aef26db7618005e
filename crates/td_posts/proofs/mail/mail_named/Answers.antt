use Rattle.std.proofs.Common.{rules, ◌≡◌, List, [], ◌∷◌, ◌+◌, drop, ◌∙◌, arith, true, false, sym, ap}
use Rattle.std.proofs.lemmas.List.{drop_more, drop_all}
use Rattle.td_posts.specs.declared.mail.Mail.{Mail}
use Rattle.td_posts.specs.Posts.{same_name}
use Rattle.td_posts.proofs.Named.{named_over, named_here, named_later}
use Rattle.td_posts.proofs.mail.mail_named.Goals as goal

pub returns-then-has_name : goal.returns-then-has_name
returns-then-has_name c =
    let n = c.loop-mail.mail-index in
    let mails : List Mail = c.args.mails.now in
    let m : Mail = c.mail-item.result in
    let e : drop n mails ≡ m ∷ drop (n + 1) mails = drop_more mails n m c.loop-mail-test.true ∙ ap (λ (x : Mail). x ∷ drop (n + 1) mails) (sym c.mail-item.is) in
    let t : same_name m.name c.args.name ≡ true = search rules in
    c.loop-mail.invariant ∙ named_here c.args.name (drop n mails) (drop (n + 1) mails) m e t

pub loop-mail-preserved : goal.loop-mail-preserved
loop-mail-preserved c =
    let n = c.loop-mail.mail-index in
    let mails : List Mail = c.args.mails.now in
    let m : Mail = c.mail-item.result in
    let e : drop n mails ≡ m ∷ drop (n + 1) mails = drop_more mails n m c.loop-mail-test.true ∙ ap (λ (x : Mail). x ∷ drop (n + 1) mails) (sym c.mail-item.is) in
    let t : same_name m.name c.args.name ≡ false = search rules in
    c.loop-mail.invariant ∙ named_later c.args.name (drop n mails) (drop (n + 1) mails) m e t

pub returns : goal.returns
returns c =
    let n = c.loop-mail.mail-index in
    let mails : List Mail = c.args.mails.now in
    let e : drop n mails ≡ [] = drop_all n mails (omega (arith, c.loop-mail-test.false)) in
    c.loop-mail.invariant ∙ named_over c.args.name (drop n mails) e
