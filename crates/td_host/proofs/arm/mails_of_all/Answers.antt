use Rattle.std.proofs.Common.{rules, ◌≡◌, ◌+◌, List, ◌++◌, sym, ap, ◌∙◌, arith}
use Rattle.std.specs.Prelude.{slice_index_or}
use Rattle.td_posts.specs.declared.job.Step.{Step}
use Rattle.td_posts.specs.Posts.{mails_of}
use Rattle.td_host.proofs.Arms.{all_more, all_over}
use Rattle.td_host.proofs.arm.mails_of_all.Goals as goal

pub loop-i-preserved : goal.loop-i-preserved
loop-i-preserved c =
    let g = c.args.guests.now in
    let i = c.loop-i.i in
    let d : List Step = c.index-guests-i.result in
    let is : slice_index_or g i d ≡ d = search rules in
    let e = c.in_ok-add_mails.ensures ∙ ap (λ s. c.loop-i.mails.items ++ mails_of (i + 1) s) (c.as_slice.ensures ∙ sym is) in
    all_more g i d c.loop-i.mails.items c.add_mails.new.mails.items c.loop-i-test.true c.loop-i.invariant e

pub returns : goal.returns
returns c = all_over c.args.guests.now c.loop-i.i c.loop-i.mails.items (omega (arith, c.loop-i-test.false)) c.loop-i.invariant
