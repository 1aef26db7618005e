use Rattle.std.proofs.Common.{sym, ◌∙◌, arith}
use Rattle.td_posts.specs.declared.mail.Mail.{Mail}
use Rattle.td_host_actors.proofs.Posting.{ends_by}
use Rattle.td_host_actors.proofs.worker.at_word.Goals as goal

pub words-requires : goal.words-requires
words-requires c =
    let m : Mail = c.args.mail.now in
    let ends = ends_by c.args.shared.now.count m.base m.length m.layout (sym c.is_some.ensures ∙ c.if-is_some.false) c.requires in
    omega (arith, ends, c.count-words.ensures, c.count-words.type_inv)
