use Rattle.std.proofs.Common.{ℕ, List, ◌++◌, ap, ◌∙◌}
use Rattle.td_prog_text.specs.Files.{header}
use Rattle.td_prog_emit.proofs.files.c_header.Goals as goal

pub returns : goal.returns
returns c =
    (c.in_ok-push_header.ensures {u = tt}).on_ok
    ∙ ap (λ (l : List ℕ). l ++ header c.args.prefix.now c.parts_of.result.now) c.new-out.ensures.items
    ∙ ap (header c.args.prefix.now) c.parts_of.ensures.same
