use Rattle.std.proofs.Common.{ℕ, List, ◌++◌, ap, ◌∙◌}
use Rattle.td_prog_text.specs.Parts.{parts_file}
use Rattle.td_prog_emit.proofs.files.parts_source.Goals as goal

pub returns : goal.returns
returns c =
    (c.in_ok-push_parts_source.ensures {u = tt}).on_ok
    ∙ ap (λ (l : List ℕ). l ++ parts_file c.args.prefix.now c.parts_of.result.now) c.new-out.ensures.items
    ∙ ap (parts_file c.args.prefix.now) c.parts_of.ensures.same
