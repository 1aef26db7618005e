use Rattle.td_prog_emit.proofs.calls.push_name_of.Goals as goal
use Rattle.std.proofs.Common.{map, ap, ◌∙◌}
use Rattle.std.proofs.lemmas.List.{map-append}
use Rattle.td_prog_emit.proofs.Texts.{joined, as_one}
use Rattle.td_prog_text.specs.Names.{undotted_byte}

pub returns : goal.returns
returns c =
    as_one (joined (c.in_ok-push_undotted.ensures {u = tt}) (joined (c.in_ok-push_undotted-2.ensures {u = tt}) c.push_undotted-3.ensures))
    (ap (map undotted_byte) c.name_at-pieces.ensures ∙ simp map-append)
