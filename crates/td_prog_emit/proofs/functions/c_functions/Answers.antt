use Rattle.td_prog_emit.proofs.functions.c_functions.Goals as goal
use Rattle.std.proofs.Common.{ℕ, List, ◌++◌, ap, ◌∙◌}
use Rattle.td_ir.specs.declared.tables.Parts.{Parts}
use Rattle.td_prog_code.specs.Program.{program}
use Rattle.td_prog_text.specs.Expressions.{text}
use Rattle.td_prog_text.specs.Functions as texts
use Rattle.td_prog_text.specs.Names.{routine_name}

pub returns : goal.returns
returns c =
    (c.in_ok-push_functions.ensures {u = tt}).on_ok
    ∙ ap (λ (l : List ℕ). l ++ text (texts.functions c.parts_of.result.now.names (program c.parts_of.result.now (routine_name c.parts_of.result.now)))) c.new-out.ensures.items
    ∙ ap (λ (p : Parts). text (texts.functions p.names (program p (routine_name p)))) c.parts_of.ensures.same
