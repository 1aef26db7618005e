use Rattle.std.proofs.Common.{arith}
use Rattle.td_print_layout.specs.Definitions.{case_lines}
use Rattle.td_print.proofs.Texts.{texts, text_more}
use Rattle.td_print.proofs.definitions.write_cases.Goals as goal

pub loop-case_tree-preserved : goal.loop-case_tree-preserved
loop-case_tree-preserved c =
    let more = text_more case_lines c.args.cases.now c.loop-case_tree.case_tree-index c.case_tree-item.result (omega arith) c.case_tree-item.is in
    grind (arith, texts, more)
