use Rattle.std.proofs.Common.{arith, ◌++◌, flat_map, ap, ◌∙◌}
use Rattle.td_ast.proofs.Sizes.{statement_below}
use Rattle.td_front_flat.specs.Uses.{statement_uses}
use Rattle.td_front_flat.proofs.Blocks.{block_flat}
use Rattle.td_front_flat.proofs.uses.+block.Goals as goal

pub add_statements-add_statement-requires : goal.add_statements-add_statement-requires
add_statements-add_statement-requires t c =
    let small = statement_below c.args.statements.now c.loop-statement.statement-index c.statement-item.result (omega arith) c.statement-item.is in
    (omega arith, tt)

pub add_block-returns : goal.add_block-returns
add_block-returns t c = c.in_ok-add_statements.ensures ∙ ap (λ us. c.args.uses.now ++ us) (ap (λ xs. flat_map statement_uses xs) c.as_slice.ensures ∙ block_flat c.args.block.now)
