use Rattle.std.proofs.Common.{[], ◌∷◌, ◌++◌, codes}
use Rattle.td_ast.specs.declared.token.TokenKind.TheVariants as kinds
use Rattle.td_print_layout.specs.Pieces.{Word, text_of}
use Rattle.td_print_layout.specs.Sequences.{comma}
use Rattle.td_print_layout.specs.Expressions.{expression_pieces}
use Rattle.td_print.proofs.Wholes.{four, range_text}
use Rattle.td_print.proofs.expressions.+expression.Goals as goal

pub write_range-returns : goal.write_range-returns
write_range-returns t c =
    let size = expression_pieces c.args.size.now in
    let offset = expression_pieces c.args.offset.now in
    let access = expression_pieces c.args.access.now in
    four c.args.out.now (codes "is_range_okay(" ++ text_of size) (codes ", " ++ text_of offset) (codes ", " ++ text_of access) (codes ")")
    (text_of (Word kinds.IsRangeOkay ∷ Word kinds.OpenParen ∷ (size ++ (comma ++ (offset ++ (comma ++ (access ++ Word kinds.CloseParen ∷ []))))))) _ _ _ _
    (c.in_ok-write_next.ensures {u = tt}) (c.in_ok-write_next-2.ensures {u = tt}) (c.in_ok-write_next-3.ensures {u = tt}) (c.in_ok-write.ensures {u = tt})
    (range_text size offset access)
