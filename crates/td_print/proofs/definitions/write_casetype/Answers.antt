use Rattle.std.proofs.Common.{[], ◌∷◌, ◌++◌, codes}
use Rattle.td_ast.specs.declared.token.TokenKind.TheVariants as kinds
use Rattle.td_print_layout.specs.Pieces.{Word, Blank, LineEnd, text_of}
use Rattle.td_print_layout.specs.Sequences.{name_piece}
use Rattle.td_print_layout.specs.Parameters.{head_pieces}
use Rattle.td_print_layout.specs.Definitions.{cases_lines, casetype_pieces, closing_pieces, entry_pieces}
use Rattle.td_print.proofs.Wholes.{casetype_text, five}
use Rattle.td_print.proofs.definitions.write_casetype.Goals as goal

pub returns : goal.returns
returns c =
    let t = c.args.tree.now in
    five c.args.out.now (text_of (entry_pieces t.entry)) (codes "casetype ") (text_of (name_piece t.tag ∷ (head_pieces t.head ++ Blank ∷ Word kinds.OpenBrace ∷ LineEnd ∷ [])))
    (text_of (cases_lines t)) (text_of (closing_pieces t.name)) (text_of (casetype_pieces t)) _ _ _ _ _
    (c.in_ok-write_entry.ensures {u = tt}) (c.in_ok-write.ensures {u = tt}) (c.in_ok-write_opening.ensures {u = tt}) (c.in_ok-write_switch.ensures {u = tt}) (c.in_ok-write_closing.ensures {u = tt})
    (casetype_text t)
