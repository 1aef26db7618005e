-- What a statement does, apart from what follows it, and how the core action of a block is made of these.
use Rattle.std.specs.Prelude.{cond, nat_le, List, [], ◌∷◌}
use Rattle.td_ast.specs.declared.actions.Assigned.{Assigned}
use Rattle.td_ast.specs.declared.actions.Assigned.TheVariants.{Value, FieldPtr}
use Rattle.td_ast.specs.Statements.{Statement, Store, StoreField, Var, If, IfElse, Return, Abort, Statements, End, More}
use Rattle.td_core.specs.Term.{Deed, done, set, keep, fork, answer, give_up}
use Rattle.td_core.specs.Types.{bits, type_of}
use Rattle.td_core.specs.Formed.{scalar_of}
use Rattle.td_elab_rules.specs.declared.actions.Target.{Target}
use Rattle.td_elab_rules.specs.declared.actions.Target.TheVariants as target
use Rattle.td_elab_rules.specs.declared.known.Known.{Known}
use Rattle.td_elab_rules.specs.declared.known.Scope.{Scope}
use Rattle.td_elab_rules.specs.Sorts.{core_of, start_core}
use Rattle.td_elab_rules.specs.Actions.{stored_cell, stored_slot, scope_after, block_core}
use Rattle.td_elab_actions.specs.declared.pieces.Piece.{Piece}
use Rattle.td_elab_actions.specs.declared.pieces.Piece.TheVariants as piece

-- what is stored
abbrev pub set_piece : Known → Scope → Target → Assigned → Piece
set_piece k s target.Unknown rhs = piece.Nothing
set_piece k s target.NoCell rhs = piece.Nothing
set_piece k s (target.Number c t) (Value e) = cond (nat_le (bits (type_of (core_of k s e))) (bits (scalar_of t.width))) (piece.Set c (core_of k s e)) piece.Nothing
set_piece k s (target.Number c t) (FieldPtr at) = piece.Nothing
set_piece k s (target.Pointer c) (Value e) = piece.Nothing
set_piece k s (target.Pointer c) (FieldPtr at) = piece.Set c (start_core s.start)

-- what is read
abbrev pub read_piece : Target → Piece
read_piece target.Unknown = piece.Nothing
read_piece target.NoCell = piece.Nothing
read_piece (target.Number c t) = piece.Read c
read_piece (target.Pointer c) = piece.Read c

abbrev pub piece_of : Known → Scope → Statement → Piece
piece_of k s (Store at p rhs) = set_piece k s (stored_cell k s p) rhs
piece_of k s (StoreField at p f rhs) = set_piece k s (stored_slot k s p f) rhs
piece_of k s (Var at x star p) = read_piece (stored_cell k s p)
piece_of k s (If at e one) = piece.If (core_of k s e) (block_core k s one) done
piece_of k s (IfElse at e one other) = piece.If (core_of k s e) (block_core k s one) (block_core k s other)
piece_of k s (Return at e) = piece.Return (core_of k s e)
piece_of k s (Abort at) = piece.Abort

-- those of a block, each in the scope in which its statement stands
abbrev pub pieces_of : Known → Scope → Statements → List Piece
pieces_of k s End = []
pieces_of k s (More x rest) = piece_of k s x ∷ pieces_of k (scope_after k s x) rest

-- the scope after the statements of a block
abbrev pub block_scope : Known → Scope → Statements → Scope
block_scope k s End = s
block_scope k s (More x rest) = block_scope k (scope_after k s x) rest

-- a piece, and what follows it
abbrev pub followed : Piece → Deed → Deed
followed piece.Nothing rest = rest
followed (piece.Set c e) rest = set c e rest
followed (piece.Read c) rest = keep c rest
followed (piece.If e one other) rest = fork e one other rest
followed (piece.Return e) rest = answer e
followed piece.Abort rest = give_up

-- one after the other, before what follows them
abbrev pub onto : List Piece → Deed → Deed
onto [] rest = rest
onto (p ∷ ps) rest = followed p (onto ps rest)

abbrev pub chained : List Piece → Deed
chained ps = onto ps done
