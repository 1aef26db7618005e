-- The core action of a block is made of its pieces.
use Rattle.std.proofs.Common.{◌≡◌, List, [], ◌∷◌, ◌++◌, Bool, true, false, cond, nat_le, refl, ap, ◌∙◌}
use Rattle.td_ast.specs.declared.actions.Assigned.{Assigned}
use Rattle.td_ast.specs.declared.actions.Assigned.TheVariants.{Value, FieldPtr}
use Rattle.td_ast.specs.Statements.{Statement, Store, StoreField, Var, If, IfElse, Return, Abort, Statements, End, More}
use Rattle.td_core.specs.Term.{Deed}
use Rattle.td_core.specs.Types.{bits, type_of}
use Rattle.td_core.specs.Formed.{scalar_of}
use Rattle.td_elab_rules.specs.declared.actions.Target.{Target}
use Rattle.td_elab_rules.specs.declared.actions.Target.TheVariants as target
use Rattle.td_elab_rules.specs.declared.known.Known.{Known}
use Rattle.td_elab_rules.specs.declared.known.Scope.{Scope}
use Rattle.td_elab_rules.specs.Sorts.{core_of}
use Rattle.td_elab_rules.specs.Actions.{stored_cell, stored_slot, scope_after, set_core, read_core, statement_core, block_core}
use Rattle.td_elab_actions.specs.declared.pieces.Piece.{Piece}
use Rattle.td_elab_actions.specs.declared.pieces.Piece.TheVariants as piece
use Rattle.td_elab_actions.specs.Pieces.{set_piece, read_piece, piece_of, pieces_of, followed, onto, chained}

one_of : (b : Bool) (p : Piece) (rest : Deed) → followed (cond b p piece.Nothing) rest ≡ cond b (followed p rest) rest
one_of true p rest = refl
one_of false p rest = refl

set_follows : (k : Known) (s : Scope) (t : Target) (rhs : Assigned) (rest : Deed) → followed (set_piece k s t rhs) rest ≡ set_core k s t rhs rest
set_follows k s target.Unknown rhs rest = refl
set_follows k s target.NoCell rhs rest = refl
set_follows k s (target.Number c t) (Value e) rest =
    one_of (nat_le (bits (type_of (core_of k s e))) (bits (scalar_of t.width))) (piece.Set c (core_of k s e)) rest
set_follows k s (target.Number c t) (FieldPtr at) rest = refl
set_follows k s (target.Pointer c) (Value e) rest = refl
set_follows k s (target.Pointer c) (FieldPtr at) rest = refl

read_follows : (t : Target) (rest : Deed) → followed (read_piece t) rest ≡ read_core t rest
read_follows target.Unknown rest = refl
read_follows target.NoCell rest = refl
read_follows (target.Number c t) rest = refl
read_follows (target.Pointer c) rest = refl

follows : (k : Known) (s : Scope) (x : Statement) (rest : Deed) → followed (piece_of k s x) rest ≡ statement_core k s x rest
follows k s (Store at p rhs) rest = set_follows k s (stored_cell k s p) rhs rest
follows k s (StoreField at p f rhs) rest = set_follows k s (stored_slot k s p f) rhs rest
follows k s (Var at x star p) rest = read_follows (stored_cell k s p) rest
follows k s (If at e one) rest = refl
follows k s (IfElse at e one other) rest = refl
follows k s (Return at e) rest = refl
follows k s (Abort at) rest = refl

pub chain : (k : Known) (s : Scope) (b : Statements) → chained (pieces_of k s b) ≡ block_core k s b
chain k s End = refl
chain k s (More x rest) =
    ap (λ d. followed (piece_of k s x) d) (chain k (scope_after k s x) rest)
    ∙ follows k s x (block_core k (scope_after k s x) rest)

-- the last piece stands before what follows
pub onto-push : (ps : List Piece) (p : Piece) (rest : Deed) → onto (ps ++ p ∷ []) rest ≡ onto ps (followed p rest)
onto-push [] p rest = refl
onto-push (q ∷ ps) p rest = ap (λ d. followed q d) (onto-push ps p rest)
