-- The pieces of statements and actions glue to nothing.
use Rattle.std.proofs.Common.{◌≡◌, List, [], ◌∷◌, ◌++◌, false, refl, append_assoc}
use Rattle.std.specs.Prelude.{flat_map}
use Rattle.td_ast.specs.declared.token.TokenKind.TheVariants as kinds
use Rattle.td_ast.specs.declared.actions.Assigned.{Assigned}
use Rattle.td_ast.specs.declared.actions.Assigned.TheVariants.{Value, FieldPtr}
use Rattle.td_ast.specs.declared.actions.ActionKind.{ActionKind}
use Rattle.td_ast.specs.declared.actions.ActionKind.TheVariants as actions
use Rattle.td_ast.specs.declared.actions.ActionTree.{ActionTree}
use Rattle.td_ast.specs.declared.actions.ActionTree.TheVariants.{Done, Copied}
use Rattle.td_ast.specs.Statements.{Statement, Statements, Store, StoreField, Var, If, IfElse, Return, Abort, End, More}
use Rattle.td_print_layout.specs.Pieces.{Piece, Word, Blank}
use Rattle.td_print_layout.specs.Joining.{glues_to}
use Rattle.td_print_layout.specs.Expressions.{expression_pieces}
use Rattle.td_print_layout.specs.Actions.{assigned_pieces, in_braces, statement_pieces, block_pieces, action_kind, statement_after, action_pieces}
use Rattle.td_print_layout.proofs.Loose.{IsLoose, Closes, before_blank, before_sign, each_closes}
use Rattle.td_print_layout.proofs.LooseExpressions.{expression_loose, inner_loose}

pub before_semicolon : (after : List Piece) → Closes after → Closes (Word kinds.Semicolon ∷ after)
before_semicolon after closes = before_sign kinds.Semicolon after refl refl refl refl refl refl (closes.semicolon, closes.loose)

pub before_brace : (after : List Piece) → Closes after → Closes (Word kinds.CloseBrace ∷ after)
before_brace after closes = before_sign kinds.CloseBrace after refl refl refl refl refl refl (closes.brace, closes.loose)

-- a block in its braces
abbrev braced_pieces : Statements → List Piece
braced_pieces block = in_braces (block_pieces block)

assigned_loose : (assigned : Assigned) (after : List Piece) → Closes after → IsLoose (assigned_pieces assigned ++ after)
assigned_loose (Value value) after closes = expression_loose value after closes
assigned_loose (FieldPtr span) after closes = (closes.words kinds.FieldPtr refl, closes.loose)

-- a block, and what is behind it
abbrev BlockLoose : Statements → Type 0
BlockLoose block = (after : List Piece) → IsLoose after → IsLoose (block_pieces block ++ after)

braced_loose : (block : Statements) → BlockLoose block → (after : List Piece) → Closes after → IsLoose (braced_pieces block ++ after)
braced_loose block loose after closes =
    let inner : IsLoose (block_pieces block ++ Word kinds.CloseBrace ∷ after) = loose (Word kinds.CloseBrace ∷ after) (closes.brace, closes.loose) in
    rw (append_assoc (block_pieces block) (Word kinds.CloseBrace ∷ []) after) (refl, inner)

-- `) ` before what begins with a brace
pub before_body : (after : List Piece) → IsLoose after → Closes (Word kinds.CloseParen ∷ Blank ∷ after)
before_body after loose = before_sign kinds.CloseParen (Blank ∷ after) refl refl refl refl refl refl (refl, loose)

mutual
  pub statement_loose : (statement : Statement) (after : List Piece) → Closes after → IsLoose (statement_pieces statement ++ after)
  statement_loose (Store s cell value) after closes =
      let stored = assigned_loose value (Word kinds.Semicolon ∷ after) (before_semicolon after closes) in
      rw (append_assoc (assigned_pieces value) (Word kinds.Semicolon ∷ []) after) (refl, (refl, (refl, stored)))
  statement_loose (StoreField s cell field value) after closes =
      let stored = assigned_loose value (Word kinds.Semicolon ∷ after) (before_semicolon after closes) in
      rw (append_assoc (assigned_pieces value) (Word kinds.Semicolon ∷ []) after) (refl, (refl, (refl, (refl, stored))))
  statement_loose (Var s local star cell) after closes = (refl, (refl, (refl, (refl, (refl, (closes.semicolon, closes.loose))))))
  statement_loose (If s condition block) after closes =
      let body = braced_loose block (block_loose block) after closes in
      let test = inner_loose condition (expression_loose condition) (Word kinds.CloseParen ∷ Blank ∷ (braced_pieces block ++ after)) (before_body (braced_pieces block ++ after) body) in
      rw (append_assoc (expression_pieces condition) (Word kinds.CloseParen ∷ Blank ∷ braced_pieces block) after) (refl, test)
  statement_loose (IfElse s condition block other) after closes =
      let last = Blank ∷ Word kinds.Else ∷ Blank ∷ (braced_pieces other ++ after) in
      let other_loose = braced_loose other (block_loose other) after closes in
      let body = braced_loose block (block_loose block) last (before_blank (Word kinds.Else ∷ Blank ∷ (braced_pieces other ++ after)) (refl, other_loose)) in
      let test = inner_loose condition (expression_loose condition) (Word kinds.CloseParen ∷ Blank ∷ (braced_pieces block ++ last)) (before_body (braced_pieces block ++ last) body) in
      rw (
        append_assoc (expression_pieces condition) (Word kinds.CloseParen ∷ Blank ∷ (braced_pieces block ++ Blank ∷ Word kinds.Else ∷ Blank ∷ braced_pieces other)) after,
        append_assoc (braced_pieces block) (Blank ∷ Word kinds.Else ∷ Blank ∷ braced_pieces other) after,
      ) (refl, test)
  statement_loose (Return s value) after closes =
      let returned = expression_loose value (Word kinds.Semicolon ∷ after) (before_semicolon after closes) in
      rw (append_assoc (expression_pieces value) (Word kinds.Semicolon ∷ []) after) (refl, returned)
  statement_loose (Abort s) after closes = (refl, (closes.semicolon, closes.loose))

  pub block_loose : (block : Statements) → BlockLoose block
  block_loose End after loose = loose
  block_loose (More statement others) after loose =
      rw (append_assoc (statement_pieces statement) (Blank ∷ block_pieces others) after)
      (statement_loose statement (Blank ∷ (block_pieces others ++ after)) (before_blank (block_pieces others ++ after) (block_loose others after loose)))

-- an action's word before its statements or its `}`
action_begun : (kind : ActionKind) (statements : List Statement) (after : List Piece) → glues_to (action_kind kind) (flat_map statement_after statements ++ Word kinds.CloseBrace ∷ after) ≡ false
action_begun actions.Act [] after = refl
action_begun actions.Check [] after = refl
action_begun actions.OnSuccess [] after = refl
action_begun kind (statement ∷ statements) after = refl

pub action_loose : (action : ActionTree) (after : List Piece) → Closes after → IsLoose (action_pieces action ++ after)
action_loose (Done kind span statements) after closes =
    let last = Word kinds.CloseBrace ∷ after in
    let inner = each_closes statement_after (λ statement more c. before_blank (statement_pieces statement ++ more) (statement_loose statement more c)) statements last (before_brace after closes) in
    rw (append_assoc (flat_map statement_after statements) (Word kinds.CloseBrace ∷ []) after) (action_begun kind statements after, inner.loose)
action_loose (Copied span name) after closes = (refl, (refl, (closes.brace, closes.loose)))
