-- Expressions and actions of a part, with the names that they have in the whole text (own rule).
use Rattle.std.specs.Prelude.{ℕ, Bool, false, ◌&&◌, not, cond, List, [], ◌∷◌, Option, Some, None, codes}
use Rattle.std.specs.List.{list_any}
use Rattle.std.specs.Str.{bytes_eq}
use Rattle.td_ast.specs.declared.names.Name.{Name}
use Rattle.td_ast.specs.declared.expressions.SizeofOperand.{SizeofOperand}
use Rattle.td_ast.specs.declared.expressions.SizeofOperand.TheVariants as operand
use Rattle.td_ast.specs.declared.actions.Assigned.{Assigned}
use Rattle.td_ast.specs.declared.actions.Assigned.TheVariants.{Value, FieldPtr}
use Rattle.td_ast.specs.declared.actions.ActionTree.{ActionTree}
use Rattle.td_ast.specs.declared.actions.ActionTree.TheVariants.{Done, Copied}
use Rattle.td_ast.specs.declared.parameters.ParamTree.{ParamTree}
use Rattle.td_ast.specs.declared.parameters.ParamTree.TheVariants as param
use Rattle.td_ast.specs.declared.parameters.TargetTree.{TargetTree}
use Rattle.td_ast.specs.declared.parameters.TargetTree.TheVariants as pointee
use Rattle.td_ast.specs.Trees.{Tree}
use Rattle.td_ast.specs.Trees as tree
use Rattle.td_ast.specs.Statements.{Statement, Statements, Store, StoreField, Var, If, IfElse, Return, Abort, End, More}
use Rattle.td_names.specs.Names.{with_name}
use Rattle.td_front_flat.specs.declared.own.Own.{Own}
use Rattle.td_front_flat.specs.Names.{meant, given, is_qualified}

-- a name where something is named, and where it is given to a local; its place stays
abbrev pub used_name : Own → List (List ℕ) → Name → Name
used_name own scope n = record { text = meant own scope n.text; span = n.span }

abbrev pub given_name : Own → Name → Name
given_name own n = record { text = given own n.text; span = n.span }

abbrev pub flat_operand : Own → List (List ℕ) → SizeofOperand → SizeofOperand
flat_operand own scope (operand.Number t) = operand.Number t
flat_operand own scope (operand.Name n) = operand.Name (meant own scope n)
flat_operand own scope operand.This = operand.This

abbrev pub flat_tree : Own → List (List ℕ) → Tree → Tree
flat_tree own scope (tree.Number at n base) = tree.Number at n base
flat_tree own scope (tree.Truth at b) = tree.Truth at b
flat_tree own scope (tree.Name at n) = tree.Name at (used_name own scope n)
flat_tree own scope (tree.FieldPos at word) = tree.FieldPos at word
flat_tree own scope (tree.Sizeof at word z place) = tree.Sizeof at word (flat_operand own scope z) place
flat_tree own scope (tree.RangeOkay at a b c) = tree.RangeOkay at (flat_tree own scope a) (flat_tree own scope b) (flat_tree own scope c)
flat_tree own scope (tree.Unary at op word a) = tree.Unary at op word (flat_tree own scope a)
flat_tree own scope (tree.Binary at op word a b) = tree.Binary at op word (flat_tree own scope a) (flat_tree own scope b)
flat_tree own scope (tree.Choice at word c a b) = tree.Choice at word (flat_tree own scope c) (flat_tree own scope a) (flat_tree own scope b)

abbrev pub flat_option : Own → List (List ℕ) → Option Tree → Option Tree
flat_option own scope None = None
flat_option own scope (Some e) = Some (flat_tree own scope e)

-- `bytes_left`, where it is all of an expression
abbrev pub is_left : Tree → Bool
is_left (tree.Number at n base) = false
is_left (tree.Truth at b) = false
is_left (tree.Name at n) = bytes_eq n.text (codes "bytes_left")
is_left (tree.FieldPos at word) = false
is_left (tree.Sizeof at word z place) = false
is_left (tree.RangeOkay at a b c) = false
is_left (tree.Unary at op word a) = false
is_left (tree.Binary at op word a b) = false
is_left (tree.Choice at word c a b) = false

-- what stands behind a field's `=`: there `bytes_left` is no name, and stays
abbrev pub flat_given : Own → List (List ℕ) → Tree → Tree
flat_given own scope e = cond (is_left e) e (flat_tree own scope e)

-- Actions, in a definition with these parameters

-- p is a `mutable` parameter for a record of the own part
abbrev pub is_own_record : TargetTree → Bool
is_own_record (pointee.Number t) = false
is_own_record (pointee.Pointer at) = false
is_own_record (pointee.Named n) = not (is_qualified n.text)

abbrev pub is_own_row_at : ParamTree → List ℕ → Bool
is_own_row_at (param.Value t n) p = false
is_own_row_at (param.Mutable t n) p = bytes_eq p n.text && is_own_record t
is_own_row_at (param.Bytes n k) p = false

abbrev pub is_own_row : List ParamTree → List ℕ → Bool
is_own_row params p = list_any (λ q. is_own_row_at q p) params

-- a slot of a record has the name that it has in the record's part
abbrev pub slot_name : Own → List ParamTree → Name → Name → Name
slot_name own params p f = cond (is_own_row params p.text) (given_name own f) f

abbrev pub flat_assigned : Own → List (List ℕ) → Assigned → Assigned
flat_assigned own scope (Value e) = Value (flat_tree own scope e)
flat_assigned own scope (FieldPtr at) = FieldPtr at

-- a `var` is in scope after its statement, up to the end of its block
abbrev pub scope_after : List (List ℕ) → Statement → List (List ℕ)
scope_after scope (Store at p rhs) = scope
scope_after scope (StoreField at p f rhs) = scope
scope_after scope (Var at x star p) = with_name scope x.text
scope_after scope (If at e one) = scope
scope_after scope (IfElse at e one other) = scope
scope_after scope (Return at e) = scope
scope_after scope (Abort at) = scope

-- after several
abbrev pub scope_behind : List (List ℕ) → List Statement → List (List ℕ)
scope_behind scope [] = scope
scope_behind scope (x ∷ xs) = scope_behind (scope_after scope x) xs

abbrev mutual
  pub flat_statement : Own → List ParamTree → List (List ℕ) → Statement → Statement
  flat_statement own params scope (Store at p rhs) = Store at (used_name own scope p) (flat_assigned own scope rhs)
  flat_statement own params scope (StoreField at p f rhs) = StoreField at (used_name own scope p) (slot_name own params p f) (flat_assigned own scope rhs)
  flat_statement own params scope (Var at x star p) = Var at (given_name own x) star (used_name own scope p)
  flat_statement own params scope (If at e one) = If at (flat_tree own scope e) (flat_block own params scope one)
  flat_statement own params scope (IfElse at e one other) = IfElse at (flat_tree own scope e) (flat_block own params scope one) (flat_block own params scope other)
  flat_statement own params scope (Return at e) = Return at (flat_tree own scope e)
  flat_statement own params scope (Abort at) = Abort at

  pub flat_block : Own → List ParamTree → List (List ℕ) → Statements → Statements
  flat_block own params scope End = End
  flat_block own params scope (More x rest) = More (flat_statement own params scope x) (flat_block own params (scope_after scope x) rest)

abbrev pub flat_statements : Own → List ParamTree → List (List ℕ) → List Statement → List Statement
flat_statements own params scope [] = []
flat_statements own params scope (x ∷ xs) = flat_statement own params scope x ∷ flat_statements own params (scope_after scope x) xs

abbrev pub flat_action : Own → List ParamTree → List (List ℕ) → Option ActionTree → Option ActionTree
flat_action own params scope None = None
flat_action own params scope (Some (Done kind at xs)) = Some (Done kind at (flat_statements own params scope xs))
flat_action own params scope (Some (Copied at n)) = Some (Copied at (used_name own scope n))
