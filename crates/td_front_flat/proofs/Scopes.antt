-- What came into scope goes out of it again.
use Rattle.std.proofs.Common.{◌≡◌, ℕ, Bool, true, false, cond, List, [], ◌∷◌, ◌++◌, length, take, refl, sym, ap, ◌∙◌, append_assoc}
use Rattle.std.proofs.lemmas.List.{append-nil}
use Rattle.td_ast.specs.declared.fields.FieldTree.{FieldTree}
use Rattle.td_ast.specs.declared.parameters.ParamTree.{ParamTree}
use Rattle.td_ast.specs.Statements.{Statement, Store, StoreField, Var, If, IfElse, Return, Abort, block_of, More}
use Rattle.td_names.specs.Names.{is_seen, with_name}
use Rattle.td_front_flat.specs.declared.own.Own.{Own}
use Rattle.td_front_flat.specs.Expressions.{scope_after, scope_behind, flat_statement, flat_statements, flat_block}
use Rattle.td_front_flat.specs.Definitions.{with_fields}

-- names at the end
Grows : List (List ℕ) → List (List ℕ) → Type 0
Grows a b = (more : List (List ℕ)) × (b ≡ a ++ more)

same : (a : List (List ℕ)) → Grows a a
unfolding Grows
same a = ([], sym (append-nil a))

after : (a b c : List (List ℕ)) → Grows a b → Grows b c → Grows a c
unfolding Grows
after a b c g h = (g.0 ++ h.0, h.1 ∙ ap (λ l. l ++ h.0) g.1 ∙ append_assoc a g.0 h.0)

named : (a : List (List ℕ)) (x : List ℕ) → Grows a (with_name a x)
unfolding Grows
named a x = by_test (is_seen a x)
  where
    by_test : (b : Bool) → (more : List (List ℕ)) × (cond b a (a ++ x ∷ []) ≡ a ++ more)
    by_test true = ([], sym (append-nil a))
    by_test false = (x ∷ [], refl)

stated : (a : List (List ℕ)) (x : Statement) → Grows a (scope_after a x)
stated a (Store at p rhs) = same a
stated a (StoreField at p f rhs) = same a
stated a (Var at x star p) = named a x.text
stated a (If at e one) = same a
stated a (IfElse at e one other) = same a
stated a (Return at e) = same a
stated a (Abort at) = same a

behind : (a : List (List ℕ)) (xs : List Statement) → Grows a (scope_behind a xs)
behind a [] = same a
behind a (x ∷ xs) = after a (scope_after a x) (scope_behind (scope_after a x) xs) (stated a x) (behind (scope_after a x) xs)

fielded : (a : List (List ℕ)) (fs : List FieldTree) → Grows a (with_fields a fs)
fielded a [] = same a
fielded a (f ∷ fs) = after a (with_name a f.name.text) (with_fields (with_name a f.name.text) fs) (named a f.name.text) (fielded (with_name a f.name.text) fs)

taken : (a more : List (List ℕ)) → take (length a) (a ++ more) ≡ a
taken [] [] = refl
taken [] (m ∷ more) = refl
taken (x ∷ a) more = ap (λ l. x ∷ l) (taken a more)

cut : (a b : List (List ℕ)) → Grows a b → take (length a) b ≡ a
unfolding Grows
cut a b g = ap (λ l. take (length a) l) g.1 ∙ taken a g.0

pub block_left : (a : List (List ℕ)) (xs : List Statement) → take (length a) (scope_behind a xs) ≡ a
block_left a xs = cut a (scope_behind a xs) (behind a xs)

pub fields_left : (a : List (List ℕ)) (fs : List FieldTree) → take (length a) (with_fields a fs) ≡ a
fields_left a fs = cut a (with_fields a fs) (fielded a fs)

-- a block inside a statement is the block of its statements
pub block_is : (own : Own) (params : List ParamTree) (scope : List (List ℕ)) (xs : List Statement) → block_of (flat_statements own params scope xs) ≡ flat_block own params scope (block_of xs)
block_is own params scope [] = refl
block_is own params scope (x ∷ xs) = ap (λ b. More (flat_statement own params scope x) b) (block_is own params (scope_after scope x) xs)
