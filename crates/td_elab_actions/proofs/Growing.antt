-- The scope inside a block begins with the scope around it. Cited by other crates.
use Rattle.std.proofs.Common.{◌≡◌, ℕ, Bool, true, false, if◌then◌else◌, List, [], ◌∷◌, ◌++◌, length, take, is_some, refl, sym, ap, ◌∙◌, append_assoc}
use Rattle.std.proofs.lemmas.List.{append-nil}
use Rattle.td_ast.specs.Statements.{Statement, Store, StoreField, Var, If, IfElse, Return, Abort, Statements, End, More}
use Rattle.td_names.specs.Names.{looked_up, declared}
use Rattle.td_elab_rules.specs.declared.actions.Target.{Target}
use Rattle.td_elab_rules.specs.declared.actions.Target.TheVariants as target
use Rattle.td_elab_rules.specs.declared.known.Local.{Local}
use Rattle.td_elab_rules.specs.declared.known.Known.{Known}
use Rattle.td_elab_rules.specs.declared.known.Scope.{Scope}
use Rattle.td_elab_rules.specs.Known.{with_local}
use Rattle.td_elab_rules.specs.Actions.{stored_cell, with_read, scope_after}
use Rattle.td_elab_actions.specs.Scopes.{cut_back, Grows}
use Rattle.td_elab_actions.specs.Pieces.{block_scope}

pub same : (s : Scope) → Grows s s
same s = record { more = []; locals = sym (append-nil s.locals); cells = refl; buffers = refl; start = refl; this = refl }

pub further : (s t u : Scope) → Grows s t → Grows t u → Grows s u
further s t u h k = record {
  more = h.more ++ k.more;
  locals = k.locals ∙ ap (λ l. l ++ k.more) h.locals ∙ append_assoc s.locals h.more k.more;
  cells = k.cells ∙ h.cells;
  buffers = k.buffers ∙ h.buffers;
  start = k.start ∙ h.start;
  this = k.this ∙ h.this;
}

pub declared_more : (es : List (List ℕ × Local)) (name : List ℕ) (l : Local) → (more : List (List ℕ × Local)) × (declared es name l ≡ es ++ more)
declared_more es name l = by (is_some (looked_up es name))
  where
    by : (b : Bool) → (more : List (List ℕ × Local)) × ((if b then es else es ++ (name, l) ∷ []) ≡ es ++ more)
    by true = ([], sym (append-nil es))
    by false = ((name, l) ∷ [], refl)

pub grows_local : (s : Scope) (x : List ℕ) (l : Local) → Grows s (with_local s x l)
grows_local s x l =
    let d = declared_more s.locals x l in
    record { more = d.0; locals = d.1; cells = refl; buffers = refl; start = refl; this = refl }

-- a further level is no name
pub grows_value : (s : Scope) (x : List ℕ) (l : Local) (levels : ℕ) → Grows s (record { locals = declared s.locals x l; levels = levels; cells = s.cells; buffers = s.buffers; start = s.start; this = s.this })
grows_value s x l levels =
    let d = declared_more s.locals x l in
    record { more = d.0; locals = d.1; cells = refl; buffers = refl; start = refl; this = refl }

grows_read : (s : Scope) (x : List ℕ) (t : Target) → Grows s (with_read s x t)
grows_read s x target.Unknown = grows_local s x _
grows_read s x target.NoCell = grows_local s x _
grows_read s x (target.Number c t) = grows_value s x _ _
grows_read s x (target.Pointer c) = grows_value s x _ _

grows_after : (k : Known) (s : Scope) (x : Statement) → Grows s (scope_after k s x)
grows_after k s (Store at p rhs) = same s
grows_after k s (StoreField at p f rhs) = same s
grows_after k s (Var at x star p) = grows_read s x.text (stored_cell k s p)
grows_after k s (If at e one) = same s
grows_after k s (IfElse at e one other) = same s
grows_after k s (Return at e) = same s
grows_after k s (Abort at) = same s

grows : (k : Known) (s : Scope) (b : Statements) → Grows s (block_scope k s b)
grows k s End = same s
grows k s (More x rest) = further s (scope_after k s x) (block_scope k (scope_after k s x) rest) (grows_after k s x) (grows k (scope_after k s x) rest)

pub take_all : {A : Type 0} (xs ys : List A) → take (length xs) (xs ++ ys) ≡ xs
take_all [] ys = refl
take_all (x ∷ xs) ys = ap (λ t. x ∷ t) (take_all xs ys)

-- cut back, it is what it was
pub cut_grown : (s t : Scope) → Grows s t → cut_back (length s.locals) s.levels t ≡ s
cut_grown s t g = λ i. record {
  locals = (ap (λ l. take (length s.locals) l) g.locals ∙ take_all s.locals g.more) i;
  levels = s.levels;
  cells = g.cells i;
  buffers = g.buffers i;
  start = g.start i;
  this = g.this i;
}

pub cut : (k : Known) (s : Scope) (b : Statements) → cut_back (length s.locals) s.levels (block_scope k s b) ≡ s
cut k s b = cut_grown s (block_scope k s b) (grows k s b)
