-- The scope after fields begins with the scope before them.
use Rattle.std.proofs.Common.{◌≡◌, ℕ, List, [], ◌∷◌, length, take, Option, Some, None, ap, ◌∙◌}
use Rattle.td_ast.specs.declared.fields.FieldTree.{FieldTree}
use Rattle.td_elab_rules.specs.declared.fields.Readable.{Readable}
use Rattle.td_elab_rules.specs.declared.known.Known.{Known}
use Rattle.td_elab_rules.specs.declared.known.Scope.{Scope}
use Rattle.td_elab_rules.specs.Fields.{readable_of, with_readable, with_field}
use Rattle.td_elab_actions.specs.Scopes.{Grows}
use Rattle.td_elab_fields.specs.Scopes.{fields_scope}
use Rattle.td_elab_actions.proofs.Growing.{same, further, grows_value, take_all}

grows_readable : (s : Scope) (x : List ℕ) (v : Option Readable) → Grows s (with_readable s x v)
grows_readable s x None = grows_value s x _ _
grows_readable s x (Some v) = grows_value s x _ _

pub grows_field : (k : Known) (s : Scope) (f : FieldTree) → Grows s (with_field k s f)
grows_field k s f = grows_readable s f.name.text (readable_of k s f)

pub grows : (k : Known) (s : Scope) (fs : List FieldTree) → Grows s (fields_scope k s fs)
grows k s [] = same s
grows k s (f ∷ fs) = further s (with_field k s f) (fields_scope k (with_field k s f) fs) (grows_field k s f) (grows k (with_field k s f) fs)

-- a scope that grew is cut back to what it was
abbrev pub cut_back : Scope → Scope → Scope
cut_back s t = record { locals = take (length s.locals) t.locals; levels = s.levels; cells = t.cells; buffers = t.buffers; start = t.start; this = t.this }

pub cut : (s t : Scope) → Grows s t → cut_back s t ≡ s
cut s t g = λ i. record {
  locals = (ap (λ l. take (length s.locals) l) g.locals ∙ take_all s.locals g.more) i;
  levels = s.levels;
  cells = g.cells i;
  buffers = g.buffers i;
  start = g.start i;
  this = g.this i;
}
