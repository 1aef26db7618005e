-- The scope after fields.
use Rattle.std.specs.Prelude.{List, [], ◌∷◌}
use Rattle.td_ast.specs.declared.fields.FieldTree.{FieldTree}
use Rattle.td_elab_rules.specs.declared.known.Known.{Known}
use Rattle.td_elab_rules.specs.declared.known.Scope.{Scope}
use Rattle.td_elab_rules.specs.Fields.{with_field}

abbrev pub fields_scope : Known → Scope → List FieldTree → Scope
fields_scope k s [] = s
fields_scope k s (f ∷ fs) = fields_scope k (with_field k s f) fs
