-- What is known with one more struct or casetype.
use Rattle.std.specs.Prelude.{ℕ, Bool, ◌+◌, List, [], ◌∷◌, ◌++◌, length}
use Rattle.td_core.specs.declared.module.TypeDef.{TypeDef}
use Rattle.td_kinds.specs.Kinds.{body_kind}
use Rattle.td_elab_rules.specs.declared.known.Known.{Known}
use Rattle.td_elab_rules.specs.declared.known.Parameter.{Parameter}
use Rattle.td_elab_rules.specs.declared.known.Meaning.TheVariants as meaning
use Rattle.td_elab_rules.specs.Known.{kind_at}
use Rattle.td_elab_rules.specs.Constants.{with_global}
use Rattle.td_elab_rules.specs.Definitions.{with_names, entry_more}

-- its name stands for the next place, and it gave these names
abbrev pub announced : Known → Bool → List ℕ → List (List ℕ) → Known
announced k is_entry name given = record (with_global k name (meaning.Type (length k.definitions))) {
  count = k.count + 1;
  used = with_names k.used given;
  entries = entry_more is_entry (length k.definitions) k.entries;
}

abbrev pub with_definition : Known → List Parameter → TypeDef → Known
with_definition k ps d = record k {
  signatures = k.signatures ++ ps ∷ [];
  kinds = k.kinds ++ body_kind (kind_at k) d.body ∷ [];
  definitions = k.definitions ++ d ∷ [];
}
