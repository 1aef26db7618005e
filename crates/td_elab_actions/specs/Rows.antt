-- The cells of the slots of an output record, one after the other.
use Rattle.std.specs.Prelude.{ℕ, ◌+◌, ◌≤◌, ◌^◌, length}
use Rattle.td_elab_rules.specs.declared.known.Known.{Known}
use Rattle.td_elab_rules.specs.declared.known.Found.{Found}
use Rattle.td_elab_rules.specs.declared.known.Found.TheVariants as found
use Rattle.td_elab_rules.specs.declared.known.Local.TheVariants as local
use Rattle.td_elab_rules.specs.Known.{slots_at}

-- it names an output record whose cells reach 2^32
abbrev pub IsRowPast : Known → Found → Type 0
IsRowPast k found.Nothing = ⊥
IsRowPast k (found.Local (local.Row c r)) = 2 ^ 32 ≤ c + length (slots_at k r)
IsRowPast k (found.Local (local.Cell c t)) = ⊥
IsRowPast k (found.Local (local.Value i w most)) = ⊥
IsRowPast k (found.Local local.Unreadable) = ⊥
IsRowPast k (found.Local (local.Buffer n)) = ⊥
IsRowPast k (found.Global m) = ⊥
