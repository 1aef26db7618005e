-- Rows: the tree of a text, and the rule that it breaks first with the place of the breach, if it breaks one.
use Rattle.std.specs.Prelude.{◌≡◌, ℕ, List, Option, Some, None, map, codes}
use Rattle.td_test_rows.specs.Imports.{Width, ByteOrder, Span, Name, Def}
use Rattle.td_num.specs.declared.number.NumberType.{NumberType}
use Rattle.td_elab_rules.specs.declared.breach.Rule.{Rule}
use Rattle.td_elab_rules.specs.declared.breach.Breach.{Breach}
use Rattle.td_elab_rules.specs.Breach.{first_of}
use Rattle.td_elab_rules.specs.Modules.{breaches}

abbrev pub Row : Type 0
Row = List Def × Option (Rule × ℕ)

-- from one byte of the text up to another
abbrev pub sp : ℕ → ℕ → Span
sp from to = record { from = from; to = to }

abbrev pub nm : Prim.Native.String.String → ℕ → ℕ → Name
nm text from to = record { text = codes text; span = sp from to }

abbrev pub number : Width → ByteOrder → NumberType
number width order = record { width = width; order = order }

abbrev place_of : Option Breach → Option (Rule × ℕ)
place_of None = None
place_of (Some b) = Some (b.rule, b.span.from)

abbrev found : Row → Option (Rule × ℕ)
found r = place_of (first_of None (breaches (record { definitions = r.0 })))

abbrev wanted : Row → Option (Rule × ℕ)
wanted r = r.1

-- in each row that breach is the first
abbrev pub AreRight : List Row → Type 0
AreRight rows = map found rows ≡ map wanted rows
