-- The rules of copied fields, and the core copies (own rule): the bytes of a byte-sized array of `UINT8` go to a copy buffer
-- of the definition.
use Rattle.std.specs.Prelude.{ℕ, ◌+◌, ◌*◌, Bool, true, false, cond, not, List, [], ◌++◌, length, Option, Some, None, slice_get}
use Rattle.td_elab_rules.specs.Imports.{Span, ActionTree, Done, Copied, TypeTree, ExtentTree, FieldTree, CopyOut}
use Rattle.td_ast.specs.declared.fields.ExtentTree.TheVariants.{Bytes, ByteSize, SingleElement, Zeroterm, Bits, Given, OfCell}
use Rattle.td_elab_rules.specs.declared.breach.Rule.TheVariants.{Unknown, WrongArgs, BadAction}
use Rattle.td_elab_rules.specs.declared.breach.Breach.{Breach}
use Rattle.td_elab_rules.specs.declared.known.Local.TheVariants as local
use Rattle.td_elab_rules.specs.declared.known.Found.{Found}
use Rattle.td_elab_rules.specs.declared.known.Found.TheVariants as found
use Rattle.td_elab_rules.specs.declared.known.Known.{Known}
use Rattle.td_elab_rules.specs.declared.known.Scope.{Scope}
use Rattle.td_elab_rules.specs.Breach.{when}
use Rattle.td_elab_rules.specs.Known.{found_in}
use Rattle.td_elab_rules.specs.Types.{number_type, is_byte}

-- a byte-sized array of `UINT8`
abbrev pub are_bytes : Known → Scope → TypeTree → Option ExtentTree → Bool
are_bytes k s t None = false
are_bytes k s t (Some (Bytes e)) = is_byte (number_type k s t)
are_bytes k s t (Some (ByteSize e)) = is_byte (number_type k s t)
are_bytes k s t (Some (SingleElement e)) = false
are_bytes k s t (Some (Zeroterm e)) = false
are_bytes k s t (Some (Bits n)) = false
are_bytes k s t (Some (Given e)) = false
are_bytes k s t (Some (OfCell star p)) = false

-- N1, N4: no such name; no copy buffer
abbrev pub buffer_breaches : Found → Span → List Breach
buffer_breaches found.Nothing at = when true Unknown at
buffer_breaches (found.Local (local.Buffer n)) at = []
buffer_breaches (found.Local (local.Value i w most)) at = when true WrongArgs at
buffer_breaches (found.Local local.Unreadable) at = when true WrongArgs at
buffer_breaches (found.Local (local.Cell c t)) at = when true WrongArgs at
buffer_breaches (found.Local (local.Row c r)) at = when true WrongArgs at
buffer_breaches (found.Global m) at = when true WrongArgs at

-- Y4: what is copied is no byte-sized array of `UINT8`. The buffer is named where the field is in scope already.
abbrev pub copied_breaches : Known → Scope → (bytes : Bool) → Option ActionTree → List Breach
copied_breaches k s bytes None = []
copied_breaches k s bytes (Some (Done kind at b)) = []
copied_breaches k s bytes (Some (Copied at n)) = when (not bytes) BadAction at ++ buffer_breaches (found_in k s n.text) n.span

abbrev pub copy_breaches : Known → (before after : Scope) → FieldTree → List Breach
copy_breaches k s u f = copied_breaches k u (are_bytes k s f.type_tree f.extent) f.action

-- The core copy. Where a rule is broken, there is none.

-- the buffer of this place, with its room, and the first of its two cells, which stand behind the definition's others
abbrev pub copy_to : Scope → Span → ℕ → Option CopyOut
copy_to s at n = elim (slice_get s.buffers n) [
  | None ↦ None
  | Some room ↦ Some (record { buffer = n; cell = length s.cells + 2 * n; room = room; span = at })
]

abbrev pub found_copy : Scope → Span → Found → Option CopyOut
found_copy s at found.Nothing = None
found_copy s at (found.Local (local.Buffer n)) = copy_to s at n
found_copy s at (found.Local (local.Value i w most)) = None
found_copy s at (found.Local local.Unreadable) = None
found_copy s at (found.Local (local.Cell c t)) = None
found_copy s at (found.Local (local.Row c r)) = None
found_copy s at (found.Global m) = None

abbrev pub copied_core : Known → Scope → (bytes : Bool) → Option ActionTree → Option CopyOut
copied_core k s bytes None = None
copied_core k s bytes (Some (Done kind at b)) = None
copied_core k s bytes (Some (Copied at n)) = cond bytes (found_copy s at (found_in k s n.text)) None

abbrev pub copy_core : Known → (before after : Scope) → FieldTree → Option CopyOut
copy_core k s u f = copied_core k u (are_bytes k s f.type_tree f.extent) f.action
