-- The rules of output records (3D manual, "Output types"; own rule: their slots are numbers and pointers).
use Rattle.std.specs.Prelude.{ℕ, ◌+◌, ◌||◌, List, [], ◌∷◌, ◌++◌, length, map, Option, Some, None}
use Rattle.td_elab_rules.specs.Imports.{NumberType, SlotTree}
use Rattle.td_ast.specs.declared.definitions.SlotKind.{SlotKind}
use Rattle.td_ast.specs.declared.definitions.SlotKind.TheVariants.{Number, Pointer}
use Rattle.td_ast.specs.declared.definitions.OutputTree.{OutputTree}
use Rattle.td_names.specs.Names.{is_seen, with_name}
use Rattle.td_elab_rules.specs.declared.breach.Rule.TheVariants.{Twice}
use Rattle.td_elab_rules.specs.declared.breach.Breach.{Breach}
use Rattle.td_elab_rules.specs.declared.known.Slot.{Slot}
use Rattle.td_elab_rules.specs.declared.known.Meaning.TheVariants as meaning
use Rattle.td_elab_rules.specs.declared.known.Known.{Known}
use Rattle.td_elab_rules.specs.Breach.{when}
use Rattle.td_elab_rules.specs.Known.{is_literal_name}
use Rattle.td_elab_rules.specs.Constants.{global_breaches, with_global}

abbrev pub slot_number : SlotKind → Option NumberType
slot_number (Number t) = Some t.number
slot_number (Pointer at) = None

abbrev pub slot_of : SlotTree → Slot
slot_of x = record { name = x.name.text; number = slot_number x.kind }

-- N2: a slot has another name than those before it, than a constant and than a member
abbrev pub slots_breaches : Known → List (List ℕ) → List SlotTree → List Breach
slots_breaches k taken [] = []
slots_breaches k taken (x ∷ xs) =
    when (is_seen taken x.name.text || is_literal_name k x.name.text) Twice x.name.span ++ slots_breaches k (with_name taken x.name.text) xs

-- the names of the slots, beside others
abbrev pub with_slots : List (List ℕ) → List SlotTree → List (List ℕ)
with_slots names [] = names
with_slots names (x ∷ xs) = with_slots (with_name names x.name.text) xs

abbrev pub record_breaches : Known → OutputTree → List Breach
record_breaches k d = slots_breaches k [] d.slots ++ global_breaches k d.name

abbrev pub after_record : Known → OutputTree → Known
after_record k d = record (with_global k d.name.text (meaning.Record (length k.records))) {
  count = k.count + 1;
  used = with_slots k.used d.slots;
  records = k.records ++ map slot_of d.slots ∷ [];
}
