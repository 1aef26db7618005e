-- The cells for the slots of records stay where no record comes.
use Rattle.std.proofs.Common.{◌≡◌, ℕ, List, [], ◌∷◌, ◌++◌, map, Option, Some, refl, sym, ap, ap₂, ◌∙◌}
use Rattle.td_ast.specs.declared.definitions.ItemTree.{ItemTree}
use Rattle.td_ast.specs.declared.definitions.EnumTree.{EnumTree}
use Rattle.td_ast.specs.declared.definitions.SlotTree.{SlotTree}
use Rattle.td_ast.specs.declared.definitions.OutputTree.{OutputTree}
use Rattle.td_elab_rules.specs.declared.known.Slot.{Slot}
use Rattle.td_elab_rules.specs.declared.known.Known.{Known}
use Rattle.td_elab_rules.specs.Enums.{next_value, item_value, with_item, items_after, with_enum_name, after_enum}
use Rattle.td_elab_rules.specs.Records.{slot_of, after_record}
use Rattle.td_elab_defs.specs.declared.slots.SlotCell.{SlotCell}
use Rattle.td_elab_defs.specs.Slots.{slot_part, record_parts}

items_keep : (k : Known) (next : Option ℕ) (is : List ItemTree) → (items_after k next is).records ≡ k.records
items_keep k next [] = refl
items_keep k next (i ∷ is) = items_keep (with_item k next i) (next_value (item_value k next i)) is

pub enum_keeps : (k : Known) (d : EnumTree) → (after_enum k d).records ≡ k.records
enum_keeps k d = items_keep (with_enum_name k d) (Some 0) d.items

-- what is known has the records that it had
pub stay : (names : List (List ℕ)) (old next new : Known) (all : List (List SlotCell)) → all ≡ record_parts names old → next.records ≡ old.records → new ≡ next → all ≡ record_parts names new
stay names old next new all same keeps is =
    same ∙ ap (λ (rs : List (List Slot)). map (λ xs. map (slot_part names) xs) rs) (sym keeps) ∙ ap (λ (k : Known). record_parts names k) (sym is)

parts_of_trees : (names : List (List ℕ)) (xs : List SlotTree) → map (λ x. slot_part names (slot_of x)) xs ≡ map (slot_part names) (map slot_of xs)
parts_of_trees names [] = refl
parts_of_trees names (x ∷ xs) = ap (λ r. slot_part names (slot_of x) ∷ r) (parts_of_trees names xs)

one_more : (names : List (List ℕ)) (rs : List (List Slot)) (xs : List Slot)
    → map (λ ys. map (slot_part names) ys) rs ++ map (slot_part names) xs ∷ [] ≡ map (λ ys. map (slot_part names) ys) (rs ++ xs ∷ [])
one_more names [] xs = refl
one_more names (r ∷ rs) xs = ap (λ t. map (slot_part names) r ∷ t) (one_more names rs xs)

-- one more record
pub grow : (names : List (List ℕ)) (old new : Known) (d : OutputTree) (all got : List (List SlotCell)) (cells : List SlotCell)
    → all ≡ record_parts names old → new ≡ after_record old d → cells ≡ map (λ x. slot_part names (slot_of x)) d.slots → got ≡ all ++ cells ∷ [] → got ≡ record_parts names new
grow names old new d all got cells same known made is =
    is ∙ ap₂ (λ (a : List (List SlotCell)) (c : List SlotCell). a ++ c ∷ []) same (made ∙ parts_of_trees names d.slots)
    ∙ one_more names old.records (map slot_of d.slots)
    ∙ ap (λ (k : Known). record_parts names k) (sym known)
