-- What is known after the items of an enum.
use Rattle.std.proofs.Common.{◌≡◌, ℕ, ◌+◌, List, [], ◌∷◌, ◌++◌, Option, Some, refl, ap, ◌∙◌}
use Rattle.td_ast.specs.declared.definitions.ItemTree.{ItemTree}
use Rattle.td_ast.specs.declared.definitions.EnumTree.{EnumTree}
use Rattle.td_elab_rules.specs.declared.known.Known.{Known}
use Rattle.td_elab_rules.specs.Enums.{next_value, item_value, with_item, items_after, item_values, with_enum_name, after_enum}

-- the values of enums stay
keeps_listed : (k : Known) (next : Option ℕ) (is : List ItemTree) → (items_after k next is).listed ≡ k.listed
keeps_listed k next [] = refl
keeps_listed k next (i ∷ is) = keeps_listed (with_item k next i) (next_value (item_value k next i)) is

-- one more enum
pub enum_known : (k : Known) (d : EnumTree) (after : Known) (count : ℕ) (values : List ℕ) (listed : List (List ℕ))
    → after ≡ items_after (with_enum_name k d) (Some 0) d.items
    → count ≡ k.count + 1
    → values ≡ item_values (with_enum_name k d) (Some 0) d.items
    → listed ≡ after.listed ++ values ∷ []
    → record after { count = count; listed = listed } ≡ after_enum k d
enum_known k d after count values listed a c v l =
    let longer =
    l ∙ ap (λ u. u.listed ++ values ∷ []) a
    ∙ ap (λ ls. ls ++ values ∷ []) (keeps_listed (with_enum_name k d) (Some 0) d.items)
    ∙ ap (λ vs. k.listed ++ vs ∷ []) v in
    λ i. record (a i) { count = c i; listed = longer i }
