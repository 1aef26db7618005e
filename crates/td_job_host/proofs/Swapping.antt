-- The elements of `swaps` stand for one list of versions, or have one first fault, and never both; and they always do one of the two.
use Rattle.std.proofs.Common.{◌≡◌, ℕ, ◌+◌, List, [], ◌∷◌, ◌++◌, length, map, suc, Option, Some, None, ◌⊎◌, inl, inr, refl, sym, ap, subst, ◌∙◌}
use Rattle.std.specs.List.{All}
use Rattle.std.proofs.lemmas.List.Elements.{All-nil, All-cons}
use Rattle.serde_json.specs.Data.{Data, Items, no_items, item}
use Rattle.serde_json.specs.Events.{items_len}
use Rattle.serde_json.specs.Find.{as_str}
use Rattle.td_job_host.specs.Imports.{Module, Entry, FrontError, JobError, Fault, NoMemory}
use Rattle.td_core.specs.Entries.{entry_definition}
use Rattle.td_front.specs.ModuleText.{IsModuleText, RefusedBy}
use Rattle.td_front.specs.Laws.{OneModuleEach, OneRefusalEach, NeverBoth, AlwaysOne}
use Rattle.td_job.specs.declared.error.Key.TheVariants as key
use Rattle.td_job.specs.declared.error.JobRule.TheVariants as rule
use Rattle.td_job.specs.declared.error.Path.TheVariants as path
use Rattle.td_job.specs.Jobs.{IsEntry}
use Rattle.td_job.proofs.Existing.{entry_or_fault}
use Rattle.td_job.proofs.Unique.{one_entry}
use Rattle.td_job.proofs.Unique.{entry_or_fault as never_both_entry}
use Rattle.td_job_host.specs.Swaps.{params_named, cells_named, buffers_named, Replaces, IsSwap, NoSwap, Spells, AreSwaps, ElementFault, FirstSwapFault}
use Rattle.td_job_host.proofs.Alike.{named_decided, room_decided, list_decided}

-- what is known of module texts
pub record Texts : Type 0 where
  pub one_module : OneModuleEach
  pub never_both : NeverBoth

module _ (m : Module) (entry : Entry) (name : Option (List ℕ)) where
  one_replacing : (f : Module) (a b : Entry) → Replaces m entry name f a → Replaces m entry name f b → a ≡ b
  one_replacing f a b ha hb = one_entry f name a b ha.named hb.named

  -- a module has an entry point with which it may replace another, or has none
  pub replaces_or_not : (f : Module) → ((g : Entry) × Replaces m entry name f g) ⊎ ((g : Entry) → Replaces m entry name f g → ⊥)
  replaces_or_not f =
      elim (entry_or_fault f name) [
        | inr wrong ↦ inr (λ g h. never_both_entry f name g wrong.0 h.named wrong.1)
        | inl found ↦
            let g = found.0 in
            elim (list_decided named_decided (params_named f (entry_definition f g.number)) (params_named m (entry_definition m entry.number))) [
              | inr other ↦ inr (λ x h. other (subst (λ (y : Entry). params_named f (entry_definition f y.number) ≡ params_named m (entry_definition m entry.number)) (one_entry f name x g h.named found.1) h.params))
              | inl params ↦ elim (list_decided named_decided (cells_named f (entry_definition f g.number)) (cells_named m (entry_definition m entry.number))) [
                | inr other ↦ inr (λ x h. other (subst (λ (y : Entry). cells_named f (entry_definition f y.number) ≡ cells_named m (entry_definition m entry.number)) (one_entry f name x g h.named found.1) h.cells))
                | inl cells ↦ elim (list_decided room_decided (buffers_named f (entry_definition f g.number)) (buffers_named m (entry_definition m entry.number))) [
                  | inr other ↦ inr (λ x h. other (subst (λ (y : Entry). buffers_named f (entry_definition f y.number) ≡ buffers_named m (entry_definition m entry.number)) (one_entry f name x g h.named found.1) h.buffers))
                  | inl buffers ↦ inl (g, record { named = found.1; params = params; cells = cells; buffers = buffers })
                ]
              ]
            ]
      ]

  pub swap_or_not : AlwaysOne → (text : List ℕ) → ((f : Module) × (g : Entry) × IsSwap m entry name text f g) ⊎ NoSwap m entry name text
  swap_or_not always text =
      elim (always text) [
        | inr refused ↦ inr (inl refused)
        | inl stands ↦ elim (replaces_or_not stands.0) [
          | inl good ↦ inl (stands.0, good.0, (stands.1, good.1))
          | inr none ↦ inr (inr (stands.0, stands.1, none))
        ]
      ]

  module _ (texts : Texts) where
    no_swap : (text : List ℕ) (f : Module) (g : Entry) → IsSwap m entry name text f g → NoSwap m entry name text → ⊥
    no_swap text f g is (inl refused) = texts.never_both text f refused.0 is.0 refused.1
    no_swap text f g is (inr other) =
        let same = texts.one_module text f other.0 is.0 other.1 in
        other.2 g (subst (λ (x : Module). Replaces m entry name x g) same is.1)

    -- an element spells one module with one entry point
    one_spelled : (value : Data) (f x : Module) (g y : Entry) → Spells m entry name value f g → Spells m entry name value x y → (f ≡ x) × (g ≡ y)
    one_spelled value f x g y a b =
        let ta = a.1 in
        let tb = b.1 in
        let text : b.0 ≡ a.0 = cc in
        let same = texts.one_module a.0 f x a.2.0 (subst (λ (t : List ℕ). IsModuleText t x) text b.2.0) in
        (same, one_replacing x g y (subst (λ (z : Module). Replaces m entry name z g) same a.2.1) b.2.1)

    pub one_versions : (values : Items) (fs xs : List Module) (gs ys : List Entry) → AreSwaps m entry name values fs gs → AreSwaps m entry name values xs ys → (fs ≡ xs) × (gs ≡ ys)
    one_versions no_items [] [] [] [] a b = (refl, refl)
    one_versions no_items [] [] [] (y ∷ ys) a b = absurd b
    one_versions no_items [] (x ∷ xs) [] ys a b = absurd b
    one_versions no_items [] xs (g ∷ gs) ys a b = absurd a
    one_versions no_items (f ∷ fs) xs gs ys a b = absurd a
    one_versions (item value values) [] xs gs ys a b = absurd a
    one_versions (item value values) (f ∷ fs) xs [] ys a b = absurd a
    one_versions (item value values) (f ∷ fs) [] (g ∷ gs) ys a b = absurd b
    one_versions (item value values) (f ∷ fs) (x ∷ xs) (g ∷ gs) [] a b = absurd b
    one_versions (item value values) (f ∷ fs) (x ∷ xs) (g ∷ gs) (y ∷ ys) a b =
        let first = one_spelled value f x g y a.0 b.0 in
        let rest = one_versions values fs xs gs ys a.1 b.1 in
        ((λ i. first.0 i ∷ rest.0 i), (λ i. first.1 i ∷ rest.1 i))

    -- an element that is at fault spells none
    fault_or_spelled : (k : ℕ) (value : Data) (e : JobError) (f : Module) (g : Entry) → ElementFault m entry name k value e → Spells m entry name value f g → ⊥
    fault_or_spelled k value e f g (inl none) is = let some = is.1 in let no = none.0 in cc
    fault_or_spelled k value e f g (inr wrong) is =
        let ta = is.1 in
        let tb = wrong.1 in
        let text : wrong.0 ≡ is.0 = cc in
        no_swap is.0 f g is.2 (subst (λ (t : List ℕ). NoSwap m entry name t) text wrong.2)

    pub fault_or_versions : (k : ℕ) (values : Items) (e : JobError) (fs : List Module) (gs : List Entry) → FirstSwapFault m entry name k values e → AreSwaps m entry name values fs gs → ⊥
    fault_or_versions k no_items e fs gs wrong is = wrong
    fault_or_versions k (item value values) e [] gs wrong is = is
    fault_or_versions k (item value values) e (f ∷ fs) [] wrong is = is
    fault_or_versions k (item value values) e (f ∷ fs) (g ∷ gs) (inl wrong) is = fault_or_spelled k value e f g wrong is.0
    fault_or_versions k (item value values) e (f ∷ fs) (g ∷ gs) (inr later) is = fault_or_versions (k + 1) values e fs gs later.3 is.1

    one_element_fault : (k : ℕ) (value : Data) (d e : JobError) → ElementFault m entry name k value d → ElementFault m entry name k value e → d ≡ e
    one_element_fault k value d e (inl a) (inl b) = a.1 ∙ sym b.1
    one_element_fault k value d e (inl a) (inr b) = let no = a.0 in let some = b.1 in absurd (cc)
    one_element_fault k value d e (inr a) (inl b) = let some = a.1 in let no = b.0 in absurd (cc)
    one_element_fault k value d e (inr a) (inr b) = a.3 ∙ sym b.3

    pub one_swap_fault : (k : ℕ) (values : Items) (d e : JobError) → FirstSwapFault m entry name k values d → FirstSwapFault m entry name k values e → d ≡ e
    one_swap_fault k no_items d e a b = absurd a
    one_swap_fault k (item value values) d e (inl a) (inl b) = one_element_fault k value d e a b
    one_swap_fault k (item value values) d e (inl a) (inr b) = absurd (fault_or_spelled k value d b.0 b.1 a b.2)
    one_swap_fault k (item value values) d e (inr a) (inl b) = absurd (fault_or_spelled k value e a.0 a.1 b a.2)
    one_swap_fault k (item value values) d e (inr a) (inr b) = one_swap_fault (k + 1) values d e a.3 b.3

  -- the elements stand for versions, or there is a first fault
  by_text : AlwaysOne → (k : ℕ) (value : Data) (text : Option (List ℕ)) → as_str value ≡ text
      → ((f : Module) × (g : Entry) × Spells m entry name value f g) ⊎ ((e : JobError) × ElementFault m entry name k value e)
  by_text always k value None e = inr (Fault rule.Form (path.Element key.Swaps k), inl (e, refl))
  by_text always k value (Some text) e =
      elim (swap_or_not always text) [
        | inl good ↦ inl (good.0, good.1, (text, e, good.2))
        | inr none ↦ inr (Fault rule.Swap (path.Element key.Swaps k), inr (text, e, none, refl))
      ]

  pub versions_or_fault : AlwaysOne → (k : ℕ) (values : Items)
      → ((fs : List Module) × (gs : List Entry) × AreSwaps m entry name values fs gs) ⊎ ((e : JobError) × FirstSwapFault m entry name k values e)
  versions_or_fault always k no_items = inl ([], [], tt)
  versions_or_fault always k (item value values) =
      elim (by_text always k value (as_str value) refl) [
        | inr wrong ↦ inr (wrong.0, inl wrong.1)
        | inl good ↦ elim (versions_or_fault always (k + 1) values) [
          | inl rest ↦ inl (good.0 ∷ rest.0, good.1 ∷ rest.1, (good.2, rest.2))
          | inr later ↦ inr (later.0, inr (good.0, good.1, good.2, later.1))
        ]
      ]

  -- as many modules and entry points as elements, each one for which a text stands and that may replace the other
  pub as_many_formats : (values : Items) (fs : List Module) (gs : List Entry) → AreSwaps m entry name values fs gs → length fs ≡ items_len values
  as_many_formats no_items [] [] h = refl
  as_many_formats no_items [] (g ∷ gs) h = absurd h
  as_many_formats no_items (f ∷ fs) gs h = absurd h
  as_many_formats (item value values) [] gs h = absurd h
  as_many_formats (item value values) (f ∷ fs) [] h = absurd h
  as_many_formats (item value values) (f ∷ fs) (g ∷ gs) h = ap suc (as_many_formats values fs gs h.1)

  pub as_many_entries : (values : Items) (fs : List Module) (gs : List Entry) → AreSwaps m entry name values fs gs → length gs ≡ items_len values
  as_many_entries no_items [] [] h = refl
  as_many_entries no_items [] (g ∷ gs) h = absurd h
  as_many_entries no_items (f ∷ fs) gs h = absurd h
  as_many_entries (item value values) [] gs h = absurd h
  as_many_entries (item value values) (f ∷ fs) [] h = absurd h
  as_many_entries (item value values) (f ∷ fs) (g ∷ gs) h = ap suc (as_many_entries values fs gs h.1)
