-- Elements of `swaps` that are read one by one.
use Rattle.std.proofs.Common.{◌≡◌, ℕ, zero, suc, ◌+◌, ◌<◌, ◌≤◌, List, [], ◌∷◌, ◌++◌, length, drop, get_or, inl, inr, sym, subst, append_assoc, arith}
use Rattle.std.proofs.lemmas.List.{at_drop_more, at_drop_all, append-nil}
use Rattle.serde_json.specs.Data.{Data, Items, no_items, item}
use Rattle.serde_json.specs.View.{view, items_view}
use Rattle.serde_json.specs.declared.value.Value.{Value}
use Rattle.std.specs.Prelude.{Option}
use Rattle.td_job_host.specs.Imports.{Module, Entry, JobError}
use Rattle.td_job_host.specs.Swaps.{Spells, AreSwaps, ElementFault, FirstSwapFault, MayLackText, MayLackSwap}

-- what was read so far is a beginning: with what the elements from here on are it is what all are; a fault of these is the first of
-- all; and where one was read, memory may have been lacking
pub record ReadSo (m : Module) (entry : Entry) (name : Option (List ℕ)) (values : List Value) (i : ℕ) (formats : List Module) (entries : List Entry) : Type 0 where
  pub made : (fs : List Module) (gs : List Entry) → AreSwaps m entry name (items_view (drop i values)) fs gs → AreSwaps m entry name (items_view values) (formats ++ fs) (entries ++ gs)
  pub faults : (e : JobError) → FirstSwapFault m entry name i (items_view (drop i values)) e → FirstSwapFault m entry name 0 (items_view values) e
  pub lacks : 0 < i → MayLackSwap m entry name (items_view values)

module _ (m : Module) (entry : Entry) (name : Option (List ℕ)) (values : List Value) where
  pub begun : (formats : List Module) (entries : List Entry) → formats ≡ [] → entries ≡ [] → ReadSo m entry name values 0 formats entries
  begun formats entries no_format no_entry =
      let start : ReadSo m entry name values 0 [] [] = record { made = λ fs gs h. h; faults = λ e h. h; lacks = λ some. absurd (omega (arith, some)) } in
      subst (λ (fs : List Module). ReadSo m entry name values 0 fs entries) (sym no_format) (subst (λ (gs : List Entry). ReadSo m entry name values 0 [] gs) (sym no_entry) start)

  pub lacks_at : (i : ℕ) (d : Value) → i < length values → MayLackText m entry name (view (get_or values i d)) → (0 < i → MayLackSwap m entry name (items_view values)) → MayLackSwap m entry name (items_view values)
  lacks_at zero d h lack before = subst (MayLackSwap m entry name) (sym (at_drop_more items_view values 0 d h)) lack
  lacks_at (suc k) d h lack before = before (omega arith)

  -- at the end nothing is left to read
  pub read_all : (i : ℕ) (formats : List Module) (entries : List Entry) → ReadSo m entry name values i formats entries → length values ≤ i → AreSwaps m entry name (items_view values) formats entries
  read_all i formats entries so h =
      let rest : AreSwaps m entry name (items_view (drop i values)) [] [] = subst (λ (vs : Items). AreSwaps m entry name vs [] []) (sym (at_drop_all items_view values i h)) tt in
      subst (λ (fs : List Module). AreSwaps m entry name (items_view values) fs entries) (append-nil formats)
      (subst (λ (gs : List Entry). AreSwaps m entry name (items_view values) (formats ++ []) gs) (append-nil entries) (so.made [] [] rest))

  module _ (i : ℕ) (d : Value) (h : i < length values) (formats : List Module) (entries : List Entry) (so : ReadSo m entry name values i formats entries) where
    here : items_view (drop i values) ≡ item (view (get_or values i d)) (items_view (drop (i + 1) values))
    here = at_drop_more items_view values i d h

    pub fault_here : (e : JobError) → ElementFault m entry name i (view (get_or values i d)) e → FirstSwapFault m entry name 0 (items_view values) e
    fault_here e wrong = so.faults e (subst (λ (vs : Items). FirstSwapFault m entry name i vs e) (sym here) (inl wrong))

    pub lacks_here : MayLackText m entry name (view (get_or values i d)) → MayLackSwap m entry name (items_view values)
    lacks_here lack = lacks_at i d h lack so.lacks

    module _ (f : Module) (g : Entry) (is : Spells m entry name (view (get_or values i d)) f g) where
      made_on : (fs : List Module) (gs : List Entry) → AreSwaps m entry name (items_view (drop (i + 1) values)) fs gs → AreSwaps m entry name (items_view values) ((formats ++ f ∷ []) ++ fs) ((entries ++ g ∷ []) ++ gs)
      made_on fs gs rest =
          let all = so.made (f ∷ fs) (g ∷ gs) (subst (λ (vs : Items). AreSwaps m entry name vs (f ∷ fs) (g ∷ gs)) (sym here) (is, rest)) in
          subst (λ (xs : List Module). AreSwaps m entry name (items_view values) xs ((entries ++ g ∷ []) ++ gs)) (sym (append_assoc formats (f ∷ []) fs))
          (subst (λ (ys : List Entry). AreSwaps m entry name (items_view values) (formats ++ f ∷ fs) ys) (sym (append_assoc entries (g ∷ []) gs)) all)

      pub swap_lacks : MayLackSwap m entry name (items_view values)
      swap_lacks = lacks_here (is.0, is.1, inr (inr (f, g, is.2)))

      pub read_on : (xs : List Module) (ys : List Entry) → xs ≡ formats ++ f ∷ [] → ys ≡ entries ++ g ∷ [] → ReadSo m entry name values (i + 1) xs ys
      read_on xs ys are_formats are_entries =
          let next : ReadSo m entry name values (i + 1) (formats ++ f ∷ []) (entries ++ g ∷ []) = record {
            made = made_on;
            faults = λ e later. so.faults e (subst (λ (vs : Items). FirstSwapFault m entry name i vs e) (sym here) (inr (f, g, is, later)));
            lacks = λ some. swap_lacks;
          } in
          subst (λ (fs : List Module). ReadSo m entry name values (i + 1) fs ys) (sym are_formats) (subst (λ (gs : List Entry). ReadSo m entry name values (i + 1) (formats ++ f ∷ []) gs) (sym are_entries) next)
