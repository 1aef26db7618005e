-- What DESCRIPTOR means of sixteen bytes.
use Rattle.std.proofs.Common.{◌≡◌, ℕ, ◌+◌, ◌/◌, ◌%◌, ◌<◌, ◌≤◌, Bool, true, false, cond, nat_eq, List, [], ◌∷◌, ◌++◌, length, refl, sym, subst, arith}
use Rattle.td_num.specs.Lists.{AreBytes}
use Rattle.td_num.specs.declared.number.Width.TheVariants.{Two, Four, Eight}
use Rattle.td_num.specs.Numbers.{number_at, places_from}
use Rattle.td_core.specs.declared.module.NameId.{NameId}
use Rattle.td_core.specs.Term.{done}
use Rattle.td_core.specs.Outcome.{accepted}
use Rattle.td_meaning.specs.Doing.{On, after, either_way, doing}
use Rattle.td_meaning.specs.Meaning.{Sense, below, fields_meaning, parts_meaning, ended}
use Rattle.td_chain.specs.Chain.{is_set}
use Rattle.td_chain_means.specs.Format.{little, address_part, length_part, has_next_part, writes_part, is_indirect_part, other_part, next_part, address_field, length_field, flags_field, next_field, descriptor_definition, no_cells}
use Rattle.td_chain_means.specs.Meant.{said, delivered, IsAdmitted, Ends, Means, bytes_from, DescriptorsMean, DescriptorsMeanAt, IsWorkedDescriptor}
use Rattle.td_chain_means.proofs.Ending.{part_ends, parts_end, field_ends, fields_end}
use Rattle.td_chain_means.proofs.Spelled.{are_bytes, are_sixteen, number_spelled}
use Rattle.td_chain_means.proofs.Numbers.{size_is, flags_are, next_is, bit_is}
use Rattle.td_chain_means.proofs.Tests.{truly, up_to_unmet, lies_met, lies_unmet, table_met, table_unmet, next_met, next_unmet}

pub worked : IsWorkedDescriptor
unfolding below fields_meaning parts_meaning
worked = record { last = refl; next = refl; table = refl; beyond = tt; and_next = tt; part = tt; past = tt }

abbrev flag : List ℕ → ℕ → ℕ
flag b weight = number_at (little Two) b 12 / weight % 2

-- what is admitted and delivered, by address, and size, flags and next
abbrev Is : ℕ → ℕ → ℕ → ℕ → ℕ × (ℕ × ℕ) → Type 0
Is entries memory indirect a x = IsAdmitted entries memory indirect a x.0 (is_set 1 x.1.0) (is_set 4 x.1.0) x.1.1

abbrev cells_by : ℕ → ℕ × (ℕ × ℕ) → List ℕ
cells_by a x = delivered a x.0 (is_set 1 x.1.0) (is_set 2 x.1.0) (is_set 4 x.1.0) x.1.1

abbrev MeansBy : ℕ → ℕ → ℕ → List ℕ → ℕ × (ℕ × ℕ) → Type 0
MeansBy entries memory indirect b x =
    let a = number_at (little Eight) b 0 in
    Ends (said entries memory indirect b).ending (λ q cells. (q ≡ 16) × (cells ≡ cells_by a x) × Is entries memory indirect a x) (Is entries memory indirect a x → ⊥)

-- the last three of the four numbers
abbrev numbers : List ℕ → ℕ × (ℕ × ℕ)
numbers b = (number_at (little Four) b 8, (number_at (little Two) b 12, number_at (little Two) b 14))

-- an action that does the one or the other
fork_acts : (t : Bool) (env places : List ℕ) (p q : ℕ) (a b : List ℕ) → ended (after (either_way t (On a) (On b)) (doing done env places)) p q ≡ accepted q (either_way t a b)
fork_acts true env places p q a b = refl
fork_acts false env places p q a b = refl

cells_are : (t : Bool) (a s h w i n w' i' : ℕ) → h ≡ cond t 1 0 → w ≡ w' → i ≡ i'
    → either_way (truly t) (a ∷ s ∷ h ∷ w ∷ i ∷ n ∷ []) (a ∷ s ∷ h ∷ w ∷ i ∷ 0 ∷ []) ≡ a ∷ s ∷ cond t 1 0 ∷ w' ∷ i' ∷ cond t n 0 ∷ []
cells_are true a s h w i n w' i' eh ew ei = λ k. a ∷ s ∷ eh k ∷ ew k ∷ ei k ∷ n ∷ []
cells_are false a s h w i n w' i' eh ew ei = λ k. a ∷ s ∷ eh k ∷ ew k ∷ ei k ∷ 0 ∷ []

module _ (sets : List (List ℕ)) (senses : ℕ → Sense) (ty : NameId) (entries memory indirect : ℕ) (b : List ℕ) (bytes : AreBytes b) (len : length b ≡ 16) where
  abbrev Done : ℕ → List ℕ → Type 0
  Done q cells = (q ≡ 16) × (cells ≡ cells_by (number_at (little Eight) b 0) (numbers b)) × Is entries memory indirect (number_at (little Eight) b 0) (numbers b)

  abbrev Not : Type 0
  Not = Is entries memory indirect (number_at (little Eight) b 0) (numbers b) → ⊥

  fields_mean : Ends (fields_meaning sets senses ty (address_field ∷ length_field ∷ flags_field ∷ next_field ∷ []) (entries ∷ memory ∷ indirect ∷ []) (places_from 0 6) b (length b) 0 no_cells).ending Done Not
  fields_mean =
      let ps = places_from 0 6 in
      let end = length b in
      let a = number_at (little Eight) b 0 in
      let s = number_at (little Four) b 8 in
      let f = number_at (little Two) b 12 in
      let h = flag b 1 in
      let w = flag b 2 in
      let t = flag b 4 in
      let o = f / 8 % 8192 in
      let n = number_at (little Two) b 14 in
      let fits8 : 8 ≤ end = omega (arith, len) in
      let fits12 : 12 ≤ end = omega (arith, len) in
      let fits14 : 14 ≤ end = omega (arith, len) in
      let fits16 : 16 ≤ end = omega (arith, len) in
      let has : h < 2 = omega arith in
      let writes : w < 2 = omega arith in
      let refers : t < 2 = omega arith in
      let e1 = entries ∷ memory ∷ indirect ∷ a ∷ [] in
      let e2 = entries ∷ memory ∷ indirect ∷ a ∷ s ∷ [] in
      let e3 = entries ∷ memory ∷ indirect ∷ a ∷ s ∷ h ∷ [] in
      let e4 = entries ∷ memory ∷ indirect ∷ a ∷ s ∷ h ∷ w ∷ [] in
      let e5 = entries ∷ memory ∷ indirect ∷ a ∷ s ∷ h ∷ w ∷ t ∷ [] in
      let e6 = entries ∷ memory ∷ indirect ∷ a ∷ s ∷ h ∷ w ∷ t ∷ o ∷ [] in
      let e7 = entries ∷ memory ∷ indirect ∷ a ∷ s ∷ h ∷ w ∷ t ∷ o ∷ n ∷ [] in
      let c1 = a ∷ 0 ∷ 0 ∷ 0 ∷ 0 ∷ 0 ∷ [] in
      let c2 = a ∷ s ∷ 0 ∷ 0 ∷ 0 ∷ 0 ∷ [] in
      let c3 = a ∷ s ∷ h ∷ 0 ∷ 0 ∷ 0 ∷ [] in
      let c4 = a ∷ s ∷ h ∷ w ∷ 0 ∷ 0 ∷ [] in
      let c5 = a ∷ s ∷ h ∷ w ∷ t ∷ 0 ∷ [] in
      let with_next = a ∷ s ∷ h ∷ w ∷ t ∷ n ∷ [] in
      let c6 = either_way (truly (nat_eq h 1)) with_next c5 in
      let F = field_ends sets senses ty ps b end Done Not in
      F Eight (address_part ∷ []) (length_field ∷ flags_field ∷ next_field ∷ []) (entries ∷ memory ∷ indirect ∷ []) 0 no_cells fits8
      (part_ends sets senses ty ps b end _ Not a 0 8 address_part [] (entries ∷ memory ∷ indirect ∷ []) no_cells c1 refl
      (λ met1. parts_end sets senses ty ps b end _ Not a 0 8 e1 c1
      (F Four (length_part ∷ []) (flags_field ∷ next_field ∷ []) e1 8 c1 fits12
      (part_ends sets senses ty ps b end _ Not s 8 12 length_part [] e1 c1 c2 refl
      (λ met2. parts_end sets senses ty ps b end _ Not s 8 12 e2 c2
      (F Two (has_next_part ∷ writes_part ∷ is_indirect_part ∷ other_part ∷ []) (next_field ∷ []) e2 12 c2 fits14
      (part_ends sets senses ty ps b end _ Not f 12 14 has_next_part (writes_part ∷ is_indirect_part ∷ other_part ∷ []) e2 c2 c3 refl
      (λ none3. part_ends sets senses ty ps b end _ Not f 12 14 writes_part (is_indirect_part ∷ other_part ∷ []) e3 c3 c4 refl
      (λ none4. part_ends sets senses ty ps b end _ Not f 12 14 is_indirect_part (other_part ∷ []) e4 c4 c5 refl
      (λ met5. part_ends sets senses ty ps b end _ Not f 12 14 other_part [] e5 c5 c5 refl
      (λ none6. parts_end sets senses ty ps b end _ Not f 12 14 e6 c5
      (F Two (next_part ∷ []) [] e6 14 c5 fits16
      (part_ends sets senses ty ps b end _ Not n 14 16 next_part [] e6 c5 c6 (fork_acts (truly (nat_eq h 1)) (e7 ++ 14 ∷ []) ps 14 16 with_next c5)
      (λ met7. parts_end sets senses ty ps b end _ Not n 14 16 e7 c6
      (fields_end sets senses ty ps b end Done Not e7 c6 16 (
        refl,
        cells_are (nat_eq h 1) a s h w t n (cond (nat_eq w 1) 1 0) (cond (nat_eq t 1) 1 0) (bit_is h has) (bit_is w writes) (bit_is t refers),
        record {
          fits = lies_met a s memory met2;
          table = table_met indirect h t s met5;
          entry = next_met h n entries met7;
        },
      )))
      (λ unmet7 is. next_unmet h n entries has unmet7 is.entry))))
      (λ never. absurd never))
      (λ unmet5 is. table_unmet indirect h t s has refers unmet5 is.table))
      (λ never. absurd never))
      (λ never. absurd never))))
      (λ unmet2 is. lies_unmet a s memory unmet2 is.fits))))
      (λ unmet1 is. let past = up_to_unmet a memory unmet1 in let fits = is.fits in omega (arith, past, fits)))

pub descriptors_mean : DescriptorsMean
unfolding below
descriptors_mean entries memory indirect b bytes len =
    let size = size_is b bytes in
    let flags = flags_are b bytes in
    let next = next_is b bytes in
    let here : MeansBy entries memory indirect b (numbers b) =
    fields_mean [] (below [] (descriptor_definition ∷ []) 0) descriptor_definition.name entries memory indirect b bytes len in
    subst (MeansBy entries memory indirect b) (λ i. (size i, (flags i, next i))) here

-- the same of a memory's sixteen bytes
pub descriptors_mean_at : DescriptorsMeanAt
descriptors_mean_at entries memory indirect m fits place =
    let b = bytes_from m place 16 in
    let first = number_spelled m fits place place 16 0 (omega arith) (omega arith) in
    let second = number_spelled m fits (place + 8) place 16 8 (omega arith) (omega arith) in
    subst (λ (x : ℕ × ℕ). Means entries memory indirect b x.0 x.1) (λ i. (sym first i, sym second i))
    (descriptors_mean entries memory indirect b (are_bytes m place 16) (are_sixteen m place 16))
