-- What Zeros and Zeroterm look at, in the words of the meaning.
use Rattle.std.proofs.Common.{◌≡◌, ℕ, zero, suc, ◌+◌, ◌*◌, ◌/◌, Bool, true, false, cond, List, [], ◌∷◌, refl, ap, ◌∙◌, arith, nat_eq, min, Option, Some}
use Rattle.td_num.specs.Numbers.{bytes_in, rising_at, places_from}
use Rattle.td_lower_means.specs.Imports.{NumberType, Width, LittleEndian, Parts}
use Rattle.td_num.specs.Lists.{one_more, first_where, looked_at}
use Rattle.td_meaning.specs.Meaning.{numbers_at, run_of, is_nonzero, byte_type}
use Rattle.td_ir.specs.declared.instructions.Instr.TheVariants as i
use Rattle.td_ir.specs.State.{State, reg, left}
use Rattle.td_ir.specs.Values as values
use Rattle.td_ir.specs.Flow.{zeros_flow, zeroterm_flow}
use Rattle.td_lower_means.proofs.BlockRun.{Passage, touching, onwards, Calling, passes}
use Rattle.td_lower_means.proofs.Valued.{nonzero}

numbers_same : (w : Width) (message : List ℕ) (n p : ℕ) → values.numbers_from message p (bytes_in w) n ≡ numbers_at (record { width = w; order = LittleEndian }) message p n
numbers_same w message zero p = refl
numbers_same w message (suc n) p = ap (λ l. rising_at message p (bytes_in w) ∷ l) (numbers_same w message n (p + bytes_in w))

first_same : (f g : ℕ → Bool) → ((x : ℕ) → f x ≡ g x) → (xs : List ℕ) → first_where f xs ≡ first_where g xs
first_same f g h [] = refl
first_same f g h (x ∷ xs) =
    ap (λ b. cond b (Some 0) (one_more (first_where f xs))) (h x)
    ∙ ap (λ o. cond (g x) (Some 0) (one_more o)) (first_same f g h xs)

nonzero_same : (x : ℕ) → values.is_nonzero x ≡ is_nonzero x
nonzero_same zero = refl
nonzero_same (suc x) = ap (λ b. cond b false true) (nonzero x)

by_one : (n : ℕ) → n ≡ n * 1
by_one n = omega arith

module _ (T : Parts) (self : ℕ) (message places : List ℕ) (calls : Calling) where
  pub zeros_look : (site : ℕ) (s : State) (go : State → Passage)
      → passes T self message places calls (i.Zeros site) go s
      ≡ (let first = first_where is_nonzero (numbers_at byte_type message s.pos (left s)) in
      touching (run_of byte_type s.pos (looked_at first (left s))) (onwards T calls (zeros_flow 1 site first s) go))
  zeros_look site s go =
      let n = left s in
      let first = first_where is_nonzero (numbers_at byte_type message s.pos n) in
      let F : Option ℕ → Passage = λ o. touching (places_from s.pos (looked_at o n)) (onwards T calls (zeros_flow 1 site o s) go) in
      ap F (first_same values.is_nonzero is_nonzero nonzero_same (values.numbers_from message s.pos 1 n) ∙ ap (first_where is_nonzero) (numbers_same byte_type.width message n s.pos))
      ∙ ap (λ k. touching (places_from s.pos k) (onwards T calls (zeros_flow 1 site first s) go)) (by_one (looked_at first n))

  pub zeroterm_look : (w : Width) (b site : ℕ) (s : State) (go : State → Passage)
      → passes T self message places calls (i.Zeroterm b (bytes_in w) site) go s
      ≡ (let bound = reg s b / bytes_in w in
      let room = left s / bytes_in w in
      let type : NumberType = record { width = w; order = LittleEndian } in
      let first = first_where (λ n. nat_eq n 0) (numbers_at type message s.pos (min bound room)) in
      touching (run_of type s.pos (looked_at first (min bound room))) (onwards T calls (zeroterm_flow 1 site (bytes_in w) bound room first s) go))
  zeroterm_look w b site s go =
      let bound = reg s b / bytes_in w in
      let room = left s / bytes_in w in
      let n = min bound room in
      let first = first_where (λ n. nat_eq n 0) (numbers_at (record { width = w; order = LittleEndian }) message s.pos n) in
      let F : Option ℕ → Passage = λ o. touching (places_from s.pos (looked_at o n * bytes_in w)) (onwards T calls (zeroterm_flow 1 site (bytes_in w) bound room o s) go) in
      ap F (first_same values.is_zero (λ n. nat_eq n 0) (λ x. refl) (values.numbers_from message s.pos (bytes_in w) n) ∙ ap (first_where (λ n. nat_eq n 0)) (numbers_same w message n s.pos))
