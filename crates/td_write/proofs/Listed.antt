-- Numbers up to a zero, step by step.
use Rattle.std.proofs.Common.{◌≡◌, ℕ, ◌-◌, ◌/◌, true, false, List, [], ◌∷◌, ◌++◌, length, take, ap, ◌∙◌, arith, length-append}
use Rattle.std.specs.Prelude.{nat_le}
use Rattle.std.proofs.Math.Seq.{take-append_seam}
use Rattle.std.proofs.lemmas.List.{append-nil}
use Rattle.td_num.specs.Numbers.{bytes_in}
use Rattle.td_write.specs.Imports.{NumberType, Constraint, Shape, Broken}
use Rattle.td_write_values.specs.Datum.{Datum, Sequence, data_of}
use Rattle.td_write_values.specs.Spelling.{ends_in_zero}
use Rattle.td_write_values.specs.Writing.{Claim, Done, Refused, after_writing, followed, wanted, items_written, number_written, up_to_zero_written}
use Rattle.td_write.specs.declared.halt.Halt.{Halt}
use Rattle.td_write.specs.declared.halt.Halt.TheVariants as halt
use Rattle.td_write.specs.Writes.{Halts}
use Rattle.td_write.proofs.Totals.{total_followed, done_parts}
use Rattle.td_write.proofs.Definitions.{data_back}

-- what was put last is taken away
pub popped : (x : ℕ) (old mid new : List ℕ) (n : ℕ) → mid ≡ old ++ x ∷ [] → n ≡ length mid → new ≡ take (n - 1) mid → new ≡ old
popped x old mid new n e len f =
    let k : n - 1 ≡ length old = omega (arith, len, ap length e, length-append old (x ∷ [])) in
    f ∙ (λ i. take (k i) (e i)) ∙ take-append_seam old (x ∷ [])

module _ (t : NumberType) (size : ℕ) (path : List ℕ) (cells : List ℕ) (v : Datum) (vs : List Datum) (e : v ≡ Sequence (data_of vs)) where
  up_to_zero_is : (p : ℕ) → up_to_zero_written t size path p cells v
      ≡ wanted (ends_in_zero vs) Shape path (followed (items_written (number_written t) path 0 p cells vs) p (λ q more. wanted (nat_le (length vs) (size / bytes_in t.width)) (Broken Constraint) path (Done [] more [])))
  up_to_zero_is p =
      ap (up_to_zero_written t size path p cells) e
      ∙ ap (λ ws. wanted (ends_in_zero ws) Shape path (followed (items_written (number_written t) path 0 p cells ws) p (λ q more. wanted (nat_le (length ws) (size / bytes_in t.width)) (Broken Constraint) path (Done [] more [])))) (data_back vs)

  pub up_to_zero_shape : (p : ℕ) → ends_in_zero vs ≡ false → up_to_zero_written t size path p cells v ≡ Refused Shape path
  up_to_zero_shape p z =
      up_to_zero_is p ∙ ap (λ b. wanted b Shape path (followed (items_written (number_written t) path 0 p cells vs) p (λ q more. wanted (nat_le (length vs) (size / bytes_in t.width)) (Broken Constraint) path (Done [] more [])))) z

  up_to_zero_items : (p : ℕ) → ends_in_zero vs ≡ true → up_to_zero_written t size path p cells v
      ≡ followed (items_written (number_written t) path 0 p cells vs) p (λ q more. wanted (nat_le (length vs) (size / bytes_in t.width)) (Broken Constraint) path (Done [] more []))
  up_to_zero_items p z =
      up_to_zero_is p ∙ ap (λ b. wanted b Shape path (followed (items_written (number_written t) path 0 p cells vs) p (λ q more. wanted (nat_le (length vs) (size / bytes_in t.width)) (Broken Constraint) path (Done [] more [])))) z

  pub up_to_zero_halts : (h : Halt) (at : List ℕ) (p : ℕ) → ends_in_zero vs ≡ true → Halts h at (items_written (number_written t) path 0 p cells vs) → Halts h at (up_to_zero_written t size path p cells v)
  up_to_zero_halts (halt.Broken rule) at p z f =
      up_to_zero_items p z ∙ ap (λ w. followed w p (λ q more. wanted (nat_le (length vs) (size / bytes_in t.width)) (Broken Constraint) path (Done [] more []))) f
  up_to_zero_halts halt.NoMemory at p z f = tt

  pub up_to_zero_bound : (old new : List ℕ) (claims : List Claim) → ends_in_zero vs ≡ true → after_writing old claims (items_written (number_written t) path 0 (length old) cells vs) ≡ Done new cells claims → nat_le (length vs) (size / bytes_in t.width) ≡ false
      → up_to_zero_written t size path (length old) cells v ≡ Refused (Broken Constraint) path
  up_to_zero_bound old new claims z f b =
      let d = done_parts old new cells claims claims (items_written (number_written t) path 0 (length old) cells vs) f in
      up_to_zero_items (length old) z
      ∙ ap (λ w. followed w (length old) (λ q more. wanted (nat_le (length vs) (size / bytes_in t.width)) (Broken Constraint) path (Done [] more []))) d.2
      ∙ ap (λ x. after_writing d.0 d.1 (wanted x (Broken Constraint) path (Done [] cells []))) b

  pub up_to_zero_done : (old new : List ℕ) (claims : List Claim) → ends_in_zero vs ≡ true → after_writing old claims (items_written (number_written t) path 0 (length old) cells vs) ≡ Done new cells claims → nat_le (length vs) (size / bytes_in t.width) ≡ true
      → after_writing old claims (up_to_zero_written t size path (length old) cells v) ≡ Done new cells claims
  up_to_zero_done old new claims z f b =
      ap (after_writing old claims) (up_to_zero_items (length old) z)
      ∙ total_followed old new cells claims claims (items_written (number_written t) path 0 (length old) cells vs) (λ q more. wanted (nat_le (length vs) (size / bytes_in t.width)) (Broken Constraint) path (Done [] more [])) f
      ∙ ap (λ x. after_writing new claims (wanted x (Broken Constraint) path (Done [] cells []))) b
      ∙ (λ k. Done (append-nil new k) cells (append-nil claims k))
