-- What is known of the cells of a descriptor that was accepted.
use Rattle.std.proofs.Common.{◌≡◌, ℕ, ◌<◌, ◌^◌, List, length, take, sym, subst, arith}
use Rattle.std.proofs.lemmas.List.{take_all}
use Rattle.std.specs.List.{All}
use Rattle.td_num.specs.Lists.{AreBytes}
use Rattle.td_descr.specs.Imports.{Module, Outcome, Load, Stretch, Parts}
use Rattle.td_core.specs.Outcome.{Ending, Accepted, Rejected, outcome_of}
use Rattle.td_meaning.specs.Meaning.{meaning}
use Rattle.td_meaning.specs.Throughout.{OnEnding}
use Rattle.td_stream.specs.Layouts.{plain}
use Rattle.td_stream.specs.Loads.{Carries, IsRising}
use Rattle.td_meaning.specs.Copies.{opened}
use Rattle.td_meaning.proofs.Copying.{opened_alone}
use Rattle.td_run.specs.Validation.{IsValidation}
use Rattle.td_descr.specs.Ring.{desc_entry, desc_args, desc_cells, desc_bytes, CellsAreWithin, IsRingCode, IsValidated, IfAccepted}
use Rattle.td_num.proofs.Digits.{are_bytes as bytes_of}

-- a fact of each ending that accepts, where this outcome is one
pub at_outcome : (n : ℕ) (b : List ℕ) (e : Ending) (o : Outcome) (P : List ℕ → Type 0) → outcome_of n b e ≡ o → OnEnding e (λ q cells. P (take n cells)) → IfAccepted o.verdict (P o.cells)
at_outcome n b (Accepted q cells) o P e h = subst (λ (x : Outcome). IfAccepted x.verdict (P x.cells)) e h
at_outcome n b (Rejected reason q trace cells) o P e h = subst (λ (x : Outcome). IfAccepted x.verdict (P x.cells)) e tt

-- nothing stands behind the three cells
first_three : (room most : ℕ) (e : Ending) → OnEnding e (λ q cells. CellsAreWithin room most cells) → OnEnding e (λ q cells. CellsAreWithin room most (take 3 cells))
first_three room most (Accepted q cells) h = subst (CellsAreWithin room most) (sym (take_all 3 cells (let n = h.count in omega (arith, n)))) h
first_three room most (Rejected reason q trace cells) h = h

abbrev pub SomeCarries : Type 0
SomeCarries = (layout : List Stretch) (loads : List Load) → IsRising loads → (b : List ℕ) × Carries layout b loads × All (λ x. x < 256) b

-- a descriptor that was validated so and accepted lies within the room
pub accepted_within : (c : Parts) (room most : ℕ) (loads : List Load) (o : Outcome) → SomeCarries → IsRingCode c room most → IsValidated c room most loads o
    → IfAccepted o.verdict (CellsAreWithin room most o.cells)
accepted_within c room most loads o carry code v =
    let message = carry (plain desc_bytes) loads v.validated.rising in
    let b : List ℕ = message.0 in
    let bytes : AreBytes b = bytes_of b message.2 in
    let size : length b < 2 ^ 32 = (let e = message.1.size in omega (arith, e)) in
    let is = (v.validated.holds b message.1).meant code.format code.code (code.ring.sound b bytes size) in
    let alone = opened_alone code.format desc_entry desc_cells code.ring.bare in
    let end : List ℕ → Ending = λ cells. (meaning code.format desc_entry (desc_args room most) cells b).ending in
    let within : OnEnding (end (opened code.format desc_entry desc_cells)) (λ q cells. CellsAreWithin room most cells) =
    subst (λ cells. OnEnding (end cells) (λ q cells. CellsAreWithin room most cells)) (sym alone) (code.ring.within b bytes) in
    at_outcome 3 b (end (opened code.format desc_entry desc_cells)) o (CellsAreWithin room most) is.same (first_three room most (end (opened code.format desc_entry desc_cells)) within)

pub validated_by : (c : Parts) (room most : ℕ) (loads : List Load) (o : Outcome) (layout : List Stretch) (cells : List ℕ) → layout ≡ plain desc_bytes → cells ≡ desc_cells
    → length o.cells ≡ 3 → IsValidation c desc_entry (desc_args room most) cells layout loads o → IsValidated c room most loads o
validated_by c room most loads o layout cells e f n v = record {
  validated = subst (λ (x : List Stretch × List ℕ). IsValidation c desc_entry (desc_args room most) x.1 x.0 loads o) (λ i. (e i, f i)) v;
  cells = n;
}
