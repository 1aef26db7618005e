-- Numbers of an image's code are those of the format: constants, divisors and the numbers of sets have 64 bits, rooms of buffers 32. Cited by other crates.
use Rattle.std.proofs.Common.{◌≡◌, ℕ, zero, suc, ◌^◌, ◌<◌, List, [], ◌∷◌, Some, None, sym, subst}
use Rattle.std.specs.Prelude.{slice_index_or}
use Rattle.td_num.specs.Lists.{Each}
use Rattle.td_ir.specs.declared.instructions.Instr.{Instr}
use Rattle.td_ir.specs.declared.instructions.Instr.TheVariants as i
use Rattle.td_ir.specs.declared.tables.Parts.{Parts}
use Rattle.td_ir.specs.declared.tables.Routine.{Routine}
use Rattle.td_ir.specs.Fields.{fields_of}
use Rattle.td_image.specs.declared.routines.Room.{Room}
use Rattle.td_image.specs.declared.version.ImageVersion.{ImageVersion}
use Rattle.td_image.specs.declared.version.ImageVersion.TheVariants.{First, Second, Third, Fourth}
use Rattle.td_image.specs.Versions.{version_for}
use Rattle.td_image.specs.Format.{Format, all_fit}
use Rattle.td_image.specs.Image as format
use Rattle.td_image.specs.Answer.{IsImage, code_of, written}
use Rattle.td_image.specs.Laws.{ReadIsWritten}
use Rattle.td_prog_code.specs.Sentence.{HasNumber, HasNumbers}

-- of rows that fit each
pub each_of : {S A : Type 0} (f : S → Format A) (next : S → A → S) (P : A → Type 0) → ((s : S) (x : A) → (f s).Fits x → P x) → (s : S) (xs : List A) → all_fit f next s xs → Each P xs
unfolding all_fit
each_of f next P h s [] k = tt
each_of f next P h s (x ∷ xs) k = (h s x k.0, each_of f next P h (next s x) xs k.1)

set_numbers : (left : ℕ) (xs : List ℕ) → (format.set left).Fits xs → Each (λ v. v < 2 ^ 64) xs
unfolding format.set
set_numbers left xs h = each_of format.element (λ last x. Some x) (λ v. v < 2 ^ 64) (λ s x k. k.0) None xs h.1.1

rooms_numbers : (xs : List ℕ) → format.rooms.Fits xs → Each (λ v. v < 2 ^ 32) xs
unfolding format.rooms
rooms_numbers xs h = each_of (λ (s : Unit {0}). format.buffer_room) (λ s x. s) (λ v. v < 2 ^ 32) (λ s x k. k.0) tt xs h.1.1

none_numbers : (xs : List ℕ) → xs ≡ [] → Each (λ v. v < 2 ^ 32) xs
none_numbers xs e = subst (Each (λ v. v < 2 ^ 32)) (sym e) tt

buffers_numbers : (version : ImageVersion) (xs : List ℕ) → (format.buffers version).Fits xs → Each (λ v. v < 2 ^ 32) xs
buffers_numbers First xs h = none_numbers xs h
buffers_numbers Second xs h = none_numbers xs h
buffers_numbers Third xs h = rooms_numbers xs h
buffers_numbers Fourth xs h = rooms_numbers xs h

routine_numbers : (version : ImageVersion) (names : ℕ) (room : Room) (r : Routine) → (format.routine version names room).Fits r → Each (λ v. v < 2 ^ 32) r.buffers
unfolding format.routine
routine_numbers version names room r h = buffers_numbers version r.buffers h.1.1.1.1.1

operand_number : (version : ImageVersion) (j : Instr) → (format.instruction version).Fits j → (fields_of j).k < 2 ^ 64
unfolding format.fields
operand_number version j h = h.1.1.1.1.1.1.1.0

set_at : (xss : List (List ℕ)) (k : ℕ) → Each (Each (λ v. v < 2 ^ 64)) xss → Each (λ v. v < 2 ^ 64) (slice_index_or xss k [])
set_at [] k h = tt
set_at (xs ∷ xss) zero h = h.0
set_at (xs ∷ xss) (suc k) h = set_at xss k h.1

number_in : (c : Parts) → Each (Each (λ v. v < 2 ^ 64)) c.sets → (j : Instr) → (fields_of j).k < 2 ^ 64 → HasNumber c j
number_in c sets (i.Const into value) h = h
number_in c sets (i.Divides size step site) h = h
number_in c sets (i.Member into source set) h = set_at c.sets set sets
number_in c sets j h = tt

written_numbers : (c : Parts) → format.image.Fits (written c) → HasNumbers c
unfolding format.image
written_numbers c h =
    let version = version_for c.instructions in
    let sets : Each (Each (λ v. v < 2 ^ 64)) c.sets = each_of format.set _ (Each (λ v. v < 2 ^ 64)) set_numbers _ c.sets h.1.1.1.1.0.1 in
    record {
      instructions = each_of (λ (s : Unit {0}). format.instruction version) (λ s x. s) (HasNumber c) (λ s j k. number_in c sets j (operand_number version j k)) tt c.instructions h.1.1.1.1.1.1.1.1;
      rooms = each_of (format.routine version _) format.after_routine (λ (r : Routine). Each (λ v. v < 2 ^ 32) r.buffers) (λ room r k. routine_numbers version _ room r k) _ c.routines h.1.1.1.1.1.0.1;
    }

pub image_numbers : ReadIsWritten → (bytes : List ℕ) (c : Parts) → IsImage c bytes → HasNumbers c
image_numbers read bytes c image = subst HasNumbers image.2 (written_numbers (code_of image.0) (read image.0 image.1.0))
