-- The form of a value that is given, and the value itself, part by part.
use Rattle.std.proofs.Common.{◌≡◌, ℕ, zero, suc, ◌%◌, ◌≤◌, true, false, ◌&&◌, nat_eq, List, [], ◌∷◌, length, drop, refl, ap, ◌∙◌, arith, Some, Result, Ok, Err}
use Rattle.std.specs.List.{list_all}
use Rattle.hex.specs.Hex.{decode_of, is_hex_digit}
use Rattle.serde_json.specs.Data.{Data, null, boolean, number, string, array, object, depth, items_depth}
use Rattle.serde_json.specs.Find.{as_str}
use Rattle.serde_json.specs.declared.value.Value.{Value}
use Rattle.serde_json.specs.View.{view, items_view}
use Rattle.hex.specs.declared.error.FromHexError.{FromHexError}
use Rattle.td_job.specs.declared.error.Key.TheVariants as key
use Rattle.td_job.specs.declared.error.JobRule.TheVariants as rule
use Rattle.td_job.specs.declared.error.Path.TheVariants as path
use Rattle.td_job.specs.declared.error.JobError.{JobError}
use Rattle.td_job.specs.declared.error.JobError.TheVariants.{Fault}
use Rattle.td_job.specs.Fields.{IsFirst}
use Rattle.td_job.specs.Jobs.{digit_faults}
use Rattle.td_job.proofs.Digits.{digits_count, digits_wrong}
use Rattle.td_job.specs.declared.written.Form.{Form}
use Rattle.td_job.specs.declared.written.Form.TheVariants.{Right, NoDigits, Other}
use Rattle.td_job.specs.Written.{worse, text_form, form_of}

pub worse_right : (a : Form) → worse a Right ≡ a
worse_right Right = refl
worse_right NoDigits = refl
worse_right Other = refl

pub worse_more : (a b c : Form) → worse a (worse b c) ≡ worse (worse a b) c
worse_more Right b c = refl
worse_more NoDigits Right c = refl
worse_more NoDigits NoDigits Right = refl
worse_more NoDigits NoDigits NoDigits = refl
worse_more NoDigits NoDigits Other = refl
worse_more NoDigits Other c = refl
worse_more Other b c = refl

-- a value in a list isn't as deep as the list
pub part_depth : (vs rest : List Value) (i : ℕ) (v : Value) → drop i vs ≡ v ∷ rest → depth (view v) ≤ items_depth (items_view vs)
part_depth [] rest zero v e = absurd (cc)
part_depth [] rest (suc i) v e = absurd (cc)
part_depth (x ∷ xs) rest zero v e = let same : x ≡ v = cc in let deep : depth (view x) ≡ depth (view v) = ap (λ y. depth (view y)) same in omega (arith, deep)
part_depth (x ∷ xs) rest (suc i) v e = omega (arith, part_depth xs rest i v e)

-- Texts

right_form : (r : Result (List ℕ) FromHexError) → digit_faults key.Bytes r ≡ [] → text_form r ≡ Right
right_form (Ok bytes) e = refl
right_form (Err wrong) e = absurd (cc)

wrong_form : (r : Result (List ℕ) FromHexError) (e : JobError) → IsFirst (digit_faults key.Bytes r) e → text_form r ≡ NoDigits
wrong_form (Ok bytes) e h = let none : [] ≡ e ∷ h.others = h.is in absurd (cc)
wrong_form (Err wrong) e h = refl

text_is : (d : Data) (text : List ℕ) → as_str d ≡ Some text → form_of d ≡ text_form (decode_of text)
text_is null text e = absurd (cc)
text_is (boolean b) text e = absurd (cc)
text_is (number n) text e = absurd (cc)
text_is (string s) text e = let same : s ≡ text = cc in ap (λ t. text_form (decode_of t)) same
text_is (array ds) text e = absurd (cc)
text_is (object ms) text e = absurd (cc)

pub digits_form : (d : Data) (text : List ℕ) → as_str d ≡ Some text → (nat_eq (length text % 2) 0 && list_all is_hex_digit text) ≡ true → form_of d ≡ Right
digits_form d text e h = text_is d text e ∙ right_form (decode_of text) (digits_count key.Bytes text h).0

pub no_digits_form : (d : Data) (text : List ℕ) → as_str d ≡ Some text → (nat_eq (length text % 2) 0 && list_all is_hex_digit text) ≡ false → form_of d ≡ NoDigits
no_digits_form d text e h = text_is d text e ∙ wrong_form (decode_of text) (Fault rule.Digits (path.Whole key.Bytes)) (digits_wrong key.Bytes text h)
