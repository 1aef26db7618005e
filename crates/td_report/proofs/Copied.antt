-- What the lines of copies determine. Cited by other crates.
use Rattle.std.proofs.Common.{◌≡◌, ℕ, List, [], ◌∷◌, ◌++◌, map, length, refl, sym, ◌∙◌, append_assoc, arith, codes}
use Rattle.std.proofs.lemmas.List.Elements.{All-head, All-tail, All-nil, All-cons}
use Rattle.std.specs.List.{All}
use Rattle.td_report.specs.Imports.{Module, Buffer}
use Rattle.td_core.specs.Entries.{name_bytes}
use Rattle.td_report.specs.ErrorLine.{after_space}
use Rattle.td_report.specs.Report.{line, byte_digits, CopyValue, copy_value, with_bytes, copy_line}
use Rattle.td_report.specs.Laws.{HasWords, IsNamed, HasBytes}
use Rattle.td_report.proofs.Cutting.{Above, above_append, after}
use Rattle.td_report.proofs.Lines.{name_above}
use Rattle.td_report.proofs.WrittenBytes.{digits_above, spaced_above, same_spaced, same_digits}

abbrev pub copy_words : Module → CopyValue → List ℕ
copy_words m c = codes "copy " ++ name_bytes m c.buffer.name ++ after_space (byte_digits c.bytes)

pub copy_is : (m : Module) (c : CopyValue) → copy_line m c ≡ line (copy_words m c)
unfolding copy_line
copy_is m c = refl

-- a named buffer and bytes
pub record IsShownCopy (m : Module) (c : CopyValue) : Type 0 where
  pub named : IsNamed m c.buffer.name
  pub bytes : HasBytes c.bytes

pub copy_above : (m : Module) (c : CopyValue) → HasWords m → IsShownCopy m c → Above 10 (copy_words m c)
copy_above m c words shown =
    above_append 10 (codes "copy " ++ name_bytes m c.buffer.name) (after_space (byte_digits c.bytes))
    (above_append 10 (codes "copy ") (name_bytes m c.buffer.name) (search arith) (name_above 10 m c.buffer.name (omega arith) words shown.named))
    (spaced_above (byte_digits c.bytes) (digits_above c.bytes))

-- behind texts without a blank stand, where there are any, a blank and more: equal wholes have equal ends
cut_spaced : (a b d e : List ℕ) → Above 32 a → Above 32 b → a ++ after_space d ≡ b ++ after_space e → d ≡ e
cut_spaced [] [] d e ha hb same = same_spaced d e same
cut_spaced [] (y ∷ b) [] e ha hb same = absurd (cc)
cut_spaced [] (y ∷ b) (x ∷ d) e ha hb same =
    let blank : 32 ≡ y = cc in
    let high = hb.0 in
    absurd (omega (arith, blank, high))
cut_spaced (x ∷ a) [] d [] ha hb same = absurd (cc)
cut_spaced (x ∷ a) [] d (y ∷ e) ha hb same =
    let blank : x ≡ 32 = cc in
    let high = ha.0 in
    absurd (omega (arith, blank, high))
cut_spaced (x ∷ a) (y ∷ b) d e ha hb same =
    let rest : a ++ after_space d ≡ b ++ after_space e = cc in
    cut_spaced a b d e ha.1 hb.1 rest

-- equal lines are of equal bytes
same_copy : (m : Module) (c d : CopyValue) → HasWords m → IsShownCopy m c → IsShownCopy m d → copy_words m c ≡ copy_words m d → c.bytes ≡ d.bytes
same_copy m c d words hc hd e =
    let own = name_bytes m c.buffer.name in
    let other = name_bytes m d.buffer.name in
    let x = after_space (byte_digits c.bytes) in
    let y = after_space (byte_digits d.bytes) in
    let whole : codes "copy " ++ (own ++ x) ≡ codes "copy " ++ (other ++ y) = sym (append_assoc (codes "copy ") own x) ∙ e ∙ append_assoc (codes "copy ") other y in
    let ends =
    cut_spaced own other (byte_digits c.bytes) (byte_digits d.bytes)
    (name_above 32 m c.buffer.name (omega arith) words hc.named) (name_above 32 m d.buffer.name (omega arith) words hd.named)
    (after (codes "copy ") (own ++ x) (other ++ y) whole) in
    same_digits c.bytes d.bytes hc.bytes hd.bytes ends

-- each buffer has its bytes
pub all_copied : (m : Module) (buffers : List Buffer) (copies : List (List ℕ)) → All (λ (b : Buffer). IsNamed m b.name) buffers → All HasBytes copies → All (IsShownCopy m) (with_bytes buffers copies)
all_copied m [] copies named bytes = All-nil (IsShownCopy m)
all_copied m (b ∷ buffers) [] named bytes = All-nil (IsShownCopy m)
all_copied m (b ∷ buffers) (x ∷ copies) named bytes =
    let N : Buffer → Type 0 = λ b. IsNamed m b.name in
    All-cons (IsShownCopy m) (copy_value b x) (with_bytes buffers copies)
    (record { named = All-head N b buffers named; bytes = All-head HasBytes x copies bytes })
    (all_copied m buffers copies (All-tail N b buffers named) (All-tail HasBytes x copies bytes))

pub same_copies : (m : Module) (bs ds : List Buffer) (xs ys : List (List ℕ)) → HasWords m → All (IsShownCopy m) (with_bytes bs xs) → All (IsShownCopy m) (with_bytes ds ys)
    → length xs ≡ length bs → length ys ≡ length ds → map (copy_words m) (with_bytes bs xs) ≡ map (copy_words m) (with_bytes ds ys) → xs ≡ ys
same_copies m [] [] [] [] words hx hy lx ly e = refl
same_copies m [] [] [] (y ∷ ys) words hx hy lx ly e = absurd (omega (arith, ly))
same_copies m [] [] (x ∷ xs) ys words hx hy lx ly e = absurd (omega (arith, lx))
same_copies m [] (d ∷ ds) (x ∷ xs) ys words hx hy lx ly e = absurd (omega (arith, lx))
same_copies m [] (d ∷ ds) [] [] words hx hy lx ly e = absurd (omega (arith, ly))
same_copies m [] (d ∷ ds) [] (y ∷ ys) words hx hy lx ly e = absurd (cc)
same_copies m (b ∷ bs) ds [] ys words hx hy lx ly e = absurd (omega (arith, lx))
same_copies m (b ∷ bs) [] (x ∷ xs) [] words hx hy lx ly e = absurd (cc)
same_copies m (b ∷ bs) [] (x ∷ xs) (y ∷ ys) words hx hy lx ly e = absurd (omega (arith, ly))
same_copies m (b ∷ bs) (d ∷ ds) (x ∷ xs) [] words hx hy lx ly e = absurd (omega (arith, ly))
same_copies m (b ∷ bs) (d ∷ ds) (x ∷ xs) (y ∷ ys) words hx hy lx ly e =
    let bx : CopyValue = copy_value b x in
    let dy : CopyValue = copy_value d y in
    let line : copy_words m bx ≡ copy_words m dy = cc in
    let S : CopyValue → Type 0 = IsShownCopy m in
    let first : x ≡ y = same_copy m bx dy words (All-head S bx (with_bytes bs xs) hx) (All-head S dy (with_bytes ds ys) hy) line in
    let rest = same_copies m bs ds xs ys words (All-tail S bx (with_bytes bs xs) hx) (All-tail S dy (with_bytes ds ys) hy) (omega (arith, lx)) (omega (arith, ly)) (cc) in
    cc
