use Rattle.std.proofs.Common.{◌≡◌, ℕ, ◌+◌, ◌*◌, List, slice_index, ◌∙◌, arith}
use Rattle.td_num.specs.Numbers.{rising_at}
use Rattle.td_job.proofs.words.whole_word.Goals as goal

-- eight digits, the first of least weight
eight : (s x0 x1 x2 x3 x4 x5 x6 x7 : ℕ) → s ≡ x0 + x1 * 256 + x2 * 65536 + x3 * 16777216 + x4 * 4294967296 + x5 * 1099511627776 + x6 * 281474976710656 + x7 * 72057594037927936 → s ≡ 256 * (256 * (256 * (256 * (256 * (256 * (256 * (256 * 0 + x7) + x6) + x5) + x4) + x3) + x2) + x1) + x0
eight s x0 x1 x2 x3 x4 x5 x6 x7 e = omega (arith, e)

in_row : (b : List ℕ) (p : ℕ) → slice_index b p + slice_index b (p + 1) * 256 + slice_index b (p + 2) * 65536 + slice_index b (p + 3) * 16777216 + slice_index b (p + 4) * 4294967296 + slice_index b (p + 5) * 1099511627776 + slice_index b (p + 6) * 281474976710656 + slice_index b (p + 7) * 72057594037927936 ≡ rising_at b p 8
in_row b p =
    let e2 : p + 2 ≡ p + 1 + 1 = omega arith in
    let e3 : p + 3 ≡ p + 1 + 1 + 1 = omega arith in
    let e4 : p + 4 ≡ p + 1 + 1 + 1 + 1 = omega arith in
    let e5 : p + 5 ≡ p + 1 + 1 + 1 + 1 + 1 = omega arith in
    let e6 : p + 6 ≡ p + 1 + 1 + 1 + 1 + 1 + 1 = omega arith in
    let e7 : p + 7 ≡ p + 1 + 1 + 1 + 1 + 1 + 1 + 1 = omega arith in
    eight _ (slice_index b p) (slice_index b (p + 1)) (slice_index b (p + 1 + 1)) (slice_index b (p + 1 + 1 + 1)) (slice_index b (p + 1 + 1 + 1 + 1)) (slice_index b (p + 1 + 1 + 1 + 1 + 1)) (slice_index b (p + 1 + 1 + 1 + 1 + 1 + 1)) (slice_index b (p + 1 + 1 + 1 + 1 + 1 + 1 + 1))
    (λ i. slice_index b p + slice_index b (p + 1) * 256 + slice_index b (e2 i) * 65536 + slice_index b (e3 i) * 16777216 + slice_index b (e4 i) * 4294967296 + slice_index b (e5 i) * 1099511627776 + slice_index b (e6 i) * 281474976710656 + slice_index b (e7 i) * 72057594037927936)

pub returns : goal.returns
returns c = c.from_le_bytes.ensures ∙ in_row c.args.bytes.now c.args.start
