-- There is a message of each number.
use Rattle.std.proofs.Common.{ℕ, zero, suc, ◌+◌, ◌-◌, ◌/◌, ◌^◌, ◌<◌, List, [], ◌∷◌, ◌++◌, length, refl, arith, lit<}
use Rattle.std.specs.Prelude.{replicate}
use Rattle.std.specs.Int.{w16, w32, byte_at, bytes_low_first, bytes_high_first, to_le_bytes, to_be_bytes}
use Rattle.std.specs.List.{All}
use Rattle.std.proofs.lemmas.List.Elements.{All-nil, All-cons, All-append, All-push, All-replicate}
use Rattle.td_num.proofs.Digits.{are_bytes, byte_below}
use Rattle.td_formats.specs.declared.format.Format.{Format}
use Rattle.td_formats.specs.declared.format.Format.TheVariants.{Ethernet, Ipv4, Tcp, Rndis}
use Rattle.td_formats.specs.Format.{entry_of}
use Rattle.td_job.specs.declared.named.NamedJob.{NamedJob}
use Rattle.td_job.proofs.Bytes.{filled}
use Rattle.td_gen.specs.Message.{format_of, payload_of, filler, fillers, fillers_before, fillers_behind, number_pair, header_of, header_length, formed_bytes, message_bytes, args_of, cell_count, IsMessage}

abbrev Small : ℕ → Type 0
Small b = b < 256

pair : (xs ys : List ℕ) → All Small xs → All Small ys → All Small (xs ++ ys)
pair xs ys a b = All-append Small xs ys a b

more : (x : ℕ) (xs : List ℕ) → Small x → All Small xs → All Small (x ∷ xs)
more x xs a b = All-cons Small x xs a b

fillers_small : (n j k : ℕ) → All Small (fillers n j k)
fillers_small n j zero = All-nil Small
fillers_small n j (suc k) = All-push Small (fillers n j k) (filler n (j + k)) (fillers_small n j k) (omega arith)

byte_small : (i n : ℕ) → Small (byte_at i n)
byte_small zero n = omega arith
byte_small (suc i) n = byte_below (n / 256 ^ suc i)

low_small : (i k n : ℕ) → All Small (bytes_low_first i k n)
low_small i zero n = All-nil Small
low_small i (suc k) n = more (byte_at i n) (bytes_low_first (suc i) k n) (byte_small i n) (low_small (suc i) k n)

high_small : (k n : ℕ) → All Small (bytes_high_first k n)
high_small zero n = All-nil Small
high_small (suc k) n = more (byte_at k n) (bytes_high_first k n) (byte_small k n) (high_small k n)

-- a list that is written out
abbrev AllWritten : List ℕ → Type 0
AllWritten [] = Unit {0}
AllWritten (x ∷ xs) = (x < 256) × AllWritten xs

written_small : (xs : List ℕ) → AllWritten xs → All Small xs
written_small [] h = All-nil Small
written_small (x ∷ xs) h = more x xs h.0 (written_small xs h.1)

pair_small : (a b : ℕ) → All Small (number_pair a b)
unfolding number_pair
pair_small a b = pair (to_le_bytes w32 a) (to_le_bytes w32 b) (low_small 0 4 a) (low_small 0 4 b)

header_small : (f : Format) (p : ℕ) → All Small (header_of f p)
header_small Ethernet p = written_small (8 ∷ 0 ∷ []) (lit< tt, (lit< tt, tt))
header_small Ipv4 p =
    let first = written_small (69 ∷ 0 ∷ []) (lit< tt, (lit< tt, tt)) in
    let last = written_small (0 ∷ 0 ∷ 0 ∷ 0 ∷ 64 ∷ 6 ∷ 0 ∷ 0 ∷ []) (lit< tt, (lit< tt, (lit< tt, (lit< tt, (lit< tt, (lit< tt, (lit< tt, (lit< tt, tt)))))))) in
    pair ((69 ∷ 0 ∷ []) ++ to_be_bytes w16 (20 + p)) (0 ∷ 0 ∷ 0 ∷ 0 ∷ 64 ∷ 6 ∷ 0 ∷ 0 ∷ []) (pair (69 ∷ 0 ∷ []) (to_be_bytes w16 (20 + p)) first (high_small 2 (20 + p))) last
header_small Tcp p = written_small (96 ∷ 2 ∷ 255 ∷ 255 ∷ 0 ∷ 0 ∷ 0 ∷ 0 ∷ 2 ∷ 4 ∷ 5 ∷ 180 ∷ []) (lit< tt, (lit< tt, (lit< tt, (lit< tt, (lit< tt, (lit< tt, (lit< tt, (lit< tt, (lit< tt, (lit< tt, (lit< tt, (lit< tt, tt))))))))))))
header_small Rndis p =
    pair (number_pair 1 (44 + p) ++ number_pair 36 p) (replicate 28 0) (pair (number_pair 1 (44 + p)) (number_pair 36 p) (pair_small 1 (44 + p)) (pair_small 36 p)) (All-replicate Small 28 0 (lit< tt))

formed_small : (f : Format) (n p : ℕ) → All Small (formed_bytes f n p)
formed_small f n p =
    let first = fillers n 0 (fillers_before f) in
    let last = fillers n (fillers_before f + header_length f) (fillers_behind f + p) in
    pair (first ++ header_of f p) last (pair first (header_of f p) (fillers_small n 0 (fillers_before f)) (header_small f p)) (fillers_small n (fillers_before f + header_length f) (fillers_behind f + p))

pub some_message : (n : ℕ) → (job : NamedJob) × IsMessage n job
some_message n =
    let f = format_of n in
    let p = payload_of n in
    let bytes = message_bytes n in
    let words = filled bytes ((length bytes + 7) / 8) (are_bytes bytes (formed_small f n p)) in (
      record { entry = entry_of f; args = args_of f p; cells = replicate (cell_count f) 0; words = words.0; length = length bytes; stores = record { before = 1; word = 0; value = 2 ^ 64 - 1 } ∷ [] },
      record { entry = refl; args = refl; cells = refl; as_long = refl; filled = words.1; stored = refl },
    )
