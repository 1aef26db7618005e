-- The messages of the generator, by their number n from 0 (own rule). With q = n / 4 rounded down, the payload has
-- 13q mod 1400 bytes. By n mod 4 a message is
--
--     0  an Ethernet frame: 12 filler bytes, the type 0x0800, the payload
--     1  an IPv4 packet: a header of 20 bytes, whose two addresses are filler bytes, the payload
--     2  a TCP segment: ports, sequence and acknowledgment of filler bytes, six words of header with SYN and the option
--        of the maximum segment size (1460), the payload
--     3  a packet message of RNDIS: eleven 32-bit numbers, the payload
--
-- and the payload is filler bytes too.
use Rattle.std.specs.Prelude.{◌≡◌, ℕ, zero, suc, ◌+◌, ◌-◌, ◌*◌, ◌/◌, ◌%◌, ◌^◌, List, [], ◌∷◌, ◌++◌, length, replicate, nat_eq, if◌then◌else◌, Option, Some, None}
use Rattle.std.specs.Int.{w16, w32, to_le_bytes, to_be_bytes}
use Rattle.td_formats.specs.declared.format.Format.{Format}
use Rattle.td_formats.specs.declared.format.Format.TheVariants.{Ethernet, Ipv4, Tcp, Rndis}
use Rattle.td_formats.specs.Format.{text_of, entry_of}
use Rattle.td_sched.specs.declared.store.PlannedStore.{PlannedStore}
use Rattle.td_job.specs.declared.named.NamedJob.{NamedJob}
use Rattle.td_job.specs.Words.{IsFilled}

abbrev pub format_of : ℕ → Format
format_of n = if nat_eq (n % 4) 0 then Ethernet else if nat_eq (n % 4) 1 then Ipv4 else if nat_eq (n % 4) 2 then Tcp else Rndis

-- the bytes of the payload
abbrev pub payload_of : ℕ → ℕ
payload_of n = 13 * (n / 4) % 1400

-- the filler byte at place j of message n
abbrev pub filler : ℕ → ℕ → ℕ
filler n j = (31 * n + 7 * j) % 256

-- so many filler bytes, of which the first stands at place j
abbrev pub fillers : ℕ → ℕ → ℕ → List ℕ
fillers n j zero = []
fillers n j (suc k) = fillers n j k ++ filler n (j + k) ∷ []

-- how many filler bytes stand before the header, and how many between it and the payload
abbrev pub fillers_before : Format → ℕ
fillers_before Ethernet = 12
fillers_before Ipv4 = 0
fillers_before Tcp = 12
fillers_before Rndis = 0

abbrev pub fillers_behind : Format → ℕ
fillers_behind Ethernet = 0
fillers_behind Ipv4 = 8
fillers_behind Tcp = 0
fillers_behind Rndis = 0

-- version 4 and five words of header, the total length, a time to live of 64, protocol 6; all else is zero
abbrev pub ipv4_header : ℕ → List ℕ
ipv4_header p = (69 ∷ 0 ∷ []) ++ to_be_bytes w16 (20 + p) ++ (0 ∷ 0 ∷ 0 ∷ 0 ∷ 64 ∷ 6 ∷ 0 ∷ 0 ∷ [])

-- two numbers of 32 bits, the byte of least weight first
unfoldable pub number_pair : ℕ → ℕ → List ℕ
number_pair a b = to_le_bytes w32 a ++ to_le_bytes w32 b

-- a packet message (1), its length, the offset and the length of its data; seven zeros
abbrev pub rndis_header : ℕ → List ℕ
rndis_header p = number_pair 1 (44 + p) ++ number_pair 36 p ++ replicate 28 0

-- the header of a message with p bytes of payload
abbrev pub header_of : Format → ℕ → List ℕ
header_of Ethernet p = 8 ∷ 0 ∷ []
header_of Ipv4 p = ipv4_header p
header_of Tcp p = 96 ∷ 2 ∷ 255 ∷ 255 ∷ 0 ∷ 0 ∷ 0 ∷ 0 ∷ 2 ∷ 4 ∷ 5 ∷ 180 ∷ []
header_of Rndis p = rndis_header p

abbrev pub header_length : Format → ℕ
header_length Ethernet = 2
header_length Ipv4 = 12
header_length Tcp = 12
header_length Rndis = 44

-- filler bytes, the header, filler bytes
abbrev pub formed_bytes : Format → ℕ → ℕ → List ℕ
formed_bytes f n p = fillers n 0 (fillers_before f) ++ header_of f p ++ fillers n (fillers_before f + header_length f) (fillers_behind f + p)

abbrev pub message_bytes : ℕ → List ℕ
message_bytes n = formed_bytes (format_of n) n (payload_of n)

-- the one argument, where there is one: the bytes of the message
abbrev pub args_given : Option ℕ → List ℕ
args_given None = []
args_given (Some room) = room ∷ []

abbrev pub args_of : Format → ℕ → List ℕ
args_of Ethernet p = []
args_of Ipv4 p = (20 + p) ∷ []
args_of Tcp p = (24 + p) ∷ []
args_of Rndis p = (44 + p) ∷ []

-- the cells of the format's entry point
abbrev pub cell_count : Format → ℕ
cell_count Ethernet = 3
cell_count Ipv4 = 5
cell_count Tcp = 6
cell_count Rndis = 5

-- message n as a job: at its format's entry point, with all its bytes, cells of zeros, and one store, of all ones to word 0
-- before load 1
pub record IsMessage (n : ℕ) (job : NamedJob) : Type 0 where
  pub entry : job.entry ≡ entry_of (format_of n)
  pub args : job.args ≡ args_of (format_of n) (payload_of n)
  pub cells : job.cells ≡ replicate (cell_count (format_of n)) 0
  pub as_long : job.length ≡ length (message_bytes n)
  pub filled : IsFilled (message_bytes n) ((length (message_bytes n) + 7) / 8) job.words
  pub stored : job.stores ≡ record { before = 1; word = 0; value = 2 ^ 64 - 1 } ∷ []

-- the texts of the four formats, one after the other
abbrev pub texts : List ℕ
texts = text_of Ethernet ++ text_of Ipv4 ++ text_of Tcp ++ text_of Rndis
