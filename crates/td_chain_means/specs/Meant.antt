-- What DESCRIPTOR means of sixteen bytes, beside what td_chain reads in the two numbers that they spell.
use Rattle.std.specs.Prelude.{◌≡◌, ℕ, zero, suc, ◌+◌, ◌/◌, ◌%◌, ◌^◌, ◌<◌, ◌≤◌, Bool, true, false, cond, List, [], ◌∷◌, length}
use Rattle.td_num.specs.Lists.{AreBytes}
use Rattle.td_num.specs.Numbers.{byte_of, number_at}
use Rattle.td_num.specs.declared.number.Width.TheVariants.{Eight}
use Rattle.td_core.specs.Outcome.{Behavior, Ending, Accepted, Rejected}
use Rattle.td_meaning.specs.Meaning.{meaning}
use Rattle.td_chain.specs.Chain.{described, number_at as number_in}
use Rattle.td_chain_means.specs.Format.{little, descriptor_module, descriptor_entry, descriptor_args, no_cells}

-- what DESCRIPTOR says of sixteen bytes
abbrev pub said : ℕ → ℕ → ℕ → List ℕ → Behavior
said entries memory indirect b = meaning descriptor_module descriptor_entry (descriptor_args entries memory indirect) no_cells b

-- what it delivers of address, size, the three flags and the next: a next is 0 where there is none
abbrev pub delivered : ℕ → ℕ → Bool → Bool → Bool → ℕ → List ℕ
delivered address size has_next is_writable is_indirect next =
    address ∷ size ∷ cond has_next 1 0 ∷ cond is_writable 1 0 ∷ cond is_indirect 1 0 ∷ cond has_next next 0 ∷ []

-- the buffer lies in the memory; a reference to a table may be there, has no next, and its table has whole descriptors; and a next is an
-- entry of the table
pub record IsAdmitted (entries memory indirect address size : ℕ) (has_next is_indirect : Bool) (next : ℕ) : Type 0 where
  pub fits : address + size ≤ memory
  pub table : is_indirect ≡ true → (indirect ≡ 1) × (has_next ≡ false) × (16 ≤ size) × (size % 16 ≡ 0)
  pub entry : has_next ≡ true → next < entries

-- one fact for where it accepts, another one for where it rejects
abbrev pub Ends : Ending → (ℕ → List ℕ → Type 0) → Type 0 → Type 0
Ends (Accepted q cells) P R = P q cells
Ends (Rejected reason position trace cells) P R = R

-- of sixteen bytes: it accepts just what is admitted, ends behind them, and delivers what td_chain reads in these two numbers
abbrev pub Means : ℕ → ℕ → ℕ → List ℕ → ℕ → ℕ → Type 0
Means entries memory indirect b first second =
    (let d = described first second in
    Ends (said entries memory indirect b).ending
    (λ q cells. (q ≡ 16) × (cells ≡ delivered d.address d.size d.has_next d.is_writable d.is_indirect d.next)
    × IsAdmitted entries memory indirect d.address d.size d.has_next d.is_indirect d.next)
    (IsAdmitted entries memory indirect d.address d.size d.has_next d.is_indirect d.next → ⊥))

-- in the two numbers that the bytes spell
abbrev pub DescriptorsMean : Type 0
DescriptorsMean =
    (entries memory indirect : ℕ) (b : List ℕ) → AreBytes b → length b ≡ 16 →
    Means entries memory indirect b (number_at (little Eight) b 0) (number_at (little Eight) b 8)

-- so many bytes of a memory of words, from a byte on
abbrev pub bytes_from : (ℕ → ℕ) → ℕ → ℕ → List ℕ
bytes_from m p zero = []
bytes_from m p (suc n) = byte_of (m (p / 8)) (p % 8) ∷ bytes_from m (p + 1) n

-- in the two numbers that td_chain takes from a memory of words at any byte, for the sixteen bytes there
abbrev pub DescriptorsMeanAt : Type 0
DescriptorsMeanAt =
    (entries memory indirect : ℕ) (m : ℕ → ℕ) → ((i : ℕ) → m i < 2 ^ 64) → (place : ℕ) →
    Means entries memory indirect (bytes_from m place 16) (number_in m place) (number_in m (place + 8))

-- ---- worked descriptors: a table of four entries, and 2^64 - 1 bytes of memory, of 16 bytes from address 4096 on
abbrev pub bytes : ℕ → ℕ → ℕ → List ℕ
bytes size flags next = 0 ∷ 16 ∷ 0 ∷ 0 ∷ 0 ∷ 0 ∷ 0 ∷ 0 ∷ size ∷ 0 ∷ 0 ∷ 0 ∷ flags ∷ 0 ∷ next ∷ 0 ∷ []

abbrev pub ends : List ℕ → Ending
ends b = (said 4 18446744073709551615 1 b).ending

abbrev pub Rejects : List ℕ → Type 0
Rejects b = Ends (ends b) (λ q cells. ⊥) (Unit {0})

pub record IsWorkedDescriptor : Type 0 where
  pub last : ends (bytes 16 2 9) ≡ Accepted 16 (4096 ∷ 16 ∷ 0 ∷ 1 ∷ 0 ∷ 0 ∷ [])
  pub next : ends (bytes 16 1 3) ≡ Accepted 16 (4096 ∷ 16 ∷ 1 ∷ 0 ∷ 0 ∷ 3 ∷ [])
  pub table : ends (bytes 32 4 0) ≡ Accepted 16 (4096 ∷ 32 ∷ 0 ∷ 0 ∷ 1 ∷ 0 ∷ [])
  pub beyond : Rejects (bytes 16 1 4)
  pub and_next : Rejects (bytes 16 5 0)
  pub part : Rejects (bytes 24 4 0)
  pub past : Ends (said 4 4100 1 (bytes 16 2 0)).ending (λ q cells. ⊥) (Unit {0})
