-- What operators and other instructions compute (own rule). Registers are below 2^64.
use Rattle.std.specs.Prelude.{ℕ, zero, suc, ◌+◌, ◌-◌, ◌*◌, ◌/◌, ◌%◌, ◌^◌, Bool, true, false, cond, List, [], ◌∷◌, nat_eq, nat_lt, nat_le, bit_and, bit_or, bit_xor}
use Rattle.td_num.specs.Numbers.{rising_at}
use Rattle.td_num.specs.declared.number.ByteOrder.{ByteOrder}
use Rattle.td_num.specs.declared.number.ByteOrder.TheVariants.{LittleEndian, BigEndian}
use Rattle.td_core.specs.declared.outcome.Reason.{Reason}
use Rattle.td_core.specs.declared.outcome.Reason.TheVariants.{NotEnough, Impossible, ListSize, Action, Constraint, Padding}

abbrev pub bit : Bool → ℕ
bit true = 1
bit false = 0

-- operators 0 to 4: add, sub, mul, div, rem
abbrev pub arithmetic : ℕ → ℕ → ℕ → ℕ
arithmetic x m n =
    cond (nat_eq x 0) ((m + n) % 2 ^ 64)
    (cond (nat_eq x 1) ((m + (2 ^ 64 - n)) % 2 ^ 64)
    (cond (nat_eq x 2) ((m * n) % 2 ^ 64)
    (cond (nat_eq n 0) 0
    (cond (nat_eq x 3) (m / n) (m % n)))))

-- operators 5 to 9: and, or, xor, shl, shr
abbrev pub bitwise : ℕ → ℕ → ℕ → ℕ
bitwise x m n =
    cond (nat_eq x 5) (bit_and m n)
    (cond (nat_eq x 6) (bit_or m n)
    (cond (nat_eq x 7) (bit_xor m n)
    (cond (nat_le 64 n) 0
    (cond (nat_eq x 8) ((m * 2 ^ n) % 2 ^ 64) (m / 2 ^ n)))))

-- operators 10 to 13: eq, ne, lt, le
abbrev pub compared : ℕ → ℕ → ℕ → ℕ
compared x m n =
    cond (nat_eq x 10) (bit (nat_eq m n))
    (cond (nat_eq x 11) (cond (nat_eq m n) 0 1)
    (cond (nat_eq x 12) (bit (nat_lt m n)) (bit (nat_le m n))))

-- operator x on two registers
abbrev pub operated : ℕ → ℕ → ℕ → ℕ
operated x m n = cond (nat_lt x 5) (arithmetic x m n) (cond (nat_lt x 10) (bitwise x m n) (compared x m n))

-- so many bits of a number from one on
abbrev pub bits_of : ℕ → ℕ → ℕ → ℕ
bits_of n low count = (n / 2 ^ low) % 2 ^ count

abbrev pub reason_of : ℕ → Reason
reason_of x =
    cond (nat_eq x 0) NotEnough
    (cond (nat_eq x 1) Impossible
    (cond (nat_eq x 2) ListSize
    (cond (nat_eq x 3) Action
    (cond (nat_eq x 4) Constraint Padding))))

abbrev pub order_of : ℕ → ByteOrder
order_of zero = LittleEndian
order_of (suc x) = BigEndian

-- n numbers of w bytes, one behind the other
abbrev pub numbers_from : List ℕ → ℕ → ℕ → ℕ → List ℕ
numbers_from message p w zero = []
numbers_from message p w (suc n) = rising_at message p w ∷ numbers_from message (p + w) w n

abbrev pub is_zero : ℕ → Bool
is_zero n = nat_eq n 0

abbrev pub is_nonzero : ℕ → Bool
is_nonzero n = cond (nat_eq n 0) false true
