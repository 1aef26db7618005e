-- What a chain of descriptors names (VIRTIO 1.2, 2.7.5: a split virtqueue's descriptor table), in a memory of which each word, by its
-- number, holds a number of 64 bits.
use Rattle.std.specs.Prelude.{ℕ, zero, suc, ◌+◌, ◌*◌, ◌/◌, ◌%◌, ◌^◌, Bool, true, false, not, ◌&&◌, ◌||◌, cond, nat_eq, nat_lt, List, [], ◌∷◌, ◌++◌, Option, Some, None}
use Rattle.td_chain.specs.declared.region.Region.{Region}
use Rattle.td_chain.specs.declared.queue.Queue.{Queue}
use Rattle.td_chain.specs.declared.piece.Piece.{Piece}
use Rattle.td_chain.specs.declared.refusal.ChainError.{ChainError}
use Rattle.td_chain.specs.declared.refusal.ChainError.TheVariants.{Beyond, Outside, NotAllowed, WithNext, BadTable, OutOfOrder, TooLarge, TooLong}
use Rattle.td_chain.specs.declared.refusal.Refusal.{Refusal}
use Rattle.td_chain.specs.declared.descriptor.Descriptor.{Descriptor}
use Rattle.td_chain.specs.declared.step.Walk.{Walk}
use Rattle.td_chain.specs.declared.step.Move.{Move}
use Rattle.td_chain.specs.declared.step.Move.TheVariants.{Table, Next, Last, Refused}
use Rattle.td_chain.specs.Places.{translated}

-- ---- a descriptor
-- two words hold a number of 64 bits that begins at byte k of the first
abbrev pub joined_at : ℕ → ℕ → ℕ → ℕ
joined_at low high k = (low + 2 ^ 64 * high) / 2 ^ (8 * k) % 2 ^ 64

-- the number of 64 bits that begins at a byte of the memory
abbrev pub number_at : (ℕ → ℕ) → ℕ → ℕ
number_at m place = cond (nat_eq (place % 8) 0) (m (place / 8)) (joined_at (m (place / 8)) (m (place / 8 + 1)) (place % 8))

-- a flag of this weight is set
abbrev pub is_set : ℕ → ℕ → Bool
is_set weight flags = nat_eq (flags / weight % 2) 1

-- le64 addr; le32 len; le16 flags; le16 next. The flags are VIRTQ_DESC_F_NEXT 1, VIRTQ_DESC_F_WRITE 2 and VIRTQ_DESC_F_INDIRECT 4
abbrev pub described : ℕ → ℕ → Descriptor
described first second = record {
  address = first;
  size = second % 2 ^ 32;
  has_next = is_set 1 (second / 2 ^ 32 % 2 ^ 16);
  is_writable = is_set 2 (second / 2 ^ 32 % 2 ^ 16);
  is_indirect = is_set 4 (second / 2 ^ 32 % 2 ^ 16);
  next = second / 2 ^ 48 % 2 ^ 16;
}

abbrev pub descriptor_at : (ℕ → ℕ) → ℕ → Descriptor
descriptor_at m place = described (number_at m place) (number_at m (place + 8))

-- ---- one step
-- an indirect table that begins at this place (2.7.5.3)
abbrev pub in_table : Walk → ℕ → Option ℕ → Move
in_table w size None = Refused Outside
in_table w size (Some place) = Table (record w { table = place; entries = size / 16; index = 0; is_indirect = true })

-- a descriptor that refers to a table: only where that was negotiated, and not in such a table; never with a next; and the table has one
-- or more whole descriptors (2.7.5.3.1)
abbrev pub referred : Queue → List Region → Walk → Descriptor → Move
referred q regions w d =
    cond (w.is_indirect || not q.indirect) (Refused NotAllowed)
    (cond d.has_next (Refused WithNext)
    (cond (nat_eq d.size 0 || not (nat_eq (d.size % 16) 0)) (Refused BadTable)
    (in_table w d.size (translated regions d.address d.size))))

-- to the next descriptor of the table
abbrev pub followed : Walk → Descriptor → Piece → Move
followed w d piece =
    cond (not d.has_next) (Last piece)
    (cond (nat_lt d.next w.entries)
    (Next piece (record w { index = d.next; bytes = w.bytes + d.size; writes = d.is_writable }))
    (Refused Beyond))

-- a buffer at this place: what the device reads comes before what it writes (2.7.4.2), and there are at most 2^32 bytes (2.7.5.2)
abbrev pub placed : Walk → Descriptor → Option ℕ → Move
placed w d None = Refused Outside
placed w d (Some place) =
    cond (w.writes && not d.is_writable) (Refused OutOfOrder)
    (cond (nat_lt (2 ^ 32) (w.bytes + d.size)) (Refused TooLarge)
    (followed w d (record { place = place; size = d.size; is_writable = d.is_writable })))

abbrev pub moved : Queue → List Region → Walk → Descriptor → Move
moved q regions w d = cond d.is_indirect (referred q regions w d) (placed w d (translated regions d.address d.size))

-- ---- a chain
-- pieces of a message, in their order, and why the chain was refused, if it was
pub record Chain : Type 0 where
  pub pieces : List Piece
  pub refusal : Option Refusal

abbrev pub stopped : ChainError → Walk → Chain
stopped e w = record { pieces = []; refusal = Some (record { error = e; descriptor = w.index; is_indirect = w.is_indirect }) }

abbrev pub whole : Chain
whole = record { pieces = []; refusal = None }

-- these pieces come first
abbrev pub after : List Piece → Chain → Chain
after pieces c = record { pieces = pieces ++ c.pieces; refusal = c.refusal }

-- what is left of a chain after a step, by what comes where it goes on
abbrev pub went : (Walk → Chain) → Walk → Move → Chain
went on w (Table v) = on v
went on w (Next piece v) = after (piece ∷ []) (on v)
went on w (Last piece) = after (piece ∷ []) whole
went on w (Refused e) = stopped e w

-- from here on, by so many descriptors at most
abbrev pub chained : Queue → List Region → (ℕ → ℕ) → ℕ → Walk → Chain
chained q regions m zero w = stopped TooLong w
chained q regions m (suc n) w = went (chained q regions m n) w (moved q regions w (descriptor_at m (w.table + 16 * w.index)))

-- at the head of a chain
abbrev pub begun : Queue → ℕ → Walk
begun q head = record { table = q.table; entries = q.size; index = head; is_indirect = false; bytes = 0; writes = false }

-- from a head on: at most as many buffers as the queue has entries (2.7.5.3.1), and one reference to a table
abbrev pub chain : Queue → List Region → (ℕ → ℕ) → ℕ → Chain
chain q regions m head = cond (nat_lt head q.size) (chained q regions m (suc q.size) (begun q head)) (stopped Beyond (begun q head))
