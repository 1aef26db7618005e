-- What the laws of chains say.
use Rattle.std.specs.Prelude.{◌≡◌, ℕ, ◌+◌, ◌*◌, ◌^◌, true, false, List, [], ◌∷◌, Some, None, slice_index}
use Rattle.td_stream.specs.declared.load.Load.{Load}
use Rattle.td_chain.specs.declared.region.Region.{Region}
use Rattle.td_chain.specs.declared.queue.Queue.{Queue}
use Rattle.td_chain.specs.declared.piece.Piece.{Piece}
use Rattle.td_chain.specs.declared.refusal.ChainError.{ChainError}
use Rattle.td_chain.specs.declared.refusal.ChainError.TheVariants.{Beyond, Outside, NotAllowed, WithNext, BadTable, OutOfOrder, TooLong}
use Rattle.td_chain.specs.Loaded.{Holds, AreApart}
use Rattle.td_chain.specs.Chain.{Chain, chain}

-- some memory holds what was loaded, if no word was loaded twice
abbrev pub SomeMemoryHolds : Type 0
SomeMemoryHolds = (loads : List Load) → AreApart loads → (m : ℕ → ℕ) × Holds m loads

-- ---- the worked table: a queue of four entries at byte 0, whose memory from byte 64 on is the guest's from address 4096 on, 1,024 bytes
abbrev pub second : ℕ → ℕ → ℕ → ℕ
second size flags next = size + 2 ^ 32 * flags + 2 ^ 48 * next

abbrev pub worked_queue : Queue
worked_queue = record { table = 0; size = 4; indirect = true }

abbrev pub worked_regions : List Region
worked_regions = record { from = 4096; until = 5120; place = 64 } ∷ []

abbrev pub worked : List ℕ → ℕ → Chain
worked words head = chain worked_queue worked_regions (slice_index words) head

abbrev pub piece : ℕ → ℕ → Piece
piece place size = record { place = place; size = size; is_writable = false }

abbrev pub refused : List Piece → ChainError → ℕ → Chain
refused pieces e n = record { pieces = pieces; refusal = Some (record { error = e; descriptor = n; is_indirect = false }) }

pub record IsWorkedChain : Type 0 where
  -- 16 bytes that the device reads, and, by descriptor 2, 512 that it writes
  pub two : worked (4096 ∷ second 16 1 2 ∷ 0 ∷ 0 ∷ 4112 ∷ second 512 2 0 ∷ []) 0
      ≡ record { pieces = piece 64 16 ∷ record { place = 80; size = 512; is_writable = true } ∷ []; refusal = None }
  -- the other way round
  pub order : worked (4096 ∷ second 16 3 2 ∷ 0 ∷ 0 ∷ 4112 ∷ second 512 0 0 ∷ []) 0
      ≡ refused (record { place = 64; size = 16; is_writable = true } ∷ []) OutOfOrder 2
  -- a descriptor that goes to itself
  pub loop : worked (4096 ∷ second 1 1 0 ∷ []) 0 ≡ refused (piece 64 1 ∷ piece 64 1 ∷ piece 64 1 ∷ piece 64 1 ∷ piece 64 1 ∷ []) TooLong 0
  -- the last byte isn't the guest's
  pub past : worked (4096 ∷ second 1025 0 0 ∷ []) 0 ≡ refused [] Outside 0
  pub last : worked (4096 ∷ second 1024 0 0 ∷ []) 0 ≡ record { pieces = piece 64 1024 ∷ []; refusal = None }
  -- a head and a next that are no entries
  pub head : worked [] 4 ≡ refused [] Beyond 4
  pub next : worked (4096 ∷ second 1 1 4 ∷ []) 0 ≡ refused [] Beyond 0
  -- an indirect table of one descriptor at byte 64, of which the buffer is the table
  pub table : worked (4096 ∷ second 16 4 0 ∷ 0 ∷ 0 ∷ 0 ∷ 0 ∷ 0 ∷ 0 ∷ 4096 ∷ second 16 0 0 ∷ []) 0 ≡ record { pieces = piece 64 16 ∷ []; refusal = None }
  pub part : worked (4096 ∷ second 24 4 0 ∷ []) 0 ≡ refused [] BadTable 0
  pub none : worked (4096 ∷ second 0 4 0 ∷ []) 0 ≡ refused [] BadTable 0
  pub and_next : worked (4096 ∷ second 16 5 0 ∷ []) 0 ≡ refused [] WithNext 0
  -- a table that refers to a table
  pub nested : worked (4096 ∷ second 16 4 0 ∷ 0 ∷ 0 ∷ 0 ∷ 0 ∷ 0 ∷ 0 ∷ 4096 ∷ second 16 4 0 ∷ []) 0
      ≡ record { pieces = []; refusal = Some (record { error = NotAllowed; descriptor = 0; is_indirect = true }) }
