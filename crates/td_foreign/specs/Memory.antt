-- The words of a message, as C hands them over (own rule; `td_words` of capi/td.h).
use Rattle.std.specs.Prelude.{ℕ, zero, suc, List, [], ◌∷◌, length}
use mir.Syntax.{named}
use base.Fml.{Lft, Share, Fml, ftrue, ffalse, feq, fsep, fex, flft}
use base.Stored.{Coded, coded_list}
use denote.RawPtr.{Ptr, block_ptr, null_ptr}
use denote.Slice.{ShrSlice, slice_val}
use Rattle.std.specs.contracts.sync.atomic.AtomicU64.{the_row as atomic}
use Rattle.td_stream.specs.declared.load.Load.{Load}
use Rattle.td_stream.specs.contracts.load.Load.{the_row as load_row}

abbrev pub Lent : Type 0
Lent = Lft × (Share × List atomic.Denot)

-- what a `&[AtomicU64]` of n words at that place owns, for a lifetime, and a share of that lifetime
abbrev pub lent : ℕ → ℕ → ℕ → Lent → Fml
lent b o n x = fsep (feq ℕ (length x.1.1) n) (fsep (flft x.0 x.1.0)
    ((ShrSlice (named 0) x.0 atomic).own_val (record { ref_ptr = (b, o); now = x.1.1 }) (slice_val (b, o) n ∷ [])))

-- the right to n words at the pointer, which others reach too, by atomic loads and stores alone
abbrev pub atomics_at : Ptr → ℕ → Fml
atomics_at (block_ptr b o) n = fex Lent (lent b o n)
atomics_at null_ptr n = ffalse

-- the same, where there are words; no words are no right
abbrev pub words_own : Ptr → ℕ → Fml
words_own p zero = ftrue
words_own p (suc n) = atomics_at p (suc n)

-- how a list of loads is stored
abbrev pub loads_coded : Coded (List Load)
loads_coded = coded_list load_row.coded
