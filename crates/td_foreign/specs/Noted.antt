-- Loads as rows that a C program has room for (own rule).
use Rattle.std.specs.Prelude.{◌≡◌, ℕ, List, ◌++◌, length, map, take, drop}
use Rattle.td_stream.specs.declared.load.Load.{Load}
use Rattle.td_stream.specs.declared.stretch.Stretch.{Stretch}
use Rattle.td_stream.specs.Layouts.{pair_at}
use Rattle.td_foreign.specs.declared.noted.TdLoad.{TdLoad}

-- a load of a message word: its stretch, its word of the memory, and the value
abbrev pub row_of : List Stretch → Load → TdLoad
row_of layout l = record { stretch = (pair_at layout l.word).0; word = (pair_at layout l.word).1; value = l.value }

-- rows that were so begin with these loads, as far as there is room for them, and are as before behind them
abbrev pub AreRows : List Stretch → List Load → List TdLoad → List TdLoad → Type 0
AreRows layout loads was rows = rows ≡ take (length was) (map (row_of layout) loads ++ drop (length loads) was)

-- these loads are counted, and stand in the rows, as far as there is room for them
pub record IsNoted (layout : List Stretch) (loads : List Load) (was : List TdLoad) (count : ℕ) (rows : List TdLoad) : Type 0 where
  pub counted : count ≡ length loads
  pub listed : AreRows layout loads was rows

-- the loans of the words and of the rows, the layout, and the words
abbrev pub Noted : Type 0 → Type 0
Noted W = ℕ × ℕ × List Stretch × W

-- both are lent as before, of the same layout, and the words went on
abbrev pub Noting : {W : Type 0} → (W → W → Type 0) → Noted W → Noted W → Type 0
Noting reaches v w = (w.0 ≡ v.0) × (w.1 ≡ v.1) × (w.2 ≡ v.2) × reaches v.3 w.3
