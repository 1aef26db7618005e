-- A message in pieces that have words of their own (own rule; `td_piece` of capi/td.h): as a layout, each piece is a stretch of its own
-- words. So of message word n the stretch is the piece, and the word is that of the piece's words (`pair_at`).
use Rattle.std.specs.Prelude.{◌≡◌, ℕ, zero, suc, ◌+◌, ◌*◌, ◌<◌, ◌≤◌, cond, nat_eq, List, [], ◌∷◌, ◌++◌, length, map}
use Rattle.std.specs.List.{All}
use Rattle.td_stream.specs.declared.load.Load.{Load}
use Rattle.td_stream.specs.declared.stretch.Stretch.{Stretch}
use Rattle.td_stream.specs.Layouts.{pair_at}
use Rattle.td_foreign.specs.declared.pieces.TdPiece.{TdPiece}

abbrev pub stretch_of : TdPiece → Stretch
stretch_of p = record { place = p.place; size = p.size }

abbrev pub layout_of : List TdPiece → List Stretch
layout_of pieces = map stretch_of pieces

-- each piece is within its words
abbrev pub AreWhole : List TdPiece → Type 0
AreWhole pieces = All (λ (p : TdPiece). p.place + p.size ≤ 8 * p.words.count) pieces

-- each piece's count is that of its words
abbrev pub AreCounted : List TdPiece → Type 0
AreCounted pieces = All (λ (p : TdPiece). p.count ≡ p.words.count) pieces

-- no word of any piece was loaded
abbrev pub AreFresh : List TdPiece → Type 0
AreFresh pieces = All (λ (p : TdPiece). p.words.made ≡ []) pieces

-- how many words piece k has, and the loads made of them
abbrev pub count_at : List TdPiece → ℕ → ℕ
count_at [] k = 0
count_at (p ∷ pieces) zero = p.words.count
count_at (p ∷ pieces) (suc k) = count_at pieces k

abbrev pub made_at : List TdPiece → ℕ → List Load
made_at [] k = []
made_at (p ∷ pieces) zero = p.words.made
made_at (p ∷ pieces) (suc k) = made_at pieces k

-- of loads of message words those of piece k, each by its word of the piece's words
abbrev pub loads_in : List Stretch → ℕ → List Load → List Load
loads_in layout k [] = []
loads_in layout k (l ∷ loads) =
    cond (nat_eq (pair_at layout l.word).0 k) ((record { word = (pair_at layout l.word).1; value = l.value }) ∷ loads_in layout k loads) (loads_in layout k loads)

-- the loads made of each piece's words are those of these, and no others
abbrev pub AreLoaded : List TdPiece → List Load → Type 0
AreLoaded pieces loads = (k : ℕ) → k < length pieces → made_at pieces k ≡ loads_in (layout_of pieces) k loads

-- how many words each piece has, the count beside them, and where in them it lies
abbrev pub shape_of : TdPiece → (ℕ × ℕ) × (ℕ × ℕ)
shape_of p = ((p.words.count, p.count), (p.place, p.size))

abbrev pub SameShapes : List TdPiece → List TdPiece → Type 0
SameShapes a b = map shape_of b ≡ map shape_of a

-- word i of piece k was loaded once more, and nothing else has changed
pub record IsLoad (a b : List TdPiece) (k i value : ℕ) : Type 0 where
  pub shapes : SameShapes a b
  pub made : made_at b k ≡ made_at a k ++ (record { word = i; value = value }) ∷ []
  pub others : (j : ℕ) → (j ≡ k → ⊥) → made_at b j ≡ made_at a j

-- pieces of which no word was loaded have come to these by loads: those of the message's words, each of its piece's words
pub record HasLoads (was pieces : List TdPiece) (loads : List Load) : Type 0 where
  pub shapes : SameShapes was pieces
  pub made : AreLoaded pieces loads
