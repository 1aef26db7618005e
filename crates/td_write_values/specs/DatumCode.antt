-- How the logic stores a value: the labels of its parts in postfix order, and two stacks that give it back. No definition
-- of the language rests on this file.
use Rattle.std.specs.Prelude.{◌≡◌, ℕ, ◌+◌, ◌≤◌, List, [], ◌∷◌, refl}
use Rattle.std.proofs.Common.{ap, arith}
use Rattle.std.specs.Coded.{Coded, code_by, coded_list}
use denote.Param.Weighed.{most}
use Rattle.td_write_values.specs.Datum.{Datum, Data, Number, Sequence, Bytes, Empty, End, More, data_of, datum_size, data_size, list_size}

pub data_of_size : (l : List Datum) → data_size (data_of l) ≡ list_size l
data_of_size [] = refl
data_of_size (x ∷ xs) = rw (data_of_size xs) refl

pub most_le_list_size : (l : List Datum) → most (λ x. datum_size x + 1) l ≤ list_size l
most_le_list_size [] = omega arith
most_le_list_size (x ∷ xs) = omega (arith, most_le_list_size xs)

-- a node without its lists
pub data Label : Type 0 where
  NumberLabel : ℕ → Label
  SequenceLabel : Label
  BytesLabel : List ℕ → Label
  EmptyLabel : Label
  EndLabel : Label
  MoreLabel : Label

abbrev mutual
  pub postfix : Datum → List Label → List Label
  postfix (Number n) rest = NumberLabel n ∷ rest
  postfix (Sequence xs) rest = postfix_data xs (SequenceLabel ∷ rest)
  postfix (Bytes bs) rest = BytesLabel bs ∷ rest
  postfix Empty rest = EmptyLabel ∷ rest

  pub postfix_data : Data → List Label → List Label
  postfix_data End rest = EndLabel ∷ rest
  postfix_data (More x xs) rest = postfix x (postfix_data xs (MoreLabel ∷ rest))

-- the values and the lists that are ready
abbrev Stacks : Type 0
Stacks = List Datum × List Data

abbrev pub put : Datum → Stacks → Stacks
put x stacks = (x ∷ stacks.0, stacks.1)

abbrev pub one_list : List Datum → List Data → Stacks
one_list xs [] = (xs, [])
one_list xs (b ∷ bs) = (Sequence b ∷ xs, bs)

abbrev pub more : List Datum → List Data → Stacks
more [] bs = ([], bs)
more (x ∷ xs) [] = (xs, [])
more (x ∷ xs) (b ∷ bs) = (xs, More x b ∷ bs)

abbrev pub step : Stacks → Label → Stacks
step stacks (NumberLabel n) = put (Number n) stacks
step stacks SequenceLabel = one_list stacks.0 stacks.1
step stacks (BytesLabel bs) = put (Bytes bs) stacks
step stacks EmptyLabel = put Empty stacks
step stacks EndLabel = (stacks.0, End ∷ stacks.1)
step stacks MoreLabel = more stacks.0 stacks.1

abbrev pub run : List Label → Stacks → Stacks
run [] stacks = stacks
run (l ∷ ls) stacks = run ls (step stacks l)

mutual
  pub run_postfix : (x : Datum) (rest : List Label) (xs : List Datum) (bs : List Data) → run (postfix x rest) (xs, bs) ≡ run rest (x ∷ xs, bs)
  run_postfix (Number n) rest xs bs = refl
  run_postfix (Sequence b) rest xs bs = run_postfix_data b (SequenceLabel ∷ rest) xs bs
  run_postfix (Bytes b) rest xs bs = refl
  run_postfix Empty rest xs bs = refl

  pub run_postfix_data : (b : Data) (rest : List Label) (xs : List Datum) (bs : List Data) → run (postfix_data b rest) (xs, bs) ≡ run rest (xs, b ∷ bs)
  run_postfix_data End rest xs bs = refl
  run_postfix_data (More y ys) rest xs bs = rw (run_postfix y (postfix_data ys (MoreLabel ∷ rest)) xs bs, run_postfix_data ys (MoreLabel ∷ rest) (y ∷ xs) bs) refl

abbrev pub top : Stacks → Datum
top stacks = top_of stacks.0
  where
    top_of : List Datum → Datum
    top_of [] = Empty
    top_of (x ∷ xs) = x

-- the code of values, from a code of labels
abbrev pub datum_code_by : Coded Label → Coded Datum
datum_code_by label_code = code_by (List Label) (coded_list label_code) (λ x. postfix x []) (λ ls. top (run ls ([], []))) (λ x. ap top (run_postfix x [] [] []))
