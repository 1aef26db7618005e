-- Names of parts' definitions in the one tree (own rule: several modules in one text): a dot, the part's number in four bytes, the
-- least first, and the name there. A part's number is its place in the text, from 0. So a name has five bytes more in the one tree
-- than in its part, however long its part's name is.
use Rattle.std.specs.Prelude.{ℕ, Bool, cond, not, ◌+◌, take, drop, length, get_or, slice_index, List, [], ◌∷◌, ◌++◌, Option, Some, None}
use Rattle.std.specs.List.{list_any, take_while}
use Rattle.td_num.specs.Numbers.{byte_of, rising_at}
use Rattle.td_num.specs.declared.text.TheConstants.{DOT}
use Rattle.td_num.specs.Text.{is_dot}
use Rattle.td_names.specs.Names.{is_seen, number_of}
use Rattle.td_front_flat.specs.declared.own.Own.{Own}

-- the name of x of the part with this number
abbrev pub of_part : ℕ → List ℕ → List ℕ
of_part k x = DOT ∷ byte_of k 0 ∷ byte_of k 1 ∷ byte_of k 2 ∷ byte_of k 3 ∷ x

abbrev pub is_qualified : List ℕ → Bool
is_qualified x = list_any is_dot x

-- how many bytes stand before the first dot
abbrev pub is_plain : ℕ → Bool
is_plain b = not (is_dot b)

abbrev pub before_dot : List ℕ → ℕ
before_dot x = length (take_while is_plain x)

-- the part that a name names: the bytes before its dot, where it has one
abbrev pub part_named : List ℕ → Option (List ℕ)
part_named x = cond (is_qualified x) (Some (take (before_dot x) x)) None

-- the name there
abbrev pub after_dot : List ℕ → List ℕ
after_dot x = drop (before_dot x + 1) x

-- A name where something is named. A qualified name is that of the part before its dot; where there is no such part, it has the
-- count of parts for a number, so it names nothing. A plain name is the own part's, unless it is a local's in scope. A local that has
-- the name of a constant or a member of its own part is named as that is, so that both have one name (N2).
abbrev pub meant : Own → List (List ℕ) → List ℕ → List ℕ
meant own scope x =
    cond (is_qualified x) (of_part (number_of own.parts (take (before_dot x) x)) (after_dot x))
    (cond (is_seen own.literals x) (of_part own.number x) (cond (is_seen scope x) x (of_part own.number x)))

-- a local's name where it is given
abbrev pub given : Own → List ℕ → List ℕ
given own x = cond (is_seen own.literals x) (of_part own.number x) x

-- Names of the one tree as they are spelled, where parts have these names

abbrev pub is_numbered : List ℕ → Bool
is_numbered x = is_dot (slice_index x 0)

-- its part's name, a dot, and the name there; a name without a part is as it stands
abbrev pub spelled : List (List ℕ) → List ℕ → List ℕ
spelled parts x = cond (is_numbered x) (get_or parts (rising_at x 1 4) [] ++ DOT ∷ drop 5 x) x
