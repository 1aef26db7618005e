-- What an action does (3D manual, "Actions").
use Rattle.std.specs.Prelude.{ℕ, Bool, true, false, List, [], ◌∷◌, ◌++◌, slice_index, slice_set}
use Rattle.td_core.specs.Term.{Term, Deed, done, set, keep, fork, answer, give_up}
use Rattle.td_expr.specs.Value.{value_of, truth_of, natural}

-- how an action ends, with the cells as they then are
pub data Effect : Type 0 where
  On : (cells : List ℕ) → Effect
  Returned : (value : Bool) (cells : List ℕ) → Effect
  Aborted : (cells : List ℕ) → Effect

-- what follows is done where the action goes on
abbrev pub after : Effect → (List ℕ → Effect) → Effect
after (On cells) go = go cells
after (Returned value cells) go = Returned value cells
after (Aborted cells) go = Aborted cells

-- the first where the test holds, else the second
abbrev pub either_way : {A : Type 0} → Bool → A → A → A
either_way true a b = a
either_way false a b = b

-- the number that an expression gives where a number of the machine stands
abbrev pub natural_of : Term → List ℕ → ℕ
natural_of e env = natural (value_of e env)

abbrev pub is_true : Term → List ℕ → Bool
is_true e env = truth_of (value_of e env)

-- a definition's own cell n is cell places[n] of all; each value that is read comes into scope
abbrev pub doing : Deed → List ℕ → List ℕ → List ℕ → Effect
doing done env places cells = On cells
doing (set cell e then) env places cells = doing then env places (slice_set cells (slice_index places cell) (natural_of e env))
doing (keep cell then) env places cells = doing then (env ++ slice_index cells (slice_index places cell) ∷ []) places cells
doing (fork e one other then) env places cells =
    after (either_way (is_true e env) (doing one env places cells) (doing other env places cells)) (doing then env places)
doing (answer e) env places cells = Returned (is_true e env) cells
doing give_up env places cells = Aborted cells
