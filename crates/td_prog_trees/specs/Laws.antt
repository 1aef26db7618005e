-- What holds of trees, and of the helpers that take numbers (own rule).
use Rattle.std.specs.Prelude.{◌≡◌, ℕ, ◌+◌, ◌-◌, ◌/◌, ◌^◌, ◌<◌, ◌≤◌, List, [], ◌∷◌, length}
use Rattle.std.specs.List.{All}
use Rattle.td_num.specs.Numbers.{places_from, ordered_at}
use Rattle.td_num.specs.Lists.{Each}
use Rattle.td_stream.specs.declared.load.Load.{Load}
use Rattle.td_stream.specs.Loads.{IsRising}
use Rattle.td_ir.specs.Values.{order_of}
use Rattle.td_verify.specs.Operands.{IsWidth}
use Rattle.td_prog.specs.Tree.{Tree, Plays, loaded}
use Rattle.td_prog.specs.Values.{Locals}
use Rattle.td_prog.specs.Means.{Out}
use Rattle.td_prog.specs.Run.{helpers_below, guarded}
use Rattle.td_prog_code.specs.Prelude.{number_helper, prelude}
use Rattle.td_prog_trees.specs.Memory.{IsMemory, AreWords, HasHeld}
use Rattle.td_prog_trees.specs.Agree.{RisesFrom}
use Rattle.td_prog_trees.specs.Readers.{IsTaken}

-- Where the loaded words rise on each memory that stays, they rise in each play.
abbrev pub PlaysRise : Type 0
PlaysRise =
    (t : Tree Out) (loads : List Load) (y : Out) → ((memory : ℕ → ℕ) → AreWords memory → RisesFrom 0 (loaded memory t)) →
    Plays t loads y → Each (λ (l : Load). l.value < 2 ^ 64) loads → IsRising loads

-- each play loads words below a number
abbrev pub StaysBelow : ℕ → Tree Out → Type 0
StaysBelow words t =
    (loads : List Load) (y : Out) → Plays t loads y → Each (λ (l : Load). l.value < 2 ^ 64) loads → All (λ (l : Load). l.word < words) loads

-- A guard behind all loads changes no play.
abbrev pub GuardIsNeverMet : Type 0
GuardIsNeverMet =
    (words : ℕ) (t : Tree Out) (loads : List Load) (y : Out) → StaysBelow words t → Each (λ (l : Load). l.value < 2 ^ 64) loads →
    Plays (guarded words t) loads y → Plays t loads y

-- The number of a width and byte order at a position of the message: where no word behind that of its first byte was loaded, its helper gives it, and loads
-- just the words with a byte of it
-- (one, or two) but for one that is held.
abbrev pub NumbersAreTaken : Type 0
NumbersAreTaken =
    (memory : ℕ → ℕ) (message : List ℕ) (most order width pos : ℕ) (s : Locals) →
    IsMemory memory message → length message < 2 ^ 32 → IsWidth width → pos + width ≤ length message → s.next ≤ pos / 8 + 1 → HasHeld memory s →
    IsTaken (λ p. p / 8) memory s (helpers_below most prelude 9 (number_helper order width) (pos ∷ []) [] s) (places_from pos width)
    (ordered_at (order_of order) message pos width) ((pos + width - 1) / 8)
