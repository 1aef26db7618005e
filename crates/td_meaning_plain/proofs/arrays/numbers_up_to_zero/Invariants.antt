use Rattle.std.proofs.Common.{◌≡◌, ℕ, ◌-◌, ◌*◌, ◌≤◌, List, min}
use Rattle.td_num.specs.Numbers.{bytes_in}
use Rattle.td_meaning.proofs.Zeros.{zero_turns}
use Rattle.td_meaning_plain.proofs.arrays.numbers_up_to_zero.Given as goal

abbrev pub invariant-loop-turn : goal.invariant-loop-turn
invariant-loop-turn l = record {
  left : (min l.bound l.room - l.turn) * bytes_in l.number_type.width ≤ l.end - l.pos;
  ending : (cells : List ℕ) → (zero_turns l.number_type l.message l.reason l.start (min l.bound l.room) l.start cells).ending ≡ (zero_turns l.number_type l.message l.reason l.start (min l.bound l.room - l.turn) l.pos cells).ending;
}
