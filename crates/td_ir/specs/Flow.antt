-- What one instruction does on a message that stays: a line for each kind (own rule; docs/language/code.md).
use Rattle.std.specs.Prelude.{ℕ, suc, ◌+◌, ◌*◌, ◌/◌, ◌%◌, min, Bool, true, false, cond, List, [], Option, Some, None, slice_index, slice_set, nat_eq, nat_le}
use Rattle.td_num.specs.Numbers.{ordered_at, places_from}
use Rattle.td_num.specs.Lists.{is_among, first_where, looked_at}
use Rattle.td_core.specs.declared.outcome.Reason.{Reason}
use Rattle.td_core.specs.declared.outcome.Reason.TheVariants.{NotEnough, ListSize, Constraint, Padding}
use Rattle.td_ir.specs.declared.instructions.Instr.{Instr}
use Rattle.td_ir.specs.declared.instructions.Instr.TheVariants as i
use Rattle.td_ir.specs.declared.tables.Parts.{Parts}
use Rattle.td_ir.specs.Tables.{routine_of, set_of}
use Rattle.td_ir.specs.State.{State, reg, with_reg, at_pos, left}
use Rattle.td_ir.specs.Values.{bit, operated, bits_of, reason_of, order_of, numbers_from, is_zero, is_nonzero}

-- what an instruction leads to: a place, a failure at a site with its position, a call, the end of the routine, a loop's turns, the end of a turn
pub data Flow : Type 0 where
  Goes : (target : ℕ) → State → Flow
  Fails : (reason : Reason) (site pos : ℕ) → State → Flow
  Calls : (first routine map site : ℕ) → State → Flow
  Returns : State → Flow
  Loops : (target : ℕ) → State → Flow
  Turns : State → Flow

-- with the places that it looks at, and its steps
pub record Effect : Type 0 where
  pub flow : Flow
  pub touched : List ℕ
  pub steps : ℕ

-- one step that looks at nothing
abbrev pub plain : Flow → Effect
plain flow = record { flow = flow; touched = []; steps = 1 }

-- goes on where a test holds, else fails at the running start
abbrev pub where_so : Bool → ℕ → State → Reason → ℕ → Flow
where_so true next s reason site = Goes next s
where_so false next s reason site = Fails reason site s.start s

-- whether n bytes are left
abbrev pub has_bytes : State → ℕ → Bool
has_bytes s n = nat_le (s.pos + n) s.end

abbrev pub skipped : ℕ → ℕ → ℕ → State → Effect
skipped next n site s = plain (cond (has_bytes s n) (Goes next (at_pos s (s.pos + n))) (Fails NotEnough site s.start s))

abbrev pub narrowed : ℕ → ℕ → ℕ → State → Effect
narrowed next n site s = plain (cond (has_bytes s n) (Goes next (record s { end = s.pos + n; outer = s.end })) (Fails NotEnough site s.start s))

abbrev pub fetched : List ℕ → (next into order width site : ℕ) → State → Effect
fetched message next into order width site s =
    cond (has_bytes s width)
    (record { flow = Goes next (at_pos (with_reg s into (ordered_at (order_of order) message s.pos width)) (s.pos + width)); touched = places_from s.pos width; steps = 1 })
    (plain (Fails NotEnough site s.start s))

-- up to the first nonzero byte of those that are left
abbrev pub zeros_flow : ℕ → ℕ → Option ℕ → State → Flow
zeros_flow next site None s = Goes next (at_pos s s.end)
zeros_flow next site (Some k) s = Fails Padding site (s.pos + k) s

abbrev pub zeros : List ℕ → ℕ → ℕ → State → Effect
zeros message next site s =
    let first = first_where is_nonzero (numbers_from message s.pos 1 (left s)) in
    let count = looked_at first (left s) in
    record { flow = zeros_flow next site first s; touched = places_from s.pos count; steps = 1 + count }

-- up to the first element that is zero, of those that the bound and what is left have room for; without one the lower of the two is what fails
abbrev pub zeroterm_flow : (next site width bound room : ℕ) → Option ℕ → State → Flow
zeroterm_flow next site width bound room (Some k) s = Goes next (at_pos s (s.pos + suc k * width))
zeroterm_flow next site width bound room None s = Fails (cond (nat_le bound room) Constraint NotEnough) site s.start s

abbrev pub zeroterm : List ℕ → (next site width bound room : ℕ) → State → Effect
zeroterm message next site width bound room s =
    let first = first_where is_zero (numbers_from message s.pos width (min bound room)) in
    let count = looked_at first (min bound room) in
    record { flow = zeroterm_flow next site width bound room first s; touched = places_from s.pos (count * width); steps = 1 + count }

-- so many bytes are taken, and the first ones, up to the room, stand in a buffer from then on: two cells get their place and their number
abbrev pub copied : (next size room place count site : ℕ) → State → Effect
copied next size room place count site s =
    cond (has_bytes s size)
    (record { flow = Goes next (record s { cells = slice_set (slice_set s.cells place s.pos) count (min size room); pos = s.pos + size }); touched = places_from s.pos (min size room); steps = 1 + min size room })
    (plain (Fails NotEnough site s.start s))

-- an instruction at pc of routine n, whose cells, and then those of its buffers, are these of the entry point's
abbrev pub effect : Parts → ℕ → (message places : List ℕ) → ℕ → Instr → State → Effect
effect c n message places pc (i.Const into value) s = plain (Goes (pc + 1) (with_reg s into value))
effect c n message places pc (i.Member into source set) s = plain (Goes (pc + 1) (with_reg s into (bit (is_among (set_of c set) (reg s source)))))
effect c n message places pc (i.Op into operator x y) s = plain (Goes (pc + 1) (with_reg s into (operated operator (reg s x) (reg s y))))
effect c n message places pc (i.Bits into source low count) s = plain (Goes (pc + 1) (with_reg s into (bits_of (reg s source) low count)))
effect c n message places pc (i.Pos into) s = plain (Goes (pc + 1) (with_reg s into s.start))
effect c n message places pc (i.Jump target) s = plain (Goes target s)
effect c n message places pc (i.JumpIf test target) s = plain (cond (nat_eq (reg s test) 0) (Goes (pc + 1) s) (Goes target s))
effect c n message places pc (i.JumpUnless test target) s = plain (cond (nat_eq (reg s test) 0) (Goes target s) (Goes (pc + 1) s))
effect c n message places pc (i.Call first routine map site) s = plain (Calls first routine map site s)
effect c n message places pc i.Return s = plain (Returns s)
effect c n message places pc (i.Fetch into order width site) s = fetched message (pc + 1) into order width site s
effect c n message places pc (i.SkipK bytes site) s = skipped (pc + 1) bytes site s
effect c n message places pc (i.Skip size site) s = skipped (pc + 1) (reg s size) site s
effect c n message places pc i.Rest s = plain (Goes (pc + 1) (at_pos s s.end))
effect c n message places pc (i.Zeros site) s = zeros message (pc + 1) site s
effect c n message places pc (i.Zeroterm bound width site) s = zeroterm message (pc + 1) site width (reg s bound / width) (left s / width) s
effect c n message places pc (i.NarrowK bytes site) s = narrowed (pc + 1) bytes site s
effect c n message places pc (i.Narrow size site) s = narrowed (pc + 1) (reg s size) site s
effect c n message places pc (i.Divides size step site) s = plain (where_so (nat_eq (reg s size % step) 0) (pc + 1) s ListSize site)
effect c n message places pc (i.While target) s = plain (Loops target s)
effect c n message places pc (i.Again target) s = plain (Turns s)
effect c n message places pc (i.Widen site) s = plain (cond (nat_eq s.pos s.end) (Goes (pc + 1) (record s { end = s.outer })) (Fails ListSize site s.start s))
effect c n message places pc (i.Fail reason site) s = plain (Fails (reason_of reason) site s.start s)
effect c n message places pc (i.Get into cell) s = plain (Goes (pc + 1) (with_reg s into (slice_index s.cells (slice_index places cell))))
effect c n message places pc (i.Set source cell) s = plain (Goes (pc + 1) (record s { cells = slice_set s.cells (slice_index places cell) (reg s source) }))
effect c n message places pc i.Mark s = plain (Goes (pc + 1) (record s { start = s.pos }))
effect c n message places pc (i.Copy size buffer site) s =
    let first = (routine_of c n).cells + 2 * buffer in
    copied (pc + 1) (reg s size) (slice_index (routine_of c n).buffers buffer) (slice_index places first) (slice_index places (first + 1)) site s
effect c n message places pc (i.Left into) s = plain (Goes (pc + 1) (with_reg s into (left s)))
