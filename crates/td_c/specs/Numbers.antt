-- Answers as the numbers that C is given (own rule; capi/td.h names them).
use Rattle.std.specs.Prelude.{ℕ, ℤ, pos, Result, Ok, Err}
use Rattle.td_core.specs.declared.outcome.Reason.{Reason}
use Rattle.td_core.specs.declared.outcome.Reason.TheVariants as reasons
use Rattle.td_core.specs.declared.outcome.Spot.{Spot}
use Rattle.td_core.specs.declared.outcome.Spot.TheVariants as spots
use Rattle.td_core.specs.declared.outcome.TraceFrame.{TraceFrame}
use Rattle.td_core.specs.declared.outcome.Verdict.{Verdict}
use Rattle.td_core.specs.declared.outcome.Verdict.TheVariants.{Accept, Reject}
use Rattle.td_c.specs.declared.answers.Refusal.{Refusal}
use Rattle.td_c.specs.declared.answers.Refusal.TheVariants.{Past, NoEntry, Unfit}
use Rattle.td_c.specs.declared.answers.TdFrame.{TdFrame}

abbrev pub reason_number : Reason → ℕ
reason_number reasons.NotEnough = 0
reason_number reasons.Impossible = 1
reason_number reasons.ListSize = 2
reason_number reasons.Action = 3
reason_number reasons.Constraint = 4
reason_number reasons.Padding = 5

-- what failed, and the number of the field's name
abbrev pub spot_number : Spot → ℕ × ℕ
spot_number (spots.Field name) = (0, name.number)
spot_number spots.Where = (1, 0)
spot_number spots.Switch = (2, 0)

abbrev pub frame_told : TraceFrame → TdFrame
frame_told f = record { kind = f.ty.number; spot = (spot_number f.field).0; field = (spot_number f.field).1; start = f.start; reason = reason_number f.reason }

abbrev pub answer_number : Result Verdict Refusal → ℤ
answer_number (Ok (Accept p)) = pos 0
answer_number (Ok (Reject r p)) = pos 1
answer_number (Err Unfit) = pos 2
answer_number (Err NoEntry) = pos 5
answer_number (Err Past) = pos 6

-- the position of a verdict, and the number of its reason: 6 where it accepts
abbrev pub position_told : Verdict → ℕ
position_told (Accept p) = p
position_told (Reject r p) = p

abbrev pub reason_told : Verdict → ℕ
reason_told (Accept p) = 6
reason_told (Reject r p) = reason_number r
