use Rattle.std.proofs.Common.{◌≡◌, ◌-◌, ◌/◌, ◌^◌, drop, length}
use Rattle.td_report.specs.Report.{hex_digits}
use Rattle.td_report.proofs.hexadecimal.digits_of.Given as goal

abbrev pub invariant-loop-count : goal.invariant-loop-count
invariant-loop-count l = record {
  rest : l.rest ≡ l.value / 16 ^ l.count;
  size : length l.digits ≡ 16;
  digits : drop (16 - l.count) l.digits ≡ hex_digits l.count l.value;
}
