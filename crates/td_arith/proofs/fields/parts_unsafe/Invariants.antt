use Rattle.std.proofs.Common.{◌≡◌, drop}
use Rattle.td_expr.specs.Safe.{first}
use Rattle.td_arith.specs.Known.{facts_in}
use Rattle.td_arith.specs.SafeModule.{parts_unsafe, known_after_parts}
use Rattle.td_arith.proofs.fields.parts_unsafe.Given as goal

-- what was found so far, or else what is left, decides
abbrev pub invariant-loop-part : goal.invariant-loop-part
invariant-loop-part l = record {
  left : first l.found (parts_unsafe l.here (facts_in l.known.items) l.range (drop l.part-index l.parts)) ≡ parts_unsafe l.fn.level (facts_in l.initial.known.items) l.range l.parts;
  known : known_after_parts l.here (facts_in l.known.items) l.range (drop l.part-index l.parts) ≡ known_after_parts l.fn.level (facts_in l.initial.known.items) l.range l.parts;
}
