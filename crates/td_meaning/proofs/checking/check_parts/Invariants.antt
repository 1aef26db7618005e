use Rattle.std.proofs.Common.{◌≡◌, [], drop}
use Rattle.td_meaning.specs.Words64.{parts_meaning}
use Rattle.td_meaning.specs.Meaning.{extended}
use Rattle.td_meaning.proofs.checking.check_parts.Given as goal

abbrev pub invariant-loop-part : goal.invariant-loop-part
invariant-loop-part l = record {
  empty_trace : l.trace ≡ [];
  ending : parts_meaning l.ty l.start l.value l.parts l.fn.env.items l.places l.pos l.fn.cells ≡ parts_meaning l.ty l.start l.value (drop l.part-index l.parts) l.env.items l.places l.pos l.cells;
  scope : extended l.fn.env.items l.value l.parts ≡ extended l.env.items l.value (drop l.part-index l.parts);
}
