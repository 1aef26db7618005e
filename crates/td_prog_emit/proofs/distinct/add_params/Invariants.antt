use Rattle.std.proofs.Common.{◌≡◌, map, take}
use Rattle.td_core.specs.declared.module.Param.{Param}
use Rattle.td_prog_text.specs.Entries.{own}
use Rattle.td_prog_text.specs.Names.{distinct}
use Rattle.td_prog_emit.proofs.distinct.add_params.Given as goal

abbrev pub invariant-loop-k : goal.invariant-loop-k
invariant-loop-k l = l.out.items ≡ distinct l.fn.out.items (map (λ (p : Param). own l.parts p.name) (take l.k l.entry.params))
