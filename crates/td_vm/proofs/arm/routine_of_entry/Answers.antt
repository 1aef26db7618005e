use Rattle.std.proofs.Common.{ap, ◌∙◌, arith}
use Rattle.td_ir.specs.Tables.{routine_of}
use Rattle.td_vm.proofs.arm.routine_of_entry.Goals as goal

pub routine_at-requires : goal.routine_at-requires
routine_at-requires c = omega (arith, (c.requires.code.entries c.args.k c.requires.there).there, ap (λ x. x.routine) c.entry_at.ensures)

pub returns : goal.returns
returns c = c.routine_at.ensures ∙ ap (λ x. routine_of c.args.parts.now x.routine) c.entry_at.ensures
