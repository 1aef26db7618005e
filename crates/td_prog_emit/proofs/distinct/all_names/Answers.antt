use Rattle.std.proofs.Common.{map}
use Rattle.td_core.specs.declared.module.Cell.{Cell}
use Rattle.td_core.specs.declared.module.Param.{Param}
use Rattle.td_prog_text.specs.Entries.{own}
use Rattle.td_prog_emit.proofs.Apart.{three_parts}
use Rattle.td_prog_emit.proofs.distinct.all_names.Goals as goal

pub returns : goal.returns
returns c = three_parts _ _ _ _ (map (λ (p : Param). own c.args.parts.now p.name) c.args.entry.now.params) (map (λ (cell : Cell). own c.args.parts.now cell.name) c.args.entry.now.cells) (map (own c.args.parts.now) c.args.entry.now.buffers) c.new-out.ensures.items (c.in_ok-add_params.ensures {u = tt}) (c.in_ok-add_cells.ensures {u = tt}) (c.in_ok-add_buffers.ensures {u = tt})
