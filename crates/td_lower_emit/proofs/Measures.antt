-- Bounds on nodes.
use Rattle.std.proofs.Common.{◌+◌, ◌≤◌, length, arith}
use Rattle.td_core.specs.Weights.{terms_nodes, element_nodes}
use Rattle.td_core.specs.declared.module.Element.{Element}
use Rattle.td_core.specs.declared.module.Element.TheVariants.{Number, Listed, Named, Unit as UnitElement, Rest, Zeros}
use Rattle.td_lower_blocks.specs.Lowered.{terms_of}
use Rattle.td_core.proofs.Nodes.{each_node}

pub args_nodes : (element : Element) → length (terms_of element) + terms_nodes (terms_of element) ≤ element_nodes element + element_nodes element
args_nodes (Number type) = omega arith
args_nodes (Listed base values) = omega arith
args_nodes (Named definition args cells) = omega (arith, each_node args)
args_nodes UnitElement = omega arith
args_nodes Rest = omega arith
args_nodes Zeros = omega arith
