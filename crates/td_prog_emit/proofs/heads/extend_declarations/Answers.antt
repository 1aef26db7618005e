use Rattle.td_prog_emit.proofs.heads.extend_declarations.Goals as goal
use Rattle.std.proofs.Common.{◌++◌, ◌+◌, codes, decimal, flat_map}
use Rattle.td_prog.specs.Syntax.{registers}
use Rattle.td_prog_emit.proofs.Texts.{stepped}
use Rattle.td_prog_emit.proofs.Variables.{declarations_more}
use Rattle.td_prog_text.specs.Functions.{declaration}

pub loop-k-preserved : goal.loop-k-preserved
loop-k-preserved c =
    stepped c.args.out.now.items c.loop-k.out.items c.extend_declaration.new.out.items (flat_map declaration (registers c.args.first c.loop-k.k)) (codes "    uint64_t r" ++ (decimal (c.args.first + c.loop-k.k) ++ codes " = 0;\n")) (flat_map declaration (registers c.args.first (c.loop-k.k + 1)))
    c.loop-k.invariant (c.in_ok-extend_declaration.ensures {u = tt}) (declarations_more c.args.first c.loop-k.k)
