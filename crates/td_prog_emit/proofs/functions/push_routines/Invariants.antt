use Rattle.std.proofs.Common.{◌≡◌, Ok, drop, flat_map}
use Rattle.td_ir.specs.Tables.{first_of}
use Rattle.td_prog_code.specs.Program.{functions}
use Rattle.td_prog_emit.proofs.functions.push_routines.Given as goal
use Rattle.td_prog_emit.specs.Written.{Wrote, helper_names, routine_names}
use Rattle.td_prog_text.specs.Functions as texts
use Rattle.td_prog_text.specs.Names.{routine_name}

abbrev pub invariant-loop-n : goal.invariant-loop-n
invariant-loop-n l = record {
  left : l.rest ≡ drop (first_of l.parts l.n) l.parts.instructions;
  written : Wrote (Ok tt) l.fn.out.items l.out.items (flat_map (texts.routine l.parts.names helper_names (routine_names l.parts)) (functions l.parts (routine_name l.parts) 0 l.n));
}
