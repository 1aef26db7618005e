use Rattle.std.proofs.Common.{◌≡◌, ℕ, ◌+◌, ◌++◌, ◌<◌, length, false}
use Rattle.std.specs.Prelude.{slice_index_or, slice_range}
use Rattle.td_ir.specs.Tables.{end_of}
use Rattle.td_prog.specs.Syntax as syntax
use Rattle.td_prog_code.specs.Program.{blocks}
use Rattle.td_prog_emit.proofs.Levels.{standing}
use Rattle.td_prog_emit.proofs.blocks.push_blocks.Given as goal
use Rattle.td_prog_text.specs.Expressions.{text}
use Rattle.td_prog_text.specs.Statements.{goes}
use Rattle.td_verify.specs.Safe.{looped}

-- what is written, and what stands to be written from here on, are what stood to be written at first
abbrev pub invariant-loop-pc : goal.invariant-loop-pc
invariant-loop-pc l = record {
  loop : l.looped ≡ looped l.parts l.pc;
  left : (whole : syntax.Block) → ((k : ℕ) → k < length l.marks → slice_index_or l.marks k false ≡ goes (l.first + k) whole) →
      l.fn.out.items ++ text (standing l.parts l.n whole (blocks l.parts l.n l.first (slice_range l.parts.instructions l.first (end_of l.parts l.n))))
      ≡ l.out.items ++ text (standing l.parts l.n whole (blocks l.parts l.n l.pc (slice_range l.parts.instructions l.pc (end_of l.parts l.n))));
}
