-- The helpers of a message in pieces read it. Cited by other crates.
use Rattle.std.proofs.Common.{◌≡◌, ℕ, ◌^◌, ◌<◌, List, [], length, append-nil, refl, ◌∙◌, arith}
use Rattle.td_num.specs.Numbers.{places_from}
use Rattle.td_stream.specs.declared.stretch.Stretch.{Stretch}
use Rattle.td_stream.specs.Layouts.{length_in, word_at}
use Rattle.td_prog.specs.Values.{Locals}
use Rattle.td_prog.specs.Run.{declared, helpers_over}
use Rattle.td_prog.specs.Pieces.{from_table}
use Rattle.td_prog_code.specs.PartsPrelude.{parts_prelude}
use Rattle.td_prog_trees.specs.Memory.{IsLaidMemory}
use Rattle.td_prog_trees.specs.Agree.{Basis, fresh}
use Rattle.td_prog_trees.specs.Readers.{IsReader}
pub use Rattle.td_prog_trees.proofs.PartsNumbers.{laid}
use Rattle.td_prog_trees.proofs.PartsNumbers.{number_taken}
use Rattle.td_prog_trees.proofs.PartsCopies.{all_copied}

module _ (layout : List Stretch) (memory : ℕ → ℕ) (basis : Basis) (limit : ℕ) (holds : IsLaidMemory layout memory basis.message)
    (short : length basis.message < 2 ^ 32) (size : length basis.message ≡ length_in layout) where
  pub parts_reader : IsReader (laid layout) memory basis limit (helpers_over (from_table layout 9) limit parts_prelude 9)
  parts_reader = record {
    number = λ order width place s wide inside next held. number_taken layout memory basis limit holds short size s place next held order width wide inside;
    copy = λ buffer place count s inside few lengths room ahead held.
        let u : Locals = record (declared [] s) { pos = place; room = count } in
        let t = all_copied layout memory basis limit holds short size buffer place s.buffers limit u count few (record {
          sum = omega arith;
          fits = room;
          few = omega (arith, inside, short);
          within = inside;
          kept = lengths;
          ahead = ahead;
          held = held;
          at = omega arith;
          done = refl;
          others = λ b e. refl;
        }) in
        record {
          final = t.final;
          gives = t.leads.same;
          words = t.leads.words ∙ append-nil (fresh (word_at layout) s.next (places_from place count));
          then = t.leads.behind_them;
          ahead = t.ahead;
          held = t.held;
          cells = t.cells;
          lengths = t.kept;
          copied = t.done;
          others = t.others;
        };
  }
