use Rattle.std.proofs.Common.{ℕ, List, take, sym, subst, ◌∙◌}
use Rattle.std.specs.Arc.{arc_value}
use Rattle.td_ir.specs.declared.tables.Parts.{Parts}
use Rattle.td_stream.specs.Copies.{held_by}
use Rattle.td_ir.specs.Entries.{buffers_of}
use Rattle.td_vm.specs.Frames.{IsRestEmpty}
use Rattle.td_session.specs.Validated.{IsValidated}
use Rattle.td_session.proofs.session.Session.validate.Goals as goal

pub returns-clause-validated : goal.returns-clause-validated
returns-clause-validated g c =
    let done = c.validate_with_steps-found in
    let V : Parts → List ℕ → List ℕ → Type 0 = λ code before after. IsValidated code c.args.entry c.args.args.now before c.args.layout.now
    (g.W.Words.loads done.new.words) (record { verdict = done.result.0; trace = done.new.frame.trace; cells = after; copies = held_by (take (buffers_of code c.args.entry) done.new.frame.copies) }) done.result.1 in
    let v : V c.verified-2.result.now c.set_cells.new.self.cells done.new.frame.cells = record {
      validated = done.ensures.validated;
      steps = done.ensures.told;
      count = done.ensures.cell_count;
    } in
    let by_code = subst (λ (k : Parts). V k c.set_cells.new.self.cells done.new.frame.cells) (c.verified-2.ensures ∙ c.deref-2.ensures) v in
    let from_cells = subst (λ (xs : List ℕ). V (arc_value c.args.self.now.code) xs done.new.frame.cells) c.set_cells.ensures.cells by_code in
    subst (λ (xs : List ℕ). V (arc_value c.args.self.now.code) c.args.cells.now xs) (sym (c.copy_from_slice.ensures.after ∙ c.cells.ensures)) from_cells

pub returns-clause-rest : goal.returns-clause-rest
returns-clause-rest g c =
    let done = c.validate_with_steps-found in
    subst (λ (k : Parts). IsRestEmpty k (buffers_of k c.args.entry) done.new.frame) (c.verified-2.ensures ∙ c.deref-2.ensures) done.ensures.rest
