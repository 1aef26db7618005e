use Rattle.std.proofs.Common.{ap, sym, drop, ◌∙◌, List, ℕ}
use Rattle.td_io.proofs.Prefixes.{prefix_read}
use Rattle.td_io.proofs.memory.MemorySourceSource.read.Goals as goal

pub returns-clause-bytes : goal.returns-clause-bytes
returns-clause-bytes c =
    let xs : List ℕ = c.self.inside.bytes.items in
    let given = prefix_read xs c.rest_at.result.now c.args.buf.now c.copy_prefix-n.new.buf c.self.inside.at c.copy_prefix-n.result (c.rest_at.ensures ∙ ap (λ (l : List ℕ). drop c.self.inside.at l) c.deref-2.ensures.value) c.copy_prefix-n.ensures.count c.copy_prefix-n.ensures.after c.copy_prefix-n.auto.buf in
    (sym (ap (λ r. r.left) c.self.view_is) ∙ given.0, given.1)
