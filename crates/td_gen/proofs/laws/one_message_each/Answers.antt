use Rattle.std.proofs.Common.{◌≡◌, ℕ, List, ◌+◌, ◌/◌, length, sym, ap, ◌∙◌}
use Rattle.td_sched.specs.declared.store.PlannedStore.{PlannedStore}
use Rattle.td_job.specs.declared.named.NamedJob.{NamedJob}
use Rattle.td_job.proofs.Bytes.{filled_once}
use Rattle.td_gen.specs.Message.{message_bytes, IsMessage}
use Rattle.td_gen.proofs.laws.one_message_each.Goals as goal

one_message : (n : ℕ) (a b : NamedJob) → IsMessage n a → IsMessage n b → a ≡ b
one_message n a b ha hb =
    let words = filled_once (message_bytes n) ((length (message_bytes n) + 7) / 8) a.words b.words ha.filled hb.filled in
    let make : List ℕ → List ℕ → List ℕ → List ℕ → ℕ → List PlannedStore → NamedJob = λ entry args cells words length stores. record { entry = entry; args = args; cells = cells; words = words; length = length; stores = stores } in
    ap (λ x. make x a.args a.cells a.words a.length a.stores) (ha.entry ∙ sym hb.entry)
    ∙ ap (λ x. make b.entry x a.cells a.words a.length a.stores) (ha.args ∙ sym hb.args)
    ∙ ap (λ x. make b.entry b.args x a.words a.length a.stores) (ha.cells ∙ sym hb.cells)
    ∙ ap (λ x. make b.entry b.args b.cells x a.length a.stores) words
    ∙ ap (λ x. make b.entry b.args b.cells b.words x a.stores) (ha.as_long ∙ sym hb.as_long)
    ∙ ap (λ x. make b.entry b.args b.cells b.words b.length x) (ha.stored ∙ sym hb.stored)

pub returns : goal.returns
returns c = one_message
