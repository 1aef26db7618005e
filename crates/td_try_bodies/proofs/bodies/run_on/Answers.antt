use Rattle.std.proofs.Common.{rules, ◌≡◌, ℕ, List, ◌++◌, length, take, drop, ap, subst, sym, ◌∙◌}
use Rattle.std.proofs.Math.Seq.{take-append_seam, take-length}
use Rattle.td_stream.specs.Copies.{BufferView, held_by}
use Rattle.td_try_bodies.specs.Meant.{IsJobMeant}
use Rattle.td_try_bodies.proofs.Jobs.{outcome_is_meant, buffers_fit}
use Rattle.td_try_bodies.proofs.bodies.run_on.Goals as goal

-- what a vector holds after a slice of all of it was lent
lent : (n : ℕ) (xs ys : List ℕ) → length xs ≡ n → take n (xs ++ drop (length xs) ys) ≡ xs
lent n xs ys e = subst (λ k. take k (xs ++ drop (length xs) ys) ≡ xs) e (take-append_seam xs (drop (length xs) ys))

-- so many buffers as there are are all of them
all_held : (n : ℕ) (buffers : List BufferView) → n ≡ length buffers → held_by (take n buffers) ≡ held_by buffers
all_held n buffers e = subst (λ k. held_by (take k buffers) ≡ held_by buffers) (sym e) (ap held_by (take-length buffers))

pub validate_direct_recorded-requires-clause-formed : goal.validate_direct_recorded-requires-clause-formed
validate_direct_recorded-requires-clause-formed c = c.requires.checked.formed

pub validate_direct_recorded-requires-clause-copying : goal.validate_direct_recorded-requires-clause-copying
validate_direct_recorded-requires-clause-copying c = c.requires.checked.copying

pub validate_direct_recorded-requires-clause-buffers : goal.validate_direct_recorded-requires-clause-buffers
validate_direct_recorded-requires-clause-buffers c =
    buffers_fit c.args.m.now c.args.job.now c.as_mut_slice.result.now _ c.requires.values (c.as_mut_slice.ensures.value ∙ c.in_ok-cells.ensures.items ∙ c.as_slice.ensures) (search rules)

pub returns : goal.returns
returns c =
    let m = c.args.m.now in
    let job = c.args.job.now in
    let start = c.as_mut_slice.result.now in
    let args = c.as_slice-args.result.now in
    let loads = c.validate_direct_recorded.new.loads.list in
    let left = c.validate_direct_recorded.new.cells in
    let own = c.in_ok-cells.cells in
    outcome_is_meant m job loads args start left c.of.result (held_by c.validate_direct_recorded.new.copies.buffers.items) c.held_by_first.result c.in_ok-verdict.verdict c.validate_direct_recorded.new.trace c.args.layout.now
    c.requires.sound c.requires.long c.requires.laid c.as_slice-args.ensures (c.as_mut_slice.ensures.value ∙ c.in_ok-cells.ensures.items ∙ c.as_slice.ensures)
    (c.of.ensures ∙ lent own.len left own.items (c.validate_direct_recorded.auto.cells ∙ c.as_mut_slice.ensures.len))
    (c.held_by_first.ensures ∙ all_held c.len-count.result c.validate_direct_recorded.new.copies.buffers.items (c.len-count.ensures ∙ c.validate_direct_recorded.new.copies.buffers.ok.0))
    c.validate_direct_recorded.ensures.fetched.rising c.validate_direct_recorded.ensures.fetched.inside c.in_ok-verdict.ensures.behavior
