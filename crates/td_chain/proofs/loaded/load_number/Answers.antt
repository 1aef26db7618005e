use Rattle.std.proofs.Common.{◌≡◌, ◌+◌, ◌/◌, ◌%◌, cond, ap, sym, ◌∙◌}
use Rattle.std.proofs.lemmas.Bool.{ne_eqb}
use Rattle.td_chain.specs.Chain.{joined_at}
use Rattle.td_chain.proofs.Growing.{holds_before}
use Rattle.td_chain.proofs.loaded.load_number.Goals as goal

pub returns-clause-value : goal.returns-clause-value
returns-clause-value g c = λ m h.
    let p = c.args.place in
    let k = p % 8 in
    let low : c.fetch-low.result ≡ m (p / 8) =
    c.fetch-low.ensures.value m (holds_before (λ j. j ≡ p / 8 + 1) m c.fetch-low.new.loads.list c.fetch-high.new.loads.list c.fetch-high.ensures.looked.grown h) in
    let high : c.fetch-high.result ≡ m (p / 8 + 1) = c.fetch-high.ensures.value m h in
    c.join.ensures
    ∙ ap (λ x. joined_at x c.fetch-high.result k) low
    ∙ ap (λ y. joined_at (m (p / 8)) y k) high
    ∙ sym (ap (λ b. cond b (m (p / 8)) (joined_at (m (p / 8)) (m (p / 8 + 1)) k)) (ne_eqb k 0 c.if-k-eq0.false))
