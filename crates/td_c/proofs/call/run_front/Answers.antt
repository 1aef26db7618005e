use Rattle.std.proofs.Common.{rules, ◌≡◌, ℕ, List, ◌++◌, length, take, sym, subst, arith}
use Rattle.std.proofs.Math.Seq.{take-append_seam}
use Rattle.std.specs.Arc.{arc_value}
use Rattle.td_c.specs.Asked.{IsRunOfCall}
use Rattle.td_c.proofs.call.run_front.Goals as goal

-- the cells that were run with are the first ones, before and after
pub returns-clause-ran : goal.returns-clause-ran
returns-clause-ran g c =
    let a = c.args in
    let s = c.split_at_mut-front in
    let r = c.run_noted in
    let left : List ℕ = r.new.cells in
    let back : List ℕ = s.result.1.now in
    let first : s.result.0.now ≡ take a.cell_count a.cells.now = search rules in
    let size : length left ≡ a.cell_count = omega (arith, r.ensures.size, s.ensures.front_len, c.requires.cells) in
    let last : take a.cell_count (left ++ back) ≡ left = subst (λ (n : ℕ). take n (left ++ back) ≡ left) size (take-append_seam left back) in
    subst (λ (was : List ℕ). IsRunOfCall (arc_value a.session.now.code) a.entry a.args.now was (take a.cell_count (left ++ back)) a.layout.now (g.W.Words.loads r.new.words)
    a.session.now.frame r.new.session.frame a.rows.now r.new.rows r.result.found r.result.count) first
    (subst (λ (now : List ℕ). IsRunOfCall (arc_value a.session.now.code) a.entry a.args.now s.result.0.now now a.layout.now (g.W.Words.loads r.new.words)
    a.session.now.frame r.new.session.frame a.rows.now r.new.rows r.result.found r.result.count) (sym last) r.ensures.ran)
