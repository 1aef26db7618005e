use Rattle.std.proofs.Common.{rules, ◌≡◌, ℕ, List, take, subst}
use Rattle.std.specs.Arc.{arc_value}
use Rattle.td_c.specs.Asked.{IsRunOfCall, entry_asked, cells_of}
use Rattle.td_c.proofs.call.run_call.Goals as goal

-- the arguments that were run with are the call's first ones
pub returns-clause-ran : goal.returns-clause-ran
returns-clause-ran g c =
    let a = c.args in
    let r = c.run_front in
    let first : c.split_at.result.0.now ≡ take a.call.now.arg_count a.call.now.args = search rules in
    subst (λ (args : List ℕ). IsRunOfCall (arc_value a.session.now.code) (entry_asked a.call.now) args (cells_of a.call.now) (take a.call.now.cell_count r.new.cells) a.layout.now
    (g.W.Words.loads r.new.words) a.session.now.frame r.new.session.frame a.rows.now r.new.rows r.result.found r.result.count) first r.ensures.ran
