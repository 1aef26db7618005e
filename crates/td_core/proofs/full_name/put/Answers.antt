use Rattle.std.proofs.Common.{ℕ, List, ◌++◌, ap}
use Rattle.td_core.proofs.Fronts.{front_put, behind_put}
use Rattle.td_core.proofs.full_name.put.Goals as goal

pub returns-clause-front : goal.returns-clause-front
returns-clause-front c =
    let s = c.split_at_mut-rest.ensures in
    front_put c.copy_front.result c.args.at c.split_at_mut-rest.result.0.now c.split_at_mut-rest.result.1.now c.args.piece.now c.args.room.now _
    c.copy_front.ensures.count s.front_len s.value (ap (λ (l : List ℕ). c.split_at_mut-rest.result.0.now ++ l) c.copy_front.ensures.room)

pub returns-clause-behind : goal.returns-clause-behind
returns-clause-behind c =
    let s = c.split_at_mut-rest.ensures in
    behind_put c.copy_front.result c.args.at c.split_at_mut-rest.result.0.now c.split_at_mut-rest.result.1.now c.args.piece.now c.args.room.now _
    c.copy_front.ensures.count s.front_len s.value (ap (λ (l : List ℕ). c.split_at_mut-rest.result.0.now ++ l) c.copy_front.ensures.room)
