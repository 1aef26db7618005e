use Rattle.td_core.proofs.Fronts.{all_put}
use Rattle.td_core.proofs.full_name.FullName.write_front.Goals as goal

pub returns : goal.returns
returns c =
    let pieces = c.pieces-pieces.result in
    let one = c.put-count.ensures in
    let two = c.put-count-2.ensures in
    let three = c.put.ensures in
    let all = all_put c.put-count.result c.put-count-2.result c.put.result pieces.part.now pieces.dot.now pieces.own.now c.args.self.now
    c.args.room.now c.put-count.new.room c.put-count-2.new.room c.put.new.room c.put-count.auto.room c.put-count-2.auto.room c.pieces-pieces.ensures
    one.end one.front one.behind two.end two.front two.behind three.end three.front three.behind in
    record { count = all.0; front = all.1; behind = all.2 }
