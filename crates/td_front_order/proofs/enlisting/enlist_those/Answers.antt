use Rattle.std.proofs.Common.{◌+◌, drop, slice_index_or, subst, arith}
use Rattle.td_front_order.specs.Flags.{flag_at}
use Rattle.td_front_order.specs.Waiting.{AreListed}
use Rattle.td_front_order.proofs.Listed.{listed_next}
use Rattle.td_front_order.proofs.Searched.{drop_at}
use Rattle.td_front_order.proofs.enlisting.enlist_those.Goals as goal

pub loop-number-preserved : goal.loop-number-preserved
loop-number-preserved c =
    let l = c.loop-number in
    let graph = c.args.graph.now in
    let numbers = c.args.numbers.now in
    record {
      lists = c.in_ok-enlist.ensures.lists;
      sound = c.in_ok-enlist.ensures.sound;
      listed =
          listed_next graph (flag_at c.args.flags.now) l.waiting c.enlist.new.waiting l.ready.keys c.enlist.new.ready.keys (slice_index_or numbers l.number-index 0) (drop (l.number-index + 1) numbers)
          (subst (λ ns. AreListed graph (flag_at c.args.flags.now) l.waiting l.ready.keys ns) (drop_at numbers l.number-index (omega (arith, c.loop-number-test.true))) l.invariant.listed)
          c.in_ok-enlist.ensures.kept c.in_ok-enlist.ensures.listed;
    }
