use Rattle.std.proofs.Common.{arith}
use Rattle.td_front_order.specs.Flags.{flag_at}
use Rattle.td_front_order.proofs.Listed.{below_none, below_more, below_all}
use Rattle.td_front_order.proofs.enlisting.enlist_all.Goals as goal

pub loop-number-init : goal.loop-number-init
loop-number-init c = record {
  within = omega arith;
  lists = c.requires.lists;
  sound = c.requires.sound;
  below = below_none c.args.graph.now (flag_at c.args.flags.now) c.args.waiting.now c.args.ready.now.keys;
}

pub loop-number-preserved : goal.loop-number-preserved
loop-number-preserved c =
    let l = c.loop-number in
    record {
      within = omega (arith, c.loop-number-test.true);
      lists = c.in_ok-enlist.ensures.lists;
      sound = c.in_ok-enlist.ensures.sound;
      below =
          below_more c.args.graph.now (flag_at c.args.flags.now) l.number l.waiting c.enlist.new.waiting l.ready.keys c.enlist.new.ready.keys (omega (arith, c.loop-number-test.true)) l.invariant.below
          c.in_ok-enlist.ensures.kept c.in_ok-enlist.ensures.listed;
    }

pub returns-clause-listed : goal.returns-clause-listed
returns-clause-listed c =
    below_all c.args.graph.now (flag_at c.args.flags.now) c.loop-number.number c.loop-number.waiting c.loop-number.ready.keys (omega (arith, c.loop-number-test.false)) c.loop-number.invariant.below
