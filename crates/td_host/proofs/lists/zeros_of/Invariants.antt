use Rattle.std.proofs.Common.{◌≡◌, length, vec_capacity}
use Rattle.td_posts.specs.Posts.{zeros}
use Rattle.td_host.proofs.lists.zeros_of.Given as goal

-- a zero was put at each turn, and the memory stayed
abbrev pub invariant-loop : goal.invariant-loop
invariant-loop l = record {
  zeros : l.list.items ≡ zeros l.counter;
  count : length l.list.items ≡ l.counter;
  memory : vec_capacity l.list ≡ l.count;
}
